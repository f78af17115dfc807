-- A call of the site leaves a pass one of the owner site's: it has a pass of the site alone.
use Rattle.std.specs.Prelude.{refl}
use Rattle.lock_core.specs.SiteHandles as inner
use Rattle.lock_core.specs.Views.{Beside}
use Rattle.lock_core.specs.Faces.{Follows, KeepsHold}
use Rattle.mutex_word.specs.declared.rule.OwnerRule.{OwnerRule}
use Rattle.mutex_word.specs.declared.site.OwnerPass.{OwnerPass}
use Rattle.mutex_word.specs.declared.site.OwnerSite.{OwnerSite}
use Rattle.mutex_word.specs.OwnerHandles.{SitsAt, shown_of}
use Rattle.mutex_word.specs.Types.{Pass}

pub owner-frame : {O C : Type 0} (s : OwnerSite O C) (p : OwnerPass O C) (w : Pass (OwnerRule O) O (Unit {0}) C) → SitsAt s p → inner.SitsAt s.site w → Beside (inner.view_of p.pass) (inner.view_of w)
    → KeepsHold p.pass w → SitsAt s (record p { pass = w }) × Follows w (shown_of p) (shown_of (record p { pass = w }))
owner-frame s p w at on beside hold = (
  on,
  record {
    face = record { hand = refl; spin = refl; steps = refl; past = refl };
    fronts = beside.1;
    line = refl;
    swaps = refl;
    tally = refl;
  },
)
