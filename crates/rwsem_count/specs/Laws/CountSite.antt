-- A call of the site leaves what a pass says beside it.
use Rattle.std.proofs.Common.{◌≡◌, ◌∙◌, refl, sym, ap, subst}
use Rattle.lock_core.specs.SiteHandles as inner
use Rattle.lock_core.specs.Views.{Beside}
use Rattle.lock_core.specs.Faces.{Follows, KeepsHold}
use Rattle.rwsem_count.specs.declared.pass.CountPass.{CountPass}
use Rattle.rwsem_count.specs.declared.rule.CountRule.{CountRule}
use Rattle.rwsem_count.specs.declared.site.CountSite.{CountSite}
use Rattle.rwsem_count.specs.CountHandles.{SitsAt, shown_of}
use Rattle.rwsem_count.specs.CountRuled.{V, IsLight, bias_kind}
use Rattle.rwsem_count.specs.Types.{Pass, Bias}

light-same : (v u : V) → u.hand.task ≡ v.hand.task → u.hand.held ≡ v.hand.held → u.ext ≡ v.ext → IsLight v → IsLight u
light-same v u t h e is = subst (λ b. IsLight (record u { ext = b })) (sym e)
    (subst (λ x. IsLight (record u { hand = record u.hand { held = x }; ext = v.ext })) (sym h)
    (subst (λ x. IsLight (record u { hand = record u.hand { held = v.hand.held; task = x }; ext = v.ext })) (sym t) is))

pub count-frame : {O C : Type 0} (s : CountSite O C) (p : CountPass O C) (w : Pass (CountRule O) O Bias C) → SitsAt s p → inner.SitsAt s.site w → Beside (inner.view_of p.pass) (inner.view_of w)
    → KeepsHold p.pass w → SitsAt s (record p { pass = w }) × Follows w (shown_of p) (shown_of (record p { pass = w }))
count-frame s p w at on beside hold = (
  record {
    seat = on;
    noted = ap bias_kind beside.2 ∙ at.noted;
    light = light-same (inner.view_of p.pass) (inner.view_of w) hold.0 hold.1 beside.2 at.light;
  },
  record {
    face = record { hand = refl; spin = refl; steps = refl; past = refl };
    fronts = beside.1;
    line = refl;
    swaps = refl;
    tally = refl;
  },
)
