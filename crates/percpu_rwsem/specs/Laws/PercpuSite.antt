-- A call of the site that leaves a pass its number and its hold leaves its phase.
use Rattle.std.proofs.Common.{◌≡◌, ◌∙◌, length, refl, sym, ap, subst}
use Rattle.lock_core.specs.SiteHandles as inner
use Rattle.lock_core.specs.Views.{Beside}
use Rattle.lock_core.specs.Faces.{Follows, KeepsHold}
use Rattle.percpu_rwsem.specs.declared.pass.PercpuPass.{PercpuPass}
use Rattle.percpu_rwsem.specs.declared.rule.PercpuRule.{PercpuRule}
use Rattle.percpu_rwsem.specs.declared.site.PercpuRwSem.{PercpuRwSem}
use Rattle.percpu_rwsem.specs.PercpuHandles.{SitsAt, phase_by, plan_of, seen_in, shown_of, view_of}
use Rattle.percpu_rwsem.specs.Phases.{PartOk, phase_part}
use Rattle.percpu_rwsem.specs.Types.{Pass, Phase}

pub percpu-frame : {O C : Type 0} (s : PercpuRwSem O C) (p : PercpuPass O C) (w : Pass (PercpuRule O) O Phase C) → SitsAt s p → inner.SitsAt s.site w → Beside (view_of p) (inner.view_of w)
    → KeepsHold p.pass w → SitsAt s (record p { pass = w }) × Follows w (shown_of p) (shown_of (record p { pass = w }))
percpu-frame s p w at on beside hold = let part : phase_part (inner.view_of w) ≡ phase_part (view_of p) = λ i. record { task = hold.0 i; held = hold.1 i; phase = beside.2 i } in (
  record {
    seat = on;
    phased = record {
      phase = beside.2 ∙ (at.phased.phase ∙ ap (phase_by (seen_in p)) (sym hold.1));
      part = subst (PartOk (length (plan_of s))) (sym part) at.phased.part;
    };
  },
  record {
    face = record { hand = refl; spin = refl; steps = refl; past = refl };
    fronts = beside.1;
    line = refl;
    swaps = refl;
    tally = refl;
  },
)
