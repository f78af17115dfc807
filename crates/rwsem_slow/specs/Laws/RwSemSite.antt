-- A call of the site leaves what stands beside a semaphore's pass of it.
use Rattle.std.proofs.Common.{◌≡◌, ◌∙◌, refl, sym, ap, subst}
use Rattle.word_bits.specs.Objects.{Obj}
use Rattle.lock_core.specs.SiteHandles as inner
use Rattle.lock_core.specs.Views.{Beside, SpinRests}
use Rattle.lock_core.specs.Faces.{Follows, KeepsHold}
use Rattle.lock_core.specs.Sitting.{SitsIdle}
use Rattle.rwsem_slow.specs.declared.calls.RwSem.{RwSem}
use Rattle.rwsem_slow.specs.declared.calls.RwPass.{RwPass}
use Rattle.rwsem_slow.specs.declared.rule.SemRule.{SemRule}
use Rattle.rwsem_slow.specs.RwSemHandles.{plan_of, shown_of, SitsAt}
use Rattle.rwsem_slow.specs.Types.{Pass, RwSemHand}
use Rattle.rwsem_wake.specs.RwSemPlaces.{line_of}
use Rattle.rwsem_wake.specs.RwSemViews.{IsDone}

pub sem-frame : {O C Call : Type 0} (o : Obj Call) (s : RwSem O C) (p : RwPass O C) (w : Pass (SemRule O) O RwSemHand C) → SitsIdle o (plan_of s) (SitsAt s p) → inner.SitsAt s.site w
    → Beside (inner.view_of p.pass) (inner.view_of w) → KeepsHold p.pass w → SitsIdle o (plan_of s) (SitsAt s (record p { pass = w })) × Follows w (shown_of p) (shown_of (record p { pass = w }))
sem-frame o s p w idle on beside hold = let at = idle.own in (
  record {
    own = record {
      sits = on;
      unspun = subst SpinRests (sym beside.0) at.unspun;
      outside = record {
        apart = ap (λ e. e.sem) beside.2 ∙ at.outside.apart;
        still = ap (λ e. e.list.changes) beside.2 ∙ at.outside.still;
        done = subst (λ e. IsDone e.wake) (sym beside.2) at.outside.done;
      };
      counts = record {
        wakes = at.counts.wakes ∙ sym (ap (λ e. e.wake.wakes) beside.2);
        dozes = at.counts.dozes ∙ sym (ap (λ e. e.wake.dozes) beside.2);
      };
      queued = at.queued;
      off = at.off;
      same = at.same ∙ (at.sits.task ∙ (sym hold.0 ∙ sym on.task));
    };
    planned = idle.planned;
  },
  record {
    face = record { hand = refl; spin = refl; steps = refl; past = refl };
    fronts = refl;
    line = ap line_of beside.2;
    swaps = refl;
    tally = refl;
  },
)
