-- A call of the site leaves what stands beside a mutex's pass of it.
use Rattle.std.proofs.Common.{◌≡◌, ◌∙◌, refl, sym, ap, subst}
use Rattle.word_bits.specs.Objects.{Obj}
use Rattle.lock_core.specs.SiteHandles as inner
use Rattle.lock_core.specs.Views.{Beside, SpinRests}
use Rattle.lock_core.specs.Faces.{Follows, KeepsHold}
use Rattle.lock_core.specs.Sitting.{SitsIdle}
use Rattle.mutex_slow.specs.declared.calls.Mutex.{Mutex}
use Rattle.mutex_slow.specs.declared.calls.MutexPass.{MutexPass}
use Rattle.mutex_slow.specs.declared.rule.MutexRule.{MutexRule}
use Rattle.mutex_slow.specs.MutexHandles.{plan_of, shown_of, SitsAt}
use Rattle.mutex_slow.specs.Mutexes.{V, OwesNoWake}
use Rattle.mutex_slow.specs.MutexPlaces.{line_of}
use Rattle.mutex_slow.specs.Types.{Pass, MutexHand}

-- the wakes that a pass owes are told by the word that its last hold left, and by its duty
clear-same : (v u : V) → u.ext ≡ v.ext → u.hand.freed ≡ v.hand.freed → OwesNoWake v → OwesNoWake u
clear-same v u e f clear = subst (λ x. OwesNoWake (record u { ext = x })) (sym e) (subst (λ x. OwesNoWake (record v { hand = record v.hand { freed = x } })) (sym f) clear)

pub mutex-frame : {O C Call : Type 0} (o : Obj Call) (m : Mutex O C) (p : MutexPass O C) (w : Pass (MutexRule O) O MutexHand C) → SitsIdle o (plan_of m) (SitsAt m p) → inner.SitsAt m.site w
    → Beside (inner.view_of p.pass) (inner.view_of w) → KeepsHold p.pass w → SitsIdle o (plan_of m) (SitsAt m (record p { pass = w })) × Follows w (shown_of p) (shown_of (record p { pass = w }))
mutex-frame o m p w idle on beside hold = let at = idle.own in (
  record {
    own = record {
      sits = on;
      unspun = subst SpinRests (sym beside.0) at.unspun;
      outside = record {
        out = ap (λ e. e.queued) beside.2 ∙ at.outside.out;
        rests = ap (λ e. e.point) beside.2 ∙ at.outside.rests;
        still = ap (λ e. e.list.changes) beside.2 ∙ at.outside.still;
        gone = ap (λ e. e.list.leaver) beside.2 ∙ at.outside.gone;
        unseen = ap (λ e. e.first) beside.2 ∙ at.outside.unseen;
      };
      clear = clear-same (inner.view_of p.pass) (inner.view_of w) beside.2 hold.2 at.clear;
      woke = at.woke ∙ sym (ap (λ e. e.wake.wakes) beside.2);
      dozed = at.dozed ∙ sym (ap (λ e. e.wake.dozes) beside.2);
      queued = at.queued;
      off = at.off;
      same = at.same ∙ (at.sits.task ∙ (sym hold.0 ∙ sym on.task));
    };
    planned = idle.planned;
  },
  record {
    face = record { hand = refl; spin = refl; steps = refl; past = refl };
    fronts = refl;
    line = ap line_of beside.2;
    swaps = refl;
    tally = refl;
  },
)
