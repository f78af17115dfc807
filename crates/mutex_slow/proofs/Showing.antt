-- What a failed try shows to callers of any lock.
use Rattle.std.proofs.Common.{◌≡◌, ℕ, ◌+◌, ◌*◌, ◌<◌, ◌≤◌, Bool, List, refl, ap, ◌∙◌, subst, arith}
use Rattle.word_bits.specs.declared.TheConstants.{MAX_TASKS}
use Rattle.lock_core.specs.Holding.{missed}
use Rattle.lock_core.specs.Pasts.{GoesOn, FoundAt, FoundAtStep, IsOwnStep}
use Rattle.lock_core.specs.Laws.SiteRun.{found-at-step}
use Rattle.lock_core.specs.Kinds.{mutex}
use Rattle.lock_core.specs.Shown.{shown}
use Rattle.lock_core.specs.Locking.{Misses}
use Rattle.mutex_word.specs.Holders.{turns}
use Rattle.mutex_word.specs.OwnerTries.{at_step}
use Rattle.mutex_slow.specs.Mutexes.{V, owner_at, turned}
use Rattle.mutex_slow.specs.MutexPlaces.{line_of}
use Rattle.mutex_slow.specs.Types.{Moment, No, Fail}

same-le : (m n : ℕ) → m ≡ n → n ≤ m
same-le m n e = omega arith

-- a try that failed at a word which names a task, and counts
pub failed-misses : (v u : V) (p q : List Moment) (n s : ℕ) → v.steps ≤ s → u ≡ turns turned Fail (at_step v s) (missed v.hand n (s + 1)) → v.hand.held ≡ No → IsOwnStep u q → FoundAt owner_at n q → GoesOn p q → 8 ≤ n → n < 8 * MAX_TASKS + 8
    → (reads : Bool) → Misses mutex reads owner_at n (shown line_of v.fronts v p) (shown line_of u.fronts u q)
failed-misses v u p q n s later now out own found goes names small reads = record {
  keeps = record {
    task = part (λ w. w.hand.task);
    done = part (λ w. w.hand.done);
    seen = part (λ w. w.hand.seen);
    records = part (λ w. w.hand.records);
    sent = part (λ w. w.hand.sent);
    last = part (λ w. w.hand.last);
    counts = record {
      steps = omega (arith, counted, later);
      misses = omega (arith, more);
      entries = same-le _ _ (part (λ w. w.spin.entries));
      fronts = same-le _ _ (part (λ w. w.fronts));
      appends = same-le _ _ (part (λ w. w.ext.appends));
    };
  };
  consumed = part (λ w. w.hand.consumed);
  out = part (λ w. w.hand.held) ∙ out;
  takes = part (λ w. w.hand.takes);
  sees = record {
    saw = record { word = n; step = s + 1 };
    is = part (λ w. w.hand.saw);
    word_is = refl;
    since = omega (arith, later);
    by_now = omega (arith, counted);
    found = subst (λ (z : ℕ). FoundAtStep v.hand.task z owner_at n p q) counted (found-at-step u v.hand.task owner_at n p q q (part (λ w. w.hand.task)) own found goes (λ p t. t));
    shut = (names, omega (arith, small));
  };
  once = more;
  freed = part (λ w. w.hand.freed);
  entries = part (λ w. w.spin.entries);
  fronts = part (λ w. w.fronts);
  line = part (λ w. line_of w.ext);
  swaps = refl;
  tally = refl;
}
  where
    part : {A : Type 0} (f : V → A) → f u ≡ f (turns turned Fail (at_step v s) (missed v.hand n (s + 1)))
    part f = ap f now

    counted : u.steps ≡ s + 1
    counted = part (λ w. w.steps)

    more : u.hand.misses ≡ v.hand.misses + 1
    more = part (λ w. w.hand.misses)
