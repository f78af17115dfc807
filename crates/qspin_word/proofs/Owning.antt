-- A step made its pass the owner of the pending bit.
use Rattle.std.proofs.Common.{◌≡◌, ℕ, ◌+◌, ◌==◌, ◌<◌, List, sym, ap, ◌∙◌, subst, if◌then◌else◌}
use mathlib.Core.Option.{some}
use Rattle.std.proofs.lemmas.Bool.{lt-ltb}
use Rattle.lock_core.specs.Pasts.{FoundAt, GoesOn, IsOwnStep}
use Rattle.lock_core.specs.LockHands.{lock_hand_at, point_at, at-with}
use Rattle.lock_core.specs.Spins.{spun, pending_in}
use Rattle.qspin_word.specs.SpinWordHands.{went, saw_word, pended}
use Rattle.qspin_word.specs.Types.{View, LockHand, Undoing, Pending, Moment}
use Rattle.qspin_word.specs.Ways.{PendedAtStep, lock_hand_to}

module _ {E : Type 0} (l at : ℕ) where
  -- the first step did, by a fetch-or that found neither tail nor bit
  pub first-owns : (v m : View E) (old past new : List Moment) (n : ℕ) → n < 256 → m ≡ spun v (pended l n v) → IsOwnStep m past → FoundAt at n past → GoesOn old past → GoesOn past new
      → PendedAtStep l v.hand.task (v.steps + 1) at old new
  first-owns v m old past new n low is own found after goes = let counts = ap (λ (x : View E). x.steps) is in record {
    past = past;
    by = record {
      now = own.now;
      before = own.before;
      rest = own.rest;
      seat = own.seat;
      past_is = own.past_is;
      hand = m.hand;
      is = own.hand;
      named = ap (λ (x : View E). x.hand.task) is;
      steps = own.steps ∙ ap (λ (s : ℕ). some s) counts;
      had = own.had;
      had_steps = own.had_steps;
      counts = sym counts ∙ own.counts;
    };
    spin = m.spin;
    is = own.spin;
    owns = ap (λ (x : View E). point_at l x.spin) is
        ∙ (ap (λ b. point_at l (if b then went l v.spin Pending else if pending_in n == 0 then saw_word (went l v.spin Undoing) n (v.steps + 1) else saw_word v.spin n (v.steps + 1))) (lt-ltb n 256 low)
        ∙ ap (λ (b : LockHand). b.frame.point) (at-with l v.spin (lock_hand_to Pending (lock_hand_at l v.spin))));
    word = n;
    found = found;
    unset = low;
    after = after;
    goes_on = goes;
  }

  -- so did a later one, counted from a view that the pass had before
  pub owns-within : (v w : View E) (s t : ℕ) (older old new : List Moment) → w.hand.task ≡ v.hand.task → w.steps + s ≡ v.steps + t → GoesOn older old → PendedAtStep l w.hand.task (w.steps + s) at old new → PendedAtStep l v.hand.task (v.steps + t) at older new
  owns-within v w s t older old new named count before o = subst (λ (n : ℕ). PendedAtStep l v.hand.task n at older new) count (subst (λ task. PendedAtStep l task (w.steps + s) at older new) named
      record { past = o.past; by = o.by; spin = o.spin; is = o.is; owns = o.owns; word = o.word; found = o.found; unset = o.unset; after = λ p h. o.after p (before p h); goes_on = o.goes_on })
