-- A step found a rival in the word.
use Rattle.std.proofs.Common.{◌≡◌, ℕ, ◌+◌, ◌≤◌, ◌⊎◌, List, Some, Option, sym, subst, arith}
use Rattle.qspin_word.specs.Types.{View, Saw, Moment, Out, Undoing}
use Rattle.lock_core.specs.LockHands.{point_at}
use Rattle.lock_core.specs.Pasts.{FoundAt, GoesOn, IsOwnStep}
use Rattle.lock_core.specs.Laws.SiteRun.{step-by}
use Rattle.qspin_word.specs.Ways.{RivalSince, SawAtStep}

module _ (l : ℕ) (task : Option ℕ) (saw : Saw) (at : ℕ) (old past new : List Moment) where
  -- the run goes on
  pub saw-then : SawAtStep l task saw at old past → GoesOn past new → SawAtStep l task saw at old new
  saw-then r goes = let f = r.found in record {
    found = record { past = f.past; by = f.by; found = f.found; after = f.after; goes_on = λ x h. goes x (f.goes_on x h) };
    spin = r.spin;
    is = r.is;
    kept = r.kept;
    out = r.out;
  }

  -- the call began before
  pub saw-since : GoesOn old past → SawAtStep l task saw at past new → SawAtStep l task saw at old new
  saw-since began r = let f = r.found in record {
    found = record { past = f.past; by = f.by; found = f.found; after = λ x h. f.after x (began x h); goes_on = f.goes_on };
    spin = r.spin;
    is = r.is;
    kept = r.kept;
    out = r.out;
  }

module _ {E : Type 0} (l at : ℕ) where
  -- what the last step found, and left with the pass as seen
  pub saw-at-step : (m : View E) (task : Option ℕ) (saw : Saw) (old past new : List Moment) → m.hand.task ≡ task → m.steps ≡ saw.step → IsOwnStep m past → FoundAt at saw.word past → GoesOn old past → GoesOn past new
      → m.spin.saw ≡ Some saw → (point_at l m.spin ≡ Out) ⊎ (point_at l m.spin ≡ Undoing) → SawAtStep l task saw at old new
  saw-at-step m task saw old past new named counts own found after goes kept out = subst (λ (s : ℕ). SawAtStep l task (record { word = saw.word; step = s }) at old new) counts record {
    found = record { past = past; by = step-by m task past named own; found = found; after = after; goes_on = goes };
    spin = m.spin;
    is = own.spin;
    kept = subst (λ (s : ℕ). m.spin.saw ≡ Some (record { word = saw.word; step = s })) (sym counts) kept;
    out = out;
  }

  -- the first step found it, and the pass has kept it
  pub first-rival : (v m u : View E) (old past new : List Moment) (n : ℕ) → 256 ≤ n → m.hand.task ≡ v.hand.task → m.steps ≡ v.steps + 1 → IsOwnStep m past → FoundAt at n past → GoesOn old past → GoesOn past new
      → m.spin.saw ≡ Some (record { word = n; step = v.steps + 1 }) → (point_at l m.spin ≡ Out) ⊎ (point_at l m.spin ≡ Undoing) → u.spin.saw ≡ Some (record { word = n; step = v.steps + 1 }) → m.steps ≤ u.steps → RivalSince l (Unit {0}) at v old u new
  first-rival v m u old past new n high named counts own found after goes kept out saw later = let x : Saw = record { word = n; step = v.steps + 1 } in record {
    saw = x;
    rival = high;
    since = omega arith;
    by_now = omega (arith, counts, later);
    found = saw-at-step m v.hand.task x old past new named counts own found after goes kept out;
    still = λ _. saw;
  }
