-- What a waiter may learn of the first waiter's mark, and how it goes on from there.
use Rattle.std.proofs.Common.{◌≡◌, ℕ, ◌+◌, ◌/◌, ◌%◌, ◌<◌, ◌≤◌, ◌⊎◌, inl, inr, List, [], ◌∷◌, length, get_or, set, Some, sym, refl, ap, ◌∙◌, subst, arith}
use mathlib.Core.Option.{some}
use lib.ListN.{get_elem?}
use Rattle.lock_core.specs.Totals.{total}
use Rattle.lock_core.proofs.RowLaws.{same-some}
use Rattle.rwsem_count.specs.Counts.{early_weight, late_weight}
use Rattle.rwsem_wake.specs.SemParts.{SemPart, busy_of, busy_weight, early_of, late_of, reserve_of, reserve_weight, granting_of, granting_weight, some_of, marks_sum, first_mark, own_mark, tasks}
use Rattle.rwsem_wake.specs.GrantSemaphores.{FlagsAt, Quiet, SemKept, batch_weight, load_of, more_of}
use Rattle.rwsem_wake.specs.Types.{Waiter, Bias, Clear, Stage, Rest, Armed, Removed, Summing}
use Rattle.rwsem_wake.proofs.Places.{first-least, mark-set, some-length}
use Rattle.rwsem_wake.proofs.Sums.{busy-most}
use Rattle.rwsem_wake.proofs.WakeLaws.{staged, held-most, ok-of, reserve-most, single-of, slim-of}
use Rattle.rwsem_wake.proofs.QueueLaws.{mine-at, same-count, sem-stages}

-- the flags of a list in which nobody is marked
pub quiet-none : (w h : ℕ) (q : List Waiter) (marks : List ℕ) → w ≡ some_of q → h ≤ w → marks_sum marks ≡ 0 → Quiet w h q marks
quiet-none w h q marks e l z = let f = first-least marks (tasks q) in record { waiters = e; handoff = l; first = omega (arith, f, z); marked = omega (arith, z) }

-- who has no bias, and is no reader twice, adds little
pub light-of : (v : SemPart) (own : ℕ) → v.task ≡ Some own → v.sem.bias ≡ Clear → (n : ℕ) (q : List Waiter) (marks grants : List ℕ) (vs : List SemPart) (id : ℕ) → SemKept n q marks grants vs → get_elem? vs id ≡ some v → load_of v + reserve_of v ≤ 1
light-of v own has clear n q marks grants vs id r at = let s = single-of v own has (r.each id v at) in let h = (held-most v.held).1 in let f : early_of v + late_of v + reserve_of v ≡ 0 = ap (λ (z : Bias). early_weight z + late_weight z + reserve_weight z) clear in omega (arith, f, s, h)

module _ (vs : List SemPart) (id : ℕ) (v : SemPart) (at : get_elem? vs id ≡ some v) (n : ℕ) (q : List Waiter) (marks grants : List ℕ) (r : SemKept n q marks grants vs) (own : ℕ) (has : v.task ≡ Some own) (only : total busy_of vs ≡ busy_of v) where
  abbrev W : ℕ
  W = n / 2 % 2

  abbrev H : ℕ
  H = n / 4 % 2

  pub quiet-of : (v.sem.stage ≡ Rest) ⊎ (v.sem.stage ≡ Armed) → Quiet W H q marks
  quiet-of stage = elim stage [ inl is ↦ mine-at vs id v at n q marks grants r own has Rest only is | inr is ↦ (mine-at vs id v at n q marks grants r own has Armed only is).0 ]

  not-granting : (v.sem.stage ≡ Rest) ⊎ (v.sem.stage ≡ Armed) → 0 ≡ granting_of v
  not-granting stage = elim stage [ inl is ↦ sym (ap (λ (z : Stage). granting_weight z (length v.sem.rest)) is) | inr is ↦ sym (ap (λ (z : Stage). granting_weight z (length v.sem.rest)) is) ]

  -- a stage and marks alone change
  turns : (s : Stage) (marks' : List ℕ) → granting_weight s (length v.sem.rest) ≡ granting_of v → FlagsAt s v.task v.sem.rest W H q marks' grants → (batch_weight s ≡ 0 → v.sem.rest ≡ []) → load_of v ≤ 1 + busy_weight s → reserve_of v ≤ busy_weight s → SemKept n q marks' grants (set vs id (staged v s))
  turns s marks' g flags ok slim reserved = sem-stages vs id v at n q marks grants r own has (staged v s) n marks' only refl refl refl g flags (same-count vs id v at n q marks grants r own has (staged v s) (more_of grants vs) refl refl refl) (ok-of (staged v s) own has ok slim reserved (single-of v own has (r.each id v at)) (r.each id v at).apart)

  loaded : load_of v ≤ 1 + busy_of v
  loaded = slim-of v own has (r.each id v at)

  -- nobody is marked: the first's mark is 0, or is cleared
  pub sem-first-clear : (x : Waiter) (xs : List Waiter) → (v.sem.stage ≡ Rest) ⊎ (v.sem.stage ≡ Armed) → q ≡ x ∷ xs → get_or marks x.task 0 ≡ 0 → SemKept n q marks grants (set vs id (staged v Summing))
  sem-first-clear x xs stage is none = let f = quiet-of stage in let s = (some-length q).0 (let l = ap length is in omega (arith, l)) in let a = f.waiters in let b = f.first in let e : first_mark marks (tasks q) ≡ get_or marks x.task 0 = ap (λ (z : List Waiter). first_mark marks (tasks z)) is in
      turns Summing marks (not-granting stage) (a ∙ s, b ∙ (e ∙ none)) (λ z. absurd (omega (arith, z))) (let b = busy-most v.sem.stage in let l = loaded in omega (arith, b, l)) (reserve-most v.sem.bias).0

  pub sem-clears-first : (x : Waiter) (xs : List Waiter) → (v.sem.stage ≡ Rest) ⊎ (v.sem.stage ≡ Armed) → q ≡ x ∷ xs → x.task < length marks → SemKept n q (set marks x.task 0) grants (set vs id (staged v Summing))
  sem-clears-first x xs stage is inside = let f = quiet-of stage in let s = (some-length q).0 (let l = ap length is in omega (arith, l)) in let a = f.waiters in let b = f.first in let e : first_mark marks (tasks q) ≡ get_or marks x.task 0 = ap (λ (z : List Waiter). first_mark marks (tasks z)) is in let m = mark-set marks x.task 0 inside in
      turns Summing (set marks x.task 0) (not-granting stage) (a ∙ s, omega (arith, m, b, e)) (λ z. absurd (omega (arith, z))) (let b = busy-most v.sem.stage in let l = loaded in omega (arith, b, l)) (reserve-most v.sem.bias).0

  -- the waiter goes on as if it hadn't looked
  pub sem-rests : v.sem.stage ≡ Summing → v.sem.bias ≡ Clear → v.sem.rest ≡ [] → 1 ≤ length q → SemKept n q marks grants (set vs id (staged v Rest))
  sem-rests stage clear none there = let f = mine-at vs id v at n q marks grants r own has Summing only stage in let s = (some-length q).0 there in let l = light-of v own has clear n q marks grants vs id r at in let a = f.0 in let m = (reserve-most v.sem.bias).1 in let c : early_of v + late_of v ≡ 0 = ap (λ (z : Bias). early_weight z + late_weight z) clear in
      turns Rest marks (sym (ap (λ (z : Stage). granting_weight z (length v.sem.rest)) stage)) (quiet-none W H q marks (a ∙ sym s) (omega (arith, a)) f.1) (λ _. none) (omega (arith, l)) (omega (arith, m, c))

  -- who took finds its own mark clear, after it left
  pub sem-own-clear : v.sem.stage ≡ Removed → v.sem.bias ≡ Clear → get_or marks own 0 ≡ 0 → SemKept n q marks grants (set vs id (staged v Rest))
  sem-own-clear stage clear none = let f = mine-at vs id v at n q marks grants r own has Removed only stage in let a = f.0 in let l = light-of v own has clear n q marks grants vs id r at in let m = (reserve-most v.sem.bias).1 in let c : early_of v + late_of v ≡ 0 = ap (λ (z : Bias). early_weight z + late_weight z) clear in
      turns Rest marks (sym (ap (λ (z : Stage). granting_weight z (length v.sem.rest)) stage)) (quiet-none W H q marks f.1 (omega (arith, a)) (f.2 ∙ (ap (own_mark marks) has ∙ none))) (λ _. (r.each id v at).rest (ap batch_weight stage)) (omega (arith, l)) (omega (arith, m, c))

  -- a queued reader that isn't granted stays so while it has the wait lock
  pub sem-arms-again : v.sem.stage ≡ Rest → v.sem.bias ≡ Clear → 1 ≤ get_or grants own 0 → SemKept n q marks grants (set vs id (staged v Armed))
  sem-arms-again stage clear waits = let f = mine-at vs id v at n q marks grants r own has Rest only stage in let l = light-of v own has clear n q marks grants vs id r at in
      turns Armed marks (not-granting (inl stage)) (f, λ t is. subst (λ (z : ℕ). 1 ≤ get_or grants z 0) (same-some own t (sym has ∙ is)) waits) (λ _. (r.each id v at).rest (ap batch_weight stage)) (omega (arith, l)) (reserve-most v.sem.bias).0
