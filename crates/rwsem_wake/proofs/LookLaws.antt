-- A batch whose sum is 0 is counted by the load that sees it: no step on the count follows.
use Rattle.std.proofs.Common.{◌≡◌, ℕ, zero, suc, ◌+◌, ◌*◌, ◌/◌, ◌%◌, Bool, List, [], ◌∷◌, length, set, Some, refl, ap, subst, arith}
use mathlib.Core.Option.{some}
use lib.ListN.{get_elem?}
use Rattle.lock_core.specs.Records.{bit}
use Rattle.lock_core.specs.Totals.{total, total-set}
use Rattle.rwsem_wake.specs.SemParts.{SemPart, busy_weight, busy_of, shared_of, early_of, late_of, IsWhole, some_of}
use Rattle.rwsem_wake.specs.GrantSemaphores.{SemKept}
use Rattle.rwsem_wake.specs.Types.{Waiter, Clear, Summing, Counted, Granting}
use Rattle.rwsem_wake.proofs.Sums.{set-mine}
use Rattle.rwsem_wake.proofs.WakeLaws.{staged, biased, sem-sums}
use Rattle.rwsem_wake.proofs.HandoffLaws.{sem-looks}

twice : (vs : List SemPart) (id : ℕ) (v w : SemPart) → set (set vs id v) id w ≡ set vs id w
twice [] id v w = refl
twice (x ∷ vs) zero v w = refl
twice (x ∷ vs) (suc id) v w = ap (λ (z : List SemPart). x ∷ z) (twice vs id v w)

pub sem-sums-none : (vs : List SemPart) (id : ℕ) (v : SemPart) → get_elem? vs id ≡ some v → (n own : ℕ) (q : List Waiter) (marks grants : List ℕ) (b : Bool) → SemKept n q marks grants vs → v.task ≡ Some own → total busy_of vs ≡ busy_of v → bit b ≡ n / 4 % 2 → v.sem.stage ≡ Summing → IsWhole v.sem.rest q → shared_of v + early_of v ≡ 1 → late_of v ≡ 0
    → 256 * early_of v + (4 * bit b + 2) ≡ 256 * length v.sem.rest + 2 * some_of q → SemKept n q marks grants (set vs id (biased v Clear Granting))
sem-sums-none vs id v at n own q marks grants b r has only seen stage whole keeps tight sum = let w : SemPart = staged v (Counted b) in let us : List SemPart = set vs id w in let there = sem-looks vs id v at n q marks grants r own has only b seen stage whole in let B = total-set busy_of vs id v w at in let b0 : busy_of v ≡ 1 = ap busy_weight stage in
    subst (SemKept n q marks grants) (twice vs id w (biased v Clear Granting)) (sem-sums us id w (set-mine vs id v w at) n n own q marks grants b there (omega arith) has refl keeps tight (omega arith))
