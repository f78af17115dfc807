-- Who is first in a list to which a holder of the wait lock has appended itself.
use Rattle.std.proofs.Common.{◌≡◌, ◌≢◌, ◌∙◌, ◌==◌, List, [], ◌∷◌, ◌++◌, length, Some, sym, refl, ap, arith, eq-eqb}
use Rattle.lock_core.specs.Records.{bit}
use Rattle.lock_core.specs.SpinFrames.{holds_at}
use Rattle.lock_core.specs.Spins.{holds_in}
use Rattle.lock_core.specs.Views.{SpinHolds}
use Rattle.wait_list.specs.Lists.{counted, first_of}
use Rattle.wait_list.specs.Types.{View, Waiter}

pub holds-one : {E : Type 0} (v : View E) → SpinHolds v.spin → holds_in v.spin ≡ 1
holds-one v h = ap holds_at h

-- it stands alone there, or behind others
pub alone-first : (was : List Waiter) (w x : Waiter) → counted w.task was ≡ 0 → Some x ≡ first_of (was ++ w ∷ []) → x.task ≡ w.task → length (was ++ w ∷ []) ≡ 1
alone-first [] w x fresh is same = refl
alone-first (y ∷ ys) w x fresh is same = let head : x.task ≡ y.task = task-of is in let b : bit (y.task == w.task) ≡ 1 = ap bit (eq-eqb y.task w.task (sym head ∙ same)) in absurd (omega (arith, fresh, b))
  where
    task-of : Some x ≡ Some y → x.task ≡ y.task
    task-of e = cc

pub others-first : (was : List Waiter) (w x : Waiter) → Some x ≡ first_of (was ++ w ∷ []) → x.task ≢ w.task → length (was ++ w ∷ []) ≢ 1
others-first [] w x is other = λ _. other (task-of is)
  where
    task-of : Some x ≡ Some w → x.task ≡ w.task
    task-of e = cc
others-first (y ∷ ys) w x is other = λ one. longer ys one
  where
    longer : (ys : List Waiter) → length ((y ∷ ys) ++ w ∷ []) ≡ 1 → ⊥
    longer [] one = omega (arith, one)
    longer (z ∷ zs) one = omega (arith, one)
