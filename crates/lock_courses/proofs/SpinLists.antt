-- The last of a queue.
use Rattle.std.proofs.Common.{◌≡◌, ℕ, List, [], ◌∷◌, ◌++◌, Some, refl}
use Rattle.lock_courses.specs.SpinCourses.{node_of, last_node}

pub last_more : (xs : List ℕ) (t : ℕ) → last_node (xs ++ t ∷ []) ≡ Some (node_of t)
last_more [] t = refl
last_more (x ∷ []) t = refl
last_more (x ∷ y ∷ ys) t = last_more (y ∷ ys) t
