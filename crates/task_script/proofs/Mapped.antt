-- What stands at a place of a list, and of one that is mapped from it.
use Rattle.std.proofs.Common.{◌≡◌, ℕ, ◌<◌, zero, suc, List, [], ◌∷◌, length, map, refl, sym, ap, ◌∙◌, Some, arith}
use Rattle.std.specs.Prelude.{slice_get}
use Rattle.std.specs.List.{AllByRecursion}
use Rattle.std.proofs.lemmas.Option.{same_Some, none-some}

-- of mapped elements, the one at a place
pub mapped_at : {X Y : Type 0} (P : X → Type 0) (f : X → Y) (xs : List X) (ys : List Y) (i : ℕ) (y : Y) → AllByRecursion P xs → ys ≡ map f xs → slice_get ys i ≡ Some y → (x : X) × (slice_get xs i ≡ Some x) × P x × (f x ≡ y)
mapped_at P f [] ys i y each is at = absurd (none-some y (ap (λ l. slice_get l i) (sym is) ∙ at))
mapped_at P f (x ∷ xs) ys zero y each is at = (x, refl, each.0, same_Some (f x) y (ap (λ l. slice_get l 0) (sym is) ∙ at))
mapped_at P f (x ∷ xs) ys (suc i) y each is at = mapped_at P f xs (map f xs) i y each.1 refl (ap (λ l. slice_get l (suc i)) (sym is) ∙ at)

-- at each place below the length something stands
pub at_place : {X : Type 0} (xs : List X) (i : ℕ) → i < length xs → (x : X) × (slice_get xs i ≡ Some x)
at_place [] i within = absurd (omega arith)
at_place (x ∷ xs) zero within = (x, refl)
at_place (x ∷ xs) (suc i) within = at_place xs i (omega arith)

-- what was mapped at a place is what stands there, mapped
pub mapped_same : {X Y : Type 0} (f : X → Y) (xs : List X) (i : ℕ) (x : X) (y : Y) → slice_get xs i ≡ Some x → slice_get (map f xs) i ≡ Some y → y ≡ f x
mapped_same f [] i x y at is = cc
mapped_same f (z ∷ xs) zero x y at is = sym (same_Some (f z) y is) ∙ ap f (same_Some z x at)
mapped_same f (z ∷ xs) (suc i) x y at is = mapped_same f xs i x y at is
