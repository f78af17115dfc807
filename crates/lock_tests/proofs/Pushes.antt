-- If each element of a list is so, and one more that is so is pushed, each is so still.
use Rattle.std.proofs.Common.{◌≡◌, ◌++◌, ◌∷◌, [], All, List, subst, sym}
use Rattle.std.proofs.lemmas.List.Elements.{All-push}

pub one-more : {X : Type 0} (P : X → Type 0) (xs ys : List X) (x : X) → ys ≡ xs ++ x ∷ [] → All P xs → P x → All P ys
one-more P xs ys x same all is = subst (All P) (sym same) (All-push P xs x all is)
