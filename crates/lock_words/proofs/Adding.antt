-- Pieces that are added one behind another.
use Rattle.std.proofs.Common.{◌≡◌, ℕ, List, ◌++◌, ap, ◌∙◌, append_assoc}

pub three : (old a b c n m k : List ℕ) → n ≡ old ++ a → m ≡ n ++ b → k ≡ m ++ c → k ≡ old ++ (a ++ b ++ c)
three old a b c n m k p q r =
    r ∙ ap (λ z. z ++ c) q ∙ ap (λ z. (z ++ b) ++ c) p ∙ ap (λ z. z ++ c) (append_assoc old a b) ∙ append_assoc old (a ++ b) c
