-- Queues of nodes as lists of their numbers, the head first. The code of a node is its number plus 1.
use Rattle.std.specs.Prelude.{◌≡◌, ℕ, suc, ◌==◌, ◌⊎◌, List, [], ◌∷◌, if◌then◌else◌}

-- the node stands in it
abbrev pub Has : List ℕ → ℕ → Type 0
Has [] t = ⊥
Has (x ∷ q) t = (x ≡ t) ⊎ Has q t

-- it stands first
abbrev pub IsFirst : List ℕ → ℕ → Type 0
IsFirst [] t = ⊥
IsFirst (x ∷ q) t = x ≡ t

-- x stands directly before y
abbrev pub Precedes : List ℕ → ℕ → ℕ → Type 0
Precedes [] x y = ⊥
Precedes (a ∷ q) x y = ((a ≡ x) × IsFirst q y) ⊎ Precedes q x y

-- no node stands in it twice
abbrev pub IsOnce : List ℕ → Type 0
IsOnce [] = Unit {0}
IsOnce (x ∷ q) = (¬ Has q x) × IsOnce q

-- the code of the last node, and c where there is none
abbrev pub last_from : ℕ → List ℕ → ℕ
last_from c [] = c
last_from c (x ∷ q) = last_from (suc x) q

-- the queue that the node leaves: all others, in order
abbrev pub without : ℕ → List ℕ → List ℕ
without t [] = []
without t (x ∷ q) = if x == t then q else x ∷ without t q
