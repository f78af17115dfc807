-- What a task finds in words that a lock keeps: what the last task that held them alone left there.
use Rattle.std.specs.Prelude.{◌≡◌, ◌≢◌, ℕ, List, [], ◌∷◌, Option, Some, None}
use mathlib.Core.Option.{some}
use lib.ListN.{get_elem?}
use Rattle.lock_core.specs.ViewParts.{Each}
use Rattle.kept_words.specs.Keeping.{Hold, hold_of}
use Rattle.kept_words.specs.Types.{Hand, Held, No, Shared, Alone, Moment}

-- the words that a pass knows, if it holds so, and else the rest
abbrev pub if_alone : Held → List ℕ → Option (List ℕ) → Option (List ℕ)
if_alone No words rest = rest
if_alone Shared words rest = rest
if_alone Alone words rest = Some words

-- the words as the task knows them that holds them alone, if one does
abbrev pub held_alone : List Hand → Option (List ℕ)
held_alone [] = None
held_alone (h ∷ hs) = if_alone h.held h.known (held_alone hs)

abbrev pub or_else : Option (List ℕ) → Option (List ℕ) → Option (List ℕ)
or_else None rest = rest
or_else (Some words) rest = Some words

-- the words as the last task that held them alone knew them, at the last of these moments at which one did
abbrev pub last_left : List Moment → Option (List ℕ)
last_left [] = None
last_left (m ∷ past) = or_else (held_alone m.hands) (last_left past)

-- nobody held them alone at the last of these moments
abbrev pub IsNobodyAlone : List Moment → Type 0
IsNobodyAlone [] = Unit {0}
IsNobodyAlone (m ∷ past) = held_alone m.hands ≡ None

-- Whoever holds the words at this moment, before which nobody held them alone, finds them as they were left.
abbrev pub FindsLeft : List Moment → Moment → Type 0
FindsLeft past m = IsNobodyAlone past → (left : List ℕ) → last_left past ≡ Some left → Each (λ h. h.held ≢ No → h.known ≡ left) m.hands

-- so it was at each of these moments, given those before it
abbrev pub FoundAsLeft : List Moment → Type 0
FoundAsLeft [] = Unit {0}
FoundAsLeft (m ∷ past) = FindsLeft past m × FoundAsLeft past

-- beside a pass that holds alone no other holds
abbrev pub HeldApart : Moment → Type 0
HeldApart m = (i j : ℕ) (g h : Hand) → get_elem? m.hands i ≡ some g → get_elem? m.hands j ≡ some h → i ≢ j → g.held ≡ Alone → h.held ≡ No

-- at the last of these moments a pass holds so
abbrev pub IsHeldAtLast : Hold → List Moment → Type 0
IsHeldAtLast hold [] = ⊥
IsHeldAtLast hold (m ∷ past) = (i : ℕ) × (h : Hand) × (get_elem? m.hands i ≡ some h) × (hold_of h ≡ hold)
