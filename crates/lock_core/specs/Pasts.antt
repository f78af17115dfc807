-- The whole run of a table: it has come to be from a new table, each moment from the one before by a move.
use Rattle.std.specs.Prelude.{◌≡◌, ℕ, ◌+◌, ◌<◌, ◌≤◌, List, [], ◌∷◌, Option, Some, map, drop, slice_get, slice_index, slice_set}
use mathlib.Core.Option.{some}
use lib.ListN.{get_elem?}
use Rattle.atomic_table.specs.Table.{Me}
use Rattle.word_bits.specs.Histories.{Plan}
use Rattle.lock_core.specs.Layout.{fresh}
use Rattle.lock_core.specs.Types.{View, Hand, Marks, Moment, Past, Seen, Op, Load, Store, Swap, Add, Sub, Or, And, Exchange}
use Rattle.lock_core.specs.Views.{hand_of, spin_of, first}
use Rattle.lock_core.specs.ViewParts.{Each}

abbrev pub Tail : {A : Type 0} → List A → List A → Type 0
Tail p h = (n : ℕ) × (drop n h ≡ p)

-- the run whose moments these are began with this one
abbrev pub BeganWith : {A : Type 0} → A → List A → Type 0
BeganWith new past = Tail (new ∷ []) past

-- the new past goes back to the old one, and so to all that the old one goes back to
abbrev pub GoesOn : {A : Type 0} → List A → List A → Type 0
GoesOn {A} old new = (p : List A) → Tail p old → Tail p new

-- the new past goes back to all that these do
abbrev pub KeepsJoined : List Past → List Moment → Type 0
KeepsJoined joined new = (i : ℕ) (p : Past) → slice_get joined i ≡ Some p → GoesOn p.moments new

-- a table at one moment
pub record Instant (E : Type 0) : Type 0 where
  pub words : List ℕ
  pub views : List (View E)

-- each stands in the relation to the one before; the last one stands first
abbrev pub After : {X : Type 0} → (X → X → Type 0) → X → List X → Type 0
After P y [] = Unit {0}
After P y (x ∷ h) = P x y

abbrev pub Paced : {X : Type 0} → (X → X → Type 0) → List X → Type 0
Paced P [] = Unit {0}
Paced P (y ∷ h) = After P y h × Paced P h

module _ {E : Type 0} where
  abbrev pub view_of : Seen E → View E
  view_of v = v.view

  abbrev pub steps_of : View E → ℕ
  steps_of v = v.steps

  abbrev pub fronts_of : View E → ℕ
  fronts_of v = v.fronts

  -- the seat, without what its pass saw of the run
  abbrev pub unseen : Me (Unit {0}) (Seen E) → Me (Unit {0}) (View E)
  unseen m = (m.0.view, m.1)

  abbrev pub instant : List ℕ → List (View E) → Instant E
  instant ws vs = record { words = ws; views = vs }

module _ {E : Type 0} (marks : E → List ℕ) where
  abbrev pub marks_of : View E → Marks
  marks_of v = record { numbers = marks v.ext }

  -- what a pass keeps of a moment: all that has no type of the rule's own
  abbrev pub moment : Instant E → Moment
  moment x = record { words = x.words; hands = map hand_of x.views; spins = map spin_of x.views; steps = map steps_of x.views; fronts = map fronts_of x.views; marks = map marks_of x.views }

  -- a new table
  abbrev pub opening : Plan → E → Moment
  opening k idle = moment (instant (fresh k) (first k idle ∷ []))

  -- the moments are those of a run that began with this one, and each of its instants stands in the relation to the one before
  abbrev pub Ran : Moment → (Instant E → Instant E → Type 0) → List Moment → Type 0
  Ran new P past = (run : List (Instant E)) × (past ≡ map moment run) × BeganWith new past × Paced P run

-- at most one of the words is another than it was
abbrev pub ChangesOneWord : List ℕ → List ℕ → Type 0
ChangesOneWord ws us = (at n : ℕ) × (us ≡ slice_set ws at n)

module _ {E : Type 0} (holds : List ℕ → List (View E) → Type 0) (moves : ℕ → List ℕ → List (View E) → List ℕ → List (View E) → Type 0) where
  -- a step of some seat led from the one to the other, was a move, and changed no word but one
  abbrev pub Moves : Instant E → Instant E → Type 0
  Moves x y = (id : ℕ) × holds x.words x.views × holds y.words y.views × moves id x.words x.views y.words y.views × ChangesOneWord x.words y.words

-- these are the moments of a run from the new table on, at each of which the rule held, and each of whose steps was one of the rule's moves
abbrev pub RanByRule : {E : Type 0} → (E → List ℕ) → E → (Plan → List ℕ → List (View E) → Type 0) → (Plan → ℕ → List ℕ → List (View E) → List ℕ → List (View E) → Type 0) → Plan → List Moment → Type 0
RanByRule marks idle holds moves k past = Ran marks (opening marks k idle) (Moves (holds k) (moves k)) past

-- what the pass has seen is how this run began, and so is what the passes had seen that it took in since
pub record HasSeen {E : Type 0} (run : List Moment) (v : Seen E) : Type 0 where
  pub own : Tail v.past run
  pub joined : (i : ℕ) (p : Past) → slice_get v.joined i ≡ Some p → Tail p.moments run

-- the table has come to be by moves from a new one, and what each pass has seen is how its run began
abbrev pub Lived : {E : Type 0} → (E → List ℕ) → Moment → (List ℕ → List (View E) → Type 0) → (ℕ → List ℕ → List (View E) → List ℕ → List (View E) → Type 0) → List ℕ → List (Seen E) → Type 0
Lived {E} marks new holds moves ws vs = let now : Instant E = instant ws (map view_of vs) in
    (h : List (Instant E)) × holds ws (map view_of vs) × Paced (Moves holds moves) (now ∷ h) × Tail (new ∷ []) (map (moment marks) (now ∷ h)) × Each (HasSeen (map (moment marks) (now ∷ h))) vs

-- at the pass's last step this word had this number
abbrev pub FoundAt : ℕ → ℕ → List Moment → Type 0
FoundAt i n past = (new : Moment) × (old : Moment) × (h : List Moment) × (past ≡ new ∷ old ∷ h) × (slice_index old.words i ≡ n)

-- of each of these moments
abbrev pub EachMoment : (Moment → Type 0) → List Moment → Type 0
EachMoment P [] = Unit {0}
EachMoment P (m ∷ past) = P m × EachMoment P past

-- so it was where the step tells; a store doesn't
abbrev pub FindsAt : Op → ℕ → ℕ → List Moment → Type 0
FindsAt Load i n past = FoundAt i n past
FindsAt (Store new) i n past = Unit {0}
FindsAt (Swap new) i n past = FoundAt i n past
FindsAt (Add by) i n past = FoundAt i n past
FindsAt (Sub by) i n past = FoundAt i n past
FindsAt (Or bits) i n past = FoundAt i n past
FindsAt (And bits) i n past = FoundAt i n past
FindsAt (Exchange from to) i n past = FoundAt i n past

-- the last moment is that of this step of the pass which has the task's number, and the one before is that at which the step was made
pub record IsStepBy (task : Option ℕ) (step : ℕ) (past : List Moment) : Type 0 where
  pub now : Moment
  pub before : Moment
  pub rest : List Moment
  pub seat : ℕ
  pub past_is : past ≡ now ∷ before ∷ rest
  pub hand : Hand
  pub is : get_elem? now.hands seat ≡ some hand
  pub named : hand.task ≡ task
  pub steps : get_elem? now.steps seat ≡ some step
  -- the step is counted
  pub had : ℕ
  pub had_steps : get_elem? before.steps seat ≡ some had
  pub counts : step ≡ had + 1

-- at this step of the pass which has the task's number, made since its past was the old one, the word had this number
pub record FoundAtStep (task : Option ℕ) (step i n : ℕ) (old new : List Moment) : Type 0 where
  pub past : List Moment
  pub by : IsStepBy task step past
  pub found : FoundAt i n past
  pub after : GoesOn old past
  pub goes_on : GoesOn past new

-- so it was at one of the steps behind the first number, up to the second
abbrev pub FoundSince : Option ℕ → (begun done : ℕ) → ℕ → ℕ → List Moment → List Moment → Type 0
FoundSince task begun done i n old new = (step : ℕ) × (begun < step) × (step ≤ done) × FoundAtStep task step i n old new

-- the last moment is that of the step which left the pass this view, at some seat, and the one before is that at which the step was made
pub record IsOwnStep {E : Type 0} (v : View E) (past : List Moment) : Type 0 where
  pub now : Moment
  pub before : Moment
  pub rest : List Moment
  pub seat : ℕ
  pub past_is : past ≡ now ∷ before ∷ rest
  pub hand : get_elem? now.hands seat ≡ some v.hand
  pub spin : get_elem? now.spins seat ≡ some v.spin
  pub steps : get_elem? now.steps seat ≡ some v.steps
  pub fronts : get_elem? now.fronts seat ≡ some v.fronts
  -- the step is counted
  pub had : ℕ
  pub had_steps : get_elem? before.steps seat ≡ some had
  pub counts : v.steps ≡ had + 1

-- the last moment is that of the step which left the pass this view, and it keeps, at the seat of that step, what the rule adds to the view
pub record IsMarked {E : Type 0} (marks : E → List ℕ) (v : View E) (past : List Moment) : Type 0 where
  pub own : IsOwnStep v past
  pub kept : get_elem? own.now.marks own.seat ≡ some (marks_of marks v)
