-- What the words of a per-CPU semaphore say at each moment.
use Rattle.std.specs.Prelude.{◌≡◌, ◌≢◌, ℕ, ◌+◌, ◌<◌, ◌≤◌, ◌⊎◌, List, [], ◌∷◌, length, slice_index, Option, Some}
use mathlib.Core.Option.{some}
use lib.ListN.{get_elem?}
use Rattle.word_bits.specs.Objects.{Obj}
use Rattle.word_bits.specs.Histories.{Plan}
use Rattle.lock_core.specs.Layout.{site}
use Rattle.lock_core.specs.Locked.{IsSiteStep}
use Rattle.lock_core.specs.Pasts.{FoundAtStep}
use Rattle.lock_core.specs.SiteStated.{IsSite}
use Rattle.percpu_rwsem.specs.Phases.{held_by}
use Rattle.percpu_rwsem.specs.PhaseSteps.{PhaseGoes}
use Rattle.percpu_rwsem.specs.PercpuRuled.{block_at, count_at, kept_phase, never, words_in}
use Rattle.percpu_rwsem.specs.Types.{Hand, No, Shared, Alone, Marks, Moment, Phase, Idle}

-- what a moment keeps of a pass: nothing, that it has added and is to look, that it is to take back, that it holds shared, or that it blocks
abbrev pub phase_in : Marks → ℕ
phase_in m = go m.numbers
  where
    go : List ℕ → ℕ
    go [] = 0
    go (n ∷ ns) = n

-- and how many counts it has seen zero, where it blocks
abbrev pub seen_in : Marks → ℕ
seen_in m = go m.numbers
  where
    go : List ℕ → ℕ
    go [] = 0
    go (n ∷ []) = 0
    go (n ∷ m ∷ ns) = m

-- its view holds shared, or has added and has neither held by it nor taken it back
abbrev pub IsInside : Hand → Marks → Type 0
IsInside h m = (h.held ≡ Shared) ⊎ (phase_in m ≡ 1) ⊎ (phase_in m ≡ 2)

abbrev pub IsBlocking : Marks → Type 0
IsBlocking m = phase_in m ≡ 4

-- the pass of some number has this hand, of which the moment keeps this
abbrev pub IsPassAt : List Hand → List Marks → ℕ → Hand → Marks → Type 0
IsPassAt hs ms i h m = (get_elem? hs i ≡ some h) × (get_elem? ms i ≡ some m)

-- a count is 1 exactly where its task's pass is inside, and else 0
pub data CountStates (count t : ℕ) (hs : List Hand) (ms : List Marks) : Type 0 where
  empty : count ≡ 0 → ((i : ℕ) (h : Hand) (m : Marks) → IsPassAt hs ms i h m → h.task ≡ Some t → IsInside h m → ⊥) → CountStates count t hs ms
  full : count ≡ 1 → (i : ℕ) (h : Hand) (m : Marks) → IsPassAt hs ms i h m → h.task ≡ Some t → IsInside h m → CountStates count t hs ms

-- the block word is the code of the one task that blocks, and 0 where none does
pub data BlockStates (block : ℕ) (hs : List Hand) (ms : List Marks) : Type 0 where
  free : block ≡ 0 → ((i : ℕ) (h : Hand) (m : Marks) → IsPassAt hs ms i h m → IsBlocking m → ⊥) → BlockStates block hs ms
  taken : (i : ℕ) (h : Hand) (m : Marks) → IsPassAt hs ms i h m → IsBlocking m → (t : ℕ) → h.task ≡ Some t → block ≡ t + 1
      → ((j : ℕ) (g : Hand) (n : Marks) → j ≢ i → IsPassAt hs ms j g n → IsBlocking n → ⊥) → BlockStates block hs ms

pub record StatesPhases (tasks block : ℕ) (count : ℕ → ℕ) (hs : List Hand) (ms : List Marks) : Type 0 where
  pub counts : (t : ℕ) → t < tasks → CountStates (count t) t hs ms
  pub blocked : BlockStates block hs ms
  -- a task whose count the blocker has seen zero doesn't hold shared
  pub drained : (i j : ℕ) (h g : Hand) (m n : Marks) → IsPassAt hs ms i h m → IsPassAt hs ms j g n → IsBlocking m → (t : ℕ) → g.task ≡ Some t → t < seen_in m → g.held ≢ Shared
  -- the blocker holds alone exactly where it has seen every count of the plan zero, and nobody else does
  pub all : (i : ℕ) (h : Hand) (m : Marks) → IsPassAt hs ms i h m → IsBlocking m → seen_in m ≡ tasks → h.held ≡ Alone
  pub alone : (i : ℕ) (h : Hand) (m : Marks) → IsPassAt hs ms i h m → h.held ≡ Alone → IsBlocking m × (seen_in m ≡ tasks)

module _ {Call : Type 0} (o : Obj Call) (size : ℕ) where
  -- the facts of a site, and what the counts and the block word say
  pub record IsPercpuSite (k : Plan) (ws : List ℕ) (hs : List Hand) (ms : List Marks) : Type 0 where
    pub is_site : IsSite o never size k (site k ws) hs
    pub phases : StatesPhases (length k) (slice_index ws block_at) (λ t. slice_index ws (count_at t)) hs ms

  -- so they were at this moment
  abbrev pub IsPercpuSiteThen : Plan → Moment → Type 0
  IsPercpuSiteThen k m = IsPercpuSite k m.words m.hands m.marks

-- what a moment keeps of a pass in this phase
abbrev pub phase_marks : Phase → Marks
phase_marks e = record { numbers = kept_phase e }

-- One step of one pass, which led from a phase to a phase, and did to the counts and the block word what goes with that. Before it and behind it the pass held as its phase says. While the pass has
-- something in the words it keeps its number. Every other pass stays in its phase, and a new one has nothing in the words.
pub record IsPercpuStep (k : Plan) (x y : Moment) : Type 0 where
  pub by : IsSiteStep k block_at x y
  pub before : Phase
  pub after : Phase
  pub was : get_elem? x.marks by.id ≡ some (phase_marks before)
  pub is : get_elem? y.marks by.id ≡ some (phase_marks after)
  pub goes : PhaseGoes by.before.task (words_in x.words) (words_in y.words) before after
  pub held : by.before.held ≡ held_by (length k) before
  pub holds : by.after.held ≡ held_by (length k) after
  pub task : (by.after.task ≡ by.before.task) ⊎ ((before ≡ Idle) × (after ≡ Idle))
  pub others : (j : ℕ) (m n : Marks) → j ≢ by.id → get_elem? x.marks j ≡ some m → get_elem? y.marks j ≡ some n → n ≡ m
  pub new : (j : ℕ) (m : Marks) → length x.marks ≤ j → get_elem? y.marks j ≡ some m → m ≡ phase_marks Idle

-- At this step of the pass which has the task's number, made since its past was the old one, the task's count was 1. If the pass held shared until then, the step left the count at 0, by what `recall`
-- tells of each step.
pub record CountFalls (k : Plan) (task : Option ℕ) (step : ℕ) (old new : List Moment) : Type 0 where
  pub own : ℕ
  pub named : task ≡ Some own
  pub found : FoundAtStep task step (count_at own) 1 old new
  pub out : found.by.hand.held ≡ No
  pub left : (h : Hand) → get_elem? found.by.before.hands found.by.seat ≡ some h → h.held ≡ Shared → IsPercpuStep k found.by.before found.by.now → slice_index found.by.now.words (count_at own) ≡ 0
