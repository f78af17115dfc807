-- The rule of a table with a count for each task and a block word.
use Rattle.std.specs.Prelude.{◌≡◌, ◌≢◌, ◌⊎◌, ℕ, ◌+◌, ◌*◌, ◌≤◌, List, [], ◌∷◌, length, map, slice_index}
use mathlib.Core.Option.{some}
use lib.ListN.{get_elem?}
use Rattle.word_bits.specs.LockWords.{Unavailable}
use Rattle.word_bits.specs.Objects.{Obj}
use Rattle.word_bits.specs.Histories.{Plan}
use Rattle.lock_core.specs.declared.layout.TheConstants.{SPIN_ROOM}
use Rattle.lock_core.specs.Layout.{site, width}
use Rattle.lock_core.specs.Views.{hand_of}
use Rattle.lock_core.specs.Sites.{SiteKept}
use Rattle.lock_core.specs.Moves.{SiteMove}
use Rattle.lock_core.specs.Pasts.{opening}
use Rattle.percpu_rwsem.specs.Phases.{PhasePart, PhasesKept, phase_part}
use Rattle.percpu_rwsem.specs.PhaseSteps.{PhaseGoes, Words}
use Rattle.percpu_rwsem.specs.Types.{View, Moment, Phase, Idle, Added, Back, Reads, Blocks}

-- the place of the block word, behind the room of the spin locks, and that of a task's count, which has a line of its own
abbrev pub block_at : ℕ
block_at = SPIN_ROOM

abbrev pub count_at : ℕ → ℕ
count_at t = SPIN_ROOM + 8 + 8 * t

abbrev pub V : Type 0
V = View Phase

-- no call is told that it can't have the lock
abbrev pub never : Unavailable
never reads word = ⊥

-- what a moment keeps of a pass
abbrev pub kept_phase : Phase → List ℕ
kept_phase Idle = []
kept_phase Added = 1 ∷ []
kept_phase Back = 2 ∷ []
kept_phase Reads = 3 ∷ []
kept_phase (Blocks n) = 4 ∷ n ∷ []

-- the semaphore's facts of these words
abbrev pub Phases : Plan → List ℕ → List PhasePart → Type 0
Phases k ws ps = PhasesKept (length k) (slice_index ws block_at) (λ t. slice_index ws (count_at t)) ps

module _ {Call : Type 0} (o : Obj Call) (size : ℕ) where
  pub record PercpuKept (k : Plan) (ws : List ℕ) (vs : List V) : Type 0 where
    pub wide : length ws ≡ width k
    pub site_holds : SiteKept o never size k (site k ws) (map hand_of vs)
    pub phases : Phases k ws (map phase_part vs)

-- the words of the semaphore in a table
abbrev pub words_in : List ℕ → Words
words_in ws = record { block = slice_index ws block_at; count = λ t. slice_index ws (count_at t) }

-- a pass keeps its number while it has something in the words
abbrev pub KeepsTask : V → V → Type 0
KeepsTask v u = (u.hand.task ≡ v.hand.task) ⊎ ((v.ext ≡ Idle) × (u.ext ≡ Idle))

-- every other pass that was there is in the phase that it was in
abbrev pub OthersStay : ℕ → List V → List V → Type 0
OthersStay id vs vs' = (j : ℕ) (v u : V) → j ≢ id → get_elem? vs j ≡ some v → get_elem? vs' j ≡ some u → u.ext ≡ v.ext

-- a pass that wasn't there has nothing in the words
abbrev pub NewAreIdle : List V → List V → Type 0
NewAreIdle vs vs' = (j : ℕ) (u : V) → length vs ≤ j → get_elem? vs' j ≡ some u → u.ext ≡ Idle

-- what a step may do: all that each step of a site does, and to the pass's own phase and the words what its phase lets it
pub record PercpuMoves (k : Plan) (id : ℕ) (ws : List ℕ) (vs : List V) (us : List ℕ) (vs' : List V) : Type 0 where
  pub site : SiteMove id (slice_index ws block_at) (site k ws) vs (site k us) vs'
  pub goes : PhaseGoes site.before.hand.task (words_in ws) (words_in us) site.before.ext site.after.ext
  pub task : KeepsTask site.before site.after
  pub others : OthersStay id vs vs'
  pub new : NewAreIdle vs vs'

-- a new table
abbrev pub newest : Plan → Moment
newest k = opening kept_phase k Idle
