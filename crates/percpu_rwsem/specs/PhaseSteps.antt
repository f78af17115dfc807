-- How a step of a pass changes its phase, and the words of the semaphore with it.
use Rattle.std.specs.Prelude.{◌≡◌, ◌≢◌, ◌⊎◌, ℕ, ◌+◌, ◌<◌, Option, Some}
use Rattle.word_bits.specs.declared.TheConstants.{MAX_TASKS}
use Rattle.percpu_rwsem.specs.Types.{Phase, Idle, Added, Back, Reads, Blocks}

-- the words of a semaphore: the block word, and the count of each task
pub record Words : Type 0 where
  pub block : ℕ
  pub count : ℕ → ℕ

-- no count changes
abbrev pub SameCounts : Words → Words → Type 0
SameCounts w w' = (t : ℕ) → t < MAX_TASKS → w'.count t ≡ w.count t

-- no word changes
abbrev pub SameWords : Words → Words → Type 0
SameWords w w' = (w'.block ≡ w.block) × SameCounts w w'

-- the count of this task goes from the one number to the other, and no other word changes
pub record CountGoes (t n n' : ℕ) (w w' : Words) : Type 0 where
  pub was : w.count t ≡ n
  pub is : w'.count t ≡ n'
  pub others : (u : ℕ) → u < MAX_TASKS → u ≢ t → w'.count u ≡ w.count u
  pub block : w'.block ≡ w.block

-- the block word goes from the one number to the other, and no count changes
pub record BlockGoes (n n' : ℕ) (w w' : Words) : Type 0 where
  pub was : w.block ≡ n
  pub is : w'.block ≡ n'
  pub counts : SameCounts w w'

-- From which phase a step leads to which, of a pass that has this number of a task, and what it does to the words. A reader adds to its own count; where it then finds the block word 0 it holds, and
-- else it takes the addition back. A reader's release takes it back too. A writer blocks by its own code where nobody does, sees one count zero after the other, and lets go by a 0. Any other step
-- leaves the phase and the words.
abbrev pub PhaseGoes : Option ℕ → (w w' : Words) → Phase → Phase → Type 0
PhaseGoes task w w' Idle Idle = SameWords w w'
PhaseGoes task w w' Idle Added = (t : ℕ) × (task ≡ Some t) × CountGoes t 0 1 w w'
PhaseGoes task w w' Idle (Blocks n) = (t : ℕ) × (task ≡ Some t) × BlockGoes 0 (t + 1) w w' × (n ≡ 0)
PhaseGoes task w w' Added Added = SameWords w w'
PhaseGoes task w w' Added Reads = SameWords w w' × (w.block ≡ 0)
PhaseGoes task w w' Added Back = SameWords w w' × (w.block ≢ 0)
PhaseGoes task w w' Back Back = SameWords w w'
PhaseGoes task w w' Back Idle = (t : ℕ) × (task ≡ Some t) × CountGoes t 1 0 w w'
PhaseGoes task w w' Reads Reads = SameWords w w'
PhaseGoes task w w' Reads Idle = (t : ℕ) × (task ≡ Some t) × CountGoes t 1 0 w w'
PhaseGoes task w w' (Blocks n) (Blocks m) = SameWords w w' × ((m ≡ n) ⊎ ((m ≡ n + 1) × (w.count n ≡ 0)))
PhaseGoes task w w' (Blocks n) Idle = (t : ℕ) × (task ≡ Some t) × BlockGoes (t + 1) 0 w w'
PhaseGoes task w w' old new = ⊥
