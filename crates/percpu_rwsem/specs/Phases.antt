-- The counts and the block word, and what each pass has in them.
use Rattle.std.specs.Prelude.{◌≡◌, ℕ, ◌==◌, ◌<◌, ◌≤◌, List, Option, Some, None, if◌then◌else◌}
use mathlib.Core.Option.{some}
use lib.ListN.{get_elem?}
use Rattle.word_bits.specs.declared.TheConstants.{MAX_TASKS}
use Rattle.word_bits.specs.OwnerWord.{task_code}
use Rattle.percpu_rwsem.specs.Types.{View, Hand, Held, No, Shared, Alone, Phase, Idle, Added, Back, Reads, Blocks}
use Rattle.lock_core.specs.Views.{is_number}
use Rattle.lock_core.specs.Totals.{total}
use Rattle.lock_core.specs.ViewParts.{Each}

-- what the semaphore's own facts see of a view
pub record PhasePart : Type 0 where
  pub task : Option ℕ
  pub held : Held
  pub phase : Phase

abbrev pub part : Hand → Phase → PhasePart
part h w = record { task = h.task; held = h.held; phase = w }

abbrev pub phase_part : View Phase → PhasePart
phase_part v = part v.hand v.ext

-- what a pass has in the count of a task
abbrev pub inside_weight : ℕ → Option ℕ → Phase → ℕ
inside_weight t task Idle = 0
inside_weight t task Added = is_number t task
inside_weight t task Back = is_number t task
inside_weight t task Reads = is_number t task
inside_weight t task (Blocks n) = 0

abbrev pub inside_of : ℕ → PhasePart → ℕ
inside_of t p = inside_weight t p.task p.phase

-- what it has in the block word
abbrev pub code_weight : Option ℕ → Phase → ℕ
code_weight task Idle = 0
code_weight task Added = 0
code_weight task Back = 0
code_weight task Reads = 0
code_weight task (Blocks n) = task_code task

abbrev pub code_of : PhasePart → ℕ
code_of p = code_weight p.task p.phase

-- a pass is counted that blocks
abbrev pub blocks_weight : Phase → ℕ
blocks_weight Idle = 0
blocks_weight Added = 0
blocks_weight Back = 0
blocks_weight Reads = 0
blocks_weight (Blocks n) = 1

abbrev pub blocks_of : PhasePart → ℕ
blocks_of p = blocks_weight p.phase

-- how a pass holds, of so many tasks
abbrev pub held_by : ℕ → Phase → Held
held_by tasks Idle = No
held_by tasks Added = No
held_by tasks Back = No
held_by tasks Reads = Shared
held_by tasks (Blocks n) = if n == tasks then Alone else No

-- what is so of each pass
pub record PartOk (tasks : ℕ) (p : PhasePart) : Type 0 where
  pub holds : p.held ≡ held_by tasks p.phase
  pub numberless : p.task ≡ None → p.phase ≡ Idle
  pub few : (n : ℕ) → p.phase ≡ Blocks n → n ≤ tasks

-- A count is what the passes have in it, and so is the block word. One pass blocks at most, and no task whose count it has seen zero holds shared.
pub record PhasesKept (tasks block : ℕ) (count : ℕ → ℕ) (ps : List PhasePart) : Type 0 where
  pub counts : (t : ℕ) → t < MAX_TASKS → count t ≡ total (inside_of t) ps
  pub code : block ≡ total code_of ps
  pub one : total blocks_of ps ≤ 1
  pub each : Each (PartOk tasks) ps
  pub drained : (i j : ℕ) (p q : PhasePart) → get_elem? ps i ≡ some p → get_elem? ps j ≡ some q → (n : ℕ) → p.phase ≡ Blocks n → q.phase ≡ Reads → (t : ℕ) → q.task ≡ Some t → n ≤ t
