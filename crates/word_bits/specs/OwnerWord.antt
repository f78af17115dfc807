-- The word of a mutex's owner.
use Rattle.std.specs.Prelude.{ℕ, ◌+◌, ◌*◌, ◌<◌, Bool, true, false, Option, Some, None, IfSome}
use Rattle.word_bits.specs.declared.owner.Owner.{Owner}
use Rattle.word_bits.specs.declared.TheConstants.{MAX_TASKS}

-- a task's number plus 1, and 0 without a task
abbrev pub task_code : Option ℕ → ℕ
task_code None = 0
task_code (Some task) = task + 1

abbrev pub bit : Bool → ℕ
bit true = 1
bit false = 0

abbrev pub IsOwner : Owner → Type 0
IsOwner o = IfSome o.task (λ task. task < MAX_TASKS)

-- the task's code above three flags: waiters 1, handoff 2, pickup 4
abbrev pub owner_word : Owner → ℕ
owner_word o = bit o.waiters + bit o.handoff * 2 + bit o.pickup * 4 + task_code o.task * 8
