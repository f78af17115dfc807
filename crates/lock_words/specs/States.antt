-- Lists of tasks, in text.
use Rattle.std.specs.Prelude.{ℕ, Bool, List, [], ◌++◌, Option, Some, None, codes, decimal, flat_map, if◌then◌else◌}
use Rattle.wait_list.specs.declared.view.Waiter.{Waiter}

abbrev pub task_text : ℕ → List ℕ
task_text task = codes " " ++ decimal task

abbrev pub tasks_text : List ℕ → List ℕ
tasks_text tasks = flat_map task_text tasks

-- r for one that is to read, and w for one that is to write
abbrev pub letter_text : Bool → List ℕ
letter_text writer = if writer then codes "w" else codes "r"

abbrev pub waiter_text : Waiter → List ℕ
waiter_text w = codes " " ++ decimal w.task ++ letter_text w.writer

abbrev pub waiters_text : List Waiter → List ℕ
waiters_text waiters = flat_map waiter_text waiters

abbrev pub who_holds : List ℕ → Option ℕ → List ℕ
who_holds name None = []
who_holds name (Some task) = name ++ decimal task
