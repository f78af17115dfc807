-- What is made of a script before its tasks begin.
use Rattle.std.specs.Prelude.{◌≡◌, ℕ, ◌+◌, ◌<◌, ◌≤◌, List, fold, length, slice_index_or, if◌then◌else◌}
use Rattle.word_bits.specs.Histories.{Plan}
use Rattle.lock_core.specs.Plans.{appended, calls_in}
use Rattle.task_script.specs.Scripts.{Listing, call_words, is_on, plan_of}
use Rattle.mm_serve.specs.Machines.{staffed}
use Rattle.mm_serve.specs.Types.{Line}

-- the object's plan, with the line's call behind those of the task if it is on the object
abbrev pub with_line : (object task : ℕ) → Plan → Line → Plan
with_line object task plan line = if is_on object line then appended plan task (call_words line) else plan

-- each plan has the calls of these lines that are on its object behind those of the task
abbrev pub AddsLines : (task : ℕ) → List Line → (olds news : List Plan) → Type 0
AddsLines task lines olds news =
    (length news ≡ length olds) × ((k : ℕ) (d : Plan) → k < length olds → slice_index_or news k d ≡ fold (with_line k task) (slice_index_or olds k d) lines)

-- each plan has the task
abbrev pub HaveTask : ℕ → List Plan → Type 0
HaveTask task plans = (k : ℕ) (d : Plan) → k < length plans → task < length (slice_index_or plans k d)

-- each plan has room for so many calls more
abbrev pub HaveRoom : ℕ → List Plan → Type 0
HaveRoom room plans = (k : ℕ) (d : Plan) → k < length plans → calls_in (slice_index_or plans k d) + room ≤ 131072

-- there is a plan for each object of the script, which has the calls on it
abbrev pub ArePlansOf : Listing → List Plan → Type 0
ArePlansOf script plans = (length plans ≡ length script.objects) × ((k : ℕ) (d : Plan) → k < length plans → slice_index_or plans k d ≡ staffed (plan_of script k))
