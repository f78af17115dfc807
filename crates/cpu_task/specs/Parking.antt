-- CPUs that sleep on parkers, and the unparkers that wake them.
use Rattle.std.specs.Prelude.{◌≡◌, ◌<◌, ◌≤◌, ℕ, List, Option, None, Some, length, slice_set}
use Rattle.std.specs.Arc.{arc_value}
use Rattle.crossbeam_utils.specs.declared.sync.parker.RuledUnparker.{RuledUnparker}
use Rattle.cpu_task.specs.declared.countdown.Countdown.{Countdown}

pub record ParkCpuState : Type 0 where
  pub rescheds : ℕ
  pub sleeps : ℕ
  pub resched : Countdown
  pub overdue : Countdown
  -- the name of the parker that it sleeps on
  pub parker : ℕ

module _ {V P Z : Type 0} where
  -- the name of the parker that an unparker wakes, which clones of the unparker share
  abbrev pub parker_of : RuledUnparker V P Z → ℕ
  parker_of u = (arc_value u.state).shared.table_id.views_name

  -- the parker that a place of a crew wakes, where it keeps an unparker
  abbrev pub kept_parker : Option (RuledUnparker V P Z) → Option ℕ
  kept_parker None = None
  kept_parker (Some u) = Some (parker_of u)

-- A crew's places before and after a task got a CPU: the task's place wakes its parker, and the
-- other places are as they were. A task without a place changes nothing.
pub record Keeps (old : List (Option ℕ)) (task parker : ℕ) (new : List (Option ℕ)) : Type 0 where
  pub inside : task < length old → new ≡ slice_set old task (Some parker)
  pub outside : length old ≤ task → new ≡ old
