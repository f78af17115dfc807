-- Why a pass left a spin queue.
use Rattle.std.specs.Prelude.{◌≢◌, ℕ}
use Rattle.cpu_task.specs.CpuCounting.{Rises}
use Rattle.lock_core.specs.Shown.{Shown}

-- a pass that counts one more leave of the spin queue left it for its CPU, whose count of true answers rose so
abbrev pub LeavesForCpu : (m n : ℕ) → Shown → Shown → Type 0
LeavesForCpu m n v u = u.tally.left ≢ v.tally.left → Rises m n
