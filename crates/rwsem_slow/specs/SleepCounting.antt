-- What a call on a semaphore counts on its CPU.
use Rattle.std.specs.Prelude.{◌≡◌, ℕ, ◌+◌, ◌≤◌}
use Rattle.cpu_task.specs.CpuCounting.{SleepsAtMost, SleepsInTurns}
use Rattle.rwsem_slow.specs.Types.{How, Fast, Spun, Slept}
use Rattle.lock_core.specs.Shown.{Shown}

-- the CPU slept once for each step of the pass at most
abbrev pub SleepsBetween : (steps steps' sleeps sleeps' : ℕ) → Type 0
SleepsBetween steps steps' sleeps sleeps' = (turns : ℕ) × (steps + turns ≤ steps') × SleepsAtMost turns sleeps sleeps'

-- What a call that reads counted on its CPU: no true answer, and no sleep unless it appended itself; it made a step before each sleep.
abbrev pub CountsReading : How → (sleeps sleeps' rescheds rescheds' : ℕ) → Shown → Shown → Type 0
CountsReading Fast sleeps sleeps' rescheds rescheds' v u = (sleeps' ≡ sleeps) × (rescheds' ≡ rescheds)
CountsReading Spun sleeps sleeps' rescheds rescheds' v u = (sleeps' ≡ sleeps) × (rescheds' ≡ rescheds)
CountsReading Slept sleeps sleeps' rescheds rescheds' v u = SleepsBetween v.steps u.steps sleeps sleeps' × (rescheds' ≡ rescheds)

-- What a call that writes counted on its CPU: nothing by its first try, and no sleep while it spun. If it appended itself, it took the wait lock once, and once more behind each turn in which it slept
-- or was woken before.
abbrev pub CountsWriting : How → (sleeps sleeps' rescheds rescheds' : ℕ) → Shown → Shown → Type 0
CountsWriting Fast sleeps sleeps' rescheds rescheds' v u = (sleeps' ≡ sleeps) × (rescheds' ≡ rescheds)
CountsWriting Spun sleeps sleeps' rescheds rescheds' v u = (sleeps' ≡ sleeps) × (rescheds ≤ rescheds')
CountsWriting Slept sleeps sleeps' rescheds rescheds' v u = SleepsInTurns (v.spin.entries + 1) u.spin.entries sleeps sleeps' × (rescheds ≤ rescheds')

-- what one that was interrupted counted: it heard of its signal after it had released the wait lock, and took that anew without a sleep
abbrev pub CountsLeaving : (sleeps sleeps' rescheds rescheds' : ℕ) → Shown → Shown → Type 0
CountsLeaving sleeps sleeps' rescheds rescheds' v u = SleepsInTurns (v.spin.entries + 2) u.spin.entries sleeps sleeps' × (rescheds ≤ rescheds')
