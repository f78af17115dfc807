-- What count the step found by which a call on a semaphore came to hold.
use Rattle.std.specs.Prelude.{◌≡◌, ℕ, ◌+◌, ◌<◌, ◌≤◌, List}
use Rattle.lock_core.specs.Pasts.{FoundAt}
use Rattle.lock_core.specs.Shown.{Shown, FindsAtStep}
use Rattle.rwsem_count.specs.CountWordSteps.{IsLocked, IsReadFree}
use Rattle.rwsem_wake.specs.RwSemViews.{count_at}
use Rattle.rwsem_slow.specs.Spinning.{IsUnlocked}
use Rattle.rwsem_slow.specs.Types.{How, Fast, Spun, Slept, Held, Shared, Alone, Moment}

-- a step of the call found a count that fits, and left the pass with this hold
abbrev pub TakesFrom : Held → (ℕ → Type 0) → Shown → Shown → Type 0
TakesFrom held fits v u = (step n : ℕ) × (v.steps < step) × (step ≤ u.steps) × ((f : FindsAtStep step count_at n v u) × (f.by.hand.held ≡ held)) × fits n

-- from which counts a writer takes: from 0 by its first try, from one without lock bit and HANDOFF as a spinner, and from one without lock bit as a waiter
abbrev pub IsOpen : How → ℕ → Type 0
IsOpen Fast n = n ≡ 0
IsOpen Spun n = IsUnlocked n
IsOpen Slept n = IsLocked n → ⊥

-- a writer took from such a count
abbrev pub TakesOpen : How → Shown → Shown → Type 0
TakesOpen how v u = TakesFrom Alone (IsOpen how) v u

-- a reader holds by an addition to a count that lets readers in with it
abbrev pub EntersOpen : Shown → Shown → Type 0
EntersOpen v u = TakesFrom Shared (λ n. IsReadFree (n + 256)) v u

-- the pass's last step found a count without lock bit and HANDOFF
abbrev pub FindsUnlocked : List Moment → Type 0
FindsUnlocked past = (n : ℕ) × FoundAt count_at n past × IsUnlocked n
