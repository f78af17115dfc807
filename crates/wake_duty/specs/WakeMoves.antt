-- What a step of a pass may make of wake words, of its choice and of its sleep, whatever the lock.
use Rattle.std.specs.Prelude.{◌≡◌, ◌⊎◌, ℕ, true, List, Option, Some}
use Rattle.lock_core.specs.Tallies.{raised}
use Rattle.wait_list.specs.Lists.{first_code}
use Rattle.wake_duty.specs.DutyWakes.{wake_word}
use Rattle.wake_duty.specs.Types.{Waiter}

-- what a step of a pass of this task makes of a wake word: it stays; or it is set, and the pass had chosen its task; or it is 0, and it is the own task's, which waits without the wait lock and isn't
-- to try
abbrev pub WordGoes : (words words' : List ℕ) (task : Option ℕ) (locked queued awake : ℕ) (chosen : ℕ → Type 0) (t : ℕ) → Type 0
WordGoes words words' task locked queued awake chosen t = (wake_word words' t ≡ wake_word words t)
    ⊎ ((wake_word words' t ≡ 1) × chosen t)
    ⊎ ((wake_word words' t ≡ 0) × (task ≡ Some t) × (locked ≡ 0) × (queued ≡ 1) × (awake ≡ 0))

-- with the wait lock a pass chooses the first waiter of this list, or nobody where nobody waits
abbrev pub ChoosesFirst : (locked : ℕ) (l : List Waiter) (chosen : ℕ) → Type 0
ChoosesFirst locked l chosen = (locked ≡ 1) × (chosen ≡ first_code l)

-- the wake word of a task that the pass had chosen is set, which the pass counts
abbrev pub SetsChosen : (words' : List ℕ) (chosen : ℕ → Type 0) (wakes wakes' : ℕ) → Type 0
SetsChosen words' chosen wakes wakes' = (wakes' ≡ raised true wakes) × ((t : ℕ) × chosen t × (wake_word words' t ≡ 1))

-- a pass of this task falls asleep, which it counts: its own wake word was 0, and it waits without the wait lock and isn't to try
abbrev pub DozesOff : (words : List ℕ) (task : Option ℕ) (locked queued awake awake' dozes dozes' : ℕ) → Type 0
DozesOff words task locked queued awake awake' dozes dozes' = ((t : ℕ) × (task ≡ Some t) × (wake_word words t ≡ 0)) × (locked ≡ 0) × (queued ≡ 1) × (awake ≡ 0) × (awake' ≡ 0)
    × (dozes' ≡ raised true dozes)
