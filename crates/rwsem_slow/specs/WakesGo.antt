-- What a step of a semaphore's pass makes of wake words, of what the pass owes, of whom it has chosen, and of its sleep.
use Rattle.std.specs.Prelude.{◌≡◌, ◌≢◌, ℕ, ◌+◌, ◌/◌, ◌%◌, ◌<◌, ◌≤◌, ◌⊎◌, Bool, true, false, List, [], ◌∷◌, ◌++◌, Some}
use Rattle.word_bits.specs.declared.TheConstants.{MAX_TASKS}
use Rattle.lock_core.specs.Tallies.{raised}
use Rattle.rwsem_slow.specs.Types.{No, Shared, Alone, Waiter, Change, Enter, Leave, WaitState, Absent, Awake, Tried, SemWake, Clear, Transit, Reserve, Reads, Writes}
use Rattle.wait_list.specs.Lists.{first_code}
use Rattle.wake_duty.specs.DutyWakes.{wake_word, waits}
use Rattle.wake_duty.specs.WakeMoves.{DozesOff, SetsChosen, WordGoes}
use Rattle.rwsem_wake.specs.SemDuties.{first_writes, less, times}
use Rattle.rwsem_wake.specs.SemParts.{SemPart, granted_of}
use Rattle.rwsem_wake.specs.Duties.{is_left}
use Rattle.rwsem_wake.specs.GrantsStated.{Picks}

-- whether it waits, and tries or loads its grant word before it sleeps
abbrev pub awake_bit : WaitState → ℕ
awake_bit Absent = 0
awake_bit Awake = 1
awake_bit (Tried n) = 0

-- what a moment keeps of what a pass has of wakes: whether it owes a wake, whom it has chosen, whether it waits, whether it is awake, how many wake words it has set, and how often it has fallen
-- asleep
pub record WakeStands : Type 0 where
  pub owing : Bool
  pub chosen : List ℕ
  pub queued : ℕ
  pub awake : ℕ
  pub wakes : ℕ
  pub dozes : ℕ

abbrev pub wake_stands : SemWake → WakeStands
wake_stands b = record { owing = b.owing; chosen = b.chosen; queued = waits b.wait_state; awake = awake_bit b.wait_state; wakes = b.wakes; dozes = b.dozes }

-- In what follows the step goes from the count `n` to `n'`. `q` is the list before it, `c` its change. `locked` is 1 where the pass had the wait lock. `p` and `s` stand before it, `p'` and `s'`
-- behind it.

-- it takes back the bias with which its reader queued
abbrev pub TakesBack : SemPart → SemPart → Type 0
TakesBack p p' = ((m : ℕ) × (p.sem.bias ≡ Transit m)) × (p'.sem.bias ≡ Clear)

-- Who comes to owe. It ends or lowers a hold, and leaves a count that says that tasks wait, and where the hold was shared that nobody else is counted. Or it takes a bias back, and leaves a count with
-- nobody. Or it leaves the list as the first.
abbrev pub OwesBy : (n' : ℕ) → List Waiter → Change → SemPart → SemPart → Type 0
OwesBy n' q c p p' = ((p.held ≢ No) × (p'.held ≢ p.held) × (n' / 2 % 2 ≡ 1) × (p.held ≡ Shared → is_left n' ≡ true))
    ⊎ (TakesBack p p' × (is_left n' ≡ true))
    ⊎ ((t : ℕ) × (c ≡ Leave t) × (p.task ≡ Some t) × (first_code q ≡ t + 1))

-- Who has to owe from then on. It ends or lowers an exclusive hold, and leaves a count that says that tasks wait. Or it ends a shared one, and leaves such a count, with nobody else. Or it takes a
-- bias back and holds nothing, and leaves a count with nobody. Or it leaves the list as the first, and neither holds alone nor is the next of a batch of its own.
abbrev pub MustOwe : (n' : ℕ) → List Waiter → Change → SemPart → SemPart → (s s' : WakeStands) → Type 0
MustOwe n' q c p p' s s' = ((p.held ≡ Alone) × (p'.held ≢ Alone) × (n' / 2 % 2 ≡ 1))
    ⊎ ((p.held ≡ Shared) × (p'.held ≡ No) × (n' / 2 % 2 ≡ 1) × (is_left n' ≡ true))
    ⊎ (TakesBack p p' × (p'.held ≡ No) × (is_left n' ≡ true))
    ⊎ ((t : ℕ) × (c ≡ Leave t) × (p.task ≡ Some t) × (first_code q ≡ t + 1) × (p.held ≢ Alone) × (s'.chosen ≡ s.chosen))

-- it chooses this task under the wait lock: the next of its batch, which it removes from the list, or the first waiter, which is a writer
abbrev pub ChoosesBy : List Waiter → Change → (locked : ℕ) → SemPart → (s s' : WakeStands) → Type 0
ChoosesBy q c locked p s s' = (t : ℕ) × (s'.chosen ≡ s.chosen ++ t ∷ []) × (locked ≡ 1) × (((c ≡ Leave t) × Picks p q t) ⊎ ((first_code q ≡ t + 1) × (first_writes q ≡ 1)))

-- who looked under the wait lock without a choice: it reserved a bias, or nobody waits, or a writer is the first and the pass itself reads
abbrev pub PaysBy : (n : ℕ) → List Waiter → (locked : ℕ) → SemPart → SemPart → Type 0
PaysBy n q locked p p' = (locked ≡ 1) × (((p.sem.bias ≡ Clear) × (p'.sem.bias ≡ Reserve n)) ⊎ (first_code q ≡ 0) ⊎ ((p.held ≡ Shared) × (first_writes q ≡ 1)))

-- the wake word of a task that it had chosen is set
abbrev pub SetsBy : (words' : List ℕ) → (s s' : WakeStands) → Type 0
SetsBy words' s s' = SetsChosen words' (λ t. (1 ≤ times t s.chosen) × (s'.chosen ≡ less t s.chosen)) s.wakes s'.wakes

-- the wake word of this task is set, which it had chosen: the choice ends, and is counted
abbrev pub SetsTask : ℕ → (s s' : WakeStands) → Type 0
SetsTask t s s' = (1 ≤ times t s.chosen) × (s'.chosen ≡ less t s.chosen) × (s'.wakes ≡ raised true s.wakes)

-- who is awake from then on: it enters the list, or it found its own wake word set when it was to sleep
abbrev pub WokenBy : Change → (words : List ℕ) → (locked : ℕ) → SemPart → (s s' : WakeStands) → Type 0
WokenBy c words locked p s s' = ((w : Waiter) × (c ≡ Enter w)) ⊎ (((t : ℕ) × (p.task ≡ Some t) × (1 ≤ wake_word words t)) × (locked ≡ 0) × (s'.dozes ≡ s.dozes))

-- a reader that was granted holds by that
abbrev pub HearsBy : (grants : List ℕ) → SemPart → SemPart → Type 0
HearsBy grants p p' = (p.sem.wait ≡ Reads) × (granted_of grants p ≡ 1) × (p'.held ≡ Shared)

-- a pass that falls asleep leaves nothing undone: it holds nothing, owes no wake, has chosen nobody, has no bias in the count, and waits
abbrev pub LeavesNothing : SemPart → WakeStands → Type 0
LeavesNothing p s = (p.held ≡ No) × (s.owing ≡ false) × (s.chosen ≡ []) × (p.sem.bias ≡ Clear) × ((p.sem.wait ≡ Reads) ⊎ (p.sem.wait ≡ Writes))

-- who waits from then on, or waits no more: its waiter enters; or its task leaves the list, or it is a reader that was granted, and holds by that
abbrev pub QueuesBy : Change → (grants : List ℕ) → SemPart → SemPart → (s' : WakeStands) → Type 0
QueuesBy c grants p p' s' = (((w : Waiter) × (c ≡ Enter w)) × (s'.queued ≡ 1)) ⊎ ((((t : ℕ) × (c ≡ Leave t) × (p.task ≡ Some t)) ⊎ HearsBy grants p p') × (s'.queued ≡ 0))

-- who may sleep from then on, or waits no more: its task leaves the list; or it is a reader that was granted, and holds by that; or one that isn't granted; or a writer that found a count that isn't
-- free, or isn't the first
abbrev pub TiresBy : (n : ℕ) → List Waiter → Change → (grants : List ℕ) → SemPart → SemPart → Type 0
TiresBy n q c grants p p' = ((t : ℕ) × (c ≡ Leave t) × (p.task ≡ Some t))
    ⊎ HearsBy grants p p'
    ⊎ ((p.sem.wait ≡ Reads) × (granted_of grants p ≡ 0))
    ⊎ ((p.sem.wait ≡ Writes) × ((is_left n ≡ false) ⊎ ((t : ℕ) → p.task ≡ Some t → first_code q ≢ t + 1)))

-- A wake word changes by the pass of its own task, or by one that has chosen it. Nobody owes but by a step that leaves a wake to be done, and who leaves one so owes it; a debt ends by a choice, or
-- because there is nobody to choose. Each choice stands until the wake word of its task is set, which ends it and is counted. Who enters waits until it leaves the list or holds. A task falls asleep
-- only while it waits, isn't to try any more, and leaves nothing undone, and it is to try once it enters, or once it finds its wake word set.
pub record WakesGo (n n' : ℕ) (q : List Waiter) (c : Change) (grants words words' : List ℕ) (locked : ℕ) (p p' : SemPart) (s s' : WakeStands) : Type 0 where
  pub words_go : (t : ℕ) → t < MAX_TASKS → WordGoes words words' p.task locked s.queued s.awake (λ u. 1 ≤ times u s.chosen) t
  pub owes : s.owing ≡ false → s'.owing ≡ true → OwesBy n' q c p p'
  pub must : MustOwe n' q c p p' s s' → s'.owing ≡ true
  pub pays : s.owing ≡ true → (s'.owing ≡ true) ⊎ ChoosesBy q c locked p s s' ⊎ PaysBy n q locked p p'
  pub chooses : (s'.chosen ≡ s.chosen) ⊎ ChoosesBy q c locked p s s' ⊎ SetsBy words' s s'
  pub sets : (t : ℕ) → t < MAX_TASKS → wake_word words t ≡ 0 → wake_word words' t ≡ 1 → SetsTask t s s'
  pub wakes : s'.wakes ≢ s.wakes → SetsBy words' s s'
  pub dozes : s'.dozes ≢ s.dozes → DozesOff words p.task locked s.queued s.awake s'.awake s.dozes s'.dozes × LeavesNothing p s
  pub queues : s'.queued ≢ s.queued → QueuesBy c grants p p' s'
  pub enters : (w : Waiter) → c ≡ Enter w → s'.awake ≡ 1
  pub again : (t : ℕ) → t < MAX_TASKS → p.task ≡ Some t → wake_word words t ≡ 1 → wake_word words' t ≡ 0 → s'.awake ≡ 1
  pub wakes_it : s.awake ≡ 0 → s'.awake ≡ 1 → WokenBy c words locked p s s'
  pub tires : s.awake ≡ 1 → s'.awake ≡ 0 → TiresBy n q c grants p p'
