-- The owner word and the passes of a table: who holds, as the word states it.
use Rattle.std.specs.Prelude.{◌/◌, ◌⊎◌, ◌≡◌, ◌≢◌, ℕ, ◌+◌, ◌*◌, ◌%◌, ◌<◌, ◌≤◌, false, List, Option, Some, None}
use Rattle.word_bits.specs.declared.TheConstants.{MAX_TASKS}
use mathlib.Core.Option.{some}
use lib.ListN.{get_elem?}
use Rattle.mutex_word.specs.Types.{Entry, Turn, Fail, Take, Ask, Free, Flag, Clear, View, Hand, Held, No, Shared, Alone}
use Rattle.word_bits.specs.OwnerWord.{task_code, owner_word}
use Rattle.word_bits.specs.Objects.{Obj}
use Rattle.word_bits.specs.Histories.{Plan}
use Rattle.mutex_word.specs.declared.host.Turn.TheVariants.{Hand as HandOn}
use Rattle.lock_core.specs.Totals.{total}
use Rattle.lock_core.specs.ViewParts.{Each}
use Rattle.lock_core.specs.Views.{held_of, handed, took}
use Rattle.lock_core.specs.Holding.{Learns, missed, released}

-- a task's own code: its word without flags
abbrev pub own_word : Option ℕ → ℕ
own_word task = owner_word (record { task = task; waiters = false; handoff = false; pickup = false })

-- its own code with some flag
abbrev pub HasFlags : Option ℕ → ℕ → Type 0
HasFlags task word = (word ≢ own_word task) × (word / 8 ≡ own_word task / 8)

-- who holds: nobody, or the one pass that has the task's number
abbrev pub IsHolder : List Hand → Option ℕ → Type 0
IsHolder hs None = Each (λ h. h.held ≡ No) hs
IsHolder hs (Some task) = (i : ℕ) × (h : Hand) × (get_elem? hs i ≡ some h) × (h.held ≡ Alone) × (h.task ≡ Some task) × ((j : ℕ) (g : Hand) → j ≢ i → get_elem? hs j ≡ some g → g.held ≡ No)

-- the word is the code of the task that holds, and 0 where none does
pub record StatesHolder (word : ℕ) (hs : List Hand) : Type 0 where
  pub holder : Option ℕ
  pub is : word ≡ own_word holder
  pub holds : IsHolder hs holder

-- what a hand adds to the owner word
abbrev pub held_code : Held → Option ℕ → ℕ
held_code No task = 0
held_code Shared task = task_code task * 8
held_code Alone task = task_code task * 8

abbrev pub code_of : Hand → ℕ
code_of h = held_code h.held h.task

-- The owner word's own facts: three flags below a task's code, which is that of the pass that holds unless the word picks the task.
pub record OwnKept (word : ℕ) (hs : List Hand) : Type 0 where
  pub small : word < 8 * MAX_TASKS + 8
  pub nobody : word < 8 → word < 2
  pub flags : word % 8 < 6
  pub one : total held_of hs ≤ 1
  pub alone : Each (λ h. h.held ≢ No → h.held ≡ Alone) hs
  pub held : word % 8 < 4 → word ≡ total code_of hs + word % 8
  pub picked : 4 ≤ word % 8 → total held_of hs ≡ 0

-- whoever ends its hold by a step keeps the word that the step left
abbrev pub KeepsLeft : Hand → Hand → ℕ → Type 0
KeepsLeft h g word = h.held ≡ Alone → g.held ≢ Alone → g.freed ≡ word

-- a try without asking fails at the word: it names another task, or names this one as its holder
abbrev pub IsShut : Option ℕ → ℕ → Type 0
IsShut task n = (8 ≤ n) × ((n % 8 < 4) ⊎ (n / 8 ≢ task_code task))

-- what a try that asks for a handoff makes of a word
abbrev pub IsAsk : ℕ → ℕ → Type 0
IsAsk n m = (n % 8 < 2) × (8 ≤ n) × (m ≡ n + 2)

-- what a change must be for the word's own facts
abbrev pub IsTurn : Turn → ℕ → ℕ → Type 0
IsTurn Fail n m = m ≡ n
IsTurn Take n m = Unit {0}
IsTurn Ask n m = IsAsk n m
IsTurn Free n m = Unit {0}
IsTurn HandOn n m = Unit {0}
IsTurn Flag n m = Unit {0}
IsTurn Clear n m = n % 8 < 4

module _ {E : Type 0} (turned : Turn → View E → E) where
  -- a step on the owner word
  abbrev pub turns : Turn → View E → Hand → View E
  turns t v h = record v { hand = h; steps = v.steps + 1; ext = turned t v }

module _ {E : Type 0} (turned : Turn → View E → E) where
  -- it holds alone, and has learnt what the lock guards
  abbrev pub TakesOwner : {Call : Type 0} → Obj Call → Plan → View E → View E → Type 0
  TakesOwner o k v u = (known : List ℕ) × (log : List Entry) × Learns o k v.hand known log × (u ≡ turns turned Take v (took v.hand Alone known log))

  -- it holds nothing, and has left this word
  abbrev pub ReleasesOwner : View E → ℕ → View E → Type 0
  ReleasesOwner v word u = u ≡ turns turned Free v (released v.hand word)

module _ {E : Type 0} where
  -- it saw this word, which isn't 0
  abbrev pub MissesOwner : View E → ℕ → View E → Type 0
  MissesOwner v word u = (word ≢ 0) × (u ≡ handed v (missed v.hand word (v.steps + 1)))
