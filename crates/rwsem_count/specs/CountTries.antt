-- What a step or a try of a count leaves of its pass.
use Rattle.std.specs.Prelude.{◌≡◌, ℕ, ◌+◌, ◌/◌, ◌%◌, ◌≤◌, List}
use Rattle.word_bits.specs.LockWords.{IsLawfulCount}
use Rattle.word_bits.specs.Objects.{Obj}
use Rattle.word_bits.specs.Histories.{Plan}
use Rattle.lock_core.specs.Pasts.{FoundAt}
use Rattle.lock_core.specs.Views.{handed, ticked, took}
use Rattle.lock_core.specs.Holding.{Learns, missed}
use Rattle.rwsem_count.specs.Counts.{CountPart, based}
use Rattle.rwsem_count.specs.CountWordSteps.{IsReadFree}
use Rattle.rwsem_count.specs.Types.{Entry, View, Hand, Held, Shared, Moment, Bias, Clear, Transit}

module _ {E : Type 0} where
  -- the same, after so many steps
  abbrev pub at_step : View E → ℕ → View E
  at_step v s = record v { steps = s }

  -- a try saw this word, at which it failed
  abbrev pub MissesCount : View E → ℕ → View E → Type 0
  MissesCount v word u = u ≡ handed v (missed v.hand word (v.steps + 1))

  -- a reader's try saw this word, at which it failed or not
  pub record SawCount (v : View E) (word : ℕ) (u : View E) : Type 0 where
    pub step : ℕ
    pub later : v.steps ≤ step
    pub lawful : IsLawfulCount word
    pub on : IsReadFree word → u ≡ ticked (at_step v step)
    pub fails : (IsReadFree word → ⊥) → MissesCount (at_step v step) word u

  -- a try failed at this word, after so many looks
  abbrev pub MissesSince : View E → ℕ → View E → Type 0
  MissesSince v word u = (s : ℕ) × (v.steps ≤ s) × MissesCount (at_step v s) word u

module _ {E : Type 0} (may_count : View E → CountPart → Type 0) where
  -- a pass with this view may come to hold shared, whatever steps it makes meanwhile
  abbrev pub MayReadSince : View E → Type 0
  MayReadSince v = (s : ℕ) → may_count (at_step v s) (record { held = Shared; bias = Clear })

module _ {E : Type 0} (may_miss : View E → Type 0) where
  -- its try may fail, whatever steps it makes meanwhile
  abbrev pub MayMissSince : View E → Type 0
  MayMissSince v = (s : ℕ) → may_miss (at_step v s)

module _ {E : Type 0} (counted : View E → Hand → Bias → E) where
  -- it holds in this way by its bias in the count, and has learnt what the lock guards
  abbrev pub TakesCount : {Call : Type 0} → Obj Call → Plan → Held → View E → View E → Type 0
  TakesCount o k held v u = (known : List ℕ) × (log : List Entry) × Learns o k v.hand known log × (u ≡ based counted v (took v.hand held known log) Clear)

  -- the same, after so many looks
  abbrev pub TakesSince : {Call : Type 0} → Obj Call → Plan → Held → View E → View E → Type 0
  TakesSince o k held v u = (s : ℕ) × (v.steps ≤ s) × TakesCount o k held (at_step v s) u

  -- its bias was added to a count that doesn't let readers in, and left this one; it holds nothing
  abbrev pub IsTransit : View E → (left : ℕ) → View E → Type 0
  IsTransit v left u = (word : ℕ) × (left ≡ word + 256) × IsLawfulCount word × (u ≡ based counted v (missed v.hand word (v.steps + 1)) (Transit word))

-- the step of the pass found a count that lets a reader in, before its own bias or with it
abbrev pub FindsFree : (place added : ℕ) → List Moment → Type 0
FindsFree place added past = (word : ℕ) × FoundAt place word past × IsReadFree (word + added)

-- its step left this count, which has its own bias and doesn't let readers in
abbrev pub FindsShut : (place left : ℕ) → List Moment → Type 0
FindsShut place left past = (word : ℕ) × FoundAt place word past × (left ≡ word + 256) × (IsReadFree left → ⊥)

-- its step found a count, such as may stand there, took so much from it and added so much, and left this one; all flags but the writer's stay
pub record LeftBy (place : ℕ) (may_be : ℕ → Type 0) (less more left : ℕ) (past : List Moment) : Type 0 where
  pub word : ℕ
  pub found : FoundAt place word past
  pub lawful : IsLawfulCount word
  pub fits : may_be word
  pub sum : left + less ≡ word + more
  pub flags : left / 2 % 128 ≡ word / 2 % 128
