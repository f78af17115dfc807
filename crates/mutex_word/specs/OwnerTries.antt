-- Tries and releases, which are loops of exchanges of the owner word: what they may do, and what they leave.
use Rattle.std.specs.Prelude.{◌/◌, ◌⊎◌, ◌≡◌, ℕ, ◌+◌, ◌*◌, ◌%◌, ◌<◌, ◌≤◌, Bool, true, false, List, Option, Some, None}
use Rattle.word_bits.specs.declared.TheConstants.{MAX_TASKS}
use Rattle.word_bits.specs.OwnerWord.{task_code}
use Rattle.word_bits.specs.Objects.{Obj}
use Rattle.word_bits.specs.Histories.{Plan}
use Rattle.lock_core.specs.Holding.{missed, released}
use Rattle.lock_core.specs.Pasts.{FoundAt, FoundAtStep}
use Rattle.mutex_word.specs.declared.host.Turn.TheVariants.{Hand as HandOn}
use Rattle.mutex_word.specs.declared.tries.Tried.{Tried}
use Rattle.mutex_word.specs.declared.tries.Tried.TheVariants.{Took, Asked, Failed}
use Rattle.mutex_word.specs.declared.word_steps.Try.{Try}
use Rattle.mutex_word.specs.declared.word_steps.Try.TheVariants.{Take as Taking, Ask as Asking, Fail as Failing}
use Rattle.mutex_word.specs.Holders.{IsShut, IsAsk, TakesOwner, turns}
use Rattle.mutex_word.specs.Types.{View, Hand, No, Moment, Turn, Fail, Take, Ask, Free}

-- a word that can stand there
pub record IsLawful (n : ℕ) : Type 0 where
  pub small : n < 8 * MAX_TASKS + 8
  pub nobody : n < 8 → n < 2
  pub flags : n % 8 < 6

-- a try fails at the word: it can't take, and doesn't ask or finds that somebody did
abbrev pub IsFail : Bool → Option ℕ → ℕ → Type 0
IsFail asks task n = IsShut task n × (asks ≡ true → 2 ≤ n % 8)

-- what a try that takes makes of a word: of one without a task, or of one that picks its own
abbrev pub IsTake : ℕ → ℕ → ℕ → Type 0
IsTake t n m = ((n < 8) × (m ≡ 8 * (t + 1) + n)) ⊎ ((4 ≤ n % 8) × (n / 8 ≡ t + 1) × (m + 4 ≡ n))

-- a word that a try takes: it names nobody, or picks the task
abbrev pub IsOpen : Option ℕ → ℕ → Type 0
IsOpen task n = (n < 8) ⊎ ((4 ≤ n % 8) × (n / 8 ≡ task_code task))

-- what may be left by a pass that ends its hold: flags alone, or the code of a waiter that is picked
abbrev pub IsLeft : ℕ → Type 0
IsLeft m = (m < 2) ⊎ ((m < 8 * MAX_TASKS + 8) × (8 ≤ m) × (4 ≤ m % 8) × (m % 8 < 6))

-- the word of a pass that holds
abbrev pub IsMine : Option ℕ → ℕ → Type 0
IsMine task n = (n < 8 * MAX_TASKS + 8) × (n % 8 < 4) × (n / 8 ≡ task_code task)

-- what a release makes of a word: nothing where a handoff is asked for
abbrev pub IsReleased : ℕ → Option ℕ → Type 0
IsReleased n None = 2 ≤ n % 8
IsReleased n (Some m) = (n % 8 < 2) × (m ≡ n % 8)

-- what handing over to the first waiter, or to nobody, makes of a word
abbrev pub IsHanded : Option ℕ → ℕ → ℕ → Type 0
IsHanded None n m = m ≡ n % 2
IsHanded (Some first) n m = m ≡ 8 * (first + 1) + 4 + n % 2

-- what the answer of the table of tries says of the word
abbrev pub Says : Bool → Option ℕ → ℕ → Try → Type 0
Says asks task n (Taking m) = (t : ℕ) × (task ≡ Some t) × IsTake t n m
Says asks task n (Asking m) = (asks ≡ true) × IsAsk n m
Says asks task n Failing = IsFail asks task n

-- a failed try saw the word at the step of this number, and keeps it where it counts
abbrev pub missing : Bool → Hand → ℕ → ℕ → Hand
missing true h word step = missed h word step
missing false h word step = h

module _ {E : Type 0} where
  -- the same, after so many steps
  abbrev pub at_step : View E → ℕ → View E
  at_step v s = record v { steps = s }

-- a pass with this view, whose failed try is counted, holds nothing, and the host lets it miss
abbrev pub MayMiss : {E : Type 0} → (View E → Type 0) → (counts : Bool) → View E → Type 0
MayMiss may_miss counts v = counts ≡ true → (v.hand.held ≡ No) × may_miss v

module _ {E : Type 0} (may_own : Turn → View E → ℕ → ℕ → Type 0) (may_miss : View E → Type 0) where
  -- a pass with this view may fail
  abbrev pub MayFail : (asks counts : Bool) → View E → Type 0
  MayFail asks counts v = (n : ℕ) → IsFail asks v.hand.task n → may_own Fail v n n × MayMiss may_miss counts v

  -- a pass with this view may try, whatever steps it makes meanwhile
  pub record MayTry (asks counts : Bool) (v : View E) : Type 0 where
    pub fails : (s : ℕ) → MayFail asks counts (at_step v s)
    pub takes : (s t n m : ℕ) → v.hand.task ≡ Some t → IsTake t n m → may_own Take (at_step v s) n m
    pub begs : asks ≡ true → (s n m : ℕ) → IsAsk n m → may_own Ask (at_step v s) n m

module _ {E : Type 0} (may_own : Turn → View E → ℕ → ℕ → Type 0) where
  -- it may release its word to the flags, unless a handoff is asked for
  abbrev pub MayRelease : View E → Type 0
  MayRelease v = (s n m : ℕ) → IsMine v.hand.task n → n % 8 < 2 → m ≡ n % 8 → may_own Free (at_step v s) n m

  -- it may hand its word over to this waiter, or to nobody
  abbrev pub MayHandOver : Option ℕ → View E → Type 0
  MayHandOver first v = (s n m : ℕ) → IsMine v.hand.task n → IsHanded first n m → may_own HandOn (at_step v s) n m

module _ {E : Type 0} (turned : Turn → View E → E) where
  -- it saw a word, at which it failed or not
  pub record SawWord (asks counts : Bool) (v : View E) (n : ℕ) (u : View E) : Type 0 where
    pub step : ℕ
    pub later : v.steps ≤ step
    pub lawful : IsLawful n
    pub fails : IsFail asks v.hand.task n → u ≡ turns turned Fail (at_step v step) (missing counts v.hand n (step + 1))
    pub on : (IsFail asks v.hand.task n → ⊥) → u ≡ at_step v step

  -- what a try came to
  abbrev pub CameTo : {Call : Type 0} → Obj Call → Plan → (asks counts : Bool) → View E → View E → Tried → Type 0
  CameTo o k asks counts v u Took = (s : ℕ) × (v.steps ≤ s) × TakesOwner turned o k (at_step v s) u
  CameTo o k asks counts v u Asked = (s : ℕ) × (v.steps ≤ s) × (asks ≡ true) × (u ≡ turns turned Ask (at_step v s) v.hand)
  CameTo o k asks counts v u (Failed n) = (s : ℕ) × (v.steps ≤ s) × IsLawful n × IsFail asks v.hand.task n × (u ≡ turns turned Fail (at_step v s) (missing counts v.hand n (s + 1)))

  -- what one exchange came to; a word at which it fails is left as it is
  abbrev pub Acted : {Call : Type 0} → Obj Call → Plan → (asks : Bool) → View E → View E → ℕ → Tried → Type 0
  Acted o k asks v u n Took = (IsFail asks v.hand.task n → ⊥) × TakesOwner turned o k v u
  Acted o k asks v u n Asked = (IsFail asks v.hand.task n → ⊥) × (asks ≡ true) × (u ≡ turns turned Ask v v.hand)
  Acted o k asks v u n (Failed m) = (m ≡ n) × IsFail asks v.hand.task n × (u ≡ v)

  -- it holds nothing, and has left this word by this turn
  abbrev pub Left : Turn → View E → ℕ → View E → Type 0
  Left t v word u = u ≡ turns turned t v (released v.hand word)

  -- it has released its word to these flags
  abbrev pub ReleasedTo : View E → ℕ → View E → Type 0
  ReleasedTo v m u = (m < 2) × ((s : ℕ) × (v.steps ≤ s) × Left Free (at_step v s) m u)

  -- it has handed its word over to this waiter, or to nobody
  abbrev pub HandsOver : Option ℕ → View E → View E → Type 0
  HandsOver first v u = (s n m : ℕ) × (v.steps ≤ s) × IsMine v.hand.task n × IsHanded first n m × Left HandOn (at_step v s) m u

-- the pass's last step found a word at this place that a try of the task takes
abbrev pub FindsOpen : (place : ℕ) → Option ℕ → List Moment → Type 0
FindsOpen place task past = (n : ℕ) × FoundAt place n past × IsOpen task n

-- each of the steps behind the first number and below the second, of the pass that has the task's number, found a word at this place by which no handoff is asked for
abbrev pub FindsUnasked : Option ℕ → (place begun done : ℕ) → (old new : List Moment) → Type 0
FindsUnasked task place begun done old new = (step : ℕ) → begun < step → step < done → (n : ℕ) × FoundAtStep task step place n old new × (n % 8 < 2)

-- the pass's last step found its word at this place, with no handoff asked for, and left these flags of it
abbrev pub LeavesFlags : (place : ℕ) → Option ℕ → ℕ → List Moment → Type 0
LeavesFlags place task flags past = (n : ℕ) × FoundAt place n past × IsMine task n × (n % 8 < 2) × (flags ≡ n % 8)

-- the pass's last step found its word at this place, and left what handing over to this waiter, or to nobody, makes of it
abbrev pub LeavesHanded : (place : ℕ) → Option ℕ → (first : Option ℕ) → (left : ℕ) → List Moment → Type 0
LeavesHanded place task first left past = (n : ℕ) × FoundAt place n past × IsMine task n × IsHanded first n left

module _ {E : Type 0} where
  -- it found its word with a handoff asked for, and has only looked
  abbrev pub FindsAsked : View E → ℕ → View E → Type 0
  FindsAsked v n u = IsMine v.hand.task n × (2 ≤ n % 8) × ((s : ℕ) × (v.steps ≤ s) × (u ≡ at_step v s))
