-- What a step of a wake makes of its pass, and when it may be made.
use Rattle.std.specs.Prelude.{◌≡◌, ℕ, ◌+◌, ◌*◌, ◌/◌, ◌%◌, ◌≤◌, ◌==◌, Bool, false, List, [], ◌∷◌, length, slice_index, ◌<◌, if◌then◌else◌}
use Rattle.atomic_table.specs.Table.{Step}
use Rattle.word_bits.specs.declared.TheConstants.{MAX_TASKS}
use Rattle.word_bits.specs.Histories.{Plan}
use Rattle.lock_core.specs.Records.{bit}
use Rattle.lock_core.specs.SitePlays.{Sat, Turns}
use Rattle.wait_list.specs.Lists.{Knows, first_code, list_part}
use Rattle.rwsem_count.specs.Counts.{shared_weight, early_weight, late_weight}
use Rattle.rwsem_wake.specs.SemParts.{SemPart, IsWhole, some_of, transit_weight}
use Rattle.rwsem_wake.specs.Types.{View, Hand, ListHand, Waiter, SemWake, Bias, Clear, Transit, Reserve, SemHand, Apart, Stage, Rest, Armed, Overdue, Marked, Removing, Summing, Counted, Granting}

module _ {E : Type 0} (sem : E → SemHand) where
  -- what of a host's view concerns the semaphore
  abbrev pub sem_part : View E → SemPart
  sem_part v = record { task = v.hand.task; held = v.hand.held; sem = sem v.ext }

  -- what its view has of it
  abbrev pub sem_at : View E → SemHand
  sem_at v = sem v.ext

-- what its view knows of wakes
abbrev pub wake_at : {E : Type 0} → (E → SemWake) → View E → SemWake
wake_at wake v = wake v.ext

module _ {E : Type 0} (with_sem : E → SemHand → E) where
  -- a step that gives a pass this hand and this part
  abbrev pub semmed : View E → Hand → SemHand → View E
  semmed v h s = record v { hand = h; steps = v.steps + 1; ext = with_sem v.ext s }

  -- after one step nothing but the part has changed
  abbrev pub TurnsTo : View E → SemHand → View E → Type 0
  TurnsTo v s u = u ≡ semmed v v.hand s

  -- so it is, by a step that found a word of which this holds
  abbrev pub Did : (View E → ℕ → SemHand) → (ℕ → Type 0) → Step (Unit {0}) → Sat E → ℕ → Sat E → Type 0
  Did does tells st m n m' = tells n × Turns m (semmed m.0 m.0.hand (does m.0 n)) m'

abbrev pub anything : ℕ → Type 0
anything n = Unit {0}

-- whether the addition of a waker's bias saw HANDOFF
abbrev pub saw_handoff : Bias → Bool
saw_handoff Clear = false
saw_handoff (Transit word) = false
saw_handoff (Reserve word) = word / 4 % 2 == 1

abbrev pub tail : List ℕ → List ℕ
tail [] = []
tail (x ∷ xs) = xs

-- what becomes of the part

abbrev pub armed : SemHand → SemHand
armed s = record s { stage = Armed }

abbrev pub reserved : SemHand → ℕ → SemHand
reserved s word = record s { bias = Reserve word; stage = Overdue (word / 4 % 2 == 1) }

abbrev pub unreserved : SemHand → SemHand
unreserved s = record s { bias = Clear; stage = Rest }

abbrev pub marked : SemHand → SemHand
marked s = record s { stage = Marked (saw_handoff s.bias) }

abbrev pub summing : SemHand → SemHand
summing s = record s { stage = Summing }

-- the mark was loaded: nobody is marked where it is 0
abbrev pub unmarked : SemHand → ℕ → SemHand
unmarked s mark = if mark == 0 then record s { stage = Summing } else s

-- What a batch adds to the count, and what it takes from it: 256 for each reader, less the reserved bias, less HANDOFF, and less WAITERS where the list is empty
abbrev pub gains : SemHand → List Waiter → ℕ
gains s q = 256 * length s.rest + 2 * some_of q

abbrev pub losses : SemHand → ℕ → ℕ
losses s handoff = 256 * early_weight s.bias + (4 * handoff + 2)

abbrev pub counted : SemHand → SemHand
counted s = record s { bias = Clear; stage = Granting }

-- the count was loaded: where the batch makes nothing of it, it is in it already
abbrev pub looked : SemHand → List Waiter → ℕ → SemHand
looked s q word = if losses s (word / 4 % 2) == gains s q then counted s else record s { stage = Counted (word / 4 % 2 == 1) }

abbrev pub granting_on : List ℕ → Stage
granting_on [] = Rest
granting_on (x ∷ xs) = Granting

abbrev pub granted : SemHand → SemHand
granted s = record s { rest = tail s.rest; stage = granting_on (tail s.rest) }

-- when a step may be made

-- a reader that is to queue, and is about nothing yet
pub record MayArm (s : SemHand) : Type 0 where
  pub stage : s.stage ≡ Rest
  pub apart : s.wait ≡ Apart

-- a waker that is about nothing yet may reserve a bias, where it knows that somebody waits
pub record MayReserve {E : Type 0} (list : E → ListHand) (sem : E → SemHand) (v : View E) : Type 0 where
  pub stage : (sem v.ext).stage ≡ Rest
  pub clear : (sem v.ext).bias ≡ Clear
  pub knows : Knows (list_part list v)
  pub waiting : 1 ≤ length (list v.ext).list

-- it has reserved one, found this count, and done nothing since
abbrev pub IsReserved : SemHand → ℕ → Type 0
IsReserved s word = (s.bias ≡ Reserve word) × (s.stage ≡ Overdue (word / 4 % 2 == 1))

-- the same, whatever the count was
abbrev pub HasReserved : SemHand → Type 0
HasReserved s = (word : ℕ) × IsReserved s word

-- the same, where the count had a writer
abbrev pub HasFoundWriter : SemHand → Type 0
HasFoundWriter s = (word : ℕ) × IsReserved s word × (word % 2 ≡ 1)

-- it has marked the first waiter since, and HANDOFF was set before or not
pub record HasMarked (s : SemHand) (handoff : Bool) : Type 0 where
  pub word : ℕ
  pub written : word % 2 ≡ 1
  pub bias : s.bias ≡ Reserve word
  pub stage : s.stage ≡ Marked handoff

-- it knows that this task waits first
pub record KnowsFirst {E : Type 0} (list : E → ListHand) (v : View E) (task : ℕ) : Type 0 where
  pub knows : Knows (list_part list v)
  pub first : first_code (list v.ext).list ≡ task + 1

-- this task is the next of its batch, at this stage
abbrev pub IsNext : SemHand → Stage → ℕ → Type 0
IsNext s stage task = (s.stage ≡ stage) × ((ts : List ℕ) × (s.rest ≡ task ∷ ts))

-- its own shared hold or the bias that it reserved keeps writers out
abbrev pub KeepsOut : {E : Type 0} → (E → SemHand) → View E → Type 0
KeepsOut sem v = (shared_weight v.hand.held + early_weight (sem v.ext).bias ≡ 1) × (late_weight (sem v.ext).bias ≡ 0) × (transit_weight (sem v.ext).bias ≡ 0)

-- its batch is a whole one, which has left the list that it knows
abbrev pub HasWholeBatch : {E : Type 0} → (E → ListHand) → (E → SemHand) → View E → Type 0
HasWholeBatch list sem v = IsWhole (sem v.ext).rest (list v.ext).list

-- it has loaded the count, and is to add this for its batch, which isn't empty, less that
pub record MaySum {E : Type 0} (list : E → ListHand) (sem : E → SemHand) (v : View E) (gain loss : ℕ) : Type 0 where
  pub handoff : Bool
  pub stage : (sem v.ext).stage ≡ Counted handoff
  pub some : 0 < length (sem v.ext).rest
  pub few : length (sem v.ext).rest ≤ MAX_TASKS
  pub is : gain + losses (sem v.ext) (bit handoff) ≡ loss + gains (sem v.ext) (list v.ext).list

-- these are tasks of the plan
abbrev pub AreTaskNumbers : Plan → List ℕ → Type 0
AreTaskNumbers k batch = (i : ℕ) → i < length batch → slice_index batch i < length k

-- the batch is in the count, and none of it is granted
pub record IsGranting (s : SemHand) (batch : List ℕ) : Type 0 where
  pub stage : s.stage ≡ granting_on batch
  pub clear : s.bias ≡ Clear
  pub rest : s.rest ≡ batch

-- the batch, which isn't empty, is removed from the list, and more of it has not been done
pub record IsRemoved (s : SemHand) (batch : List ℕ) : Type 0 where
  pub stage : s.stage ≡ Removing
  pub rest : s.rest ≡ batch
  pub some : 0 < length batch
  pub few : length batch ≤ MAX_TASKS

-- these of the batch aren't granted yet
abbrev pub still_granting : SemHand → List ℕ → SemHand
still_granting s rest = record s { bias = Clear; rest = rest; stage = granting_on rest }

-- the whole batch is granted
abbrev pub all_granted : SemHand → SemHand
all_granted s = record s { bias = Clear; rest = []; stage = Rest }

module _ {E : Type 0} (with_sem : E → SemHand → E) (with_wake : E → SemWake → E) where
  -- a step that gives a pass this hand and this part, and what it knows of wakes then
  abbrev pub with_changes : View E → Hand → SemHand → SemWake → View E
  with_changes v h s b = record v { hand = h; steps = v.steps + 1; ext = with_wake (with_sem v.ext s) b }

  -- after one step nothing but the part and what it knows of wakes has changed
  abbrev pub ChangesTo : View E → SemHand → SemWake → View E → Type 0
  ChangesTo v s b u = u ≡ with_changes v v.hand s b

  -- so it is, by a step that found a word of which this holds
  abbrev pub StepChanges : (View E → ℕ → SemHand) → (View E → ℕ → SemWake) → (ℕ → Type 0) → Step (Unit {0}) → Sat E → ℕ → Sat E → Type 0
  StepChanges does attends tells st m n m' = tells n × Turns m (with_changes m.0 m.0.hand (does m.0 n) (attends m.0 n)) m'

module _ {E : Type 0} (with_sem : E → SemHand → E) where
  -- after some steps nothing but the part has changed
  abbrev pub OnlySem : View E → SemHand → View E → Type 0
  OnlySem v s u = u ≡ record v { steps = u.steps; ext = with_sem v.ext s }
