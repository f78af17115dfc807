-- What a step of a task that queues makes of its pass, and when it may be made.
use Rattle.std.specs.Prelude.{◌≡◌, ℕ, ◌+◌, ◌/◌, ◌%◌, ◌≤◌, ◌⊎◌, ◌==◌, ◌↔◌, Bool, true, false, List, [], length, Some, if◌then◌else◌}
use Rattle.word_bits.specs.Objects.{Obj}
use Rattle.word_bits.specs.Histories.{Plan}
use Rattle.lock_core.specs.Holding.{Learns}
use Rattle.lock_core.specs.SitePlays.{Sat, Turns}
use Rattle.lock_core.specs.Views.{took}
use Rattle.wait_list.specs.Lists.{Knows, first_code, list_part}
use Rattle.rwsem_count.specs.CountWordSteps.{HasFlags, HasHandoff, IsLocked}
use Rattle.rwsem_wake.specs.Grants.{KnowsFirst, with_changes}
use Rattle.rwsem_wake.specs.Types.{Entry, View, Held, ListHand, SemWake, Clear, Transit, SemHand, Apart, Reads, Writes, Rest, Armed, Marking, Took, Summing}

-- what becomes of the part

abbrev pub rested : SemHand → SemHand
rested s = record s { stage = Rest }

-- an exchange of a count for one with HANDOFF found this one
abbrev pub asked : SemHand → (old found : ℕ) → SemHand
asked s old found = if found == old then record s { stage = Marking } else s

-- an exchange of a count for one with a writer found this one
abbrev pub taken : SemHand → (old found : ℕ) → SemHand
taken s old found = record s { stage = if found == old then Took else Rest }

-- who left the list loaded its own mark
abbrev pub own_unmarked : SemHand → ℕ → SemHand
own_unmarked s mark = if mark == 0 then rested s else s

-- a reader loaded its grant word: where that is 0 it waits no more
abbrev pub heard : SemHand → ℕ → SemHand
heard s word = if word == 0 then record s { wait = Apart } else s

-- the same under the wait lock, where the word stays 1 until it is released
abbrev pub heard_locked : SemHand → ℕ → SemHand
heard_locked s word = if word == 0 then record s { wait = Apart } else record s { stage = Armed }

-- a reader whose bias is in the count loaded it: where there is no writer the reader holds by its bias
abbrev pub settled : SemHand → ℕ → SemHand
settled s word = if word % 2 == 0 then record s { bias = Clear } else s

module _ {E : Type 0} (with_sem : E → SemHand → E) (with_wake : E → SemWake → E) where
  -- it holds in this way, has learnt what the lock guards, has this part, and knows this of wakes
  abbrev pub GetsSem : {Call : Type 0} → Obj Call → Held → SemHand → SemWake → Sat E → Sat E → Type 0
  GetsSem o held s b m m' = (known : List ℕ) × (log : List Entry) × ((k : Plan) → m.0.hand.plan ≡ Some k → Learns o k m.0.hand known log)
      × Turns m (with_changes with_sem with_wake m.0 (took m.0.hand held known log) s b) m'

  -- the same, of the views
  abbrev pub HoldsBy : {Call : Type 0} → Obj Call → Plan → Held → SemHand → SemWake → View E → View E → Type 0
  HoldsBy o k held s b v u = (known : List ℕ) × (log : List Entry) × Learns o k v.hand known log × (u ≡ with_changes with_sem with_wake v (took v.hand held known log) s b)

  -- a step came to hold so where the number found says so, and has told this of the number
  abbrev pub HoldsWhere : {Call : Type 0} → Obj Call → Held → (gets : ℕ → Bool) → (does : ℕ → SemHand) → (attends : ℕ → SemWake) → (ℕ → Type 0) → Sat E → ℕ → Sat E → Type 0
  HoldsWhere o held gets does attends tells m n m' = tells n × (gets n ≡ true → GetsSem o held (does n) (attends n) m m')
      × (gets n ≡ false → Turns m (with_changes with_sem with_wake m.0 m.0.hand (does n) (attends n)) m')

-- the list, where it knows it, isn't empty
abbrev pub KnowsSome : {E : Type 0} → (E → ListHand) → View E → Type 0
KnowsSome list v = Knows (list_part list v) → 1 ≤ length (list v.ext).list

-- when a step may be made

-- a waiter that knows who is first, and is about nothing yet
pub record MayLook {E : Type 0} (list : E → ListHand) (sem : E → SemHand) (v : View E) (first : ℕ) : Type 0 where
  pub knows : KnowsFirst list v first
  pub stage : ((sem v.ext).stage ≡ Rest) ⊎ ((sem v.ext).stage ≡ Armed)

-- a writer of the list asks for a handoff by this count in place of that one
pub record MayAsk {E : Type 0} (list : E → ListHand) (sem : E → SemHand) (v : View E) (old new : ℕ) : Type 0 where
  pub knows : Knows (list_part list v)
  pub waiting : 1 ≤ length (list v.ext).list
  pub stage : (sem v.ext).stage ≡ Rest
  pub writes : (sem v.ext).wait ≡ Writes
  pub unasked : HasHandoff old → ⊥
  pub is : new ≡ old + 4

-- a writer of the list, which may be alone there, takes by this count in place of that one: it is the first, or no handoff is asked for, or it has seen that nobody is marked
pub record MayTake {E : Type 0} (list : E → ListHand) (sem : E → SemHand) (v : View E) (own : ℕ) (alone : Bool) (old new : ℕ) : Type 0 where
  pub knows : Knows (list_part list v)
  pub waiting : 1 ≤ length (list v.ext).list
  pub only : (alone ≡ true) ↔ (length (list v.ext).list ≡ 1)
  pub writes : (sem v.ext).wait ≡ Writes
  pub clear : (sem v.ext).bias ≡ Clear
  pub rest : (sem v.ext).rest ≡ []
  pub may : ((sem v.ext).stage ≡ Summing) ⊎ (((sem v.ext).stage ≡ Rest) × ((HasHandoff old → ⊥) ⊎ (first_code (list v.ext).list ≡ own + 1)))
  pub free : IsLocked old → ⊥
  pub flags : HasFlags old new 1 (if alone then 0 else old / 2 % 2) 0

-- it waits as a reader, and is about nothing
pub record MayHear (s : SemHand) : Type 0 where
  pub stage : s.stage ≡ Rest
  pub waits : s.wait ≡ Reads
  pub clear : s.bias ≡ Clear

-- its bias is in the count, nobody waits in the list that it knows, and it is about nothing
pub record MaySettle {E : Type 0} (list : E → ListHand) (sem : E → SemHand) (v : View E) : Type 0 where
  pub knows : Knows (list_part list v)
  pub nobody : (list v.ext).list ≡ []
  pub stage : (sem v.ext).stage ≡ Rest
  pub waits : (sem v.ext).wait ≡ Apart
  pub transit : (word : ℕ) × ((sem v.ext).bias ≡ Transit word)
