-- What the steps of a table with a sequence word leave.
use Rattle.std.specs.Prelude.{◌<◌, ◌≡◌, ◌≢◌, ◌⊎◌, ℕ, ◌+◌, ◌%◌, ◌≤◌, Bool, false, List, length, take, slice_get, Some}
use Rattle.word_bits.specs.Objects.{Obj}
use Rattle.word_bits.specs.Histories.{Plan, state_after}
use Rattle.lock_core.specs.SiteHandles.{hand_in, past_of, view_of}
use Rattle.lock_core.specs.Records.{row}
use Rattle.lock_core.specs.Holding.{Learns}
use Rattle.lock_core.specs.Layout.{length_place}
use Rattle.lock_core.specs.Pasts.{FoundAtStep}
use Rattle.lock_core.specs.Views.{handed, next_entry, ticked, took, after_seen}
use Rattle.vma_map.specs.Searches.{AgreesWith, asked}
use Rattle.vma_map.specs.Spaces.{access_reply, call_of, meaning, space}
use Rattle.seq_fault.specs.SeqPlays.{turned, glance, staled}
use Rattle.seq_fault.specs.SeqRuled.{V, seq_at}
use Rattle.seq_fault.specs.Types.{Entry, CallWords, Reply, Pass, Hand, Alone, Moment, Glance, Watch, Off, On, SpaceCall, Fault, Search}

-- it holds alone, and has learnt what the lock guards
abbrev pub EntersHold : {Call : Type 0} → Obj Call → Plan → V → V → Type 0
EntersHold o k v u = (known : List ℕ) × (log : List Entry) × Learns o k v.hand known log × (u ≡ handed v (took v.hand Alone known log))

-- it watches from this even word on, at which the guarded words stored the state after the log
abbrev pub Begins : {Call : Type 0} → Obj Call → Plan → ℕ → V → V → Type 0
Begins o k word v u = (known : List ℕ) × (log : List Entry) × Learns o k v.hand known log × (u ≡ turned v v.hand (On (glance word known log)))

abbrev pub IsWatching : V → Type 0
IsWatching v = (g : Glance) × (v.ext ≡ On g)

-- the sequence word was still the same, and so this is so of what the load found, or it was another
abbrev pub TellsSince : (Glance → Type 0) → V → V → Type 0
TellsSince so v u = (g : Glance) → v.ext ≡ On g → (so g × (u ≡ ticked v)) ⊎ (u ≡ turned v v.hand (On (staled g)))

-- it watches from this word on, and where no load came when it was another, the log of that moment has so many entries
abbrev pub IsMeasured : (before front : ℕ) → V → Type 0
IsMeasured before front v = (g : Glance) → v.ext ≡ On g → (g.word ≡ before) × (g.stale ≡ false → length g.log ≡ front)

-- the next call of the pass's task is a fault at this page by this access
pub record IsNextFault (k : Plan) (h : Hand) (page access : ℕ) : Type 0 where
  pub words : CallWords
  pub planned : slice_get (row k (next_entry h).task) (next_entry h).call ≡ Some words
  pub is : call_of words ≡ Some (Fault page access)

-- its next call is a fault
abbrev pub HasNextFault : Plan → Hand → Type 0
HasNextFault k h = (page : ℕ) × (access : ℕ) × IsNextFault k h page access

-- A search's loads were made while the pass watched from this moment on. Where none came when the sequence word was another, they found words of that moment.
pub record HasSearched (g : Glance) (s : Search) (v u : V) : Type 0 where
  pub stale : Bool
  pub is : u ≡ record v { steps = v.steps + asked s; ext = On (record g { stale = stale }) }
  pub fresh : stale ≡ false → (g.stale ≡ false) × AgreesWith g.known s

-- all that it knows is as it was, after some steps; it may watch or not
abbrev pub OnlySteps : V → V → Type 0
OnlySteps v u = (s : ℕ) × (e : Watch) × (v.steps ≤ s) × (u ≡ record v { steps = s; ext = e })

-- all that it knows is as it was, after at most so many steps; it may watch or not
pub record StepsAtMost (most : ℕ) (v u : V) : Type 0 where
  pub steps : ℕ
  pub few : steps ≤ most
  pub watch : Watch
  pub is : u ≡ record v { steps = v.steps + steps; ext = watch }

-- The pass's next call is a fault, whose words it has loaded while it watched from this even word on. Where no load came when the word was another, the log of that moment has so many entries, and the
-- call replies this in the state after it.
pub record IsOptimisticRead (k : Plan) (before front : ℕ) (reply : Reply) (v : V) : Type 0 where
  pub page : ℕ
  pub access : ℕ
  pub next : IsNextFault k v.hand page access
  pub moment : Glance
  pub on : v.ext ≡ On moment
  pub word : moment.word ≡ before
  pub learns : Learns space k v.hand moment.known moment.log
  pub long : moment.stale ≡ false → length moment.log ≡ front
  pub replies : moment.stale ≡ false → reply ≡ access_reply (state_after space k moment.log page) access

-- The next call of the pass's task is done without the lock: its reply is its meaning on the state after a log that goes on from what the pass had seen. The pass has then seen that log, and the
-- record stands at its end. So many steps were made, and one more that records.
pub record Faults (k : Plan) (v : V) (reply : Reply) (u : V) : Type 0 where
  pub log : List Entry
  pub begins : (length v.hand.seen ≤ length log) × (take (length v.hand.seen) log ≡ v.hand.seen)
  pub loads : ℕ
  pub few : loads ≤ 13
  pub words : CallWords
  pub call : SpaceCall
  pub planned : slice_get (row k (next_entry v.hand).task) (next_entry v.hand).call ≡ Some words
  pub called : call_of words ≡ Some call
  pub replies : reply ≡ (meaning (state_after space k log) call).1
  pub is : u ≡ after_seen (record v { hand = record v.hand { seen = log }; steps = v.steps + loads; ext = Off }) reply

-- Behind so many steps, the first found an even sequence word, the next one this length of the log, and the last but one, which came behind both, the same word.
pub record AtOneWord (ahead front : ℕ) (v u : V) (old new : List Moment) : Type 0 where
  pub word : ℕ
  pub even : word % 2 ≡ 0
  pub first : FoundAtStep v.hand.task (v.steps + (ahead + 1)) seq_at word old new
  pub measured : FoundAtStep v.hand.task (v.steps + (ahead + 2)) length_place front old new
  pub last : ℕ
  pub behind : ahead + 2 < last
  pub again : FoundAtStep v.hand.task (v.steps + last) seq_at word old new
  pub counted : u.steps ≡ v.steps + last + 1

-- the first word was odd, and was the only one; or it was even, and the second was another
abbrev pub IsRace : (before after : ℕ) → Type 0
IsRace before after = ((before % 2 ≡ 1) × (after ≡ before)) ⊎ ((before % 2 ≡ 0) × (after ≢ before))

-- it holds alone after some steps, and has learnt what the lock guards
abbrev pub EntersSince : {Call : Type 0} → Obj Call → Plan → V → V → Type 0
EntersSince o k v u = (s : ℕ) × (v.steps ≤ s) × EntersHold o k (record v { steps = s }) u

-- the step of this number of a pass of the site, counted from the old one on, found this number at this place
abbrev pub FindsAtStep : {R O E C : Type 0} → (count at n : ℕ) → Pass R O E C → Pass R O E C → Type 0
FindsAtStep count at n old new = FoundAtStep (hand_in old).task ((view_of old).steps + count) at n (past_of old) (past_of new)
