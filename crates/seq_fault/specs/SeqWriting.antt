-- What a changing call leaves.
use Rattle.std.specs.Prelude.{◌≡◌, ◌+◌, ◌≤◌, false, List, [], ◌∷◌, ◌++◌, length, take, slice_get, Some}
use Rattle.seq_fault.specs.Types.{Entry, CallWords, Reply, Hand}
use Rattle.word_bits.specs.Objects.{Obj}
use Rattle.word_bits.specs.Histories.{Plan, state_after}
use Rattle.lock_core.specs.Records.{row}
use Rattle.lock_core.specs.Views.{OwesNoSignal, next_entry}

-- the pass is at the same call, with the same log and the same records, and hasn't come to hold meanwhile
pub record SameCall (h g : Hand) : Type 0 where
  pub log : g.log ≡ h.log
  pub task : g.task ≡ h.task
  pub done : g.done ≡ h.done
  pub sent : g.sent ≡ h.sent
  pub consumed : g.consumed ≡ h.consumed
  pub records : g.records ≡ h.records
  pub takes : g.takes ≡ h.takes

module _ {Call : Type 0} (o : Obj Call) (k : Plan) where
  -- the next call of the pass's task changes the object
  pub record HasNextChange (h : Hand) : Type 0 where
    pub words : CallWords
    pub call : Call
    pub planned : slice_get (row k (next_entry h).task) (next_entry h).call ≡ Some words
    pub is : o.call_of words ≡ Some call
    pub changes : o.reads call ≡ false

  -- The call's reply is its meaning on the state after this log, to which it is appended, and its record stands at the end of this log. The pass has then seen the call too, has its number as before,
  -- one call more of its task is done, and it owes no signal.
  pub record Appends (log : List Entry) (h : Hand) (reply : Reply) (g : Hand) : Type 0 where
    pub words : CallWords
    pub call : Call
    pub planned : slice_get (row k (next_entry h).task) (next_entry h).call ≡ Some words
    pub is : o.call_of words ≡ Some call
    pub replies : reply ≡ (o.meaning (state_after o k log) call).1
    pub seen : g.seen ≡ log ++ next_entry h ∷ []
    pub task : g.task ≡ h.task
    pub done : g.done ≡ h.done + 1
    pub records : g.records ≡ record { entry = next_entry h; rec = record { k = length log; reply = reply } } ∷ h.records
    pub owes : OwesNoSignal g

  -- the same on the log that the pass has learnt
  abbrev pub Changes : Hand → Reply → Hand → Type 0
  Changes h reply g = Appends h.log h reply g

  -- the same on a log that goes on from what the pass had seen; it came to hold once
  pub record Writes (h : Hand) (reply : Reply) (g : Hand) : Type 0 where
    pub log : List Entry
    pub begins : (length h.seen ≤ length log) × (take (length h.seen) log ≡ h.seen)
    pub appends : Appends log h reply g
    pub takes : g.takes ≡ h.takes + 1
