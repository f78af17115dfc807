-- The state that a holder knows, and what calls make of it.
use Rattle.std.specs.Prelude.{◌≡◌, ◌≢◌, ℕ, List}
use Rattle.guarded.specs.Types.{Errno, Reply, Refused, Hand}
use Rattle.word_bits.specs.Objects.{Obj}
use Rattle.word_bits.specs.Histories.{Plan, state_after}

module _ {Call : Type 0} (o : Obj Call) (k : Plan) (h : Hand) where
  -- the state after the log
  abbrev pub state_in : o.State
  state_in = state_after o k h.log

  -- what a call replies on it
  abbrev pub reply_in : Call → Reply
  reply_in call = (o.meaning state_in call).1

  -- the words that store what a call makes of it
  abbrev pub words_after : Call → List ℕ
  words_after call = o.stores (o.meaning state_in call).0

  -- the call led from some state to this one, and replied so
  abbrev pub WasDone : Call → Reply → Type 0
  WasDone call reply = (s : o.State) × o.IsState s × ((o.meaning s call).0 ≡ state_in) × (reply ≡ (o.meaning s call).1)

  -- this is what the call replied, if it led to this state and wasn't refused
  abbrev pub Confirms : Call → Reply → Type 0
  Confirms call found = (reply : Reply) → WasDone call reply → ((errno : Errno) → reply ≢ Refused errno) → found ≡ reply
