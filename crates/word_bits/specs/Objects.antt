-- An object: its states, its calls and what they mean.
use Rattle.std.specs.Prelude.{ℕ, ◌<◌, ◌^◌, Bool, List, Option}
use Rattle.word_bits.specs.declared.call.CallWords.{CallWords}
use Rattle.word_bits.specs.declared.reply.Reply.{Reply}
use Rattle.word_bits.specs.declared.reply.Reply.TheVariants.{Good, Num, Refused, MapErr, AccErr, Busy, Intr, Sent}

pub record Obj (Call : Type 0) : Type 1 where
  pub State : Type 0
  -- the states that calls lead to
  pub IsState : State → Type 0
  pub empty : State
  -- the valid calls
  pub IsCall : Call → Type 0
  -- which words are which call
  pub call_of : CallWords → Option Call
  pub reads : Call → Bool
  -- the next state, and the reply
  pub meaning : State → Call → State × Reply
  -- the words that store a state
  pub stores : State → List ℕ
  -- which words represent a state: so the guarded words are while nobody writes
  pub Represents : State → List ℕ → Type 0

-- what an object may reply: none of the replies of calls that never held a lock
abbrev pub IsObjectReply : Reply → Type 0
IsObjectReply Good = Unit {0}
IsObjectReply (Num n) = n < 2 ^ 22
IsObjectReply (Refused e) = Unit {0}
IsObjectReply MapErr = Unit {0}
IsObjectReply AccErr = Unit {0}
IsObjectReply (Busy w) = ⊥
IsObjectReply Intr = ⊥
IsObjectReply Sent = ⊥
