-- Passes of a lock whose plan is one of the object that it guards.
use Rattle.word_bits.specs.Objects.{Obj}
use Rattle.word_bits.specs.Histories.{Plan}
use Rattle.lock_core.specs.Records.{IsPlan}

-- the pass is one of the lock's, and no call on it is under way, as the lock says of its passes; and the plan is one of the object
pub record SitsIdle {Call : Type 0} (o : Obj Call) (k : Plan) (Sits : Type 0) : Type 0 where
  pub own : Sits
  pub planned : IsPlan o k
