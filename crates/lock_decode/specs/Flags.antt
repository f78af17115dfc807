-- The flags that an owner word can have.
use Rattle.std.specs.Prelude.{◌≡◌, ◌⊎◌, Bool, true, false}
use Rattle.lock_decode.specs.declared.why.Why.{Why}
use Rattle.lock_decode.specs.declared.why.Why.TheVariants.{UnusedBit, NoSuchTask, FlagOfNobody, FlagWithoutWaiters, AskedAndPicked, ReadFail, TooManyReaders, NodeOfNoCpu, LockedByte, PendingByte}

-- HANDOFF and PICKUP are never both set, and either needs a task and waiters
pub record AreFlags (named waiters handoff pickup : Bool) : Type 0 where
  pub once : handoff ≡ true → pickup ≡ false
  pub asks : handoff ≡ true → (named ≡ true) × (waiters ≡ true)
  pub picks : pickup ≡ true → (named ≡ true) × (waiters ≡ true)

-- what a reason says of flags
abbrev pub BreaksFlags : Why → (named waiters handoff pickup : Bool) → Type 0
BreaksFlags AskedAndPicked named waiters handoff pickup = (handoff ≡ true) × (pickup ≡ true)
BreaksFlags FlagOfNobody named waiters handoff pickup = (named ≡ false) × ((handoff ≡ true) ⊎ (pickup ≡ true))
BreaksFlags FlagWithoutWaiters named waiters handoff pickup = (waiters ≡ false) × ((handoff ≡ true) ⊎ (pickup ≡ true))
BreaksFlags UnusedBit named waiters handoff pickup = ⊥
BreaksFlags NoSuchTask named waiters handoff pickup = ⊥
BreaksFlags ReadFail named waiters handoff pickup = ⊥
BreaksFlags TooManyReaders named waiters handoff pickup = ⊥
BreaksFlags NodeOfNoCpu named waiters handoff pickup = ⊥
BreaksFlags LockedByte named waiters handoff pickup = ⊥
BreaksFlags PendingByte named waiters handoff pickup = ⊥
