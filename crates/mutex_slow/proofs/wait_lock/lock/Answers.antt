use Rattle.std.proofs.Common.{inl, refl}
use Rattle.mutex_slow.proofs.wait_lock.lock.Goals as goal

pub lock-requires-clause-told : goal.lock-requires-clause-told
lock-requires-clause-told g c = inl refl
