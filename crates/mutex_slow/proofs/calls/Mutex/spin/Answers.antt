use Rattle.mutex_slow.proofs.calls.Mutex.spin.Goals as goal

pub returns-clause-queue : goal.returns-clause-queue
returns-clause-queue g c = λ p t. c.unlock.ensures.on.goes_on p (c.lock.ensures.on.goes_on p t)
