-- What a clause reads of an object under its lock.
use Rattle.guarded.specs.declared.guarded.Guarded.{Guarded}

-- the lock, with all that it guards
abbrev pub lock_of : {L O R S P E C : Type 0} → Guarded L O R S P E C → L
lock_of g = g.lock
