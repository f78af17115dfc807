-- Why no lock can have a word, in text.
use Rattle.std.specs.Prelude.{ℕ, List, codes}
use Rattle.lock_decode.specs.declared.why.Why.{Why}
use Rattle.lock_decode.specs.declared.why.Why.TheVariants.{UnusedBit, NoSuchTask, FlagOfNobody, FlagWithoutWaiters, AskedAndPicked, ReadFail, TooManyReaders, NodeOfNoCpu, LockedByte, PendingByte}

abbrev pub why_text : Why → List ℕ
why_text UnusedBit = codes "  no lock can have it: a bit is set that belongs to no field\n"
why_text NoSuchTask = codes "  no lock can have it: it names a task or CPU that can't be\n"
why_text FlagOfNobody = codes "  no lock can have it: HANDOFF and PICKUP need a task\n"
why_text FlagWithoutWaiters = codes "  no lock can have it: HANDOFF and PICKUP need WAITERS\n"
why_text AskedAndPicked = codes "  no lock can have it: HANDOFF and PICKUP are never both set\n"
why_text ReadFail = codes "  no lock can have it: the highest bit is never set here\n"
why_text TooManyReaders = codes "  no lock can have it: it counts more readers than there are tasks\n"
why_text NodeOfNoCpu = codes "  no lock can have it: the tail has the number of a node and no CPU\n"
why_text LockedByte = codes "  no lock can have it: the locked byte is neither 0 nor 1 (3 is of a paravirtual lock)\n"
why_text PendingByte = codes "  no lock can have it: the pending byte is neither 0 nor 1\n"
