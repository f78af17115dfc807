use Rattle.std.proofs.Common.{◌≡◌, ◌+◌, length}
use Rattle.lock_courses.proofs.semaphore.add_readers.Given as goal

abbrev pub invariant-loop-reader : goal.invariant-loop-reader
invariant-loop-reader l = length l.readers.items ≡ length l.fn.readers.items + l.reader-index
