-- How many rounds all threads together can make on one lock: enough for one of each.
use Rattle.std.specs.Prelude.{◌≤◌}
use Rattle.std.proofs.Common.{arith}
use Rattle.word_bits.specs.declared.TheConstants.{MAX_TASKS}

-- as many as a number says
pub unbounded : MAX_TASKS ≤ 4294967295
unbounded = omega arith

-- as many as a plan has calls, but for the one that maps the area
pub but_one : MAX_TASKS ≤ 131071
but_one = omega arith
