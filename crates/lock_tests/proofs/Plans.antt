-- The plans of the tests: task 0 sends a signal to task 1.
use Rattle.std.proofs.Common.{[], replicate, arith}
use Rattle.std.proofs.lemmas.Grind.{common_steps}
use Rattle.word_bits.specs.declared.call.CallWords.{CallWords}
use Rattle.lock_core.specs.Nothings.{nothing}
use Rattle.lock_core.specs.Plans.{appended}
use Rattle.lock_core.specs.Records.{IsPlan}

abbrev pub signal : CallWords
signal = record { a = 1; b = 15 }

-- of two tasks
pub two-tasks : IsPlan nothing (appended (replicate 2 []) 0 signal)
two-tasks = grind (arith, common_steps)

-- of three
pub three-tasks : IsPlan nothing (appended (replicate 3 []) 0 signal)
three-tasks = grind (arith, common_steps)

-- of four
pub four-tasks : IsPlan nothing (appended (replicate 4 []) 0 signal)
four-tasks = grind (arith, common_steps)
