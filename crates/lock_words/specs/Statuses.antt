-- Exit statuses.
use Rattle.std.specs.Prelude.{ℕ}
use Rattle.lock_words.specs.declared.status.Status.{Status}
use Rattle.lock_words.specs.declared.status.Status.TheVariants.{Done, Usage, Refused, ReadFault, WriteFault, NoMemory}

abbrev pub status_number : Status → ℕ
status_number Done = 0
status_number Usage = 2
status_number Refused = 3
status_number ReadFault = 4
status_number WriteFault = 5
status_number NoMemory = 6
