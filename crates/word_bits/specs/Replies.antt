-- Errors and replies.
use Rattle.std.specs.Prelude.{ℕ}
use Rattle.word_bits.specs.declared.reply.Errno.{Errno}
use Rattle.word_bits.specs.declared.reply.Errno.TheVariants.{BadF, NoMem, Exist, Inval, MFile, Fault}

-- the numbers of Linux
abbrev pub errno_number : Errno → ℕ
errno_number BadF = 9
errno_number NoMem = 12
errno_number Exist = 17
errno_number Inval = 22
errno_number MFile = 24
errno_number Fault = 14
