-- The words so far are those of the slots so far.
use Rattle.std.proofs.Common.{◌≡◌, map, take}
use Rattle.fd_table.specs.Tables.{slot_word}
use Rattle.fd_table.proofs.words.store.Given as goal

abbrev pub invariant-loop-fd : goal.invariant-loop-fd
invariant-loop-fd l = take l.fd l.out ≡ map slot_word (take l.fd l.files)
