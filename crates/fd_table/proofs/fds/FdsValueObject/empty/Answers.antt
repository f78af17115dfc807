-- Free slots are a table in which nothing is open.
use Rattle.fd_table.proofs.SlotLemmas.{IsTable-free, no_files-free}
use Rattle.fd_table.proofs.fds.FdsValueObject.empty.Goals as goal

pub invariant_of-result : goal.invariant_of-result
invariant_of-result c = IsTable-free

pub returns : goal.returns
returns c = no_files-free
