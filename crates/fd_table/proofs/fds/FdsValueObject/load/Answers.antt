-- Words store the table of the slots that they are the words of, and else none.
use Rattle.std.proofs.Common.{◌∙◌}
use Rattle.fd_table.proofs.SlotLemmas.{IsFdMap-fd_map, stores-fd_map, slots_of, IsTable-slots_of, map-slots_of}
use Rattle.fd_table.proofs.fds.FdsValueObject.load.Goals as goal

pub returns-in_err-load-clause-none : goal.returns-in_err-load-clause-none
returns-in_err-load-clause-none c =
    rw c.from_residual.ensures (λ s is same. c.in_err-load.ensures (slots_of s) (IsTable-slots_of s is, map-slots_of s is ∙ same))

pub returns-clause-found : goal.returns-clause-found
returns-clause-found c =
    let found = c.in_ok-load.ensures.0 in
    (IsFdMap-fd_map c.in_ok-load.field-0 found.0, stores-fd_map c.in_ok-load.field-0 found.0 ∙ found.1)
