-- The words of the slots store their table.
use Rattle.std.proofs.Common.{sym, ap, ◌∙◌}
use Rattle.fd_table.specs.Tables.{fd_map, stores}
use Rattle.fd_table.proofs.SlotLemmas.{stores-fd_map}
use Rattle.fd_table.proofs.fds.FdsValueObject.store.Goals as goal

pub returns-clause-stored : goal.returns-clause-stored
returns-clause-stored c =
    c.store.ensures ∙ sym (stores-fd_map c.self.inside.files c.self.invariant) ∙ ap (λ slots. stores (fd_map slots)) c.self.view_is
