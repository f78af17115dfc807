use Rattle.std.proofs.Common.{sym, ap, ◌∙◌}
use Rattle.word_bits.specs.Histories.{state_after}
use Rattle.word_bits.proofs.States.{IsLawful, state_is_state}
use Rattle.fd_table.specs.Tables.{table, meaning}
use Rattle.fd_table.specs.Laws.Table.{starts, called, goes_on, replies}
use Rattle.guarded.specs.Types.{TableCall}
use Rattle.guarded.proofs.served.FdsServed.look.Goals as goal

lawful : IsLawful table
lawful = record { starts = starts; called = called; goes_on = goes_on; replies = replies }

pub get-requires-clause-table : goal.get-requires-clause-table
get-requires-clause-table g c =
    let k = g.L.SiteLock.calls_on c.args.lock.now in
    let h = (g.L.SiteLock.view c.args.pass.now).hand in
    (state_after table k h.log, state_is_state table lawful k h.log, sym c.requires.stored)

pub returns-clause-read : goal.returns-clause-read
returns-clause-read g c =
    let k = g.L.SiteLock.calls_on c.args.lock.now in
    let h = (g.L.SiteLock.view c.args.pass.now).hand in
    let m = state_after table k h.log in
    λ _. c.get.ensures.reply m (state_is_state table lawful k h.log) (sym c.requires.stored) ∙ ap (λ (x : TableCall). (meaning m x).1) (sym c.in-Get.is)
