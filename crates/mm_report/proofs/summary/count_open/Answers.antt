use Rattle.std.proofs.Common.{ap, sym, ◌∙◌, length}
use Rattle.fd_table.specs.Tables.{fd_map, used_from}
use Rattle.fd_table.specs.Laws.Table.{sized, apart}
use Rattle.mm_report.proofs.summary.count_open.Goals as goal

pub returns-then-state-ne-WORDS : goal.returns-then-state-ne-WORDS
returns-then-state-ne-WORDS c = λ m is stored. absurd (c.if-state-ne-WORDS.true (ap length (sym stored) ∙ sized m is))

pub returns-in-Some : goal.returns-in-Some
returns-in-Some c = λ m is stored.
    let same = apart (fd_map c.in-Some.fds) m c.in-Some.ensures.found.0 is (c.in-Some.ensures.found.1 ∙ sym stored) in
    c.from.ensures ∙ c.used.ensures ∙ ap (λ n. used_from n 0 64) same
