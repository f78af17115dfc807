use Rattle.std.proofs.Common.{ap, sym, ◌∙◌, subst, length}
use Rattle.fd_table.specs.Tables.{fd_map}
use Rattle.fd_table.specs.Laws.Table.{sized, apart}
use Rattle.byte_streams.specs.Causes.{Adds}
use Rattle.mm_report.specs.Text.{table_text}
use Rattle.mm_report.proofs.state.write_table.Goals as goal

pub returns-then-state-ne-WORDS-clause-text : goal.returns-then-state-ne-WORDS-clause-text
returns-then-state-ne-WORDS-clause-text g c = λ m is stored. absurd (c.if-state-ne-WORDS.true (ap length (sym stored) ∙ sized m is))

pub returns-clause-text : goal.returns-clause-text
returns-clause-text g c = λ m is stored.
    let same = apart (fd_map c.in-Some.fds) m c.in-Some.ensures.found.0 is (c.in-Some.ensures.found.1 ∙ sym stored) in
    subst (λ n. Adds (g.K.Sink.written c.args.sink.now) (g.K.Sink.written c.write_fds.new.sink) c.args.out.now c.write_fds.new.out (table_text n) c.write_fds.result) same c.write_fds.ensures.text
