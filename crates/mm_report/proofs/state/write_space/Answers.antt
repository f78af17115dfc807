use Rattle.std.proofs.Common.{◌++◌, ap, sym, ◌∙◌, subst, length}
use Rattle.std.specs.Prelude.{flat_map}
use Rattle.word_bits.specs.PageMaps.{runs}
use Rattle.vma_map.specs.Runs.{page_map}
use Rattle.vma_map.specs.Laws.Space.{sized, apart}
use Rattle.byte_streams.specs.Causes.{Adds}
use Rattle.mm_report.specs.Text.{area_text, left_text}
use Rattle.mm_report.proofs.state.write_space.Goals as goal

pub returns-then-state-ne-WORDS-clause-text : goal.returns-then-state-ne-WORDS-clause-text
returns-then-state-ne-WORDS-clause-text g c = λ m is stored. absurd (c.if-state-ne-WORDS.true (ap length (sym stored) ∙ sized m is))

pub returns-clause-text : goal.returns-clause-text
returns-clause-text g c = λ m is stored.
    let same = apart (page_map c.in-Some.space) m c.in-Some.ensures.found.0 is (c.in-Some.ensures.found.1 ∙ sym stored) in
    subst (λ areas. Adds (g.K.Sink.written c.args.sink.now) (g.K.Sink.written c.write_runs.new.sink) c.args.out.now c.write_runs.new.out (left_text (length areas) ++ flat_map area_text areas) c.write_runs.result) (c.runs.ensures ∙ ap runs same) c.write_runs.ensures.text
