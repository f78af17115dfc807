use Rattle.std.proofs.Common.{◌++◌, subst, sym}
use Rattle.std.proofs.lemmas.Result.{err_from_is_err_and}
use Rattle.byte_streams.proofs.Pieces.{adds_then, fronts_more}
use Rattle.byte_streams.specs.Causes.{Adds, Fronts}
use Rattle.task_script.specs.Texts.{declaration_text}
use Rattle.mm_report.specs.Reports.{object_report}
use Rattle.mm_report.specs.Text.{told_text}
use Rattle.mm_report.proofs.text.write_one.Goals as goal

pub returns-then-summary-clause-text : goal.returns-then-summary-clause-text
returns-then-summary-clause-text g c = λ d t at tells legal.
    subst (λ b. Adds (g.K.Sink.written c.args.sink.now) (g.K.Sink.written c.write_summary.new.sink) c.args.out.now c.write_summary.new.out (object_report b c.args.script.now c.args.object d t) c.write_summary.result) (sym c.if-summary.true) (c.write_summary.ensures.text d t at tells legal)

pub returns-in_err-write_declaration-clause-text : goal.returns-in_err-write_declaration-clause-text
returns-in_err-write_declaration-clause-text g c = rw (err_from_is_err_and c.from_residual.result c.from_residual.ensures.1).1 (λ d t at tells legal.
    subst (λ b. Fronts (g.K.Sink.written c.args.sink.now) (g.K.Sink.written c.write_declaration.new.sink) (c.args.out.now ++ object_report b c.args.script.now c.args.object d t)) (sym c.if-summary.false)
    (fronts_more (g.K.Sink.written c.args.sink.now) (g.K.Sink.written c.write_declaration.new.sink) c.args.out.now (declaration_text d) (told_text c.args.script.now c.args.object d.is_space t) (c.in_err-write_declaration.ensures.text d at)))

pub returns-clause-text : goal.returns-clause-text
returns-clause-text g c = λ d t at tells legal.
    subst (λ b. Adds (g.K.Sink.written c.args.sink.now) (g.K.Sink.written c.write_told.new.sink) c.args.out.now c.write_told.new.out (object_report b c.args.script.now c.args.object d t) c.write_told.result) (sym c.if-summary.false)
    (adds_then (g.K.Sink.written c.args.sink.now) (g.K.Sink.written c.write_declaration.new.sink) (g.K.Sink.written c.write_told.new.sink) c.args.out.now c.write_declaration.new.out c.write_told.new.out
    (declaration_text d) (told_text c.args.script.now c.args.object d.is_space t) c.write_told.result (c.in_ok-write_declaration.ensures.text d at) (c.write_told.ensures.text d t at tells legal))
