use Rattle.std.proofs.Common.{ap, ap₂, sym, ◌∙◌, subst, ◌++◌}
use Rattle.std.proofs.lemmas.Result.{err_from_is_err_and}
use Rattle.task_script.specs.Scripts.{Declared, plan_of}
use Rattle.byte_streams.proofs.Pieces.{adds_line, fronts_line}
use Rattle.task_script.proofs.Mapped.{mapped_same}
use Rattle.mm_report.specs.Results.{IsLegalOn}
use Rattle.mm_report.specs.Summary.{counts_of, counts_text}
use Rattle.mm_report.proofs.summary.write_summary.Goals as goal

pub returns-in_err-make_room-clause-text : goal.returns-in_err-make_room-clause-text
returns-in_err-make_room-clause-text g c = rw (err_from_is_err_and c.from_residual.result c.from_residual.ensures.1).1 (λ d t at tells legal.
    fronts_line (g.K.Sink.written c.args.sink.now) (g.K.Sink.written c.make_room.new.sink) c.args.out.now (counts_text d.name (counts_of d.is_space (plan_of c.args.script.now c.args.object) t)) c.in_err-make_room.ensures.bytes)

pub returns-clause-text : goal.returns-clause-text
returns-clause-text g c = λ d t at tells legal.
    let s = c.args.script.now in
    let object = c.args.object in
    let name = mapped_same (λ (e : Declared). e.name) s.objects object d c.name-name.result.now at c.name-name.ensures.name in
    let kind = mapped_same (λ (e : Declared). e.is_space) s.objects object d c.is_space.result at c.is_space.ensures in
    let counts = c.count_history-counts.ensures (plan_of s object) t tells (subst (λ b. IsLegalOn b (plan_of s object) t c.args.snapshot.now.state) (sym kind) legal) ∙ ap (λ b. counts_of b (plan_of s object) t) kind in
    adds_line (g.K.Sink.written c.args.sink.now) (g.K.Sink.written c.make_room.new.sink) c.args.out.now c.make_room.new.self c.add_summary.new.out (counts_text d.name (counts_of d.is_space (plan_of s object) t)) c.in_ok-make_room.ensures.bytes
    (c.add_summary.ensures ∙ ap (λ text. c.make_room.new.self ++ text) (ap₂ counts_text name counts))
