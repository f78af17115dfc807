use Rattle.std.proofs.Common.{◌++◌, sym, ◌∙◌, subst}
use Rattle.std.proofs.lemmas.Result.{err_from_is_err_and}
use Rattle.word_bits.specs.Histories.{state_after}
use Rattle.word_bits.specs.LockWords.{counted, owned}
use Rattle.vma_map.specs.Spaces.{space}
use Rattle.fd_table.specs.Tables.{table}
use Rattle.byte_streams.specs.Causes.{Fronts, IsOnItsWay, Adds}
use Rattle.task_script.specs.Scripts.{Declared, plan_of}
use Rattle.byte_streams.proofs.Pieces.{adds_then, fronts_more}
use Rattle.mm_report.specs.Results.{IsLegalOn}
use Rattle.mm_report.specs.Text.{calls_text, space_text, table_text, told_text}
use Rattle.task_script.proofs.Mapped.{mapped_same}
use Rattle.mm_report.proofs.Legal.{space_left, table_left, legal_read, legal_text}
use Rattle.mm_report.proofs.text.write_told.Goals as goal

pub returns-in_err-write_history-clause-text : goal.returns-in_err-write_history-clause-text
returns-in_err-write_history-clause-text g c = rw (err_from_is_err_and c.from_residual.result c.from_residual.ensures.1).1 (λ d t at tells legal.
    let s = c.args.script.now in
    let object = c.args.object in
    let kind = sym (mapped_same (λ (e : Declared). e.is_space) s.objects object d c.is_space.result at c.is_space.ensures) ∙ c.if-is_space.true in
    let legal_here = subst (λ b. IsLegalOn b (plan_of s object) t c.args.snapshot.now.state) kind legal in
    let read = legal_read space counted s object t c.args.snapshot.now tells legal_here in
    let calls = legal_text space counted s object t c.args.snapshot.now tells legal_here in
    subst (λ b. Fronts (g.K.Sink.written c.args.sink.now) (g.K.Sink.written c.write_history.new.sink) (c.args.out.now ++ told_text s object b t)) (sym kind)
    (fronts_more (g.K.Sink.written c.args.sink.now) (g.K.Sink.written c.write_history.new.sink) c.args.out.now (calls_text space s object t) (space_text (state_after space (plan_of s object) t.log))
    (subst (λ text. Fronts (g.K.Sink.written c.args.sink.now) (g.K.Sink.written c.write_history.new.sink) (c.args.out.now ++ text)) calls (c.in_err-write_history.ensures.text t.records read))))

pub returns-in_err-write_history-2-clause-text : goal.returns-in_err-write_history-2-clause-text
returns-in_err-write_history-2-clause-text g c = rw (err_from_is_err_and c.from_residual-in_err-write_history-2.result c.from_residual-in_err-write_history-2.ensures.1).1 (λ d t at tells legal.
    let s = c.args.script.now in
    let object = c.args.object in
    let kind = sym (mapped_same (λ (e : Declared). e.is_space) s.objects object d c.is_space.result at c.is_space.ensures) ∙ c.if-is_space.false in
    let legal_here = subst (λ b. IsLegalOn b (plan_of s object) t c.args.snapshot.now.state) kind legal in
    let read = legal_read table owned s object t c.args.snapshot.now tells legal_here in
    let calls = legal_text table owned s object t c.args.snapshot.now tells legal_here in
    subst (λ b. Fronts (g.K.Sink.written c.args.sink.now) (g.K.Sink.written c.write_history-else-is_space.new.sink) (c.args.out.now ++ told_text s object b t)) (sym kind)
    (fronts_more (g.K.Sink.written c.args.sink.now) (g.K.Sink.written c.write_history-else-is_space.new.sink) c.args.out.now (calls_text table s object t) (table_text (state_after table (plan_of s object) t.log))
    (subst (λ text. Fronts (g.K.Sink.written c.args.sink.now) (g.K.Sink.written c.write_history-else-is_space.new.sink) (c.args.out.now ++ text)) calls (c.in_err-write_history-2.ensures.text t.records read))))

pub returns-in_ok-write_history-clause-text : goal.returns-in_ok-write_history-clause-text
returns-in_ok-write_history-clause-text g c = λ d t at tells legal.
    let s = c.args.script.now in
    let object = c.args.object in
    let kind = sym (mapped_same (λ (e : Declared). e.is_space) s.objects object d c.is_space.result at c.is_space.ensures) ∙ c.if-is_space.true in
    let legal_here = subst (λ b. IsLegalOn b (plan_of s object) t c.args.snapshot.now.state) kind legal in
    let read = legal_read space counted s object t c.args.snapshot.now tells legal_here in
    let calls = legal_text space counted s object t c.args.snapshot.now tells legal_here in
    subst (λ b. Adds (g.K.Sink.written c.args.sink.now) (g.K.Sink.written c.write_space.new.sink) c.args.out.now c.write_space.new.out (told_text s object b t) c.write_space.result) (sym kind)
    (adds_then (g.K.Sink.written c.args.sink.now) (g.K.Sink.written c.write_history.new.sink) (g.K.Sink.written c.write_space.new.sink) c.args.out.now c.write_history.new.out c.write_space.new.out
    (calls_text space s object t) (space_text (state_after space (plan_of s object) t.log)) c.write_space.result
    (subst (λ text. IsOnItsWay (g.K.Sink.written c.args.sink.now) (g.K.Sink.written c.write_history.new.sink) c.write_history.new.out (c.args.out.now ++ text)) calls (c.in_ok-write_history.ensures.text t.records read))
    (c.write_space.ensures.text (state_after space (plan_of s object) t.log) (space_left (plan_of s object) t.log) (sym (c.state.ensures ∙ legal_here.stored))))

pub returns-in_ok-write_history-2-clause-text : goal.returns-in_ok-write_history-2-clause-text
returns-in_ok-write_history-2-clause-text g c = λ d t at tells legal.
    let s = c.args.script.now in
    let object = c.args.object in
    let kind = sym (mapped_same (λ (e : Declared). e.is_space) s.objects object d c.is_space.result at c.is_space.ensures) ∙ c.if-is_space.false in
    let legal_here = subst (λ b. IsLegalOn b (plan_of s object) t c.args.snapshot.now.state) kind legal in
    let read = legal_read table owned s object t c.args.snapshot.now tells legal_here in
    let calls = legal_text table owned s object t c.args.snapshot.now tells legal_here in
    subst (λ b. Adds (g.K.Sink.written c.args.sink.now) (g.K.Sink.written c.write_table.new.sink) c.args.out.now c.write_table.new.out (told_text s object b t) c.write_table.result) (sym kind)
    (adds_then (g.K.Sink.written c.args.sink.now) (g.K.Sink.written c.write_history-else-is_space.new.sink) (g.K.Sink.written c.write_table.new.sink) c.args.out.now c.write_history-else-is_space.new.out c.write_table.new.out
    (calls_text table s object t) (table_text (state_after table (plan_of s object) t.log)) c.write_table.result
    (subst (λ text. IsOnItsWay (g.K.Sink.written c.args.sink.now) (g.K.Sink.written c.write_history-else-is_space.new.sink) c.write_history-else-is_space.new.out (c.args.out.now ++ text)) calls (c.in_ok-write_history-2.ensures.text t.records read))
    (c.write_table.ensures.text (state_after table (plan_of s object) t.log) (table_left (plan_of s object) t.log) (sym (c.state-else-is_space.ensures ∙ legal_here.stored))))
