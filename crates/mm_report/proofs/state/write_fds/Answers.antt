use Rattle.std.proofs.Common.{◌++◌, ◌∙◌, subst, ℕ}
use Rattle.std.proofs.lemmas.Result.{err_from_is_err_and}
use Rattle.byte_streams.specs.Causes.{Fronts, IsOnItsWay}
use Rattle.byte_streams.proofs.Pieces.{adds_then, fronts_more}
use Rattle.fd_table.specs.Tables.{fd_map, used_from}
use Rattle.mm_report.specs.Text.{left_text, descriptors_text}
use Rattle.mm_report.proofs.state.write_fds.Goals as goal

pub returns-in_err-write_count-clause-text : goal.returns-in_err-write_count-clause-text
returns-in_err-write_count-clause-text g c = rw (err_from_is_err_and c.from_residual.result c.from_residual.ensures.1).1
    (fronts_more (g.K.Sink.written c.args.sink.now) (g.K.Sink.written c.write_count.new.sink) c.args.out.now (left_text (used_from (fd_map c.args.fds.now) 0 64)) (descriptors_text (fd_map c.args.fds.now) 0 64)
    (subst (λ (n : ℕ). Fronts (g.K.Sink.written c.args.sink.now) (g.K.Sink.written c.write_count.new.sink) (c.args.out.now ++ left_text n)) (c.from.ensures ∙ c.used.ensures) c.in_err-write_count.ensures.text))

pub returns-clause-text : goal.returns-clause-text
returns-clause-text g c =
    adds_then (g.K.Sink.written c.args.sink.now) (g.K.Sink.written c.write_count.new.sink) (g.K.Sink.written c.write_descriptors.new.sink) c.args.out.now c.write_count.new.out c.write_descriptors.new.out (left_text (used_from (fd_map c.args.fds.now) 0 64)) (descriptors_text (fd_map c.args.fds.now) 0 64) c.write_descriptors.result
    (subst (λ (n : ℕ). IsOnItsWay (g.K.Sink.written c.args.sink.now) (g.K.Sink.written c.write_count.new.sink) c.write_count.new.out (c.args.out.now ++ left_text n)) (c.from.ensures ∙ c.used.ensures) c.in_ok-write_count.ensures.text) c.write_descriptors.ensures.text
