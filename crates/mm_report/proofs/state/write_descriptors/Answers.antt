use Rattle.std.proofs.Common.{refl, subst, ◌++◌, Option, ℕ, ◌∙◌}
use Rattle.std.proofs.lemmas.Result.{err_from_is_err_and}
use Rattle.byte_streams.specs.Causes.{Fronts, IsOnItsWay}
use Rattle.fd_table.specs.Tables.{fd_map}
use Rattle.mm_report.specs.Text.{descriptor_text, descriptors_text}
use Rattle.mm_report.proofs.Remaining.{remains_all}
use Rattle.mm_report.proofs.Descriptors.{left_added, left_failed, left_done}
use Rattle.mm_report.proofs.state.write_descriptors.Goals as goal

pub loop-fd-init : goal.loop-fd-init
loop-fd-init g c = record {
  text = (64, refl, remains_all (g.K.Sink.written c.args.sink.now) c.args.out.now (descriptors_text (fd_map c.args.fds.now) 0 64));
  kept = refl;
}

pub returns-in_err-write_descriptor-clause-text : goal.returns-in_err-write_descriptor-clause-text
returns-in_err-write_descriptor-clause-text g c = rw (err_from_is_err_and c.from_residual.result c.from_residual.ensures.1).1
    (left_failed (fd_map c.args.fds.now) c.loop-fd.fd (g.K.Sink.written c.args.sink.now) (g.K.Sink.written c.loop-fd.sink) (g.K.Sink.written c.write_descriptor.new.sink) c.args.out.now c.loop-fd.out c.loop-fd-test.true c.loop-fd.invariant.text
    (subst (λ (f : Option ℕ). Fronts (g.K.Sink.written c.loop-fd.sink) (g.K.Sink.written c.write_descriptor.new.sink) (c.loop-fd.out ++ descriptor_text c.loop-fd.fd f)) c.file.ensures.value c.in_err-write_descriptor.ensures.text))

pub loop-fd-preserved : goal.loop-fd-preserved
loop-fd-preserved g c = record {
  text = left_added (fd_map c.args.fds.now) c.loop-fd.fd (g.K.Sink.written c.args.sink.now) (g.K.Sink.written c.loop-fd.sink) (g.K.Sink.written c.write_descriptor.new.sink) c.args.out.now c.loop-fd.out c.write_descriptor.new.out c.loop-fd-test.true c.loop-fd.invariant.text
      (subst (λ (f : Option ℕ). IsOnItsWay (g.K.Sink.written c.loop-fd.sink) (g.K.Sink.written c.write_descriptor.new.sink) c.write_descriptor.new.out (c.loop-fd.out ++ descriptor_text c.loop-fd.fd f)) c.file.ensures.value c.in_ok-write_descriptor.ensures.text);
  kept = c.in_ok-write_descriptor.ensures.cause ∙ c.loop-fd.invariant.kept;
}

pub returns-clause-text : goal.returns-clause-text
returns-clause-text g c = left_done (fd_map c.args.fds.now) c.loop-fd.fd (g.K.Sink.written c.args.sink.now) (g.K.Sink.written c.loop-fd.sink) c.args.out.now c.loop-fd.out c.loop-fd-test.false c.loop-fd.invariant.text
