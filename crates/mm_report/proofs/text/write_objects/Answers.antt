use Rattle.std.proofs.Common.{◌<◌, ◌+◌, ◌++◌, length, drop, ap, ◌∙◌, zero-add, arith, subst, Ok, Err}
use Rattle.std.proofs.lemmas.Result.{err_from_is_err_and}
use Rattle.byte_streams.specs.Causes.{Fronts}
use Rattle.byte_streams.proofs.Pieces.{adds_then, fronts_more}
use Rattle.mm_report.specs.Results.{calls_on}
use Rattle.mm_report.specs.Reports.{object_report, report_from, report_of}
use Rattle.mm_report.proofs.Objects.{complete_length, complete_at, step_at, behind_at, report_split}
use Rattle.task_script.proofs.Mapped.{at_place}
use Rattle.mm_report.proofs.text.write_objects.Goals as goal

pub snapshot-requires : goal.snapshot-requires
snapshot-requires g c = let len = complete_length c.args.script.now 0 c.args.script.now.objects c.args.results.now c.requires in omega (arith, c.objects-object-end.ensures.count)

pub write_one-requires-clause-complete : goal.write_one-requires-clause-complete
write_one-requires-clause-complete g c =
    complete_at c.args.script.now 0 c.loop-object.object c.args.script.now.objects c.args.results.now c.snapshot.result.now c.requires c.snapshot.ensures ∙ ap (calls_on c.args.script.now) (zero-add c.loop-object.object)

pub returns-in_err-write_one-clause-text : goal.returns-in_err-write_one-clause-text
returns-in_err-write_one-clause-text g c = rw (err_from_is_err_and c.from_residual.result c.from_residual.ensures.1).1 (λ told legal.
    let s = c.args.script.now in
    let i = c.loop-object.object in
    let inv = c.loop-object.invariant.text told legal in
    let within : i < length s.objects = omega (arith, c.objects-object-end.ensures.count) in
    let d = at_place s.objects i within in
    let step = step_at s i s.objects c.args.results.now (drop i told) d.0 c.snapshot.result.now d.1 c.snapshot.ensures inv.3 in
    let piece = object_report c.args.summary s i d.0 step.here in
    subst (λ t. Fronts (g.K.Sink.written c.args.sink.now) (g.K.Sink.written c.write_one.new.sink) (c.args.out.now ++ t)) (report_split c.args.summary s i s.objects d.0 step.here step.behind (drop i told) inv.0 (report_of c.args.summary s told) d.1 step.is inv.2)
    (fronts_more (g.K.Sink.written c.args.sink.now) (g.K.Sink.written c.write_one.new.sink) c.args.out.now (inv.0 ++ piece) (report_from c.args.summary s (i + 1) (drop (i + 1) s.objects) step.behind)
    (adds_then {E = Unit {0}} (g.K.Sink.written c.args.sink.now) (g.K.Sink.written c.loop-object.sink) (g.K.Sink.written c.write_one.new.sink) c.args.out.now c.loop-object.out c.write_one.new.out inv.0 piece (Err tt) inv.1
    (c.in_err-write_one.ensures.text d.0 step.here d.1 step.tells step.legal))))

pub loop-object-preserved : goal.loop-object-preserved
loop-object-preserved g c = record {
  text = λ told legal.
      let s = c.args.script.now in
      let i = c.loop-object.object in
      let inv = c.loop-object.invariant.text told legal in
      let within : i < length s.objects = omega (arith, c.objects-object-end.ensures.count) in
      let d = at_place s.objects i within in
      let step = step_at s i s.objects c.args.results.now (drop i told) d.0 c.snapshot.result.now d.1 c.snapshot.ensures inv.3 in
      let piece = object_report c.args.summary s i d.0 step.here in
      let behind = behind_at told i step.here step.behind step.is in (
        inv.0 ++ piece,
        adds_then {E = Unit {0}} (g.K.Sink.written c.args.sink.now) (g.K.Sink.written c.loop-object.sink) (g.K.Sink.written c.write_one.new.sink) c.args.out.now c.loop-object.out c.write_one.new.out inv.0 piece (Ok tt) inv.1
            (c.in_ok-write_one.ensures.text d.0 step.here d.1 step.tells step.legal),
        rw behind (report_split c.args.summary s i s.objects d.0 step.here step.behind (drop i told) inv.0 (report_of c.args.summary s told) d.1 step.is inv.2),
        rw behind step.rest,
      );
  kept = c.in_ok-write_one.ensures.cause ∙ c.loop-object.invariant.kept;
}
