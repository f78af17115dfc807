use Rattle.std.proofs.Common.{arith, zero-add, sym}
use Rattle.program_tests.proofs.Filled.{filled_none, filled_length, filled_fresh, filled_more, filled_all}
use Rattle.program_tests.proofs.report_tests.filled.Goals as goal

pub loop-object-init : goal.loop-object-init
loop-object-init g c = rw c.in_ok-results.ensures (filled_none c.args.script.now 0 c.args.script.now.objects)

pub snapshot_mut-snapshot-requires : goal.snapshot_mut-snapshot-requires
snapshot_mut-snapshot-requires g c =
    let len = filled_length c.args.script.now c.loop-object.object 0 c.args.script.now.objects c.loop-object.results c.loop-object.invariant in
    omega arith

pub fill-requires-clause-fresh : goal.fill-requires-clause-fresh
fill-requires-clause-fresh g c = λ is_space kind.
    filled_fresh c.args.script.now c.loop-object.object 0 c.args.script.now.objects c.loop-object.results c.loop-object.object c.snapshot_mut-snapshot.result.now is_space (sym (zero-add c.loop-object.object)) c.loop-object.invariant c.snapshot_mut-snapshot.ensures.value kind

pub loop-object-preserved : goal.loop-object-preserved
loop-object-preserved g c =
    filled_more c.args.script.now c.loop-object.object 0 c.args.script.now.objects c.loop-object.results c.loop-object.object c.fill.new.snapshot (sym (zero-add c.loop-object.object)) (omega arith) c.loop-object.invariant c.fill.ensures

pub returns : goal.returns
returns g c = filled_all c.args.script.now c.loop-object.object 0 c.args.script.now.objects c.loop-object.results (omega arith) c.loop-object.invariant
