use Rattle.std.proofs.Common.{arith}
use Rattle.lock_core.specs.Nothings.{nothing}
use Rattle.percpu_rwsem.specs.PercpuHandles.{plan_of}
use Rattle.percpu_rwsem.specs.PercpuRuled.{never}
use Rattle.lock_bench.proofs.PercpuPassing.{begun, ended, round}
use Rattle.lock_bench.proofs.percpu.PercpuReadersTimed.rounds.Goals as goal

pub loop-init : goal.loop-init
loop-init g c =
    let s = begun nothing (plan_of c.args.self.now.sem) c.args.self.now.sem never c.args.worker.now.pass c.begin.new.pass c.args.task c.requires.idle c.begin.ensures.on.own c.begin.ensures.seen c.begin.ensures.became c.begin.ensures.beside in
    let takes = s.1 in (s.0, omega (arith, takes))

pub loop-preserved : goal.loop-preserved
loop-preserved g c =
    let s = round nothing (plan_of c.args.self.now.sem) c.args.self.now.sem c.loop.worker.pass c.down_read.new.pass c.up_read.new.pass c.loop.invariant.0 c.down_read.ensures.took c.down_read.ensures.task c.up_read.ensures.on.own c.up_read.ensures.apart c.up_read.ensures.kept c.up_read.ensures.task in
    let more = s.1 in
    let was = c.loop.invariant.1 in (s.0, omega (arith, more, was))

pub returns-clause-idle : goal.returns-clause-idle
returns-clause-idle g c = ended nothing (plan_of c.args.self.now.sem) c.args.self.now.sem c.loop.worker.pass c.end.new.pass c.loop.invariant.0 c.end.ensures.on.own c.end.ensures.seen c.end.ensures.kept
