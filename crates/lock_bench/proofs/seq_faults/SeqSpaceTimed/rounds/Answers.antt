use Rattle.std.proofs.Common.{ℕ, ◌∙◌, arith, subst, sym}
use Rattle.seq_fault.specs.SeqRuled.{never}
use Rattle.vma_map.specs.Spaces.{space}
use Rattle.lock_bench.specs.FaultPasses.{IsAtCall}
use Rattle.lock_bench.proofs.FaultPassing.{begun, faulted, next-fault, within}
use Rattle.lock_bench.proofs.seq_faults.SeqSpaceTimed.rounds.Goals as goal

pub loop-call-init : goal.loop-call-init
loop-call-init g c =
    let site = c.args.self.now in
    let at = subst (λ (n : ℕ). IsAtCall site c.args.task n c.begin.new.pass) (c.begin.ensures.on.own.done ∙ sym c.done-call.ensures) (begun site space never c.args.worker.now c.begin.new.pass c.args.task c.requires.idle c.begin.ensures.on.own c.begin.ensures.became c.begin.ensures.beside) in
    (at, within site c.begin.new.pass c.args.task c.done-call.result c.args.count at c.requires.serves)

pub fault_wait-requires-clause-next : goal.fault_wait-requires-clause-next
fault_wait-requires-clause-next g c = next-fault c.args.self.now c.loop-call.worker c.args.task c.loop-call.call c.args.count c.loop-call.invariant.0 c.requires.serves c.loop-call-test.true

pub loop-call-preserved : goal.loop-call-preserved
loop-call-preserved g c =
    let less = c.loop-call-test.true in
    (faulted c.args.self.now c.loop-call.worker c.fault_wait.new.pass c.args.task c.loop-call.call c.fault_wait.result c.loop-call.invariant.0 c.fault_wait.ensures.on.own c.fault_wait.ensures.ok, omega (arith, less))
