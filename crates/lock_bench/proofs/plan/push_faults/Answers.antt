use Rattle.lock_bench.proofs.Planned.{none-pushed, one-pushed}
use Rattle.lock_bench.proofs.plan.push_faults.Goals as goal

pub loop-init : goal.loop-init
loop-init c = none-pushed c.args.plan.now c.args.task

pub loop-preserved : goal.loop-preserved
loop-preserved c = one-pushed c.args.plan.now c.args.task c.loop.counter c.loop.plan c.push.new.self c.new-fault.result c.requires.there c.loop.invariant c.in_ok-push.ensures.ok c.new-fault.ensures.words
