use Rattle.std.proofs.Common.{arith}
use Rattle.osq_unqueue.proofs.Rising.{rises}
use Rattle.cpu_task.proofs.SleepCounts.{answers-rise}
use Rattle.mutex_slow.proofs.Opening.{opens-behind}
use Rattle.mutex_slow.proofs.spin.spin_outside.Goals as goal

pub returns-in_default-clause-opened : goal.returns-in_default-clause-opened
returns-in_default-clause-opened g c = λ _. opens-behind c.args.site.now c.args.pass.now c.loop.pass c.try_outside.new.pass c.requires.own c.loop.invariant.2 c.in_default.ensures.opened

pub returns-then-need_resched-clause-rescheds : goal.returns-then-need_resched-clause-rescheds
returns-then-need_resched-clause-rescheds g c = let same = c.loop.invariant.9 in let more = answers-rise (g.C.Cpu.rescheds c.loop.cpu) (g.C.Cpu.rescheds c.need_resched.new.self) c.need_resched.result c.need_resched.ensures.rescheds in omega (arith, same, more)

pub returns-then-need_resched-clause-stops : goal.returns-then-need_resched-clause-stops
returns-then-need_resched-clause-stops g c = λ _. let same = c.loop.invariant.9 in rises _ _ _ c.need_resched.result (omega (arith, same)) c.need_resched.ensures.rescheds c.if-need_resched.true
