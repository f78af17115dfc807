use Rattle.std.proofs.Common.{arith, ap, ◌∙◌, rules}
use Rattle.mutex_slow.specs.MutexPlaces.{dozes_of, seen_of}
use Rattle.mutex_slow.specs.Types.{Hand, MutexHand}
use Rattle.lock_core.proofs.Within.{pending-within}
use Rattle.cpu_task.proofs.SleepCounts.{dozes-again, turns-again}
use Rattle.mutex_slow.proofs.Opening.{opens-behind}
use Rattle.mutex_slow.proofs.sleep.wait.Goals as goal

pub returns-in-Some-interrupted-clause-pending : goal.returns-in-Some-interrupted-clause-pending
returns-in-Some-interrupted-clause-pending g c = let i = c.loop.invariant in let a = i.2.steps in let b = c.try_listed.ensures.on.steps in
    pending-within (seen_of c.args.pass.now) (seen_of c.try_listed.new.pass) (seen_of c.interrupted.new.pass) (seen_of c.interrupted.new.pass)
    (ap (λ (h : Hand). h.task) (c.try_listed.ensures.missed c.if-try_listed.false) ∙ ap (λ (h : Hand). h.task) i.7) (omega (arith, a, b)) (λ p t. c.try_listed.ensures.on.goes_on p (i.2.goes_on p t)) c.in-Some-interrupted.ensures.pending (omega arith) (λ p t. t)

pub returns-then-try_listed-clause-opened : goal.returns-then-try_listed-clause-opened
returns-then-try_listed-clause-opened g c = opens-behind c.args.site.now c.args.pass.now c.loop.pass c.try_listed.new.pass c.requires.own c.loop.invariant.2 (c.try_listed.ensures.opened c.if-try_listed.true)

pub returns-then-sleep_and_try-clause-opened : goal.returns-then-sleep_and_try-clause-opened
returns-then-sleep_and_try-clause-opened g c = opens-behind c.args.site.now c.args.pass.now c.loop.pass c.sleep_and_try.new.pass c.requires.own c.loop.invariant.2
    (opens-behind c.args.site.now c.loop.pass c.try_listed.new.pass c.sleep_and_try.new.pass c.loop.invariant.2.own c.try_listed.ensures.on
    (opens-behind c.args.site.now c.try_listed.new.pass c.interrupted.new.pass c.sleep_and_try.new.pass c.try_listed.ensures.on.own c.interrupted.ensures.on (c.sleep_and_try.ensures.opened c.if-sleep_and_try.true)))

pub returns-then-sleep_and_try-clause-sleeps : goal.returns-then-sleep_and_try-clause-sleeps
returns-then-sleep_and_try-clause-sleeps g c = let tries = c.try_listed.ensures.same.entries in let listens = c.interrupted.ensures.same.entries in let enters = c.sleep_and_try.ensures.entries in
    turns-again c.args.pass.now.seat.me.0.view.spin.entries c.loop.pass.seat.me.0.view.spin.entries c.sleep_and_try.new.pass.seat.me.0.view.spin.entries (g.C.Cpu.sleeps c.args.cpu.now) (g.C.Cpu.sleeps c.loop.cpu) (g.C.Cpu.sleeps c.sleep_and_try.new.cpu) (dozes_of c.interrupted.new.pass.seat.me.0.view) (dozes_of c.sleep_and_try.new.pass.seat.me.0.view) c.loop.invariant.12 (omega (arith, tries, listens, enters)) c.sleep_and_try.ensures.dozed

pub returns-then-sleep_and_try-clause-dozed : goal.returns-then-sleep_and_try-clause-dozed
returns-then-sleep_and_try-clause-dozed g c = dozes-again (g.C.Cpu.sleeps c.args.cpu.now) (g.C.Cpu.sleeps c.loop.cpu) (g.C.Cpu.sleeps c.sleep_and_try.new.cpu) (dozes_of c.args.pass.now.seat.me.0.view) (dozes_of c.interrupted.new.pass.seat.me.0.view) (dozes_of c.sleep_and_try.new.pass.seat.me.0.view) (dozes_of c.loop.pass.seat.me.0.view) c.loop.invariant.16 (ap (λ (e : MutexHand). e.wake.dozes) c.interrupted.ensures.ext ∙ c.try_listed.ensures.counts.dozes) c.sleep_and_try.ensures.dozed

pub loop-preserved : goal.loop-preserved
loop-preserved g c = let tries = c.try_listed.ensures.same.entries in let listens = c.interrupted.ensures.same.entries in let enters = c.sleep_and_try.ensures.entries in (
  tt,
  tt,
  search rules,
  search rules,
  search rules,
  search rules,
  search rules,
  search rules,
  search rules,
  search rules,
  search rules,
  search rules,
  turns-again c.args.pass.now.seat.me.0.view.spin.entries c.loop.pass.seat.me.0.view.spin.entries c.sleep_and_try.new.pass.seat.me.0.view.spin.entries (g.C.Cpu.sleeps c.args.cpu.now) (g.C.Cpu.sleeps c.loop.cpu) (g.C.Cpu.sleeps c.sleep_and_try.new.cpu) (dozes_of c.interrupted.new.pass.seat.me.0.view) (dozes_of c.sleep_and_try.new.pass.seat.me.0.view) c.loop.invariant.12 (omega (arith, tries, listens, enters)) c.sleep_and_try.ensures.dozed,
  search rules,
  search rules,
  search rules,
  dozes-again (g.C.Cpu.sleeps c.args.cpu.now) (g.C.Cpu.sleeps c.loop.cpu) (g.C.Cpu.sleeps c.sleep_and_try.new.cpu) (dozes_of c.args.pass.now.seat.me.0.view) (dozes_of c.interrupted.new.pass.seat.me.0.view) (dozes_of c.sleep_and_try.new.pass.seat.me.0.view) (dozes_of c.loop.pass.seat.me.0.view) c.loop.invariant.16 (ap (λ (e : MutexHand). e.wake.dozes) c.interrupted.ensures.ext ∙ c.try_listed.ensures.counts.dozes) c.sleep_and_try.ensures.dozed,
)
