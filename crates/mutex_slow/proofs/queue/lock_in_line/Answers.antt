use Rattle.std.proofs.Common.{arith, ap, ◌∙◌, ◌+◌, ℕ, refl, rules}
use Rattle.mutex_slow.specs.MutexPlaces.{dozes_of, seen_of}
use Rattle.mutex_slow.specs.Types.{SpinHand, Hand, MutexHand}
use Rattle.lock_core.proofs.Within.{pending-within, sees-within}
use Rattle.cpu_task.proofs.SleepCounts.{dozes-none, dozes-within}
use Rattle.mutex_slow.proofs.Opening.{opens-behind, opens-before}
use Rattle.mutex_slow.proofs.queue.lock_in_line.Goals as goal

pub returns-clause-interrupted : goal.returns-clause-interrupted
returns-clause-interrupted g c = λ reads. let missed = c.in-Err.ensures.missed reads in let hand = c.lock.ensures.gained.hand in let last = c.unlock-2.ensures.hand ∙ c.quit-2.ensures.hand in let more = c.unlock-2.ensures.on.steps in let quits = c.quit-2.ensures.on.steps in let waits = c.wait.ensures.on.steps in let joins = c.join.ensures.on.steps in let tries = c.try_outside.ensures.on.steps in let enters = c.lock.ensures.on.steps in record {
  keeps = search rules;
  heard = pending-within (seen_of c.args.pass.now) (seen_of c.join.new.pass) (seen_of c.wait.new.pass) (seen_of c.unlock-2.new.pass)
      (ap (λ (h : Hand). h.task) c.join.ensures.hand ∙ (missed.keeps.task ∙ ap (λ (h : Hand). h.task) hand)) (omega (arith, joins, tries, enters)) (λ p t. c.join.ensures.on.goes_on p (c.try_outside.ensures.on.goes_on p (c.lock.ensures.on.goes_on p t)))
      c.in-Err-wait.ensures.pending (omega (arith, more, quits)) (λ p t. c.unlock-2.ensures.on.goes_on p (c.quit-2.ensures.on.goes_on p t));
  consumed = ap (λ (h : Hand). h.consumed) last ∙ (ap (λ (h : Hand). h.consumed) c.in-Err-wait.ensures.interrupted ∙ ap (λ (n : ℕ). n + 1) (ap (λ (h : Hand). h.consumed) c.join.ensures.hand ∙ (missed.consumed ∙ ap (λ (h : Hand). h.consumed) hand)));
  out = search rules;
  takes = search rules;
  word = c.in-Err.field-0;
  sees = sees-within (seen_of c.args.pass.now) (seen_of c.lock.new.pass) (seen_of c.try_outside.new.pass) (seen_of c.unlock-2.new.pass)
      (ap (λ (h : Hand). h.task) hand) enters c.lock.ensures.on.goes_on missed.sees
      (ap (λ (h : Hand). h.saw) last ∙ (ap (λ (h : Hand). h.saw) c.in-Err-wait.ensures.interrupted ∙ ap (λ (h : Hand). h.saw) c.join.ensures.hand))
      (omega (arith, joins, waits, more, quits)) (λ p t. c.unlock-2.ensures.on.goes_on p (c.quit-2.ensures.on.goes_on p (c.wait.ensures.on.goes_on p (c.join.ensures.on.goes_on p t))));
  freed = search rules;
  waited = ap (λ (e : MutexHand). e.appends) c.unlock-2.ensures.ext ∙ (c.quit-2.ensures.same.appends ∙ (c.wait.ensures.appends ∙ (c.join.ensures.appended
      ∙ ap (λ (n : ℕ). n + 1) (c.try_outside.ensures.same.appends ∙ ap (λ (e : MutexHand). e.appends) c.lock.ensures.gained.ext))));
}

pub returns-in_default-clause-opened : goal.returns-in_default-clause-opened
returns-in_default-clause-opened g c = opens-before c.args.site.now c.args.pass.now c.try_outside.new.pass c.unlock.new.pass (opens-behind c.args.site.now c.args.pass.now c.lock.new.pass c.try_outside.new.pass c.requires.own c.lock.ensures.on c.in_default.ensures.opened) c.unlock.ensures.on

pub returns-in_default-clause-sleeps : goal.returns-in_default-clause-sleeps
returns-in_default-clause-sleeps g c = let enters = c.lock.ensures.gained.counted in let tries = c.try_outside.ensures.same.entries in let leaves = c.unlock.ensures.entries in (0, omega (arith, enters, tries, leaves), record { times = 0; few = omega arith; is = refl })

pub returns-in_default-wait-clause-opened : goal.returns-in_default-wait-clause-opened
returns-in_default-wait-clause-opened g c = opens-before c.args.site.now c.args.pass.now c.quit.new.pass c.unlock-in_default-wait.new.pass (opens-before c.args.site.now c.args.pass.now c.wait.new.pass c.quit.new.pass (opens-behind c.args.site.now c.args.pass.now c.lock.new.pass c.wait.new.pass c.requires.own c.lock.ensures.on
    (opens-behind c.args.site.now c.lock.new.pass c.try_outside.new.pass c.wait.new.pass c.lock.ensures.on.own c.try_outside.ensures.on (opens-behind c.args.site.now c.try_outside.new.pass c.join.new.pass c.wait.new.pass c.try_outside.ensures.on.own c.join.ensures.on c.in_default-wait.ensures.opened))) c.quit.ensures.on) c.unlock-in_default-wait.ensures.on

pub returns-in_default-wait-clause-sleeps : goal.returns-in_default-wait-clause-sleeps
returns-in_default-wait-clause-sleeps g c = let turns = c.wait.ensures.sleeps in let slept = turns.1 in let enters = c.lock.ensures.gained.counted in let tries = c.try_outside.ensures.same.entries in let joins = ap (λ (s : SpinHand). s.entries) c.join.ensures.spin in let quits = c.quit.ensures.same.entries in let leaves = c.unlock-in_default-wait.ensures.entries in
    (turns.0, omega (arith, enters, tries, joins, slept, quits, leaves), turns.2)

pub returns-clause-sleeps : goal.returns-clause-sleeps
returns-clause-sleeps g c = let turns = c.wait.ensures.sleeps in let slept = turns.1 in let enters = c.lock.ensures.gained.counted in let tries = c.try_outside.ensures.same.entries in let joins = ap (λ (s : SpinHand). s.entries) c.join.ensures.spin in let quits = c.quit-2.ensures.same.entries in let leaves = c.unlock-2.ensures.entries in
    (turns.0, omega (arith, enters, tries, joins, slept, quits, leaves), turns.2)

pub returns-in_default-clause-dozed : goal.returns-in_default-clause-dozed
returns-in_default-clause-dozed g c = dozes-none (g.C.Cpu.sleeps c.args.cpu.now) (g.C.Cpu.sleeps c.args.cpu.now) (dozes_of c.args.pass.now.seat.me.0.view) (dozes_of c.unlock.new.pass.seat.me.0.view) refl (ap (λ (e : MutexHand). e.wake.dozes) c.unlock.ensures.ext ∙ (c.try_outside.ensures.counts.dozes ∙ ap (λ (e : MutexHand). e.wake.dozes) c.lock.ensures.gained.ext))

pub returns-in_default-wait-clause-dozed : goal.returns-in_default-wait-clause-dozed
returns-in_default-wait-clause-dozed g c = dozes-within (g.C.Cpu.sleeps c.args.cpu.now) (g.C.Cpu.sleeps c.args.cpu.now) (g.C.Cpu.sleeps c.wait.new.cpu) (g.C.Cpu.sleeps c.wait.new.cpu) _ _ _ _ refl (c.join.ensures.counts.dozes ∙ (c.try_outside.ensures.counts.dozes ∙ ap (λ (e : MutexHand). e.wake.dozes) c.lock.ensures.gained.ext)) c.wait.ensures.dozed refl (ap (λ (e : MutexHand). e.wake.dozes) c.unlock-in_default-wait.ensures.ext ∙ c.quit.ensures.counts.dozes)

pub returns-clause-dozed : goal.returns-clause-dozed
returns-clause-dozed g c = dozes-within (g.C.Cpu.sleeps c.args.cpu.now) (g.C.Cpu.sleeps c.args.cpu.now) (g.C.Cpu.sleeps c.wait.new.cpu) (g.C.Cpu.sleeps c.wait.new.cpu) _ _ _ _ refl (c.join.ensures.counts.dozes ∙ (c.try_outside.ensures.counts.dozes ∙ ap (λ (e : MutexHand). e.wake.dozes) c.lock.ensures.gained.ext)) c.wait.ensures.dozed refl (ap (λ (e : MutexHand). e.wake.dozes) c.unlock-2.ensures.ext ∙ c.quit-2.ensures.counts.dozes)
