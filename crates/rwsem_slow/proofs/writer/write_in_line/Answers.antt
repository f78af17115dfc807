use Rattle.std.proofs.Common.{◌∙◌, ap, arith, inl, refl}
use Rattle.rwsem_wake.specs.RwSemPlaces.{seen_of}
use Rattle.lock_core.proofs.Within.{pending-within}
use Rattle.rwsem_slow.specs.RwSemOpening.{IsOpen}
use Rattle.rwsem_slow.specs.Types.{Hand, Slept, Face, Alone, SpinHand}
use Rattle.rwsem_wake.specs.RwSemViews.{V}
use Rattle.cpu_task.proofs.SleepCounts.{turns-moved}
use Rattle.rwsem_slow.proofs.Opening.{takes-before, takes-behind}
use Rattle.rwsem_slow.proofs.writer.write_in_line.Goals as goal

pub lock-requires-clause-told : goal.lock-requires-clause-told
lock-requires-clause-told g c = inl refl

pub interrupt-requires-clause-may : goal.interrupt-requires-clause-may
interrupt-requires-clause-may g c = inl c.in-Err.ensures.waits.line

pub returns-clause-pending : goal.returns-clause-pending
returns-clause-pending g c = let queues = c.queue.ensures.on.steps in let took = c.lock.ensures.gained.took in let since = took.0 in let by_now = took.1 in
    pending-within (seen_of c.args.pass.now) (seen_of c.queue.new.pass) (seen_of c.wait.new.pass) (seen_of c.interrupt.new.pass)
    (ap (λ (h : Hand). h.task) c.queue.ensures.hand ∙ ap (λ (h : Hand). h.task) c.lock.ensures.gained.hand) (omega (arith, queues, since, by_now)) (λ p t. c.queue.ensures.on.goes_on p (c.lock.ensures.on.goes_on p t))
    c.in-Err.ensures.pending c.interrupt.ensures.on.steps c.interrupt.ensures.on.goes_on

pub returns-in_default-clause-opened : goal.returns-in_default-clause-opened
returns-in_default-clause-opened g c = let site = c.args.site.now in let took = c.lock.ensures.gained.took in let since = took.0 in let by_now = took.1 in let on = c.queue.ensures.on in let noted = ap (λ (z : V). z.steps) c.note_writer.ensures.kept in let steps = ap (λ (z : V). z.steps) c.unlock.ensures.kept in
    takes-before site Alone (IsOpen Slept) c.args.pass.now c.note_writer.new.pass c.unlock.new.pass (takes-before site Alone (IsOpen Slept) c.args.pass.now c.quit_taken.new.pass c.note_writer.new.pass (takes-before site Alone (IsOpen Slept) c.args.pass.now c.wait.new.pass c.quit_taken.new.pass
    (takes-behind site Alone (IsOpen Slept) c.args.pass.now c.lock.new.pass c.wait.new.pass c.requires.own c.lock.ensures.on.own (ap (λ (f : Face). f.task) c.lock.ensures.face) (omega (arith, since, by_now)) c.lock.ensures.on.goes_on
    (takes-behind site Alone (IsOpen Slept) c.lock.new.pass c.queue.new.pass c.wait.new.pass c.lock.ensures.on.own on.own on.task on.steps on.goes_on c.in_default.ensures.opened))
    c.quit_taken.ensures.gone.later c.quit_taken.ensures.goes_on) (omega (arith, noted)) c.note_writer.ensures.on.goes_on) (omega (arith, steps)) c.unlock.ensures.on.goes_on

pub returns-in_default-clause-turns : goal.returns-in_default-clause-turns
returns-in_default-clause-turns g c = let enters = c.lock.ensures.gained.counted in let queues = ap (λ (s : SpinHand). s.entries) c.queue.ensures.spin in let quits = ap (λ (z : V). z.spin.entries) c.quit_taken.ensures.gone.is in let noted = ap (λ (z : V). z.spin.entries) c.note_writer.ensures.kept in let leaves = ap (λ (z : V). z.spin.entries) c.unlock.ensures.kept in
    turns-moved _ _ _ _ _ _ _ _ c.in_default.ensures.slept (omega (arith, enters, queues, quits, noted, leaves)) c.queue.ensures.sleeps refl

pub returns-clause-awake : goal.returns-clause-awake
returns-clause-awake g c = let enters = c.lock.ensures.gained.counted in let queues = ap (λ (s : SpinHand). s.entries) c.queue.ensures.spin in let leaves = c.interrupt.ensures.entries in
    turns-moved _ _ _ _ _ _ _ _ c.in-Err.ensures.awake (omega (arith, enters, queues, leaves)) c.queue.ensures.sleeps c.interrupt.ensures.sleeps
