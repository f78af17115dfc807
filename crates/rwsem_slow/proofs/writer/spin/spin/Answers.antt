use Rattle.std.proofs.Common.{ap, arith}
use Rattle.lock_core.proofs.Within.{sees-within}
use Rattle.rwsem_wake.specs.RwSemPlaces.{seen_of}
use Rattle.rwsem_wake.specs.RwSemViews.{V}
use Rattle.cpu_task.proofs.SleepCounts.{answers-rise}
use Rattle.rwsem_slow.specs.RwSemOpening.{IsOpen}
use Rattle.rwsem_slow.specs.Types.{Spun, Alone}
use Rattle.rwsem_slow.proofs.Opening.{takes-before, takes-behind}
use Rattle.rwsem_slow.proofs.writer.spin.spin.Goals as goal

pub returns-then-is_reader_owned-clause-saw : goal.returns-then-is_reader_owned-clause-saw
returns-then-is_reader_owned-clause-saw g c = λ _. let i = c.loop.invariant in let saw = c.try_outside.ensures.saw c.if-try_outside.false in let looks = c.is_reader_owned.ensures.kept in let steps = ap (λ (z : V). z.steps) looks in (
  saw.0,
  sees-within (seen_of c.args.pass.now) (seen_of c.loop.pass) (seen_of c.try_outside.new.pass) (seen_of c.is_reader_owned.new.pass)
      i.7.keeps.task i.7.keeps.counts.steps i.2.goes_on saw.1 (ap (λ (z : V). z.hand.saw) looks) (omega (arith, steps)) c.is_reader_owned.ensures.on.goes_on,
)

pub returns-then-need_resched-clause-saw : goal.returns-then-need_resched-clause-saw
returns-then-need_resched-clause-saw g c = λ _. let i = c.loop.invariant in let saw = c.try_outside.ensures.saw c.if-try_outside.false in let looks = c.is_reader_owned.ensures.kept in let steps = ap (λ (z : V). z.steps) looks in (
  saw.0,
  sees-within (seen_of c.args.pass.now) (seen_of c.loop.pass) (seen_of c.try_outside.new.pass) (seen_of c.is_reader_owned.new.pass)
      i.7.keeps.task i.7.keeps.counts.steps i.2.goes_on saw.1 (ap (λ (z : V). z.hand.saw) looks) (omega (arith, steps)) c.is_reader_owned.ensures.on.goes_on,
)

pub returns-then-need_resched-clause-rescheds : goal.returns-then-need_resched-clause-rescheds
returns-then-need_resched-clause-rescheds g c = let same = c.loop.invariant.9 in let more = answers-rise (g.C.Cpu.rescheds c.loop.cpu) (g.C.Cpu.rescheds c.need_resched.new.self) c.need_resched.result c.need_resched.ensures.rescheds in omega (arith, same, more)

pub returns-then-try_outside-clause-opened : goal.returns-then-try_outside-clause-opened
returns-then-try_outside-clause-opened g c = λ _. let on = c.loop.invariant.2 in let noted = ap (λ (z : V). z.steps) c.note_writer.ensures.kept in
    takes-before c.args.site.now Alone (IsOpen Spun) c.args.pass.now c.try_outside.new.pass c.note_writer.new.pass (takes-behind c.args.site.now Alone (IsOpen Spun) c.args.pass.now c.loop.pass c.try_outside.new.pass c.requires.own on.own on.task on.steps on.goes_on (c.try_outside.ensures.opened c.if-try_outside.true))
    (omega (arith, noted)) c.note_writer.ensures.on.goes_on
