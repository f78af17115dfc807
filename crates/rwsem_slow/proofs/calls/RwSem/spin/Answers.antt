use Rattle.std.proofs.Common.{inl, inr, refl, ap, arith}
use Rattle.lock_core.proofs.Within.{sees-within}
use Rattle.rwsem_slow.specs.RwSemHandles.{shown_of}
use Rattle.rwsem_wake.specs.RwSemPlaces.{seen_of}
use Rattle.rwsem_wake.specs.RwSemViews.{V}
use Rattle.cpu_task.proofs.SleepCounts.{answers-rise}
use Rattle.rwsem_slow.specs.RwSemOpening.{IsOpen}
use Rattle.rwsem_slow.specs.Types.{Spun, Alone}
use Rattle.rwsem_slow.proofs.Opening.{takes-within}
use Rattle.rwsem_slow.proofs.calls.RwSem.spin.Goals as goal

pub returns-then-need_resched-clause-saw : goal.returns-then-need_resched-clause-saw
returns-then-need_resched-clause-saw g c = λ _. inl refl

pub returns-then-is_reader_owned-clause-saw : goal.returns-then-is_reader_owned-clause-saw
returns-then-is_reader_owned-clause-saw g c = λ _. inl (ap (λ (z : V). z.hand.saw) c.is_reader_owned.ensures.kept)

pub returns-then-not-lock-clause-saw : goal.returns-then-not-lock-clause-saw
returns-then-not-lock-clause-saw g c = λ _. inl (ap (λ (z : V). z.hand.saw) c.is_reader_owned.ensures.kept)

pub returns-clause-saw : goal.returns-clause-saw
returns-clause-saw g c = λ failed. let looks = c.is_reader_owned.ensures.kept in let steps = ap (λ (z : V). z.steps) looks in let saw = c.spin-took.ensures.saw failed in
    inr (
      saw.0,
      sees-within (shown_of c.args.pass.now) (seen_of c.is_reader_owned.new.pass) (seen_of c.spin-took.new.pass) (shown_of (record { pass = c.spin-took.new.pass; queue = c.unlock.new.pass; tally = c.args.pass.now.tally; counts = c.args.pass.now.counts }))
          (ap (λ (z : V). z.hand.task) looks) (omega (arith, steps)) c.is_reader_owned.ensures.on.goes_on saw.1 refl (omega arith) (λ p e. e),
    )

pub returns-then-need_resched-clause-rescheds : goal.returns-then-need_resched-clause-rescheds
returns-then-need_resched-clause-rescheds g c = answers-rise (g.C.Cpu.rescheds c.args.cpu.now) (g.C.Cpu.rescheds c.need_resched.new.self) c.need_resched.result c.need_resched.ensures.rescheds

pub returns-clause-opened : goal.returns-clause-opened
returns-clause-opened g c = λ took. let looks = c.is_reader_owned.ensures.kept in let steps = ap (λ (z : V). z.steps) looks in
    takes-within Alone (IsOpen Spun) (shown_of c.args.pass.now) (seen_of c.is_reader_owned.new.pass) (seen_of c.spin-took.new.pass) (shown_of (record { pass = c.spin-took.new.pass; queue = c.unlock.new.pass; tally = c.args.pass.now.tally; counts = c.args.pass.now.counts }))
    (ap (λ (z : V). z.hand.task) looks) (omega (arith, steps)) c.is_reader_owned.ensures.on.goes_on (c.spin-took.ensures.opened took) (omega arith) (λ p t. t)

pub returns-clause-queue : goal.returns-clause-queue
returns-clause-queue g c = λ p t. c.unlock.ensures.on.goes_on p (c.lock.ensures.on.goes_on p t)
