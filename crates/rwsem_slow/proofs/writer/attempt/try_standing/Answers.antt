use Rattle.std.proofs.Common.{ap}
use Rattle.rwsem_slow.specs.RwSemOpening.{IsOpen}
use Rattle.rwsem_slow.specs.Types.{Slept, Face, Alone}
use Rattle.rwsem_slow.proofs.Opening.{takes-behind}
use Rattle.rwsem_slow.proofs.writer.attempt.try_standing.Goals as goal

pub returns-in-Took-clause-opened : goal.returns-in-Took-clause-opened
returns-in-Took-clause-opened g c = λ _. let i = c.loop.invariant in
    takes-behind c.args.site.now Alone (IsOpen Slept) c.args.pass.now c.loop.pass c.exchange.new.pass c.requires.own i.2 (ap (λ (f : Face). f.task) i.3) i.5 i.4 (c.exchange.ensures.opened c.in-Took.is)
