use Rattle.std.proofs.Common.{ap}
use Rattle.rwsem_slow.specs.RwSemOpening.{IsOpen}
use Rattle.rwsem_slow.specs.Types.{Slept, Face, Alone}
use Rattle.rwsem_slow.proofs.Opening.{takes-behind}
use Rattle.rwsem_slow.proofs.writer.attempt.try_queued.Goals as goal

pub returns-clause-opened : goal.returns-clause-opened
returns-clause-opened g c = λ is. let e = c.stand-standing.ensures in
    takes-behind c.args.site.now Alone (IsOpen Slept) c.args.pass.now c.stand-standing.new.pass c.try_standing.new.pass c.requires.own e.own (ap (λ (f : Face). f.task) e.face) e.kept.later e.goes_on (c.try_standing.ensures.opened is)
