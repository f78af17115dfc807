use Rattle.rwsem_slow.specs.RwSemOpening.{IsOpen}
use Rattle.rwsem_slow.specs.Types.{Slept, Alone}
use Rattle.rwsem_slow.proofs.WriterSteps.{mark-asks, mark-fails}
use Rattle.rwsem_slow.proofs.Opening.{takes-behind}
use Rattle.rwsem_slow.proofs.writer.attempt.exchange.Goals as goal

pub returns-in-Take-clause-opened : goal.returns-in-Take-clause-opened
returns-in-Take-clause-opened g c = λ is. let e = c.sees_mark-marked.ensures in
    takes-behind c.args.site.now Alone (IsOpen Slept) c.args.pass.now c.sees_mark-marked.new.pass c.take.new.pass c.requires.own e.on.own e.on.task e.on.steps e.on.goes_on (c.take.ensures.opened is)

pub ask-requires-clause-tried : goal.ask-requires-clause-tried
ask-requires-clause-tried g c = (mark-asks c.args.pass.now.seat.me.0.view c.sees_mark-marked.new.pass.seat.me.0.view c.requires.queued c.requires.list c.args.standing.me c.args.standing.first c.requires.first c.args.standing.alone c.args.overdue c.requires.only c.args.count c.requires.lawful c.requires.tried c.sees_mark-marked.result c.sees_mark-marked.ensures.knows c.in-Mark.new c.in-Mark.ensures.table).0.1

pub returns-in-Fail-clause-tried : goal.returns-in-Fail-clause-tried
returns-in-Fail-clause-tried g c = λ _. (mark-fails c.args.pass.now.seat.me.0.view c.sees_mark-marked.new.pass.seat.me.0.view c.requires.queued c.requires.list c.args.standing.me c.args.standing.first c.requires.first c.args.standing.alone c.args.overdue c.requires.only c.args.count c.requires.lawful c.requires.tried c.sees_mark-marked.result c.sees_mark-marked.ensures.knows c.in-Fail.ensures.table).1
