use Rattle.std.proofs.Common.{arith, length, refl, sym}
use Rattle.osq_nodes.specs.Words.{next_at}
use Rattle.osq_nodes.specs.OsqPlaces.{waits_at}
use Rattle.osq_nodes.specs.Types.{Load}
use Rattle.osq_nodes.proofs.Owning.{found-next, its-task, moves-by}
use Rattle.osq_nodes.proofs.Locals
use Rattle.osq_nodes.proofs.steps.has_next.Goals as goal

pub next_of-requires : goal.next_of-requires
next_of-requires c = its-task c.args.osq.now.site.table.shared.key c.args.osq.now.site.table.shared.table_id c.args.pass.now.pass.seat.table_id c.args.pass.now.pass.seat.me c.args.pass.now.pass.face c.args.task c.args.osq.now.site.small.tasks c.requires.own c.requires.mine

pub step-requires-clause-inside : goal.step-requires-clause-inside
step-requires-clause-inside c = let l = (c.requires.own.sits.planned c.args.task c.requires.mine).0 in let e = c.next_of.ensures in omega (arith, l, e)

pub step-requires-clause-keeps : goal.step-requires-clause-keeps
step-requires-clause-keeps c = moves-by (length c.args.osq.now.site.table.shared.key) c.args.task c.args.pass.now.pass.face.task (waits_at c.args.prev) c.args.pass.now.pass.seat.me.0.view.ext.place (next_at c.args.task) c.next_of.result Load Load (λ _. waits_at c.args.prev) (λ _. c.args.pass.now.pass.seat.me.0.view.ext.place) (λ _. Unit {0})
    c.requires.mine c.requires.here c.next_of.ensures refl (λ i _. sym c.requires.here i) (Locals.looks (length c.args.osq.now.site.table.shared.key) c.args.task (waits_at c.args.prev) (next_at c.args.task))

pub returns-clause-found : goal.returns-clause-found
returns-clause-found c = found-next c.next_of.result c.step.result c.args.task c.step.new.pass c.next_of.ensures c.step.ensures.found
