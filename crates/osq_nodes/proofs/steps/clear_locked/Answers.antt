use Rattle.std.proofs.Common.{arith, length, refl}
use Rattle.osq_nodes.specs.Types.{Store, Out, Cleared}
use Rattle.osq_nodes.specs.Words.{locked_at}
use Rattle.osq_nodes.proofs.Owning.{its-task, kept-by, moves-by}
use Rattle.osq_nodes.proofs.Locals
use Rattle.osq_nodes.proofs.steps.clear_locked.Goals as goal

pub locked_of-requires : goal.locked_of-requires
locked_of-requires c = its-task c.args.osq.now.site.table.shared.key c.args.osq.now.site.table.shared.table_id c.args.pass.now.pass.seat.table_id c.args.pass.now.pass.seat.me c.args.pass.now.pass.face c.args.task c.args.osq.now.site.small.tasks c.requires.own c.requires.mine

pub step-requires-clause-inside : goal.step-requires-clause-inside
step-requires-clause-inside c = let l = (c.requires.own.sits.planned c.args.task c.requires.mine).0 in let e = c.locked_of.ensures in omega (arith, l, e)

pub step-requires-clause-keeps : goal.step-requires-clause-keeps
step-requires-clause-keeps c = moves-by (length c.args.osq.now.site.table.shared.key) c.args.task c.args.pass.now.pass.face.task Out c.args.pass.now.pass.seat.me.0.view.ext.place (locked_at c.args.task) c.locked_of.result (Store 0) (Store 0) (λ _. Cleared) (λ _. Cleared) (λ _. Unit {0})
    c.requires.mine c.requires.here c.locked_of.ensures refl refl (Locals.clears-locked (length c.args.osq.now.site.table.shared.key) c.args.task)

pub returns-clause-kept : goal.returns-clause-kept
returns-clause-kept c = kept-by c.args.pass.now.pass.seat.me.0.view c.step.new.pass.pass.seat.me.0.view Out (λ p n. Cleared) c.step.result c.step.ensures.kept c.requires.here
