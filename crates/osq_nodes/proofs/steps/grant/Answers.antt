use Rattle.std.proofs.Common.{arith, length, refl}
use Rattle.osq_nodes.specs.Types.{Store, Out, Granting}
use Rattle.osq_nodes.specs.Words.{locked_at}
use Rattle.osq_nodes.proofs.Owning.{kept-by, moves-by}
use Rattle.osq_nodes.proofs.Locals
use Rattle.osq_nodes.proofs.steps.grant.Goals as goal

pub locked_of-requires : goal.locked_of-requires
locked_of-requires c = let few = c.args.osq.now.site.small.tasks in let l = c.requires.there in omega (arith, few, l)

pub step-requires-clause-inside : goal.step-requires-clause-inside
step-requires-clause-inside c = let l = c.requires.there in let e = c.locked_of.ensures in omega (arith, l, e)

pub step-requires-clause-keeps : goal.step-requires-clause-keeps
step-requires-clause-keeps c = moves-by (length c.args.osq.now.site.table.shared.key) c.args.task c.args.pass.now.pass.face.task (Granting c.args.next) c.args.pass.now.pass.seat.me.0.view.ext.place (locked_at c.args.next) c.locked_of.result (Store 1) (Store 1) (λ _. Out) (λ _. Out) (λ _. Unit {0})
    c.requires.mine c.requires.here c.locked_of.ensures refl refl (Locals.grants-next (length c.args.osq.now.site.table.shared.key) c.args.task c.args.next)

pub returns-clause-kept : goal.returns-clause-kept
returns-clause-kept c = kept-by c.args.pass.now.pass.seat.me.0.view c.step.new.pass.pass.seat.me.0.view (Granting c.args.next) (λ p n. Out) c.step.result c.step.ensures.kept c.requires.here
