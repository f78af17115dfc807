use Rattle.std.proofs.Common.{ap, arith, length, suc, sym, ℕ, ◌≡◌}
use Rattle.osq_nodes.specs.Words.{prev_at}
use Rattle.osq_nodes.specs.OsqSteps.{linking_of}
use Rattle.osq_nodes.specs.Types.{Store, Swapped, Linking}
use Rattle.osq_nodes.proofs.Owning.{its-task, kept-by, moves-by}
use Rattle.osq_nodes.proofs.Locals
use Rattle.osq_nodes.proofs.steps.store_prev.Goals as goal

pub prev_of-requires : goal.prev_of-requires
prev_of-requires c = its-task c.args.osq.now.site.table.shared.key c.args.osq.now.site.table.shared.table_id c.args.pass.now.pass.seat.table_id c.args.pass.now.pass.seat.me c.args.pass.now.pass.face c.args.task c.args.osq.now.site.small.tasks c.requires.own c.requires.mine

pub step-requires-clause-inside : goal.step-requires-clause-inside
step-requires-clause-inside c = let l = (c.requires.own.sits.planned c.args.task c.requires.mine).0 in let e = c.prev_of.ensures in omega (arith, l, e)

pub step-requires-clause-keeps : goal.step-requires-clause-keeps
step-requires-clause-keeps c = moves-by (length c.args.osq.now.site.table.shared.key) c.args.task c.args.pass.now.pass.face.task (Swapped c.args.prev) c.args.pass.now.pass.seat.me.0.view.ext.place (prev_at c.args.task) c.prev_of.result (Store (suc c.args.prev)) (Store c.code.result) (λ _. Linking c.args.prev) (λ _. linking_of c.args.pass.now.pass.seat.me.0.view.ext.place) (λ _. Unit {0})
    c.requires.mine c.requires.here c.prev_of.ensures (ap (λ (x : ℕ). Store x) (let e : suc c.args.prev ≡ c.code.result = omega (arith, c.code.ensures) in e)) (λ i _. linking_of (sym c.requires.here i)) (Locals.stores-own-prev (length c.args.osq.now.site.table.shared.key) c.args.task c.args.prev)

pub returns-clause-kept : goal.returns-clause-kept
returns-clause-kept c = kept-by c.args.pass.now.pass.seat.me.0.view c.step.new.pass.pass.seat.me.0.view (Swapped c.args.prev) (λ p n. linking_of p) c.step.result c.step.ensures.kept c.requires.here
