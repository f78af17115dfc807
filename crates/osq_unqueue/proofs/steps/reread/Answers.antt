use Rattle.std.proofs.Common.{◌≡◌, ◌+◌, ◌-◌, ℕ, length, refl, sym, subst, arith}
use Rattle.lock_core.specs.declared.op.Op.TheVariants.{Load}
use Rattle.osq_nodes.specs.declared.node.Place.TheVariants.{Waiting}
use Rattle.lock_core.specs.Pasts.{FoundAt}
use Rattle.osq_nodes.specs.OsqKept.{IsCode}
use Rattle.osq_nodes.specs.OsqHandles.{past_of}
use Rattle.osq_nodes.specs.Words.{prev_at}
use Rattle.osq_nodes.proofs.Owning.{its-task, moves-by}
use Rattle.osq_unqueue.proofs.Unqueueing.{rereads}
use Rattle.osq_unqueue.proofs.steps.reread.Goals as goal

pub prev_of-requires : goal.prev_of-requires
prev_of-requires c = its-task c.args.osq.now.site.table.shared.key c.args.osq.now.site.table.shared.table_id c.args.pass.now.pass.seat.table_id c.args.pass.now.pass.seat.me c.args.pass.now.pass.face c.args.task c.args.osq.now.site.small.tasks c.requires.own c.requires.mine

pub step-requires-clause-inside : goal.step-requires-clause-inside
step-requires-clause-inside c = let l = (c.requires.own.sits.planned c.args.task c.requires.mine).0 in let e = c.prev_of.ensures in omega (arith, l, e)

pub step-requires-clause-keeps : goal.step-requires-clause-keeps
step-requires-clause-keeps c = moves-by (length c.args.osq.now.site.table.shared.key) c.args.task c.args.pass.now.pass.face.task Waiting c.args.pass.now.pass.seat.me.0.view.ext.place (prev_at c.args.task) c.prev_of.result Load Load (λ _. Waiting) (λ _. c.args.pass.now.pass.seat.me.0.view.ext.place) (IsCode (length c.args.osq.now.site.table.shared.key))
    c.requires.mine c.requires.here c.prev_of.ensures refl (λ i _. sym c.requires.here i) (rereads (length c.args.osq.now.site.table.shared.key) c.args.task)

pub overflow_sub-result : goal.overflow_sub-result
overflow_sub-result c = let e = c.step.ensures.told.1 in omega (arith, e)

pub overflow_cast-result : goal.overflow_cast-result
overflow_cast-result c = let few = c.args.osq.now.site.small.tasks in let e = c.step.ensures.told.1 in let s = c.step.ensures.told.2 in omega (arith, e, s, few)

pub returns-clause-there : goal.returns-clause-there
returns-clause-there c = let e = c.step.ensures.told.1 in let s = c.step.ensures.told.2 in omega (arith, e, s)

pub returns-clause-found : goal.returns-clause-found
returns-clause-found c = let n = c.step.result in let past = past_of c.step.new.pass in let code : n ≡ (n - 1) + 1 = (let e = c.step.ensures.told.1 in omega (arith, e)) in
    subst (λ (m : ℕ). FoundAt (prev_at c.args.task) m past) code (subst (λ (i : ℕ). FoundAt i n past) c.prev_of.ensures c.step.ensures.found)
