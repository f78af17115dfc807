use Rattle.std.proofs.Common.{◌≡◌, ◌+◌, suc, length, sym, arith}
use Rattle.lock_core.specs.declared.op.Op.TheVariants.{Exchange}
use Rattle.osq_nodes.specs.declared.node.Place.TheVariants.{Waiting, Unlinked}
use Rattle.osq_nodes.specs.OsqSteps.{try_place, task_at}
use Rattle.osq_nodes.specs.Words.{next_at}
use Rattle.osq_nodes.proofs.Owning.{found-there, moves-by}
use Rattle.osq_unqueue.proofs.Unqueueing.{takes-code-back}
use Rattle.osq_unqueue.proofs.steps.take_back.Goals as goal

pub next_of-requires : goal.next_of-requires
next_of-requires c = let few = c.args.osq.now.site.small.tasks in let l = c.requires.there in omega (arith, few, l)

pub step-requires-clause-inside : goal.step-requires-clause-inside
step-requires-clause-inside c = let l = c.requires.there in let e = c.next_of.ensures in omega (arith, l, e)

pub step-requires-clause-keeps : goal.step-requires-clause-keeps
step-requires-clause-keeps c = let own : suc c.args.task ≡ c.code-own.result = omega (arith, c.code-own.ensures) in let before : c.args.prev ≡ task_at c.next_of.result = (let n = c.next_of.ensures in omega (arith, n)) in
    moves-by (length c.args.osq.now.site.table.shared.key) c.args.task c.args.pass.now.pass.face.task Waiting c.args.pass.now.pass.seat.me.0.view.ext.place (next_at c.args.prev) c.next_of.result (Exchange (suc c.args.task) 0) (Exchange c.code-own.result 0) (try_place Waiting (Unlinked c.args.prev) (suc c.args.task)) (try_place c.args.pass.now.pass.seat.me.0.view.ext.place (Unlinked (task_at c.next_of.result)) c.code-own.result) (λ _. Unit {0})
    c.requires.mine c.requires.here c.next_of.ensures (λ i. Exchange (own i) 0) (λ i. try_place (sym c.requires.here i) (Unlinked (before i)) (own i)) (takes-code-back (length c.args.osq.now.site.table.shared.key) c.args.task c.args.prev (let few = c.args.osq.now.site.small.tasks in let l = c.requires.there in omega (arith, few, l)))

pub returns-clause-found : goal.returns-clause-found
returns-clause-found c = found-there c.next_of.result (next_at c.args.prev) c.step.result c.code-own.result (c.args.task + 1) c.step.new.pass c.next_of.ensures c.code-own.ensures c.step.ensures.found
