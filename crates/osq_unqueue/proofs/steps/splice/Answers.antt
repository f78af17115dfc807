use Rattle.std.proofs.Common.{◌≡◌, ℕ, suc, length, sym, ap, arith}
use Rattle.lock_core.specs.declared.op.Op.TheVariants.{Store}
use Rattle.osq_nodes.specs.declared.node.Place.TheVariants.{Splicing, Relinking}
use Rattle.osq_nodes.specs.OsqSteps.{relinking_of}
use Rattle.osq_nodes.specs.Words.{prev_at}
use Rattle.osq_nodes.proofs.Owning.{kept-by, moves-by}
use Rattle.osq_unqueue.proofs.Unqueueing.{splices-prev}
use Rattle.osq_unqueue.proofs.steps.splice.Goals as goal

pub prev_of-requires : goal.prev_of-requires
prev_of-requires c = let few = c.args.osq.now.site.small.tasks in let l = c.requires.there in omega (arith, few, l)

pub step-requires-clause-inside : goal.step-requires-clause-inside
step-requires-clause-inside c = let l = c.requires.there in let e = c.prev_of.ensures in omega (arith, l, e)

pub step-requires-clause-keeps : goal.step-requires-clause-keeps
step-requires-clause-keeps c = moves-by (length c.args.osq.now.site.table.shared.key) c.args.task c.args.pass.now.pass.face.task (Splicing c.args.prev c.args.next) c.args.pass.now.pass.seat.me.0.view.ext.place (prev_at c.args.next) c.prev_of.result (Store (suc c.args.prev)) (Store c.code.result) (λ _. Relinking c.args.prev c.args.next) (λ _. relinking_of c.args.pass.now.pass.seat.me.0.view.ext.place) (λ _. Unit {0})
    c.requires.mine c.requires.here c.prev_of.ensures (ap (λ (x : ℕ). Store x) (let e : suc c.args.prev ≡ c.code.result = omega (arith, c.code.ensures) in e)) (λ i _. relinking_of (sym c.requires.here i)) (splices-prev (length c.args.osq.now.site.table.shared.key) c.args.task c.args.prev c.args.next)

pub returns-clause-kept : goal.returns-clause-kept
returns-clause-kept c = kept-by c.args.pass.now.pass.seat.me.0.view c.step.new.pass.pass.seat.me.0.view (Splicing c.args.prev c.args.next) (λ p n. relinking_of p) c.step.result c.step.ensures.kept c.requires.here
