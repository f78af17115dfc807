use Rattle.std.proofs.Common.{ap, arith, length, refl, suc, ℕ, ◌≡◌}
use Rattle.osq_nodes.specs.Types.{Store, Linking, Waiting}
use Rattle.osq_nodes.specs.Words.{next_at}
use Rattle.osq_nodes.proofs.Owning.{kept-by, moves-by}
use Rattle.osq_nodes.proofs.Locals
use Rattle.osq_nodes.proofs.steps.link.Goals as goal

pub next_of-requires : goal.next_of-requires
next_of-requires c = let few = c.args.osq.now.site.small.tasks in let l = c.requires.there in omega (arith, few, l)

pub step-requires-clause-inside : goal.step-requires-clause-inside
step-requires-clause-inside c = let l = c.requires.there in let e = c.next_of.ensures in omega (arith, l, e)

pub step-requires-clause-keeps : goal.step-requires-clause-keeps
step-requires-clause-keeps c = moves-by (length c.args.osq.now.site.table.shared.key) c.args.task c.args.pass.now.pass.face.task (Linking c.args.prev) c.args.pass.now.pass.seat.me.0.view.ext.place (next_at c.args.prev) c.next_of.result (Store (suc c.args.task)) (Store c.code.result) (λ _. Waiting) (λ _. Waiting) (λ _. Unit {0})
    c.requires.mine c.requires.here c.next_of.ensures (ap (λ (x : ℕ). Store x) (let e : suc c.args.task ≡ c.code.result = omega (arith, c.code.ensures) in e)) refl (Locals.links-in (length c.args.osq.now.site.table.shared.key) c.args.task c.args.prev)

pub returns-clause-kept : goal.returns-clause-kept
returns-clause-kept c = kept-by c.args.pass.now.pass.seat.me.0.view c.step.new.pass.pass.seat.me.0.view (Linking c.args.prev) (λ p n. Waiting) c.step.result c.step.ensures.kept c.requires.here
