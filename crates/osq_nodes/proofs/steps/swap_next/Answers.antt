use Rattle.std.proofs.Common.{◌≡◌, ◌-◌, ◌∙◌, ℕ, suc, length, refl, ap, sym, arith}
use Rattle.osq_nodes.specs.Words.{next_at}
use Rattle.osq_nodes.specs.OsqSteps.{take_place, taking_of, IsCodeOrNone}
use Rattle.osq_nodes.specs.OsqPlaces.{waits_at}
use Rattle.osq_nodes.specs.OsqRuled.{stepped}
use Rattle.osq_nodes.specs.Types.{Swap}
use Rattle.osq_nodes.proofs.Owning.{code-small, its-task, kept-by, moves-by, takes-code}
use Rattle.osq_nodes.proofs.Locals
use Rattle.osq_nodes.proofs.steps.swap_next.Goals as goal

pub next_of-requires : goal.next_of-requires
next_of-requires c = its-task c.args.osq.now.site.table.shared.key c.args.osq.now.site.table.shared.table_id c.args.pass.now.pass.seat.table_id c.args.pass.now.pass.seat.me c.args.pass.now.pass.face c.args.task c.args.osq.now.site.small.tasks c.requires.own c.requires.mine

pub step-requires-clause-inside : goal.step-requires-clause-inside
step-requires-clause-inside c = let l = (c.requires.own.sits.planned c.args.task c.requires.mine).0 in let e = c.next_of.ensures in omega (arith, l, e)

pub step-requires-clause-keeps : goal.step-requires-clause-keeps
step-requires-clause-keeps c = moves-by (length c.args.osq.now.site.table.shared.key) c.args.task c.args.pass.now.pass.face.task (waits_at c.args.prev) c.args.pass.now.pass.seat.me.0.view.ext.place (next_at c.args.task) c.next_of.result (Swap 0) (Swap 0) (take_place (taking_of (waits_at c.args.prev)) (waits_at c.args.prev)) (take_place (taking_of c.args.pass.now.pass.seat.me.0.view.ext.place) c.args.pass.now.pass.seat.me.0.view.ext.place) (IsCodeOrNone (length c.args.osq.now.site.table.shared.key))
    c.requires.mine c.requires.here c.next_of.ensures refl (λ i. take_place (taking_of (sym c.requires.here i)) (sym c.requires.here i)) (Locals.waits-take (length c.args.osq.now.site.table.shared.key) c.args.task c.args.prev)

pub returns-clause-code : goal.returns-clause-code
returns-clause-code c = code-small c.step.result (length c.args.osq.now.site.table.shared.key) c.step.ensures.told

pub returns-clause-some : goal.returns-clause-some
returns-clause-some c = λ f. let y : ℕ = c.step.result - 1 in let e : c.step.result ≡ suc y = omega (arith, f) in let v = c.args.pass.now.pass.seat.me.0.view in let P = waits_at c.args.prev in
    kept-by v c.step.new.pass.pass.seat.me.0.view P (λ p n. take_place (taking_of p) p n) c.step.result c.step.ensures.kept c.requires.here ∙ (ap (λ (n : ℕ). stepped P v (take_place (taking_of P) P n) n) e ∙ takes-code v c.args.prev y)
