use Rattle.std.proofs.Common.{◌∙◌, ℕ, ap, subst, sym, length}
use Rattle.lock_core.specs.Pasts.{FoundAt}
use Rattle.percpu_rwsem.specs.PercpuRuled.{count_at}
use Rattle.percpu_rwsem.specs.Types.{Face, No, Idle}
use Rattle.percpu_rwsem.proofs.Having.{has-count}
use Rattle.percpu_rwsem.proofs.Stepping.{ends-at}
use Rattle.lock_core.proofs.Sitting.{noted-on, sits-released}
use Rattle.percpu_rwsem.proofs.steps.end_read.Goals as goal

pub step-requires-clause-there : goal.step-requires-clause-there
step-requires-clause-there g c = has-count (length c.args.site.now.table.shared.key) c.args.task c.count_place-place.result c.args.site.now.small.tasks ((c.requires.own.planned c.args.task c.requires.mine).0) c.count_place-place.ensures

pub step-requires-clause-lets : goal.step-requires-clause-lets
step-requires-clause-lets g c = ends-at g.O.Object.object g.O.Object.WORDS c.args.site.now.table.shared.key _ _ _ c.args.task _ c.count_place-place.ensures c.requires.small (sym c.requires.own.task ∙ c.requires.mine) (sym c.requires.own.held ∙ c.requires.held) c.requires.reads c.requires.quiet c.requires.own.stage

pub returns-clause-on : goal.returns-clause-on
returns-clause-on g c = let told = c.step.ensures.told.1 in let seat = c.set_held.ensures.seat in noted-on c.step.new.pass (sits-released 0 Idle (ap (λ s. s.me.0.view) seat ∙ told.0) c.requires.quiet (ap (λ s. s.table_id) seat ∙ c.step.ensures.own.0) (ap (λ s. s.me.1) seat ∙ told.1) (c.set_held.ensures.face ∙ ap (λ (f : Face). record f { held = No }) c.step.ensures.face) c.requires.own) c.step.ensures.goes_on c.step.ensures.last c.set_held.ensures.seat

pub returns-clause-found : goal.returns-clause-found
returns-clause-found g c = subst (λ s. FoundAt (count_at c.args.task) 1 s.me.0.past) (sym c.set_held.ensures.seat) (subst (λ (at : ℕ). FoundAt at 1 c.step.new.pass.seat.me.0.past) c.count_place-place.ensures (subst (λ (n : ℕ). FoundAt c.count_place-place.result n c.step.new.pass.seat.me.0.past) c.step.ensures.told.0 c.step.ensures.found))
