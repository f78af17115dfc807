use Rattle.std.proofs.Common.{◌∙◌, ap, sym, length}
use Rattle.percpu_rwsem.specs.Types.{Face, No, Idle}
use Rattle.percpu_rwsem.proofs.Sitting.{sits-unheld}
use Rattle.percpu_rwsem.proofs.Having.{has-block}
use Rattle.percpu_rwsem.proofs.Stepping.{unblocks}
use Rattle.lock_core.proofs.Sitting.{noted-on}
use Rattle.percpu_rwsem.proofs.steps.unblock.Goals as goal

pub step-requires-clause-there : goal.step-requires-clause-there
step-requires-clause-there g c = has-block (length c.args.site.now.table.shared.key) c.args.site.now.small.tasks

pub step-requires-clause-lets : goal.step-requires-clause-lets
step-requires-clause-lets g c = unblocks g.O.Object.object g.O.Object.WORDS c.args.site.now.table.shared.key _ _ c.args.task c.requires.blocks.0 _ (sym c.requires.own.task ∙ c.requires.mine) c.requires.blocks.1 (λ z. c.requires.unshared (c.requires.own.held ∙ z)) c.requires.quiet c.requires.own.stage

pub returns-clause-on : goal.returns-clause-on
returns-clause-on g c = let told = c.step.ensures.told in let seat = c.set_held.ensures.seat in noted-on c.step.new.pass (sits-unheld Idle (ap (λ s. s.me.0.view) seat ∙ told.0) c.requires.quiet (λ z. c.requires.unshared (c.requires.own.held ∙ z)) (ap (λ s. s.table_id) seat ∙ c.step.ensures.own.0) (ap (λ s. s.me.1) seat ∙ told.1) (c.set_held.ensures.face ∙ ap (λ (f : Face). record f { held = No }) c.step.ensures.face) c.requires.own) c.step.ensures.goes_on c.step.ensures.last c.set_held.ensures.seat
