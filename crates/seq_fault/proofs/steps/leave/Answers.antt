use Rattle.std.proofs.Common.{◌∙◌, ap, sym, length}
use Rattle.seq_fault.specs.Types.{Face, No}
use Rattle.seq_fault.proofs.Having.{has-sequence}
use Rattle.seq_fault.proofs.Stepping.{leaves}
use Rattle.lock_core.proofs.Sitting.{noted-on, sits-released}
use Rattle.seq_fault.proofs.steps.leave.Goals as goal

pub step-requires-clause-there : goal.step-requires-clause-there
step-requires-clause-there g c = has-sequence (length c.args.site.now.table.shared.key) c.args.site.now.small.tasks

pub step-requires-clause-lets : goal.step-requires-clause-lets
step-requires-clause-lets g c = leaves g.O.Object.object g.O.Object.WORDS c.args.site.now.table.shared.key _ _ _ (sym c.requires.own.held ∙ c.requires.held) c.requires.quiet c.requires.own.stage

pub returns-clause-on : goal.returns-clause-on
returns-clause-on g c = let told = c.step.ensures.told in let seat = c.set_held.ensures.seat in noted-on c.step.new.pass (sits-released 0 c.args.pass.now.seat.me.0.view.ext (ap (λ s. s.me.0.view) seat ∙ told.0) c.requires.quiet (ap (λ s. s.table_id) seat ∙ c.step.ensures.own.0) (ap (λ s. s.me.1) seat ∙ told.1) (c.set_held.ensures.face ∙ ap (λ (f : Face). record f { held = No }) c.step.ensures.face) c.requires.own) c.step.ensures.goes_on c.step.ensures.last c.set_held.ensures.seat
