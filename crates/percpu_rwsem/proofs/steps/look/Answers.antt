use Rattle.std.proofs.Common.{◌∙◌, arith, ap, subst, sym, refl, IsSome, length}
use Rattle.lock_core.proofs.Sitting.{noted-on, sits-on, sits-took}
use Rattle.percpu_rwsem.specs.Types.{Face, Shared, Reads}
use Rattle.percpu_rwsem.proofs.Having.{has-block}
use Rattle.percpu_rwsem.proofs.Stepping.{looks-after}
use Rattle.percpu_rwsem.proofs.steps.look.Goals as goal

pub step-found-requires-clause-there : goal.step-found-requires-clause-there
step-found-requires-clause-there g c = has-block (length c.args.site.now.table.shared.key) c.args.site.now.small.tasks

pub step-found-requires-clause-lets : goal.step-found-requires-clause-lets
step-found-requires-clause-lets g c = looks-after g.O.Object.object g.O.Object.WORDS c.args.site.now.table.shared.key _ _ c.args.task _ (sym c.requires.own.task ∙ c.requires.mine) (sym c.requires.own.held ∙ c.requires.out) c.requires.added

pub returns-then-found-ne0-clause-on : goal.returns-then-found-ne0-clause-on
returns-then-found-ne0-clause-on g c = record {
  own = let turn = (c.step-found.ensures.told.1 c.if-found-ne0.true).1 in sits-on c.step-found.ensures.own.0 turn.1 (ap (λ v. v.hand) turn.0) (let n = ap (λ v. v.steps) turn.0 in omega (arith, n)) c.step-found.ensures.face c.requires.own;
  goes_on = c.step-found.ensures.goes_on;
  last = c.step-found.ensures.last;
}

pub returns-clause-on : goal.returns-clause-on
returns-clause-on g c = let told = c.step-found.ensures.told.0 c.if-found-ne0.false in let seat = c.set_held.ensures.seat in noted-on c.step-found.new.pass (sits-took Shared told.0 told.1 (Reads) (ap (λ s. s.me.0.view) seat ∙ told.3.0) ((told.2 c.args.site.now.table.shared.key c.requires.own.plan).within) c.requires.out (subst IsSome (sym c.requires.mine) refl) (ap (λ s. s.table_id) seat ∙ c.step-found.ensures.own.0) (ap (λ s. s.me.1) seat ∙ told.3.1) (c.set_held.ensures.face ∙ ap (λ (f : Face). record f { held = Shared }) c.step-found.ensures.face) c.requires.own) c.step-found.ensures.goes_on c.step-found.ensures.last c.set_held.ensures.seat
