use Rattle.std.proofs.Common.{◌∙◌, arith, ap, sym, length}
use Rattle.lock_core.proofs.Sitting.{noted-on, sits-on, sits-took, some-number}
use Rattle.seq_fault.specs.Types.{Face, Alone}
use Rattle.seq_fault.proofs.Having.{has-sequence}
use Rattle.seq_fault.proofs.Stepping.{enters}
use Rattle.seq_fault.proofs.steps.enter.Goals as goal

pub step-found-requires-clause-there : goal.step-found-requires-clause-there
step-found-requires-clause-there g c = has-sequence (length c.args.site.now.table.shared.key) c.args.site.now.small.tasks

pub step-found-requires-clause-lets : goal.step-found-requires-clause-lets
step-found-requires-clause-lets g c = let t = some-number c.args.pass.now.face.task c.requires.numbered in enters g.O.Object.object g.O.Object.WORDS c.args.site.now.table.shared.key _ _ t.0 c.args.word _ (sym c.requires.own.task ∙ t.1) (sym c.requires.own.held ∙ c.requires.out) c.requires.even c.requires.small

pub returns-then-found-word-clause-on : goal.returns-then-found-word-clause-on
returns-then-found-word-clause-on g c = record {
  own = let turn = c.step-found.ensures.told.1 c.if-found-word.true in sits-on c.step-found.ensures.own.0 turn.1 (ap (λ v. v.hand) turn.0) (let n = ap (λ v. v.steps) turn.0 in omega (arith, n)) c.step-found.ensures.face c.requires.own;
  goes_on = c.step-found.ensures.goes_on;
  last = c.step-found.ensures.last;
}

pub returns-clause-on : goal.returns-clause-on
returns-clause-on g c = let told = c.step-found.ensures.told.0 c.if-found-word.false in let seat = c.set_held.ensures.seat in noted-on c.step-found.new.pass (sits-took Alone told.0 told.1 c.args.pass.now.seat.me.0.view.ext (ap (λ s. s.me.0.view) seat ∙ told.3.0) ((told.2 c.args.site.now.table.shared.key c.requires.own.plan).within) c.requires.out c.requires.numbered (ap (λ s. s.table_id) seat ∙ c.step-found.ensures.own.0) (ap (λ s. s.me.1) seat ∙ told.3.1) (c.set_held.ensures.face ∙ ap (λ (f : Face). record f { held = Alone }) c.step-found.ensures.face) c.requires.own) c.step-found.ensures.goes_on c.step-found.ensures.last c.set_held.ensures.seat
