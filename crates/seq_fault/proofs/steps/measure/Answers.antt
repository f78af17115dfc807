use Rattle.std.proofs.Common.{arith, ap, length}
use Rattle.lock_core.proofs.Sitting.{sits-on}
use Rattle.std.proofs.Common.{inl, inr}
use Rattle.lock_core.proofs.Having.{has-site}
use Rattle.lock_core.specs.declared.layout.TheConstants.{LENGTH_AT}
use Rattle.seq_fault.proofs.Stepping.{measures}
use Rattle.seq_fault.proofs.steps.measure.Goals as goal

pub step-requires-clause-there : goal.step-requires-clause-there
step-requires-clause-there g c = has-site (length c.args.site.now.table.shared.key) LENGTH_AT

pub step-requires-clause-lets : goal.step-requires-clause-lets
step-requires-clause-lets g c = measures g.O.Object.object g.O.Object.WORDS c.args.site.now.table.shared.key _ _ _ c.requires.watching.0 c.requires.watching.1

pub returns-clause-on : goal.returns-clause-on
returns-clause-on g c = record {
  own = elim (c.step.ensures.told.1 c.requires.watching.0 c.requires.watching.1) [ inl x ↦ let turn = x.1 in sits-on c.step.ensures.own.0 turn.1 (ap (λ v. v.hand) turn.0) (let n = ap (λ v. v.steps) turn.0 in omega (arith, n)) c.step.ensures.face c.requires.own | inr turn ↦ sits-on c.step.ensures.own.0 turn.1 (ap (λ v. v.hand) turn.0) (let n = ap (λ v. v.steps) turn.0 in omega (arith, n)) c.step.ensures.face c.requires.own ];
  goes_on = c.step.ensures.goes_on;
  last = c.step.ensures.last;
}
