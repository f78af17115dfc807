use Rattle.std.proofs.Common.{arith, ap, length}
use Rattle.lock_core.proofs.Sitting.{sits-on}
use Rattle.std.proofs.Common.{inl, inr}
use Rattle.lock_core.proofs.Having.{has-site}
use Rattle.seq_fault.proofs.Stepping.{peeks}
use Rattle.seq_fault.proofs.steps.peek.Goals as goal

pub step-requires-clause-there : goal.step-requires-clause-there
step-requires-clause-there g c = has-site (length c.args.site.now.table.shared.key) c.args.at

pub step-requires-clause-lets : goal.step-requires-clause-lets
step-requires-clause-lets g c = peeks g.O.Object.object g.O.Object.WORDS c.args.site.now.table.shared.key _ _ c.args.at _ c.requires.watching.0 g.met.O.Object.few_words c.requires.inside c.requires.watching.1

pub returns-clause-on : goal.returns-clause-on
returns-clause-on g c = record {
  own = elim (c.step.ensures.told c.requires.watching.0 c.requires.watching.1) [ inl x ↦ let turn = x.1 in sits-on c.step.ensures.own.0 turn.1 (ap (λ v. v.hand) turn.0) (let n = ap (λ v. v.steps) turn.0 in omega (arith, n)) c.step.ensures.face c.requires.own | inr turn ↦ sits-on c.step.ensures.own.0 turn.1 (ap (λ v. v.hand) turn.0) (let n = ap (λ v. v.steps) turn.0 in omega (arith, n)) c.step.ensures.face c.requires.own ];
  goes_on = c.step.ensures.goes_on;
  last = c.step.ensures.last;
}
