use Rattle.std.proofs.Common.{◌%◌, arith, ap, length}
use Rattle.lock_core.proofs.Sitting.{sits-on}
use mathlib.Core.Logic.{dite}
use native.Mathlib.Decide.{ℕ_discrete}
use Rattle.seq_fault.proofs.Having.{has-sequence}
use Rattle.seq_fault.proofs.Stepping.{watches}
use Rattle.seq_fault.proofs.steps.watch.Goals as goal

pub step-requires-clause-there : goal.step-requires-clause-there
step-requires-clause-there g c = has-sequence (length c.args.site.now.table.shared.key) c.args.site.now.small.tasks

pub step-requires-clause-lets : goal.step-requires-clause-lets
step-requires-clause-lets g c = watches g.O.Object.object g.O.Object.WORDS c.args.site.now.table.shared.key _ _ _

pub returns-clause-on : goal.returns-clause-on
returns-clause-on g c = record {
  own = dite (ℕ_discrete (c.step.result % 2) 0) (λ even. let turn = (c.step.ensures.told.0 even).3 in sits-on c.step.ensures.own.0 turn.1 (ap (λ v. v.hand) turn.0) (let n = ap (λ v. v.steps) turn.0 in omega (arith, n)) c.step.ensures.face c.requires.own) (λ odd. let turn = c.step.ensures.told.1 odd in sits-on c.step.ensures.own.0 turn.1 (ap (λ v. v.hand) turn.0) (let n = ap (λ v. v.steps) turn.0 in omega (arith, n)) c.step.ensures.face c.requires.own);
  goes_on = c.step.ensures.goes_on;
  last = c.step.ensures.last;
}
