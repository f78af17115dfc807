use Rattle.std.proofs.Common.{sym, subst}
use Rattle.std.specs.Prelude.{IsSome}
use Rattle.lock_core.specs.declared.pass.Face.{Face}
use Rattle.lock_tests.proofs.nest_tests.rounds.Goals as goal

pub raise-requires-clause-out : goal.raise-requires-clause-out
raise-requires-clause-out g c = c.loop.invariant.out 0

pub loop-preserved : goal.loop-preserved
loop-preserved g c = let left = c.raise.ensures.idles in record {
  own = left.own;
  numbered = subst (λ (f : Face). IsSome f.task) (sym left.face) c.loop.invariant.numbered;
  told = left.told;
  out = c.raise.ensures.out c.loop.invariant.out;
}
