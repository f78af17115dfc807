use Rattle.std.proofs.Common.{◌≡◌, ℕ, slice_get, Some, refl, sym, ◌∙◌, subst, arith}
use mathlib.Core.Logic.{dite}
use native.Mathlib.Decide.{ℕ_discrete}
use Rattle.lock_core.proofs.RowLaws.{some-inside}
use Rattle.mm_serve.proofs.copying.recall_all.Goals as goal

pub loop-object-init : goal.loop-object-init
loop-object-init g c = record {
  rest = c.requires;
  hands = λ k p. refl;
  goes_on = λ k p q t. t;
  queues = λ k p q t. t;
  past = λ k s p lt. absurd (omega (arith, lt));
}

pub loop-object-preserved : goal.loop-object-preserved
loop-object-preserved g c = record {
  rest = c.recall.ensures.rest;
  hands = λ k p. c.recall.ensures.hands k p ∙ c.loop-object.invariant.hands k p;
  goes_on = λ k p q t. c.recall.ensures.goes_on k p q (c.loop-object.invariant.goes_on k p q t);
  queues = λ k p q t. c.recall.ensures.queues k p q (c.loop-object.invariant.queues k p q t);
  past = λ k s p lt at has.
      dite (ℕ_discrete k c.loop-object.object)
      (λ e. c.recall.ensures.past s p (subst (λ (j : ℕ). slice_get c.args.sites.now j ≡ Some s) e at) (subst (λ (j : ℕ). slice_get c.recall.new.gathered.items j ≡ Some p) e has))
      (λ ne. c.loop-object.invariant.past k s p (omega (arith, lt, ne)) at (sym (c.recall.ensures.others k ne) ∙ has));
}

pub returns-clause-past : goal.returns-clause-past
returns-clause-past g c = λ k s p at has. let inside = some-inside c.args.sites.now k s at in c.loop-object.invariant.past k s p (omega (arith, inside, c.loop-object-test.false)) at has
