use Rattle.std.proofs.Common.{ℕ, ◌<◌, sym, ap, ◌∙◌, subst, arith}
use mathlib.Core.Logic.{dite}
use native.Mathlib.Decide.{ℕ_discrete}
use Rattle.std.specs.Prelude.{IsSome}
use Rattle.lock_core.specs.declared.pass.Face.{Face}
use Rattle.lock_core.specs.declared.view.View.{View}
use Rattle.lock_core.specs.LockHands.{RestsAt}
use Rattle.qspin_word.specs.SpinWordHandles.{spin_in}
use Rattle.qspin_queue.proofs.Interrupting.{freed-here, freed-else}
use Rattle.lock_bench.proofs.nested.nested_pair.Goals as goal

many : 1 < 8
many = omega arith

pub lock_with-requires-clause-out : goal.lock_with-requires-clause-out
lock_with-requires-clause-out g c = c.requires.apart.out 0

pub inner_pair-requires-clause-ready : goal.inner_pair-requires-clause-ready
inner_pair-requires-clause-ready g c = record {
  own = c.lock_with.ensures.on.own;
  numbered = subst (λ (f : Face). IsSome f.task) (sym c.lock_with.ensures.face) c.requires.apart.numbered;
  told = c.lock_with.ensures.told many c.requires.apart.told;
}

pub inner_pair-requires-clause-out : goal.inner_pair-requires-clause-out
inner_pair-requires-clause-out g c = (c.lock_with.ensures.gained.others 1 (λ e. omega (arith, e))).point ∙ c.requires.apart.out 1

pub unlock_at-requires-clause-held : goal.unlock_at-requires-clause-held
unlock_at-requires-clause-held g c = (c.inner_pair.ensures.idles.leaves.alike 0).point ∙ c.lock_with.ensures.gained.holds

pub returns-clause-told : goal.returns-clause-told
returns-clause-told g c = c.unlock_at.ensures.told many c.inner_pair.ensures.idles.told

pub returns-clause-out : goal.returns-clause-out
returns-clause-out g c = let a = c.args.pass.now in let b = c.inner_pair.new.pass in let d = c.unlock_at.new.pass in let kept = c.unlock_at.ensures.kept in
    λ l. dite (ℕ_discrete l 0) (λ e. subst (λ (r : ℕ). RestsAt r (spin_in d)) (sym e) (freed-here 0 b d kept))
    (λ apart. freed-else 0 l b d apart kept ∙ ((c.inner_pair.ensures.idles.leaves.alike l).point ∙ ((c.lock_with.ensures.gained.others l apart).point ∙ c.requires.apart.out l)))

pub returns-clause-hand : goal.returns-clause-hand
returns-clause-hand g c = ap (λ (x : View _). x.hand) c.unlock_at.ensures.kept ∙ (c.inner_pair.ensures.idles.leaves.hand ∙ c.lock_with.ensures.gained.hand)

pub returns-clause-twice : goal.returns-clause-twice
returns-clause-twice g c = let last = ap (λ (x : View _). x.spin.entries) c.unlock_at.ensures.kept in let once = c.inner_pair.ensures.once in let first = c.lock_with.ensures.gained.counted tt in omega (arith, last, once, first)
