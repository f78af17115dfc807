use Rattle.std.proofs.Common.{subst, sym, ap, ◌∙◌, ◌+◌, Option, ℕ, inl, arith}
use Rattle.lock_core.specs.Views.{ticked}
use Rattle.lock_core.specs.Pasts.{FoundAt}
use Rattle.mutex_word.specs.OwnerTries.{IsReleased, IsMine, Left}
use Rattle.mutex_word.specs.Types.{Face, View, Free}
use Rattle.mutex_word.proofs.Trying.{unasked-on}
use Rattle.mutex_word.proofs.Table.{owner-of, released-flags}
use Rattle.mutex_word.proofs.tries.release.Goals as goal

pub release_step-requires : goal.release_step-requires
release_step-requires g c = owner-of c.loop.word c.loop.invariant.7.0

pub returns-in_default-clause-asked : goal.returns-in_default-clause-asked
returns-in_default-clause-asked g c = (subst (λ (t : Option ℕ). IsMine t c.loop.word) c.requires.own.task c.loop.invariant.7, subst (IsReleased c.loop.word) c.in_default.is (released-flags c.loop.word c.loop.invariant.7.0 c.loop.invariant.7.1 c.release_step.result c.release_step.ensures.flags), (c.loop.invariant.8, c.loop.invariant.9, c.loop.invariant.10))

pub leave-found-requires-clause-left : goal.leave-found-requires-clause-left
leave-found-requires-clause-left g c = let r = subst (IsReleased c.loop.word) c.in-Some-release_step.is (released-flags c.loop.word c.loop.invariant.7.0 c.loop.invariant.7.1 c.release_step.result c.release_step.ensures.flags) in let few = r.0 in let is = r.1 in inl (omega (arith, few, is))

pub leave-found-requires-clause-may : goal.leave-found-requires-clause-may
leave-found-requires-clause-may g c = let r = subst (IsReleased c.loop.word) c.in-Some-release_step.is (released-flags c.loop.word c.loop.invariant.7.0 c.loop.invariant.7.1 c.release_step.result c.release_step.ensures.flags) in
    subst (λ (v : View _). g.H.OwnerHost.may_own Free v c.loop.word c.in-Some-release_step.flags) (sym c.loop.invariant.10) (c.requires.may c.loop.invariant.8 c.loop.word c.in-Some-release_step.flags (subst (λ (t : Option ℕ). IsMine t c.loop.word) c.requires.own.task c.loop.invariant.7) r.0 r.1)

pub returns-then-found-word-clause-flags : goal.returns-then-found-word-clause-flags
returns-then-found-word-clause-flags g c = let r = subst (IsReleased c.loop.word) c.in-Some-release_step.is (released-flags c.loop.word c.loop.invariant.7.0 c.loop.invariant.7.1 c.release_step.result c.release_step.ensures.flags) in
    (c.loop.word, subst (λ (n : ℕ). FoundAt g.H.OwnerHost.OWNER n c.leave-found.new.pass.seat.me.0.past) c.if-found-word.true c.leave-found.ensures.found, c.loop.invariant.7, r.0, r.1)

pub returns-then-found-word-clause-left : goal.returns-then-found-word-clause-left
returns-then-found-word-clause-left g c = let r = subst (IsReleased c.loop.word) c.in-Some-release_step.is (released-flags c.loop.word c.loop.invariant.7.0 c.loop.invariant.7.1 c.release_step.result c.release_step.ensures.flags) in let few = r.0 in let is = r.1 in
    (omega (arith, few, is), (c.loop.invariant.8, c.loop.invariant.9, subst (λ (v : View _). Left g.H.OwnerHost.turned Free v c.in-Some-release_step.flags c.leave-found.new.pass.seat.me.0.view) c.loop.invariant.10 (c.leave-found.ensures.left c.if-found-word.true)))

pub returns-then-found-word-clause-unasked : goal.returns-then-found-word-clause-unasked
returns-then-found-word-clause-unasked g c = let r = subst (IsReleased c.loop.word) c.in-Some-release_step.is (released-flags c.loop.word c.loop.invariant.7.0 c.loop.invariant.7.1 c.release_step.result c.release_step.ensures.flags) in
    unasked-on c.loop.pass.seat.me.0.view c.leave-found.new.pass.seat.me.0.view c.args.pass.now.face.task g.H.OwnerHost.OWNER c.loop.word c.args.pass.now.seat.me.0.view.steps c.args.pass.now.seat.me.0.past c.loop.pass.seat.me.0.past c.leave-found.new.pass.seat.me.0.past
    (ap (λ (v : View _). v.hand.task) c.loop.invariant.10 ∙ sym c.requires.own.task) c.loop.invariant.11 c.loop.invariant.5 c.loop.invariant.6 r.0 c.loop.invariant.4 c.leave-found.ensures.on.goes_on (ap (λ (v : View _). v.steps) (c.leave-found.ensures.left c.if-found-word.true))

pub loop-preserved : goal.loop-preserved
loop-preserved g c = let r = subst (IsReleased c.loop.word) c.in-Some-release_step.is (released-flags c.loop.word c.loop.invariant.7.0 c.loop.invariant.7.1 c.release_step.result c.release_step.ensures.flags) in let kept = c.leave-found.ensures.kept c.if-found-word.false in let later = c.loop.invariant.9 in (
  tt,
  tt,
  c.leave-found.ensures.on.own,
  c.leave-found.ensures.face c.if-found-word.false ∙ c.loop.invariant.3,
  (λ p t. c.leave-found.ensures.on.goes_on p (c.loop.invariant.4 p t)),
  c.leave-found.ensures.on.last,
  c.leave-found.ensures.found,
  subst (λ (f : Face). IsMine f.task c.leave-found.result) c.loop.invariant.3 (c.leave-found.ensures.mine c.if-found-word.false),
  c.loop.invariant.8 + 1,
  omega (arith, later),
  kept ∙ ap ticked c.loop.invariant.10,
  unasked-on c.loop.pass.seat.me.0.view c.leave-found.new.pass.seat.me.0.view c.args.pass.now.face.task g.H.OwnerHost.OWNER c.loop.word c.args.pass.now.seat.me.0.view.steps c.args.pass.now.seat.me.0.past c.loop.pass.seat.me.0.past c.leave-found.new.pass.seat.me.0.past
      (ap (λ (v : View _). v.hand.task) c.loop.invariant.10 ∙ sym c.requires.own.task) c.loop.invariant.11 c.loop.invariant.5 c.loop.invariant.6 r.0 c.loop.invariant.4 c.leave-found.ensures.on.goes_on (ap (λ (v : View _). v.steps) kept),
)
