use Rattle.std.proofs.Common.{subst, sym, ap, Option, ℕ}
use Rattle.lock_core.specs.Pasts.{FoundAt}
use Rattle.mutex_word.specs.declared.host.Turn.TheVariants.{Hand as HandOn}
use Rattle.mutex_word.specs.OwnerTries.{IsHanded, IsMine, Left}
use Rattle.mutex_word.specs.Types.{View}
use Rattle.mutex_word.proofs.Table.{owner-of, handed-on, handed-left}
use Rattle.mutex_word.proofs.tries.hand_over.Goals as goal

pub handoff_word-new-requires-clause-word : goal.handoff_word-new-requires-clause-word
handoff_word-new-requires-clause-word g c = owner-of c.loop.word c.loop.invariant.7.0

pub leave-found-requires-clause-left : goal.leave-found-requires-clause-left
leave-found-requires-clause-left g c = handed-left c.args.first c.loop.word c.handoff_word-new.result c.requires.first (handed-on c.loop.word c.loop.invariant.7.0 c.loop.invariant.7.1 c.args.first c.handoff_word-new.result c.handoff_word-new.ensures.picks)

pub leave-found-requires-clause-may : goal.leave-found-requires-clause-may
leave-found-requires-clause-may g c = subst (λ (v : View _). g.H.OwnerHost.may_own HandOn v c.loop.word c.handoff_word-new.result) (sym c.loop.invariant.10) (c.requires.may c.loop.invariant.8 c.loop.word c.handoff_word-new.result (subst (λ (t : Option ℕ). IsMine t c.loop.word) c.requires.own.task c.loop.invariant.7) (handed-on c.loop.word c.loop.invariant.7.0 c.loop.invariant.7.1 c.args.first c.handoff_word-new.result c.handoff_word-new.ensures.picks))

pub returns-then-found-word-clause-left : goal.returns-then-found-word-clause-left
returns-then-found-word-clause-left g c = (c.loop.invariant.8, c.loop.word, c.handoff_word-new.result, c.loop.invariant.9, (subst (λ (t : Option ℕ). IsMine t c.loop.word) c.requires.own.task c.loop.invariant.7), (handed-on c.loop.word c.loop.invariant.7.0 c.loop.invariant.7.1 c.args.first c.handoff_word-new.result c.handoff_word-new.ensures.picks), subst (λ (v : View _). Left g.H.OwnerHost.turned HandOn v c.handoff_word-new.result c.leave-found.new.pass.seat.me.0.view) c.loop.invariant.10 (c.leave-found.ensures.left c.if-found-word.true))

pub returns-then-found-word-clause-found : goal.returns-then-found-word-clause-found
returns-then-found-word-clause-found g c = (
  c.loop.word,
  subst (λ (n : ℕ). FoundAt g.H.OwnerHost.OWNER n c.leave-found.new.pass.seat.me.0.past) c.if-found-word.true c.leave-found.ensures.found,
  c.loop.invariant.7,
  subst (IsHanded c.args.first c.loop.word) (sym (ap (λ (v : View _). v.hand.freed) (c.leave-found.ensures.left c.if-found-word.true))) (handed-on c.loop.word c.loop.invariant.7.0 c.loop.invariant.7.1 c.args.first c.handoff_word-new.result c.handoff_word-new.ensures.picks),
)
