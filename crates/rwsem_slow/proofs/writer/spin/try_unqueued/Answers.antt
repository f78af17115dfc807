use Rattle.std.proofs.Common.{◌∙◌, subst}
use Rattle.rwsem_slow.proofs.Unqueued.{shut-count, unqueued-again}
use Rattle.lock_core.specs.Pasts.{FoundAt}
use Rattle.rwsem_wake.specs.RwSemViews.{count_at}
use Rattle.rwsem_slow.proofs.writer.spin.try_unqueued.Goals as goal

pub loop-preserved : goal.loop-preserved
loop-preserved g c = let on = c.if-found-word.false in (
  tt,
  tt,
  c.take-found.ensures.on.own,
  c.take-found.ensures.face on ∙ c.loop.invariant.3,
  (λ p t. c.take-found.ensures.on.goes_on p (c.loop.invariant.4 p t)),
  c.take-found.ensures.on.last,
  unqueued-again c.args.pass.now.seat.me.0.view c.loop.pass.seat.me.0.view c.take-found.new.pass.seat.me.0.view c.loop.word c.take-found.result c.loop.invariant.6 (c.is_unlocked.ensures.0 c.if-not-is_unlocked.false) (c.take-found.ensures.saw on),
  c.take-found.ensures.found,
)

pub returns-then-not-is_unlocked-clause-shut : goal.returns-then-not-is_unlocked-clause-shut
returns-then-not-is_unlocked-clause-shut g c = shut-count c.loop.word c.is_unlocked.result c.is_unlocked.ensures c.if-not-is_unlocked.true c.loop.invariant.6.lawful

pub returns-then-found-word-clause-opened : goal.returns-then-found-word-clause-opened
returns-then-found-word-clause-opened g c = (c.loop.word, subst (λ n. FoundAt count_at n c.take-found.new.pass.seat.me.0.past) c.if-found-word.true c.take-found.ensures.found, c.is_unlocked.ensures.0 c.if-not-is_unlocked.false)
