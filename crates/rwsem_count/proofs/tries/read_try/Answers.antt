use Rattle.std.proofs.Common.{◌∙◌}
use Rattle.rwsem_count.proofs.Trying.{saw-again}
use Rattle.rwsem_count.proofs.tries.read_try.Goals as goal

pub loop-preserved : goal.loop-preserved
loop-preserved g c = let on = c.if-found-word.false in (
  tt,
  tt,
  c.take-found.ensures.on.own,
  c.take-found.ensures.face on ∙ c.loop.invariant.3,
  (λ p t. c.take-found.ensures.on.goes_on p (c.loop.invariant.4 p t)),
  c.take-found.ensures.on.last,
  c.take-found.ensures.found,
  saw-again c.args.pass.now.seat.me.0.view c.loop.pass.seat.me.0.view c.take-found.new.pass.seat.me.0.view c.loop.word c.take-found.result c.loop.invariant.7 (c.read_free.ensures.free.0 c.if-not-read_free.false) (c.take-found.ensures.saw on),
)

pub look-word-requires-clause-misses : goal.look-word-requires-clause-misses
look-word-requires-clause-misses g c = c.requires.misses c.args.pass.now.seat.me.0.view.steps
