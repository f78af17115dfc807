use Rattle.std.proofs.Common.{rules}
use Rattle.qspin_queue.specs.SpinQueueHandles.{IsApartIdle}
use Rattle.lock_tests.proofs.Pushes.{one-more}
use Rattle.lock_tests.proofs.nest_tests.four_at_once.Goals as goal

pub loop-preserved : goal.loop-preserved
loop-preserved g c = (
  c.another.ensures.first,
  one-more (λ p. IsApartIdle c.args.site.now p) c.loop.passes.items c.push.new.self.items c.another.result c.in_ok-push.ensures.items c.loop.invariant.1 c.another.ensures.other,
  search rules,
)
