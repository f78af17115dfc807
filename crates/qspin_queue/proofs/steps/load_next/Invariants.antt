use Rattle.qspin_queue.specs.SpinQueueHands.{learnt}
use Rattle.std.proofs.Common.{◌<◌}
use Rattle.qspin_queue.specs.SpinQueueHandles.{codes}
use Rattle.qspin_queue.specs.Types.{Head}
use Rattle.qspin_queue.proofs.steps.load_next.Given as goal

abbrev pub ghosts-spin_step : goal.ghosts-spin_step
ghosts-spin_step g a = record { after = λ n. learnt a.lock Head n a.pass.now.seat.me.0.view; tells = λ n. n < codes a.site.now }
