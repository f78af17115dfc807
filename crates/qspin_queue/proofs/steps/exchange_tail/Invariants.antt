use Rattle.qspin_queue.specs.SpinQueueHands.{queued}
use Rattle.std.proofs.Common.{◌<◌, ◌/◌}
use Rattle.qspin_queue.specs.SpinQueueHandles.{codes}
use Rattle.lock_core.specs.Ops.{first_of}
use Rattle.qspin_queue.proofs.steps.exchange_tail.Given as goal

abbrev pub ghosts-word_step : goal.ghosts-word_step
ghosts-word_step g a = record { after = λ n. queued a.lock (first_of a.op) n a.pass.now.seat.me.0.view; tells = λ n. n / 512 < codes a.site.now }
