use Rattle.qspin_queue.specs.SpinQueueHands.{passed}
use Rattle.qspin_queue.proofs.steps.pass_head.Given as goal

abbrev pub ghosts-spin_step : goal.ghosts-spin_step
ghosts-spin_step g a = record { after = λ n. passed a.lock a.pass.now.seat.me.0.view; tells = λ n. Unit {0} }
