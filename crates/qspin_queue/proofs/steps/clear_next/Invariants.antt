use Rattle.qspin_queue.specs.SpinQueueHands.{cleared_next}
use Rattle.qspin_queue.proofs.steps.clear_next.Given as goal

abbrev pub ghosts-spin_step : goal.ghosts-spin_step
ghosts-spin_step g a = record { after = λ n. cleared_next a.lock a.pass.now.seat.me.0.view; tells = λ n. Unit {0} }
