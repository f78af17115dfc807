use Rattle.qspin_queue.specs.SpinQueueHands.{retried}
use Rattle.qspin_queue.proofs.steps.retry.Given as goal

abbrev pub ghosts-word_step : goal.ghosts-word_step
ghosts-word_step g a = record { after = λ n. retried a.lock n a.pass.now.seat.me.0.view; tells = λ n. Unit {0} }
