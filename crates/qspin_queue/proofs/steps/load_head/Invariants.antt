use Rattle.qspin_queue.specs.SpinQueueHands.{readied}
use Rattle.qspin_queue.proofs.steps.load_head.Given as goal

abbrev pub ghosts-word_step : goal.ghosts-word_step
ghosts-word_step g a = record { after = λ n. readied a.lock n a.pass.now.seat.me.0.view; tells = λ n. Unit {0} }
