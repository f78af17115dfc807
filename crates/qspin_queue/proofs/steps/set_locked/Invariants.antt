use Rattle.qspin_queue.specs.SpinQueueHands.{took_head}
use Rattle.qspin_queue.proofs.steps.set_locked.Given as goal

abbrev pub ghosts-word_step : goal.ghosts-word_step
ghosts-word_step g a = record { after = λ n. took_head a.lock a.pass.now.seat.me.0.view; tells = λ n. Unit {0} }
