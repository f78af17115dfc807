use Rattle.qspin_queue.specs.SpinQueueHands.{took_last}
use Rattle.lock_core.specs.Ops.{first_of}
use Rattle.qspin_queue.proofs.steps.exchange_last.Given as goal

abbrev pub ghosts-word_step : goal.ghosts-word_step
ghosts-word_step g a = record { after = λ n. took_last a.lock (first_of a.op) n a.pass.now.seat.me.0.view; tells = λ n. Unit {0} }
