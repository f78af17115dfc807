use Rattle.qspin_queue.specs.SpinQueueHands.{heard}
use Rattle.qspin_queue.proofs.steps.load_locked.Given as goal

abbrev pub ghosts-spin_step : goal.ghosts-spin_step
ghosts-spin_step g a = record { after = λ n. heard a.lock n a.pass.now.seat.me.0.view; tells = λ n. Unit {0} }
