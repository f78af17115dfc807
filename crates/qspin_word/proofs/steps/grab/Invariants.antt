use Rattle.qspin_word.specs.SpinWordHands.{grabbed}
use Rattle.qspin_word.proofs.steps.grab.Given as goal

abbrev pub ghosts-word_step : goal.ghosts-word_step
ghosts-word_step g a = record { after = λ n. grabbed a.lock n a.pass.now.seat.me.0.view; tells = λ n. Unit {0} }
