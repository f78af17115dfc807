use Rattle.qspin_word.specs.SpinWordHands.{pended}
use Rattle.qspin_word.proofs.steps.fetch_set_pending.Given as goal

abbrev pub ghosts-word_step : goal.ghosts-word_step
ghosts-word_step g a = record { after = λ n. pended a.lock n a.pass.now.seat.me.0.view; tells = λ n. Unit {0} }
