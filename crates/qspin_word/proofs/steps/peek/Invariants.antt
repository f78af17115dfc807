use Rattle.qspin_word.proofs.steps.peek.Given as goal

abbrev pub ghosts-word_step : goal.ghosts-word_step
ghosts-word_step g a = record { after = λ n. a.pass.now.seat.me.0.view.spin; tells = λ n. Unit {0} }
