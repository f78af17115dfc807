use Rattle.std.proofs.Common.{◌≡◌}
use Rattle.lock_core.specs.LockHands.{RestsEverywhere}
use Rattle.qspin_word.specs.SpinWordHands.{tried}
use Rattle.qspin_word.proofs.steps.exchange_free.Given as goal

abbrev pub ghosts-word_step : goal.ghosts-word_step
ghosts-word_step g a = record { after = λ n. tried a.lock n a.pass.now.seat.me.0.view; tells = λ n. g.H.SpinHost.LOCKS ≡ 1 → RestsEverywhere a.pass.now.seat.me.0.view.spin }
