use Rattle.lock_core.proofs.Linearizing.{state_after_log}
use Rattle.lock_core.proofs.laws.abstract_state_is_that_after_the_log.Goals as goal

pub returns : goal.returns
returns g c = state_after_log g.O.Object.object g.O.Object.WORDS
