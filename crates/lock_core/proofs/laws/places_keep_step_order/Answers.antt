use Rattle.lock_core.proofs.Ascending.{keeps_step_order}
use Rattle.lock_core.proofs.laws.places_keep_step_order.Goals as goal

pub returns : goal.returns
returns g c = keeps_step_order g.O.Object.object g.O.Object.WORDS
