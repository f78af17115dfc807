use Rattle.lock_core.specs.Kinds.{unavailable}
use Rattle.lock_core.proofs.Causing.{calls_have_causes}
use Rattle.lock_core.proofs.laws.calls_have_their_causes.Goals as goal

pub returns : goal.returns
returns g c = λ kind word_at. calls_have_causes g.O.Object.object (unavailable kind) g.O.Object.WORDS word_at
