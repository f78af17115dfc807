use Rattle.std.proofs.Common.{subst, sym}
use Rattle.lock_core.specs.Pasts.{Tail}
use Rattle.kept_words.specs.Keeping.{TaskView}
use Rattle.kept_words.proofs.rwsem.KeptRwSemKeptShared.unlock_shared.Goals as goal

pub returns-clause-on : goal.returns-clause-on
returns-clause-on g c = λ p tail. c.up_read.ensures.on.goes_on p (subst (λ (v : TaskView). Tail p v.past) (sym c.self.view_is) tail)
