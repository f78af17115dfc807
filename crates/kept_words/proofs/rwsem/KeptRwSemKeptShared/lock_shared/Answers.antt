use Rattle.std.proofs.Common.{ap, subst, sym}
use Rattle.std.specs.Arc.{arc_value}
use Rattle.rwsem_slow.specs.RwSemHandles.{plan_of, shown_of, SitsAt}
use Rattle.kept_words.specs.declared.rwsem.SharedSem.{SharedSem}
use Rattle.kept_words.specs.Laws.Keeping.{finds-kept}
use Rattle.lock_core.specs.Pasts.{Tail}
use Rattle.kept_words.specs.Keeping.{TaskView}
use Rattle.kept_words.specs.Types.{Shared}
use Rattle.kept_words.proofs.rwsem.KeptRwSemKeptShared.lock_shared.Goals as goal

pub returns-clause-keeps : goal.returns-clause-keeps
returns-clause-keeps g c = finds-kept SitsAt plan_of shown_of c.deref-shared.result.now.semaphore (arc_value c.self.inside.shared).semaphore c.self.inside.pass g.I.Invariant.WORDS g.I.Invariant.keeps (ap (λ (s : SharedSem _ _). s.semaphore) c.deref-shared.ensures) Shared c.down_read.new.pass c.self.invariant c.down_read.ensures.took c.down_read.ensures.on.own.sits.short

pub returns-clause-on : goal.returns-clause-on
returns-clause-on g c = λ p tail. c.down_read.ensures.on.goes_on p (subst (λ (v : TaskView). Tail p v.past) (sym c.self.view_is) tail)
