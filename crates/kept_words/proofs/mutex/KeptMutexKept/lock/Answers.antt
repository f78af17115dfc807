use Rattle.std.proofs.Common.{ap, subst, sym}
use Rattle.std.specs.Arc.{arc_value}
use Rattle.mutex_slow.specs.MutexHandles.{plan_of, shown_of, SitsAt}
use Rattle.kept_words.specs.declared.mutex.SharedMutex.{SharedMutex}
use Rattle.kept_words.specs.Laws.Keeping.{finds-kept}
use Rattle.lock_core.specs.Pasts.{Tail}
use Rattle.kept_words.specs.Keeping.{TaskView}
use Rattle.kept_words.specs.Types.{Alone}
use Rattle.kept_words.proofs.mutex.KeptMutexKept.lock.Goals as goal

pub returns-clause-keeps : goal.returns-clause-keeps
returns-clause-keeps g c = finds-kept SitsAt plan_of shown_of c.deref-shared.result.now.mutex (arc_value c.self.inside.shared).mutex c.self.inside.pass g.I.Invariant.WORDS g.I.Invariant.keeps (ap (λ (s : SharedMutex _ _). s.mutex) c.deref-shared.ensures) Alone c.lock.new.pass c.self.invariant c.lock.ensures.took c.lock.ensures.on.own.sits.short

pub returns-clause-on : goal.returns-clause-on
returns-clause-on g c = λ p tail. c.lock.ensures.on.goes_on p (subst (λ (v : TaskView). Tail p v.past) (sym c.self.view_is) tail)
