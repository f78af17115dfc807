use Rattle.std.proofs.Common.{ap, subst, sym}
use Rattle.std.specs.Arc.{arc_value}
use Rattle.mutex_slow.specs.MutexHandles.{plan_of, shown_of, SitsAt}
use Rattle.kept_words.specs.declared.mutex.SharedMutex.{SharedMutex}
use Rattle.kept_words.specs.Laws.Keeping.{sits-planned}
use Rattle.lock_core.specs.Pasts.{Tail}
use Rattle.kept_words.specs.Keeping.{TaskView}
use Rattle.kept_words.proofs.mutex.KeptMutexKept.unlock.Goals as goal

pub end_writing-requires-clause-own : goal.end_writing-requires-clause-own
end_writing-requires-clause-own g c = sits-planned SitsAt plan_of shown_of c.deref.result.now.mutex (arc_value c.self.inside.shared).mutex c.self.inside.pass g.I.Invariant.WORDS g.I.Invariant.keeps (ap (λ (s : SharedMutex _ _). s.mutex) c.deref.ensures) c.self.invariant.own

pub returns-clause-on : goal.returns-clause-on
returns-clause-on g c = λ p tail. c.unlock.ensures.on.goes_on p (c.end_writing.ensures.on.goes_on p (subst (λ (v : TaskView). Tail p v.past) (sym c.self.view_is) tail))
