use Rattle.std.proofs.Common.{ap, subst, sym}
use Rattle.std.specs.Arc.{arc_value}
use Rattle.rwsem_slow.specs.RwSemHandles.{plan_of, shown_of, SitsAt}
use Rattle.kept_words.specs.declared.rwsem.SharedSem.{SharedSem}
use Rattle.kept_words.specs.Laws.Keeping.{sits-planned}
use Rattle.lock_core.specs.Pasts.{Tail}
use Rattle.kept_words.specs.Keeping.{TaskView}
use Rattle.kept_words.proofs.rwsem.KeptRwSemKept.unlock.Goals as goal

pub end_writing-requires-clause-own : goal.end_writing-requires-clause-own
end_writing-requires-clause-own g c = sits-planned SitsAt plan_of shown_of c.deref.result.now.semaphore (arc_value c.self.inside.shared).semaphore c.self.inside.pass g.I.Invariant.WORDS g.I.Invariant.keeps (ap (λ (s : SharedSem _ _). s.semaphore) c.deref.ensures) c.self.invariant.own

pub returns-clause-on : goal.returns-clause-on
returns-clause-on g c = λ p tail. c.up_write.ensures.on.goes_on p (c.end_writing.ensures.on.goes_on p (subst (λ (v : TaskView). Tail p v.past) (sym c.self.view_is) tail))
