use Rattle.std.proofs.Common.{◌∙◌, ap, sym, subst}
use Rattle.std.specs.Arc.{arc_value}
use Rattle.std.proofs.lemmas.Bool.{false≢true}
use Rattle.rwsem_slow.specs.RwSemHandles.{plan_of, shown_of, SitsAt}
use Rattle.kept_words.specs.declared.rwsem.SharedSem.{SharedSem}
use Rattle.kept_words.specs.Laws.Keeping.{finds-kept}
use Rattle.kept_words.proofs.rwsem.KeptRwSemKept.try_lock.Goals.{in-Ok, in-Err}
use Rattle.lock_core.specs.Pasts.{Tail}
use Rattle.kept_words.specs.Keeping.{TaskView}
use Rattle.kept_words.specs.Types.{Alone}
use Rattle.kept_words.proofs.rwsem.KeptRwSemKept.try_lock.Goals as goal

pub returns-clause-keeps : goal.returns-clause-keeps
returns-clause-keeps g c = elim c.match-down_write_trylock.branch [
  | in-Ok w ↦ λ _. finds-kept SitsAt plan_of shown_of c.deref.result.now.semaphore (arc_value c.self.inside.shared).semaphore c.self.inside.pass g.I.Invariant.WORDS g.I.Invariant.keeps (ap (λ (s : SharedSem _ _). s.semaphore) c.deref.ensures) Alone c.down_write_trylock.new.pass c.self.invariant w.in-Ok.ensures.took c.down_write_trylock.ensures.on.own.sits.short
  | in-Err w ↦ λ is. absurd (false≢true (sym w.result-is ∙ is))
]

pub returns-clause-on : goal.returns-clause-on
returns-clause-on g c = λ p tail. c.down_write_trylock.ensures.on.goes_on p (subst (λ (v : TaskView). Tail p v.past) (sym c.self.view_is) tail)
