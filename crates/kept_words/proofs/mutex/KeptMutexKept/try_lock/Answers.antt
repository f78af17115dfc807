use Rattle.std.proofs.Common.{◌∙◌, ap, subst, sym, true}
use Rattle.std.specs.Arc.{arc_value}
use Rattle.std.proofs.lemmas.Bool.{false≢true}
use Rattle.mutex_slow.specs.MutexHandles.{plan_of, shown_of, SitsAt}
use Rattle.kept_words.specs.declared.mutex.SharedMutex.{SharedMutex}
use Rattle.kept_words.specs.Laws.Keeping.{finds-kept, missed, taken}
use Rattle.kept_words.proofs.mutex.KeptMutexKept.try_lock.Goals.{in-Ok, in-Err}
use Rattle.lock_core.specs.Pasts.{Tail}
use Rattle.kept_words.specs.Keeping.{TaskView}
use Rattle.kept_words.specs.Types.{Alone, Mutex}
use Rattle.kept_words.proofs.mutex.KeptMutexKept.try_lock.Goals as goal

pub invariant_of-self : goal.invariant_of-self
invariant_of-self g c =
    let own = subst (λ (m : Mutex _ _). SitsAt m c.trylock.new.pass) (ap (λ (s : SharedMutex _ _). s.mutex) c.deref.ensures) c.trylock.ensures.on.own in
    elim c.match-trylock.branch [
      | in-Ok w ↦ taken SitsAt plan_of shown_of (arc_value c.self.inside.shared).mutex c.self.inside.pass c.trylock.new.pass own g.I.Invariant.WORDS g.I.Invariant.keeps (plan_of c.deref.result.now.mutex) Alone c.self.invariant w.in-Ok.ensures.took
      | in-Err w ↦ missed SitsAt plan_of shown_of (arc_value c.self.inside.shared).mutex c.self.inside.pass c.trylock.new.pass own g.I.Invariant.WORDS _ true _ _ c.self.invariant (w.in-Err.ensures.missed true)
    ]

pub returns-clause-keeps : goal.returns-clause-keeps
returns-clause-keeps g c = elim c.match-trylock.branch [
  | in-Ok w ↦ λ _. finds-kept SitsAt plan_of shown_of c.deref.result.now.mutex (arc_value c.self.inside.shared).mutex c.self.inside.pass g.I.Invariant.WORDS g.I.Invariant.keeps (ap (λ (s : SharedMutex _ _). s.mutex) c.deref.ensures) Alone c.trylock.new.pass c.self.invariant w.in-Ok.ensures.took c.trylock.ensures.on.own.sits.short
  | in-Err w ↦ λ is. absurd (false≢true (sym w.result-is ∙ is))
]

pub returns-clause-on : goal.returns-clause-on
returns-clause-on g c = λ p tail. c.trylock.ensures.on.goes_on p (subst (λ (v : TaskView). Tail p v.past) (sym c.self.view_is) tail)
