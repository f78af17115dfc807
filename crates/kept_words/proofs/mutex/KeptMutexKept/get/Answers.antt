use Rattle.std.proofs.Common.{ap}
use Rattle.std.specs.Arc.{arc_value}
use Rattle.mutex_slow.specs.MutexHandles.{plan_of, shown_of, SitsAt}
use Rattle.kept_words.specs.declared.mutex.SharedMutex.{SharedMutex}
use Rattle.kept_words.specs.Laws.Keeping.{sits-planned}
use Rattle.kept_words.proofs.mutex.KeptMutexKept.get.Goals as goal

pub word-requires-clause-own : goal.word-requires-clause-own
word-requires-clause-own g c = sits-planned SitsAt plan_of shown_of c.deref.result.now.mutex (arc_value c.self.inside.shared).mutex c.self.inside.pass g.I.Invariant.WORDS g.I.Invariant.keeps (ap (λ (s : SharedMutex _ _). s.mutex) c.deref.ensures) c.self.invariant.own
