use Rattle.std.proofs.Common.{ap}
use Rattle.std.specs.Arc.{arc_value}
use Rattle.rwsem_slow.specs.RwSemHandles.{plan_of, shown_of, SitsAt}
use Rattle.kept_words.specs.declared.rwsem.SharedSem.{SharedSem}
use Rattle.kept_words.specs.Laws.Keeping.{sits-planned}
use Rattle.kept_words.proofs.rwsem.KeptRwSemKept.set.Goals as goal

pub set_word-requires-clause-own : goal.set_word-requires-clause-own
set_word-requires-clause-own g c = sits-planned SitsAt plan_of shown_of c.deref.result.now.semaphore (arc_value c.self.inside.shared).semaphore c.self.inside.pass g.I.Invariant.WORDS g.I.Invariant.keeps (ap (λ (s : SharedSem _ _). s.semaphore) c.deref.ensures) c.self.invariant.own
