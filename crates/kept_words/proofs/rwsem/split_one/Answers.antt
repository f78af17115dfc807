use Rattle.std.proofs.Common.{ap}
use Rattle.std.specs.Arc.{arc_value}
use Rattle.rwsem_slow.specs.RwSemHandles.{plan_of, shown_of, SitsAt}
use Rattle.kept_words.specs.declared.rwsem.SharedSem.{SharedSem}
use Rattle.kept_words.specs.Laws.Keeping.{split-begun}
use Rattle.kept_words.proofs.rwsem.split_one.Goals as goal

pub invariant_of-new : goal.invariant_of-new
invariant_of-new g c = split-begun SitsAt plan_of shown_of (arc_value c.args.shared.now).semaphore c.args.pass.now c.split-pass.result c.begin.new.pass g.I.Invariant.WORDS g.I.Invariant.keeps _ c.args.number
    c.deref.result.now.semaphore c.deref-2.result.now.semaphore (arc_value c.in_ok-shared.shared).semaphore (ap (λ (s : SharedSem _ _). s.semaphore) c.deref.ensures) (ap (λ (s : SharedSem _ _). s.semaphore) c.deref-2.ensures) (ap (λ (s : SharedSem _ _). s.semaphore) c.in_ok-shared.ensures)
    c.requires.first c.split-pass.ensures.its_own c.split-pass.ensures.given c.begin.ensures.on.own c.begin.ensures.became
