use Rattle.std.proofs.Common.{ap}
use Rattle.std.specs.Arc.{arc_value}
use Rattle.mutex_slow.specs.MutexHandles.{plan_of, shown_of, SitsAt}
use Rattle.kept_words.specs.declared.mutex.SharedMutex.{SharedMutex}
use Rattle.kept_words.specs.Laws.Keeping.{split-begun}
use Rattle.kept_words.proofs.mutex.split_one.Goals as goal

pub invariant_of-new : goal.invariant_of-new
invariant_of-new g c = split-begun SitsAt plan_of shown_of (arc_value c.args.shared.now).mutex c.args.pass.now c.split-pass.result c.begin.new.pass g.I.Invariant.WORDS g.I.Invariant.keeps _ c.args.number
    c.deref.result.now.mutex c.deref-2.result.now.mutex (arc_value c.in_ok-shared.shared).mutex (ap (λ (s : SharedMutex _ _). s.mutex) c.deref.ensures) (ap (λ (s : SharedMutex _ _). s.mutex) c.deref-2.ensures) (ap (λ (s : SharedMutex _ _). s.mutex) c.in_ok-shared.ensures)
    c.requires.first c.split-pass.ensures.its_own c.split-pass.ensures.given c.begin.ensures.on.own c.begin.ensures.became
