use Rattle.std.proofs.Common.{◌≡◌, ◌+◌, vec_len}
use Rattle.std.specs.Arc.{arc_value}
use Rattle.mutex_slow.specs.MutexHandles.{hand_in, plan_of, shown_of, SitsAt}
use Rattle.kept_words.specs.Keeping.{IsTask}
use Rattle.kept_words.specs.Types.{No}
use Rattle.kept_words.proofs.mutex.split_all.Given as goal

abbrev pub invariant-loop-cpu : goal.invariant-loop-cpu
invariant-loop-cpu g l =
    IsTask SitsAt plan_of shown_of g.I.Invariant.WORDS (arc_value l.shared).mutex l.pass
    × ((hand_in l.pass).held ≡ No)
    × (vec_len l.all + vec_len l.cpus ≡ vec_len l.fn.cpus)

abbrev pub decreases-loop-cpu : goal.decreases-loop-cpu
decreases-loop-cpu g l = vec_len l.cpus
