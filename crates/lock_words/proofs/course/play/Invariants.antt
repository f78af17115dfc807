use Rattle.std.specs.Prelude.{IfSome}
use Rattle.lock_words.specs.Courses.{IsStated}
use Rattle.lock_words.proofs.course.play.Given as goal

abbrev pub invariant-loop-line : goal.invariant-loop-line
invariant-loop-line g l = IfSome l.course IsStated
