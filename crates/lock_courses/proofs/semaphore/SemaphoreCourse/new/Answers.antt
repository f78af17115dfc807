use Rattle.lock_courses.proofs.SemaphoreLists.{free}
use Rattle.lock_courses.proofs.semaphore.SemaphoreCourse.new.Goals as goal

pub returns : goal.returns
returns c = record { states = rw (c.new.ensures, c.new-2.ensures, c.new-3.ensures) free }
