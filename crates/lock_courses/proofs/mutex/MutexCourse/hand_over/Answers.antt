use Rattle.lock_courses.specs.MutexCourses.{mutex_of}
use Rattle.std.proofs.Common.{refl}
use Rattle.lock_courses.proofs.mutex.MutexCourse.hand_over.Goals as goal

pub returns-clause-stated : goal.returns-clause-stated
returns-clause-stated c = record {
  states = c.handoff_word-self.ensures.lawful (mutex_of c.args.self.now) c.args.task c.requires.stated.states (c.if-not-is_task.ensures.0 refl) c.first-first.ensures;
  tasks = c.requires.stated.tasks;
}
