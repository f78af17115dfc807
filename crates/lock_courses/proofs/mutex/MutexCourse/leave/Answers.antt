use Rattle.std.specs.Prelude.{All}
use Rattle.word_bits.specs.declared.TheConstants.{MAX_TASKS}
use Rattle.std.proofs.Common.{ℕ, List, ◌<◌, ◌∙◌, sym, subst, arith}
use Rattle.lock_courses.specs.MutexCourses.{mutex_of}
use Rattle.lock_courses.proofs.MutexLists.{waited_alike, some_wait, all_but_one}
use Rattle.lock_courses.proofs.mutex.MutexCourse.leave.Goals as goal

pub returns-then-len-gt1-clause-stated : goal.returns-then-len-gt1-clause-stated
returns-then-len-gt1-clause-stated c = record {
  states = waited_alike c.args.self.now.word (mutex_of c.args.self.now) c.remove.new.self.items (some_wait c.args.self.now.waiting.items (omega arith) ∙ sym (some_wait c.remove.new.self.items (omega arith))) c.requires.stated.states;
  tasks = subst (λ (xs : List ℕ). All (λ t. t < MAX_TASKS) xs) (sym c.remove.ensures.items) (all_but_one (λ t. t < MAX_TASKS) c.args.self.now.waiting.items c.in-Some.place c.requires.stated.tasks);
}
