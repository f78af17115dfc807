use Rattle.std.proofs.Common.{ℕ, ◌<◌, List, None, sym, subst, arith}
use Rattle.std.specs.Prelude.{All}
use Rattle.word_bits.specs.declared.TheConstants.{MAX_TASKS}
use Rattle.mutex_word.specs.Owners.{States}
use Rattle.lock_courses.proofs.MutexLists.{free}
use Rattle.lock_courses.proofs.mutex.MutexCourse.new.Goals as goal

pub returns-clause-stated : goal.returns-clause-stated
returns-clause-stated c = record {
  states = subst (λ (xs : List ℕ). States 0 (record { holder = None; picked = None; waiting = xs })) (sym c.new.ensures) free;
  tasks = subst (λ (xs : List ℕ). All (λ t. t < MAX_TASKS) xs) (sym c.new.ensures) (λ k d within. absurd (omega arith));
}
