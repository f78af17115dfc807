use Rattle.std.proofs.Common.{◌≡◌, ◌++◌, suc, sym, ap, subst, ◌∙◌, List, ℕ, take, drop, map, Some, false}
use Rattle.std.specs.Prelude.{remove}
use Rattle.rwsem_count.specs.CountSemaphores.{States}
use Rattle.lock_courses.specs.SemaphoreCourses.{semaphore_of, waiter_task}
use Rattle.lock_courses.proofs.SemaphoreLists.{told, others}
use Rattle.lock_courses.proofs.semaphore.SemaphoreCourse.write.Goals as goal

pub returns-in-Take-clause-stated : goal.returns-in-Take-clause-stated
returns-in-Take-clause-stated c =
    let old = c.args.self.now in
    let ws = c.as_slice-waiting.result.now in
    let k = c.in-Some.place in
    let list : map waiter_task old.waiting.items ≡ map waiter_task ws = ap (map waiter_task) (sym c.as_slice-waiting.ensures.value) in
    let left : map waiter_task c.remove.new.self.items ≡ map waiter_task (take k ws) ++ map waiter_task (drop (suc k) ws) =
    ap (map waiter_task) (c.remove.ensures.items ∙ ap (λ z. remove z k) (sym c.as_slice-waiting.ensures.value)) ∙ others ws k in
    record {
      states = subst (λ (xs : List ℕ). States c.in-Take.word (record (semaphore_of old) { writer = Some c.args.task; waiting = xs; marked = false })) (sym left)
          (c.in-Take.ensures.lawful (semaphore_of old) c.args.task (map waiter_task (take k ws)) (map waiter_task (drop (suc k) ws)) c.requires.states (told (semaphore_of old) ws k c.args.task list c.in-Some.ensures));
    }

pub returns-in-Mark-clause-stated : goal.returns-in-Mark-clause-stated
returns-in-Mark-clause-stated c =
    let old = c.args.self.now in
    let ws = c.as_slice-waiting.result.now in
    let k = c.in-Some.place in
    let list : map waiter_task old.waiting.items ≡ map waiter_task ws = ap (map waiter_task) (sym c.as_slice-waiting.ensures.value) in
    record {
      states = c.in-Mark.ensures.lawful (semaphore_of old) c.args.task (map waiter_task (take k ws)) (map waiter_task (drop (suc k) ws)) c.requires.states (told (semaphore_of old) ws k c.args.task list c.in-Some.ensures);
    }
