use Rattle.std.proofs.Common.{◌≡◌, ◌+◌, ◌==◌, true, false, None, is_some, ap, sym, subst, ◌∙◌, length, map, if◌then◌else◌, arith}
use Rattle.word_bits.specs.declared.count.Count.{Count}
use Rattle.word_bits.specs.OwnerWord.{bit}
use Rattle.rwsem_count.specs.CountSemaphores.{Describes}
use Rattle.lock_courses.specs.SemaphoreCourses.{semaphore_of, waiter_task}
use Rattle.lock_courses.proofs.SemaphoreLists.{granted, none_of, waker_gone, waits_unless_empty}
use Rattle.lock_courses.proofs.semaphore.SemaphoreCourse.grant.Goals.{then-is_task, else-is_task}
use Rattle.lock_courses.proofs.semaphore.SemaphoreCourse.grant.Goals as goal

pub returns-clause-stated : goal.returns-clause-stated
returns-clause-stated c =
    let old = c.args.self.now in
    let reserved = c.if-is_task.reserved in
    let readers = c.add_readers.new.readers.items in
    let waiting = map waiter_task c.writers_of-rest.result.items in
    let biases = length old.transit.items + bit (is_some c.waker_left-self.result) in
    let k = c.len-3.result in
    let d = c.count.ensures.describes in
    let few = c.in-Some.ensures.word.0.few in
    let nobody : old.writer ≡ None = none_of old.writer (sym c.is_some.ensures ∙ c.if-is_some.false) in
    let some : reserved ≡ true → is_some old.waker ≡ true =
    λ e. elim c.if-is_task.branch [ then-is_task w ↦ ap is_some (c.is_task.ensures.0 w.if-is_task.true) | else-is_task w ↦ let bad : true ≡ false = sym e ∙ w.reserved-is ∙ w.if-is_task.false in cc ] in
    let gone = waker_gone old.waker reserved some in
    let left : bit (is_some c.waker_left-self.result) ≡ bit (is_some (if reserved then None else old.waker)) = ap (λ w. bit (is_some w)) c.waker_left-self.ensures in
    let more : length readers ≡ length old.readers.items + k = c.add_readers.ensures ∙ ap (λ n. length old.readers.items + n) (ap length c.as_slice-4.ensures.value ∙ sym c.len-3.ensures.value) in
    record {
      states = record {
        count = c.in-Some.next;
        ranged = let small = c.in-Some.ensures.lawful.few in omega arith;
        is = sym c.pack-self.ensures;
        describes = subst (λ (m : Count). Describes m (record (semaphore_of old) { readers = readers; biases = biases; waiting = waiting; marked = false })) (sym c.in-Some.ensures.word.1)
            (granted c.count.result (semaphore_of old) readers biases waiting k reserved (c.len-empty.result == 0) d nobody more (omega arith) (waits_unless_empty c.writers_of-rest.result.items c.len-empty.result c.len-empty.ensures.value) few);
      };
    }
