use Rattle.std.proofs.Common.{◌≡◌, ◌+◌, ◌==◌, ◌||◌, true, false, is_some, ap, sym, subst, ◌∙◌, length, map, arith}
use Rattle.word_bits.specs.declared.count.Count.{Count}
use Rattle.word_bits.specs.OwnerWord.{bit}
use Rattle.rwsem_count.specs.CountSemaphores.{Describes, is_waited}
use Rattle.lock_courses.specs.SemaphoreCourses.{semaphore_of, waiter_task}
use Rattle.lock_courses.proofs.SemaphoreLists.{waits_or_alone, append_waits, queued}
use Rattle.lock_courses.proofs.semaphore.SemaphoreCourse.queue_reader.Goals as goal

pub returns-clause-stated : goal.returns-clause-stated
returns-clause-stated c =
    let old = c.args.self.now in
    let biases = length c.remove.new.self.items + bit (is_some old.waker) in
    let waiting = map waiter_task c.push.new.self.items in
    let d = c.count.ensures.describes in
    let shorter = c.remove.ensures.len in
    let waits : is_waited waiting ≡ true = ap (λ ws. is_waited (map waiter_task ws)) c.push.ensures.items ∙ append_waits old.waiting.items (record { task = c.args.task; writer = false }) in
    let flag : (c.count.result.waiters || (c.len-alone.result == 0)) ≡ true =
    ap (λ b. b || (c.len-alone.result == 0)) d.waiters ∙ ap (λ k. is_waited (map waiter_task old.waiting.items) || (k == 0)) c.len-alone.ensures.value ∙ waits_or_alone old.waiting.items in
    record {
      states = record {
        count = c.in-Some-read_back.next;
        ranged = let few = c.in-Some-read_back.ensures.lawful.few in omega arith;
        is = sym c.pack-self.ensures;
        describes = subst (λ (m : Count). Describes m (record (semaphore_of old) { biases = biases; waiting = waiting })) (sym c.in-Some-read_back.ensures.word.1)
            (queued c.count.result (semaphore_of old) biases waiting (c.len-alone.result == 0) d (omega arith) waits flag);
      };
    }
