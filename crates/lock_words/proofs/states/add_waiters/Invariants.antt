use Rattle.std.proofs.Common.{◌≡◌, ◌+◌, ◌*◌, ◌≤◌, ◌++◌, length, take}
use Rattle.lock_words.specs.States.{waiters_text}
use Rattle.lock_words.proofs.states.add_waiters.Given as goal

abbrev pub invariant-loop-waiter : goal.invariant-loop-waiter
invariant-loop-waiter l = record {
  text : l.out ≡ l.fn.out ++ waiters_text (take l.waiter-index l.waiters);
  short : length l.out ≤ length l.fn.out + 22 * l.waiter-index;
}
