use Rattle.qspin_word.specs.SpinWordHandles.{SpinIdles}
use Rattle.qspin_queue.proofs.queue.wait_head.Given as goal

abbrev pub invariant-loop : goal.invariant-loop
invariant-loop g l = record {
  next : (goal.iterator-loop g).can_next l.iterator';
  finite : (goal.iterator-loop g).is_finite l.iterator';
  idles : SpinIdles g.I.Interrupt.silent l.site l.initial.pass l.pass;
}
