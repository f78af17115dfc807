use Rattle.mm_serve.proofs.one_lock.await_none.Given as goal

abbrev pub invariant-loop : goal.invariant-loop
invariant-loop g l = Unit {0}
