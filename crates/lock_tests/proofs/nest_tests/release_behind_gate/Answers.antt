use Rattle.lock_tests.proofs.nest_tests.release_behind_gate.Goals as goal

pub trylock_at-found-requires-clause-out : goal.trylock_at-found-requires-clause-out
trylock_at-found-requires-clause-out c = c.sees-gate.ensures.out 1
