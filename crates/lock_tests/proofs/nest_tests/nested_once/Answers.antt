use Rattle.lock_tests.proofs.nest_tests.nested_once.Goals as goal

pub raise-way-requires-clause-out : goal.raise-way-requires-clause-out
raise-way-requires-clause-out g c = c.requires.out 0
