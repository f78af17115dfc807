use Rattle.std.proofs.Common.{◌<◌, inr, ◌∙◌, arith}
use Rattle.lock_tests.proofs.nest_tests.take_all.Goals as goal

many : 1 < 8
many = omega arith

pub lock_with-requires-clause-out : goal.lock_with-requires-clause-out
lock_with-requires-clause-out g c = c.requires.apart.out 0

pub lock_with-requires-2-clause-told : goal.lock_with-requires-2-clause-told
lock_with-requires-2-clause-told g c = inr (c.lock_with.ensures.told many c.requires.apart.told)

pub lock_with-requires-2-clause-out : goal.lock_with-requires-2-clause-out
lock_with-requires-2-clause-out g c = (c.lock_with.ensures.gained.others 1 (λ e. omega (arith, e))).point ∙ c.requires.apart.out 1

pub lock_with-requires-3-clause-told : goal.lock_with-requires-3-clause-told
lock_with-requires-3-clause-told g c = inr (c.lock_with-2.ensures.told many (c.lock_with.ensures.told many c.requires.apart.told))

pub lock_with-requires-3-clause-out : goal.lock_with-requires-3-clause-out
lock_with-requires-3-clause-out g c = (c.lock_with-2.ensures.gained.others 2 (λ e. omega (arith, e))).point ∙ ((c.lock_with.ensures.gained.others 2 (λ e. omega (arith, e))).point ∙ c.requires.apart.out 2)

pub returns-clause-told : goal.returns-clause-told
returns-clause-told g c = c.lock_with-3.ensures.told many (c.lock_with-2.ensures.told many (c.lock_with.ensures.told many c.requires.apart.told))

pub returns-clause-outer : goal.returns-clause-outer
returns-clause-outer g c = (c.lock_with-3.ensures.gained.others 0 (λ e. omega (arith, e))).point ∙ ((c.lock_with-2.ensures.gained.others 0 (λ e. omega (arith, e))).point ∙ c.lock_with.ensures.gained.holds)

pub returns-clause-inner : goal.returns-clause-inner
returns-clause-inner g c = (c.lock_with-3.ensures.gained.others 1 (λ e. omega (arith, e))).point ∙ c.lock_with-2.ensures.gained.holds
