use Rattle.std.proofs.Common.{arith}
use Rattle.guarded.proofs.Descriptors.{got-none, got-some, slot-small}
use Rattle.guarded.proofs.slots.get.Goals as goal

pub overflow_cast-result : goal.overflow_cast-result
overflow_cast-result g c =
    let (m, is, same) = c.requires.table in
    let small = slot-small (m c.args.fd) c.slot-word.result (c.slot-word.ensures.value m is same) (is.files c.args.fd) in
    omega (arith, small)

pub returns-then-word-eq0-clause-reply : goal.returns-then-word-eq0-clause-reply
returns-then-word-eq0-clause-reply g c = λ m is same.
    got-none m (m c.args.fd) c.slot-word.result (c.slot-word.ensures.value m is same) c.if-word-eq0.true

pub returns-else-word-eq0-clause-reply : goal.returns-else-word-eq0-clause-reply
returns-else-word-eq0-clause-reply g c = λ m is same.
    got-some m (m c.args.fd) c.slot-word.result (c.slot-word.ensures.value m is same) c.if-word-eq0.false
