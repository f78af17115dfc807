use Rattle.std.proofs.Common.{arith}
use Rattle.guarded.proofs.Descriptors.{slot-at, slot-past}
use Rattle.guarded.proofs.slots.slot.Goals as goal

pub returns-then-fd-ge-DESCRIPTORS-clause-value : goal.returns-then-fd-ge-DESCRIPTORS-clause-value
returns-then-fd-ge-DESCRIPTORS-clause-value g c = λ m is same. let past = c.if-fd-ge-DESCRIPTORS.true in slot-past m c.args.fd is (omega (arith, past))

pub returns-clause-value : goal.returns-clause-value
returns-clause-value g c = λ m is same.
    let below = c.if-fd-ge-DESCRIPTORS.false in
    slot-at m (g.L.SiteLock.view c.args.pass.now).hand.known c.args.fd c.word.result (omega (arith, below)) same c.word.ensures.value
