use Rattle.std.proofs.Common.{◌-◌, None, refl}
use Rattle.guarded.specs.Types.{Good, Refused, BadF, Close}
use Rattle.guarded.proofs.Descriptors.{slot-none, slot-some, slot-inside, does-nothing, does-write, closed-none, closed-some}
use Rattle.guarded.proofs.Passing.{spun-goes-on}
use Rattle.guarded.proofs.slots.close.Goals as goal

pub returns-then-slot-eq0-clause-done : goal.returns-then-slot-eq0-clause-done
returns-then-slot-eq0-clause-done g c = λ m is same.
    let v = g.L.SiteLock.view c.args.pass.now in
    let r = g.L.SiteLock.view c.slot.new.pass in
    let fd = c.args.fd in
    does-nothing m v r r c.slot.ensures.kept is same (Close fd) (Refused BadF) (closed-none m fd (slot-none (m fd) c.slot.result (c.slot.ensures.value m is same) c.if-slot-eq0.true))

pub set_word-requires-clause-inside : goal.set_word-requires-clause-inside
set_word-requires-clause-inside g c =
    let (m, is, same) = c.requires.table in
    slot-inside m c.args.fd c.slot.result is (c.slot.ensures.value m is same) c.if-slot-eq0.false

pub returns-clause-done : goal.returns-clause-done
returns-clause-done g c = λ m is same.
    let v = g.L.SiteLock.view c.args.pass.now in
    let r = g.L.SiteLock.view c.slot.new.pass in
    let u = g.L.SiteLock.view c.set_word.new.pass in
    let fd = c.args.fd in
    let value = c.slot.ensures.value m is same in
    does-write m v r u c.slot.ensures.kept is same (Close fd) Good fd 0 None (slot-inside m fd c.slot.result is value c.if-slot-eq0.false) refl c.set_word.ensures.kept (closed-some m fd (c.slot.result - 1) (slot-some (m fd) c.slot.result value c.if-slot-eq0.false))

pub returns-clause-queue : goal.returns-clause-queue
returns-clause-queue g c = λ p t. spun-goes-on g.L.SleepLock.spun g.L.SiteLock.with_seat g.met.L.SleepLock.leaves c.slot.new.pass c.set_word.new.pass _ c.set_word.ensures.beside p (c.slot.ensures.queue p t)
