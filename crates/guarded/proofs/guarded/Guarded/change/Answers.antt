-- The words store what the call makes of the state after the log.
use Rattle.std.proofs.Common.{refl}
use Rattle.word_bits.specs.Histories.{state_after}
use Rattle.guarded.proofs.Serving.{change-kept, may-commit}
use Rattle.guarded.proofs.Passing.{spun-goes-on}
use Rattle.guarded.proofs.guarded.Guarded.change.Goals as goal

pub commit-requires-clause-change : goal.commit-requires-clause-change
commit-requires-clause-change g c =
    let o = g.O.Object.object in
    let k = g.L.SiteLock.calls_on c.args.self.now.lock in
    let v = g.L.SiteLock.view c.args.pass.now in
    let m = g.L.SiteLock.view c.change-reply.new.pass in
    let words = o.stores (o.meaning (state_after o k v.hand.log) c.args.next.call).0 in
    may-commit v m words c.change-reply.ensures.stored o g.met.O.ValueObject.represents k c.args.next c.change-reply.result c.requires.next c.requires.changes refl c.change-reply.ensures.reply

pub returns-clause-kept : goal.returns-clause-kept
returns-clause-kept g c =
    let o = g.O.Object.object in
    let k = g.L.SiteLock.calls_on c.args.self.now.lock in
    let v = g.L.SiteLock.view c.args.pass.now in
    let m = g.L.SiteLock.view c.change-reply.new.pass in
    let words = o.stores (o.meaning (state_after o k v.hand.log) c.args.next.call).0 in
    let u = g.L.SiteLock.view c.commit.new.pass in
    change-kept v m words c.change-reply.ensures.stored u c.change-reply.result c.commit.ensures.kept

pub returns-clause-queue : goal.returns-clause-queue
returns-clause-queue g c = λ p t. spun-goes-on g.L.SleepLock.spun g.L.SiteLock.with_seat g.met.L.SleepLock.leaves c.change-reply.new.pass c.commit.new.pass _ c.commit.ensures.beside p (c.change-reply.ensures.queue p t)
