use Rattle.qspin_queue.proofs.Turns.{entry-idles, entry-waits, entry-nodes, entry-told}
use Rattle.std.proofs.Common.{arith}
use Rattle.qspin_queue.proofs.queue.enter_queue.Goals as goal

pub returns-then-exchange_tail-seen-clause-waits : goal.returns-then-exchange_tail-seen-clause-waits
returns-then-exchange_tail-seen-clause-waits g c = entry-waits c.args.site.now c.args.lock (Unit {0}) c.exchange_tail.result c.peek-seen.result c.args.pass.now c.peek-seen.new.pass c.exchange_tail.new.pass c.requires.point
    (entry-idles c.args.site.now c.args.lock (Unit {0}) c.args.pass.now c.loop.pass c.peek-seen.new.pass c.loop.invariant.idles c.peek-seen.ensures.steps) c.exchange_tail.ensures.steps c.if-exchange_tail-seen.true

pub returns-then-exchange_tail-seen-clause-nodes : goal.returns-then-exchange_tail-seen-clause-nodes
returns-then-exchange_tail-seen-clause-nodes g c = entry-nodes c.args.site.now c.args.lock (Unit {0}) c.exchange_tail.result c.peek-seen.result c.args.pass.now c.peek-seen.new.pass c.exchange_tail.new.pass c.requires.point
    (entry-idles c.args.site.now c.args.lock (Unit {0}) c.args.pass.now c.loop.pass c.peek-seen.new.pass c.loop.invariant.idles c.peek-seen.ensures.steps) c.exchange_tail.ensures.steps c.if-exchange_tail-seen.true

pub returns-then-exchange_tail-seen-clause-told : goal.returns-then-exchange_tail-seen-clause-told
returns-then-exchange_tail-seen-clause-told g c = entry-told c.args.site.now c.args.lock (Unit {0}) (let there = c.requires.there in let eight = g.H.SpinHost.spin_eight in omega (arith, there, eight)) c.args.pass.now c.peek-seen.new.pass c.exchange_tail.new.pass
    (entry-idles c.args.site.now c.args.lock (Unit {0}) c.args.pass.now c.loop.pass c.peek-seen.new.pass c.loop.invariant.idles c.peek-seen.ensures.steps) c.exchange_tail.result c.peek-seen.result c.requires.point c.exchange_tail.ensures.steps c.if-exchange_tail-seen.true
