use Rattle.std.proofs.Common.{ap, arith}
use Rattle.lock_core.specs.Nestings.{waits_at, pauses_at}
use Rattle.qspin_word.proofs.Idling.{idles-then, idles-ready}
use Rattle.qspin_queue.proofs.Turns.{late-waits, late-nodes, late-idles, late-told}
use Rattle.qspin_queue.proofs.queue.wait_successor.Goals as goal

pub hit-requires : goal.hit-requires
hit-requires g c = record { ready = idles-ready g.I.Interrupt.silent c.args.site.now c.args.lock c.args.pass.now c.load_successor-next.new.pass c.requires.numbered (ap pauses_at c.requires.point) (ap waits_at c.requires.point) (late-idles c.args.site.now c.args.lock g.I.Interrupt.silent c.load_successor-next.result c.args.pass.now c.loop.pass c.load_successor-next.new.pass c.requires.point c.requires.none c.loop.invariant.idles c.load_successor-next.ensures.steps c.if-next-ne0.false) }

pub loop-preserved : goal.loop-preserved
loop-preserved g c = record { next = tt; finite = tt; idles = idles-then g.I.Interrupt.silent c.args.site.now c.args.pass.now c.load_successor-next.new.pass c.hit.new.pass (late-idles c.args.site.now c.args.lock g.I.Interrupt.silent c.load_successor-next.result c.args.pass.now c.loop.pass c.load_successor-next.new.pass c.requires.point c.requires.none c.loop.invariant.idles c.load_successor-next.ensures.steps c.if-next-ne0.false) c.hit.ensures.idles }

pub returns-then-next-ne0-clause-waits : goal.returns-then-next-ne0-clause-waits
returns-then-next-ne0-clause-waits g c = late-waits c.args.site.now c.args.lock g.I.Interrupt.silent c.load_successor-next.result c.args.pass.now c.loop.pass c.load_successor-next.new.pass c.requires.point c.loop.invariant.idles c.load_successor-next.ensures.steps

pub returns-then-next-ne0-clause-nodes : goal.returns-then-next-ne0-clause-nodes
returns-then-next-ne0-clause-nodes g c = late-nodes c.args.site.now c.args.lock g.I.Interrupt.silent c.load_successor-next.result c.args.pass.now c.loop.pass c.load_successor-next.new.pass c.requires.point c.loop.invariant.idles c.load_successor-next.ensures.steps

pub returns-then-next-ne0-clause-told : goal.returns-then-next-ne0-clause-told
returns-then-next-ne0-clause-told g c = late-told c.args.site.now c.args.lock g.I.Interrupt.silent (let there = c.requires.there in let eight = g.H.SpinHost.spin_eight in omega (arith, there, eight)) c.args.pass.now c.loop.pass c.load_successor-next.new.pass c.loop.invariant.idles c.load_successor-next.result c.requires.point c.load_successor-next.ensures.steps
