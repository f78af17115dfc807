use Rattle.qspin_queue.proofs.Turns.{heard-none, head-waits, head-nodes, head-told}
use Rattle.std.proofs.Common.{ap, arith}
use Rattle.lock_core.specs.Nestings.{waits_at, pauses_at}
use Rattle.lock_core.specs.SiteHandles.{view_of}
use Rattle.qspin_word.proofs.Idling.{look-ready}
use Rattle.qspin_queue.specs.SpinQueueHands.{heard}
use Rattle.qspin_queue.proofs.queue.wait_head.Goals as goal

pub returns-then-load_locked-eq1-clause-waits : goal.returns-then-load_locked-eq1-clause-waits
returns-then-load_locked-eq1-clause-waits g c = head-waits c.args.site.now c.args.lock g.I.Interrupt.silent c.load_locked.result c.args.pass.now c.loop.pass c.load_locked.new.pass c.requires.point c.loop.invariant.idles c.load_locked.ensures.steps c.if-load_locked-eq1.true

pub returns-then-load_locked-eq1-clause-nodes : goal.returns-then-load_locked-eq1-clause-nodes
returns-then-load_locked-eq1-clause-nodes g c = head-nodes c.args.site.now c.args.lock g.I.Interrupt.silent c.load_locked.result c.args.pass.now c.loop.pass c.load_locked.new.pass c.requires.point c.loop.invariant.idles c.load_locked.ensures.steps c.if-load_locked-eq1.true

pub returns-then-load_locked-eq1-clause-told : goal.returns-then-load_locked-eq1-clause-told
returns-then-load_locked-eq1-clause-told g c = head-told c.args.site.now c.args.lock g.I.Interrupt.silent (let there = c.requires.there in let eight = g.H.SpinHost.spin_eight in omega (arith, there, eight)) c.args.pass.now c.loop.pass c.load_locked.new.pass c.loop.invariant.idles c.load_locked.result c.requires.point c.load_locked.ensures.steps c.if-load_locked-eq1.true

pub hit-requires : goal.hit-requires
hit-requires g c = let d = c.loop.pass in record { ready = look-ready g.I.Interrupt.silent c.args.site.now c.args.lock c.args.pass.now d c.load_locked.new.pass (heard c.args.lock c.load_locked.result (view_of d)) c.requires.numbered (ap pauses_at c.requires.point) (ap waits_at c.requires.point) c.loop.invariant.idles c.load_locked.ensures.steps (heard-none c.args.lock c.load_locked.result (view_of d) c.if-load_locked-eq1.false) }
