use Rattle.qspin_queue.proofs.Turns.{readied-taken, ready-waits, ready-nodes, ready-told}
use Rattle.std.proofs.Common.{ap, arith}
use Rattle.lock_core.specs.Nestings.{waits_at, pauses_at}
use Rattle.lock_core.specs.SiteHandles.{view_of}
use Rattle.qspin_word.proofs.Idling.{look-ready}
use Rattle.qspin_queue.specs.SpinQueueHands.{readied}
use Rattle.qspin_queue.proofs.queue.wait_ready.Goals as goal

pub returns-then-seen-eq0-clause-waits : goal.returns-then-seen-eq0-clause-waits
returns-then-seen-eq0-clause-waits g c = ready-waits c.args.site.now c.args.lock g.I.Interrupt.silent c.load_head-seen.result c.args.pass.now c.loop.pass c.load_head-seen.new.pass c.requires.point c.loop.invariant.idles c.load_head-seen.ensures.steps c.if-seen-eq0.true

pub returns-then-seen-eq0-clause-nodes : goal.returns-then-seen-eq0-clause-nodes
returns-then-seen-eq0-clause-nodes g c = ready-nodes c.args.site.now c.args.lock g.I.Interrupt.silent c.load_head-seen.result c.args.pass.now c.loop.pass c.load_head-seen.new.pass c.requires.point c.loop.invariant.idles c.load_head-seen.ensures.steps c.if-seen-eq0.true

pub returns-then-seen-eq0-clause-told : goal.returns-then-seen-eq0-clause-told
returns-then-seen-eq0-clause-told g c = ready-told c.args.site.now c.args.lock g.I.Interrupt.silent (let there = c.requires.there in let eight = g.H.SpinHost.spin_eight in omega (arith, there, eight)) c.args.pass.now c.loop.pass c.load_head-seen.new.pass c.loop.invariant.idles c.load_head-seen.result c.requires.point c.load_head-seen.ensures.steps c.if-seen-eq0.true

pub hit-requires : goal.hit-requires
hit-requires g c = let d = c.loop.pass in record { ready = look-ready g.I.Interrupt.silent c.args.site.now c.args.lock c.args.pass.now d c.load_head-seen.new.pass (readied c.args.lock c.load_head-seen.result (view_of d)) c.requires.numbered (ap pauses_at c.requires.point) (ap waits_at c.requires.point) c.loop.invariant.idles c.load_head-seen.ensures.steps (readied-taken c.args.lock c.load_head-seen.result (view_of d) c.if-seen-eq0.false) }
