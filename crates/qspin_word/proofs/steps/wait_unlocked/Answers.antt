use Rattle.std.proofs.Common.{ap}
use Rattle.lock_core.specs.Nestings.{waits_at, pauses_at}
use Rattle.lock_core.specs.SiteHandles.{view_of}
use Rattle.qspin_word.specs.SpinWordHands.{awaited}
use Rattle.qspin_word.proofs.Idling.{look-ready}
use Rattle.qspin_word.proofs.Passing.{held-seen, pending-seen, pending-nodes}
use Rattle.qspin_word.proofs.steps.wait_unlocked.Goals as goal

pub returns-then-load_pending-eq0-clause-waits : goal.returns-then-load_pending-eq0-clause-waits
returns-then-load_pending-eq0-clause-waits g c = pending-seen c.args.site.now c.args.lock c.load_pending.result g.I.Interrupt.silent c.args.pass.now c.loop.pass c.load_pending.new.pass c.requires.point c.loop.invariant.idles c.load_pending.ensures.steps c.if-load_pending-eq0.true

pub returns-then-load_pending-eq0-clause-nodes : goal.returns-then-load_pending-eq0-clause-nodes
returns-then-load_pending-eq0-clause-nodes g c = pending-nodes c.args.site.now c.args.lock c.load_pending.result g.I.Interrupt.silent c.args.pass.now c.loop.pass c.load_pending.new.pass c.requires.point c.loop.invariant.idles c.load_pending.ensures.steps c.if-load_pending-eq0.true

pub hit-requires : goal.hit-requires
hit-requires g c = let d = c.loop.pass in record { ready = look-ready g.I.Interrupt.silent c.args.site.now c.args.lock c.args.pass.now d c.load_pending.new.pass (awaited c.args.lock c.load_pending.result (view_of d)) c.requires.numbered (ap pauses_at c.requires.point) (ap waits_at c.requires.point) c.loop.invariant.idles c.load_pending.ensures.steps (held-seen c.args.site.now c.args.lock c.load_pending.result (view_of d) c.if-load_pending-eq0.false) }
