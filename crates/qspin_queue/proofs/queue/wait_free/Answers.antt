use Rattle.std.proofs.Common.{ap, ◌∙◌}
use Rattle.qspin_queue.specs.Types.{LockHand}
use Rattle.lock_core.specs.Nestings.{waits_at, pauses_at}
use Rattle.qspin_word.proofs.Idling.{idles-then, idles-lock-hand, idles-ready}
use Rattle.qspin_queue.proofs.Entering.{trying-idles}
use Rattle.qspin_queue.proofs.queue.wait_free.Goals as goal

pub loop-preserved : goal.loop-preserved
loop-preserved g c = record { next = tt; finite = tt; idles = let r = idles-then g.I.Interrupt.silent c.args.site.now c.args.pass.now c.loop.pass c.hit.new.pass c.loop.invariant.idles c.hit.ensures.idles in idles-then g.I.Interrupt.silent c.args.site.now c.args.pass.now c.hit.new.pass c.grab_free.new.pass r (trying-idles c.args.site.now c.args.lock g.I.Interrupt.silent c.hit.new.pass c.grab_free.new.pass (ap (λ (b : LockHand). b.frame.point) (idles-lock-hand g.I.Interrupt.silent c.args.site.now c.args.lock c.args.pass.now c.hit.new.pass r (ap waits_at c.requires.point)) ∙ c.requires.point) c.hit.ensures.idles.told c.grab_free.ensures.nest (c.grab_free.ensures.missed c.if-grab_free.false) c.grab_free.ensures.nodes) }

pub hit-requires : goal.hit-requires
hit-requires g c = record { ready = idles-ready g.I.Interrupt.silent c.args.site.now c.args.lock c.args.pass.now c.loop.pass c.requires.numbered (ap pauses_at c.requires.point) (ap waits_at c.requires.point) c.loop.invariant.idles }
