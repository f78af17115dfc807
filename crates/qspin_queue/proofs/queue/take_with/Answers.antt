use Rattle.std.proofs.Common.{refl, inl, inr, ap, ◌∙◌, arith}
use Rattle.qspin_word.specs.SpinWordHandles.{lock_hand_of}
use Rattle.qspin_queue.specs.SpinQueueHands.{lock_hand_with, node_at}
use Rattle.qspin_queue.specs.Types.{Cleared}
use Rattle.qspin_queue.proofs.Entering.{with-tried, with-queued}
use Rattle.lock_core.specs.LockHands.{lock_hand_at}
use Rattle.qspin_queue.proofs.queue.take_with.Goals as goal

pub returns-then-try_cleared-clause-takes : goal.returns-then-try_cleared-clause-takes
returns-then-try_cleared-clause-takes g c = with-tried c.args.site.now c.args.lock g.I.Interrupt.silent c.args.pass.now c.clear_node.new.pass c.try_cleared.new.pass c.note_depth.new.self c.depth-depth.result (lock_hand_with (node_at Cleared c.args.code) (lock_hand_of c.args.lock c.args.pass.now)) c.clear_node.ensures.waits (c.try_cleared.ensures.takes c.if-try_cleared.true) c.note_depth.ensures

pub returns-clause-takes : goal.returns-clause-takes
returns-clause-takes g c = with-queued c.args.site.now c.args.lock g.I.Interrupt.silent c.args.pass.now c.clear_node.new.pass c.try_cleared.new.pass c.queue_up.new.pass c.note_depth-2.new.self c.depth-depth.result (lock_hand_with (node_at Cleared c.args.code) (lock_hand_of c.args.lock c.args.pass.now)) c.clear_node.ensures.waits refl (c.try_cleared.ensures.missed c.if-try_cleared.false) c.queue_up.ensures.takes c.note_depth-2.ensures

pub returns-then-try_cleared-clause-in_turn : goal.returns-then-try_cleared-clause-in_turn
returns-then-try_cleared-clause-in_turn g c = let t = c.try_cleared.ensures.cleared c.if-try_cleared.true in let seat = c.note_depth.ensures.seat in let took = ap (λ s. (lock_hand_at c.args.lock s.me.0.view.spin).took) seat in let x = t.1 in let y = c.clear_node.ensures.quick in
    inr (inl (ap (λ s. (lock_hand_at c.args.lock s.me.0.view.spin).from) seat ∙ t.0, omega (arith, took, x, y)))

pub returns-clause-in_turn : goal.returns-clause-in_turn
returns-clause-in_turn g c = inl (ap (λ s. (lock_hand_at c.args.lock s.me.0.view.spin).from) c.note_depth-2.ensures.seat ∙ c.queue_up.ensures.ready)
