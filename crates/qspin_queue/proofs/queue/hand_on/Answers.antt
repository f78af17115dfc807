use Rattle.std.proofs.Common.{◌∙◌, true}
use Rattle.lock_core.specs.LockHands.{frame_at}
use Rattle.qspin_word.specs.SpinWordHandles.{spin_in}
use Rattle.qspin_queue.specs.SpinQueueHands.{learning}
use Rattle.qspin_queue.proofs.Queueing.{hands-now, hands-on, hands-from, hands-now-from}
use Rattle.qspin_queue.proofs.HeadSteps.{set-point, set-next, set-code, set-told, set-noted, set-top, set-leaves, late-top, late-leaves}
use Rattle.std.proofs.Common.{ap}
use Rattle.qspin_queue.specs.SpinQueueHands.{lock_hand_with}
use Rattle.qspin_queue.specs.Types.{Passing, LockHand}
use Rattle.qspin_word.proofs.Passing.{nodes-then}
use Rattle.qspin_word.proofs.Noting.{noted-frame, noted-nodes, waits-noted}
use Rattle.qspin_queue.proofs.queue.hand_on.Goals as goal

pub pass_head-requires-clause-point : goal.pass_head-requires-clause-point
pass_head-requires-clause-point g c = set-point c.args.site.now c.args.lock g.I.Interrupt.silent c.args.pass.now c.set_locked.new.pass c.requires.point c.set_locked.ensures.steps

pub pass_head-requires-clause-top : goal.pass_head-requires-clause-top
pass_head-requires-clause-top g c = set-top c.args.site.now c.args.lock g.I.Interrupt.silent c.args.pass.now c.set_locked.new.pass c.requires.point c.set_locked.ensures.steps c.requires.top

pub pass_head-requires-clause-next : goal.pass_head-requires-clause-next
pass_head-requires-clause-next g c = set-next c.args.site.now c.args.lock g.I.Interrupt.silent c.args.pass.now c.set_locked.new.pass c.requires.point c.set_locked.ensures.steps ∙ c.requires.next

pub wait_successor-late-requires-clause-told : goal.wait_successor-late-requires-clause-told
wait_successor-late-requires-clause-told g c = set-noted c.args.site.now c.args.lock g.I.Interrupt.silent c.args.pass.now c.set_locked.new.pass c.requires.point c.set_locked.ensures.steps c.note_lock.new.self c.note_lock.ensures c.requires.told

pub wait_successor-late-requires-clause-point : goal.wait_successor-late-requires-clause-point
wait_successor-late-requires-clause-point g c = ap (λ f. f.point) (noted-frame c.args.lock c.set_locked.new.pass c.note_lock.new.self true true c.note_lock.ensures) ∙ set-point c.args.site.now c.args.lock g.I.Interrupt.silent c.args.pass.now c.set_locked.new.pass c.requires.point c.set_locked.ensures.steps

pub wait_successor-late-requires-clause-none : goal.wait_successor-late-requires-clause-none
wait_successor-late-requires-clause-none g c = ap (λ f. f.next) (noted-frame c.args.lock c.set_locked.new.pass c.note_lock.new.self true true c.note_lock.ensures) ∙ (set-next c.args.site.now c.args.lock g.I.Interrupt.silent c.args.pass.now c.set_locked.new.pass c.requires.point c.set_locked.ensures.steps ∙ (c.requires.next ∙ c.if-next-ne0.false))

pub wait_successor-late-requires-clause-node : goal.wait_successor-late-requires-clause-node
wait_successor-late-requires-clause-node g c = ap (λ f. f.code) (noted-frame c.args.lock c.set_locked.new.pass c.note_lock.new.self true true c.note_lock.ensures) ∙ (set-code c.args.site.now c.args.lock g.I.Interrupt.silent c.args.pass.now c.set_locked.new.pass c.requires.point c.set_locked.ensures.steps ∙ c.requires.node)

pub pass_head-requires-else-next-ne0-clause-top : goal.pass_head-requires-else-next-ne0-clause-top
pass_head-requires-else-next-ne0-clause-top g c = late-top c.args.site.now c.args.lock g.I.Interrupt.silent c.args.pass.now c.set_locked.new.pass c.requires.point c.set_locked.ensures.steps c.wait_successor-late.new.pass c.wait_successor-late.result (waits-noted c.args.lock c.args.site.now g.I.Interrupt.silent (λ (b : LockHand). lock_hand_with (learning Passing c.wait_successor-late.result b.frame) b) c.set_locked.new.pass c.note_lock.new.self c.wait_successor-late.new.pass true true c.note_lock.ensures c.wait_successor-late.ensures.waits) (nodes-then c.args.site.now c.set_locked.new.pass c.note_lock.new.self c.wait_successor-late.new.pass (noted-nodes c.args.lock c.set_locked.new.pass c.note_lock.new.self true true c.note_lock.ensures (set-told c.args.site.now c.args.lock g.I.Interrupt.silent c.args.pass.now c.set_locked.new.pass c.requires.point c.set_locked.ensures.steps c.requires.told.depth)) c.wait_successor-late.ensures.nodes) c.requires.top

pub returns-then-next-ne0-clause-takes : goal.returns-then-next-ne0-clause-takes
returns-then-next-ne0-clause-takes g c = hands-now c.args.site.now c.args.lock g.I.Interrupt.silent c.args.pass.now c.set_locked.new.pass c.pass_head.new.pass c.requires.point c.set_locked.ensures.steps c.pass_head.ensures.steps

pub returns-then-next-ne0-clause-left : goal.returns-then-next-ne0-clause-left
returns-then-next-ne0-clause-left g c = set-leaves c.args.site.now c.args.lock g.I.Interrupt.silent c.args.pass.now c.set_locked.new.pass c.requires.point c.set_locked.ensures.steps c.pass_head.new.pass c.pass_head.ensures.steps

pub returns-else-next-ne0-clause-takes : goal.returns-else-next-ne0-clause-takes
returns-else-next-ne0-clause-takes g c = hands-on c.args.site.now c.args.lock g.I.Interrupt.silent c.args.pass.now c.set_locked.new.pass c.wait_successor-late.new.pass c.pass_head-else-next-ne0.new.pass c.requires.point c.set_locked.ensures.steps (learning Passing c.wait_successor-late.result (frame_at c.args.lock (spin_in c.set_locked.new.pass))) (waits-noted c.args.lock c.args.site.now g.I.Interrupt.silent (λ (b : LockHand). lock_hand_with (learning Passing c.wait_successor-late.result b.frame) b) c.set_locked.new.pass c.note_lock.new.self c.wait_successor-late.new.pass true true c.note_lock.ensures c.wait_successor-late.ensures.waits) c.pass_head-else-next-ne0.ensures.steps

pub returns-else-next-ne0-clause-left : goal.returns-else-next-ne0-clause-left
returns-else-next-ne0-clause-left g c = late-leaves c.args.site.now c.args.lock g.I.Interrupt.silent c.args.pass.now c.set_locked.new.pass c.requires.point c.set_locked.ensures.steps c.wait_successor-late.new.pass c.wait_successor-late.result (waits-noted c.args.lock c.args.site.now g.I.Interrupt.silent (λ (b : LockHand). lock_hand_with (learning Passing c.wait_successor-late.result b.frame) b) c.set_locked.new.pass c.note_lock.new.self c.wait_successor-late.new.pass true true c.note_lock.ensures c.wait_successor-late.ensures.waits) (nodes-then c.args.site.now c.set_locked.new.pass c.note_lock.new.self c.wait_successor-late.new.pass (noted-nodes c.args.lock c.set_locked.new.pass c.note_lock.new.self true true c.note_lock.ensures (set-told c.args.site.now c.args.lock g.I.Interrupt.silent c.args.pass.now c.set_locked.new.pass c.requires.point c.set_locked.ensures.steps c.requires.told.depth)) c.wait_successor-late.ensures.nodes) c.pass_head-else-next-ne0.new.pass c.pass_head-else-next-ne0.ensures.steps

pub returns-then-next-ne0-clause-ready : goal.returns-then-next-ne0-clause-ready
returns-then-next-ne0-clause-ready g c = hands-now-from c.args.site.now c.args.lock g.I.Interrupt.silent c.args.pass.now c.set_locked.new.pass c.pass_head.new.pass c.requires.point c.set_locked.ensures.steps c.pass_head.ensures.steps

pub returns-else-next-ne0-clause-ready : goal.returns-else-next-ne0-clause-ready
returns-else-next-ne0-clause-ready g c = hands-from c.args.site.now c.args.lock g.I.Interrupt.silent c.args.pass.now c.set_locked.new.pass c.wait_successor-late.new.pass c.pass_head-else-next-ne0.new.pass c.requires.point c.set_locked.ensures.steps (learning Passing c.wait_successor-late.result (frame_at c.args.lock (spin_in c.set_locked.new.pass))) (waits-noted c.args.lock c.args.site.now g.I.Interrupt.silent (λ (b : LockHand). lock_hand_with (learning Passing c.wait_successor-late.result b.frame) b) c.set_locked.new.pass c.note_lock.new.self c.wait_successor-late.new.pass true true c.note_lock.ensures c.wait_successor-late.ensures.waits) c.pass_head-else-next-ne0.ensures.steps
