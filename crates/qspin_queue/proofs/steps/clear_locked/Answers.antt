use Rattle.std.proofs.Common.{ap, sym, ℕ, subst, length}
use Rattle.lock_core.specs.SpinFrames.{holds_at}
use Rattle.lock_core.specs.Spins.{locked_at}
use Rattle.qspin_word.specs.Allows.{SpinAllows}
use Rattle.qspin_word.proofs.SpinSteps.{ends-none}
use Rattle.qspin_queue.specs.SpinQueueHands.{cleared_locked}
use Rattle.qspin_queue.specs.Types.{Store}
use Rattle.qspin_queue.proofs.QueueSteps.{clears-locked}
use Rattle.qspin_queue.proofs.steps.clear_locked.Goals as goal

pub spin_step-requires-clause-may : goal.spin_step-requires-clause-may
spin_step-requires-clause-may g c = λ n ends. ends-none c.args.lock c.args.pass.now.seat.me.0.view.spin (cleared_locked c.args.lock c.args.pass.now.seat.me.0.view) (g.H.SpinHost.may_free c.args.pass.now.seat.me.0.view) (ap holds_at c.requires.out) ends

pub spin_step-requires-clause-allows : goal.spin_step-requires-clause-allows
spin_step-requires-clause-allows g c = let t = c.requires.node.task in let i = c.requires.node.index in subst (λ (z : ℕ). SpinAllows g.H.SpinHost.LOCKS (length c.args.site.now.table.shared.key) c.args.lock c.args.pass.now.seat.id c.args.pass.now.seat.me.0.view z (Store 0) (λ n. cleared_locked c.args.lock c.args.pass.now.seat.me.0.view) (λ n. Unit {0})) (sym c.locked_place.ensures) (subst (λ (z : ℕ). SpinAllows g.H.SpinHost.LOCKS (length c.args.site.now.table.shared.key) c.args.lock c.args.pass.now.seat.id c.args.pass.now.seat.me.0.view (locked_at z) (Store 0) (λ n. cleared_locked c.args.lock c.args.pass.now.seat.me.0.view) (λ n. Unit {0})) (sym c.requires.node.is) (clears-locked g.H.SpinHost.LOCKS c.args.lock c.requires.there g.H.SpinHost.spin_eight c.args.pass.now.seat.me.0.view c.args.pass.now.seat.id t i c.requires.node.named c.requires.node.small c.requires.node.four c.requires.node.depth c.requires.out))
