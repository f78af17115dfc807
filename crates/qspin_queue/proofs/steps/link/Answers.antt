use Rattle.std.proofs.Common.{ap, sym, ◌∙◌, ℕ, subst, length}
use Rattle.lock_core.specs.SpinFrames.{holds_at}
use Rattle.lock_core.specs.LockHands.{frame_at}
use Rattle.lock_core.specs.Spins.{next_at}
use Rattle.qspin_word.specs.Allows.{SpinAllows}
use Rattle.qspin_word.proofs.SpinSteps.{ends-none}
use Rattle.qspin_queue.specs.SpinQueueHands.{linked}
use Rattle.qspin_queue.specs.Types.{Store}
use Rattle.qspin_queue.proofs.QueueSteps.{links}
use Rattle.qspin_queue.proofs.steps.link.Goals as goal

pub spin_step-requires-clause-may : goal.spin_step-requires-clause-may
spin_step-requires-clause-may g c = λ n ends. ends-none c.args.lock c.args.pass.now.seat.me.0.view.spin (linked c.args.lock c.args.pass.now.seat.me.0.view) (g.H.SpinHost.may_free c.args.pass.now.seat.me.0.view) (ap holds_at c.requires.point) ends

pub spin_step-requires-clause-allows : goal.spin_step-requires-clause-allows
spin_step-requires-clause-allows g c = subst (λ (z : ℕ). SpinAllows g.H.SpinHost.LOCKS (length c.args.site.now.table.shared.key) c.args.lock c.args.pass.now.seat.id c.args.pass.now.seat.me.0.view z (Store c.args.code) (λ n. linked c.args.lock c.args.pass.now.seat.me.0.view) (λ n. Unit {0})) (sym (c.next_place.ensures ∙ ap next_at (sym c.requires.found))) (subst (λ (z : ℕ). SpinAllows g.H.SpinHost.LOCKS (length c.args.site.now.table.shared.key) c.args.lock c.args.pass.now.seat.id c.args.pass.now.seat.me.0.view (next_at (frame_at c.args.lock c.args.pass.now.seat.me.0.view.spin).found) (Store z) (λ n. linked c.args.lock c.args.pass.now.seat.me.0.view) (λ n. Unit {0})) c.requires.node (links g.H.SpinHost.LOCKS c.args.lock c.requires.there g.H.SpinHost.spin_eight c.args.pass.now.seat.me.0.view c.args.pass.now.seat.id c.requires.point))
