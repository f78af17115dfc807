use Rattle.std.proofs.Common.{ap, sym, ◌∙◌, ℕ, subst, length}
use Rattle.lock_core.specs.SpinFrames.{holds_at}
use Rattle.lock_core.specs.Spins.{locked_at}
use Rattle.qspin_word.specs.Allows.{SpinAllows}
use Rattle.qspin_word.proofs.SpinSteps.{ends-none}
use Rattle.qspin_queue.specs.SpinQueueHands.{heard}
use Rattle.qspin_queue.specs.Types.{Load}
use Rattle.qspin_queue.proofs.QueueSteps.{hears}
use Rattle.qspin_queue.proofs.steps.load_locked.Goals as goal

pub spin_step-requires-clause-may : goal.spin_step-requires-clause-may
spin_step-requires-clause-may g c = λ n ends. ends-none c.args.lock c.args.pass.now.seat.me.0.view.spin (heard c.args.lock n c.args.pass.now.seat.me.0.view) (g.H.SpinHost.may_free c.args.pass.now.seat.me.0.view) (ap holds_at c.requires.point) ends

pub spin_step-requires-clause-allows : goal.spin_step-requires-clause-allows
spin_step-requires-clause-allows g c = subst (λ (z : ℕ). SpinAllows g.H.SpinHost.LOCKS (length c.args.site.now.table.shared.key) c.args.lock c.args.pass.now.seat.id c.args.pass.now.seat.me.0.view z (Load) (λ n. heard c.args.lock n c.args.pass.now.seat.me.0.view) (λ n. Unit {0})) (sym (c.locked_place.ensures ∙ ap locked_at (sym c.requires.node))) (hears g.H.SpinHost.LOCKS c.args.lock c.requires.there g.H.SpinHost.spin_eight c.args.pass.now.seat.me.0.view c.args.pass.now.seat.id c.requires.point)
