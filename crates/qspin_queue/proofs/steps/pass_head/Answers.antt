use Rattle.std.proofs.Common.{ap, sym, ◌∙◌, ℕ, subst, length}
use Rattle.lock_core.specs.Spins.{locked_at}
use Rattle.qspin_word.specs.Allows.{SpinAllows}
use Rattle.qspin_word.proofs.SpinSteps.{still-holds}
use Rattle.qspin_queue.specs.SpinQueueHands.{passed}
use Rattle.qspin_queue.specs.Types.{Store}
use Rattle.qspin_queue.proofs.QueueSteps.{tells-next, passed-holds}
use Rattle.qspin_queue.proofs.steps.pass_head.Goals as goal

pub spin_step-requires-clause-may : goal.spin_step-requires-clause-may
spin_step-requires-clause-may g c = λ n ends. still-holds c.args.lock c.args.pass.now.seat.me.0.view.spin (passed c.args.lock c.args.pass.now.seat.me.0.view) (g.H.SpinHost.may_free c.args.pass.now.seat.me.0.view) (passed-holds c.args.lock c.args.pass.now.seat.me.0.view c.requires.point) ends

pub spin_step-requires-clause-allows : goal.spin_step-requires-clause-allows
spin_step-requires-clause-allows g c = subst (λ (z : ℕ). SpinAllows g.H.SpinHost.LOCKS (length c.args.site.now.table.shared.key) c.args.lock c.args.pass.now.seat.id c.args.pass.now.seat.me.0.view z (Store 1) (λ n. passed c.args.lock c.args.pass.now.seat.me.0.view) (λ n. Unit {0})) (sym (c.locked_place.ensures ∙ ap locked_at (sym c.requires.next))) (tells-next g.H.SpinHost.LOCKS c.args.lock c.requires.there g.H.SpinHost.spin_eight c.args.pass.now.seat.me.0.view c.args.pass.now.seat.id (λ e. c.requires.some (sym c.requires.next ∙ e)) c.requires.point c.requires.top)
