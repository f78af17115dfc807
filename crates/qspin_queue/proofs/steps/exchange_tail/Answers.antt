use Rattle.std.proofs.Common.{ap, ℕ, ◌<◌, ◌+◌, ◌*◌, ◌/◌, ◌%◌, subst, length}
use Rattle.lock_core.specs.SpinFrames.{holds_at}
use Rattle.lock_core.specs.Spins.{word_at}
use Rattle.qspin_word.specs.Allows.{SpinAllows}
use Rattle.qspin_queue.specs.SpinQueueHandles.{codes}
use Rattle.qspin_word.proofs.SpinSteps.{ends-none}
use Rattle.qspin_queue.specs.SpinQueueHands.{queued}
use Rattle.qspin_queue.specs.Types.{Exchange}
use Rattle.qspin_queue.proofs.QueueSteps.{queues}
use Rattle.qspin_queue.proofs.steps.exchange_tail.Goals as goal

pub word_step-requires-clause-may : goal.word_step-requires-clause-may
word_step-requires-clause-may g c = λ n ends. ends-none c.args.lock c.args.pass.now.seat.me.0.view.spin (queued c.args.lock c.args.from n c.args.pass.now.seat.me.0.view) (g.H.SpinHost.may_free c.args.pass.now.seat.me.0.view) (ap holds_at c.requires.point) ends

pub word_step-requires-clause-allows : goal.word_step-requires-clause-allows
word_step-requires-clause-allows g c = subst (λ (z : ℕ). SpinAllows g.H.SpinHost.LOCKS (length c.args.site.now.table.shared.key) c.args.lock c.args.pass.now.seat.id c.args.pass.now.seat.me.0.view (word_at c.args.lock) (Exchange c.args.from (c.args.from % 512 + 512 * z)) (λ n. queued c.args.lock c.args.from n c.args.pass.now.seat.me.0.view) (λ n. n / 512 < codes c.args.site.now)) c.requires.node (queues g.H.SpinHost.LOCKS c.args.lock c.requires.there g.H.SpinHost.spin_eight c.args.pass.now.seat.me.0.view c.args.pass.now.seat.id c.args.from c.requires.point)
