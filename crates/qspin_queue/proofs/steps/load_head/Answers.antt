use Rattle.std.proofs.Common.{ap}
use Rattle.lock_core.specs.SpinFrames.{holds_at}
use Rattle.qspin_word.proofs.SpinSteps.{ends-none}
use Rattle.qspin_queue.specs.SpinQueueHands.{readied}
use Rattle.qspin_queue.proofs.QueueSteps.{readies}
use Rattle.qspin_queue.proofs.steps.load_head.Goals as goal

pub word_step-requires-clause-may : goal.word_step-requires-clause-may
word_step-requires-clause-may g c = λ n ends. ends-none c.args.lock c.args.pass.now.seat.me.0.view.spin (readied c.args.lock n c.args.pass.now.seat.me.0.view) (g.H.SpinHost.may_free c.args.pass.now.seat.me.0.view) (ap holds_at c.requires.point) ends

pub word_step-requires-clause-allows : goal.word_step-requires-clause-allows
word_step-requires-clause-allows g c = readies g.H.SpinHost.LOCKS c.args.lock c.requires.there g.H.SpinHost.spin_eight c.args.pass.now.seat.me.0.view c.args.pass.now.seat.id c.requires.point
