use Rattle.std.proofs.Common.{ap}
use Rattle.lock_core.specs.SpinFrames.{holds_at}
use Rattle.qspin_word.proofs.SpinSteps.{ends-none}
use Rattle.qspin_queue.specs.SpinQueueHands.{took_last}
use Rattle.qspin_queue.proofs.QueueSteps.{takes-last}
use Rattle.qspin_queue.proofs.steps.exchange_last.Goals as goal

pub word_step-requires-clause-may : goal.word_step-requires-clause-may
word_step-requires-clause-may g c = λ n ends. ends-none c.args.lock c.args.pass.now.seat.me.0.view.spin (took_last c.args.lock c.args.from n c.args.pass.now.seat.me.0.view) (g.H.SpinHost.may_free c.args.pass.now.seat.me.0.view) (ap holds_at c.requires.point) ends

pub word_step-requires-clause-allows : goal.word_step-requires-clause-allows
word_step-requires-clause-allows g c = takes-last g.H.SpinHost.LOCKS c.args.lock c.requires.there g.H.SpinHost.spin_eight c.args.pass.now.seat.me.0.view c.args.pass.now.seat.id c.args.from c.requires.alone c.requires.point c.requires.top
