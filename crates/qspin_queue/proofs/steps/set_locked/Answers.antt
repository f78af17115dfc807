use Rattle.std.proofs.Common.{ap}
use Rattle.lock_core.specs.SpinFrames.{holds_at}
use Rattle.qspin_word.proofs.SpinSteps.{ends-none}
use Rattle.qspin_queue.specs.SpinQueueHands.{took_head}
use Rattle.qspin_queue.proofs.QueueSteps.{takes-head}
use Rattle.qspin_queue.proofs.steps.set_locked.Goals as goal

pub word_step-requires-clause-may : goal.word_step-requires-clause-may
word_step-requires-clause-may g c = λ n ends. ends-none c.args.lock c.args.pass.now.seat.me.0.view.spin (took_head c.args.lock c.args.pass.now.seat.me.0.view) (g.H.SpinHost.may_free c.args.pass.now.seat.me.0.view) (ap holds_at c.requires.point) ends

pub word_step-requires-clause-allows : goal.word_step-requires-clause-allows
word_step-requires-clause-allows g c = takes-head g.H.SpinHost.LOCKS c.args.lock c.requires.there g.H.SpinHost.spin_eight c.args.pass.now.seat.me.0.view c.args.pass.now.seat.id c.requires.point
