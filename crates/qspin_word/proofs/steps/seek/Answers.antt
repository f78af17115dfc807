use Rattle.std.proofs.Common.{ap, ⊎_elim}
use Rattle.lock_core.specs.SpinFrames.{holds_at}
use Rattle.qspin_word.specs.SpinWordHands.{sought}
use Rattle.qspin_word.proofs.SpinSteps.{ends-none, seeks}
use Rattle.qspin_word.proofs.steps.seek.Goals as goal

pub word_step-requires-clause-may : goal.word_step-requires-clause-may
word_step-requires-clause-may g c = λ n ends. ends-none c.args.lock c.args.pass.now.seat.me.0.view.spin (sought c.args.lock c.args.pass.now.seat.me.0.view) (g.H.SpinHost.may_free c.args.pass.now.seat.me.0.view) (⊎_elim (λ e. ap holds_at e) (λ e. ap holds_at e) c.requires.point) ends

pub word_step-requires-clause-allows : goal.word_step-requires-clause-allows
word_step-requires-clause-allows g c = seeks g.H.SpinHost.LOCKS c.args.lock c.requires.there g.H.SpinHost.spin_eight c.args.pass.now.seat.me.0.view c.args.pass.now.seat.id c.requires.point
