use Rattle.std.proofs.Common.{ap}
use Rattle.lock_core.specs.SpinFrames.{holds_at}
use Rattle.lock_core.specs.Views.{spin_part}
use Rattle.qspin_word.specs.SpinWordHands.{tried}
use Rattle.qspin_word.proofs.SpinSteps.{ends-none, tries, rests-alone}
use Rattle.qspin_word.proofs.steps.exchange_free.Goals as goal

pub word_step-requires-clause-may : goal.word_step-requires-clause-may
word_step-requires-clause-may g c = λ n ends. ends-none c.args.lock c.args.pass.now.seat.me.0.view.spin (tried c.args.lock n c.args.pass.now.seat.me.0.view) (g.H.SpinHost.may_free c.args.pass.now.seat.me.0.view) (ap holds_at c.requires.out) ends

pub word_step-requires-clause-allows : goal.word_step-requires-clause-allows
word_step-requires-clause-allows g c = λ w q ps k named at small. let n = g.H.SpinHost.LOCKS in let v = c.args.pass.now.seat.me.0.view in let t = tries n c.args.lock c.requires.there g.H.SpinHost.spin_eight v c.args.pass.now.seat.id c.requires.out w q ps k named at small in
    (t.0, t.1, λ one. rests-alone n c.args.lock v.spin c.requires.there one c.requires.out (k.few c.args.pass.now.seat.id (spin_part v) at))
