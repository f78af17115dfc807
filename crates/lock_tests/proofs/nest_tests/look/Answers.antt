use Rattle.std.proofs.Common.{ap}
use Rattle.lock_core.specs.declared.view.View.{View}
use Rattle.qspin_word.proofs.Noting.{told-same}
use Rattle.qspin_queue.proofs.Interrupting.{out-same}
use Rattle.lock_tests.proofs.nest_tests.look.Goals as goal

pub returns-clause-told : goal.returns-clause-told
returns-clause-told c = told-same c.args.pass.now c.peek.new.pass c.peek.ensures.steps.nest (ap (λ (x : View _). x.spin) c.peek.ensures.steps.kept)

pub returns-clause-out : goal.returns-clause-out
returns-clause-out c = out-same c.args.pass.now c.peek.new.pass (ap (λ (x : View _). x.spin) c.peek.ensures.steps.kept)
