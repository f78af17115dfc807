use Rattle.std.proofs.Common.{sym, ap, ◌∙◌}
use Rattle.lock_core.specs.declared.view.Hand.{Hand}
use Rattle.lock_core.specs.declared.view.SpinHand.{SpinHand}
use Rattle.qspin_queue.proofs.Interrupting.{told-forgot, out-forgot}
use Rattle.lock_bench.proofs.nested.start.Goals as goal

pub returns-clause-told : goal.returns-clause-told
returns-clause-told g c = told-forgot c.args.pass.now c.begin.new.pass c.begin.ensures.nest c.begin.ensures.beside.0 c.requires.idle.told

pub returns-clause-out : goal.returns-clause-out
returns-clause-out g c = out-forgot c.args.pass.now c.begin.new.pass c.begin.ensures.beside.0 c.requires.idle.out

pub returns-clause-rests : goal.returns-clause-rests
returns-clause-rests g c = let own = c.requires.idle.own in let none = own.nameless (sym own.task ∙ c.requires.idle.numberless) in
    (ap {A = Hand} (λ h. h.held) c.begin.ensures.became.4 ∙ none.0, out-forgot c.args.pass.now c.begin.new.pass c.begin.ensures.beside.0 c.requires.idle.out 0)

pub returns-clause-recorded : goal.returns-clause-recorded
returns-clause-recorded g c = let own = c.requires.idle.own in let none = own.nameless (sym own.task ∙ c.requires.idle.numberless) in let now = c.begin.ensures.became.4 in
    (ap {A = Hand} (λ h. h.sent) now ∙ none.1, ap {A = Hand} (λ h. h.consumed) now ∙ none.2)

pub returns-clause-taken : goal.returns-clause-taken
returns-clause-taken g c = ap (λ (s : SpinHand). s.entries) c.begin.ensures.beside.0
