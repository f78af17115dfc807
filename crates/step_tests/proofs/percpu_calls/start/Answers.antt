use Rattle.std.proofs.Common.{◌∙◌, ap, sym}
use Rattle.lock_core.specs.declared.view.Hand.{Hand}
use Rattle.lock_core.specs.declared.view.SpinHand.{SpinHand}
use Rattle.step_tests.proofs.PercpuCalls.{quiet-out}
use Rattle.step_tests.proofs.percpu_calls.start.Goals as goal

pub returns-clause-at : goal.returns-clause-at
returns-clause-at g c = let idle = c.requires.idle in let old = idle.own.seat in let own = c.begin.ensures.on.own in let became = c.begin.ensures.became.4 in let bare = old.nameless (sym old.task ∙ idle.numberless) in record {
  own = own;
  mine = own.seat.task ∙ ap (λ (x : Hand). x.task) became;
  holds = own.seat.held ∙ (ap (λ (x : Hand). x.held) became ∙ bare.0);
  unspun = ap (λ (s : SpinHand). s.frame.point) c.begin.ensures.beside.0 ∙ idle.unspun;
  quiet = ap (λ (x : Hand). x.writes) became ∙ quiet-out _ _ _ _ _ old (old.held ∙ bare.0);
  owes = (ap (λ (x : Hand). x.sent) became ∙ bare.1, ap (λ (x : Hand). x.consumed) became ∙ bare.2);
}
