use Rattle.std.proofs.Common.{◌∙◌, ap}
use Rattle.step_tests.proofs.percpu_calls.let_go_shared.Goals as goal

pub returns-clause-at : goal.returns-clause-at
returns-clause-at g c = let at = c.requires.at in let is = c.up_read.ensures.kept in record {
  own = c.up_read.ensures.on.own;
  mine = c.up_read.ensures.task ∙ at.mine;
  holds = c.up_read.ensures.out;
  unspun = ap (λ v. v.spin.frame.point) is ∙ at.unspun;
  quiet = ap (λ v. v.hand.writes) is ∙ at.quiet;
  owes = (ap (λ v. v.hand.sent) is ∙ at.owes.0, ap (λ v. v.hand.consumed) is ∙ at.owes.1);
}
