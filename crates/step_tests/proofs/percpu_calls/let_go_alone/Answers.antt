use Rattle.std.proofs.Common.{◌≡◌, ◌∙◌, ap, sym}
use Rattle.lock_core.specs.declared.view.Hand.{Hand}
use Rattle.lock_core.specs.Holding.{released}
use Rattle.percpu_rwsem.specs.PercpuPlays.{unheld, unheld_by}
use Rattle.step_tests.proofs.percpu_calls.let_go_alone.Goals as goal

pub returns-clause-at : goal.returns-clause-at
returns-clause-at g c = let at = c.requires.at in let is = c.unblock.ensures.kept in let h = c.args.pass.now.pass.seat.me.0.view.hand in let left : unheld h ≡ released h 0 = ap (unheld_by h) (sym at.own.seat.held ∙ at.holds) in record {
  own = c.unblock.ensures.on.own;
  mine = c.unblock.ensures.task ∙ at.mine;
  holds = c.unblock.ensures.out;
  unspun = ap (λ v. v.spin.frame.point) is ∙ at.unspun;
  quiet = ap (λ v. v.hand.writes) is ∙ (ap (λ (x : Hand). x.writes) left ∙ at.quiet);
  owes = (ap (λ v. v.hand.sent) is ∙ (ap (λ (x : Hand). x.sent) left ∙ at.owes.0), ap (λ v. v.hand.consumed) is ∙ (ap (λ (x : Hand). x.consumed) left ∙ at.owes.1));
}
