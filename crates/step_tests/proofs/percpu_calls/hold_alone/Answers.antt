use Rattle.std.proofs.Common.{ap, sym, subst, ◌∙◌}
use Rattle.lock_core.specs.Locking.{IsStored}
use Rattle.step_tests.proofs.percpu_calls.hold_alone.Goals as goal

pub returns-clause-at : goal.returns-clause-at
returns-clause-at g c = let at = c.requires.at in let is = c.down_write.ensures.took.2.3 in record {
  own = c.down_write.ensures.on.own;
  mine = c.down_write.ensures.task ∙ at.mine;
  holds = c.down_write.ensures.holds;
  unspun = ap (λ v. v.spin.frame.point) is ∙ at.unspun;
  quiet = ap (λ v. v.hand.writes) is ∙ at.quiet;
  owes = (ap (λ v. v.hand.sent) is ∙ at.owes.0, ap (λ v. v.hand.consumed) is ∙ at.owes.1);
}

pub returns-clause-knows : goal.returns-clause-knows
returns-clause-knows g c = let o = g.O.Object.object in let k = c.args.lock.now.site.table.shared.key in let took = c.down_write.ensures.took.2 in subst (λ v. IsStored o k v.hand) (sym took.3) took.2.stored
