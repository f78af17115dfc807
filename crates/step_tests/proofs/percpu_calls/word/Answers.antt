use Rattle.std.proofs.Common.{◌∙◌, ap, subst, sym}
use Rattle.lock_core.specs.declared.view.Hand.{Hand}
use Rattle.lock_core.specs.Locking.{IsStored}
use Rattle.percpu_rwsem.specs.Laws.Phase.{no-shared}
use Rattle.step_tests.proofs.percpu_calls.word.Goals as goal

pub word-requires-clause-held : goal.word-requires-clause-held
word-requires-clause-held g c = let at = c.requires.at in λ out. no-shared (sym out ∙ (sym at.own.seat.held ∙ at.holds))

pub returns-clause-at : goal.returns-clause-at
returns-clause-at g c = let at = c.requires.at in let old = at.own.seat in let new = c.word.ensures.on.own.seat in let is = c.word.ensures.seat in record {
  own = c.word.ensures.on.own;
  mine = new.task ∙ (ap (λ v. v.hand.task) is ∙ (sym old.task ∙ at.mine));
  holds = new.held ∙ (ap (λ v. v.hand.held) is ∙ (sym old.held ∙ at.holds));
  unspun = ap (λ v. v.spin.frame.point) is ∙ at.unspun;
  quiet = ap (λ v. v.hand.writes) is ∙ at.quiet;
  owes = (ap (λ v. v.hand.sent) is ∙ at.owes.0, ap (λ v. v.hand.consumed) is ∙ at.owes.1);
}

pub returns-clause-knows : goal.returns-clause-knows
returns-clause-knows g c = subst (λ (h : Hand). IsStored g.O.Object.object c.args.lock.now.site.table.shared.key h) (sym (ap (λ v. v.hand) c.word.ensures.seat)) c.requires.knows
