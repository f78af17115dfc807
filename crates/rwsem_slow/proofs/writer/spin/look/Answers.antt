use Rattle.std.proofs.Common.{◌∙◌, sym, length}
use Rattle.lock_core.specs.Pasts.{unseen}
use Rattle.lock_core.proofs.Sitting.{has-number}
use Rattle.rwsem_slow.proofs.Unqueued.{saw-unqueued, sits-unqueued, unqueued-looks}
use Rattle.rwsem_slow.specs.Laws.RwSem.{count-there}
use Rattle.rwsem_slow.proofs.writer.spin.look.Goals as goal

pub step-requires-clause-there : goal.step-requires-clause-there
step-requires-clause-there g c = count-there (length c.args.site.now.table.shared.key)

pub step-requires-clause-lets : goal.step-requires-clause-lets
step-requires-clause-lets g c = unqueued-looks g.O.Object.object g.O.Object.WORDS c.args.site.now.table.shared.key _ _ _ (has-number _ c.args.pass.now.face.task c.requires.own.task c.requires.numbered) (sym c.requires.own.held ∙ c.requires.out) c.requires.apart

pub returns-clause-on : goal.returns-clause-on
returns-clause-on g c = record {
  own = sits-unqueued _ c.step.ensures.told c.step.ensures.own.0 c.step.ensures.face c.requires.own;
  goes_on = c.step.ensures.goes_on;
  last = c.step.ensures.last;
}

pub returns-clause-saw : goal.returns-clause-saw
returns-clause-saw g c = saw-unqueued (unseen c.args.pass.now.seat.me) (unseen c.step.new.pass.seat.me) c.step.result c.step.ensures.told
