use Rattle.std.proofs.Common.{◌∙◌, arith, ap, sym, length}
use Rattle.lock_core.specs.Pasts.{unseen}
use Rattle.lock_core.proofs.Sitting.{noted-on, sits-took, some-number}
use Rattle.rwsem_slow.specs.RwSems.{biased}
use Rattle.rwsem_slow.proofs.Unqueued.{saw-unqueued, sits-unqueued, unqueued-takes}
use Rattle.rwsem_slow.specs.Laws.RwSem.{count-there}
use Rattle.rwsem_slow.specs.Types.{Face, Alone, Clear}
use Rattle.rwsem_slow.proofs.writer.spin.take.Goals as goal

pub step-found-requires-clause-there : goal.step-found-requires-clause-there
step-found-requires-clause-there g c = count-there (length c.args.site.now.table.shared.key)

pub step-found-requires-clause-lets : goal.step-found-requires-clause-lets
step-found-requires-clause-lets g c = let t = some-number c.args.pass.now.face.task c.requires.numbered in
    unqueued-takes g.O.Object.object g.O.Object.WORDS c.args.site.now.table.shared.key _ _ t.0 c.args.word _ (sym c.requires.own.task ∙ t.1) (sym c.requires.own.held ∙ c.requires.out) c.requires.apart c.requires.clear c.requires.free c.requires.lawful

pub returns-then-found-word-clause-on : goal.returns-then-found-word-clause-on
returns-then-found-word-clause-on g c = let told = c.step-found.ensures.told.0 c.if-found-word.true in
    noted-on c.step-found.new.pass (sits-took {me = c.args.pass.now.seat.me} Alone told.0 told.1 _ (ap (λ s. s.me.0.view) c.set_held.ensures.seat ∙ told.3.0) ((told.2 c.args.site.now.table.shared.key c.requires.own.plan).within) c.requires.out c.requires.numbered (ap (λ s. s.table_id) c.set_held.ensures.seat ∙ c.step-found.ensures.own.0) (ap (λ s. s.me.1) c.set_held.ensures.seat ∙ told.3.1) (c.set_held.ensures.face ∙ ap (λ (f : Face). record f { held = Alone }) c.step-found.ensures.face) c.requires.own) c.step-found.ensures.goes_on c.step-found.ensures.last c.set_held.ensures.seat

pub returns-else-found-word-clause-on : goal.returns-else-found-word-clause-on
returns-else-found-word-clause-on g c = record {
  own = sits-unqueued _ (c.step-found.ensures.told.1 c.if-found-word.false) c.step-found.ensures.own.0 c.step-found.ensures.face c.requires.own;
  goes_on = c.step-found.ensures.goes_on;
  last = c.step-found.ensures.last;
}

pub returns-else-found-word-clause-saw : goal.returns-else-found-word-clause-saw
returns-else-found-word-clause-saw g c = λ not. saw-unqueued (unseen c.args.pass.now.seat.me) (unseen c.step-found.new.pass.seat.me) c.step-found.result (c.step-found.ensures.told.1 not)
