use Rattle.std.proofs.Common.{ap, arith, rules}
use Rattle.lock_core.specs.Pasts.{unseen}
use Rattle.lock_core.proofs.Having.{has-spin}
use Rattle.osq_nodes.specs.OsqHandles.{tasks_of}
use Rattle.osq_nodes.proofs.Sitting.{stays-on}
use Rattle.osq_nodes.proofs.Owning.{lets-numbered}
use Rattle.osq_nodes.proofs.words.step.Goals as goal

pub step-requires-clause-inside : goal.step-requires-clause-inside
step-requires-clause-inside g c = let few = c.args.osq.now.site.small.tasks in let l = c.requires.inside in omega (arith, few, l)

pub step-requires-clause-there : goal.step-requires-clause-there
step-requires-clause-there g c = has-spin (tasks_of c.args.osq.now) c.args.word c.args.osq.now.site.small.tasks c.requires.inside

pub step-requires-clause-lets : goal.step-requires-clause-lets
step-requires-clause-lets g c = let pass = c.args.pass.now.pass in
    lets-numbered c.args.osq.now.site.table.shared.key c.args.osq.now.site.table.shared.table_id.slots pass.seat.id c.args.word pass.face.task (unseen pass.seat.me) c.args.op (g.L.Leads.to pass.seat.me.0.view.ext.place) g.L.Leads.tells
    c.requires.numbered c.requires.own.sits.task (let few = c.args.osq.now.site.small.tasks in let l = c.requires.inside in omega (arith, few, l)) c.requires.keeps

pub returns-clause-on : goal.returns-clause-on
returns-clause-on g c = record {
  own = let told = c.step.ensures.told in let pass = c.args.pass.now.pass in let new = c.step.new.pass in
      stays-on c.step.ensures.own.0 told.0.1 (ap (λ v. v.hand) told.0.0) (ap (λ v. v.spin) told.0.0) (let e = ap (λ v. v.steps) told.0.0 in omega (arith, e)) c.step.ensures.face c.requires.own;
  number = search rules;
  goes_on = c.step.ensures.goes_on;
  last = c.step.ensures.last;
}
