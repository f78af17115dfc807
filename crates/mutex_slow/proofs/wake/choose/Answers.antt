use Rattle.std.proofs.Common.{length, arith, ap}
use Rattle.lock_core.specs.Laws.SiteRun.{step-by}
use Rattle.mutex_slow.specs.Mutexes.{V}
use Rattle.word_bits.specs.OwnerWord.{task_code}
use Rattle.mutex_slow.proofs.Duties.{chooses, looks-outside}
use Rattle.mutex_slow.proofs.wake.choose.Goals as goal

pub returns-clause-chosen : goal.returns-clause-chosen
returns-clause-chosen g c = chooses c.args.pass.now.seat.me.0.view c.first_task.new.pass.seat.me.0.view c.first_task.result c.first_task.ensures.kept c.requires.locked c.requires.outside.still c.requires.owes (length c.args.site.now.table.shared.key) c.args.site.now.small.tasks c.first_task.ensures.small

pub returns-clause-outside : goal.returns-clause-outside
returns-clause-outside g c = looks-outside c.args.pass.now.seat.me.0.view c.first_task.new.pass.seat.me.0.view (task_code c.first_task.result) c.first_task.ensures.kept c.requires.locked c.requires.outside

pub returns-clause-found : goal.returns-clause-found
returns-clause-found g c = let v = c.args.pass.now.seat.me.0.view in let u = c.first_task.new.pass.seat.me.0.view in let q = c.first_task.new.pass.seat.me.0.past in let steps = ap (λ (x : V). x.steps) c.first_task.ensures.kept in
    (u.steps, omega (arith, steps), omega arith, record { past = q; by = step-by u v.hand.task q (ap (λ (x : V). x.hand.task) c.first_task.ensures.kept) c.first_task.ensures.on.last; found = c.first_task.ensures.found; after = c.first_task.ensures.on.goes_on; goes_on = λ p t. t })
