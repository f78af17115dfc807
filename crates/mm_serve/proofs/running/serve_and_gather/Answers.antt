use Rattle.std.proofs.Common.{rules, subst, List}
use Rattle.mm_serve.specs.declared.worker.Worker.{Worker}
use Rattle.mm_serve.specs.Workers.{EachOf, KnowsFrom, HaveDoneTheirTasks, TakesUp}
use Rattle.guarded.proofs.Gathered.{whole}
use Rattle.mm_serve.proofs.Gathers.{runs}
use Rattle.mm_serve.proofs.running.serve_and_gather.Goals as goal

pub returns : goal.returns
returns g c =
    let after = c.serve_all.new.workers in
    let all = runs g.S.SharedObject.idle g.S.SharedObject.hand g.S.SharedObject.looked_back g.S.SharedObject.past g.S.SharedObject.spun g.S.SharedObject.is_space g.S.SharedObject.calls_on c.args.sites.now c.args.workers.items after c.gather_all.new.gathered.items c.requires.tasks c.requires.numbered
    (subst (λ (ws : List (Worker g.row.C-C.Denot g.row.S-Pass.Denot)). HaveDoneTheirTasks g.S.SharedObject.idle g.S.SharedObject.hand g.S.SharedObject.looked_back g.S.SharedObject.past g.S.SharedObject.spun g.S.SharedObject.is_space g.S.SharedObject.calls_on c.args.sites.now ws after) c.as_mut_slice.ensures.value c.serve_all.ensures)
    (subst (λ (ws : List (Worker g.row.C-C.Denot g.row.S-Pass.Denot)). EachOf (λ k s p. g.S.SharedObject.idle s p × KnowsFrom (TakesUp g.S.SharedObject.hand g.S.SharedObject.past g.S.SharedObject.spun) 0 ws k p) c.args.sites.now c.gather_all.new.gathered.items)
    (whole c.args.workers.len after c.args.workers.items (search rules) (search rules)) c.gather_all.ensures) in
    record { done = all.0; tasks = all.1 }
