use Rattle.std.proofs.Common.{arith}
use Rattle.mm_serve.specs.Workers.{KnowsAllDone}
use Rattle.mm_serve.specs.MachineCopying.{IsToCopy}
use Rattle.mm_serve.proofs.Copies.{still-copied}
use Rattle.mm_serve.proofs.Each.{each-map}
use Rattle.mm_serve.proofs.running.run.Goals as goal

pub snapshot_all-requires-clause-gathered : goal.snapshot_all-requires-clause-gathered
snapshot_all-requires-clause-gathered g c =
    each-map (λ k s p. g.S.SharedObject.idle s p × KnowsAllDone g.S.SharedObject.hand g.S.SharedObject.is_space g.S.SharedObject.calls_on s p) (IsToCopy g.S.SharedObject.idle g.S.SharedObject.hand g.S.SharedObject.is_space g.S.SharedObject.calls_on c.args.results.now) c.args.sites.now c.serve_and_gather.new.gathered.items c.serve_and_gather.ensures.done
    (λ k s p lt at r. (r.0, r.1, (λ w. c.requires.blank.1 k s w at)))

pub snapshot_all-requires-clause-some : goal.snapshot_all-requires-clause-some
snapshot_all-requires-clause-some g c = λ k s at. let many = c.requires.tasks k s at in let some = c.requires.some in omega (arith, many, some)

pub returns-clause-copied : goal.returns-clause-copied
returns-clause-copied g c =
    still-copied g.S.SharedObject.idle g.S.SharedObject.hand g.S.SharedObject.past g.S.SharedObject.is_space g.S.SharedObject.calls_on c.args.sites.now c.snapshot_all.new.gathered.items c.recall_all.new.gathered.items c.snapshot_all.new.results c.snapshot_all.ensures.copied c.recall_all.ensures.rest c.recall_all.ensures.hands c.recall_all.ensures.goes_on

pub returns-clause-tasks : goal.returns-clause-tasks
returns-clause-tasks g c = let was = c.serve_and_gather.ensures.tasks in (
  c.recall_all.ensures.rest.0,
  (λ k s p lt t l. let one = was.1 k s p lt t l in record { pass = one.pass; looked = one.looked; table = λ ms e. c.recall_all.ensures.goes_on k p ms (c.snapshot_all.ensures.goes_on k p ms (one.table ms e)); queue = λ ms e. c.recall_all.ensures.queues k p ms (c.snapshot_all.ensures.queues k p ms (one.queue ms e)) }),
)
