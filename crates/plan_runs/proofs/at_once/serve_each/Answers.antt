use Rattle.std.proofs.Common.{subst, rules}
use Rattle.plan_runs.proofs.at_once.serve_each.Goals as goal

pub returns : goal.returns
returns g c = (
  search rules,
  λ t m l. let one = (c.for_each_mut.ensures t m l).1 in
      subst (λ (z : g.row.S-Pass.Denot × g.row.C-C.Denot). g.S.Runs.has_done c.args.object.now t z.0) one.left one.call,
)
