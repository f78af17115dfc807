use Rattle.std.proofs.Common.{◌+◌, ℕ, subst}
use Rattle.wait_list.specs.Lists.{FindsBehind}
use Rattle.wait_list.proofs.Finding.{finds-next}
use Rattle.wait_list.proofs.list.next.Goals as goal

pub returns-clause-told : goal.returns-clause-told
returns-clause-told g c = let v = c.args.pass.now.seat.me.0.view in let u = c.behind.new.pass.seat.me.0.view in
    finds-next g.H.ListHost.list g.H.ListHost.with_list v u c.requires.still c.args.task c.behind.result (subst (λ (n : ℕ). FindsBehind g.H.ListHost.list g.H.ListHost.with_list v (n + 1) c.behind.result u) c.from.ensures c.behind.ensures.told)
