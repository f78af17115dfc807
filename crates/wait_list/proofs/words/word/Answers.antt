use Rattle.std.proofs.Common.{arith, ap, length, ◌+◌}
use Rattle.lock_core.proofs.Sitting.{sits-on}
use Rattle.wait_list.proofs.Listing.{gets, has-list}
use Rattle.wait_list.proofs.words.word.Goals as goal

pub step-requires : goal.step-requires
step-requires g c = let k = c.args.site.now.table.shared.key in let s = g.H.ListHost.list_inside in let e = c.LIST.ensures in let i = c.requires.inside in let few = c.args.site.now.small.tasks in record {
  own = c.requires.own.own;
  inside = omega (arith, s, e, i, few);
  there = has-list (length k) g.H.ListHost.LIST c.args.at _ few g.H.ListHost.list_room i (ap (λ n. n + c.args.at) e);
  lets = gets (g.H.SiteRule.holds k) (g.H.SiteRule.moves k) g.H.SpinHost.LOCKS g.H.SpinHost.FIRST g.H.ListHost.LIST g.H.ListHost.list g.H.ListHost.with_list g.H.ListHost.saw_first g.H.ListHost.may_change (g.H.ListHost.queue k) (g.met.H.SpinHost.spin_kept k) (g.met.H.ListHost.queued k) (g.H.ListHost.list_kept k) (g.H.ListHost.list_may k) (g.met.H.ListHost.lists k) (g.met.H.ListHost.firsts k) k (g.H.ListHost.listed_few k) _ _ _ c.args.at _ c.requires.own.plan (ap (λ n. n + c.args.at) c.LIST.ensures) (omega (arith, i, few)) c.requires.held (g.H.ListHost.may_stay c.args.pass.now.seat.me.0.view);
}

pub returns-clause-on : goal.returns-clause-on
returns-clause-on g c = record {
  own = let turn = c.step.ensures.told.4 in
      sits-on c.step.ensures.own.0 turn.1 (ap (λ v. v.hand) turn.0) (let n = ap (λ v. v.steps) turn.0 in omega (arith, n)) c.step.ensures.face c.requires.own;
  goes_on = c.step.ensures.goes_on;
  last = c.step.ensures.last;
}
