use Rattle.std.proofs.Common.{arith, ap, length, sym, ◌∙◌, ◌+◌, ◌*◌}
use Rattle.lock_core.proofs.Sitting.{sits-on, its-number}
use Rattle.wake_duty.proofs.Waking.{drowses, has-wake}
use Rattle.wake_duty.proofs.steps.drowse.Goals as goal

pub step-requires : goal.step-requires
step-requires g c = let k = c.args.site.now.table.shared.key in let s = g.H.SleepHost.wake_inside in let e = c.WAKE.ensures in let is = sym c.task.ensures ∙ c.in-Some.is in
    let few = its-number c.args.site.now.small c.requires.own c.in-Some.me is in record {
      own = c.requires.own.own;
      inside = omega (arith, s, e, few);
      there = has-wake (length k) g.H.SleepHost.WAKE c.in-Some.me _ c.args.site.now.small.tasks g.H.SleepHost.wake_room (c.requires.own.planned c.in-Some.me is).0 (ap (λ n. n + 8 * c.in-Some.me) e);
      lets = drowses (g.H.SiteRule.holds k) (g.H.SiteRule.moves k) (g.H.ListHost.queue k) g.H.SleepHost.WAKE (g.met.H.ListHost.queued k) g.H.SleepHost.wait_state g.H.SleepHost.after_swap (g.met.H.SleepHost.wake_bits k) (g.met.H.SleepHost.swaps_word k) _ _ _ c.in-Some.me _ (ap (λ n. n + 8 * c.in-Some.me) e) (sym c.requires.own.task ∙ is) few c.requires.unspun (sym c.requires.own.held ∙ c.requires.out) c.requires.tried;
    }

pub returns-clause-on : goal.returns-clause-on
returns-clause-on g c = record {
  own = let turn = c.step.ensures.told.1 in
      sits-on c.step.ensures.own.0 turn.1 (ap (λ v. v.hand) turn.0) (let n = ap (λ v. v.steps) turn.0 in omega (arith, n)) c.step.ensures.face c.requires.own;
  goes_on = c.step.ensures.goes_on;
  last = c.step.ensures.last;
}
