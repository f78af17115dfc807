use Rattle.std.proofs.Common.{arith, ap, length, ◌+◌, ◌*◌}
use Rattle.lock_core.proofs.Sitting.{sits-on}
use Rattle.wake_duty.proofs.Waking.{has-wake, sets}
use Rattle.wake_duty.proofs.steps.set.Goals as goal

pub step-requires : goal.step-requires
step-requires g c = let k = c.args.site.now.table.shared.key in let s = g.H.SleepHost.wake_inside in let e = c.WAKE.ensures in let small = c.args.site.now.small.tasks in let few = g.H.SleepHost.chosen_few c.args.pass.now.seat.me.0.view.ext c.args.target c.requires.chosen in record {
  own = c.requires.own.own;
  inside = omega (arith, s, e, few);
  there = has-wake (length k) g.H.SleepHost.WAKE c.args.target _ small g.H.SleepHost.wake_room c.requires.task (ap (λ n. n + 8 * c.args.target) e);
  lets = sets (g.H.SiteRule.holds k) (g.H.SiteRule.moves k) (g.H.ListHost.queue k) g.H.SleepHost.WAKE (g.met.H.ListHost.queued k) g.H.SleepHost.has_chosen g.H.SleepHost.after_set (g.met.H.SleepHost.sets_word k) _ _ _ c.args.target _ (ap (λ n. n + 8 * c.args.target) e) c.requires.chosen;
}

pub returns-clause-on : goal.returns-clause-on
returns-clause-on g c = record {
  own = let turn = c.step.ensures.told c.args.target (ap (λ n. n + 8 * c.args.target) c.WAKE.ensures) in
      sits-on c.step.ensures.own.0 turn.1 (ap (λ v. v.hand) turn.0) (let n = ap (λ v. v.steps) turn.0 in omega (arith, n)) c.step.ensures.face c.requires.own;
  goes_on = c.step.ensures.goes_on;
  last = c.step.ensures.last;
}

pub returns-clause-kept : goal.returns-clause-kept
returns-clause-kept g c = (c.step.ensures.told c.args.target (ap (λ n. n + 8 * c.args.target) c.WAKE.ensures)).0
