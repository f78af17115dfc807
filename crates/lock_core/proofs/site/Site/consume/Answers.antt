use Rattle.std.proofs.Common.{◌≡◌, ◌+◌, refl, ap, ◌∙◌, arith}
use Rattle.lock_core.specs.Types.{View}
use Rattle.lock_core.specs.Views.{handed, consuming}
use Rattle.lock_core.proofs.Within.{found-since-within}
use Rattle.lock_core.proofs.site.Site.consume.Goals as goal

pub returns-clause-consumed : goal.returns-clause-consumed
returns-clause-consumed g c = let v = c.args.pass.now.seat.me.0.view in record {
  pending = c.in_ok-why.ensures.heard.pending;
  now = c.consume_pending.ensures.kept ∙ (ap (λ (u : View _). handed u (consuming u.hand)) c.in_ok-why.ensures.heard.now ∙ (λ i. record v { hand = consuming v.hand; steps = three i }));
}
  where
    three : c.args.pass.now.seat.me.0.view.steps + 2 + 1 ≡ c.args.pass.now.seat.me.0.view.steps + 3
    three = omega arith

pub returns-clause-saw : goal.returns-clause-saw
returns-clause-saw g c = λ t is. let s = c.in_ok-why.ensures.saw t is in let v = c.args.pass.now.seat.me.0 in let w = c.pending.new.pass.seat.me.0 in let u = c.consume_pending.new.pass.seat.me.0 in
    let more = ap (λ (x : View _). x.steps) c.consume_pending.ensures.kept in let after = c.consume_pending.ensures.on.goes_on in record {
      sent = found-since-within v.view.hand.task v.view.hand.task v.view.steps v.view.steps u.view.steps w.view.steps _ _ v.past v.past w.past u.past refl (omega arith) (λ p q. q) (omega (arith, more)) after s.sent;
      taken = found-since-within v.view.hand.task v.view.hand.task v.view.steps v.view.steps u.view.steps w.view.steps _ _ v.past v.past w.past u.past refl (omega arith) (λ p q. q) (omega (arith, more)) after s.taken;
    }
