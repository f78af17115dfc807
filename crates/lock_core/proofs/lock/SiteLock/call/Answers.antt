use Rattle.std.proofs.Common.{◌∙◌, ap, subst, sym, rules}
use Rattle.lock_core.specs.SiteHandles.{view_of, IsLatest}
use Rattle.lock_core.proofs.Facing.{goes-on, has}
use Rattle.lock_core.proofs.lock.SiteLock.call.Goals as goal

pub returns-clause-on : goal.returns-clause-on
returns-clause-on g c = let o = g.met.Self.SiteLock in let p = c.args.pass.now in let new = c.call.new.pass in let old = g.Self.SiteLock.seat_of p in
    let frame = o.frame c.args.self.now p new c.requires.own (search rules) (search rules) (search rules) in
    record { own = frame.0; goes_on = goes-on old new _ _ (o.faces p) frame.1 (search rules) }

pub returns-clause-beside : goal.returns-clause-beside
returns-clause-beside g c = let o = g.met.Self.SiteLock in let p = c.args.pass.now in let new = c.call.new.pass in
    ap (λ w. g.Self.SiteLock.with_seat p w) (sym (o.puts p new))

pub returns-clause-last : goal.returns-clause-last
returns-clause-last g c = let o = g.met.Self.SiteLock in let p = c.args.pass.now in let new = c.call.new.pass in
    subst (λ w. IsLatest w) (sym (o.puts p new)) (search rules)

pub returns-clause-seat : goal.returns-clause-seat
returns-clause-seat g c = let o = g.met.Self.SiteLock in let p = c.args.pass.now in let new = c.call.new.pass in
    ap view_of (o.puts p new) ∙ (search rules)

pub returns-clause-kept : goal.returns-clause-kept
returns-clause-kept g c = let o = g.met.Self.SiteLock in let p = c.args.pass.now in let new = c.call.new.pass in let old = g.Self.SiteLock.seat_of p in
    has old new _ _ (λ h. h) 2 (o.faces p) (o.frame c.args.self.now p new c.requires.own (search rules) (search rules) (search rules)).1 (search rules)
