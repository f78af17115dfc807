use Rattle.std.proofs.Common.{subst, sym, rules}
use Rattle.std.specs.Prelude.{IfNone}
use Rattle.lock_core.specs.SiteHandles.{IsLatest, SawNonePending}
use Rattle.lock_core.proofs.Facing.{all-but-hand, goes-on, heard}
use Rattle.lock_core.proofs.lock.SiteLock.consume.Goals as goal

pub returns-clause-on : goal.returns-clause-on
returns-clause-on g c = let o = g.met.Self.SiteLock in let p = c.args.pass.now in let new = c.consume.new.pass in let old = g.Self.SiteLock.seat_of p in let said = heard old new c.consume.result (search rules) (search rules) in
    let frame = o.frame c.args.self.now p new c.requires.own (search rules) said.0 said.1 in
    record { own = frame.0; goes_on = goes-on old new _ _ (o.faces p) frame.1 (search rules) }

pub returns-clause-last : goal.returns-clause-last
returns-clause-last g c = let o = g.met.Self.SiteLock in let p = c.args.pass.now in let new = c.consume.new.pass in
    subst (λ w. IsLatest w) (sym (o.puts p new)) (search rules)

pub returns-clause-none : goal.returns-clause-none
returns-clause-none g c = let o = g.met.Self.SiteLock in let p = c.args.pass.now in let new = c.consume.new.pass in let old = g.Self.SiteLock.seat_of p in
    subst (λ w. IfNone c.consume.result (SawNonePending old w)) (sym (o.puts p new)) (search rules)

pub returns-clause-kept : goal.returns-clause-kept
returns-clause-kept g c = let o = g.met.Self.SiteLock in let p = c.args.pass.now in let new = c.consume.new.pass in let old = g.Self.SiteLock.seat_of p in let said = heard old new c.consume.result (search rules) (search rules) in
    all-but-hand old new _ _ (o.faces p) (o.frame c.args.self.now p new c.requires.own (search rules) said.0 said.1).1 said.0
