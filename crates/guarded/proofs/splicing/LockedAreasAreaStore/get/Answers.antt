use Rattle.std.proofs.Common.{sym, ap, subst, ◌∙◌}
use Rattle.guarded.specs.Splicing.{HaveAreas, areas_in}
use Rattle.guarded.specs.Types.{Hand}
use Rattle.guarded.proofs.Written.{looked, same-known}
use Rattle.guarded.proofs.splicing.LockedAreasAreaStore.get.Goals as goal

pub returns-clause-has : goal.returns-clause-has
returns-clause-has g c =
    let v = g.L.SiteLock.view c.args.hand.now in
    let u = g.L.SiteLock.view c.area_at.new.pass in
    (c.area_at.ensures.on.own, ap {A = Hand} (λ h. h.held) c.area_at.ensures.kept.0 ∙ c.requires.has.1, subst HaveAreas (sym (same-known v u c.area_at.ensures.kept)) c.requires.has.2)

pub returns-clause-kept : goal.returns-clause-kept
returns-clause-kept g c = (looked (g.L.SiteLock.view c.args.hand.now) (g.L.SiteLock.view c.area_at.new.pass) c.area_at.ensures.on.goes_on c.area_at.ensures.kept, c.area_at.ensures.queue)

pub returns-clause-same : goal.returns-clause-same
returns-clause-same g c = ap areas_in (same-known (g.L.SiteLock.view c.args.hand.now) (g.L.SiteLock.view c.area_at.new.pass) c.area_at.ensures.kept)

pub area_at-requires-clause-held : goal.area_at-requires-clause-held
area_at-requires-clause-held g c = λ e. let alone = c.requires.has.1 in absurd cc
