use Rattle.std.proofs.Common.{sym, ap, subst, ◌∙◌}
use Rattle.guarded.specs.Splicing.{HaveAreas, areas_in}
use Rattle.guarded.specs.Types.{Hand}
use Rattle.guarded.proofs.Passing.{spun-goes-on}
use Rattle.guarded.proofs.Spliced.{number-of}
use Rattle.guarded.proofs.Written.{looked, same-known}
use Rattle.guarded.proofs.splicing.LockedAreasAreaStore.len.Goals as goal

pub returns-clause-has : goal.returns-clause-has
returns-clause-has g c =
    let v = g.L.SiteLock.view c.args.hand.now in
    let u = g.L.SiteLock.view c.word.new.pass in
    (c.word.ensures.on.own, ap {A = Hand} (λ h. h.held) c.word.ensures.kept.0 ∙ c.requires.has.1, subst HaveAreas (sym (same-known v u c.word.ensures.kept)) c.requires.has.2)

pub returns-clause-kept : goal.returns-clause-kept
returns-clause-kept g c = (looked (g.L.SiteLock.view c.args.hand.now) (g.L.SiteLock.view c.word.new.pass) c.word.ensures.on.goes_on c.word.ensures.kept, spun-goes-on g.L.SleepLock.spun g.L.SiteLock.with_seat g.met.L.SleepLock.leaves c.args.hand.now c.word.new.pass _ c.word.ensures.beside)

pub returns-clause-same : goal.returns-clause-same
returns-clause-same g c = ap areas_in (same-known (g.L.SiteLock.view c.args.hand.now) (g.L.SiteLock.view c.word.new.pass) c.word.ensures.kept)

pub returns-clause-count : goal.returns-clause-count
returns-clause-count g c = c.word.ensures.value ∙ number-of (g.L.SiteLock.view c.args.hand.now).hand.known c.requires.has.2
