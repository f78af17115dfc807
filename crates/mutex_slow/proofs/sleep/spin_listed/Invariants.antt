use Rattle.std.proofs.Common.{◌≡◌, IsSome}
use Rattle.lock_core.specs.SiteHandles.{MovesOn}
use Rattle.mutex_slow.specs.MutexPlaces.{StandsSame, IsInLine}
use Rattle.mutex_slow.specs.Types.{No}
use Rattle.mutex_slow.proofs.sleep.spin_listed.Given as goal

abbrev pub invariant-loop : goal.invariant-loop
invariant-loop g l = let v = l.fn.pass.seat.me.0.view in let u = l.pass.seat.me.0.view in
    (goal.iterator-loop g).can_next l.iterator' × (goal.iterator-loop g).is_finite l.iterator'
    × MovesOn l.site l.fn.pass l.pass × IsSome l.pass.face.task × (l.pass.face.held ≡ No)
    × IsInLine u × StandsSame v u × (u.hand ≡ v.hand)
    × (g.C.Cpu.sleeps l.cpu ≡ g.C.Cpu.sleeps l.fn.cpu) × (g.C.Cpu.rescheds l.cpu ≡ g.C.Cpu.rescheds l.fn.cpu)
    × (u.ext.wake.wakes ≡ v.ext.wake.wakes) × (u.ext.wake.dozes ≡ v.ext.wake.dozes)
