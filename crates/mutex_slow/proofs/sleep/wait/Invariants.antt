use Rattle.std.proofs.Common.{◌≡◌, ◌≤◌, IsSome}
use Rattle.lock_core.specs.Views.{SpinHolds}
use Rattle.lock_core.specs.Signals.{OnlyHeard}
use Rattle.cpu_task.specs.CpuCounting.{SleepsInTurns, Dozes}
use Rattle.lock_core.specs.SiteHandles.{MovesOn}
use Rattle.mutex_slow.specs.MutexPlaces.{IsInLine, SetsNoWord, dozes_of}
use Rattle.mutex_slow.specs.Types.{No}
use Rattle.mutex_slow.proofs.sleep.wait.Given as goal

abbrev pub invariant-loop : goal.invariant-loop
invariant-loop g l = let v = l.fn.pass.seat.me.0.view in let u = l.pass.seat.me.0.view in
    (goal.iterator-loop g).can_next l.iterator' × (goal.iterator-loop g).is_finite l.iterator'
    × MovesOn l.site l.fn.pass l.pass × IsSome l.pass.face.task × (l.pass.face.held ≡ No)
    × IsInLine u × SpinHolds u.spin × OnlyHeard v u × (u.hand.misses ≡ v.hand.misses)
    × (v.spin.entries ≤ u.spin.entries) × (u.fronts ≡ v.fronts) × (u.ext.appends ≡ v.ext.appends)
    × SleepsInTurns v.spin.entries u.spin.entries (g.C.Cpu.sleeps l.fn.cpu) (g.C.Cpu.sleeps l.cpu)
    × (g.C.Cpu.rescheds l.fn.cpu ≤ g.C.Cpu.rescheds l.cpu)
    × SetsNoWord v u × (l.dozes ≡ dozes_of u)
    × Dozes (g.C.Cpu.sleeps l.fn.cpu) (g.C.Cpu.sleeps l.cpu) (dozes_of v) (dozes_of u)
