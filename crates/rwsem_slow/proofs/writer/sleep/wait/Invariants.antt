use Rattle.std.proofs.Common.{◌≡◌, IsSome}
use Rattle.lock_core.specs.Views.{SpinHolds}
use Rattle.cpu_task.specs.CpuCounting.{Dozes, SleepsInTurns}
use Rattle.lock_core.specs.SiteHandles.{MovesOn}
use Rattle.rwsem_wake.specs.RwSemPlaces.{AreCounts, dozes_of}
use Rattle.rwsem_slow.specs.Queued.{WaitsOn}
use Rattle.rwsem_slow.specs.Types.{No, Writes}
use Rattle.rwsem_slow.proofs.writer.sleep.wait.Given as goal

abbrev pub invariant-loop : goal.invariant-loop
invariant-loop g l = let v = l.fn.pass.seat.me.0.view in let u = l.pass.seat.me.0.view in
    (goal.iterator-loop g).can_next l.iterator' × (goal.iterator-loop g).is_finite l.iterator'
    × MovesOn l.site l.fn.pass l.pass × IsSome l.pass.face.task × (l.pass.face.held ≡ No) × SpinHolds u.spin × WaitsOn Writes v u
    × SleepsInTurns v.spin.entries u.spin.entries (g.C.Cpu.sleeps l.fn.cpu) (g.C.Cpu.sleeps l.cpu) × (g.C.Cpu.rescheds l.cpu ≡ g.C.Cpu.rescheds l.fn.cpu) × AreCounts l.counts u
    × Dozes (g.C.Cpu.sleeps l.fn.cpu) (g.C.Cpu.sleeps l.cpu) (dozes_of v) (dozes_of u)
