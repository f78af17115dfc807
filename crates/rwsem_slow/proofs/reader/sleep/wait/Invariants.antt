use Rattle.std.proofs.Common.{◌≡◌, IsSome}
use Rattle.lock_core.specs.Views.{SpinRests}
use Rattle.cpu_task.specs.CpuCounting.{Dozes}
use Rattle.lock_core.specs.SiteHandles.{MovesOn}
use Rattle.rwsem_wake.specs.RwSemPlaces.{AreCounts, dozes_of}
use Rattle.rwsem_slow.specs.SleepCounting.{SleepsBetween}
use Rattle.rwsem_slow.specs.Queued.{WaitsOn}
use Rattle.rwsem_slow.specs.Types.{No, Reads}
use Rattle.rwsem_slow.proofs.reader.sleep.wait.Given as goal

abbrev pub invariant-loop : goal.invariant-loop
invariant-loop g l = (goal.iterator-loop g).can_next l.iterator' × (goal.iterator-loop g).is_finite l.iterator'
    × MovesOn l.site l.fn.pass l.pass × IsSome l.pass.face.task × (l.pass.face.held ≡ No) × WaitsOn Reads l.fn.pass.seat.me.0.view l.pass.seat.me.0.view × SpinRests l.pass.seat.me.0.view.spin
    × SleepsBetween l.fn.pass.seat.me.0.view.steps l.pass.seat.me.0.view.steps (g.C.Cpu.sleeps l.fn.cpu) (g.C.Cpu.sleeps l.cpu) × (g.C.Cpu.rescheds l.cpu ≡ g.C.Cpu.rescheds l.fn.cpu) × AreCounts l.counts l.pass.seat.me.0.view
    × Dozes (g.C.Cpu.sleeps l.fn.cpu) (g.C.Cpu.sleeps l.cpu) (dozes_of l.fn.pass.seat.me.0.view) (dozes_of l.pass.seat.me.0.view)
