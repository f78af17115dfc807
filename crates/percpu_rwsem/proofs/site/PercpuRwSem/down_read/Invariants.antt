use Rattle.std.proofs.Common.{◌≡◌, ◌≤◌, ℕ, false}
use Rattle.lock_core.specs.Pasts.{GoesOn}
use Rattle.percpu_rwsem.specs.PercpuHandles.{SitsAt, SleepsEachTry, blocks_in}
use Rattle.percpu_rwsem.specs.Types.{No, Idle}
use Rattle.percpu_rwsem.proofs.site.PercpuRwSem.down_read.Given as goal

abbrev pub invariant-loop : goal.invariant-loop
invariant-loop g l = (goal.iterator-loop g).can_next l.iterator' × (goal.iterator-loop g).is_finite l.iterator' × SitsAt l.self l.pass × (blocks_in l.pass ≡ false) × (l.pass.pass.face.held ≡ No) × (l.pass.pass.face.task ≡ l.fn.pass.pass.face.task) × GoesOn l.fn.pass.pass.seat.me.0.past l.pass.pass.seat.me.0.past
    × SleepsEachTry 0 l.fn.pass.pass.seat.me.0.view.steps l.pass.pass.seat.me.0.view.steps (g.C.C.Cpu.sleeps l.fn.cpu) (g.C.C.Cpu.sleeps l.cpu)
    × (s : ℕ) × (l.fn.pass.pass.seat.me.0.view.steps ≤ s) × (l.pass.pass.seat.me.0.view ≡ record l.fn.pass.pass.seat.me.0.view { steps = s; ext = Idle })
