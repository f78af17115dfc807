use Rattle.std.proofs.Common.{◌≡◌, ◌≤◌, ℕ, true}
use Rattle.lock_core.specs.Pasts.{GoesOn}
use Rattle.percpu_rwsem.specs.PercpuHandles.{SitsAt, blocks_in}
use Rattle.percpu_rwsem.specs.Types.{No, Phase}
use Rattle.percpu_rwsem.proofs.Calling.{SleptDraining}
use Rattle.percpu_rwsem.proofs.site.PercpuRwSem.wait_to_drain.Given as goal

abbrev pub invariant-loop : goal.invariant-loop
invariant-loop g l = (goal.iterator-loop g).can_next l.iterator' × (goal.iterator-loop g).is_finite l.iterator' × SitsAt l.self l.pass × (blocks_in l.pass ≡ true) × (l.pass.pass.face.held ≡ No) × (l.pass.pass.face.task ≡ l.fn.pass.pass.face.task) × GoesOn l.fn.pass.pass.seat.me.0.past l.pass.pass.seat.me.0.past
    × SleptDraining l.fn.pass.seen l.pass.seen l.fn.pass.pass.seat.me.0.view.steps l.pass.pass.seat.me.0.view.steps (g.U.Cpu.sleeps l.fn.cpu) (g.U.Cpu.sleeps l.cpu)
    × (s : ℕ) × (e : Phase) × (l.fn.pass.pass.seat.me.0.view.steps ≤ s) × (l.pass.pass.seat.me.0.view ≡ record l.fn.pass.pass.seat.me.0.view { steps = s; ext = e })
