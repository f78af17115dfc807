use Rattle.std.proofs.Common.{◌≡◌, ◌≤◌}
use Rattle.lock_core.specs.Pasts.{GoesOn}
use Rattle.osq_nodes.specs.OsqHandles.{SitsAt, view_of, past_of, KeepsNumber}
use Rattle.osq_unqueue.proofs.spin.Given as goal

abbrev pub invariant-loop : goal.invariant-loop
invariant-loop g l = let v = view_of l.pass in let u = view_of l.initial.pass in
    (goal.iterator-loop g).can_next l.iterator' × (goal.iterator-loop g).is_finite l.iterator' × SitsAt l.osq l.pass
    × (v.ext ≡ u.ext) × (v.fronts ≡ u.fronts) × KeepsNumber l.initial.pass l.pass × GoesOn (past_of l.initial.pass) (past_of l.pass) × (g.C.Cpu.rescheds l.initial.cpu ≤ g.C.Cpu.rescheds l.cpu) × (g.C.Cpu.sleeps l.cpu ≡ g.C.Cpu.sleeps l.initial.cpu)
