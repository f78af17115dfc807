use Rattle.std.proofs.Common.{◌≡◌}
use Rattle.lock_core.specs.Pasts.{GoesOn}
use Rattle.osq_nodes.specs.OsqPasses.{OnQueue}
use Rattle.osq_nodes.proofs.queue.Osq.wait.Given as goal

abbrev pub invariant-loop : goal.invariant-loop
invariant-loop g l = let v = l.pass.pass.seat.me.0.view in let u = l.initial.pass.pass.seat.me.0.view in
    (goal.iterator-loop g).can_next l.iterator' × (goal.iterator-loop g).is_finite l.iterator' × OnQueue l.self.site.table.shared.key l.self.site.table.shared.table_id l.pass.pass.seat.table_id l.pass.pass.seat.me l.pass.pass.face
    × (v.ext ≡ u.ext) × (v.hand ≡ u.hand) × (v.fronts ≡ u.fronts) × (l.pass.pass.face ≡ l.initial.pass.pass.face) × GoesOn l.initial.pass.pass.seat.me.0.past l.pass.pass.seat.me.0.past
