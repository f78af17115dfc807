-- Until a try is no race, the pass knows what it knew.
use Rattle.std.proofs.Common.{◌≡◌}
use Rattle.lock_core.specs.SitePasses.{Sits}
use Rattle.lock_core.specs.Pasts.{GoesOn}
use Rattle.seq_fault.specs.SeqSteps.{OnlySteps}
use Rattle.seq_fault.proofs.faults.SeqSite+Areas.fault_wait.Given as goal

abbrev pub invariant-loop : goal.invariant-loop
invariant-loop g l = (goal.iterator-loop g).can_next l.iterator' × (goal.iterator-loop g).is_finite l.iterator' × Sits l.self.site.table.shared.key l.self.site.table.shared.table_id l.pass.pass.seat.table_id l.pass.pass.seat.me l.pass.pass.face × (l.pass.pass.face ≡ l.fn.pass.pass.face) × GoesOn l.fn.pass.pass.seat.me.0.past l.pass.pass.seat.me.0.past
    × OnlySteps l.fn.pass.pass.seat.me.0.view l.pass.pass.seat.me.0.view
