use Rattle.std.proofs.Common.{◌≡◌}
use Rattle.lock_core.specs.SitePasses.{Sits}
use Rattle.lock_core.specs.Pasts.{FoundAt, GoesOn, IsOwnStep}
use Rattle.rwsem_wake.specs.RwSemViews.{count_at}
use Rattle.rwsem_slow.specs.Spinning.{SawUnqueued}
use Rattle.rwsem_slow.proofs.writer.spin.try_unqueued.Given as goal

abbrev pub invariant-loop : goal.invariant-loop
invariant-loop g l = (goal.iterator-loop g).can_next l.iterator' × (goal.iterator-loop g).is_finite l.iterator' × Sits l.site.table.shared.key l.site.table.shared.table_id l.pass.seat.table_id l.pass.seat.me l.pass.face × (l.pass.face ≡ l.fn.pass.face) × GoesOn l.fn.pass.seat.me.0.past l.pass.seat.me.0.past × IsOwnStep l.pass.seat.me.0.view l.pass.seat.me.0.past × SawUnqueued l.fn.pass.seat.me.0.view l.word l.pass.seat.me.0.view × FoundAt count_at l.word l.pass.seat.me.0.past
