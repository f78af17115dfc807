use Rattle.std.proofs.Common.{◌≡◌}
use Rattle.lock_core.specs.SitePasses.{Sits}
use Rattle.lock_core.specs.Pasts.{FoundAt, GoesOn, IsOwnStep}
use Rattle.rwsem_count.specs.CountTries.{SawCount}
use Rattle.rwsem_count.proofs.tries.read_try.Given as goal

abbrev pub invariant-loop : goal.invariant-loop
invariant-loop g l = (goal.iterator-loop g).can_next l.iterator' × (goal.iterator-loop g).is_finite l.iterator' × Sits l.site.table.shared.key l.site.table.shared.table_id l.pass.seat.table_id l.pass.seat.me l.pass.face × (l.pass.face ≡ l.fn.pass.face) × GoesOn l.fn.pass.seat.me.0.past l.pass.seat.me.0.past × IsOwnStep l.pass.seat.me.0.view l.pass.seat.me.0.past × FoundAt g.H.CountHost.COUNT l.word l.pass.seat.me.0.past × SawCount l.fn.pass.seat.me.0.view l.word l.pass.seat.me.0.view
