use Rattle.std.proofs.Common.{◌≡◌, ◌≤◌}
use Rattle.word_bits.specs.LockWords.{IsLawfulCount}
use Rattle.lock_core.specs.SitePasses.{Sits}
use Rattle.lock_core.specs.Pasts.{GoesOn}
use Rattle.rwsem_slow.specs.Queued.{HasTriedAt, Tries}
use Rattle.rwsem_slow.proofs.writer.attempt.try_standing.Given as goal

abbrev pub invariant-loop : goal.invariant-loop
invariant-loop g l = (goal.iterator-loop g).can_next l.iterator' × (goal.iterator-loop g).is_finite l.iterator'
    × Sits l.site.table.shared.key l.site.table.shared.table_id l.pass.seat.table_id l.pass.seat.me l.pass.face × (l.pass.face ≡ l.fn.pass.face) × GoesOn l.fn.pass.seat.me.0.past l.pass.seat.me.0.past
    × (l.fn.pass.seat.me.0.view.steps ≤ l.pass.seat.me.0.view.steps) × Tries l.fn.pass.seat.me.0.view l.pass.seat.me.0.view × IsLawfulCount l.count × HasTriedAt l.count l.pass.seat.me.0.view
