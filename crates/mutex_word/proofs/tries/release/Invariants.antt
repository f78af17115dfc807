use Rattle.std.proofs.Common.{◌≡◌, ◌≤◌, ℕ}
use Rattle.lock_core.specs.SitePasses.{Sits}
use Rattle.lock_core.specs.Pasts.{FoundAt, GoesOn, IsOwnStep}
use Rattle.mutex_word.specs.OwnerTries.{FindsUnasked, IsMine}
use Rattle.mutex_word.specs.Types.{Free}
use Rattle.mutex_word.proofs.tries.release.Given as goal

abbrev pub invariant-loop : goal.invariant-loop
invariant-loop g l = (goal.iterator-loop g).can_next l.iterator' × (goal.iterator-loop g).is_finite l.iterator' × Sits l.site.table.shared.key l.site.table.shared.table_id l.pass.seat.table_id l.pass.seat.me l.pass.face × (l.pass.face ≡ l.fn.pass.face) × GoesOn l.fn.pass.seat.me.0.past l.pass.seat.me.0.past × IsOwnStep l.pass.seat.me.0.view l.pass.seat.me.0.past × FoundAt g.H.OwnerHost.OWNER l.word l.pass.seat.me.0.past × IsMine l.fn.pass.face.task l.word
    × (s : ℕ) × (l.fn.pass.seat.me.0.view.steps ≤ s) × (l.pass.seat.me.0.view ≡ record l.fn.pass.seat.me.0.view { steps = s })
    × FindsUnasked l.fn.pass.face.task g.H.OwnerHost.OWNER l.fn.pass.seat.me.0.view.steps l.pass.seat.me.0.view.steps l.fn.pass.seat.me.0.past l.pass.seat.me.0.past

abbrev pub ghosts-leave : goal.ghosts-leave
ghosts-leave g a = record { turn = Free }
