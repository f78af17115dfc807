use Rattle.std.proofs.Common.{◌≤◌, ◌*◌, ◌/◌, ℕ, ap, subst}
use Rattle.lock_bench.proofs.Planned.{share-fits}
use Rattle.lock_bench.proofs.timed.rounds.Goals as goal

pub on_one_lock-requires-clause-room : goal.on_one_lock-requires-clause-room
on_one_lock-requires-clause-room g c = λ _ _.
    let room = c.ROOM.result in
    let fits = share-fits room c.args.threads (room / c.max.result) c.loop-left.left c.min-here.result (ap (λ (z : ℕ). room / z) c.max.ensures) c.min-here.ensures in
    subst (λ (z : ℕ). c.args.threads * c.min-here.result ≤ z) c.ROOM.ensures fits
