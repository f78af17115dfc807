use Rattle.std.proofs.Common.{◌≡◌, ◌∙◌, refl, ap, subst, sym, length}
use Rattle.word_bits.specs.LockWords.{owned}
use Rattle.lock_core.specs.Layout.{site}
use Rattle.lock_core.specs.Records.{bit}
use Rattle.lock_core.specs.Kinds.{mutex}
use Rattle.lock_core.specs.Locked.{IsLockedThen}
use Rattle.lock_core.specs.Laws.Locked.{ran-steps}
use Rattle.lock_core.specs.Pasts.{Moves}
use Rattle.lock_core.specs.Laws.SiteRun.{ran-each, ran-so, step-by}
use Rattle.lock_core.specs.SiteStated.{IsSiteMove}
use Rattle.lock_core.proofs.Showing.{latest-shown}
use Rattle.osq_nodes.specs.OsqHandles.{fronts_in}
use Rattle.mutex_slow.specs.MutexPlaces.{line_of}
use Rattle.qspin_word.proofs.Turning.{numbers}
use Rattle.qspin_queue.proofs.Recalling.{counts-spin, each-lock, each-move}
use Rattle.mutex_slow.specs.Mutexes.{Kept, MutexMoves, OwesNoWake, V, owner_at, owner_in, standing, standing_of, wait_lock_at}
use Rattle.mutex_slow.specs.Laws.Mutex.{mutex-site, mutex-spin}
use Rattle.mutex_slow.specs.Laws.Standing.{owes-none}
use Rattle.mutex_slow.specs.MutexHandles.{newest}
use Rattle.mutex_slow.specs.MutexStated.{IsMutexThen, waits_on}
use Rattle.mutex_slow.proofs.Stating.{mutex-states}
use Rattle.mutex_slow.proofs.Chaining.{becomes}
use Rattle.mutex_slow.proofs.Locking.{each-moment, mutex-locked}
use Rattle.mutex_slow.proofs.calls.Mutex.recall.Goals as goal

pub returns-clause-last : goal.returns-clause-last
returns-clause-last g c = let l = latest-shown line_of (fronts_in c.args.pass.now.queue) c.recall.new.pass.seat.me.0.view c.recall.new.pass.seat.me.0.past c.recall.ensures.on.last in record { step = l.step; hand = l.hand; spin = l.spin }

pub returns-clause-always : goal.returns-clause-always
returns-clause-always g c = let k = c.args.self.now.site.table.shared.key in let o = g.O.Object.object in let n = g.O.Object.WORDS in let own = c.recall.ensures.on.last in
    ran-each standing (Kept o n k) (MutexMoves k) (IsMutexThen o n k) (mutex-states o n k) (newest k) own.now own.before own.rest _ own.past_is c.recall.ensures.run

pub returns-clause-states : goal.returns-clause-states
returns-clause-states g c = let k = c.args.self.now.site.table.shared.key in let o = g.O.Object.object in let n = g.O.Object.WORDS in let own = c.recall.ensures.on.last in
    each-moment (IsMutexThen o n k) (IsLockedThen o mutex n k owner_at waits_on) (mutex-locked o n k) _
    (ran-each standing (Kept o n k) (MutexMoves k) (IsMutexThen o n k) (mutex-states o n k) (newest k) own.now own.before own.rest _ own.past_is c.recall.ensures.run)

pub returns-clause-moves : goal.returns-clause-moves
returns-clause-moves g c = let k = c.args.self.now.site.table.shared.key in let o = g.O.Object.object in let n = g.O.Object.WORDS in
    ran-steps standing k owner_at (newest k) _ (ran-so standing (newest k) (Moves (Kept o n k) (MutexMoves k)) (IsSiteMove k owner_at) (λ x y m. (m.0, m.3.site, m.4)) _ c.recall.ensures.run)

pub returns-clause-out : goal.returns-clause-out
returns-clause-out g c = let m = c.recall.ensures.marked in let u = c.recall.new.pass.seat.me.0.view in let out : bit u.ext.queued ≡ 0 = ap (λ (v : V). bit v.ext.queued) c.recall.ensures.kept ∙ ap bit c.requires.own.outside.out in record {
  own = record { step = step-by u u.hand.task c.recall.new.pass.seat.me.0.past refl m.own; hand = refl; spin = m.own.spin };
  stands = standing_of u.ext;
  marked = m.kept;
  out = out;
  appends = refl;
  clear = owes-none u.ext.wake.duty u.hand.freed (subst OwesNoWake (sym c.recall.ensures.kept) c.requires.own.clear);
}

pub returns-clause-counts : goal.returns-clause-counts
returns-clause-counts g c = let m = c.recall.ensures.marked in let u = c.recall.new.pass.seat.me.0.view in (
  record { step = step-by u u.hand.task c.recall.new.pass.seat.me.0.past refl m.own; hand = refl; spin = m.own.spin },
  (standing_of u.ext, m.kept, ap (λ (v : V). v.ext.wake.wakes) c.recall.ensures.kept ∙ sym c.requires.own.woke, ap (λ (v : V). v.ext.wake.dozes) c.recall.ensures.kept ∙ sym c.requires.own.dozed),
)

pub returns-clause-lists : goal.returns-clause-lists
returns-clause-lists g c = let k = c.args.self.now.site.table.shared.key in let o = g.O.Object.object in let n = g.O.Object.WORDS in let own = c.recall.ensures.on.last in
    becomes o n k (newest k) own.now own.before own.rest _ own.past_is c.recall.ensures.run

pub returns-clause-wait_lock : goal.returns-clause-wait_lock
returns-clause-wait_lock g c = let k = c.args.self.now.site.table.shared.key in let o = g.O.Object.object in let n = g.O.Object.WORDS in let own = c.recall.ensures.on.last in
    each-lock standing (Kept o n k) (MutexMoves k) 1 (length k) wait_lock_at (mutex-spin o n k) (λ ws vs h. numbers o owned n k (site k ws) vs (mutex-site o n k ws vs h)) (newest k) own.now own.before own.rest _ own.past_is c.recall.ensures.run

pub returns-clause-wait_moves : goal.returns-clause-wait_moves
returns-clause-wait_moves g c = let k = c.args.self.now.site.table.shared.key in let o = g.O.Object.object in let n = g.O.Object.WORDS in
    each-move standing (Kept o n k) (MutexMoves k) 1 (length k) wait_lock_at (λ id ws us vs vs' m. m.spin)
    (λ id ws us vs vs' _ m. counts-spin id (owner_in ws) (site k ws) (site k us) vs vs' m.site) (newest k) _ c.recall.ensures.run

pub returns-clause-linear : goal.returns-clause-linear
returns-clause-linear g c = c.recall.ensures.linear refl
