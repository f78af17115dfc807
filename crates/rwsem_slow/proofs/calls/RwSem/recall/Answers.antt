use Rattle.std.proofs.Common.{◌≡◌, ◌∙◌, length, refl, sym, ap, subst}
use mathlib.Core.Option.{some}
use Rattle.word_bits.specs.LockWords.{counted}
use Rattle.lock_core.specs.Kinds.{semaphore}
use Rattle.lock_core.specs.Layout.{site}
use Rattle.lock_core.specs.Locked.{IsLockedThen}
use Rattle.lock_core.specs.Laws.Locked.{ran-steps}
use Rattle.lock_core.specs.Pasts.{Moves}
use Rattle.lock_core.specs.Laws.SiteRun.{ran-each, ran-so, step-by}
use Rattle.lock_core.specs.SiteStated.{IsSiteMove}
use Rattle.lock_core.proofs.Showing.{latest-shown}
use Rattle.osq_nodes.specs.OsqHandles.{fronts_in}
use Rattle.qspin_word.proofs.Turning.{numbers}
use Rattle.qspin_queue.proofs.Recalling.{each-lock, each-move}
use Rattle.rwsem_wake.specs.SemParts.{apart_hand}
use Rattle.rwsem_wake.specs.RwSemPlaces.{line_of}
use Rattle.rwsem_wake.specs.RwSemViews.{IsDone, V, count_at}
use Rattle.rwsem_slow.specs.RwSems.{Kept, RwSemMoves, standing, wait_lock_at}
use Rattle.rwsem_slow.specs.Laws.RwSem.{sem-site, sem-spin}
use Rattle.rwsem_slow.specs.RwSemHandles.{newest}
use Rattle.rwsem_slow.specs.RwSemStated.{IsRwSemThen, stance, waits_on}
use Rattle.rwsem_slow.specs.Types.{SemWake, SemHand}
use Rattle.rwsem_slow.proofs.Stating.{sem-then}
use Rattle.rwsem_slow.proofs.Chaining.{becomes}
use Rattle.rwsem_slow.proofs.Locking.{sem-locked}
use Rattle.rwsem_slow.proofs.calls.RwSem.recall.Goals as goal

pub returns-clause-last : goal.returns-clause-last
returns-clause-last g c = let l = latest-shown line_of (fronts_in c.args.pass.now.queue) c.recall.new.pass.seat.me.0.view c.recall.new.pass.seat.me.0.past c.recall.ensures.on.last in record { step = l.step; hand = l.hand; spin = l.spin }

pub returns-clause-always : goal.returns-clause-always
returns-clause-always g c = let k = c.args.self.now.site.table.shared.key in let o = g.O.Object.object in let n = g.O.Object.WORDS in let own = c.recall.ensures.on.last in
    ran-each standing (Kept o n k) (RwSemMoves k) (IsRwSemThen o n k) (sem-then o n k) (newest k) own.now own.before own.rest _ own.past_is c.recall.ensures.run

pub returns-clause-states : goal.returns-clause-states
returns-clause-states g c = let k = c.args.self.now.site.table.shared.key in let o = g.O.Object.object in let n = g.O.Object.WORDS in let own = c.recall.ensures.on.last in
    ran-each standing (Kept o n k) (RwSemMoves k) (IsLockedThen o semaphore n k count_at waits_on) (sem-locked o n k) (newest k) own.now own.before own.rest _ own.past_is c.recall.ensures.run

pub returns-clause-moves : goal.returns-clause-moves
returns-clause-moves g c = let k = c.args.self.now.site.table.shared.key in let o = g.O.Object.object in let n = g.O.Object.WORDS in
    ran-steps standing k count_at (newest k) _ (ran-so standing (newest k) (Moves (Kept o n k) (RwSemMoves k)) (IsSiteMove k count_at) (λ x y m. (m.0, m.3.site, m.4)) _ c.recall.ensures.run)

pub returns-clause-out : goal.returns-clause-out
returns-clause-out g c = let m = c.recall.ensures.marked in let u = c.recall.new.pass.seat.me.0.view in let kept = c.recall.ensures.kept in let apart : u.ext.sem ≡ apart_hand = ap (λ (v : V). v.ext.sem) kept ∙ c.requires.own.outside.apart in record {
  own = record { step = step-by u u.hand.task c.recall.new.pass.seat.me.0.past refl m.own; hand = refl; spin = m.own.spin };
  wake = u.ext.wake;
  done = subst IsDone (sym (ap (λ (v : V). v.ext.wake) kept)) c.requires.own.outside.done;
  marked = m.kept ∙ ap (λ (s : SemHand). some (stance s u.ext.appends u.ext.wake)) apart;
}

pub returns-clause-counts : goal.returns-clause-counts
returns-clause-counts g c = let m = c.recall.ensures.marked in let u = c.recall.new.pass.seat.me.0.view in let same : u.ext.wake ≡ c.args.pass.now.pass.seat.me.0.view.ext.wake = ap (λ (v : V). v.ext.wake) c.recall.ensures.kept in let counts = c.requires.own.counts in (
  record { step = step-by u u.hand.task c.recall.new.pass.seat.me.0.past refl m.own; hand = refl; spin = m.own.spin },
  (
    u.ext.wake,
    (u.ext.sem, u.ext.appends, m.kept),
    ap (λ (b : SemWake). b.wakes) same ∙ sym counts.wakes,
    ap (λ (b : SemWake). b.dozes) same ∙ sym counts.dozes,
  ),
)

pub returns-clause-lists : goal.returns-clause-lists
returns-clause-lists g c = let k = c.args.self.now.site.table.shared.key in let o = g.O.Object.object in let n = g.O.Object.WORDS in let own = c.recall.ensures.on.last in
    becomes o n k (newest k) own.now own.before own.rest _ own.past_is c.recall.ensures.run

pub returns-clause-wait_lock : goal.returns-clause-wait_lock
returns-clause-wait_lock g c = let k = c.args.self.now.site.table.shared.key in let o = g.O.Object.object in let n = g.O.Object.WORDS in let own = c.recall.ensures.on.last in
    each-lock standing (Kept o n k) (RwSemMoves k) 1 (length k) wait_lock_at (sem-spin o n k) (λ ws vs h. numbers o counted n k (site k ws) vs (sem-site o n k ws vs h)) (newest k) own.now own.before own.rest _ own.past_is c.recall.ensures.run

pub returns-clause-wait_moves : goal.returns-clause-wait_moves
returns-clause-wait_moves g c = let k = c.args.self.now.site.table.shared.key in let o = g.O.Object.object in let n = g.O.Object.WORDS in
    each-move standing (Kept o n k) (RwSemMoves k) 1 (length k) wait_lock_at (λ id ws us vs vs' m. m.spin) (λ id ws us vs vs' h m. let s = m.site in (s.before, s.after, s.at, s.at', s.moved.counts, s.moved.spin)) (newest k) _ c.recall.ensures.run

pub returns-clause-linear : goal.returns-clause-linear
returns-clause-linear g c = c.recall.ensures.linear refl
