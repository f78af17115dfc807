use Rattle.std.proofs.Common.{◌≡◌, List, ◌+◌, ◌++◌, ◌∷◌, [], length, refl, sym, ap, ◌∙◌, subst, arith, length-append}
use Rattle.word_bits.specs.Snapshots.{Words}
use Rattle.lock_core.specs.Plans.{start}
use Rattle.lock_core.specs.Records.{row}
use Rattle.lock_core.proofs.Reading.{start-next, start-most}
use Rattle.guarded.specs.ObjectCopying.{AreTaskWords, joined}
use Rattle.guarded.specs.Types.{Hand}
use Rattle.guarded.proofs.Passing.{looks-trans}
use Rattle.guarded.proofs.Copied.{rows-none, rows-more, joined-snoc, recs-pushed}
use Rattle.guarded.proofs.guarded.Guarded.copy_records.Goals as goal

start-zero : {X : Type 0} (k : List (List X)) → start k 0 ≡ 0
start-zero [] = refl
start-zero (xs ∷ k) = refl

pub loop-task-init : goal.loop-task-init
loop-task-init g c =
    let k = g.L.SiteLock.calls_on c.args.self.now.lock in
    let v = g.L.SiteLock.view c.args.pass.now in
    (c.requires.own, (refl, (refl, refl, refl, omega arith, refl, refl)), (λ p t. t), ap length c.requires.empty ∙ sym (start-zero k), ([], rows-none k v.hand v.past v.past, (λ i. record c.args.out.now { recs = c.requires.empty i })), (λ p t. t))

pub copy_task-requires-clause-room : goal.copy_task-requires-clause-room
copy_task-requires-clause-room g c =
    let k = g.L.SiteLock.calls_on c.args.self.now.lock in
    let at = c.loop-task.invariant.3 in
    let inside = c.loop-task-test.true in
    let end = c.tasks-task-end.ensures in
    let room = c.requires.room in
    let same : c.loop-task.out.recs_room ≡ c.args.out.now.recs_room = ap {A = Words} (λ w. w.recs_room) c.loop-task.invariant.4.2 in
    let next = start-next k c.loop-task.task (omega (arith, inside, end)) in
    let most = start-most k (c.loop-task.task + 1) in
    omega (arith, at, room, same, next, most)

pub loop-task-preserved : goal.loop-task-preserved
loop-task-preserved g c =
    let k = g.L.SiteLock.calls_on c.args.self.now.lock in
    let v = g.L.SiteLock.view c.args.pass.now in
    let u = g.L.SiteLock.view c.loop-task.pass in
    let w = g.L.SiteLock.view c.copy_task.new.pass in
    let same = c.loop-task.invariant.1.0 in
    let rows = c.loop-task.invariant.4.0 in
    let words = c.copy_task.ensures.copied.0 in
    let inside = c.loop-task-test.true in
    let end = c.tasks-task-end.ensures in
    let new : AreTaskWords k v.hand u.past w.past c.loop-task.task (length (row k c.loop-task.task)) words = subst (λ (h : Hand). AreTaskWords k h u.past w.past c.loop-task.task (length (row k c.loop-task.task)) words) same c.copy_task.ensures.copied.1 in
    let grown = ap {A = Words} (λ o. length o.recs) c.copy_task.ensures.copied.2 in
    let at = c.loop-task.invariant.3 in
    let many = new.many in
    let l = length-append c.loop-task.out.recs words in
    let next = start-next k c.loop-task.task (omega (arith, inside, end)) in (
      c.copy_task.ensures.on.own,
      looks-trans v u w c.loop-task.invariant.1 c.copy_task.ensures.kept,
      (λ p t. c.copy_task.ensures.on.goes_on p (c.loop-task.invariant.2 p t)),
      omega (arith, grown, at, many, l, next),
      (
        rows ++ words ∷ [],
        rows-more k v.hand v.past u.past w.past c.loop-task.task rows words c.loop-task.invariant.4.1 c.loop-task.invariant.2 c.copy_task.ensures.on.goes_on new,
        recs-pushed c.args.out.now c.loop-task.out c.copy_task.new.out (joined rows) words _ c.loop-task.invariant.4.2 c.copy_task.ensures.copied.2 (joined-snoc rows words (joined rows) refl),
      ),
      (λ p t. c.copy_task.ensures.queue p (c.loop-task.invariant.5 p t)),
    )
