use Rattle.std.proofs.Common.{◌-◌, ◌<◌, Some, arith}
use Rattle.guarded.specs.Types.{Num, Refused, BadF, Dup2}
use Rattle.guarded.proofs.Descriptors.{slot-none, slot-some, slot-back, does-nothing, does-write, reopened-none, reopened-past, reopened-some}
use Rattle.guarded.proofs.Passing.{spun-goes-on}
use Rattle.guarded.proofs.slots.dup2.Goals as goal
use Rattle.guarded.proofs.slots.dup2.Goals.{then-word-eq0-via-then-word-eq0, then-word-eq0-via-else-word-eq0+then-to-ge-DESCRIPTORS}

pub returns-then-word-eq0-clause-done : goal.returns-then-word-eq0-clause-done
returns-then-word-eq0-clause-done g c = λ m is same.
    let v = g.L.SiteLock.view c.args.pass.now in
    let r = g.L.SiteLock.view c.slot-word.new.pass in
    let fd = c.args.fd in
    let to = c.args.to in
    does-nothing m v r r c.slot-word.ensures.kept is same (Dup2 fd to) (Refused BadF) (elim c.then-word-eq0.branch [
      | then-word-eq0-via-then-word-eq0 w ↦ reopened-none m fd to (slot-none (m fd) c.slot-word.result (c.slot-word.ensures.value m is same) w.if-word-eq0.true)
      | then-word-eq0-via-else-word-eq0+then-to-ge-DESCRIPTORS w ↦ reopened-past m fd to (let past = w.if-to-ge-DESCRIPTORS.true in omega (arith, past))
    ])

pub returns-clause-done : goal.returns-clause-done
returns-clause-done g c = λ m is same.
    let v = g.L.SiteLock.view c.args.pass.now in
    let r = g.L.SiteLock.view c.slot-word.new.pass in
    let u = g.L.SiteLock.view c.set_word.new.pass in
    let fd = c.args.fd in
    let to = c.args.to in
    let word = c.slot-word.result in
    let value = c.slot-word.ensures.value m is same in
    let some = slot-some (m fd) word value c.if-word-eq0.false in
    let below : to < 64 = let test = c.if-to-ge-DESCRIPTORS.false in omega (arith, test) in
    does-write m v r u c.slot-word.ensures.kept is same (Dup2 fd to) (Num to) to word (Some (word - 1)) below (slot-back word c.if-word-eq0.false) c.set_word.ensures.kept (reopened-some m fd to (word - 1) some below)

pub returns-clause-queue : goal.returns-clause-queue
returns-clause-queue g c = λ p t. spun-goes-on g.L.SleepLock.spun g.L.SiteLock.with_seat g.met.L.SleepLock.leaves c.slot-word.new.pass c.set_word.new.pass _ c.set_word.ensures.beside p (c.slot-word.ensures.queue p t)
