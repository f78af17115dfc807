use Rattle.std.proofs.Common.{◌+◌, ℕ, Some, ap}
use Rattle.guarded.specs.Types.{Num, Refused, MFile, Open}
use Rattle.guarded.proofs.Descriptors.{lowest-within, does-nothing, does-write, opened-none, opened-some}
use Rattle.guarded.proofs.Passing.{spun-goes-on}
use Rattle.guarded.proofs.slots.open.Goals as goal

pub returns-in-None-clause-done : goal.returns-in-None-clause-done
returns-in-None-clause-done g c = λ m is same.
    let v = g.L.SiteLock.view c.args.pass.now in
    let r = g.L.SiteLock.view c.lowest_free.new.pass in
    does-nothing m v r r c.lowest_free.ensures.kept is same (Open c.args.file) (Refused MFile) (opened-none m c.args.file (c.in-None.ensures.value m is same))

pub set_word-requires-clause-inside : goal.set_word-requires-clause-inside
set_word-requires-clause-inside g c =
    let (m, is, same) = c.requires.table in
    lowest-within m c.in-Some.fd (c.in-Some.ensures.value m is same)

pub returns-in-Some-clause-done : goal.returns-in-Some-clause-done
returns-in-Some-clause-done g c = λ m is same.
    let v = g.L.SiteLock.view c.args.pass.now in
    let r = g.L.SiteLock.view c.lowest_free.new.pass in
    let u = g.L.SiteLock.view c.set_word.new.pass in
    let fd = c.in-Some.fd in
    let found = c.in-Some.ensures.value m is same in
    does-write m v r u c.lowest_free.ensures.kept is same (Open c.args.file) (Num fd) fd (c.from.result + 1) (Some c.args.file) (lowest-within m fd found) (ap (λ (n : ℕ). n + 1) c.from.ensures) c.set_word.ensures.kept (opened-some m c.args.file fd found)

pub returns-in-Some-clause-queue : goal.returns-in-Some-clause-queue
returns-in-Some-clause-queue g c = λ p t. spun-goes-on g.L.SleepLock.spun g.L.SiteLock.with_seat g.met.L.SleepLock.leaves c.lowest_free.new.pass c.set_word.new.pass _ c.set_word.ensures.beside p (c.lowest_free.ensures.queue p t)
