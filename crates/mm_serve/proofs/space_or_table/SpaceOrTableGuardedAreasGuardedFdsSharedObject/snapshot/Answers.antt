use Rattle.std.proofs.Common.{◌<◌, ℕ, length, true, false, sym}
use Rattle.lock_core.specs.Kinds.{mutex, semaphore}
use Rattle.vma_map.specs.Spaces.{space}
use Rattle.fd_table.specs.Tables.{table}
use Rattle.mm_serve.specs.MachineHistories.{HasDoneOn}
use Rattle.mm_serve.proofs.Same.{done-of, history-of}
use Rattle.mm_serve.proofs.space_or_table.SpaceOrTableGuardedAreasGuardedFdsSharedObject.snapshot.Goals.{in-Space-OfSpace, in-Table-OfTable}
use Rattle.mm_serve.proofs.space_or_table.SpaceOrTableGuardedAreasGuardedFdsSharedObject.snapshot.Goals as goal

pub snapshot-requires-clause-done : goal.snapshot-requires-clause-done
snapshot-requires-clause-done g c =
    let k = g.A.SiteLock.calls_on c.in-Space-OfSpace.site.lock in
    let h = (g.A.SiteLock.view c.in-Space-OfSpace.pass).hand in
    let all : (t : ℕ) → t < length k → HasDoneOn true k h t = rw (c.in-Space-OfSpace.is-0, c.in-Space-OfSpace.is-1) at c.requires.done in
    λ t l. done-of space semaphore g.A.SleepLock.kind (sym g.met.A.CountLock.counts) k h t (all t l)

pub snapshot-requires-in-Table-OfTable-clause-done : goal.snapshot-requires-in-Table-OfTable-clause-done
snapshot-requires-in-Table-OfTable-clause-done g c =
    let k = g.T.SiteLock.calls_on c.in-Table-OfTable.site.lock in
    let h = (g.T.SiteLock.view c.in-Table-OfTable.pass).hand in
    let all : (t : ℕ) → t < length k → HasDoneOn false k h t = rw (c.in-Table-OfTable.is-0, c.in-Table-OfTable.is-1) at c.requires.done in
    λ t l. done-of table mutex g.T.SleepLock.kind (sym g.met.T.OwnerLock.owned) k h t (all t l)

pub returns-clause-copied : goal.returns-clause-copied
returns-clause-copied g c = elim c.match-self.branch [
  | in-Space-OfSpace w ↦ rw (w.in-Space-OfSpace.is-0, w.pass-is, w.out-is) (history-of space g.A.SleepLock.kind semaphore g.met.A.CountLock.counts (g.A.SiteLock.calls_on w.in-Space-OfSpace.site.lock) (g.A.SiteLock.view w.snapshot.new.pass).hand w.snapshot.new.out w.snapshot.ensures.copied)
  | in-Table-OfTable w ↦ rw (w.in-Table-OfTable.is-0, w.pass-is, w.out-is) (history-of table g.T.SleepLock.kind mutex g.met.T.OwnerLock.owned (g.T.SiteLock.calls_on w.in-Table-OfTable.site.lock) (g.T.SiteLock.view w.snapshot-in-Table-OfTable.new.pass).hand w.snapshot-in-Table-OfTable.new.out w.snapshot-in-Table-OfTable.ensures.copied)
]

pub returns-clause-held : goal.returns-clause-held
returns-clause-held g c = elim c.match-self.branch [
  | in-Space-OfSpace w ↦ rw (w.pass-is, w.out-is) w.snapshot.ensures.held
  | in-Table-OfTable w ↦ rw (w.pass-is, w.out-is) w.snapshot-in-Table-OfTable.ensures.held
]

pub returns-clause-goes_on : goal.returns-clause-goes_on
returns-clause-goes_on g c = elim c.match-self.branch [
  | in-Space-OfSpace w ↦ rw (w.in-Space-OfSpace.is-1, w.pass-is) w.snapshot.ensures.goes_on
  | in-Table-OfTable w ↦ rw (w.in-Table-OfTable.is-1, w.pass-is) w.snapshot-in-Table-OfTable.ensures.goes_on
]

pub returns-clause-queue : goal.returns-clause-queue
returns-clause-queue g c = elim c.match-self.branch [
  | in-Space-OfSpace w ↦ rw (w.in-Space-OfSpace.is-1, w.pass-is) w.snapshot.ensures.queue
  | in-Table-OfTable w ↦ rw (w.in-Table-OfTable.is-1, w.pass-is) w.snapshot-in-Table-OfTable.ensures.queue
]
