use Rattle.lock_core.specs.Kinds.{mutex, semaphore}
use Rattle.vma_map.specs.Spaces.{space}
use Rattle.fd_table.specs.Tables.{table}
use Rattle.mm_serve.specs.declared.space_or_table.SpaceOrTablePass.TheVariants.{OfSpace, OfTable}
use Rattle.mm_serve.proofs.Same.{done-of}
use Rattle.mm_serve.proofs.space_or_table.SpaceOrTableGuardedAreasGuardedFdsSharedObject.end.Goals.{in-Space-OfSpace, in-Table-OfTable}
use Rattle.mm_serve.proofs.space_or_table.SpaceOrTableGuardedAreasGuardedFdsSharedObject.end.Goals as goal

pub returns-clause-done : goal.returns-clause-done
returns-clause-done g c = elim c.match-self.branch [
  | in-Space-OfSpace w ↦ rw (w.in-Space-OfSpace.is-0, w.pass-is) (done-of space g.A.SleepLock.kind semaphore g.met.A.CountLock.counts (g.A.SiteLock.calls_on w.in-Space-OfSpace.site.lock) (g.A.SiteLock.view w.end.new.pass).hand c.args.task w.end.ensures.done)
  | in-Table-OfTable w ↦ rw (w.in-Table-OfTable.is-0, w.pass-is) (done-of table g.T.SleepLock.kind mutex g.met.T.OwnerLock.owned (g.T.SiteLock.calls_on w.in-Table-OfTable.site.lock) (g.T.SiteLock.view w.end-in-Table-OfTable.new.pass).hand c.args.task w.end-in-Table-OfTable.ensures.done)
]

pub returns-clause-looks : goal.returns-clause-looks
returns-clause-looks g c = elim c.match-self.branch [
  | in-Space-OfSpace w ↦ rw (w.in-Space-OfSpace.is-0, w.pass-is) (
      let told = w.end.ensures.looks in record { pass = OfSpace told.pass; looked = told.looked; table = told.table; queue = told.queue }
      )
  | in-Table-OfTable w ↦ rw (w.in-Table-OfTable.is-0, w.pass-is) (
      let told = w.end-in-Table-OfTable.ensures.looks in record { pass = OfTable told.pass; looked = told.looked; table = told.table; queue = told.queue }
      )
]
