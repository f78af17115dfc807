use Rattle.std.proofs.Common.{sym, subst}
use Rattle.vma_map.specs.Spaces.{space}
use Rattle.fd_table.specs.Tables.{table}
use Rattle.lock_core.specs.Pasts.{GoesOn}
use Rattle.lock_core.specs.Shown.{Shown}
use Rattle.sleep_lock.specs.LockMembers.{members}
use Rattle.mm_serve.specs.MachinePasts.{KnowsPast}
use Rattle.mm_serve.proofs.space_or_table.SpaceOrTableGuardedAreasGuardedFdsSharedObject.recall.Goals.{in-Space-OfSpace, in-Table-OfTable}
use Rattle.mm_serve.proofs.space_or_table.SpaceOrTableGuardedAreasGuardedFdsSharedObject.recall.Goals as goal

pub returns-clause-goes_on : goal.returns-clause-goes_on
returns-clause-goes_on g c = elim c.match-self.branch [
  | in-Space-OfSpace w ↦ rw (w.in-Space-OfSpace.is-1, w.pass-is) (subst (λ (v : Shown). GoesOn (g.A.SiteLock.view w.in-Space-OfSpace.pass).past v.past) (sym w.recall_queue.ensures.kept) w.recall.ensures.on.goes_on)
  | in-Table-OfTable w ↦ rw (w.in-Table-OfTable.is-1, w.pass-is) (subst (λ (v : Shown). GoesOn (g.T.SiteLock.view w.in-Table-OfTable.pass).past v.past) (sym w.recall_queue-in-Table-OfTable.ensures.kept) w.recall-in-Table-OfTable.ensures.on.goes_on)
]

pub returns-clause-queue : goal.returns-clause-queue
returns-clause-queue g c = elim c.match-self.branch [
  | in-Space-OfSpace w ↦ rw (w.in-Space-OfSpace.is-1, w.pass-is) (λ p t. w.recall_queue.ensures.queue p (w.recall.ensures.queue p t))
  | in-Table-OfTable w ↦ rw (w.in-Table-OfTable.is-1, w.pass-is) (λ p t. w.recall_queue-in-Table-OfTable.ensures.queue p (w.recall-in-Table-OfTable.ensures.queue p t))
]

pub returns-clause-past : goal.returns-clause-past
returns-clause-past g c = elim c.match-self.branch [
  | in-Space-OfSpace w ↦ rw (w.in-Space-OfSpace.is-0, w.pass-is) (
      let l = members g.A.SiteLock.calls_on g.A.SiteLock.view g.A.SiteLock.sits g.A.SleepLock.spun g.A.SleepLock.kind g.A.SleepLock.word_at g.A.SleepLock.opened g.A.SleepLock.waits g.A.SleepLock.tells g.A.SleepLock.tells_queue in
      let k = l.calls_on w.in-Space-OfSpace.site.lock in (
        subst (λ (v : Shown). KnowsPast space l.kind 257 l.word_at l.waits l.tells l.opened k v) (sym w.recall_queue.ensures.kept) (record {
          last = w.recall.ensures.last;
          new = w.recall.ensures.new;
          begins = w.recall.ensures.begins;
          always = w.recall.ensures.always;
          moves = w.recall.ensures.moves;
          linear = w.recall.ensures.linear;
          told = w.recall.ensures.told;
        }),
        w.recall_queue.ensures.told,
      )
      )
  | in-Table-OfTable w ↦ rw (w.in-Table-OfTable.is-0, w.pass-is) (
      let l = members g.T.SiteLock.calls_on g.T.SiteLock.view g.T.SiteLock.sits g.T.SleepLock.spun g.T.SleepLock.kind g.T.SleepLock.word_at g.T.SleepLock.opened g.T.SleepLock.waits g.T.SleepLock.tells g.T.SleepLock.tells_queue in
      let k = l.calls_on w.in-Table-OfTable.site.lock in (
        subst (λ (v : Shown). KnowsPast table l.kind 64 l.word_at l.waits l.tells l.opened k v) (sym w.recall_queue-in-Table-OfTable.ensures.kept) (record {
          last = w.recall-in-Table-OfTable.ensures.last;
          new = w.recall-in-Table-OfTable.ensures.new;
          begins = w.recall-in-Table-OfTable.ensures.begins;
          always = w.recall-in-Table-OfTable.ensures.always;
          moves = w.recall-in-Table-OfTable.ensures.moves;
          linear = w.recall-in-Table-OfTable.ensures.linear;
          told = w.recall-in-Table-OfTable.ensures.told;
        }),
        w.recall_queue-in-Table-OfTable.ensures.told,
      )
      )
]
