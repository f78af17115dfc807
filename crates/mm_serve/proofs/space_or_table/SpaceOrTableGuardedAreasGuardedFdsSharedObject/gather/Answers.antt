use Rattle.mm_serve.proofs.Same.{takes-in}
use Rattle.mm_serve.proofs.space_or_table.SpaceOrTableGuardedAreasGuardedFdsSharedObject.gather.Goals.{in-Space-OfSpace-OfSpace, in-Table-OfTable-OfTable}
use Rattle.mm_serve.proofs.space_or_table.SpaceOrTableGuardedAreasGuardedFdsSharedObject.gather.Goals as goal

pub returns-clause-taken : goal.returns-clause-taken
returns-clause-taken g c = elim c.match-self.branch [
  | in-Space-OfSpace-OfSpace w ↦ rw (w.in-Space-OfSpace-OfSpace.is-2, w.into-is) (takes-in (g.A.SiteLock.view w.in-Space-OfSpace-OfSpace.into).hand (g.A.SiteLock.view w.in-Space-OfSpace-OfSpace.other).hand (g.A.SiteLock.view w.gather.new.into).hand w.gather.ensures.kept.0)
  | in-Table-OfTable-OfTable w ↦ rw (w.in-Table-OfTable-OfTable.is-2, w.into-is) (takes-in (g.T.SiteLock.view w.in-Table-OfTable-OfTable.into).hand (g.T.SiteLock.view w.in-Table-OfTable-OfTable.other).hand (g.T.SiteLock.view w.gather-in-Table-OfTable-OfTable.new.into).hand w.gather-in-Table-OfTable-OfTable.ensures.kept.0)
]

pub returns-clause-goes_on : goal.returns-clause-goes_on
returns-clause-goes_on g c = elim c.match-self.branch [
  | in-Space-OfSpace-OfSpace w ↦ rw (w.in-Space-OfSpace-OfSpace.is-1, w.into-is) w.gather.ensures.on.goes_on
  | in-Table-OfTable-OfTable w ↦ rw (w.in-Table-OfTable-OfTable.is-1, w.into-is) w.gather-in-Table-OfTable-OfTable.ensures.on.goes_on
]

pub returns-clause-others_past : goal.returns-clause-others_past
returns-clause-others_past g c = elim c.match-self.branch [
  | in-Space-OfSpace-OfSpace w ↦ rw (w.in-Space-OfSpace-OfSpace.is-2, w.into-is) w.gather.ensures.others_past
  | in-Table-OfTable-OfTable w ↦ rw (w.in-Table-OfTable-OfTable.is-2, w.into-is) w.gather-in-Table-OfTable-OfTable.ensures.others_past
]

pub returns-clause-queue : goal.returns-clause-queue
returns-clause-queue g c = elim c.match-self.branch [
  | in-Space-OfSpace-OfSpace w ↦ rw (w.in-Space-OfSpace-OfSpace.is-1, w.into-is) w.gather.ensures.queue
  | in-Table-OfTable-OfTable w ↦ rw (w.in-Table-OfTable-OfTable.is-1, w.into-is) w.gather-in-Table-OfTable-OfTable.ensures.queue
]

pub returns-clause-others_queue : goal.returns-clause-others_queue
returns-clause-others_queue g c = elim c.match-self.branch [
  | in-Space-OfSpace-OfSpace w ↦ rw (w.in-Space-OfSpace-OfSpace.is-2, w.into-is) w.gather.ensures.others_queue
  | in-Table-OfTable-OfTable w ↦ rw (w.in-Table-OfTable-OfTable.is-2, w.into-is) w.gather-in-Table-OfTable-OfTable.ensures.others_queue
]
