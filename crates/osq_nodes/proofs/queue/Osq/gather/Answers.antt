use Rattle.std.proofs.Common.{ap, slice_get}
use Rattle.osq_nodes.proofs.queue.Osq.gather.Goals as goal

pub returns-clause-taken : goal.returns-clause-taken
returns-clause-taken c = c.recall.ensures.joined 0 _ (ap (λ z. slice_get z 0) c.gather.ensures.joined)
