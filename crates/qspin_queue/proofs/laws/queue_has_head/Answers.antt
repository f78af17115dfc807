use Rattle.qspin_queue.proofs.Heading.{has-head}
use Rattle.qspin_queue.proofs.laws.queue_has_head.Goals as goal

pub returns : goal.returns
returns c = has-head
