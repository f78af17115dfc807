use Rattle.osq_nodes.proofs.Heading.{has-head}
use Rattle.osq_nodes.proofs.laws.queue_has_head.Goals as goal

pub returns : goal.returns
returns c = has-head
