use Rattle.std.proofs.Common.{rules}
use Rattle.kept_demo.proofs.SameItems.{same-items}
use Rattle.kept_demo.proofs.queue.relay_as.Goals as goal

pub returns : goal.returns
returns g c = same-items g.T.Items.item _ _ (search rules) (search rules) c.requires
