use Rattle.rwsem_slow.proofs.LostWakes.{loses_no_wake}
use Rattle.rwsem_slow.proofs.laws.loses_no_wake.Goals as goal

pub returns : goal.returns
returns c = loses_no_wake
