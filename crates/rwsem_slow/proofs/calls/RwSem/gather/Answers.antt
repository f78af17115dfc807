use Rattle.std.proofs.Common.{List, slice_get, ap}
use Rattle.rwsem_slow.specs.Types.{Past}
use Rattle.lock_core.specs.SiteHandles.{past_of}
use Rattle.rwsem_slow.proofs.calls.RwSem.gather.Goals as goal

pub returns-clause-others_past : goal.returns-clause-others_past
returns-clause-others_past g c = c.recall.ensures.joined 0 (record { moments = past_of c.args.other.pass }) (ap (λ (z : List Past). slice_get z 0) c.gather.ensures.joined)
