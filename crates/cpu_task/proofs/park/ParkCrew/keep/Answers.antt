use Rattle.std.proofs.Common.{arith}
use Rattle.std.proofs.lemmas.Grind.{common_steps}
use Rattle.std.proofs.lemmas.List.{map-set}
use Rattle.cpu_task.proofs.park.ParkCrew.keep.Goals as goal

pub returns : goal.returns
returns c = record {
  inside = λ inside. grind (arith, common_steps, map-set);
  outside = λ outside. grind (arith, common_steps);
}
