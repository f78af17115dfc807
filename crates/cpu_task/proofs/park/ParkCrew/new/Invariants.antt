use Rattle.std.proofs.Common.{◌≡◌, None, map, replicate, vec_len, vec_capacity}
use Rattle.cpu_task.specs.Parking.{kept_parker}
use Rattle.cpu_task.proofs.park.ParkCrew.new.Given as goal

abbrev pub invariant-loop : goal.invariant-loop
invariant-loop l = record {
  room : vec_capacity l.places ≡ l.tasks;
  len : vec_len l.places ≡ l.counter;
  kept : map kept_parker l.places.items ≡ replicate l.counter None;
}
