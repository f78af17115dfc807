use Rattle.std.proofs.Common.{◌≡◌, length}
use Rattle.program_tests.proofs.report_tests.push_state.Given as goal

abbrev pub invariant-loop-place : goal.invariant-loop-place
invariant-loop-place l = record {
  pushed : length l.snapshot.state ≡ l.place;
  room : l.snapshot.state_room ≡ l.initial.snapshot.state_room;
  recs : l.snapshot.recs ≡ l.initial.snapshot.recs;
}
