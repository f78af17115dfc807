use Rattle.std.proofs.Common.{◌≡◌, ◌+◌, ℕ}
use Rattle.fd_table.specs.Tables.{fd_map}
use Rattle.mm_report.specs.Text.{descriptors_text}
use Rattle.mm_report.proofs.Remaining.{Remains}
use Rattle.mm_report.proofs.state.write_descriptors.Given as goal

abbrev pub invariant-loop-fd : goal.invariant-loop-fd
invariant-loop-fd g l = record {
  text : (count : ℕ) × (count + l.fd ≡ 64)
      × Remains (g.K.Sink.written l.fn.sink) (g.K.Sink.written l.sink) l.fn.out l.out (descriptors_text (fd_map l.fds) l.fd count) (descriptors_text (fd_map l.fds) 0 64);
  kept : g.K.Sink.faults l.sink ≡ g.K.Sink.faults l.fn.sink;
}
