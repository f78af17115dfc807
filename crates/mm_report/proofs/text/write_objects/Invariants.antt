use Rattle.std.proofs.Common.{◌≡◌, ◌++◌, drop, List, ℕ}
use Rattle.byte_streams.specs.Causes.{IsOnItsWay}
use Rattle.mm_report.specs.Results.{Told, AreLegal, AreLegalFrom}
use Rattle.mm_report.specs.Reports.{report_from, report_of}
use Rattle.mm_report.proofs.text.write_objects.Given as goal

abbrev pub invariant-loop-object : goal.invariant-loop-object
invariant-loop-object g l = record {
  text : (told : List Told) → AreLegal l.script l.results told →
      (done : List ℕ) × IsOnItsWay (g.K.Sink.written l.fn.sink) (g.K.Sink.written l.sink) l.out (l.fn.out ++ done)
      × (done ++ report_from l.summary l.script l.object (drop l.object l.script.objects) (drop l.object told) ≡ report_of l.summary l.script told)
      × AreLegalFrom l.script l.object (drop l.object l.script.objects) (drop l.object l.results) (drop l.object told);
  kept : g.K.Sink.faults l.sink ≡ g.K.Sink.faults l.fn.sink;
}
