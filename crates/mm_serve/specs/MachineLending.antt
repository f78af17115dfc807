-- A machine's results that are lent.
use Rattle.std.specs.Borrow.{Lends, MutBor, Fml, RattleType}
use Rattle.word_bits.specs.Snapshots.{Words}
use Rattle.std.specs.Prelude.{List}
use Rattle.mm_report.specs.contracts.results.Results.{the_row as results_row}
use Rattle.mm_serve.specs.declared.machine.Machine.{Machine}
use Rattle.mm_serve.specs.contracts.machine.Machine.{the_row}

-- the machine ends with the results that were left behind r, and is as before otherwise
abbrev pub LendsResults : (S C P U : RattleType) → MutBor (Machine S.Denot C.Denot P.Denot U.Denot) → MutBor (List Words) → Fml
LendsResults S C P U m r = Lends (the_row S C P U) results_row m r (λ words. record m.now { results = words })
