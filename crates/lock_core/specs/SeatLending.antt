-- A pass's pass of the site that is lent.
use Rattle.std.specs.Borrow.{Lends, MutBor, Fml, RattleType}
use Rattle.lock_core.specs.declared.pass.Pass.{Pass}
use Rattle.lock_core.specs.contracts.pass.Pass.{the_row}

-- the pass ends with the pass of the site that was left behind r
abbrev pub LendsSeat : (P R O E C : RattleType) → (P.Denot → Pass R.Denot O.Denot E.Denot C.Denot → P.Denot) → MutBor P.Denot → MutBor (Pass R.Denot O.Denot E.Denot C.Denot) → Fml
LendsSeat P R O E C put p r = Lends P (the_row R O E C) p r (put p.now)
