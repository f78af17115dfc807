use Rattle.std.proofs.Common.{arith}
use Rattle.lock_decode.proofs.Exist.{nodeless}
use Rattle.lock_decode.proofs.linux.wide_spin.Goals as goal

pub returns-in-None : goal.returns-in-None
returns-in-None c = record {
  told = λ s can. c.in-None.ensures s can;
  why = nodeless c.args.word (omega arith) (omega arith) c.in-None.ensures;
}
