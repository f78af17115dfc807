use Rattle.std.proofs.Common.{arith}
use Rattle.lock_decode.proofs.Exist.{count}
use Rattle.lock_decode.proofs.linux.semaphore_count.Goals as goal

pub returns-in_default : goal.returns-in_default
returns-in_default c = record {
  told = λ n can. c.in_default.ensures n (can.0.ranged, can.1);
  why = λ clear. let n = count c.args.word (omega arith) clear in c.in_default.ensures n.0 (n.1, n.2);
}
