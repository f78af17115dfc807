use Rattle.lock_decode.proofs.Exist.{unused, any_node, whole}
use Rattle.lock_decode.proofs.here.spin_lock.Goals as goal

pub returns-in_default : goal.returns-in_default
returns-in_default c = record {
  told = λ s can. c.in_default.ensures s (any_node s.tail can.0, can.1);
  why = unused c.args.word (whole _ (λ p. let e = c.if-has_node_alone.ensures.1 p in cc)) c.in_default.ensures;
}
