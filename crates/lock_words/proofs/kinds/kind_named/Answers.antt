use Rattle.std.proofs.Common.{refl, arith, codes}
use Rattle.std.proofs.lemmas.Slice.Eq.{text_from_reads}
use Rattle.lock_words.proofs.kinds.kind_named.Goals as goal

pub returns-in-percpu : goal.returns-in-percpu
returns-in-percpu c = let text = text_from_reads c.args.name.now (codes "percpu") (omega arith) (omega arith, (omega arith, (omega arith, (omega arith, (omega arith, (omega arith, tt)))))) in rw text refl

pub returns-in-115 : goal.returns-in-115
returns-in-115 c = let text = text_from_reads c.args.name.now (codes "spin-16k") (omega arith) (omega arith, (omega arith, (omega arith, (omega arith, (omega arith, (omega arith, (omega arith, (omega arith, tt)))))))) in rw text refl
