use Rattle.std.proofs.Common.{codes, refl, arith}
use Rattle.std.proofs.lemmas.Slice.Eq.{text_from_reads}
use Rattle.task_script.proofs.verb.table_verb.Goals as goal

pub returns-in-signal : goal.returns-in-signal
returns-in-signal c = let text = text_from_reads c.args.word.now (codes "signal") (omega arith) (omega arith, (omega arith, (omega arith, (omega arith, (omega arith, (omega arith, tt)))))) in rw text refl
