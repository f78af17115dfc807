use Rattle.std.proofs.Common.{codes, refl, arith}
use Rattle.std.proofs.lemmas.Slice.Eq.{text_from_reads}
use Rattle.task_script.proofs.token.keyword_of.Goals as goal

pub returns-in-version : goal.returns-in-version
returns-in-version c = let text = text_from_reads c.args.word.now (codes "version") (omega arith) (omega arith, (omega arith, (omega arith, (omega arith, (omega arith, (omega arith, (omega arith, tt))))))) in rw text refl
