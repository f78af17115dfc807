use Rattle.std.proofs.Common.{codes, refl, arith}
use Rattle.std.proofs.lemmas.Slice.Eq.{text_from_reads}
use Rattle.task_script.proofs.verb.space_verb.Goals as goal

pub returns-in-mapnew : goal.returns-in-mapnew
returns-in-mapnew c = let text = text_from_reads c.args.word.now (codes "mapnew") (omega arith) (omega arith, (omega arith, (omega arith, (omega arith, (omega arith, (omega arith, tt)))))) in rw text refl

pub returns-in-signal : goal.returns-in-signal
returns-in-signal c = let text = text_from_reads c.args.word.now (codes "signal") (omega arith) (omega arith, (omega arith, (omega arith, (omega arith, (omega arith, (omega arith, tt)))))) in rw text refl

pub returns-in-protect : goal.returns-in-protect
returns-in-protect c = let text = text_from_reads c.args.word.now (codes "protect") (omega arith) (omega arith, (omega arith, (omega arith, (omega arith, (omega arith, (omega arith, (omega arith, tt))))))) in rw text refl

pub returns-in-populate : goal.returns-in-populate
returns-in-populate c = let text = text_from_reads c.args.word.now (codes "populate") (omega arith) (omega arith, (omega arith, (omega arith, (omega arith, (omega arith, (omega arith, (omega arith, (omega arith, tt)))))))) in rw text refl
