use Rattle.task_script.proofs.Splitting.{clean_said}
use Rattle.task_script.proofs.cut.said.Goals as goal

pub returns-then-clean : goal.returns-then-clean
returns-then-clean c = clean_said c.args.line.now (c.requires c.if-clean.true)
