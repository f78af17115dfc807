use Rattle.std.proofs.Common.{◌∙◌, sym}
use Rattle.rwsem_slow.proofs.reader.sleep.hear.Goals as goal

pub hear-requires-clause-task : goal.hear-requires-clause-task
hear-requires-clause-task g c = (c.requires.own.planned c.in-Some.task (sym c.task.ensures ∙ c.in-Some.is)).0
