use Rattle.std.proofs.Common.{◌∙◌, sym}
use Rattle.rwsem_slow.proofs.reader.sleep.hear_locked.Goals as goal

pub hear_locked-requires-clause-task : goal.hear_locked-requires-clause-task
hear_locked-requires-clause-task g c = (c.requires.own.planned c.in-Some.task (sym c.task.ensures ∙ c.in-Some.is)).0
