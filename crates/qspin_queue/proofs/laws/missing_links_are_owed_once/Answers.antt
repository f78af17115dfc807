use Rattle.qspin_queue.proofs.Heading.{owed-once}
use Rattle.qspin_queue.proofs.laws.missing_links_are_owed_once.Goals as goal

pub returns : goal.returns
returns c = owed-once
