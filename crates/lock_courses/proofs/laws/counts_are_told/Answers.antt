use Rattle.lock_courses.proofs.Telling.{counts_are_told}
use Rattle.lock_courses.proofs.laws.counts_are_told.Goals as goal

pub returns : goal.returns
returns c = counts_are_told
