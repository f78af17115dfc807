use Rattle.lock_courses.proofs.Telling.{owners_are_told}
use Rattle.lock_courses.proofs.laws.owners_are_told.Goals as goal

pub returns : goal.returns
returns c = owners_are_told
