-- The pages of areas in order can be stored.
use Rattle.vma_map.specs.Laws.Space.{IsPageMap-page_map}
use Rattle.vma_map.proofs.areas.AreasValueObject.apply.Goals as goal

pub returns-clause-sound : goal.returns-clause-sound
returns-clause-sound c = IsPageMap-page_map c.apply.new.hand.items c.apply.ensures.has
