-- Where the ranges are apart and mapped, too many areas are the only cause left.
use Rattle.std.proofs.Common.{◌<◌, List, length, refl, sym, subst}
use Rattle.std.specs.Prelude.{OnErr}
use Rattle.word_bits.specs.declared.area.Area.{Area}
use Rattle.word_bits.specs.PageMaps.{PageMap, runs}
use Rattle.vma_map.specs.Runs.{page_map}
use Rattle.vma_map.specs.Remaps.{IsMoved}
use Rattle.vma_map.proofs.MoveLemmas.{answered}
use Rattle.vma_map.proofs.remapping.remap.Goals as goal

pub returns-clause-answer : goal.returns-clause-answer
returns-clause-answer g c =
    let areas = g.S.AreaStore.areas c.args.place.now c.args.hand.now in
    let many = subst (λ (xs : List Area). OnErr c.move_apart.result ((next : PageMap) → IsMoved (page_map xs) c.args.start c.args.len c.args.to next → 256 < length (runs next))) c.is_mapped.ensures.same c.move_apart.ensures.many in
    answered (page_map areas) c.args.start c.args.len c.args.to c.move_apart.result (c.if-not-are_apart.ensures.0 refl) (sym c.if-not-is_mapped.ensures.value) c.move_apart.ensures.page c.move_apart.ensures.error many
