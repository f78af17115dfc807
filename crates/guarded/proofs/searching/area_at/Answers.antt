-- The word at the place is that of the area.
use Rattle.std.proofs.Common.{◌^◌, ◌<◌, Some, sym, ap, subst, ◌∙◌, arith}
use Rattle.std.proofs.lemmas.Option.{slice_get-get_or}
use Rattle.vma_map.proofs.RangeLemmas.{no_area}
use Rattle.guarded.specs.Splicing.{area_of, areas_in}
use Rattle.guarded.specs.Types.{Area}
use Rattle.guarded.proofs.Spliced.{area-at, area_of-word, area_word-fits}
use Rattle.guarded.proofs.searching.area_at.Goals as goal

pub word-requires-clause-inside : goal.word-requires-clause-inside
word-requires-clause-inside g c = let most = c.requires.areas.space.few in let inside = c.requires.inside in omega (arith, most, inside)

pub area_of-requires : goal.area_of-requires
area_of-requires g c =
    let is = area-at (g.L.SiteLock.view c.args.pass.now).hand.known c.args.at c.requires.areas c.requires.inside in
    subst (λ word. word < 2 ^ 44) (is.1 ∙ sym c.word.ensures.value) (area_word-fits _ is.0)

pub returns-clause-area : goal.returns-clause-area
returns-clause-area g c =
    let known = (g.L.SiteLock.view c.args.pass.now).hand.known in
    let is = area-at known c.args.at c.requires.areas c.requires.inside in
    let same = sym (area_of-word _ is.0) ∙ ap area_of (is.1 ∙ sym c.word.ensures.value) ∙ sym c.area_of.ensures in
    slice_get-get_or (areas_in known) c.args.at no_area c.requires.inside ∙ ap (λ (a : Area). Some a) same
