-- The start that was found is the lowest free one.
use Rattle.std.proofs.Common.{◌≡◌, Some, sym, ap, ◌∙◌}
use Rattle.vma_map.specs.Runs.{page_map}
use Rattle.vma_map.specs.Spaces.{lowest_free, mapped}
use Rattle.vma_map.proofs.QueryLemmas.{mapped_any-at}
use Rattle.vma_map.proofs.calls.map_any.Goals as goal

pub returns-clause-next : goal.returns-clause-next
returns-clause-next g c =
    let areas = g.S.AreaStore.areas c.args.place.now c.args.hand.now in
    let at : lowest_free (page_map areas) c.args.len ≡ Some c.in_ok-start.start = sym c.lowest_free.ensures.value ∙ c.in_ok-start.ensures.ok_part in
    c.map.ensures.next ∙ ap (λ xs. (mapped (page_map xs) c.in_ok-start.start c.args.len c.args.prot).0) c.lowest_free.ensures.same ∙ ap (λ r. r.0) (sym (mapped_any-at (page_map areas) c.args.len c.args.prot c.in_ok-start.start c.if-len-eq0.false at))
