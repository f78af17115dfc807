-- Each of the four parts stands where it belongs.
use Rattle.std.proofs.Common.{◌≡◌, ℕ, List, ap, ◌∙◌}
use Rattle.word_bits.specs.declared.area.Area.{Area}
use Rattle.word_bits.specs.PageMaps.{no_pages}
use Rattle.vma_map.specs.Runs.{page_map}
use Rattle.vma_map.specs.Remaps.{with_moved}
use Rattle.vma_map.specs.Laws.Area.{page_map-past}
use Rattle.vma_map.proofs.MoveLemmas.{IsMoved-down}
use Rattle.vma_map.proofs.remapping.moved_down.Goals as goal

pub returns-clause-moved : goal.returns-clause-moved
returns-clause-moved c =
    let areas = c.args.areas.now in
    let first : (q : ℕ) → page_map c.append_moved.new.next.items q ≡ with_moved no_pages (page_map areas) 0 c.args.to 0 q = λ q. c.append_moved.ensures.pages q ∙ ap (λ (xs : List Area). with_moved (page_map xs) (page_map areas) 0 c.args.to 0 q) c.new-next.ensures in
    IsMoved-down (page_map areas) (page_map c.append_moved.new.next.items) (page_map c.append_moved-2.new.next.items) (page_map c.append_moved-3.new.next.items) (page_map c.append_moved-4.new.next.items) c.args.start c.args.len c.args.to (page_map-past areas c.requires.runs) c.requires.down c.requires.within first c.append_moved-2.ensures.pages c.append_moved-3.ensures.pages c.append_moved-4.ensures.pages
