-- The first area leaves what it has in front of the page.
use Rattle.std.proofs.Common.{[], drop, sym, ap, cond, ltb, Some, None, ◌∙◌}
use Rattle.vma_map.specs.Runs.{page_map}
use Rattle.vma_map.specs.Spaces.{changed}
use Rattle.vma_map.proofs.CutLemmas.{first_of}
use Rattle.vma_map.proofs.SpliceLemmas.{first_piece}
use Rattle.vma_map.proofs.range.piece_before.Goals as goal

pub returns-in-Some-clause-pages : goal.returns-in-Some-clause-pages
returns-in-Some-clause-pages c = λ q.
    let areas = c.args.areas.now in
    let is = first_of areas c.in-Some.area.now (sym c.in-Some.ensures.value) in
    let reach = rw is at c.requires.reach in
    let none = ap (λ xs. changed (page_map xs) c.in-Some.area.now.start c.min.result (Some c.in-Some.area.now.prot) q) c.new-pieces.ensures in
    c.append.ensures.pages q ∙ none ∙ ap (λ e. changed (page_map []) c.in-Some.area.now.start e (Some c.in-Some.area.now.prot) q) c.min.ensures ∙ first_piece c.in-Some.area.now (drop 1 areas) c.args.page (rw is at c.requires.runs) reach.0 q ∙ ap (λ xs. cond (ltb q c.args.page) (page_map xs q) None) (sym is)
