-- The areas of the used words are those of all words.
use Rattle.std.proofs.Common.{take, drop, get_or, sym, ap, ◌∙◌, arith}
use Rattle.std.proofs.lemmas.List.{take_rest}
use Rattle.vma_map.proofs.WordLemmas.{load_found, load_dirty}
use Rattle.vma_map.proofs.words.load.Goals as goal

pub returns-then-not-all_zero : goal.returns-then-not-all_zero
returns-then-not-all_zero c =
    let words = c.args.words.now in
    let n = get_or words 0 0 in
    λ areas is. load_dirty words _ c.requires (omega arith) (c.split_at.ensures.back ∙ ap (drop n) (take_rest words 1)) (sym c.if-not-all_zero.ensures) areas.items is

pub returns : goal.returns
returns c =
    let words = c.args.words.now in
    let n = get_or words 0 0 in
    load_found words _ _ c.load_areas.result c.requires (omega arith) (c.split_at.ensures.front ∙ ap (take n) (take_rest words 1)) (c.split_at.ensures.back ∙ ap (drop n) (take_rest words 1)) (sym c.if-not-all_zero.ensures) c.load_areas.ensures
