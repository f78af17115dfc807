use Rattle.std.proofs.Common.{◌≡◌, ◌∙◌, ap, length}
use Rattle.std.proofs.lemmas.Iterator.Adapters.{YieldsList-from_skip, YieldsList-from_vec, fact_from_collect}
use Rattle.std.proofs.lemmas.Result.{IfOk-weaker}
use Rattle.std.specs.Vec.{vec_len}
use Rattle.std.specs.Vec.Iter.{into_iter_items, into_iter_len}
use Rattle.mm_program.proofs.run.words_behind.Goals as goal

pub returns : goal.returns
returns c =
    let items = into_iter_items c.args.line in
    let whole = YieldsList-from_vec items (ap into_iter_items c.skip.ensures.source) (ap into_iter_len c.skip.ensures.source ∙ c.args.line.rest.ok.0) in
    IfOk-weaker c.collect.result _ _ (λ words is. is.0)
    (fact_from_collect (λ xs words. (words.items ≡ xs) × (vec_len words ≡ length xs)) c.collect.result c.collect.ensures.ran (YieldsList-from_skip 1 whole c.skip.ensures.count))
