-- A remap that is done means the pages that it left.
use Rattle.std.proofs.Common.{length, sym, ap, arith}
use Rattle.vma_map.specs.Runs.{page_map}
use Rattle.vma_map.specs.Laws.PageRun.{runs-page_map}
use Rattle.vma_map.proofs.RemapLemmas.{remapped-ok}
use Rattle.vma_map.proofs.calls.remap_pages.Goals as goal

pub returns-clause-next : goal.returns-clause-next
returns-clause-next g c =
    let next = g.S.AreaStore.areas c.args.place.now c.remap.new.hand in
    let space = g.met.S.AreaStore.in_order c.args.place.now c.remap.new.hand c.remap.ensures.has in
    let long = ap length (runs-page_map next space.runs) in
    let few = space.few in
    ap (λ r. r.0) (sym (remapped-ok (page_map (g.S.AreaStore.areas c.args.place.now c.args.hand.now)) (page_map next) c.args.start c.args.len c.args.to c.in_ok-page.page c.in_ok-page.ensures.answer c.in_ok-page.ensures.moved (omega (arith, long, few))))

pub returns-clause-reply : goal.returns-clause-reply
returns-clause-reply g c =
    let next = g.S.AreaStore.areas c.args.place.now c.remap.new.hand in
    let space = g.met.S.AreaStore.in_order c.args.place.now c.remap.new.hand c.remap.ensures.has in
    let long = ap length (runs-page_map next space.runs) in
    let few = space.few in
    ap (λ r. r.1) (sym (remapped-ok (page_map (g.S.AreaStore.areas c.args.place.now c.args.hand.now)) (page_map next) c.args.start c.args.len c.args.to c.in_ok-page.page c.in_ok-page.ensures.answer c.in_ok-page.ensures.moved (omega (arith, long, few))))
