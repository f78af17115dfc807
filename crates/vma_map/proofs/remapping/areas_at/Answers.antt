-- The next area stands behind those that were read.
use Rattle.std.proofs.Common.{◌∙◌}
use Rattle.vma_map.proofs.MoveLemmas.{read-more}
use Rattle.vma_map.proofs.remapping.areas_at.Goals as goal

pub loop-i-preserved : goal.loop-i-preserved
loop-i-preserved g c =
    let areas = g.S.AreaStore.areas c.args.place.now c.args.hand.now in
    let now = g.S.AreaStore.areas c.args.place.now c.loop-i.hand in (
      c.get.ensures.has,
      g.met.S.AreaStore.keeps_on c.args.place.now c.args.hand.now c.loop-i.hand c.get.new.hand c.loop-i.invariant.1 c.get.ensures.kept,
      c.get.ensures.same ∙ c.loop-i.invariant.2,
      c.push.ensures.items ∙ read-more areas now c.loop-i.areas.items c.args.at c.loop-i.i c.get.result c.loop-i.invariant.2 c.get.ensures.area c.loop-i.invariant.3,
    )
