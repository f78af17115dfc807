-- Each area is one, and its word goes behind those so far.
use Rattle.std.proofs.Common.{arith}
use Rattle.vma_map.proofs.RangeLemmas.{AreRuns-at}
use Rattle.vma_map.proofs.WordLemmas.{store_more}
use Rattle.vma_map.proofs.words.store.Goals as goal

pub pack-requires : goal.pack-requires
pack-requires c = AreRuns-at _ _ _ (omega arith) c.requires.space.runs

pub loop-i-preserved : goal.loop-i-preserved
loop-i-preserved c = rw c.pack.ensures (store_more c.args.areas.now c.loop-i.i _ _ _ (omega arith) c.requires.space.few c.loop-i.invariant)
