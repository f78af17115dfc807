use Rattle.std.proofs.Common.{◌∙◌, sym}
use Rattle.seq_fault.specs.SeqHandles.{done_in}
use Rattle.seq_fault.specs.SeqRuled.{never}
use Rattle.vma_map.specs.Spaces.{space}
use Rattle.lock_bench.proofs.FaultPassing.{begun, next-map}
use Rattle.lock_bench.proofs.seq_faults.map_area.Goals as goal

pub write-requires-clause-next : goal.write-requires-clause-next
write-requires-clause-next g c =
    let site = c.args.space.now in
    let at = begun site space never c.args.pass.now c.begin.new.pass c.args.task c.requires.idle c.begin.ensures.on.own c.begin.ensures.became c.begin.ensures.beside in
    next-map site c.begin.new.pass c.args.task (done_in c.begin.new.pass) at c.requires.maps (at.own.done ∙ (sym c.done.ensures ∙ c.if-done-eq0.true))
