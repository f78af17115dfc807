use Rattle.std.proofs.Common.{◌≡◌, ◌∙◌, length, sym, ap}
use Rattle.lock_core.specs.Records.{row}
use Rattle.mm_serve.specs.Workers.{calls_to}
use Rattle.mm_serve.proofs.Each.{each-map}
use Rattle.mm_serve.proofs.worker.serve.Goals as goal

pub end_all-requires : goal.end_all-requires
end_all-requires g c = record {
  passes = each-map (λ k s p. g.S.SharedObject.serving s p c.args.worker.now.task × ((g.S.SharedObject.hand p).done ≡ calls_to k c.as_slice.result.now))
      (λ k s p. g.S.SharedObject.serving s p c.args.worker.now.task × ((g.S.SharedObject.hand p).done ≡ length (row (g.S.SharedObject.calls_on s) c.args.worker.now.task)))
      c.args.sites.now c.perform_all.new.passes.items c.perform_all.ensures
      (λ k s p lt at w. (w.0, w.1 ∙ (ap (calls_to k) c.as_slice.ensures.value ∙ sym (c.requires.ready.calls k s at))));
}
