use Rattle.std.proofs.Common.{◌≡◌, take}
use Rattle.mm_serve.specs.Workers.{EachOf, calls_to}
use Rattle.mm_serve.proofs.worker.perform_all.Given as goal

abbrev pub invariant-loop-number : goal.invariant-loop-number
invariant-loop-number g l = EachOf (λ k s p. g.S.SharedObject.serving s p l.task × ((g.S.SharedObject.hand p).done ≡ calls_to k (take l.number-index l.objects))) l.sites l.passes.items
