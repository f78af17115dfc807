use Rattle.std.proofs.Common.{◌≡◌, []}
use Rattle.mm_serve.specs.Workers.{EachOf}
use Rattle.mm_serve.proofs.Each.{Between}
use Rattle.mm_serve.proofs.worker.begin_all.Given as goal

abbrev pub invariant-loop-object : goal.invariant-loop-object
invariant-loop-object g l = EachOf (Between (λ k s p. g.S.SharedObject.serving s p l.task × ((g.S.SharedObject.hand p).done ≡ 0)) (λ k s p. g.S.SharedObject.idle s p × ((g.S.SharedObject.hand p).seen ≡ [])) l.object) l.sites l.passes.items
