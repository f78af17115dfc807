use Rattle.std.proofs.Common.{◌≡◌, []}
use Rattle.mm_serve.specs.Workers.{EachOf}
use Rattle.mm_serve.proofs.Opens.{FilledTo}
use Rattle.mm_serve.proofs.opening.split_all.Given as goal

abbrev pub invariant-loop-object : goal.invariant-loop-object
invariant-loop-object g l =
    EachOf (λ k s p. g.S.SharedObject.idle s p × ((g.S.SharedObject.hand p).seen ≡ [])) l.sites l.gathered.items
    × FilledTo (λ k s p. g.S.SharedObject.idle s p × ((g.S.SharedObject.hand p).seen ≡ [])) l.object l.sites l.passes.items
