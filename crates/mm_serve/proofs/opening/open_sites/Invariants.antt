use Rattle.std.proofs.Common.{◌≡◌, ◌++◌, [], length}
use Rattle.mm_serve.specs.Workers.{EachOf}
use Rattle.mm_serve.proofs.Opens.{OpenedTo}
use Rattle.mm_serve.proofs.opening.open_sites.Given as goal

abbrev pub invariant-loop-plan : goal.invariant-loop-plan
invariant-loop-plan g l =
    (goal.iterator-loop-plan g).can_next l.plan-iterator
    × (goal.iterator-loop-plan g).is_finite l.plan-iterator
    × OpenedTo g.S.SharedObject.is_space g.S.SharedObject.calls_on l.script (length l.yielded) l.sites.items
    × EachOf (λ k s p. g.S.SharedObject.idle s p × ((g.S.SharedObject.hand p).seen ≡ [])) l.sites.items l.passes.items
    × (l.yielded ++ l.plan-iterator.rest.items ≡ l.fn.plans.items)
