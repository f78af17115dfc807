use Rattle.std.proofs.Common.{◌≡◌, ℕ, ◌+◌, ◌*◌, subst, arith, IfOk, IfErr}
use Rattle.qspin_word.specs.SpinWordHandles.{FirstFoundFree, TriesOnlyFree}
use Rattle.qspin_word.proofs.word.trylock.Goals as goal

pub returns-clause-loaded : goal.returns-clause-loaded
returns-clause-loaded g c = let f : ℕ = g.H.SpinHost.FIRST in let e : f + 8 * 0 ≡ f = omega arith in subst (λ (at : ℕ). IfOk c.trylock_at.result (λ _. FirstFoundFree at c.args.pass.now c.trylock_at.new.pass)) e c.trylock_at.ensures.loaded

pub returns-clause-exchanged : goal.returns-clause-exchanged
returns-clause-exchanged g c = let f : ℕ = g.H.SpinHost.FIRST in let e : f + 8 * 0 ≡ f = omega arith in subst (λ (at : ℕ). IfErr c.trylock_at.result (λ _. TriesOnlyFree at c.args.pass.now c.trylock_at.new.pass)) e c.trylock_at.ensures.exchanged
