-- What a step says by the parts of a host's rule, said of the fields of what its passes know.
use Rattle.std.proofs.Common.{◌≡◌, ℕ, Option, subst, ◌∙◌}
use Rattle.wait_list.specs.Lists.{FindsFirst, FindsNext, Removes}
use Rattle.rwsem_wake.specs.Grants.{OnlySem}
use Rattle.rwsem_wake.specs.RwSemViews.{V, list_of, sem_of, with_list, with_sem}
use Rattle.rwsem_wake.specs.Types.{Waiter, Change, ListHand, RwSemHand, SemHand}

abbrev Lists : Type 0
Lists = (RwSemHand → ListHand) × (Change → V → ListHand → RwSemHand)

module _ (list : RwSemHand → ListHand) (put : Change → V → ListHand → RwSemHand) (l : list ≡ list_of) (p : put ≡ with_list) where
  pub finds-first : (v : V) (first : Option Waiter) (u : V) → FindsFirst list put v first u → FindsFirst list_of with_list v first u
  finds-first v first u = subst (λ (z : Lists). FindsFirst z.0 z.1 v first u) (λ i. (l i, p i))

  pub finds-next : (v : V) (t : ℕ) (next : Option Waiter) (u : V) → FindsNext list put v t next u → FindsNext list_of with_list v t next u
  finds-next v t next u = subst (λ (z : Lists). FindsNext z.0 z.1 v t next u) (λ i. (l i, p i))

  pub removes : (v : V) (t : ℕ) (u : V) → Removes list put v t u → Removes list_of with_list v t u
  removes v t u = subst (λ (z : Lists). Removes z.0 z.1 v t u) (λ i. (l i, p i))

module _ (sem : RwSemHand → SemHand) (put : RwSemHand → SemHand → RwSemHand) (s : sem ≡ sem_of) (p : put ≡ with_sem) where
  pub only-sem : (v : V) (does : SemHand → SemHand) (u : V) → OnlySem put v (does (sem v.ext)) u → OnlySem with_sem v (does v.ext.sem) u
  only-sem v does u is = is ∙ (λ i. record v { steps = u.steps; ext = p i v.ext (does (s i v.ext)) })
