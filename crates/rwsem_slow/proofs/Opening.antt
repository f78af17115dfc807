-- From a step that found a count, and left the pass holding, to the whole call.
use Rattle.std.proofs.Common.{◌≡◌, ◌∙◌, ℕ, ◌<◌, ◌≤◌, List, refl, sym, ap, subst, arith}
use Rattle.std.specs.Prelude.{Result, Ok, Err, IfOk}
use Rattle.word_bits.specs.Objects.{Obj}
use Rattle.word_bits.specs.Histories.{Plan}
use Rattle.lock_core.specs.SiteHandles.{view_of, task_in, SitsAt, KeepsPast}
use Rattle.lock_core.specs.Pasts.{FoundAt, GoesOn, IsOwnStep}
use Rattle.lock_core.specs.Laws.SiteRun.{step-by}
use Rattle.lock_core.specs.Shown.{Shown, PastGoesOn, shown}
use Rattle.lock_core.proofs.Within.{found-within}
use Rattle.rwsem_count.specs.CountTries.{TakesSince}
use Rattle.rwsem_slow.specs.RwSemOpening.{TakesFrom, TakesOpen}
use Rattle.rwsem_wake.specs.RwSemPlaces.{line_of, seen_of}
use Rattle.rwsem_wake.specs.RwSemViews.{V, count_at}
use Rattle.rwsem_slow.specs.RwSems.{biased}
use Rattle.rwsem_slow.specs.Stealing.{WentOn}
use Rattle.rwsem_slow.specs.Types.{How, Fast, Spun, Slept, Interrupted, Pass, Site, Held, Moment, RwSemHand}

-- the pass's last step found the count, and left the pass holding
pub takes-from : (held : Held) (fits : ℕ → Type 0) (v u : V) (p q : List Moment) (n : ℕ) → u.hand.task ≡ v.hand.task → u.hand.held ≡ held → v.steps < u.steps → IsOwnStep u q → GoesOn p q → FoundAt count_at n q → fits n → TakesFrom held fits (shown line_of v.fronts v p) (shown line_of u.fronts u q)
takes-from held fits v u p q n same holds later own goes found is = (u.steps, n, later, omega arith, (record { past = q; by = step-by u v.hand.task q same own; found = found; after = goes; goes_on = λ t e. e }, holds), is)

-- so it is of a try that took, at once or after some looks
pub took-since : {Call : Type 0} (o : Obj Call) (k : Plan) (held : Held) (fits : ℕ → Type 0) (v u : V) (p q : List Moment) (n : ℕ) → TakesSince biased o k held v u → IsOwnStep u q → GoesOn p q → FoundAt count_at n q → fits n → TakesFrom held fits (shown line_of v.fronts v p) (shown line_of u.fronts u q)
took-since o k held fits v u p q n took own goes found is = let since = took.1 in let view = took.2.3 in let steps = ap (λ (z : V). z.steps) view in
    takes-from held fits v u p q n (ap (λ (z : V). z.hand.task) view) (ap (λ (z : V). z.hand.held) view) (omega (arith, since, steps)) own goes found is

-- what a part of a call took, the call took
pub takes-within : (held : Held) (fits : ℕ → Type 0) (v a b u : Shown) → a.hand.task ≡ v.hand.task → v.steps ≤ a.steps → PastGoesOn v a → TakesFrom held fits a b → b.steps ≤ u.steps → PastGoesOn b u → TakesFrom held fits v u
takes-within held fits v a b u same steps before f more after = let later = f.2 in let by_now = f.3 in (f.0, f.1, omega (arith, later, steps), omega (arith, by_now, more), (found-within same before after f.4.0, f.4.1), f.5)

module _ {R O C : Type 0} (site : Site R O RwSemHand C) (held : Held) (fits : ℕ → Type 0) where
  pub takes-behind : (v a u : Pass R O RwSemHand C) → SitsAt site v → SitsAt site a → task_in a ≡ task_in v → (view_of v).steps ≤ (view_of a).steps → KeepsPast v a → TakesFrom held fits (seen_of a) (seen_of u) → TakesFrom held fits (seen_of v) (seen_of u)
  takes-behind v a u own own' task steps goes f = takes-within held fits (seen_of v) (seen_of a) (seen_of u) (seen_of u) (sym own'.task ∙ (task ∙ own.task)) steps goes f (omega arith) (λ p t. t)

  pub takes-before : (v b u : Pass R O RwSemHand C) → TakesFrom held fits (seen_of v) (seen_of b) → (view_of b).steps ≤ (view_of u).steps → KeepsPast b u → TakesFrom held fits (seen_of v) (seen_of u)
  takes-before v b u f more after = takes-within held fits (seen_of v) (seen_of v) (seen_of b) (seen_of u) refl (omega arith) (λ p t. t) f more after

-- a writer that waited in the list
pub slept-takes : (v a b u : Shown) (r : Result How Interrupted) → a.hand.task ≡ v.hand.task → v.steps ≤ a.steps → PastGoesOn v a → b.steps ≤ u.steps → PastGoesOn b u → IfOk r (λ how. how ≡ Slept) → IfOk r (λ _. TakesOpen Slept a b) → IfOk r (λ how. TakesOpen how v u)
slept-takes v a b u (Ok how) same steps before more after slept took = subst (λ (h : How). TakesOpen h v u) (sym slept) (takes-within _ _ v a b u same steps before took more after)
slept-takes v a b u (Err why) same steps before more after slept took = tt

abbrev way : How → ℕ
way Fast = 0
way Spun = 1
way Slept = 2

-- a reader that its addition didn't let in isn't fast
pub slow-reads : (P : Type 0) (left : ℕ) (v u : Shown) (r : Result How Interrupted) → IfOk r (λ how. WentOn left how v u) → IfOk r (λ how. how ≡ Fast → P)
slow-reads P left v u (Ok Fast) went = absurd went
slow-reads P left v u (Ok Spun) went = λ e. let w = ap way e in absurd (omega (arith, w))
slow-reads P left v u (Ok Slept) went = λ e. let w = ap way e in absurd (omega (arith, w))
slow-reads P left v u (Err why) went = tt
