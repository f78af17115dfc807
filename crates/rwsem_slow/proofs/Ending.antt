-- How a release changes the count, and whether it goes through the wait lock.
use Rattle.std.proofs.Common.{◌≡◌, ◌∙◌, ℕ, ◌+◌, ◌<◌, ◌≤◌, List, sym, ap, subst}
use Rattle.lock_core.specs.Pasts.{FoundAt, GoesOn, IsOwnStep}
use Rattle.lock_core.specs.Laws.SiteRun.{step-by}
use Rattle.lock_core.specs.Shown.{LeavesHold, shown}
use Rattle.rwsem_wake.specs.RwSemViews.{V, count_at}
use Rattle.rwsem_wake.specs.RwSemPlaces.{line_of}
use Rattle.rwsem_slow.specs.Releasing.{LeavesCount, TurnsHold, WentThrough}
use Rattle.rwsem_slow.specs.Types.{Held, Moment}

-- a step that left the hand
pub leaves-hold : (v h u : V) (p r q : List Moment) (s : ℕ) → h.hand ≡ v.hand → s ≡ h.steps → IsOwnStep h r → GoesOn p r → GoesOn r q → LeavesHold s v.hand.held (shown line_of v.fronts v p) (shown line_of u.fronts u q)
leaves-hold v h u p r q s same is own before after = subst (λ (n : ℕ). LeavesHold n v.hand.held (shown line_of v.fronts v p) (shown line_of u.fronts u q)) (sym is) (r, step-by h v.hand.task r (ap (λ g. g.task) same) own, ap (λ g. g.held) same, before, after)

-- the step that left this view turned the hold, and none of the call did before
pub turns-hold : (held : Held) (n : ℕ) (v b u : V) (p r q : List Moment) → b.hand.task ≡ v.hand.task → b.hand.held ≡ held → v.steps < b.steps → b.steps ≤ u.steps → IsOwnStep b r → FoundAt count_at n r → GoesOn p r → GoesOn r q → ((s : ℕ) → v.steps < s → s < b.steps → LeavesHold s v.hand.held (shown line_of v.fronts v p) (shown line_of u.fronts u q)) → TurnsHold held b.steps n (shown line_of v.fronts v p) (shown line_of u.fronts u q)
turns-hold held n v b u p r q task turns later by_now own found before after still = (later, by_now, (record { past = r; by = step-by b v.hand.task r task own; found = found; after = before; goes_on = after }, turns), still)

-- from the call's begin to its step on the count, and from there to its end
module _ (wakes : ℕ → Type 0) (held : Held) (less more n : ℕ) (v b u : V) (p q : List Moment) (sum : b.hand.freed + less ≡ n + more) (entries : b.spin.entries ≡ v.spin.entries) (turns : TurnsHold held b.steps n (shown line_of v.fronts v p) (shown line_of u.fronts u q)) where
  abbrev Leaves : Type 0
  Leaves = LeavesCount wakes held less more (shown line_of v.fronts v p) (shown line_of u.fronts u q)

  leaves : u.hand ≡ b.hand → (wakes b.hand.freed → u.spin.entries ≡ b.spin.entries + 1) → ((wakes b.hand.freed → ⊥) → u.spin.entries ≡ b.spin.entries) → Leaves
  leaves hand woken spared = let freed = ap (λ h. h.freed) hand in record {
    found = (b.steps, n, turns, ap (λ (z : ℕ). z + less) freed ∙ sum);
    woken = λ w. woken (subst wakes freed w) ∙ ap (λ (z : ℕ). z + 1) entries;
    spared = λ not. spared (λ w. not (subst wakes (sym freed) w)) ∙ entries;
  }

  -- it went through the wait lock
  pub leaves-woken : wakes b.hand.freed → WentThrough b u → Leaves
  leaves-woken w went = leaves went.hand (λ _. went.entries) (λ not. absurd (not w))

  -- it didn't
  pub leaves-spared : (wakes b.hand.freed → ⊥) → u.hand ≡ b.hand → u.spin.entries ≡ b.spin.entries → Leaves
  leaves-spared not hand same = leaves hand (λ w. absurd (not w)) (λ _. same)
