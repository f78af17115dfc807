-- The steps on the wake words keep the host's rule.
use Rattle.std.proofs.Common.{◌≡◌, ℕ, ◌+◌, ◌*◌, ◌<◌, ◌≤◌, List, get_or, set, Some, sym, refl, subst, arith}
use mathlib.Core.Option.{some, none}
use lib.ListN.{get_elem?}
use Rattle.atomic_table.specs.Table.{Me, step, keeps}
use Rattle.word_bits.specs.declared.TheConstants.{MAX_TASKS}
use Rattle.wake_duty.specs.Types.{Store, Swap, No, View, Waiter, WaitState}
use Rattle.lock_core.specs.SitePlays.{Turns}
use Rattle.lock_core.specs.Stores.{HasWord, row_at}
use Rattle.lock_core.specs.Views.{SpinRests}
use Rattle.lock_core.specs.Moves.{Goes, Lets}
use Rattle.lock_core.proofs.Steps.{stores}
use Rattle.wake_duty.specs.WakeSteps.{HasTried, Woke, Drowsed, knowing}

-- the wake word of a task of the plan is one that the table has
pub has-wake : (tasks place t word : ℕ) → tasks ≤ MAX_TASKS → place ≡ row_at 3 + 64 → t < tasks → word ≡ place + 8 * t → HasWord tasks word
has-wake tasks place t word few at there is = record {
  spin = λ _. omega (arith, at, is);
  first = λ _. omega (arith, at, is);
  second = λ _. omega (arith, at, is);
  third = λ _. omega (arith, at, is);
  fourth = λ m. absurd (omega (arith, at, is, there, m));
}

module _ {E : Type 0} (holds : List ℕ → List (View E) → Type 0) (moves : ℕ → List ℕ → List (View E) → List ℕ → List (View E) → Type 0) (queue : List ℕ → List (View E) → List Waiter → Type 0) (place : ℕ) (queued : (ws : List ℕ) (vs : List (View E)) → holds ws vs → (l : List Waiter) × queue ws vs l) where
  abbrev M : Type 0
  M = Me (Unit {0}) (View E)

  module _ (has_chosen : E → ℕ → Type 0) (after_set : E → ℕ → E)
      (sets_word : (ws : List ℕ) (vs : List (View E)) (l : List Waiter) (id t : ℕ) (v : View E) → queue ws vs l → get_elem? vs id ≡ some v → has_chosen v.ext t → Goes holds moves id ws vs (set ws (place + 8 * t) 1) (set vs id (knowing v (after_set v.ext t)))) where
    sets-there : (slots id t : ℕ) (me : M) → has_chosen me.0.ext t → Lets holds moves slots id me (place + 8 * t) (Store 1) (λ _. Woke place after_set (step slots (place + 8 * t) 1 0 none) me 1)
    sets-there slots id t me chosen = stores holds moves slots id (place + 8 * t) 1 me (knowing me.0 (after_set me.0.ext t)) (λ _. Woke place after_set (step slots (place + 8 * t) 1 0 none) me 1) refl
        (λ ws vs h at. let q = queued ws vs h in (
          sets_word ws vs q.0 id t me.0 q.1 at chosen,
          λ u is. let same : t ≡ u = omega (arith, is) in subst (λ (z : ℕ). Turns me (knowing me.0 (after_set me.0.ext z)) (knowing me.0 (after_set me.0.ext t), me.1)) same (refl, refl),
        ))

    pub sets : (slots id at t : ℕ) (me : M) → at ≡ place + 8 * t → has_chosen me.0.ext t → Lets holds moves slots id me at (Store 1) (λ _. Woke place after_set (step slots at 1 0 none) me 1)
    sets slots id at t me is chosen = subst (λ (z : ℕ). Lets holds moves slots id me z (Store 1) (λ _. Woke place after_set (step slots z 1 0 none) me 1)) (sym is) (sets-there slots id t me chosen)

  module _ (wait_state : E → WaitState) (after_swap : E → ℕ → E)
      (bits : (ws : List ℕ) (vs : List (View E)) (l : List Waiter) (t : ℕ) → queue ws vs l → t < MAX_TASKS → get_or ws (place + 8 * t) 0 ≤ 1)
      (swaps_word : (ws : List ℕ) (vs : List (View E)) (l : List Waiter) (id t : ℕ) (v : View E) → queue ws vs l → get_elem? vs id ≡ some v → v.hand.task ≡ Some t → t < MAX_TASKS → SpinRests v.spin → v.hand.held ≡ No → HasTried wait_state v
      → Goes holds moves id ws vs (set ws (place + 8 * t) 0) (set vs id (knowing v (after_swap v.ext (get_or ws (place + 8 * t) 0))))) where
    drowses-there : (slots id t : ℕ) (me : M) → me.0.hand.task ≡ Some t → t < MAX_TASKS → SpinRests me.0.spin → me.0.hand.held ≡ No → HasTried wait_state me.0 → Lets holds moves slots id me (place + 8 * t) (Swap 0) (Drowsed after_swap (step slots (place + 8 * t) 0 0 none) me)
    drowses-there slots id t me mine few rests out tried s h _ at _ = let q = queued s.words s.views h in (
      knowing me.0 (after_swap me.0.ext (get_or s.words (place + 8 * t) 0)),
      keeps,
      tt,
      swaps_word s.words s.views q.0 id t me.0 q.1 at mine few rests out tried,
      refl,
      (bits s.words s.views q.0 t q.1 few, (refl, refl)),
    )

    pub drowses : (slots id at t : ℕ) (me : M) → at ≡ place + 8 * t → me.0.hand.task ≡ Some t → t < MAX_TASKS → SpinRests me.0.spin → me.0.hand.held ≡ No → HasTried wait_state me.0 → Lets holds moves slots id me at (Swap 0) (Drowsed after_swap (step slots at 0 0 none) me)
    drowses slots id at t me is mine few rests out tried = subst (λ (z : ℕ). Lets holds moves slots id me z (Swap 0) (Drowsed after_swap (step slots z 0 0 none) me)) (sym is) (drowses-there slots id t me mine few rests out tried)
