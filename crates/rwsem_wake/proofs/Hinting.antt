-- A store of the owner hint is a move of the host's rule, and so is a load.
use Rattle.std.proofs.Common.{◌≡◌, ℕ, List, refl, get_or, set, arith}
use mathlib.Core.Option.{some}
use lib.ListN.{get_elem?}
use Rattle.atomic_table.specs.Table.{Me, keeps}
use Rattle.lock_core.specs.Moves.{Goes, Lets}
use Rattle.lock_core.specs.SitePlays.{Turns}
use Rattle.lock_core.specs.Stores.{HasWord}
use Rattle.lock_core.specs.Views.{ticked}
use Rattle.rwsem_wake.specs.RwSemViews.{V, hint_at}
use Rattle.rwsem_wake.specs.Types.{Load, Store}

pub hint-there : (tasks : ℕ) → HasWord tasks hint_at
hint-there tasks = record { spin = λ _. omega arith; first = λ m. absurd (omega (arith, m)); second = λ m. absurd (omega (arith, m)); third = λ m. absurd (omega (arith, m)); fourth = λ m. absurd (omega (arith, m)) }

module _ (holds : List ℕ → List V → Type 0) (moves : ℕ → List ℕ → List V → List ℕ → List V → Type 0) (hints : (ws : List ℕ) (vs : List V) (id n : ℕ) (v : V) → holds ws vs → get_elem? vs id ≡ some v → Goes holds moves id ws vs (set ws hint_at n) (set vs id (ticked v))) where
  pub hint-does : (slots id x : ℕ) (me : Me (Unit {0}) V) → Lets holds moves slots id me hint_at (Store x) (λ n m'. Turns me (ticked me.0) m')
  hint-does slots id x me st h _ at small = (ticked me.0, keeps, tt, hints st.words st.views id x me.0 h at, refl, (refl, refl))

  pub hint-looks : (slots id : ℕ) (me : Me (Unit {0}) V) → Lets holds moves slots id me hint_at Load (λ n m'. Turns me (ticked me.0) m')
  hint-looks slots id me st h _ at small = (ticked me.0, keeps, tt, hints st.words st.views id (get_or st.words hint_at 0) me.0 h at, refl, (refl, refl))
