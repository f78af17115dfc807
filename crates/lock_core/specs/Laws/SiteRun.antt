-- What each step of a run does, the run tells.
use Rattle.std.proofs.Common.{◌≡◌, ℕ, Option, List, [], ◌∷◌, length, map, sym, ap, ◌∙◌, subst, arith}
use Rattle.lock_core.specs.Pasts.{Instant, instant, moment, Moves, EachMoment, Paced, Ran, GoesOn, FoundAt, IsOwnStep, FoundAtStep, IsStepBy}
use Rattle.lock_core.specs.Types.{Moment, View}

pub paced-so : {X : Type 0} (P Q : X → X → Type 0) → ((x y : X) → P x y → Q x y) → (h : List X) → Paced P h → Paced Q h
paced-so P Q each [] r = tt
paced-so P Q each (y ∷ []) r = (tt, tt)
paced-so P Q each (y ∷ x ∷ h) r = (each x y r.0, paced-so P Q each (x ∷ h) r.1)

pub ran-so : {E : Type 0} (marks : E → List ℕ) (begun : Moment) (P Q : Instant E → Instant E → Type 0) → ((x y : Instant E) → P x y → Q x y) → (past : List Moment) → Ran marks begun P past
    → Ran marks begun Q past
ran-so marks begun P Q each past r = (r.0, r.1, r.2, paced-so P Q each r.0 r.3)

-- what the rule says of a table was so at each moment of a run that has made a step
module _ {E : Type 0} (marks : E → List ℕ) (holds : List ℕ → List (View E) → Type 0) (moves : ℕ → List ℕ → List (View E) → List ℕ → List (View E) → Type 0)
    (Q : Moment → Type 0) (so : (ws : List ℕ) (vs : List (View E)) → holds ws vs → Q (moment marks (instant ws vs))) where
  each-so : (y x : Instant E) (h : List (Instant E)) → Paced (Moves holds moves) (y ∷ x ∷ h) → EachMoment Q (map (moment marks) (y ∷ x ∷ h))
  each-so y x [] r = (so y.words y.views r.0.2, (so x.words x.views r.0.1, tt))
  each-so y x (w ∷ h) r = (so y.words y.views r.0.2, each-so x w h r.1)

  pub ran-each : (begun m n : Moment) (h past : List Moment) → past ≡ m ∷ n ∷ h → Ran marks begun (Moves holds moves) past → EachMoment Q past
  ran-each begun m n h past two r = long r.0 (sym r.1 ∙ two) r.1 r.3
    where
      long : (run : List (Instant E)) → map (moment marks) run ≡ m ∷ n ∷ h → past ≡ map (moment marks) run → Paced (Moves holds moves) run → EachMoment Q past
      long [] e is p = absurd (let l = ap length e in omega (arith, l))
      long (y ∷ []) e is p = absurd (let l = ap length e in omega (arith, l))
      long (y ∷ x ∷ k) e is p = subst (EachMoment Q) (sym is) (each-so y x k p)

-- its own last step is one of the pass that has its task's number
abbrev pub step-by : {E : Type 0} (v : View E) (task : Option ℕ) (past : List Moment) → v.hand.task ≡ task → IsOwnStep v past → IsStepBy task v.steps past
step-by v task past named own = record {
  now = own.now;
  before = own.before;
  rest = own.rest;
  seat = own.seat;
  past_is = own.past_is;
  hand = v.hand;
  is = own.hand;
  named = named;
  steps = own.steps;
  had = own.had;
  had_steps = own.had_steps;
  counts = own.counts;
}

-- what the last step of a pass found, it finds at that step
pub found-at-step : {E : Type 0} (v : View E) (task : Option ℕ) (i n : ℕ) (old past new : List Moment) → v.hand.task ≡ task → IsOwnStep v past → FoundAt i n past → GoesOn old past → GoesOn past new
    → FoundAtStep task v.steps i n old new
found-at-step v task i n old past new named own found after goes = record {
  past = past;
  by = step-by v task past named own;
  found = found;
  after = after;
  goes_on = goes;
}
