-- What a step on a table asks, from what it makes of the words and the views. The table has no slots in use.
use Rattle.std.proofs.Common.{refl, ◌≡◌, ◌≢◌, ℕ, ◌+◌, ◌<◌, eq-eqb, ne_eqb, if◌then◌else◌, List, get_or, set, map, sym, subst, ◌∷◌}
use mathlib.Core.Option.{some, none}
use mathlib.Core.Logic.{dite}
use native.Mathlib.Decide.{ℕ_discrete}
use lib.ListN.{get_elem?}
use lib.Seq.{set-get_or}
use Rattle.atomic_table.specs.Table.{State, Step, Me, keeps, step, Allows}
use Rattle.atomic_table.proofs.Lists.{at_map}
use Rattle.lock_core.specs.Ops.{word_after, first_of, second_of, told_by}
use Rattle.lock_core.specs.Moves.{Goes, Lets}
use Rattle.lock_core.specs.Pasts.{GoesOn, IsOwnStep, Lived, view_of, unseen, instant, moment, FoundAt}
use Rattle.lock_core.specs.Types.{Load, Store, Exchange, Op, View, Seen, Moment}
use Rattle.lock_core.proofs.Living.{older, goes-on, grown, lived-after, own-step}

module _ {E : Type 0} (holds : List ℕ → List (View E) → Type 0) (moves : ℕ → List ℕ → List (View E) → List ℕ → List (View E) → Type 0) where
  abbrev M : Type 0
  M = Me (Unit {0}) (View E)

  -- a load, after which the view is w of what was found
  pub loads : (slots id i : ℕ) (me : M) (w : ℕ → View E) (tells : ℕ → M → Type 0) → ((n : ℕ) → (w n).steps ≡ me.0.steps + 1)
      → ((ws : List ℕ) (vs : List (View E)) → holds ws vs → get_elem? vs id ≡ some me.0 → get_or ws i 0 < 18446744073709551616
      → Goes holds moves id ws vs ws (set vs id (w (get_or ws i 0))) × tells (get_or ws i 0) (w (get_or ws i 0), me.1))
      → Lets holds moves slots id me i Load tells
  loads slots id i me w tells counts step s h _ at small = let t = step s.words s.views h at small in
      (w (get_or s.words i 0), keeps, tt, subst (λ (ws : List ℕ). Goes holds moves id s.words s.views ws (set s.views id (w (get_or s.words i 0)))) (sym (set-get_or s.words i 0)) t.0, counts (get_or s.words i 0), t.1)

  pub stores : (slots id i new : ℕ) (me : M) (w : View E) (tells : ℕ → M → Type 0) → w.steps ≡ me.0.steps + 1
      → ((ws : List ℕ) (vs : List (View E)) → holds ws vs → get_elem? vs id ≡ some me.0 → Goes holds moves id ws vs (set ws i new) (set vs id w) × tells (get_or ws i 0) (w, me.1))
      → Lets holds moves slots id me i (Store new) tells
  stores slots id i new me w tells counts step s h _ at small = let t = step s.words s.views h at in (w, keeps, tt, t.0, counts, t.1)

  -- a compare-exchange, of which both views may be chosen by the words
  pub chooses : (slots id i old new : ℕ) (me : M) (tells : ℕ → M → Type 0)
      → ((ws : List ℕ) (vs : List (View E)) → holds ws vs → get_elem? vs id ≡ some me.0 → get_or ws i 0 ≡ old → (w : View E) × (w.steps ≡ me.0.steps + 1) × Goes holds moves id ws vs (set ws i new) (set vs id w) × tells old (w, me.1))
      → ((ws : List ℕ) (vs : List (View E)) → holds ws vs → get_elem? vs id ≡ some me.0 → get_or ws i 0 ≢ old → get_or ws i 0 < 18446744073709551616
      → (w : View E) × (w.steps ≡ me.0.steps + 1) × Goes holds moves id ws vs ws (set vs id w) × tells (get_or ws i 0) (w, me.1))
      → Lets holds moves slots id me i (Exchange old new) tells
  chooses slots id i old new me tells yes_case no_case s h _ at small = let x : ℕ = get_or s.words i 0 in dite (ℕ_discrete x old)
      (λ is. let t = yes_case s.words s.views h at is in (
        t.0,
        keeps,
        tt,
        subst (λ b. Goes holds moves id s.words s.views (set s.words i (if b then new else x)) (set s.views id t.0)) (sym (eq-eqb x old is)) t.2,
        t.1,
        subst (λ (z : ℕ). tells z (t.0, me.1)) (sym is) t.3,
      ))
      (λ not. let t = no_case s.words s.views h at not small in (
        t.0,
        keeps,
        tt,
        subst (λ b. Goes holds moves id s.words s.views (set s.words i (if b then new else x)) (set s.views id t.0)) (sym (ne_eqb x old not)) (subst (λ (ws : List ℕ). Goes holds moves id s.words s.views ws (set s.views id t.0)) (sym (set-get_or s.words i 0)) t.2),
        t.1,
        t.3,
      ))

  -- the same, where only the view after the old word was found is chosen by the words
  pub exchanges : (slots id i old new : ℕ) (me : M) (miss : ℕ → View E) (tells : ℕ → M → Type 0) → ((n : ℕ) → (miss n).steps ≡ me.0.steps + 1)
      → ((ws : List ℕ) (vs : List (View E)) → holds ws vs → get_elem? vs id ≡ some me.0 → get_or ws i 0 ≡ old → (w : View E) × (w.steps ≡ me.0.steps + 1) × Goes holds moves id ws vs (set ws i new) (set vs id w) × tells old (w, me.1))
      → ((ws : List ℕ) (vs : List (View E)) → holds ws vs → get_elem? vs id ≡ some me.0 → get_or ws i 0 ≢ old → get_or ws i 0 < 18446744073709551616
      → Goes holds moves id ws vs ws (set vs id (miss (get_or ws i 0))) × tells (get_or ws i 0) (miss (get_or ws i 0), me.1))
      → Lets holds moves slots id me i (Exchange old new) tells
  exchanges slots id i old new me miss tells counts yes_case no_case = chooses slots id i old new me tells yes_case (λ ws vs h at not small. let t = no_case ws vs h at not small in let x : ℕ = get_or ws i 0 in (miss x, counts x, t.0, t.1))

module _ {E : Type 0} (holds : List ℕ → List (View E) → Type 0) (moves : ℕ → List ℕ → List (View E) → List ℕ → List (View E) → Type 0) where
  -- any step whose view doesn't depend on what was found
  pub modifies : (slots id i : ℕ) (me : Me (Unit {0}) (View E)) (op : Op) (w : View E) (tells : ℕ → Me (Unit {0}) (View E) → Type 0) → w.steps ≡ me.0.steps + 1
      → ((ws : List ℕ) (vs : List (View E)) → holds ws vs → get_elem? vs id ≡ some me.0 → get_or ws i 0 < 18446744073709551616 → Goes holds moves id ws vs (set ws i (word_after op (get_or ws i 0))) (set vs id w) × tells (get_or ws i 0) (w, me.1))
      → Lets holds moves slots id me i op tells
  modifies slots id i me op w tells counts step s h _ at small = let t = step s.words s.views h at small in (w, keeps, tt, t.0, counts, t.1)

module _ {E : Type 0} (holds : List ℕ → List (View E) → Type 0) (moves : ℕ → List ℕ → List (View E) → List ℕ → List (View E) → Type 0) where
  -- what a step tells, whose operation is this one
  pub with-op : (slots id i : ℕ) (me : Me (Unit {0}) (View E)) (then_it : Step (Unit {0}) → ℕ → Me (Unit {0}) (View E) → Type 0) (op is : Op) → op ≡ is
      → Lets holds moves slots id me i op (λ n. then_it (step slots i (first_of op) (second_of op) none) (told_by op n)) → Lets holds moves slots id me i is (λ n. then_it (step slots i (first_of is) (second_of is) none) (told_by is n))
  with-op slots id i me then_it op is same = subst (λ (o : Op). Lets holds moves slots id me i o (λ n. then_it (step slots i (first_of o) (second_of o) none) (told_by o n))) same

module _ {E : Type 0} (marks : E → List ℕ) (begun : Moment) (holds : List ℕ → List (View E) → Type 0) (moves : ℕ → List ℕ → List (View E) → List ℕ → List (View E) → Type 0) where
  abbrev Rule : State (Unit {0}) (Seen E) → Type 0
  Rule s = Lived marks begun holds moves s.words s.views

  -- a step that the rule lets a pass make is one that the table allows
  pub allows : (slots id i : ℕ) (me : Me (Unit {0}) (Seen E)) (op : Op) (tells : ℕ → Me (Unit {0}) (View E) → Type 0) → Lets holds moves slots id (unseen me) i op tells → Allows Rule slots id me i (word_after op) (λ n m'. tells n (unseen m') × GoesOn me.0.past m'.0.past × IsOwnStep m'.0.view m'.0.past)
  allows slots id i me op tells lets s r l at small = let vs : List (View E) = map view_of s.views in let t = lets record { words = s.words; homes = s.homes; views = vs } r.1 l (at_map view_of s.views id me.0 at) small in
      let ws' : List ℕ = set s.words i (word_after op (get_or s.words i 0)) in (grown marks begun holds moves s.words vs ws' r.0 id t.0, t.1, t.2, lived-after marks begun holds moves s.words ws' s.views id t.0 r t.3 (i, word_after op (get_or s.words i 0), refl), (t.5, goes-on me.0.past (moment marks (instant ws' (set vs id t.0)) ∷ map (moment marks) (instant s.words vs ∷ r.0)) (older (moment marks (instant ws' (set vs id t.0))) (map (moment marks) (instant s.words vs ∷ r.0)) me.0.past (r.4 id me.0 at).own), own-step marks begun holds moves s.words ws' vs r.0 id me.0.view t.0 (at_map view_of s.views id me.0 at) t.4))

  -- the same, where the pass remembers what it found
  pub allows-found : (slots id i : ℕ) (me : Me (Unit {0}) (Seen E)) (op : Op) (tells : ℕ → Me (Unit {0}) (View E) → Type 0) → Lets holds moves slots id (unseen me) i op tells
      → Allows Rule slots id me i (word_after op) (λ n m'. tells n (unseen m') × FoundAt i n m'.0.past × GoesOn me.0.past m'.0.past × IsOwnStep m'.0.view m'.0.past)
  allows-found slots id i me op tells lets s r l at small = let vs : List (View E) = map view_of s.views in let t = lets record { words = s.words; homes = s.homes; views = vs } r.1 l (at_map view_of s.views id me.0 at) small in
      let ws' : List ℕ = set s.words i (word_after op (get_or s.words i 0)) in let past : List Moment = (grown marks begun holds moves s.words vs ws' r.0 id t.0).past in
      (grown marks begun holds moves s.words vs ws' r.0 id t.0, t.1, t.2, lived-after marks begun holds moves s.words ws' s.views id t.0 r t.3 (i, word_after op (get_or s.words i 0), refl), (t.5, (moment marks (instant ws' (set vs id t.0)), moment marks (instant s.words vs), map (moment marks) r.0, refl, refl), goes-on me.0.past (moment marks (instant ws' (set vs id t.0)) ∷ map (moment marks) (instant s.words vs ∷ r.0)) (older (moment marks (instant ws' (set vs id t.0))) (map (moment marks) (instant s.words vs ∷ r.0)) me.0.past (r.4 id me.0 at).own), own-step marks begun holds moves s.words ws' vs r.0 id me.0.view t.0 (at_map view_of s.views id me.0 at) t.4))
