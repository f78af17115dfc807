-- A step that is a move lengthens the run.
use Rattle.std.proofs.Common.{◌≡◌, ℕ, zero, suc, ◌+◌, drop, List, [], ◌∷◌, ◌++◌, length, map, get_or, set, slice_get, Some, sym, refl, ap, ◌∙◌, subst, arith}
use Rattle.std.proofs.lemmas.List.{drop_all, drop-drop}
use mathlib.Core.Option.{some, some-ne-none}
use mathlib.Core.List.{map-append}
use lib.ListN.{get_elem?}
use lib.Seq.{map-set, set-get_or}
use Rattle.atomic_table.proofs.Lists.{at_map}
use Rattle.lock_core.specs.Moves.{Goes}
use Rattle.lock_core.specs.ViewParts.{each-set, each-snoc, set-there}
use Rattle.lock_core.specs.Views.{hand_of, spin_of}
use Rattle.lock_core.specs.Pasts.{Tail, ChangesOneWord, GoesOn, Instant, instant, view_of, steps_of, fronts_of, marks_of, moment, Moves, Lived, HasSeen, IsMarked, IsOwnStep}
use Rattle.lock_core.specs.Types.{View, Moment, Past, Seen}
use Rattle.lock_core.proofs.RowLaws.{none-some, same-some}

-- a step that changes no word
same-words : (ws : List ℕ) → ChangesOneWord ws ws
same-words ws = (0, get_or ws 0 0, sym (set-get_or ws 0 0))

pub older : (x : Moment) (h p : List Moment) → Tail p h → Tail p (x ∷ h)
older x h p t = (suc t.0, t.1)

-- what goes back to a past goes back to all that the past goes back to
pub goes-on : {A : Type 0} (old new : List A) → Tail old new → GoesOn old new
goes-on old new t p s = (t.0 + s.0, sym (drop-drop s.0 t.0 new) ∙ (ap (drop s.0) t.1 ∙ s.1))

none-seen : (h : List Moment) → Tail [] h
none-seen h = (length h, drop_all (length h) h (omega arith))

module _ {E : Type 0} (marks : E → List ℕ) (begun : Moment) (holds : List ℕ → List (View E) → Type 0) (moves : ℕ → List ℕ → List (View E) → List ℕ → List (View E) → Type 0) where
  no-joined : (run : List Moment) (i : ℕ) (p : Past) → slice_get [] i ≡ Some p → Tail p.moments run
  no-joined run i p e = none-some p e

  seen-older : (x : Moment) (h : List Moment) (v : Seen E) → HasSeen h v → HasSeen (x ∷ h) v
  seen-older x h v s = record { own = older x h v.past s.own; joined = λ i p e. older x h p.moments (s.joined i p e) }

  -- what a pass has seen that takes in another
  seen-both : (h : List Moment) (v w : Seen E) (a : View E) → HasSeen h v → HasSeen h w → HasSeen h (record v { view = a; joined = record { moments = w.past } ∷ v.joined })
  seen-both h v w a s t = record { own = s.own; joined = both }
    where
      both : (i : ℕ) (p : Past) → slice_get (record { moments = w.past } ∷ v.joined) i ≡ Some p → Tail p.moments h
      both zero p e = subst (λ (q : Past). Tail q.moments h) (same-some (record { moments = w.past }) p e) t.own
      both (suc i) p e = s.joined i p e

  -- the pass has seen the moments before and after its step
  abbrev pub grown : List ℕ → List (View E) → List ℕ → List (Instant E) → ℕ → View E → Seen E
  grown ws vs ws' h id w = record { view = w; past = moment marks (instant ws' (set vs id w)) ∷ map (moment marks) (instant ws vs ∷ h); joined = [] }

  pub lived-after : (ws ws' : List ℕ) (vs : List (Seen E)) (id : ℕ) (w : View E) (r : Lived marks begun holds moves ws vs) → Goes holds moves id ws (map view_of vs) ws' (set (map view_of vs) id w) → ChangesOneWord ws ws' → Lived marks begun holds moves ws' (set vs id (grown ws (map view_of vs) ws' r.0 id w))
  lived-after ws ws' vs id w r goes one = let us : List (View E) = map view_of vs in let now : Instant E = instant ws us in let new : Instant E = instant ws' (set us id w) in let g : Seen E = grown ws us ws' r.0 id w in let h : List Moment = map (moment marks) (now ∷ r.0) in
      subst (λ (z : List (View E)). (h : List (Instant E)) × holds ws' z × Rattle.lock_core.specs.Pasts.Paced (Moves holds moves) (instant ws' z ∷ h) × Tail (begun ∷ []) (map (moment marks) (instant ws' z ∷ h)) × Rattle.lock_core.specs.ViewParts.Each (HasSeen (map (moment marks) (instant ws' z ∷ h))) (set vs id g)) (sym (map-set view_of vs id g)) (
        now ∷ r.0,
        goes.0,
        ((id, r.1, goes.0, goes.1, one), r.2),
        older (moment marks new) h (begun ∷ []) r.3,
        each-set (HasSeen h) (HasSeen (moment marks new ∷ h)) vs id g (record { own = (zero, refl); joined = no-joined (moment marks new ∷ h) }) (λ j v _ _ t. seen-older (moment marks new) h v t) r.4,
      )

  pub lived-split : (ws : List ℕ) (vs : List (Seen E)) (id : ℕ) (v : Seen E) (a b : View E) → get_elem? vs id ≡ some v → (r : Lived marks begun holds moves ws vs)
      → Goes holds moves id ws (map view_of vs) ws (set (map view_of vs) id a ++ b ∷ []) → Lived marks begun holds moves ws (set vs id (record v { view = a }) ++ record { view = b; past = v.past; joined = [] } ∷ [])
  lived-split ws vs id v a b at r goes = let us : List (View E) = map view_of vs in let now : Instant E = instant ws us in let new : Instant E = instant ws (set us id a ++ b ∷ []) in let h : List Moment = map (moment marks) (now ∷ r.0) in let x : Seen E = record v { view = a } in let y : Seen E = record { view = b; past = v.past; joined = [] } in
      let is : map view_of (set vs id x ++ y ∷ []) ≡ set us id a ++ b ∷ [] = map-append view_of (set vs id x) (y ∷ []) ∙ ap (λ (z : List (View E)). z ++ b ∷ []) (map-set view_of vs id x) in
      subst (λ (z : List (View E)). (h : List (Instant E)) × holds ws z × Rattle.lock_core.specs.Pasts.Paced (Moves holds moves) (instant ws z ∷ h) × Tail (begun ∷ []) (map (moment marks) (instant ws z ∷ h)) × Rattle.lock_core.specs.ViewParts.Each (HasSeen (map (moment marks) (instant ws z ∷ h))) (set vs id x ++ y ∷ [])) (sym is) (
        now ∷ r.0,
        goes.0,
        ((id, r.1, goes.0, goes.1, same-words ws), r.2),
        older (moment marks new) h (begun ∷ []) r.3,
        each-snoc (HasSeen (moment marks new ∷ h)) (set vs id x) y (record { own = older (moment marks new) h v.past (r.4 id v at).own; joined = no-joined (moment marks new ∷ h) })
            (each-set (HasSeen h) (HasSeen (moment marks new ∷ h)) vs id x (seen-older (moment marks new) h x (record { own = (r.4 id v at).own; joined = (r.4 id v at).joined })) (λ j v _ _ t. seen-older (moment marks new) h v t) r.4),
      )

  pub lived-join : (ws : List ℕ) (vs : List (Seen E)) (id other : ℕ) (v w : Seen E) (a b : View E) → get_elem? vs id ≡ some v → get_elem? vs other ≡ some w → (r : Lived marks begun holds moves ws vs)
      → Goes holds moves id ws (map view_of vs) ws (set (set (map view_of vs) id a) other b) → Lived marks begun holds moves ws (set (set vs id (record v { view = a; joined = record { moments = w.past } ∷ v.joined })) other (record { view = b; past = []; joined = [] }))
  lived-join ws vs id other v w a b at at' r goes = let us : List (View E) = map view_of vs in let now : Instant E = instant ws us in let new : Instant E = instant ws (set (set us id a) other b) in let h : List Moment = map (moment marks) (now ∷ r.0) in let x : Seen E = record v { view = a; joined = record { moments = w.past } ∷ v.joined } in let y : Seen E = record { view = b; past = []; joined = [] } in
      let is : map view_of (set (set vs id x) other y) ≡ set (set us id a) other b = map-set view_of (set vs id x) other y ∙ ap (λ (z : List (View E)). set z other b) (map-set view_of vs id x) in
      subst (λ (z : List (View E)). (h : List (Instant E)) × holds ws z × Rattle.lock_core.specs.Pasts.Paced (Moves holds moves) (instant ws z ∷ h) × Tail (begun ∷ []) (map (moment marks) (instant ws z ∷ h)) × Rattle.lock_core.specs.ViewParts.Each (HasSeen (map (moment marks) (instant ws z ∷ h))) (set (set vs id x) other y)) (sym is) (
        now ∷ r.0,
        goes.0,
        ((id, r.1, goes.0, goes.1, same-words ws), r.2),
        older (moment marks new) h (begun ∷ []) r.3,
        each-set (HasSeen (moment marks new ∷ h)) (HasSeen (moment marks new ∷ h)) (set vs id x) other y (record { own = none-seen (moment marks new ∷ h); joined = no-joined (moment marks new ∷ h) }) (λ j v _ _ t. t)
            (each-set (HasSeen h) (HasSeen (moment marks new ∷ h)) vs id x (seen-older (moment marks new) h x (seen-both h v w a (r.4 id v at) (r.4 other w at'))) (λ j v _ _ t. seen-older (moment marks new) h v t) r.4),
      )

  abbrev pub own-step : (ws ws' : List ℕ) (vs : List (View E)) (h : List (Instant E)) (id : ℕ) (v w : View E) → get_elem? vs id ≡ some v → w.steps ≡ v.steps + 1 → IsOwnStep w (grown ws vs ws' h id w).past
  own-step ws ws' vs h id v w at counts = let new : Instant E = instant ws' (set vs id w) in let there = set-there vs id v w at in record {
    now = moment marks new;
    before = moment marks (instant ws vs);
    rest = map (moment marks) h;
    seat = id;
    past_is = refl;
    hand = at_map hand_of (set vs id w) id w there;
    spin = at_map spin_of (set vs id w) id w there;
    steps = at_map steps_of (set vs id w) id w there;
    fronts = at_map fronts_of (set vs id w) id w there;
    had = v.steps;
    had_steps = at_map steps_of vs id v at;
    counts = counts;
  }

  pub own-marks : (ws ws' : List ℕ) (vs : List (View E)) (h : List (Instant E)) (id : ℕ) (v w : View E) → get_elem? vs id ≡ some v → w.steps ≡ v.steps + 1 → IsMarked marks w (grown ws vs ws' h id w).past
  own-marks ws ws' vs h id v w at counts = record { own = own-step ws ws' vs h id v w at counts; kept = at_map (marks_of marks) (set vs id w) id w (set-there vs id v w at) }

module _ {E : Type 0} (marks : E → List ℕ) (holds : List ℕ → List (View E) → Type 0) (moves : ℕ → List ℕ → List (View E) → List ℕ → List (View E) → Type 0) where
  pub lived-open : (ws : List ℕ) (v : View E) → holds ws (v ∷ []) → let new : Moment = moment marks (instant ws (v ∷ [])) in Lived marks new holds moves ws (record { view = v; past = new ∷ []; joined = [] } ∷ [])
  lived-open ws v h = let new : Moment = moment marks (instant ws (v ∷ [])) in ([], h, (tt, tt), (zero, refl), each-snoc (HasSeen (new ∷ [])) [] (record { view = v; past = new ∷ []; joined = [] }) (record { own = (zero, refl); joined = λ i p e. none-some p e }) (λ j v e. absurd (some-ne-none v (sym e))))
