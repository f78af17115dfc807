-- The steps on a site's words, from the laws of `SiteRule`.
use Rattle.std.proofs.Common.{Bool, ◌-◌, ◌≡◌, ◌≢◌, ℕ, ◌+◌, inl, inr, List, [], ◌∷◌, ◌++◌, get_or, map, set, drop, None, Some, refl, sym, ap, subst, ◌∙◌, arith, ◌%◌, ◌<◌, ◌≤◌, length}
use Rattle.std.proofs.lemmas.List.{get_or-drop, drop-set-add}
use mathlib.Core.Option.{some, none}
use mathlib.Core.List.{map-append}
use lib.ListN.{get_elem?}
use lib.Seq.{set-get_or, map-set}
use Rattle.atomic_table.specs.Table.{Me, step, keeps, Allows}
use Rattle.atomic_table.proofs.Lists.{at_map, set_again, set_else}
use Rattle.word_bits.specs.LockWords.{Unavailable}
use Rattle.word_bits.specs.Objects.{Obj}
use Rattle.word_bits.specs.Histories.{Plan}
use Rattle.lock_core.specs.declared.layout.TheConstants.{LOCK_WORDS}
use Rattle.lock_core.specs.Layout.{SiteWords, lay, site}
use Rattle.lock_core.specs.Views.{SpinStays, hand_of, handed, seated, forgot, with_number, ticked, split_off, merged, spent, stranger, gathered}
use Rattle.lock_core.specs.Sites.{HandGoes, SiteKept, SiteStep}
use Rattle.lock_core.specs.Moves.{Goes, Lets, KeepsHold, SiteMoveWhere}
use Rattle.lock_core.specs.Laws.Move.{saw-stays, set-moves, tick-moved, seat-moved, hand-moved, leaves-site}
use Rattle.lock_core.specs.SitePlays.{Found, PutBy, Begun, Heeded}
use Rattle.lock_core.specs.Pasts.{ChangesOneWord, KeepsJoined, GoesOn, Instant, instant, view_of, moment, Moves, Lived, Ran, IsMarked, IsOwnStep}
use Rattle.lock_core.proofs.RowLaws.{same-some}
use Rattle.lock_core.proofs.Living.{older, goes-on, grown, lived-after, own-step, own-marks}
use Rattle.lock_core.proofs.Steps.{loads, stores, exchanges, modifies}
use Rattle.word_bits.specs.declared.TheConstants.{MAX_TASKS}
use Rattle.lock_core.specs.Stored.{LivedStored}
use Rattle.lock_core.specs.Types.{Load, Store, Exchange, Add, View, Seen, Hand, SpinHand, No, Moment}
use Rattle.lock_core.proofs.Storing.{allows-stored, stored-first}
use Rattle.lock_core.proofs.SeatSteps.{site-splits, site-gathers, site-leaves}

module _ {E Call : Type 0} {unheld : Bool} (o : Obj Call) (unavailable : Unavailable) (size : ℕ) (k : Plan) (rests : View E → Type 0)
    (holds : List ℕ → List (View E) → Type 0) (moves : ℕ → List ℕ → List (View E) → List ℕ → List (View E) → Type 0)
    (word_at : ℕ) (kept : (ws : List ℕ) (vs : List (View E)) → holds ws vs → SiteKept o unavailable size k (site k ws) (map hand_of vs))
    (sites : (ws : List ℕ) (vs : List (View E)) (id i n : ℕ) (v : View E) (h : Hand) (s : SpinHand) → holds ws vs → get_elem? vs id ≡ some v → KeepsHold rests v h → SpinStays v.spin s
    → SiteKept o unavailable size k (site k (set ws (LOCK_WORDS + i) n)) (set (map hand_of vs) id h) → SiteMoveWhere unheld id (get_or ws word_at 0) (site k ws) vs (site k (set ws (LOCK_WORDS + i) n)) (set vs id (seated v h s))
    → Goes holds moves id ws vs (set ws (LOCK_WORDS + i) n) (set vs id (seated v h s))) where
  abbrev M : Type 0
  M = Me (Unit {0}) (View E)

  abbrev Kept : SiteWords → List Hand → Type 0
  Kept = SiteKept o unavailable size k

  pub looks : (ws : List ℕ) (vs : List (View E)) (id at : ℕ) (v : View E) → holds ws vs → get_elem? vs id ≡ some v → Goes holds moves id ws vs ws (set vs id (ticked v))
  looks ws vs id at v h there = let n : ℕ = get_or ws (LOCK_WORDS + at) 0 in let same : set ws (LOCK_WORDS + at) n ≡ ws = set-get_or ws (LOCK_WORDS + at) 0 in
      let keeps : Kept (site k (set ws (LOCK_WORDS + at) n)) (set (map hand_of vs) id v.hand) = subst (λ (z : List ℕ). Kept (site k z) (set (map hand_of vs) id v.hand)) (sym same)
      (subst (Kept (site k ws)) (sym (set_again (map hand_of vs) id v.hand (at_map hand_of vs id v there))) (kept ws vs h)) in
      let step : SiteMoveWhere unheld id (get_or ws word_at 0) (site k ws) vs (site k (set ws (LOCK_WORDS + at) n)) (set vs id (ticked v)) = subst (λ (z : List ℕ). SiteMoveWhere unheld id (get_or ws word_at 0) (site k ws) vs (site k z) (set vs id (ticked v))) (sym same) (set-moves id (site k ws) (site k ws) vs v (ticked v) there (tick-moved (site k ws) v)) in
      subst (λ (z : List ℕ). Goes holds moves id ws vs z (set vs id (ticked v))) same (sites ws vs id at n v v.hand v.spin h there (refl, inl refl, saw-stays v.hand) (inl refl) keeps step)

  -- a load that tells something
  pub finds : (tells : Hand → ℕ → ℕ → Type 0) (slots id at : ℕ) (me : M) → ((s : List ℕ) (hs : List Hand) → Kept (lay k s) hs → get_elem? hs id ≡ some me.0.hand → tells me.0.hand at (get_or s at 0))
      → Lets holds moves slots id me (LOCK_WORDS + at) Load (Found tells (step slots (LOCK_WORDS + at) 0 0 none) me)
  finds tells slots id at me told = let back : at ≡ (LOCK_WORDS + at) - LOCK_WORDS = omega arith in loads holds moves slots id (LOCK_WORDS + at) me (λ _. ticked me.0) (Found tells (step slots (LOCK_WORDS + at) 0 0 none) me) (λ _. refl)
      (λ ws vs h there _. (looks ws vs id at me.0 h there, ((refl, refl), subst (λ (z : ℕ × ℕ). tells me.0.hand z.0 z.1) (λ i. (back i, get_or-drop LOCK_WORDS ws at 0 i)) (told (drop LOCK_WORDS ws) (map hand_of vs) (kept ws vs h) (at_map hand_of vs id me.0 there)))))

  -- a store that changes the hand
  changes : (ws : List ℕ) (vs : List (View E)) (id at new : ℕ) (v : View E) (g : Hand) (s : SpinHand) → holds ws vs → get_elem? vs id ≡ some v → KeepsHold rests v g → SpinStays v.spin s
      → Kept (lay k (set (drop LOCK_WORDS ws) at new)) (set (map hand_of vs) id g) × SiteStep unheld (v.steps + 1) (lay k (drop LOCK_WORDS ws)) (lay k (set (drop LOCK_WORDS ws) at new)) v.hand g → Goes holds moves id ws vs (set ws (LOCK_WORDS + at) new) (set vs id (seated v g s))
  changes ws vs id at new v g s h there same stays step = let e : lay k (set (drop LOCK_WORDS ws) at new) ≡ site k (set ws (LOCK_WORDS + at) new) = sym (ap (lay k) (drop-set-add LOCK_WORDS ws at new)) in
      sites ws vs id at new v g s h there same stays (subst (λ (w : SiteWords). Kept w (set (map hand_of vs) id g)) e step.0) (set-moves id (site k ws) (site k (set ws (LOCK_WORDS + at) new)) vs v (seated v g s) there (seat-moved (site k ws) (site k (set ws (LOCK_WORDS + at) new)) v g s stays same.2 (subst (λ (w : SiteWords). SiteStep unheld (v.steps + 1) (site k ws) w v.hand g) e step.1)))

  pub puts : (slots id at new : ℕ) (me : M) (g : Hand) → KeepsHold rests me.0 g
      → ((s : List ℕ) (hs : List Hand) → Kept (lay k s) hs → get_elem? hs id ≡ some me.0.hand → Kept (lay k (set s at new)) (set hs id g) × SiteStep unheld (me.0.steps + 1) (lay k s) (lay k (set s at new)) me.0.hand g)
      → Lets holds moves slots id me (LOCK_WORDS + at) (Store new) (λ _. PutBy g (step slots (LOCK_WORDS + at) new 0 none) me new)
  puts slots id at new me g same law = stores holds moves slots id (LOCK_WORDS + at) new me (handed me.0 g) (λ _. PutBy g (step slots (LOCK_WORDS + at) new 0 none) me new) refl
      (λ ws vs h there. (changes ws vs id at new me.0 g me.0.spin h there same (inl refl) (law (drop LOCK_WORDS ws) (map hand_of vs) (kept ws vs h) (at_map hand_of vs id me.0 there)), (refl, refl)))

  -- a fetch-add that changes the hand
  pub adds : (slots id at by : ℕ) (me : M) (g : Hand) → KeepsHold rests me.0 g
      → ((s : List ℕ) (hs : List Hand) → Kept (lay k s) hs → get_elem? hs id ≡ some me.0.hand → (get_or s at 0 + by < 18446744073709551616) × Kept (lay k (set s at (get_or s at 0 + by))) (set hs id g) × SiteStep unheld (me.0.steps + 1) (lay k s) (lay k (set s at (get_or s at 0 + by))) me.0.hand g)
      → Lets holds moves slots id me (LOCK_WORDS + at) (Add by) (PutBy g (step slots (LOCK_WORDS + at) by 0 none) me)
  adds slots id at by me g same law = modifies holds moves slots id (LOCK_WORDS + at) me (Add by) (handed me.0 g) (PutBy g (step slots (LOCK_WORDS + at) by 0 none) me) refl
      (λ ws vs h there small. let t = law (drop LOCK_WORDS ws) (map hand_of vs) (kept ws vs h) (at_map hand_of vs id me.0 there) in let fits = t.0 in let here : get_or (drop LOCK_WORDS ws) at 0 ≡ get_or ws (LOCK_WORDS + at) 0 = get_or-drop LOCK_WORDS ws at 0 in
      let sum : get_or (drop LOCK_WORDS ws) at 0 + by ≡ (get_or ws (LOCK_WORDS + at) 0 + by) % 18446744073709551616 = omega (arith, fits, here) in
      (subst (λ (n : ℕ). Goes holds moves id ws vs (set ws (LOCK_WORDS + at) n) (set vs id (handed me.0 g))) sum (changes ws vs id at (get_or (drop LOCK_WORDS ws) at 0 + by) me.0 g me.0.spin h there same (inl refl) (t.1, t.2)), (refl, refl)))

  -- a load that changes the hand, by what it finds
  pub heeds : (becomes : Hand → ℕ → Hand → Type 0) (slots id at : ℕ) (me : M)
      → ((s : List ℕ) (hs : List Hand) → Kept (lay k s) hs → get_elem? hs id ≡ some me.0.hand → (g : Hand) × becomes me.0.hand (get_or s at 0) g × KeepsHold rests me.0 g × Kept (lay k s) (set hs id g) × HandGoes me.0.hand g)
      → Lets holds moves slots id me (LOCK_WORDS + at) Load (Heeded becomes (step slots (LOCK_WORDS + at) 0 0 none) me)
  heeds becomes slots id at me law s h _ there small = let ws = s.words in let vs = s.views in let v = me.0 in let n : ℕ = get_or ws (LOCK_WORDS + at) 0 in let same : set ws (LOCK_WORDS + at) n ≡ ws = set-get_or ws (LOCK_WORDS + at) 0 in
      let t = law (drop LOCK_WORDS ws) (map hand_of vs) (kept ws vs h) (at_map hand_of vs id v there) in let w : View E = handed v t.0 in (
        w,
        keeps,
        tt,
        sites ws vs id at n v t.0 v.spin h there t.2 (inl refl) (subst (λ (z : List ℕ). Kept (site k z) (set (map hand_of vs) id t.0)) (sym same) t.3) (subst (λ (z : List ℕ). SiteMoveWhere unheld id (get_or ws word_at 0) (site k ws) vs (site k z) (set vs id w)) (sym same) (set-moves id (site k ws) (site k ws) vs v w there (hand-moved (site k ws) (site k ws) v t.0 t.2.2 (leaves-site (site k ws) v.hand t.0 t.4)))),
        refl,
        (t.0, subst (λ (z : ℕ). becomes v.hand z t.0) (get_or-drop LOCK_WORDS ws at 0) t.1, (refl, refl)),
      )

  -- a compare-exchange that looks where it misses
  pub begins : (becomes : Hand → Type 0) (slots id at old new : ℕ) (me : M)
      → ((s : List ℕ) (hs : List Hand) → Kept (lay k s) hs → get_elem? hs id ≡ some me.0.hand → get_or s at 0 ≡ old
      → (g : Hand) × becomes g × KeepsHold rests me.0 g × Kept (lay k (set s at new)) (set hs id g) × SiteStep unheld (me.0.steps + 1) (lay k s) (lay k (set s at new)) me.0.hand g)
      → Lets holds moves slots id me (LOCK_WORDS + at) (Exchange old new) (Begun becomes (step slots (LOCK_WORDS + at) old new none) me)
  begins becomes slots id at old new me law = exchanges holds moves slots id (LOCK_WORDS + at) old new me (λ _. ticked me.0) (Begun becomes (step slots (LOCK_WORDS + at) old new none) me) (λ _. refl)
      (λ ws vs h there is. let t = law (drop LOCK_WORDS ws) (map hand_of vs) (kept ws vs h) (at_map hand_of vs id me.0 there) (get_or-drop LOCK_WORDS ws at 0 ∙ is) in
      (with_number me.0 t.0, refl, changes ws vs id at new me.0 t.0 (forgot me.0.spin) h there t.2 (inr refl) (t.3, t.4), ((λ _. (t.0, t.1, (refl, refl))), λ not. absurd (not refl))))
      (λ ws vs h there not _. (looks ws vs id at me.0 h there, ((λ is. absurd (not is)), λ _. (refl, refl))))

  pub splits-kept : (idle : E) (ws : List ℕ) (vs : List (View E)) (id : ℕ) (v : View E) → holds ws vs → get_elem? vs id ≡ some v → Kept (site k ws) (map hand_of (set vs id (ticked v) ++ split_off idle v ∷ []))
  splits-kept idle ws vs id v h there = let hs : List Hand = map hand_of vs in let at = at_map hand_of vs id v there in
      subst (Kept (site k ws)) (sym (map-append hand_of (set vs id (ticked v)) (split_off idle v ∷ []) ∙ ap (λ (z : List Hand). z ++ stranger v.hand.plan v.hand.seen ∷ []) (map-set hand_of vs id (ticked v) ∙ set_again hs id v.hand at)))
      (site-splits o unavailable size k (site k ws) hs id v.hand (kept ws vs h) at)

  pub joins-kept : (idle : E) (ws : List ℕ) (vs : List (View E)) (id other : ℕ) (v w : View E) → holds ws vs → get_elem? vs id ≡ some v → other ≢ id → get_elem? vs other ≡ some w
      → v.hand.held ≡ No → w.hand.held ≡ No → w.hand.task ≡ None → Kept (site k ws) (map hand_of (set (set vs id (merged v w)) other (spent idle)))
  joins-kept idle ws vs id other v w h there apart there' mine free out = let hs : List Hand = map hand_of vs in let at = at_map hand_of vs id v there in let at' = at_map hand_of vs other w there' in let g : Hand = gathered v.hand w.hand in
      subst (Kept (site k ws)) (sym (map-set hand_of (set vs id (merged v w)) other (spent idle) ∙ ap (λ (z : List Hand). set z other (stranger None [])) (map-set hand_of vs id (merged v w))))
      (site-leaves o unavailable size k (site k ws) (set hs id g) other w.hand (site-gathers o unavailable size k (site k ws) hs id other v.hand w.hand (kept ws vs h) at at' mine) (set_else hs id other g apart ∙ at') free out)

module _ {E : Type 0} (k : Plan) (marks : E → List ℕ) (begun : Plan → Moment) (holds : Plan → List ℕ → List (View E) → Type 0) (moves : Plan → ℕ → List ℕ → List (View E) → List ℕ → List (View E) → Type 0) where
  -- what a load tells of the run
  abbrev Recalled : Me (Unit {0}) (Seen E) → ℕ → Me (Unit {0}) (Seen E) → Type 0
  Recalled me n m' = (m'.0.view ≡ ticked me.0.view) × (m'.1 ≡ me.1) × GoesOn me.0.past m'.0.past × IsOwnStep m'.0.view m'.0.past × IsMarked marks m'.0.view m'.0.past × ((p : Plan) → me.0.view.hand.plan ≡ Some p → Ran marks (begun p) (Moves (holds p) (moves p)) m'.0.past) × KeepsJoined me.0.joined m'.0.past

  -- a load that tells the run
  pub recalls : (slots id : ℕ) (me : Me (Unit {0}) (Seen E)) → me.0.view.hand.plan ≡ Some k
      → ((ws : List ℕ) (vs : List (View E)) (id at : ℕ) (v : View E) → holds k ws vs → get_elem? vs id ≡ some v → Goes (holds k) (moves k) id ws vs ws (set vs id (ticked v)))
      → Allows (λ s. Lived marks (begun k) (holds k) (moves k) s.words s.views) slots id me 0 (λ n. n)
      (Recalled me)
  recalls slots id me plan looks s r l at small = let vs : List (View E) = map view_of s.views in let v = me.0.view in let there = at_map view_of s.views id me.0 at in let ws' : List ℕ = set s.words 0 (get_or s.words 0 0) in
      let one : ChangesOneWord s.words ws' = (0, get_or s.words 0 0, refl) in let goes : Goes (holds k) (moves k) id s.words vs ws' (set vs id (ticked v)) = subst (λ (z : List ℕ). Goes (holds k) (moves k) id s.words vs z (set vs id (ticked v))) (sym (set-get_or s.words 0 0)) (looks s.words vs id 0 v r.1 there) in
      let lived = lived-after marks (begun k) (holds k) (moves k) s.words ws' s.views id (ticked v) r goes one in let g : Seen E = grown marks (begun k) (holds k) (moves k) s.words vs ws' r.0 id (ticked v) in let new : Instant E = instant ws' (set vs id (ticked v)) in let now : Instant E = instant s.words vs in
      let h : List Moment = map (moment marks) (now ∷ r.0) in
      let ran : Ran marks (begun k) (Moves (holds k) (moves k)) g.past = (new ∷ now ∷ r.0, refl, older (moment marks new) h (begun k ∷ []) r.3, ((id, r.1, goes.0, goes.1, one), r.2)) in (
        g,
        keeps,
        tt,
        lived,
        (
          refl,
          refl,
          goes-on me.0.past (moment marks new ∷ h) (older (moment marks new) h me.0.past (r.4 id me.0 at).own),
          own-step marks (begun k) (holds k) (moves k) s.words ws' vs r.0 id v (ticked v) there refl,
          own-marks marks (begun k) (holds k) (moves k) s.words ws' vs r.0 id v (ticked v) there refl,
          λ p is. subst (λ (z : Plan). Ran marks (begun z) (Moves (holds z) (moves z)) g.past) (same-some k p (sym plan ∙ is)) ran,
          λ i p e. goes-on p.moments (moment marks new ∷ h) (older (moment marks new) h p.moments ((r.4 id me.0 at).joined i p e)),
        ),
      )

  -- the same, where the table stores the first word
  pub recalls-stored : (slots id : ℕ) (me : Me (Unit {0}) (Seen E)) → length k ≤ MAX_TASKS → me.0.view.hand.plan ≡ Some k
      → ((ws : List ℕ) (vs : List (View E)) (id at : ℕ) (v : View E) → holds k ws vs → get_elem? vs id ≡ some v → Goes (holds k) (moves k) id ws vs ws (set vs id (ticked v)))
      → Allows (λ s. LivedStored marks (begun k) (holds k) (moves k) k s.words s.views) slots id me 0 (λ n. n) (Recalled me)
  recalls-stored slots id me few plan looks = allows-stored marks (begun k) (holds k) (moves k) k slots id 0 0 me (λ n. n) (Recalled me) few (omega arith) (stored-first (length k)) (recalls slots id me plan looks)
