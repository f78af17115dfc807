-- Which steps are moves, for the rules of all locks.
use Rattle.std.proofs.Common.{◌≡◌, ◌≢◌, ℕ, zero, suc, ◌+◌, ◌≤◌, Bool, List, [], ◌∷◌, ◌++◌, length, length-append, length-set, set, Some, None, sym, refl, ap, ◌∙◌, subst, inl, inr, ⊎_elim, arith}
use mathlib.Core.Option.{some, some-injective, some-ne-none}
use mathlib.Core.Logic.{dite}
use native.Mathlib.Decide.{ℕ_discrete}
use lib.ListN.{get_elem?}
use Rattle.atomic_table.proofs.Lists.{set_else, at_set, at_snoc}
use Rattle.lock_core.specs.Layout.{SiteWords}
use Rattle.lock_core.specs.Views.{HoldsNothing, SpinStays, forgot, handed, seated, ticked, merged, spent, split_off}
use Rattle.lock_core.specs.Sites.{Grows, HandGoes, HoldGoes, KeepsSaw, OwesGrowth, SameObject, SawGoes, SiteStep}
use Rattle.lock_core.specs.Spins.{SpinGoes, spun}
use Rattle.lock_core.specs.Moves.{MovedWhere, SiteMoveWhere, TriesWhere}
use Rattle.lock_core.specs.Types.{View, SpinHand, Alone, Hand, Saw}
use Rattle.lock_core.specs.ViewParts.{set-there}

-- what the number of takings tells
pub spin-grows : (step : ℕ) (s g : SpinHand) → (l : ℕ) × SpinGoes step l s g → s.entries ≤ g.entries
spin-grows step s g goes = let e = goes.1.entries in omega (arith, e)

pub spin-idle : (step : ℕ) (s : SpinHand) → (l : ℕ) × SpinGoes step l s s
spin-idle step s = (0, record { entries = omega arith; takes = λ out holds. absurd (omega (arith, out, holds)); keeps = λ less. (refl, refl); saw = λ x e. inl e; others = λ m apart. refl })

spin-forgets : (step : ℕ) (s : SpinHand) → (l : ℕ) × SpinGoes step l s (forgot s)
spin-forgets step s = (
  0,
  record {
    entries = omega arith;
    takes = λ out holds. absurd (omega (arith, out, holds));
    keeps = λ less. (refl, refl);
    saw = λ x e. absurd (none_some x e);
    others =
        λ m apart. refl;
  },
)
  where
    none_some : (x : Saw) → None ≡ Some x → ⊥
    none_some x e = cc

pub hand-stays : (h : Hand) → HandGoes h h
hand-stays h = (record { misses = omega arith; freed = λ _. refl; takes = omega arith; comes = λ l. omega (arith, l) }, refl, refl)

pub saw-stays : (h : Hand) → KeepsSaw h h
saw-stays h = (refl, inl (refl, refl))

-- a step that leaves the words of the site and their records
pub leaves-site : {unheld : Bool} {step : ℕ} (w : SiteWords) (h g : Hand) → HandGoes h g → SiteStep unheld step w w h g
leaves-site w h g hand = record {
  grows = (omega arith, refl);
  records = inl (refl, hand.1, (let owed = hand.2 in omega (arith, owed)));
  quiet =
      λ _. record { guarded = refl; len = refl; entries = refl };
  hand = hand.0;
}

-- one that leaves the records
pub keeps-recs : {unheld : Bool} {step : ℕ} (w w' : SiteWords) (h g : Hand) → w'.recs ≡ w.recs → Grows w w' → (h.held ≢ Alone → SameObject w w') → HoldGoes h g → g.last ≡ h.last → OwesGrowth w w' h g
    → SiteStep unheld step w w' h g
keeps-recs w w' h g same grows quiet hand last growth = record { grows = grows; records = inl (same, last, growth); quiet = quiet; hand = hand }

get-more : {V : Type 0} (vs : List V) (x v : V) (j : ℕ) → get_elem? vs j ≡ some v → get_elem? (vs ++ x ∷ []) j ≡ some v
get-more [] x v j at = absurd (some-ne-none v (sym at))
get-more (y ∷ vs) x v zero at = at
get-more (y ∷ vs) x v (suc j) at = get-more vs x v j at

-- a step of one view makes no view more
none-born : {V P : Type 0} (vs : List V) (id : ℕ) (w : V) (j : ℕ) (u : V) → length vs ≤ j → get_elem? (set vs id w) j ≡ some u → P
none-born vs id w j u out there = ⊎_elim (λ (t : (j ≡ id) × (w ≡ u)). absurd (not-beyond (set vs id w) j u (omega (arith, out, length-set vs id w)) there))
    (λ (t : (j ≢ id) × (get_elem? vs j ≡ some u)). absurd (not-beyond vs j u out t.1)) (at_set vs id j w u there)
  where
    not-beyond : {V : Type 0} (vs : List V) (j : ℕ) (u : V) → length vs ≤ j → get_elem? vs j ≡ some u → ⊥
    not-beyond [] j u out there = some-ne-none u (sym there)
    not-beyond (v ∷ vs) zero u out there = absurd (omega (arith, out))
    not-beyond (v ∷ vs) (suc j) u out there = not-beyond vs j u (omega (arith, out)) there

module _ {E : Type 0} {word : ℕ} where
  -- whichever passes a host lets fail
  pub tries-go : (may_miss : View E → Type 0) (v : View E) (h : Hand) → TriesWhere may_miss word v h → SawGoes (v.steps + 1) word v.hand h
  tries-go may_miss v h t = ⊎_elim (λ kept. inl kept) (λ failed. inr failed.0) t

  -- a step that changes the hand, and may forget what the pass saw of the spin word
  pub seat-moved : {unheld : Bool} (w w' : SiteWords) (v : View E) (h : Hand) (s : SpinHand) → SpinStays v.spin s → KeepsSaw v.hand h → SiteStep unheld (v.steps + 1) w w' v.hand h
      → MovedWhere unheld word w w' v (seated v h s)
  seat-moved w w' v h s stays saw step = record {
    site = step;
    tries = inl saw;
    spin =
        ⊎_elim (λ e. subst (λ (g : SpinHand). (l : ℕ) × SpinGoes (v.steps + 1) l v.spin g) (sym e) (spin-idle (v.steps + 1) v.spin))
        (λ e. subst (λ (g : SpinHand). (l : ℕ) × SpinGoes (v.steps + 1) l v.spin g) (sym e) (spin-forgets (v.steps + 1) v.spin)) stays;
    fronts = omega arith;
    counts = refl;
  }

  -- a step that changes the hand alone
  pub hand-moved : {unheld : Bool} (w w' : SiteWords) (v : View E) (h : Hand) → KeepsSaw v.hand h → SiteStep unheld (v.steps + 1) w w' v.hand h → MovedWhere unheld word w w' v (handed v h)
  hand-moved w w' v h saw step = record { site = step; tries = inl saw; spin = spin-idle (v.steps + 1) v.spin; fronts = omega arith; counts = refl }

  -- one that changes nothing
  pub tick-moved : {unheld : Bool} (w : SiteWords) (v : View E) → MovedWhere unheld word w w v (ticked v)
  tick-moved w v = hand-moved w w v v.hand (saw-stays v.hand) (leaves-site w v.hand v.hand (hand-stays v.hand))

  -- one on a word of the lock, which may change what the pass knows beyond
  pub hold-moved : {unheld : Bool} (w : SiteWords) (v : View E) (h : Hand) (ext : E) → HandGoes v.hand h → SawGoes (v.steps + 1) word v.hand h
      → MovedWhere unheld word w w v (record v { hand = h; steps = v.steps + 1; ext = ext })
  hold-moved w v h ext goes tries = record { site = leaves-site w v.hand h goes; tries = tries; spin = spin-idle (v.steps + 1) v.spin; fronts = omega arith; counts = refl }

  -- one on the spin words
  pub spin-moved : {unheld : Bool} (w : SiteWords) (v : View E) (l : ℕ) (s : SpinHand) → SpinGoes (v.steps + 1) l v.spin s → MovedWhere unheld word w w v (spun v s)
  spin-moved w v l s goes = record { site = leaves-site w v.hand v.hand (hand-stays v.hand); tries = inl (saw-stays v.hand); spin = (l, goes); fronts = omega arith; counts = refl }

  pub set-moves : {unheld : Bool} (id : ℕ) (w w' : SiteWords) (vs : List (View E)) (v u : View E) → get_elem? vs id ≡ some v → MovedWhere unheld word w w' v u
      → SiteMoveWhere unheld id word w vs w' (set vs id u)
  set-moves id w w' vs v u at moved = record {
    before = v;
    after = u;
    at = at;
    at' = set-there vs id v u at;
    moved = moved;
    others =
        λ j a b other here there live. some-injective b a (sym there ∙ (set_else vs id j u other ∙ here));
    spends =
        λ j a b other here there none. inl (some-injective b a (sym there ∙ (set_else vs id j u other ∙ here)));
    lasts = omega (arith, length-set vs id u);
    born =
        λ j b out there. none-born vs id u j b out there;
  }

  pub split-moves : {unheld : Bool} (id : ℕ) (w : SiteWords) (vs : List (View E)) (v : View E) (idle : E) → get_elem? vs id ≡ some v
      → SiteMoveWhere unheld id word w vs w (set vs id (ticked v) ++ split_off idle v ∷ [])
  split-moves id w vs v idle at = let us : List (View E) = set vs id (ticked v) in let x : View E = split_off idle v in record {
    before = v;
    after = ticked v;
    at = at;
    at' = get-more us x (ticked v) id (set-there vs id v (ticked v) at);
    moved = tick-moved w v;
    others = λ j a b other here there live. some-injective b a (sym there ∙ get-more us x a j (set_else vs id j (ticked v) other ∙ here));
    spends = λ j a b other here there none. inl (some-injective b a (sym there ∙ get-more us x a j (set_else vs id j (ticked v) other ∙ here)));
    lasts = omega (arith, length-set vs id (ticked v), length-append us (x ∷ []));
    born = λ j b out there. ⊎_elim (λ old. none-born vs id (ticked v) j b out old) (λ (e : x ≡ b). sym e ∙ ap (λ (z : E). split_off z v) (ap (λ (z : View E). z.ext) e)) (at_snoc us x b j there);
  }

  pub join-moves : {unheld : Bool} (id other : ℕ) (w : SiteWords) (vs : List (View E)) (v x : View E) (idle : E) → get_elem? vs id ≡ some v → other ≢ id → get_elem? vs other ≡ some x → HoldsNothing x
      → x.hand.task ≡ None → SiteMoveWhere unheld id word w vs w (set (set vs id (merged v x)) other (spent idle))
  join-moves id other w vs v x idle at apart at' free nameless = let u : View E = merged v x in let us : List (View E) = set vs id u in
      let gone : (j : ℕ) (b : View E) → j ≡ other → get_elem? (set us other (spent idle)) j ≡ some b → spent idle ≡ b =
      λ j b e there. some-injective (spent idle) b (sym (ap (get_elem? (set us other (spent idle))) e ∙ set-there us other x (spent idle) (set_else vs id other u apart ∙ at')) ∙ there) in
      let stays : (j : ℕ) (a b : View E) → j ≢ id → j ≢ other → get_elem? vs j ≡ some a → get_elem? (set us other (spent idle)) j ≡ some b → b ≡ a =
      λ j a b not apart_it here there. some-injective b a (sym there ∙ (set_else us other j (spent idle) apart_it ∙ (set_else vs id j u not ∙ here))) in record {
        before = v;
        after = u;
        at = at;
        at' = set_else us other id (spent idle) (λ e. apart (sym e)) ∙ set-there vs id v u at;
        moved = hand-moved w w v u.hand (saw-stays v.hand) (leaves-site w v.hand u.hand
            (record { misses = omega arith; freed = λ _. refl; takes = omega arith; comes = λ l. omega (arith, l) }, refl, refl));
        others = λ j a b not here there live. dite (ℕ_discrete j other)
            (λ e. absurd (live (ap (λ (z : View E). z.hand.plan) (sym (gone j b e there)))))
            (λ apart_it. stays j a b not apart_it here there);
        spends = λ j a b not here there none. dite (ℕ_discrete j other)
            (λ e. let same : x ≡ a = some-injective x a (sym at' ∙ (sym (ap (get_elem? vs) e) ∙ here)) in let spent_it = gone j b e there in
            inr record {
              nameless = ap (λ (z : View E). z.hand.task) (sym same) ∙ nameless;
              free = subst HoldsNothing same free;
              gone =
                  sym spent_it ∙ ap (λ (z : E). spent z) (ap (λ (z : View E). z.ext) spent_it);
            })
            (λ apart_it. inl (stays j a b not apart_it here there));
        lasts = omega (arith, length-set us other (spent idle), length-set vs id u);
        born = λ j b out there. none-born us other (spent idle) j b (omega (arith, out, length-set vs id u)) there;
      }
