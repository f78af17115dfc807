-- What stays true of the frames that a step leaves, while it changes a node or the queue.
use Rattle.std.proofs.Common.{◌≡◌, ◌≢◌, ℕ, zero, suc, ◌≤◌, ◌⊎◌, Bool, true, false, List, [], ◌∷◌, ◌++◌, sym, refl, ap, ◌∙◌, subst, inl, inr, ⊎_elim, arith}
use mathlib.Core.Option.{some, some-injective}
use mathlib.Core.Logic.{dite}
use native.Mathlib.Decide.{ℕ_discrete}
use lib.ListN.{get_elem?}
use Rattle.atomic_table.proofs.Lists.{at_longer}
use Rattle.lock_core.specs.Totals.{total, total-at}
use Rattle.qspin_queue.specs.Types.{Frame, Point, Clearing, Cleared, Linking, Waiting, Head, Ready, Passing}
use Rattle.lock_core.specs.SpinFrames.{when, code_is, stands, uses, stands_as, uses_as}
use Rattle.lock_core.specs.SpinQueues.{Before, Queued, StandsAtHead, PointOk}
use Rattle.qspin_word.proofs.Codes.{code_is-same, code_is-else, one_place, some_summand, total-below}
use Rattle.qspin_queue.proofs.Fronts.{not_two}

pub stands-uses : (p : Point) → stands p ≡ true → uses p ≡ true
stands-uses Linking e = refl
stands-uses Waiting e = refl
stands-uses Head e = refl
stands-uses Ready e = refl
stands-uses Passing e = refl
stands-uses _ e = absurd cc

-- it uses a node with a code that it counts for
pub uses-one : (f : Frame) → uses f.point ≡ true → uses_as f.code f ≡ 1
uses-one f e = ap (λ b. when b (code_is f.code f.code)) e ∙ code_is-same f.code

pub stands-one : (f : Frame) → stands f.point ≡ true → stands_as f.code f ≡ 1
stands-one f e = ap (λ b. when b (code_is f.code f.code)) e ∙ code_is-same f.code

pub counts-stands : (b : Bool) (c x : ℕ) → 1 ≤ when b (code_is c x) → (b ≡ true) × (x ≡ c)
counts-stands true c x l = (refl, dite (ℕ_discrete x c) (λ e. e) (λ n. let z = code_is-else c x n in absurd (omega arith)))
counts-stands false c x l = absurd (omega arith)

-- the code of a place is counted
pub counted : (q : List ℕ) (p x : ℕ) → get_elem? q p ≡ some x → 1 ≤ total (code_is x) q
counted q p x at = let t = total-at (code_is x) q p x at in let o = code_is-same x in omega arith

pub stands-below : (p : Point) (n : ℕ) → when (stands p) n ≤ when (uses p) n
stands-below Linking n = omega arith
stands-below Waiting n = omega arith
stands-below Head n = omega arith
stands-below Ready n = omega arith
stands-below Passing n = omega arith
stands-below _ n = omega arith

module _ (q : List ℕ) (fs : List Frame) (k : Queued q fs) where
  pub once : (c : ℕ) → total (code_is c) q ≤ 1
  once c = let l = total-below (stands_as c) (uses_as c) (λ f. stands-below f.point (code_is c f.code)) fs in let m = k.members c in let u = k.used c in omega arith

  -- two frames don't use one node
  pub other_code : (id j : ℕ) (f g : Frame) → get_elem? fs id ≡ some f → get_elem? fs j ≡ some g → j ≢ id → uses f.point ≡ true → uses g.point ≡ true → g.code ≢ f.code
  other_code id j f g at at' apart mine theirs same = not_two fs id j f.code f g (k.used f.code) at at' (λ e. apart (sym e)) (uses-one f mine) (subst (λ (c : ℕ). uses_as c g ≡ 1) same (uses-one g theirs))

  -- a node that is used and doesn't stand isn't in the queue
  pub not_queued : (id : ℕ) (f : Frame) → get_elem? fs id ≡ some f → uses f.point ≡ true → stands f.point ≡ false → total (code_is f.code) q ≡ 0
  not_queued id f at mine out = dite (ℕ_discrete (total (code_is f.code) q) 0) (λ e. e) (λ not. let m = k.members f.code in let s = some_summand (stands_as f.code) fs (omega arith) in let g = s.1 in let c = counts-stands (stands g.point) f.code g.code s.3 in
      absurd (other_code id s.0 f g at s.2 (λ e. let same : g ≡ f = some-injective g f (sym s.2 ∙ ap (get_elem? fs) e ∙ at) in let b : true ≡ false = sym c.0 ∙ ap (λ h. stands h.point) same ∙ out in cc) mine (stands-uses g.point c.0) c.1))

  pub not_there : (id p x : ℕ) (f : Frame) → get_elem? fs id ≡ some f → uses f.point ≡ true → stands f.point ≡ false → get_elem? q p ≡ some x → x ≢ f.code
  not_there id p x f at mine out there same = let c = counted q p x there in let n = not_queued id f at mine out in let e : total (code_is x) q ≡ total (code_is f.code) q = ap (λ c. total (code_is c) q) same in omega arith

-- a store in another node's `locked`
pub relocked : (next locked locked' : ℕ → ℕ) (q : List ℕ) (p : Point) (code found after : ℕ) → (uses p ≡ true → locked' code ≡ locked code) → PointOk next locked q p code found after → PointOk next locked' q p code found after
relocked next locked locked' q Clearing code found after same ok = same refl ∙ ok
relocked next locked locked' q Cleared code found after same ok = (same refl ∙ ok.0, ok.1)
relocked next locked locked' q Linking code found after same ok = (ok.0, ok.1, same refl ∙ ok.2)
relocked next locked locked' q Waiting code found after same ok = ⊎_elim (λ t. inl (t.0, same refl ∙ t.1, t.2)) (λ t. inr (t.0, same refl ∙ t.1)) ok
relocked next locked locked' q Head code found after same ok = (ok.0, ⊎_elim (λ e. inl e) (λ e. inr (same refl ∙ e)) ok.1, ok.2)
relocked next locked locked' q Ready code found after same ok = (ok.0, ⊎_elim (λ e. inl e) (λ e. inr (same refl ∙ e)) ok.1, ok.2)
relocked next locked locked' q Passing code found after same ok = (ok.0, ⊎_elim (λ e. inl e) (λ e. inr (same refl ∙ e)) ok.1, ok.2)
relocked next locked locked' q _ code found after same ok = tt

renext-head : (next next' locked : ℕ → ℕ) (q : List ℕ) (code found after : ℕ) → (next' code ≡ next code) ⊎ (next code ≡ 0) → StandsAtHead next locked q code found after → StandsAtHead next' locked q code found after
renext-head next next' locked q code found after same ok = (ok.0, ok.1, ⊎_elim (λ e. inl e) (λ s. ⊎_elim (λ t. inr (s.0, t ∙ s.1)) (λ z. inl (sym s.1 ∙ z)) same) ok.2)

-- a store in another node's `next`, or in one that was 0
pub renext : (next next' locked : ℕ → ℕ) (q : List ℕ) (p : Point) (code found after : ℕ) → (p ≡ Cleared → next' code ≡ next code) → (p ≡ Linking → next' found ≡ next found) → (p ≡ Waiting → Before q found code → next' found ≡ next found) → (stands p ≡ true → (next' code ≡ next code) ⊎ (next code ≡ 0))
    → PointOk next locked q p code found after → PointOk next' locked q p code found after
renext next next' locked q Clearing code found after clean links waits stays ok = ok
renext next next' locked q Cleared code found after clean links waits stays ok = (ok.0, clean refl ∙ ok.1)
renext next next' locked q Linking code found after clean links waits stays ok = (ok.0, links refl ∙ ok.1, ok.2)
renext next next' locked q Waiting code found after clean links waits stays ok = ⊎_elim (λ t. inl (t.0, t.1, waits refl t.0 ∙ t.2)) (λ t. inr t) ok
renext next next' locked q Head code found after clean links waits stays ok = renext-head next next' locked q code found after (stays refl) ok
renext next next' locked q Ready code found after clean links waits stays ok = renext-head next next' locked q code found after (stays refl) ok
renext next next' locked q Passing code found after clean links waits stays ok = renext-head next next' locked q code found after (stays refl) ok
renext next next' locked q _ code found after clean links waits stays ok = tt

before-longer : (q : List ℕ) (c x y : ℕ) → Before q x y → Before (q ++ c ∷ []) x y
before-longer q c x y (p, at, at') = (p, at_longer q (c ∷ []) p x at, at_longer q (c ∷ []) (suc p) y at')

head-longer : (next locked : ℕ → ℕ) (q : List ℕ) (c code found after : ℕ) → StandsAtHead next locked q code found after → StandsAtHead next locked (q ++ c ∷ []) code found after
head-longer next locked q c code found after ok = (at_longer q (c ∷ []) 0 code ok.0, ok.1, ⊎_elim (λ e. inl e) (λ s. inr (at_longer q (c ∷ []) 1 after s.0, s.1)) ok.2)

-- another node enters behind the last
pub longer : (next locked : ℕ → ℕ) (q : List ℕ) (c : ℕ) (p : Point) (code found after : ℕ) → PointOk next locked q p code found after → PointOk next locked (q ++ c ∷ []) p code found after
longer next locked q c Clearing code found after ok = ok
longer next locked q c Cleared code found after ok = ok
longer next locked q c Linking code found after ok = (before-longer q c found code ok.0, ok.1, ok.2)
longer next locked q c Waiting code found after ok = ⊎_elim (λ t. inl (before-longer q c found code t.0, t.1, t.2)) (λ t. inr (at_longer q (c ∷ []) 0 code t.0, t.1)) ok
longer next locked q c Head code found after ok = head-longer next locked q c code found after ok
longer next locked q c Ready code found after ok = head-longer next locked q c code found after ok
longer next locked q c Passing code found after ok = head-longer next locked q c code found after ok
longer next locked q c _ code found after ok = tt

-- who doesn't stand in the queue says nothing of it
pub outside : (next locked : ℕ → ℕ) (q r : List ℕ) (p : Point) (code found after : ℕ) → stands p ≡ false → PointOk next locked q p code found after → PointOk next locked r p code found after
outside next locked q r Clearing code found after out ok = ok
outside next locked q r Cleared code found after out ok = ok
outside next locked q r Linking code found after out ok = absurd cc
outside next locked q r Waiting code found after out ok = absurd cc
outside next locked q r Head code found after out ok = absurd cc
outside next locked q r Ready code found after out ok = absurd cc
outside next locked q r Passing code found after out ok = absurd cc
outside next locked q r _ code found after out ok = tt

before-shift : (c n : ℕ) (q : List ℕ) (x y : ℕ) → total (code_is n) (c ∷ n ∷ q) ≤ 1 → Before (c ∷ n ∷ q) x y → ((x ≡ c) × (y ≡ n)) ⊎ (Before (n ∷ q) x y × (y ≢ n))
before-shift c n q x y once (zero, at, at') = inl (sym (some-injective c x at), sym (some-injective n y at'))
before-shift c n q x y once (suc p, at, at') = inr ((p, at, at'), λ e. let r = one_place (c ∷ n ∷ q) (suc (suc p)) 1 n once (at' ∙ ap some e) refl in omega arith)

-- The head c has left, and the next node n was told that it is the head
pub shifted : (next locked locked' : ℕ → ℕ) (c n : ℕ) (q : List ℕ) (p : Point) (code found after : ℕ) → next c ≡ n → n ≢ 0 → locked' n ≡ 1 → total (code_is n) (c ∷ n ∷ q) ≤ 1
    → (code ≢ n → locked' code ≡ locked code) → (uses p ≡ true → stands p ≡ false → code ≢ n) → (stands p ≡ true → code ≢ c) → PointOk next locked (c ∷ n ∷ q) p code found after → PointOk next locked' (n ∷ q) p code found after
shifted next locked locked' c n q Clearing code found after second real told once same out far ok = same (out refl refl) ∙ ok
shifted next locked locked' c n q Cleared code found after second real told once same out far ok = (same (out refl refl) ∙ ok.0, ok.1)
shifted next locked locked' c n q Linking code found after second real told once same out far ok = ⊎_elim (λ t. absurd (real (sym second ∙ (ap next (sym t.0) ∙ ok.1)))) (λ t. (t.0, ok.1, same t.1 ∙ ok.2)) (before-shift c n q found code once ok.0)
shifted next locked locked' c n q Waiting code found after second real told once same out far ok = ⊎_elim
    (λ s. ⊎_elim (λ t. inr (ap some (sym t.1), ap locked' t.1 ∙ told)) (λ t. inl (t.0, same t.1 ∙ s.1, s.2)) (before-shift c n q found code once s.0))
    (λ s. absurd (far refl (sym (some-injective c code s.0)))) ok
shifted next locked locked' c n q Head code found after second real told once same out far ok = absurd (far refl (sym (some-injective c code ok.0)))
shifted next locked locked' c n q Ready code found after second real told once same out far ok = absurd (far refl (sym (some-injective c code ok.0)))
shifted next locked locked' c n q Passing code found after second real told once same out far ok = absurd (far refl (sym (some-injective c code ok.0)))
shifted next locked locked' c n q _ code found after second real told once same out far ok = tt
