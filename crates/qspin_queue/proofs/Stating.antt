-- The lock's own facts imply what its words state of the passes.
use Rattle.std.proofs.Common.{◌≡◌, ◌≢◌, ℕ, zero, suc, ◌/◌, ◌==◌, ◌≤◌, ◌⊎◌, Bool, true, false, List, [], ◌∷◌, length, sym, refl, ap, ◌∙◌, subst, inl, inr, ⊎_elim, arith, eq-eqb, ne_eqb, ◌+◌}
use mathlib.Core.Option.{some, some-injective, some-ne-none}
use mathlib.Core.List.{reverse_aux}
use mathlib.Core.Logic.{dite}
use native.Mathlib.Decide.{ℕ_discrete}
use lib.ListN.{get_elem?}
use Rattle.std.specs.Prelude.{reverse}
use Rattle.std.proofs.lemmas.List.{reverse-reverse}
use Rattle.qspin_queue.specs.Types.{Frame, Point, Linking, Waiting, Head, Ready, Passing}
use Rattle.lock_core.specs.Totals.{total}
use Rattle.lock_core.specs.SpinFrames.{when, code_is, stands, uses, stands_as, takes_of, pends_of, undoes_of, is_head}
use Rattle.lock_core.specs.SpinQueues.{tail_of, tail_unit, Before, PointOk, Queued, LockKept}
use Rattle.lock_core.specs.SpinStated.{owns_of, found_at, found_by, Walks, OwesLink, IsSpinLock}
use Rattle.qspin_word.proofs.Codes.{one_place, no_tail, some_summand}
use Rattle.qspin_queue.proofs.Standing.{once, other_code, counted, counts-stands, stands-uses}

total-none : {V : Type 0} (f : V → ℕ) (vs : List V) → ((j : ℕ) (v : V) → get_elem? vs j ≡ some v → f v ≡ 0) → total f vs ≡ 0
total-none f [] none = refl
total-none f (x ∷ xs) none = let a = none 0 x refl in let b = total-none f xs (λ j v at. none (suc j) v at) in omega arith

total-only : {V : Type 0} (f : V → ℕ) (vs : List V) (id : ℕ) (v : V) → get_elem? vs id ≡ some v → ((j : ℕ) (w : V) → j ≢ id → get_elem? vs j ≡ some w → f w ≡ 0) → total f vs ≡ f v
total-only f [] id v at other = absurd (some-ne-none v (sym at))
total-only f (x ∷ xs) zero v at other = let is : f x ≡ f v = ap f (some-injective x v at) in let z = total-none f xs (λ j w there. other (suc j) w (λ e. omega arith) there) in omega arith
total-only f (x ∷ xs) (suc id) v at other = let z = other 0 x (λ e. omega arith) refl in let r = total-only f xs id v at (λ j w n there. other (suc j) w (λ e. n (omega arith)) there) in omega arith

-- where a frame stands: first, or behind the node that it found
Placed : (ℕ → ℕ) → List ℕ → (p code found : ℕ) → Type 0
Placed locked q p code found = ((p ≡ 0) × ((found ≡ 0) ⊎ (locked code ≡ 1))) ⊎ ((r : ℕ) × (p ≡ suc r) × (get_elem? q r ≡ some found) × (locked code ≡ 0))

behind : (locked : ℕ → ℕ) (q : List ℕ) (p code found : ℕ) → total (code_is code) q ≤ 1 → Before q found code → locked code ≡ 0 → get_elem? q p ≡ some code → Placed locked q p code found
unfolding Placed
behind locked q p code found single (r, at, at') low there = inr (r, one_place q p (suc r) code single there at', at, low)

placed : (next locked : ℕ → ℕ) (q : List ℕ) (point : Point) (p code found after : ℕ) → total (code_is code) q ≤ 1 → stands point ≡ true → PointOk next locked q point code found after → get_elem? q p ≡ some code → Placed locked q p code found
unfolding Placed
placed next locked q Linking p code found after single standing ok there = behind locked q p code found single ok.0 ok.2 there
placed next locked q Waiting p code found after single standing ok there = ⊎_elim (λ t. behind locked q p code found single t.0 t.1 there) (λ t. inl (one_place q p 0 code single there t.0, inr t.1)) ok
placed next locked q Head p code found after single standing ok there = inl (one_place q p 0 code single there ok.0, ok.1)
placed next locked q Ready p code found after single standing ok there = inl (one_place q p 0 code single there ok.0, ok.1)
placed next locked q Passing p code found after single standing ok there = inl (one_place q p 0 code single there ok.0, ok.1)
placed next locked q _ p code found after single standing ok there = absurd cc

-- a head has the first node
head-first : (next locked : ℕ → ℕ) (q : List ℕ) (point : Point) (code found after : ℕ) → is_head point ≡ true → PointOk next locked q point code found after → get_elem? q 0 ≡ some code
head-first next locked q Head code found after head ok = ok.0
head-first next locked q Ready code found after head ok = ok.0
head-first next locked q Passing code found after head ok = ok.0
head-first next locked q _ code found after head ok = absurd cc

walk_on : (found locked : ℕ → ℕ) (a : ℕ) (more rest : List ℕ) → Walks found locked a (a ∷ more) → ((i x : ℕ) → get_elem? (a ∷ rest) (suc i) ≡ some x → (get_elem? (a ∷ rest) i ≡ some (found x)) × (locked x ≡ 0) × (x ≢ 0) × (found x ≢ 0))
    → Walks found locked (tail_of (a ∷ rest)) (reverse_aux rest (a ∷ more))
walk_on found locked a more [] w facts = w
walk_on found locked a more (b ∷ rest) w facts = let f = facts 0 b refl in let e : a ≡ found b = some-injective a (found b) f.0 in
    walk_on found locked b (a ∷ more) rest (refl, f.2, inr (f.3, (λ one. let z = f.1 in omega arith), subst (λ c. Walks found locked c (a ∷ more)) e w)) (λ i x at. facts (suc i) x at)

no-suc : (n : ℕ) → suc n ≡ 0 → ⊥
no-suc n e = omega arith

suc-same : (n m : ℕ) → suc n ≡ suc m → n ≡ m
suc-same n m e = omega arith

real : (q : List ℕ) → total (code_is 0) q ≡ 0 → (p x : ℕ) → get_elem? q p ≡ some x → x ≢ 0
real q none p x at nil = let c = counted q p x at in let e : total (code_is x) q ≡ total (code_is 0) q = ap (λ z. total (code_is z) q) nil in omega arith

others-found_at : (q : List ℕ) (fs : List Frame) → Queued q fs → (id j x : ℕ) (f g : Frame) → get_elem? fs id ≡ some f → get_elem? fs j ≡ some g → j ≢ id → stands f.point ≡ true → f.code ≡ x → (b : Bool) → stands g.point ≡ b → found_at x g ≡ 0
others-found_at q fs k id j x f g at at' far standing is false out = ap (λ b. when b (when (g.code == x) g.found)) out
others-found_at q fs k id j x f g at at' far standing is true stands' = ap (λ b. when b (when (g.code == x) g.found)) stands' ∙ ap (λ b. when b g.found) (ne_eqb g.code x (λ e. other_code q fs k id j f g at at' far (stands-uses f.point standing) (stands-uses g.point stands') (e ∙ sym is)))

-- no two lists are the walk
stops_not : (n m : ℕ) → (n ≡ 0) ⊎ (m ≡ 1) → n ≢ 0 → m ≢ 1 → ⊥
stops_not n m stops on low = ⊎_elim on low stops

walks-same : (found locked : ℕ → ℕ) (c : ℕ) (xs ys : List ℕ) → Walks found locked c xs → Walks found locked c ys → xs ≡ ys
walks-same found locked c [] [] a b = refl
walks-same found locked c [] (y ∷ ys) a b = absurd (b.1 (sym b.0 ∙ a))
walks-same found locked c (x ∷ xs) [] a b = absurd (a.1 (sym a.0 ∙ b))
walks-same found locked c (x ∷ xs) (y ∷ ys) a b = let same : x ≡ y = sym a.0 ∙ b.0 in let more = subst (λ z. ((ys ≡ []) × ((found z ≡ 0) ⊎ (locked z ≡ 1))) ⊎ ((found z ≢ 0) × (locked z ≢ 1) × Walks found locked (found z) ys)) (sym same) b.2 in
    ⊎_elim
    (λ s. ⊎_elim (λ t. let e : xs ≡ ys = s.0 ∙ sym t.0 in cc) (λ t. absurd (stops_not (found x) (locked x) s.1 t.0 t.1)) more)
    (λ s. ⊎_elim (λ t. absurd (stops_not (found x) (locked x) t.1 s.0 s.1)) (λ t. let e = walks-same found locked (found x) xs ys s.2 t.2 in cc) more) a.2

total-owns : (fs : List Frame) → total owns_of fs ≡ total undoes_of fs + total pends_of fs + total takes_of fs
total-owns [] = refl
total-owns (x ∷ xs) = let r = total-owns xs in omega (arith, r)

-- the node before one is the one that it found
found-before : (q : List ℕ) (p x code found : ℕ) → total (code_is code) q ≤ 1 → get_elem? q p ≡ some x → get_elem? q (suc p) ≡ some code → Before q found code → found ≡ x
found-before q p x code found single here there (r, at, at') = let e : p ≡ r = suc-same p r (one_place q (suc p) (suc r) code single there at') in some-injective found x (sym at ∙ (ap (get_elem? q) (sym e) ∙ here))

-- whose node stands behind one that doesn't name it hasn't linked yet
owes-point : (next locked : ℕ → ℕ) (q : List ℕ) (point : Point) (p x code found after : ℕ) → total (code_is code) q ≤ 1 → code ≢ 0 → stands point ≡ true → PointOk next locked q point code found after → get_elem? q p ≡ some x → get_elem? q (suc p) ≡ some code → next x ≡ 0 → (point ≡ Linking) × (found ≡ x)
owes-point next locked q Linking p x code found after single some_code standing ok here there none = (refl, found-before q p x code found single here there ok.0)
owes-point next locked q Waiting p x code found after single some_code standing ok here there none = ⊎_elim
    (λ t. absurd (some_code (sym t.2 ∙ (ap next (found-before q p x code found single here there t.0) ∙ none))))
    (λ t. absurd (no-suc p (one_place q (suc p) 0 code single there t.0))) ok
owes-point next locked q Head p x code found after single some_code standing ok here there none = absurd (no-suc p (one_place q (suc p) 0 code single there ok.0))
owes-point next locked q Ready p x code found after single some_code standing ok here there none = absurd (no-suc p (one_place q (suc p) 0 code single there ok.0))
owes-point next locked q Passing p x code found after single some_code standing ok here there none = absurd (no-suc p (one_place q (suc p) 0 code single there ok.0))
owes-point next locked q _ p x code found after single some_code standing ok here there none = absurd cc

module _ (word : ℕ) (next locked : ℕ → ℕ) (q : List ℕ) (fs : List Frame) (k : LockKept word next locked q fs) where
  -- the node at a place is a frame's, which found what it says
  place_of : (p x : ℕ) → get_elem? q p ≡ some x → Placed locked q p x (found_by fs x)
  place_of p x there = let c = counted q p x there in let m = k.queued.members x in let s = some_summand (stands_as x) fs (omega arith) in let f = s.1 in let t = counts-stands (stands f.point) x f.code s.3 in
      let found : found_by fs x ≡ f.found = total-only (found_at x) fs s.0 f s.2 (λ j g far at. others-found_at q fs k.queued s.0 j x f g s.2 at far t.0 t.1 (stands g.point) refl)
      ∙ (ap (λ b. when b (when (f.code == x) f.found)) t.0 ∙ ap (λ b. when b f.found) (eq-eqb f.code x t.1)) in
      subst (λ z. Placed locked q p x z) (sym found) (subst (λ z. Placed locked q p z f.found) t.1 (placed next locked q f.point p f.code f.found f.next (once q fs k.queued f.code) t.0 (k.each s.0 f s.2) (there ∙ ap some (sym t.1))))

  -- each but the head stands behind the node that it found
  follows : (a : ℕ) (rest : List ℕ) → q ≡ a ∷ rest → (i x : ℕ) → get_elem? (a ∷ rest) (suc i) ≡ some x → (get_elem? (a ∷ rest) i ≡ some (found_by fs x)) × (locked x ≡ 0) × (x ≢ 0) × (found_by fs x ≢ 0)
  unfolding Placed
  follows a rest is i x there = let at : get_elem? q (suc i) ≡ some x = subst (λ z. get_elem? z (suc i) ≡ some x) (sym is) there in ⊎_elim (λ t. absurd (no-suc i t.0))
      (λ t. let e : i ≡ t.0 = suc-same i t.0 t.1 in let before : get_elem? q i ≡ some (found_by fs x) = subst (λ z. get_elem? q z ≡ some (found_by fs x)) (sym e) t.2 in
      (subst (λ z. get_elem? z i ≡ some (found_by fs x)) is before, t.3, real q k.queued.real (suc i) x at, real q k.queued.real i (found_by fs x) before))
      (place_of (suc i) x at)

  -- the first found no tail, or was told
  first : (x : ℕ) → get_elem? q 0 ≡ some x → (found_by fs x ≡ 0) ⊎ (locked x ≡ 1)
  unfolding Placed
  first x at = ⊎_elim (λ t. t.1) (λ t. absurd (no-suc t.0 (sym t.1))) (place_of 0 x at)

  walks : (q' : List ℕ) → q ≡ q' → Walks (found_by fs) locked (tail_of q') (reverse q')
  unfolding Placed
  walks [] is = refl
  walks (a ∷ rest) is = let at : get_elem? q 0 ≡ some a = ap (λ z. get_elem? z 0) is in walk_on (found_by fs) locked a [] rest
      (refl, real q k.queued.real 0 a at, inl (refl, first a at))
      (λ i x there. follows a rest is i x there)

  told : (p x : ℕ) → get_elem? q p ≡ some x → locked x ≡ 1 → p ≡ 0
  unfolding Placed
  told p x there one = ⊎_elim (λ t. t.0) (λ t. let z = t.3 in absurd (omega arith)) (place_of p x there)

  one-owes : (x y : ℕ) → Before q x y → next x ≡ 0 → (j : ℕ) × (f : Frame) × (get_elem? fs j ≡ some f) × OwesLink x y f × ((i : ℕ) (g : Frame) → get_elem? fs i ≡ some g → OwesLink x y g → i ≡ j)
  one-owes x y b none = let c = counted q (suc b.0) y b.2 in let m = k.queued.members y in let s = some_summand (stands_as y) fs (omega arith) in let f = s.1 in let t = counts-stands (stands f.point) y f.code s.3 in
      let o = owes-point next locked q f.point b.0 x f.code f.found f.next (once q fs k.queued f.code) (λ z. real q k.queued.real (suc b.0) y b.2 (sym t.1 ∙ z)) t.0 (k.each s.0 f s.2) b.1 (b.2 ∙ ap some (sym t.1)) none in
      (s.0, f, s.2, (o.0, o.1, t.1), λ i g at w. dite (ℕ_discrete i s.0) (λ e. e) (λ far. absurd (other_code q fs k.queued s.0 i f g s.2 at far (stands-uses f.point t.0) (ap uses w.0) (w.2 ∙ sym t.1))))

  owes-link : (j : ℕ) (f : Frame) → get_elem? fs j ≡ some f → f.point ≡ Linking → (next f.found ≡ 0) × Before q f.found f.code
  owes-link j f at is = let o = subst (λ p. PointOk next locked q p f.code f.found f.next) is (k.each j f at) in (o.1, o.0)

  pub states : IsSpinLock word next locked q fs
  states = let b = k.balanced in let o = total-owns fs in let here : Walks (found_by fs) locked (word / tail_unit) (reverse q) = subst (λ c. Walks (found_by fs) locked c (reverse q)) (let e : tail_of q ≡ word / tail_unit = omega arith in e) (walks q refl) in record {
    whole = omega arith;
    byte = (omega arith, omega arith);
    pending = (omega arith, omega arith);
    undone = λ some none. let e = ap length (no_tail q k.queued.real (omega arith)) in let u = b.undone in omega arith;
    members = k.queued.members;
    once = once q fs k.queued;
    walk = here;
    only = λ other w. sym (reverse-reverse other) ∙ (ap reverse (walks-same (found_by fs) locked (word / tail_unit) (reverse other) (reverse q) w here) ∙ reverse-reverse q);
    empty = ((λ none. let e = ap tail_of none in omega arith), (λ none. no_tail q k.queued.real (omega arith)));
    linked = k.linked;
    owed = one-owes;
    owes = owes-link;
    told = told;
    first = first;
    heads = λ j f at head. head-first next locked q f.point f.code f.found f.next head (k.each j f at);
    ready = λ some. (omega arith, omega arith, omega arith);
  }
