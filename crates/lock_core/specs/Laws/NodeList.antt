-- Queues of nodes: neighbours, the first, the last, and a queue with one node more or one less.
use Rattle.std.proofs.Common.{◌≡◌, ◌≢◌, ℕ, zero, suc, ◌⊎◌, List, [], ◌∷◌, ◌++◌, sym, refl, ap, ◌∙◌, subst, inl, inr, ⊎_elim, arith, eq-eqb, ne_eqb, if◌then◌else◌, Bool}
use mathlib.Core.Logic.{dite}
use native.Mathlib.Decide.{ℕ_discrete}
use Rattle.lock_core.specs.NodeLists.{Has, IsFirst, Precedes, IsOnce, last_from, without}

pub first-has : (q : List ℕ) (t : ℕ) → IsFirst q t → Has q t
first-has [] t f = f
first-has (x ∷ q) t f = inl f

pub first-same : (q : List ℕ) (x y : ℕ) → IsFirst q x → IsFirst q y → x ≡ y
first-same [] x y f g = absurd f
first-same (a ∷ q) x y f g = sym f ∙ g

pub left-has : (q : List ℕ) (x y : ℕ) → Precedes q x y → Has q x
left-has [] x y h = h
left-has (a ∷ q) x y (inl h) = inl h.0
left-has (a ∷ q) x y (inr h) = inr (left-has q x y h)

pub right-has : (q : List ℕ) (x y : ℕ) → Precedes q x y → Has q y
right-has [] x y h = h
right-has (a ∷ q) x y (inl h) = inr (first-has q y h.1)
right-has (a ∷ q) x y (inr h) = inr (right-has q x y h)

-- the first has nobody before it
pub first-before : (q : List ℕ) (x y : ℕ) → IsOnce q → IsFirst q y → Precedes q x y → ⊥
first-before [] x y o f h = h
first-before (a ∷ q) x y o f (inl h) = o.0 (first-has q a (subst (IsFirst q) (sym f) h.1))
first-before (a ∷ q) x y o f (inr h) = o.0 (subst (Has q) (sym f) (right-has q x y h))

pub same-successor : (q : List ℕ) (x y z : ℕ) → IsOnce q → Precedes q x y → Precedes q x z → y ≡ z
same-successor [] x y z o h k = absurd h
same-successor (a ∷ q) x y z o (inl h) (inl k) = first-same q y z h.1 k.1
same-successor (a ∷ q) x y z o (inl h) (inr k) = absurd (o.0 (subst (Has q) (sym h.0) (left-has q x z k)))
same-successor (a ∷ q) x y z o (inr h) (inl k) = absurd (o.0 (subst (Has q) (sym k.0) (left-has q x y h)))
same-successor (a ∷ q) x y z o (inr h) (inr k) = same-successor q x y z o.1 h k

pub same-predecessor : (q : List ℕ) (x y z : ℕ) → IsOnce q → Precedes q x z → Precedes q y z → x ≡ y
same-predecessor [] x y z o h k = absurd h
same-predecessor (a ∷ q) x y z o (inl h) (inl k) = sym h.0 ∙ k.0
same-predecessor (a ∷ q) x y z o (inl h) (inr k) = absurd (first-before q y z o.1 h.1 k)
same-predecessor (a ∷ q) x y z o (inr h) (inl k) = absurd (first-before q x z o.1 k.1 h)
same-predecessor (a ∷ q) x y z o (inr h) (inr k) = same-predecessor q x y z o.1 h k

pub precedes-apart : (q : List ℕ) (x : ℕ) → IsOnce q → Precedes q x x → ⊥
precedes-apart [] x o h = h
precedes-apart (a ∷ q) x o (inl h) = o.0 (first-has q a (subst (IsFirst q) (sym h.0) h.1))
precedes-apart (a ∷ q) x o (inr h) = precedes-apart q x o.1 h

pub has-cases : (q : List ℕ) (t : ℕ) → Has q t → IsFirst q t ⊎ ((x : ℕ) × Precedes q x t)
has-cases [] t m = absurd m
has-cases (a ∷ q) t (inl e) = inl e
has-cases (a ∷ q) t (inr m) = ⊎_elim (λ f. inr (a, inl (refl, f))) (λ h. inr (h.0, inr h.1)) (has-cases q t m)

-- the last

pub last-cases : (c : ℕ) (q : List ℕ) (z : ℕ) → last_from c q ≡ suc z → ((c ≡ suc z) × (q ≡ [])) ⊎ Has q z
last-cases c [] z e = inl (e, refl)
last-cases c (x ∷ q) z e = ⊎_elim (λ h. let s = h.0 in let is : x ≡ z = omega (arith, s) in inr (inl is)) (λ m. inr (inr m)) (last-cases (suc x) q z e)

pub last-has : (q : List ℕ) (z : ℕ) → last_from 0 q ≡ suc z → Has q z
last-has q z e = ⊎_elim (λ h. let s = h.0 in absurd (omega (arith, s))) (λ m. m) (last-cases 0 q z e)

pub last-precedes : (c : ℕ) (q : List ℕ) (z y : ℕ) → IsOnce q → last_from c q ≡ suc z → Precedes q z y → ⊥
last-precedes c [] z y o e h = h
last-precedes c (x ∷ q) z y o e (inl h) = ⊎_elim (λ k. subst (λ (r : List ℕ). IsFirst r y) k.1 h.1) (λ m. o.0 (subst (Has q) (sym h.0) m)) (last-cases (suc x) q z e)
last-precedes c (x ∷ q) z y o e (inr h) = last-precedes (suc x) q z y o.1 e h

pub last-some : (x : ℕ) (q : List ℕ) → last_from (suc x) q ≡ 0 → ⊥
last-some x [] e = omega (arith, e)
last-some x (y ∷ q) e = last-some y q e

pub last-none : (q : List ℕ) → last_from 0 q ≡ 0 → q ≡ []
last-none [] e = refl
last-none (x ∷ q) e = absurd (last-some x q e)

pub last-snoc : (c : ℕ) (q : List ℕ) (t : ℕ) → last_from c (q ++ t ∷ []) ≡ suc t
last-snoc c [] t = refl
last-snoc c (x ∷ q) t = last-snoc (suc x) q t

-- one more at the end

pub first-snoc : (q : List ℕ) (t u : ℕ) → IsFirst q u → IsFirst (q ++ t ∷ []) u
first-snoc [] t u f = absurd f
first-snoc (x ∷ q) t u f = f

pub snoc-first : (q : List ℕ) (t u : ℕ) → IsFirst (q ++ t ∷ []) u → IsFirst q u ⊎ ((q ≡ []) × (t ≡ u))
snoc-first [] t u f = inr (refl, f)
snoc-first (x ∷ q) t u f = inl f

pub has-snoc : (q : List ℕ) (t u : ℕ) → Has q u → Has (q ++ t ∷ []) u
has-snoc [] t u m = absurd m
has-snoc (x ∷ q) t u (inl e) = inl e
has-snoc (x ∷ q) t u (inr m) = inr (has-snoc q t u m)

pub snoc-has : (q : List ℕ) (t u : ℕ) → Has (q ++ t ∷ []) u → Has q u ⊎ (t ≡ u)
snoc-has [] t u (inl e) = inr e
snoc-has [] t u (inr m) = absurd m
snoc-has (x ∷ q) t u (inl e) = inl (inl e)
snoc-has (x ∷ q) t u (inr m) = ⊎_elim (λ h. inl (inr h)) (λ e. inr e) (snoc-has q t u m)

pub once-snoc : (q : List ℕ) (t : ℕ) → IsOnce q → (¬ Has q t) → IsOnce (q ++ t ∷ [])
once-snoc [] t o n = ((λ m. m), tt)
once-snoc (x ∷ q) t o n = ((λ m. ⊎_elim (λ h. o.0 h) (λ (e : t ≡ x). n (inl (sym e))) (snoc-has q t x m)), once-snoc q t o.1 (λ m. n (inr m)))

pub precedes-snoc : (q : List ℕ) (t x y : ℕ) → Precedes q x y → Precedes (q ++ t ∷ []) x y
precedes-snoc [] t x y h = absurd h
precedes-snoc (a ∷ q) t x y (inl h) = inl (h.0, first-snoc q t y h.1)
precedes-snoc (a ∷ q) t x y (inr h) = inr (precedes-snoc q t x y h)

pub snoc-precedes : (c : ℕ) (q : List ℕ) (t x y : ℕ) → Precedes (q ++ t ∷ []) x y → Precedes q x y ⊎ ((last_from c q ≡ suc x) × (t ≡ y))
snoc-precedes c [] t x y (inl h) = absurd h.1
snoc-precedes c [] t x y (inr h) = absurd h
snoc-precedes c (a ∷ q) t x y (inl h) = ⊎_elim (λ f. inl (inl (h.0, f))) (λ (k : (q ≡ []) × (t ≡ y)). inr (ap (last_from (suc a)) k.0 ∙ ap suc h.0, k.1)) (snoc-first q t y h.1)
snoc-precedes c (a ∷ q) t x y (inr h) = ⊎_elim (λ k. inl (inr k)) (λ k. inr k) (snoc-precedes (suc a) q t x y h)

last-links : (a : ℕ) (q : List ℕ) (t z : ℕ) → last_from (suc a) q ≡ suc z → Precedes (a ∷ (q ++ t ∷ [])) z t
last-links a [] t z e = let is : a ≡ z = omega (arith, e) in inl (is, refl)
last-links a (b ∷ q) t z e = inr (last-links b q t z e)

-- whoever comes stands directly behind the last
pub snoc-links : (q : List ℕ) (t z : ℕ) → last_from 0 q ≡ suc z → Precedes (q ++ t ∷ []) z t
snoc-links [] t z e = absurd (omega (arith, e))
snoc-links (a ∷ q) t z e = last-links a q t z e

-- one less

without-case : (P : List ℕ → Type 0) (t x : ℕ) (q : List ℕ) → (x ≡ t → P q) → (x ≢ t → P (x ∷ without t q)) → P (without t (x ∷ q))
without-case P t x q here there = dite (ℕ_discrete x t) (λ e. subst (λ (b : Bool). P (if b then q else x ∷ without t q)) (sym (eq-eqb x t e)) (here e))
    (λ n. subst (λ (b : Bool). P (if b then q else x ∷ without t q)) (sym (ne_eqb x t n)) (there n))

pub has-kept : (q : List ℕ) (t u : ℕ) → Has q u → u ≢ t → Has (without t q) u
has-kept [] t u m n = m
has-kept (x ∷ q) t u (inl e) n = without-case (λ r. Has r u) t x q (λ is. absurd (n (sym e ∙ is))) (λ _. inl e)
has-kept (x ∷ q) t u (inr m) n = without-case (λ r. Has r u) t x q (λ _. m) (λ _. inr (has-kept q t u m n))

pub kept-has : (q : List ℕ) (t u : ℕ) → IsOnce q → Has (without t q) u → Has q u × (u ≢ t)
kept-has [] t u o m = absurd m
kept-has (x ∷ q) t u o mem = without-case (λ r. Has r u → ((x ≡ u) ⊎ Has q u) × (u ≢ t)) t x q (λ is m. (inr m, λ e. o.0 (subst (Has q) (e ∙ sym is) m)))
    (λ n. ⊎_elim (λ (e : x ≡ u). (inl e, λ k. n (e ∙ k))) (λ m. let r = kept-has q t u o.1 m in (inr r.0, r.1))) mem

pub once-kept : (q : List ℕ) (t : ℕ) → IsOnce q → IsOnce (without t q)
once-kept [] t o = o
once-kept (x ∷ q) t o = without-case IsOnce t x q (λ _. o.1) (λ _. ((λ m. o.0 ((kept-has q t x o.1 m).0)), once-kept q t o.1))

pub first-kept : (q : List ℕ) (t u : ℕ) → IsFirst q u → u ≢ t → IsFirst (without t q) u
first-kept [] t u f n = f
first-kept (x ∷ q) t u f n = without-case (λ r. IsFirst r u) t x q (λ is. absurd (n (sym f ∙ is))) (λ _. f)

pub kept-first : (q : List ℕ) (t u : ℕ) → IsFirst (without t q) u → IsFirst q u ⊎ (IsFirst q t × Precedes q t u)
kept-first [] t u f = absurd f
kept-first (x ∷ q) t u first = without-case (λ r. IsFirst r u → (x ≡ u) ⊎ ((x ≡ t) × (((x ≡ t) × IsFirst q u) ⊎ Precedes q t u))) t x q (λ is f. inr (is, inl (is, f))) (λ _ f. inl f) first

pub precedes-kept : (q : List ℕ) (t x y : ℕ) → Precedes q x y → x ≢ t → y ≢ t → Precedes (without t q) x y
precedes-kept [] t x y h n m = h
precedes-kept (a ∷ q) t x y (inl h) n m = without-case (λ r. Precedes r x y) t a q (λ is. absurd (n (sym h.0 ∙ is))) (λ _. inl (h.0, first-kept q t y h.1 m))
precedes-kept (a ∷ q) t x y (inr h) n m = without-case (λ r. Precedes r x y) t a q (λ _. h) (λ _. inr (precedes-kept q t x y h n m))

-- neighbours afterwards were neighbours before, or the one that left stood between them
pub kept-precedes : (q : List ℕ) (t x y : ℕ) → Precedes (without t q) x y → Precedes q x y ⊎ (Precedes q x t × Precedes q t y)
kept-precedes [] t x y h = absurd h
kept-precedes (a ∷ q) t x y next = without-case (λ r. Precedes r x y → Precedes (a ∷ q) x y ⊎ (Precedes (a ∷ q) x t × Precedes (a ∷ q) t y)) t a q (λ _ h. inl (inr h))
    (λ _. ⊎_elim (λ (h : (a ≡ x) × IsFirst (without t q) y). ⊎_elim (λ f. inl (inl (h.0, f))) (λ k. inr (inl (h.0, k.0), inr k.1)) (kept-first q t y h.1))
    (λ h. ⊎_elim (λ k. inl (inr k)) (λ k. inr (inr k.0, inr k.1)) (kept-precedes q t x y h))) next

second-kept : (q : List ℕ) (t y : ℕ) → IsOnce q → IsFirst q t → Precedes q t y → IsFirst (without t q) y
second-kept [] t y o f h = h
second-kept (a ∷ q) t y o f (inl h) = without-case (λ r. IsFirst r y) t a q (λ _. h.1) (λ n. absurd (n f))
second-kept (a ∷ q) t y o f (inr h) = absurd (o.0 (subst (Has q) (sym f) (left-has q t y h)))

-- who stood before and behind the one that left are neighbours
pub bridge : (q : List ℕ) (t x y : ℕ) → IsOnce q → Precedes q x t → Precedes q t y → Precedes (without t q) x y
bridge [] t x y o h k = h
bridge (a ∷ q) t x y o (inl h) k = let apart : a ≢ t = λ e. o.0 (first-has q a (subst (IsFirst q) (sym e) h.1)) in
    without-case (λ r. Precedes r x y) t a q (λ e. absurd (apart e)) (λ _. inl (h.0, ⊎_elim (λ (z : (a ≡ t) × IsFirst q y). absurd (apart z.0)) (λ z. second-kept q t y o.1 h.1 z) k))
bridge (a ∷ q) t x y o (inr h) k = let apart : a ≢ t = λ e. o.0 (subst (Has q) (sym e) (right-has q x t h)) in
    without-case (λ r. Precedes r x y) t a q (λ e. absurd (apart e)) (λ _. ⊎_elim (λ (z : (a ≡ t) × IsFirst q y). absurd (apart z.0)) (λ z. inr (bridge q t x y o.1 h z)) k)

last-else : (c x : ℕ) (q : List ℕ) (z : ℕ) → last_from (suc x) q ≡ suc z → x ≢ z → last_from c q ≡ suc z
last-else c x [] z e n = absurd (n (omega (arith, e)))
last-else c x (y ∷ q) z e n = e

-- the last stays, where another leaves
pub last-kept : (c : ℕ) (q : List ℕ) (t z : ℕ) → last_from c q ≡ suc z → z ≢ t → last_from c (without t q) ≡ suc z
last-kept c [] t z e n = e
last-kept c (x ∷ q) t z e n = without-case (λ r. last_from c r ≡ suc z) t x q (λ is. last-else c x q z e (λ k. n (sym k ∙ is))) (λ _. last-kept (suc x) q t z e n)

-- the last leaves
pub last-leaves : (c : ℕ) (q : List ℕ) (t p : ℕ) → IsOnce q → last_from c q ≡ suc t → Precedes q p t → last_from c (without t q) ≡ suc p
last-leaves c [] t p o e h = absurd h
last-leaves c (a ∷ q) t p o e (inl h) = without-case (λ r. last_from c r ≡ suc p) t a q (λ is. absurd (o.0 (first-has q a (subst (IsFirst q) (sym is) h.1)))) (λ _. last-second a q t p o.1 e h.0 h.1)
  where
    last-second : (a : ℕ) (q : List ℕ) (t p : ℕ) → IsOnce q → last_from (suc a) q ≡ suc t → a ≡ p → IsFirst q t → last_from (suc a) (without t q) ≡ suc p
    last-second a [] t p o e is f = absurd f
    last-second a (b ∷ q) t p o e is f = without-case (λ r. last_from (suc a) r ≡ suc p) t b q
        (λ _. ⊎_elim (λ k. ap (last_from (suc a)) k.1 ∙ ap suc is) (λ m. absurd (o.0 (subst (Has q) (sym f) m))) (last-cases (suc b) q t e)) (λ n. absurd (n f))
last-leaves c (a ∷ q) t p o e (inr h) = without-case (λ r. last_from c r ≡ suc p) t a q (λ is. absurd (o.0 (subst (Has q) (sym is) (right-has q p t h)))) (λ _. last-leaves (suc a) q t p o.1 e h)

-- the first and last leaves
pub alone : (q : List ℕ) (t : ℕ) → IsOnce q → IsFirst q t → last_from 0 q ≡ suc t → without t q ≡ []
alone [] t o f e = refl
alone (a ∷ q) t o f e = without-case (λ r. r ≡ []) t a q (λ _. ⊎_elim (λ k. k.1) (λ m. absurd (o.0 (subst (Has q) (sym f) m))) (last-cases (suc a) q t e)) (λ n. absurd (n f))

stays : (q : List ℕ) (t y n : ℕ) → IsOnce q → Precedes q t y → last_from 0 q ≡ n → last_from 0 (without t q) ≡ n
stays q t y zero o h e = absurd (subst (λ (r : List ℕ). Precedes r t y) (last-none q e) h)
stays q t y (suc z) o h e = last-kept 0 q t z e (λ is. last-precedes 0 q t y o (e ∙ ap suc is) h)

-- one with another behind it leaves
pub last-stays : (q : List ℕ) (t y : ℕ) → IsOnce q → Precedes q t y → last_from 0 (without t q) ≡ last_from 0 q
last-stays q t y o h = stays q t y (last_from 0 q) o h refl
