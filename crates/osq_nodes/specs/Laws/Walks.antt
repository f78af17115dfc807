-- What is stated of a spin queue follows from its rule, and there is one queue.
use Rattle.std.proofs.Common.{◌≡◌, ℕ, zero, suc, List, [], ◌∷◌, reverse, refl, sym, ap, ◌∙◌, subst, inl, inr, arith}
use Rattle.std.proofs.lemmas.List.{reverse-reverse}
use mathlib.Core.List.{reverse_aux}
use Rattle.lock_core.specs.NodeLists.{IsFirst, Precedes, last_from}
use Rattle.osq_nodes.specs.OsqPlaces.{back_of, IsHeadNode, Owes}
use Rattle.osq_nodes.specs.OsqStated.{IsWalk, IsQueue, AreLinked}
use Rattle.osq_nodes.specs.OsqKept.{IsBehind, IsHead, IsAt, QueueKept}
use Rattle.osq_nodes.specs.Types.{Place, Out, Cleared, Swapped, Linking, Waiting, Unlinked, Splicing, Relinking, Head, Granting}

same-end : (x y c : ℕ) → c ≡ suc x → c ≡ suc y → x ≡ y
same-end x y c e f = omega arith

no-end : (x c : ℕ) → c ≡ 0 → c ≡ suc x → ⊥
no-end x c e f = omega arith

module _ (prev locked : ℕ → ℕ) (place : ℕ → Place) where
  abbrev W : ℕ → List ℕ → Type 0
  W = IsWalk prev locked place

  -- there is one such walk
  pub walk-same : (c d : ℕ) (r s : List ℕ) → c ≡ d → W c r → W d s → r ≡ s
  walk-same c d [] [] cd a b = refl
  walk-same c d [] (x ∷ []) cd a b = absurd (no-end x d (sym cd ∙ a) b.0)
  walk-same c d [] (x ∷ y ∷ s) cd a b = absurd (no-end x d (sym cd ∙ a) b.0)
  walk-same c d (x ∷ []) [] cd a b = absurd (no-end x d b (sym cd ∙ a.0))
  walk-same c d (x ∷ y ∷ r) [] cd a b = absurd (no-end x d b (sym cd ∙ a.0))
  walk-same c d (x ∷ []) (z ∷ []) cd a b = ap (λ (n : ℕ). n ∷ []) (same-end x z d (sym cd ∙ a.0) b.0)
  walk-same c d (x ∷ []) (z ∷ w ∷ s) cd a b = let e = same-end x z d (sym cd ∙ a.0) b.0 in absurd (b.1 (subst (λ (n : ℕ). IsHeadNode (place n) (locked n)) e a.1))
  walk-same c d (x ∷ y ∷ r) (z ∷ []) cd a b = let e = same-end x z d (sym cd ∙ a.0) b.0 in absurd (a.1 (subst (λ (n : ℕ). IsHeadNode (place n) (locked n)) (sym e) b.1))
  walk-same c d (x ∷ y ∷ r) (z ∷ w ∷ s) cd a b = let e = same-end x z d (sym cd ∙ a.0) b.0 in
      let rest = walk-same (back_of (place x) (prev x)) (back_of (place z) (prev z)) (y ∷ r) (w ∷ s) (ap (λ (n : ℕ). back_of (place n) (prev n)) e) a.2 b.2 in λ i. e i ∷ rest i

-- who stands behind another isn't a head, and that one is its predecessor
behind-back : (x : ℕ) (p : Place) (w l : ℕ) → IsBehind x p w l → back_of p w ≡ suc x
behind-back x Out w l h = absurd h
behind-back x Cleared w l h = absurd h
behind-back x (Swapped p) w l h = ap suc h.0
behind-back x (Linking p) w l h = h.0
behind-back x Waiting w l h = h.0
behind-back x (Unlinked p) w l h = h.0
behind-back x (Splicing p n) w l h = h.0
behind-back x (Relinking p n) w l h = absurd h
behind-back x Head w l h = absurd h
behind-back x (Granting n) w l h = absurd h

not-one : (l : ℕ) → l ≡ 0 → l ≡ 1 → ⊥
not-one l e f = omega arith

behind-not : (x : ℕ) (p : Place) (w l : ℕ) → IsBehind x p w l → IsHeadNode p l → ⊥
behind-not x Out w l h = λ f. f
behind-not x Cleared w l h = λ f. f
behind-not x (Swapped p) w l h = not-one l h.1
behind-not x (Linking p) w l h = not-one l h.1
behind-not x Waiting w l h = not-one l h.1
behind-not x (Unlinked p) w l h = not-one l h.1
behind-not x (Splicing p n) w l h = not-one l h.1
behind-not x (Relinking p n) w l h = λ f. f
behind-not x Head w l h = λ f. h
behind-not x (Granting n) w l h = λ f. h

pub head-is : (p : Place) (l : ℕ) → IsHead p l → IsHeadNode p l
head-is Out l f = f
head-is Cleared l f = f
head-is (Swapped p) l f = absurd f
head-is (Linking p) l f = absurd f
head-is Waiting l f = f
head-is (Unlinked p) l f = absurd f
head-is (Splicing p n) l f = absurd f
head-is (Relinking p n) l f = f
head-is Head l f = f
head-is (Granting n) l f = f

walks-on : (prev locked : ℕ → ℕ) (place : ℕ → Place) (a : ℕ) (r q : List ℕ) → IsWalk prev locked place (suc a) (a ∷ r) → ((x y : ℕ) → Precedes (a ∷ q) x y → IsBehind x (place y) (prev y) (locked y))
    → IsWalk prev locked place (last_from (suc a) q) (reverse_aux q (a ∷ r))
walks-on prev locked place a r [] w behind = w
walks-on prev locked place a r (b ∷ q) w behind = let h = behind a b (inl (refl, refl)) in
    walks-on prev locked place b (a ∷ r) q (
      refl,
      behind-not a (place b) (prev b) (locked b) h,
      subst
          (λ (c : ℕ). IsWalk prev locked place c (a ∷ r)) (sym (behind-back a (place b) (prev b) (locked b) h)) w,
    ) (λ x y n. behind x y (inr n))

walks : (prev locked : ℕ → ℕ) (place : ℕ → Place) (q : List ℕ) → ((x y : ℕ) → Precedes q x y → IsBehind x (place y) (prev y) (locked y)) → ((t : ℕ) → IsFirst q t → IsHead (place t) (locked t))
    → IsWalk prev locked place (last_from 0 q) (reverse q)
walks prev locked place [] behind head = refl
walks prev locked place (a ∷ q) behind head = walks-on prev locked place a [] q (refl, head-is (place a) (locked a) (head a refl)) behind

module _ (size tail : ℕ) (next prev locked : ℕ → ℕ) (place : ℕ → Place) (q : List ℕ) (r : QueueKept size tail next prev locked place q) where
  pub is-queue : IsQueue tail prev locked place q
  is-queue = record {
    walk = subst (λ (c : ℕ). IsWalk prev locked place c (reverse q)) (sym r.ends) (walks prev locked place q r.behind r.head);
    once = r.once;
  }

  -- whoever owes a link is the one that the rule names
  pub owes-one : (d : ℕ) (p : Place) (w l x y : ℕ) → IsAt size q r.debtor d p w l → Owes d p x y → r.debtor x ≡ suc d
  owes-one d Out w l x y at h = absurd h
  owes-one d Cleared w l x y at h = absurd h
  owes-one d (Swapped p) w l x y at h = ap r.debtor (sym h.0) ∙ at.1
  owes-one d (Linking p) w l x y at h = ap r.debtor (sym h.0) ∙ at.1
  owes-one d Waiting w l x y at h = absurd h
  owes-one d (Unlinked p) w l x y at h = ap r.debtor (sym h.0) ∙ at.1
  owes-one d (Splicing p n) w l x y at (inl h) = ap r.debtor (sym h.0) ∙ at.0.1
  owes-one d (Splicing p n) w l x y at (inr h) = ap r.debtor (sym h.0) ∙ at.1.1
  owes-one d (Relinking p n) w l x y at h = ap r.debtor (sym h.0) ∙ at.1.1
  owes-one d Head w l x y at h = absurd h
  owes-one d (Granting n) w l x y at h = ap r.debtor (sym h.0) ∙ at.1.1

  -- the link that it names isn't there
  not-there : (x d : ℕ) → r.debtor x ≡ suc d → next x ≡ 0
  not-there x d named = none (next x) refl
    where
      none : (n : ℕ) → next x ≡ n → next x ≡ 0
      none zero is = is
      none (suc y) is = absurd (no-end d (r.debtor x) (r.links x y is).1 named)

  owes-behind : (d : ℕ) (p : Place) (w l x y : ℕ) → IsAt size q r.debtor d p w l → Owes d p x y → Precedes q x y
  owes-behind d Out w l x y at h = absurd h
  owes-behind d Cleared w l x y at h = absurd h
  owes-behind d (Swapped p) w l x y at h = subst (λ (z : ℕ × ℕ). Precedes q z.0 z.1) (λ i. (h.0 i, h.1 i)) at.0
  owes-behind d (Linking p) w l x y at h = subst (λ (z : ℕ × ℕ). Precedes q z.0 z.1) (λ i. (h.0 i, h.1 i)) at.0
  owes-behind d Waiting w l x y at h = absurd h
  owes-behind d (Unlinked p) w l x y at h = subst (λ (z : ℕ × ℕ). Precedes q z.0 z.1) (λ i. (h.0 i, h.1 i)) at.0
  owes-behind d (Splicing p n) w l x y at (inl h) = subst (λ (z : ℕ × ℕ). Precedes q z.0 z.1) (λ i. (h.0 i, h.1 i)) at.0.0
  owes-behind d (Splicing p n) w l x y at (inr h) = subst (λ (z : ℕ × ℕ). Precedes q z.0 z.1) (λ i. (h.0 i, h.1 i)) at.1.0
  owes-behind d (Relinking p n) w l x y at h = subst (λ (z : ℕ × ℕ). Precedes q z.0 z.1) (λ i. (h.0 i, h.1 i)) at.1.0
  owes-behind d Head w l x y at h = absurd h
  owes-behind d (Granting n) w l x y at h = subst (λ (z : ℕ × ℕ). Precedes q z.0 z.1) (λ i. (h.0 i, h.1 i)) at.1.0

  pub are-linked : AreLinked next place q
  are-linked = record {
    owes = λ d x y o. (owes-behind d (place d) (prev d) (locked d) x y (r.each d) o, not-there x d (owes-one d (place d) (prev d) (locked d) x y (r.each d) o));
    there = λ x y e. let l = r.links x y e in (l.0, λ d o. no-end d (r.debtor x) l.1 (owes-one d (place d) (prev d) (locked d) x y (r.each d) o));
    owed = λ x y h z. let d = r.owed x y h z in (d.0, d.2, λ e o. same-end e d.0 (r.debtor x) (owes-one e (place e) (prev e) (locked e) x y (r.each e) o) d.1);
  }

-- there is one queue
pub queue-same : (tail : ℕ) (prev locked : ℕ → ℕ) (place : ℕ → Place) (p q : List ℕ) → IsQueue tail prev locked place p → IsQueue tail prev locked place q → p ≡ q
queue-same tail prev locked place p q a b = sym (reverse-reverse p) ∙ (ap reverse (walk-same prev locked place tail tail (reverse p) (reverse q) refl a.walk b.walk) ∙ reverse-reverse q)
