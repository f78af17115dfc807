-- What stays of the queue's rule while one task goes to another place.
use Rattle.std.proofs.Common.{◌≡◌, ◌≢◌, ℕ, suc, ◌⊎◌, List, sym, ap, ◌∙◌, subst, inl, inr, ⊎_elim, arith}
use mathlib.Core.Logic.{dite}
use native.Mathlib.Decide.{ℕ_discrete}
use Rattle.lock_core.specs.NodeLists.{Has, IsFirst, Precedes, last_from, without}
use Rattle.osq_nodes.specs.OsqPlaces.{Owes}
use Rattle.osq_nodes.specs.OsqKept.{IsBehind, IsHead, IsCode, Owed, IsAt, Sets, QueueKept, with_at}
use Rattle.osq_nodes.specs.Types.{Place, Out, Cleared, Swapped, Linking, Waiting, Unlinked, Splicing, Relinking, Head, Granting}
use Rattle.osq_nodes.proofs.Updating.{with_at-sets}
use Rattle.lock_core.specs.Laws.NodeList.{left-has, right-has, same-successor, has-kept, kept-has, once-kept, first-kept, precedes-kept, kept-precedes}

-- a fact of each task, where one goes to another place
pub carry : (place place' : ℕ → Place) (t : ℕ) (P P' : Place) → place t ≡ P → Sets place place' t P' → (F G : ℕ → Place → Type 0) → (F t P → G t P') → ((d : ℕ) → d ≢ t → (p : Place) → F d p → G d p)
    → (d : ℕ) → F d (place d) → G d (place' d)
carry place place' t P P' is s F G mine others d h = dite (ℕ_discrete d t)
    (λ e. subst (λ (u : ℕ). G u (place' u)) (sym e) (subst (G t) (sym s.0) (mine (subst (F t) is (subst (λ (u : ℕ). F u (place u)) e h)))))
    (λ n. subst (G d) (sym (s.1 d n)) (others d n (place d) h))

-- what is so of a task stays so where the links that it owes, and whether it stands, stay
pub at-keeps : (size : ℕ) (q q' : List ℕ) (b b' : ℕ → ℕ) (u : ℕ) (p : Place) (w w' l l' : ℕ) → ((x y : ℕ) → Precedes q x y → b x ≡ suc u → Precedes q' x y × (b' x ≡ suc u))
    → (Has q u → Has q' u) → ((¬ Has q u) → (¬ Has q' u) × (l ≡ 0 → l' ≡ 0)) → (IsFirst q u → IsFirst q' u) → (IsCode size w → IsCode size w') → IsAt size q b u p w l → IsAt size q' b' u p w' l'
at-keeps size q q' b b' u Out w w' l l' owed mem out first code h = (out h).0
at-keeps size q q' b b' u Cleared w w' l l' owed mem out first code h = ((out h.0).0, (out h.0).1 h.1)
at-keeps size q q' b b' u (Swapped p) w w' l l' owed mem out first code h = owed p u h.0 h.1
at-keeps size q q' b b' u (Linking p) w w' l l' owed mem out first code h = owed p u h.0 h.1
at-keeps size q q' b b' u Waiting w w' l l' owed mem out first code h = (mem h.0, code h.1)
at-keeps size q q' b b' u (Unlinked p) w w' l l' owed mem out first code h = owed p u h.0 h.1
at-keeps size q q' b b' u (Splicing p n) w w' l l' owed mem out first code h = (owed p u h.0.0 h.0.1, owed u n h.1.0 h.1.1)
at-keeps size q q' b b' u (Relinking p n) w w' l l' owed mem out first code h = ((out h.0).0, owed p n h.1.0 h.1.1)
at-keeps size q q' b b' u Head w w' l l' owed mem out first code h = first h
at-keeps size q q' b b' u (Granting n) w w' l l' owed mem out first code h = (first h.0, owed u n h.1.0 h.1.1)

pub same-task : (a b : ℕ) → suc a ≡ suc b → a ≡ b
same-task a b e = omega arith

pub no-code : (a n : ℕ) → n ≡ 0 → n ≡ suc a → ⊥
no-code a n z e = omega arith

module _ (size tail : ℕ) (next prev locked : ℕ → ℕ) (place place' : ℕ → Place) (q : List ℕ) (t : ℕ) (r : QueueKept size tail next prev locked place q) where
  pub there : (P : Place) → place t ≡ P → IsAt size q r.debtor t P (prev t) (locked t)
  there P is = subst (λ (p : Place). IsAt size q r.debtor t p (prev t) (locked t)) is (r.each t)

  pub keeps-behind : (P P' : Place) → place t ≡ P → Sets place place' t P' → ((x : ℕ) → IsBehind x P (prev t) (locked t) → IsBehind x P' (prev t) (locked t)) → (x y : ℕ) → Precedes q x y → IsBehind x (place' y) (prev y) (locked y)
  keeps-behind P P' is s mine x y h = let F : ℕ → Place → Type 0 = λ u p. IsBehind x p (prev u) (locked u) in carry place place' t P P' is s F F (mine x) (λ d n p k. k) y (r.behind x y h)

  pub keeps-head : (P P' : Place) → place t ≡ P → Sets place place' t P' → (IsFirst q t → IsHead P (locked t) → IsHead P' (locked t)) → (u : ℕ) → IsFirst q u → IsHead (place' u) (locked u)
  keeps-head P P' is s mine u f = let F : ℕ → Place → Type 0 = λ u p. IsFirst q u → IsHead p (locked u) in carry place place' t P P' is s F F (λ h g. mine g (h g)) (λ d n p k. k) u (r.head u) f

  pub keeps-each : (P P' : Place) → place t ≡ P → Sets place place' t P' → (b' : ℕ → ℕ) → ((x y u : ℕ) → u ≢ t → Precedes q x y → r.debtor x ≡ suc u → b' x ≡ suc u) → IsAt size q b' t P' (prev t) (locked t)
      → (u : ℕ) → IsAt size q b' u (place' u) (prev u) (locked u)
  keeps-each P P' is s b' owed mine u = carry place place' t P P' is s (λ u p. IsAt size q r.debtor u p (prev u) (locked u)) (λ u p. IsAt size q b' u p (prev u) (locked u)) (λ _. mine)
      (λ d n p k. at-keeps size q q r.debtor b' d p (prev d) (prev d) (locked d) (locked d) (λ x y h e. (h, owed x y d n h e)) (λ m. m) (λ o. (o, λ z. z)) (λ f. f) (λ c. c) k) u (r.each u)

  -- a step that changes no word
  pub moves-on : (P P' : Place) → place t ≡ P → Sets place place' t P' → ((x y : ℕ) → Owes t P x y → Owes t P' x y) → ((x : ℕ) → IsBehind x P (prev t) (locked t) → IsBehind x P' (prev t) (locked t))
      → (IsFirst q t → IsHead P (locked t) → IsHead P' (locked t)) → IsAt size q r.debtor t P' (prev t) (locked t) → QueueKept size tail next prev locked place' q
  moves-on P P' is s owes behind head mine = record {
    debtor = r.debtor;
    once = r.once;
    ends = r.ends;
    inside = r.inside;
    links = r.links;
    owed = λ x y h z. let d = r.owed x y h z in let F : ℕ → Place → Type 0 = λ u p. Owes u p x y in (d.0, d.1, carry place place' t P P' is s F F (owes x y) (λ u n p k. k) d.0 d.2);
    behind = keeps-behind P P' is s behind;
    head = keeps-head P P' is s head;
    each = keeps-each P P' is s r.debtor (λ x y u n h e. e) mine;
  }

  -- t takes the link from x to y out of its word, and owes it from now on
  pub takes : (P P' : Place) (x y : ℕ) (next' : ℕ → ℕ) → place t ≡ P → Sets place place' t P' → next x ≡ suc y → Sets next next' x 0 → ((a c : ℕ) → Owes t P a c → Owes t P' a c) → Owes t P' x y
      → ((a : ℕ) → IsBehind a P (prev t) (locked t) → IsBehind a P' (prev t) (locked t)) → (IsFirst q t → IsHead P (locked t) → IsHead P' (locked t))
      → ((b' : ℕ → ℕ) → Sets r.debtor b' x (suc t) → IsAt size q b' t P' (prev t) (locked t)) → QueueKept size tail next' prev locked place' q
  takes P P' x y next' is s link set owes this behind head mine = let b' : ℕ → ℕ = with_at r.debtor x (suc t) in let sets = with_at-sets r.debtor x (suc t) in let l = r.links x y link in record {
    debtor = b';
    once = r.once;
    ends = r.ends;
    inside = r.inside;
    links = λ a c e. let n : a ≢ x = λ k. no-code c (next' a) (ap next' k ∙ set.0) e in let m = r.links a c (sym (set.1 a n) ∙ e) in (m.0, sets.1 a n ∙ m.1);
    owed = λ a c h z. dite (ℕ_discrete a x)
        (λ k. (t, ap b' k ∙ sets.0, subst (λ (p : Place). Owes t p a c) (sym s.0) (subst (λ (v : ℕ). Owes t P' v c) (sym k) (subst (λ (v : ℕ). Owes t P' x v) (same-successor q x y c r.once l.0 (subst (λ (v : ℕ). Precedes q v c) k h)) this))))
        (λ n. let d = r.owed a c h (sym (set.1 a n) ∙ z) in let F : ℕ → Place → Type 0 = λ u p. Owes u p a c in (d.0, sets.1 a n ∙ d.1, carry place place' t P P' is s F F (owes a c) (λ u n p k. k) d.0 d.2));
    behind = keeps-behind P P' is s behind;
    head = keeps-head P P' is s head;
    each = keeps-each P P' is s b' (λ a c u n h e. sets.1 a (λ k. no-code u (r.debtor a) (ap r.debtor k ∙ l.1) e) ∙ e) (mine b' sets);
  }

  -- t stores the link from x to y, which it owed
  pub puts : (P P' : Place) (x y : ℕ) (next' : ℕ → ℕ) → place t ≡ P → Sets place place' t P' → Owed size q r.debtor x y t → Sets next next' x (suc y) → ((a c : ℕ) → a ≢ x → Owes t P a c → Owes t P' a c)
      → ((a : ℕ) → IsBehind a P (prev t) (locked t) → IsBehind a P' (prev t) (locked t)) → (IsFirst q t → IsHead P (locked t) → IsHead P' (locked t))
      → ((b' : ℕ → ℕ) → IsAt size q b' t P' (prev t) (locked t)) → QueueKept size tail next' prev locked place' q
  puts P P' x y next' is s link set owes behind head mine = let b' : ℕ → ℕ = with_at r.debtor x 0 in let sets = with_at-sets r.debtor x 0 in record {
    debtor = b';
    once = r.once;
    ends = r.ends;
    inside = r.inside;
    links = λ a c e. dite (ℕ_discrete a x)
        (λ k. (subst (λ (v : ℕ). Precedes q v c) (sym k) (subst (Precedes q x) (same-task y c (sym set.0 ∙ (sym (ap next' k) ∙ e))) link.0), ap b' k ∙ sets.0))
        (λ n. let m = r.links a c (sym (set.1 a n) ∙ e) in (m.0, sets.1 a n ∙ m.1));
    owed = λ a c h z. let n : a ≢ x = λ k. no-code y (next' a) z (ap next' k ∙ set.0) in let d = r.owed a c h (sym (set.1 a n) ∙ z) in let F : ℕ → Place → Type 0 = λ u p. Owes u p a c in
        (d.0, sets.1 a n ∙ d.1, carry place place' t P P' is s F F (owes a c n) (λ u n p k. k) d.0 d.2);
    behind = keeps-behind P P' is s behind;
    head = keeps-head P P' is s head;
    each = keeps-each P P' is s b' (λ a c u n h e. sets.1 a (λ k. n (same-task u t (sym e ∙ (ap r.debtor k ∙ link.1)))) ∙ e) (mine b');
  }

  -- t leaves, and owns whatever link it has
  pub removes : (P P' : Place) (tail' : ℕ) (prev' locked' : ℕ → ℕ) → place t ≡ P → Sets place place' t P' → tail' ≡ last_from 0 (without t q)
      → ((x y : ℕ) → Precedes q x y → (x ≡ t) ⊎ (y ≡ t) → r.debtor x ≡ suc t) → ((x y : ℕ) → x ≢ t → y ≢ t → Owes t P x y → Owes t P' x y)
      → ((x y : ℕ) → Precedes q x t → Precedes q t y → (d : ℕ) × (r.debtor x ≡ suc d) × Owes d (place' d) x y)
      → ((x y : ℕ) → Precedes (without t q) x y → IsBehind x (place' y) (prev' y) (locked' y)) → ((u : ℕ) → IsFirst (without t q) u → IsHead (place' u) (locked' u))
      → ((u : ℕ) → IsCode size (prev u) → IsCode size (prev' u)) → ((u : ℕ) → (¬ Has q u) → locked u ≡ 0 → locked' u ≡ 0) → IsAt size (without t q) r.debtor t P' (prev' t) (locked' t)
      → QueueKept size tail' next prev' locked' place' (without t q)
  removes P P' tail' prev' locked' is s ends owns owes bridge behind head codes zeros mine = let apart : (x y : ℕ) → Precedes q x y → r.debtor x ≢ suc t → (x ≢ t) × (y ≢ t) = λ x y h n. ((λ e. n (owns x y h (inl e))), λ e. n (owns x y h (inr e))) in record {
    debtor = r.debtor;
    once = once-kept q t r.once;
    ends = ends;
    inside = λ u m. r.inside u ((kept-has q t u r.once m).0);
    links = λ x y e. let l = r.links x y e in let n = apart x y l.0 (λ k. no-code t (r.debtor x) l.1 k) in (precedes-kept q t x y l.0 n.0 n.1, l.1);
    owed = λ x y h z. ⊎_elim
        (λ (k : Precedes q x y). let d = r.owed x y k z in let F : ℕ → Place → Type 0 = λ u p. Owes u p x y in
        (d.0, d.1, carry place place' t P P' is s F F (owes x y ((kept-has q t x r.once (left-has (without t q) x y h)).1) ((kept-has q t y r.once (right-has (without t q) x y h)).1)) (λ u n p k. k) d.0 d.2))
        (λ k. bridge x y k.0 k.1) (kept-precedes q t x y h);
    behind = behind;
    head = head;
    each = λ u. carry place place' t P P' is s (λ u p. IsAt size q r.debtor u p (prev u) (locked u)) (λ u p. IsAt size (without t q) r.debtor u p (prev' u) (locked' u)) (λ _. mine)
        (λ d n p k. at-keeps size q (without t q) r.debtor r.debtor d p (prev d) (prev' d) (locked d) (locked' d)
        (λ x y h e. let a = apart x y h (λ z. n (same-task d t (sym e ∙ z))) in (precedes-kept q t x y h a.0 a.1, e))
        (λ m. has-kept q t d m n) (λ o. ((λ m. o ((kept-has q t d r.once m).0)), zeros d o)) (λ f. first-kept q t d f n) (codes d) k) u (r.each u);
  }
