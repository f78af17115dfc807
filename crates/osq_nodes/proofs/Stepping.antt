-- Each kind of step keeps the queue's rule.
use Rattle.std.proofs.Common.{◌≡◌, ◌≢◌, ℕ, zero, suc, ◌<◌, ◌⊎◌, List, [], ◌∷◌, ◌++◌, sym, refl, ap, ◌∙◌, subst, inl, inr, ⊎_elim, arith}
use Rattle.lock_core.specs.NodeLists.{Has, IsFirst, Precedes, last_from, without}
use Rattle.osq_nodes.specs.OsqPlaces.{Owes}
use Rattle.osq_nodes.specs.OsqKept.{IsBehind, IsHead, IsCode, Owed, IsAt, Sets, QueueKept, with_at}
use Rattle.osq_nodes.specs.Laws.Walks.{owes-one}
use Rattle.osq_nodes.specs.OsqStated.{OwnsLinks}
use Rattle.osq_nodes.specs.Types.{Place, Out, Cleared, Swapped, Linking, Waiting, Unlinked, Splicing, Relinking, Head, Granting}
use Rattle.osq_nodes.proofs.Updating.{with_at-sets}
use Rattle.lock_core.specs.Laws.NodeList.{first-has, first-same, first-before, left-has, right-has, same-predecessor, same-successor, precedes-apart, has-cases, last-precedes, last-none, last-snoc, last-stays, last-leaves, alone, once-snoc, precedes-snoc, snoc-precedes, snoc-links, snoc-has, has-snoc, first-snoc, snoc-first, kept-has, kept-first, kept-precedes}
use Rattle.osq_nodes.proofs.Keeping.{carry, at-keeps, same-task, no-code, there, keeps-behind, keeps-head, keeps-each, takes, puts, removes}

no-one : (n : ℕ) → n ≡ 0 → n ≡ 1 → ⊥
no-one n z e = omega arith

-- of the second, once the first has its link: it owes nothing and becomes the first
ready-head : (size : ℕ) (q : List ℕ) (b : ℕ → ℕ) (x n : ℕ) (p : Place) (w l : ℕ) → IsBehind x p w l → IsAt size q b n p w l → ((a : ℕ) → Owed size q b a n n → ⊥) → IsHead p 1
ready-head size q b x n Out w l h at free = absurd h
ready-head size q b x n Cleared w l h at free = absurd h
ready-head size q b x n (Swapped a) w l h at free = absurd (free a at)
ready-head size q b x n (Linking a) w l h at free = absurd (free a at)
ready-head size q b x n Waiting w l h at free = refl
ready-head size q b x n (Unlinked a) w l h at free = absurd (free a at)
ready-head size q b x n (Splicing a m) w l h at free = absurd (free a at.0)
ready-head size q b x n (Relinking a m) w l h at free = absurd h
ready-head size q b x n Head w l h at free = absurd h
ready-head size q b x n (Granting m) w l h at free = absurd h

module _ (size tail : ℕ) (next prev locked : ℕ → ℕ) (place place' : ℕ → Place) (q : List ℕ) (t : ℕ) (r : QueueKept size tail next prev locked place q) where
  -- whoever leaves owes each link that it has
  abbrev pub Owns : Type 0
  Owns = (x y : ℕ) → Precedes q x y → (x ≡ t) ⊎ (y ≡ t) → r.debtor x ≡ suc t

  owns-alone : place t ≡ Head → tail ≡ suc t → Owns
  owns-alone is last x y h = let first : IsFirst q t = there size tail next prev locked place place' q t r Head is in
      ⊎_elim (λ (e : x ≡ t). absurd (last-precedes 0 q t y r.once (sym r.ends ∙ last) (subst (λ (v : ℕ). Precedes q v y) e h))) (λ (e : y ≡ t). absurd (first-before q x t r.once first (subst (Precedes q x) e h)))

  owns-granting : (n : ℕ) → place t ≡ Granting n → Owns
  owns-granting n is x y h = let at : IsFirst q t × Owed size q r.debtor t n t = there size tail next prev locked place place' q t r (Granting n) is in
      ⊎_elim (λ (e : x ≡ t). ap r.debtor e ∙ at.1.1) (λ (e : y ≡ t). absurd (first-before q x t r.once at.0 (subst (Precedes q x) e h)))

  owns-last : (p : ℕ) → place t ≡ Unlinked p → tail ≡ suc t → Owns
  owns-last p is last x y h = let at : Owed size q r.debtor p t t = there size tail next prev locked place place' q t r (Unlinked p) is in
      ⊎_elim (λ (e : x ≡ t). absurd (last-precedes 0 q t y r.once (sym r.ends ∙ last) (subst (λ (v : ℕ). Precedes q v y) e h))) (λ (e : y ≡ t). ap r.debtor (same-predecessor q x p t r.once (subst (Precedes q x) e h) at.0) ∙ at.1)

  pub owns-links : Owns → OwnsLinks next place q t
  owns-links owns x y h e = let debt = owns x y h e in (zero-link x (next x) refl debt, λ d o. same-task d t (sym (owes-one size tail next prev locked place q r d (place d) (prev d) (locked d) x y (r.each d) o) ∙ debt))
    where
      zero-link : (x n : ℕ) → next x ≡ n → r.debtor x ≡ suc t → next x ≡ 0
      zero-link x zero is debt = is
      zero-link x (suc y) is debt = absurd (no-code t (r.debtor x) (r.links x y is).1 debt)

  pub leaves-alone : place t ≡ Head → tail ≡ suc t → OwnsLinks next place q t
  leaves-alone is last = owns-links (owns-alone is last)

  pub leaves-granting : (n : ℕ) → place t ≡ Granting n → OwnsLinks next place q t
  leaves-granting n is = owns-links (owns-granting n is)

  pub leaves-apart : (p : ℕ) → place t ≡ Unlinked p → tail ≡ suc t → OwnsLinks next place q t
  leaves-apart p is last = owns-links (owns-last p is last)

  -- it clears its own `locked`
  pub clears : (locked' : ℕ → ℕ) → place t ≡ Out → Sets locked locked' t 0 → Sets place place' t Cleared → QueueKept size tail next prev locked' place' q
  clears locked' is set s = let out : ¬ Has q t = there size tail next prev locked place place' q t r Out is in record {
    debtor = r.debtor;
    once = r.once;
    ends = r.ends;
    inside = r.inside;
    links = r.links;
    owed = λ x y h z. let d = r.owed x y h z in let F : ℕ → Place → Type 0 = λ u p. Owes u p x y in (d.0, d.1, carry place place' t Out Cleared is s F F (λ k. k) (λ u n p k. k) d.0 d.2);
    behind = λ x y h. carry place place' t Out Cleared is s (λ u p. IsBehind x p (prev u) (locked u)) (λ u p. IsBehind x p (prev u) (locked' u)) (λ k. k) (λ d n p k. subst (IsBehind x p (prev d)) (sym (set.1 d n)) k) y (r.behind x y h);
    head = λ u f. carry place place' t Out Cleared is s (λ u p. IsHead p (locked u)) (λ u p. IsHead p (locked' u)) (λ k. k) (λ d n p k. subst (IsHead p) (sym (set.1 d n)) k) u (r.head u f);
    each = λ u. carry place place' t Out Cleared is s (λ u p. IsAt size q r.debtor u p (prev u) (locked u)) (λ u p. IsAt size q r.debtor u p (prev u) (locked' u)) (λ k. (k, set.0))
        (λ d n p k. subst (IsAt size q r.debtor d p (prev d)) (sym (set.1 d n)) k) u (r.each u);
  }

  -- it swaps the tail of an empty queue
  pub enters-first : place t ≡ Cleared → tail ≡ 0 → t < size → Sets place place' t Head → QueueKept size (suc t) next prev locked place' (q ++ t ∷ [])
  enters-first is free small s = let none : q ≡ [] = last-none q (sym r.ends ∙ free) in let N : (x y : ℕ) → Precedes q x y → ⊥ = λ x y h. subst (λ (z : List ℕ). Precedes z x y) none h in
      let M : (u : ℕ) → Has q u → ⊥ = λ u m. subst (λ (z : List ℕ). Has z u) none m in
      let N' : (x y : ℕ) → Precedes (q ++ t ∷ []) x y → ⊥ = λ x y h. ⊎_elim (N x y) (λ (k : (last_from 0 q ≡ suc x) × (t ≡ y)). let e = ap (last_from 0) none in let l = k.0 in omega (arith, e, l)) (snoc-precedes 0 q t x y h) in record {
        debtor = r.debtor;
        once = once-snoc q t r.once (M t);
        ends = sym (last-snoc 0 q t);
        inside = λ u m. ⊎_elim (λ k. absurd (M u k)) (λ (e : t ≡ u). subst (λ (z : ℕ). z < size) e small) (snoc-has q t u m);
        links = λ x y e. absurd (N x y ((r.links x y e).0));
        owed = λ x y h z. absurd (N' x y h);
        behind = λ x y h. absurd (N' x y h);
        head = λ u f. ⊎_elim (λ k. absurd (M u (first-has q u k))) (λ (k : (q ≡ []) × (t ≡ u)). subst (λ (z : ℕ). IsHead (place' z) (locked z)) k.1 (subst (λ (p : Place). IsHead p (locked t)) (sym s.0) tt)) (snoc-first q t u f);
        each = λ u. carry place place' t Cleared Head is s (λ u p. IsAt size q r.debtor u p (prev u) (locked u)) (λ u p. IsAt size (q ++ t ∷ []) r.debtor u p (prev u) (locked u))
            (λ _. subst (λ (z : List ℕ). IsFirst (z ++ t ∷ []) t) (sym none) refl)
            (λ d n p k. at-keeps size q (q ++ t ∷ []) r.debtor r.debtor d p (prev d) (prev d) (locked d) (locked d) (λ x y h e. absurd (N x y h)) (λ m. absurd (M d m))
            (λ o. ((λ m. ⊎_elim o (λ (e : t ≡ d). n (sym e)) (snoc-has q t d m)), λ z. z)) (λ f. absurd (M d (first-has q d f))) (λ c. c) k) u (r.each u);
      }

  -- it swaps the tail of a queue whose last is z
  pub enters : (z : ℕ) → place t ≡ Cleared → tail ≡ suc z → t < size → Sets place place' t (Swapped z) → QueueKept size (suc t) next prev locked place' (q ++ t ∷ [])
  enters z is last small s = let out : (¬ Has q t) × (locked t ≡ 0) = there size tail next prev locked place place' q t r Cleared is in let ends : last_from 0 q ≡ suc z = sym r.ends ∙ last in
      let q' : List ℕ = q ++ t ∷ [] in let b' : ℕ → ℕ = with_at r.debtor z (suc t) in let sets = with_at-sets r.debtor z (suc t) in
      let same : (x y : ℕ) → Precedes q x y → b' x ≡ r.debtor x = λ x y h. sets.1 x (λ e. last-precedes 0 q z y r.once ends (subst (λ (v : ℕ). Precedes q v y) e h)) in
      let other : (u : ℕ) → Has q u → u ≢ t = λ u m e. out.0 (subst (Has q) e m) in record {
        debtor = b';
        once = once-snoc q t r.once out.0;
        ends = sym (last-snoc 0 q t);
        inside = λ u m. ⊎_elim (r.inside u) (λ (e : t ≡ u). subst (λ (v : ℕ). v < size) e small) (snoc-has q t u m);
        links = λ x y e. let l = r.links x y e in (precedes-snoc q t x y l.0, same x y l.0 ∙ l.1);
        owed = λ x y h v. ⊎_elim
            (λ (k : Precedes q x y). let d = r.owed x y k v in let F : ℕ → Place → Type 0 = λ u p. Owes u p x y in (d.0, same x y k ∙ d.1, carry place place' t Cleared (Swapped z) is s F F (λ k. absurd k) (λ u n p k. k) d.0 d.2))
            (λ (k : (last_from 0 q ≡ suc x) × (t ≡ y)). let xz : z ≡ x = same-task z x (sym ends ∙ k.0) in (t, subst (λ (v : ℕ). b' v ≡ suc t) xz sets.0, subst (λ (p : Place). Owes t p x y) (sym s.0) (xz, k.1)))
            (snoc-precedes 0 q t x y h);
        behind = λ x y h. ⊎_elim
            (λ (k : Precedes q x y). let F : ℕ → Place → Type 0 = λ u p. IsBehind x p (prev u) (locked u) in carry place place' t Cleared (Swapped z) is s F F (λ k. absurd k) (λ u n p k. k) y (r.behind x y k))
            (λ (k : (last_from 0 q ≡ suc x) × (t ≡ y)). let xz : z ≡ x = same-task z x (sym ends ∙ k.0) in subst (λ (v : ℕ). IsBehind x (place' v) (prev v) (locked v)) k.1 (subst (λ (p : Place). IsBehind x p (prev t) (locked t)) (sym s.0) (xz, out.1)))
            (snoc-precedes 0 q t x y h);
        head = λ u f. ⊎_elim
            (λ (k : IsFirst q u). let F : ℕ → Place → Type 0 = λ u p. IsHead p (locked u) in carry place place' t Cleared (Swapped z) is s F F (λ k. absurd k) (λ u n p k. k) u (r.head u k))
            (λ (k : (q ≡ []) × (t ≡ u)). let e = ap (last_from 0) k.0 in absurd (omega (arith, e, ends))) (snoc-first q t u f);
        each = λ u. carry place place' t Cleared (Swapped z) is s (λ u p. IsAt size q r.debtor u p (prev u) (locked u)) (λ u p. IsAt size q' b' u p (prev u) (locked u)) (λ _. (snoc-links q t z ends, sets.0))
            (λ d n p k. at-keeps size q q' r.debtor b' d p (prev d) (prev d) (locked d) (locked d) (λ x y h e. (precedes-snoc q t x y h, same x y h ∙ e)) (has-snoc q t d)
            (λ o. ((λ m. ⊎_elim o (λ (e : t ≡ d). n (sym e)) (snoc-has q t d m)), λ v. v)) (first-snoc q t d) (λ c. c) k) u (r.each u);
      }

  -- it stores its own `prev`
  pub stores-prev : (p : ℕ) (prev' : ℕ → ℕ) → place t ≡ Swapped p → Sets prev prev' t (suc p) → Sets place place' t (Linking p) → QueueKept size tail next prev' locked place' q
  stores-prev p prev' is set s = let at : Owed size q r.debtor p t t = there size tail next prev locked place place' q t r (Swapped p) is in record {
    debtor = r.debtor;
    once = r.once;
    ends = r.ends;
    inside = r.inside;
    links = r.links;
    owed = λ x y h z. let d = r.owed x y h z in let F : ℕ → Place → Type 0 = λ u p. Owes u p x y in (d.0, d.1, carry place place' t (Swapped p) (Linking p) is s F F (λ k. k) (λ u n p k. k) d.0 d.2);
    behind = λ x y h. carry place place' t (Swapped p) (Linking p) is s (λ u p. IsBehind x p (prev u) (locked u)) (λ u p. IsBehind x p (prev' u) (locked u)) (λ k. (set.0 ∙ ap suc k.0, k.1))
        (λ d n p k. subst (λ (w : ℕ). IsBehind x p w (locked d)) (sym (set.1 d n)) k) y (r.behind x y h);
    head = keeps-head size tail next prev locked place place' q t r (Swapped p) (Linking p) is s (λ _ k. k);
    each = λ u. carry place place' t (Swapped p) (Linking p) is s (λ u p. IsAt size q r.debtor u p (prev u) (locked u)) (λ u p. IsAt size q r.debtor u p (prev' u) (locked u)) (λ k. k)
        (λ d n p k. subst (λ (w : ℕ). IsAt size q r.debtor d p w (locked d)) (sym (set.1 d n)) k) u (r.each u);
  }

  -- it links itself behind p
  pub links-itself : (p : ℕ) (next' : ℕ → ℕ) → place t ≡ Linking p → Sets next next' p (suc t) → Sets place place' t Waiting → QueueKept size tail next' prev locked place' q
  links-itself p next' is set s = let at : Owed size q r.debtor p t t = there size tail next prev locked place place' q t r (Linking p) is in
      let back : (prev t ≡ suc p) × (locked t ≡ 0) = subst (λ (v : Place). IsBehind p v (prev t) (locked t)) is (r.behind p t at.0) in
      puts size tail next prev locked place place' q t r (Linking p) Waiting p t next' is s at set (λ a c n k. n (sym k.0)) (λ a k. k) (λ _ k. absurd k)
      (λ b'. (right-has q p t at.0, (p, back.0, r.inside p (left-has q p t at.0))))

  -- it finds itself granted
  pub sees-grant : place t ≡ Waiting → locked t ≡ 1 → Sets place place' t Head → IsFirst q t × QueueKept size tail next prev locked place' q
  sees-grant is one s = let at : Has q t × IsCode size (prev t) = there size tail next prev locked place place' q t r Waiting is in
      let not : (x : ℕ) → Precedes q x t → ⊥ = λ x h. let back : (prev t ≡ suc x) × (locked t ≡ 0) = subst (λ (v : Place). IsBehind x v (prev t) (locked t)) is (r.behind x t h) in no-one (locked t) back.1 one in
      let first : IsFirst q t = ⊎_elim (λ f. f) (λ h. absurd (not h.0 h.1)) (has-cases q t at.0) in (
        first,
        record {
          debtor = r.debtor;
          once = r.once;
          ends = r.ends;
          inside = r.inside;
          links = r.links;
          owed = λ x y h z. let d = r.owed x y h z in let F : ℕ → Place → Type 0 = λ u p. Owes u p x y in (d.0, d.1, carry place place' t Waiting Head is s F F (λ k. k) (λ u n p k. k) d.0 d.2);
          behind = λ x y h. let F : ℕ → Place → Type 0 = λ u p. Precedes q x u → IsBehind x p (prev u) (locked u) in carry place place' t Waiting Head is s F F (λ _ g. not x g) (λ u n p k. k) y (λ _. r.behind x y h) h;
          head = keeps-head size tail next prev locked place place' q t r Waiting Head is s (λ _ _. tt);
          each = keeps-each size tail next prev locked place place' q t r Waiting Head is s r.debtor (λ x y u n h e. e) first;
        },
      )

  -- the head exchanges the tail for 0
  pub lets-go : place t ≡ Head → tail ≡ suc t → Sets place place' t Out → QueueKept size 0 next prev locked place' (without t q)
  lets-go is last s = let first : IsFirst q t = there size tail next prev locked place place' q t r Head is in let ends : last_from 0 q ≡ suc t = sym r.ends ∙ last in let none : without t q ≡ [] = alone q t r.once first ends in
      removes size tail next prev locked place place' q t r Head Out 0 prev locked is s (sym (ap (last_from 0) none))
      (owns-alone is last)
      (λ x y n m k. k) (λ x y h k. absurd (first-before q x t r.once first h))
      (λ x y h. absurd (subst (λ (v : List ℕ). Precedes v x y) none h)) (λ u f. absurd (subst (λ (v : List ℕ). IsFirst v u) none f))
      (λ u c. c) (λ u o z. z) (λ m. (kept-has q t t r.once m).1 refl)

  -- the head takes its own link
  pub takes-own : (n : ℕ) (next' : ℕ → ℕ) → place t ≡ Head → next t ≡ suc n → Sets next next' t 0 → Sets place place' t (Granting n) → QueueKept size tail next' prev locked place' q
  takes-own n next' is link set s = let first : IsFirst q t = there size tail next prev locked place place' q t r Head is in
      takes size tail next prev locked place place' q t r Head (Granting n) t n next' is s link set (λ a c k. absurd k) (refl, refl) (λ a k. k) (λ _ k. tt) (λ b' sets. (first, ((r.links t n link).0, sets.0)))

  -- the head grants the next
  pub grants : (n : ℕ) (locked' : ℕ → ℕ) → place t ≡ Granting n → Sets locked locked' n 1 → Sets place place' t Out → QueueKept size tail next prev locked' place' (without t q)
  grants n locked' is set s = let at : IsFirst q t × Owed size q r.debtor t n t = there size tail next prev locked place place' q t r (Granting n) is in
      let alone' : (x : ℕ) → Precedes q x t → ⊥ = λ x h. first-before q x t r.once at.0 h in let apart : n ≢ t = λ e. precedes-apart q t r.once (subst (Precedes q t) e at.1.0) in
      removes size tail next prev locked place place' q t r (Granting n) Out tail prev locked' is s (r.ends ∙ sym (last-stays q t n r.once at.1.0))
      (owns-granting n is)
      (λ x y a c k. absurd (a (sym k.0))) (λ x y h k. absurd (alone' x h))
      (λ x y h. ⊎_elim
      (λ (k : Precedes q x y). let not : x ≢ t = (kept-has q t x r.once (left-has (without t q) x y h)).1 in let other : y ≢ n = λ e. not (same-predecessor q x t n r.once (subst (Precedes q x) e k) at.1.0) in
      subst (IsBehind x (place' y) (prev y)) (sym (set.1 y other)) (keeps-behind size tail next prev locked place place' q t r (Granting n) Out is s (λ a b. b) x y k))
      (λ k. absurd (alone' x k.0)) (kept-precedes q t x y h))
      (λ u f. ⊎_elim (λ (k : IsFirst q u). absurd ((kept-has q t u r.once (first-has (without t q) u f)).1 (first-same q u t k at.0)))
      (λ k. let is-n : n ≡ u = same-successor q t n u r.once at.1.0 k.1 in subst (λ (v : ℕ). IsHead (place' v) (locked' v)) is-n (subst (IsHead (place' n)) (sym set.0) (subst (λ (p : Place). IsHead p 1) (sym (s.1 n apart))
      (ready-head size q r.debtor t n (place n) (prev n) (locked n) (r.behind t n at.1.0) (r.each n) (λ a o. apart (same-task n t (sym o.1 ∙ (ap r.debtor (same-predecessor q a t n r.once o.0 at.1.0) ∙ at.1.1)))))))) (kept-first q t u f))
      (λ u c. c) (λ u o z. set.1 u (λ e. o (subst (Has q) (sym e) (right-has q t n at.1.0))) ∙ z) (λ m. (kept-has q t t r.once m).1 refl)

  -- the last exchanges the tail for the one before it
  pub leaves-last : (p : ℕ) → place t ≡ Unlinked p → tail ≡ suc t → Sets place place' t Out → QueueKept size (suc p) next prev locked place' (without t q)
  leaves-last p is last s = let at : Owed size q r.debtor p t t = there size tail next prev locked place place' q t r (Unlinked p) is in let ends : last_from 0 q ≡ suc t = sym r.ends ∙ last in
      let none : (y : ℕ) → Precedes q t y → ⊥ = λ y h. last-precedes 0 q t y r.once ends h in
      removes size tail next prev locked place place' q t r (Unlinked p) Out (suc p) prev locked is s (sym (last-leaves 0 q t p r.once ends at.0))
      (owns-last p is last)
      (λ x y a c k. absurd (c (sym k.1))) (λ x y h k. absurd (none y k))
      (λ x y h. ⊎_elim
      (λ (k : Precedes q x y). let not : y ≢ t = (kept-has q t y r.once (right-has (without t q) x y h)).1 in subst (λ (v : Place). IsBehind x v (prev y) (locked y)) (sym (s.1 y not)) (r.behind x y k))
      (λ k. absurd (none y k.1)) (kept-precedes q t x y h))
      (λ u f. ⊎_elim (λ (k : IsFirst q u). let not : u ≢ t = (kept-has q t u r.once (first-has (without t q) u f)).1 in subst (λ (v : Place). IsHead v (locked u)) (sym (s.1 u not)) (r.head u k))
      (λ k. absurd (none u k.1)) (kept-first q t u f))
      (λ u c. c) (λ u o z. z) (λ m. (kept-has q t t r.once m).1 refl)

  -- it takes its own link too
  pub takes-both : (p n : ℕ) (next' : ℕ → ℕ) → place t ≡ Unlinked p → next t ≡ suc n → Sets next next' t 0 → Sets place place' t (Splicing p n) → QueueKept size tail next' prev locked place' q
  takes-both p n next' is link set s = let at : Owed size q r.debtor p t t = there size tail next prev locked place place' q t r (Unlinked p) is in let apart : p ≢ t = λ e. precedes-apart q t r.once (subst (λ (v : ℕ). Precedes q v t) e at.0) in
      takes size tail next prev locked place place' q t r (Unlinked p) (Splicing p n) t n next' is s link set (λ a c k. inl k) (inr (refl, refl)) (λ a k. k) (λ f k. k)
      (λ b' sets. ((at.0, sets.1 p apart ∙ at.1), ((r.links t n link).0, sets.0)))
