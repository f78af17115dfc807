-- Each kind of step by which a task leaves before its turn keeps the queue's rule.
use Rattle.std.proofs.Common.{◌≡◌, ◌≢◌, ℕ, suc, ◌<◌, List, set, sym, refl, ap, ◌∙◌, subst, inl, inr, ⊎_elim, arith}
use mathlib.Core.Logic.{dite}
use native.Mathlib.Decide.{ℕ_discrete}
use Rattle.word_bits.specs.declared.TheConstants.{MAX_TASKS}
use Rattle.lock_core.specs.declared.op.Op.TheVariants.{Load, Store, Exchange}
use Rattle.lock_core.specs.NodeLists.{Has, IsFirst, Precedes, without}
use Rattle.lock_core.specs.Laws.NodeList.{first-has, first-before, left-has, right-has, same-predecessor, same-successor, precedes-apart, last-stays, kept-has, kept-first, kept-precedes, bridge}
use Rattle.osq_nodes.specs.declared.node.Place.{Place}
use Rattle.osq_nodes.specs.declared.node.Place.TheVariants.{Out, Cleared, Swapped, Linking, Waiting, Unlinked, Splicing, Relinking, Head, Granting}
use Rattle.osq_nodes.specs.OsqPlaces.{Owes}
use Rattle.osq_nodes.specs.OsqKept.{IsBehind, IsHead, IsCode, Owed, IsAt, Sets, QueueKept, with_at}
use Rattle.osq_nodes.specs.OsqStated.{OwnsLinks}
use Rattle.osq_nodes.specs.Words.{tail_in, next_in, prev_in, locked_in, next_at, prev_at}
use Rattle.osq_nodes.specs.OsqRuled.{Local}
use Rattle.osq_nodes.specs.OsqSteps.{try_place}
use Rattle.osq_nodes.proofs.Updating.{with_at-sets, sets-next, sets-prev, wrote-next, wrote-prev}
use Rattle.osq_nodes.proofs.Keeping.{same-task, there, takes, puts, removes}
use Rattle.osq_nodes.proofs.Stepping.{Owns, owns-links}
use Rattle.osq_nodes.proofs.Locals.{same-row, inside-owed, exchanges-at}

-- of one that owes no link to the one before it: its Back is its word
new-back : (size : ℕ) (q : List ℕ) (b : ℕ → ℕ) (x y n : ℕ) (p : Place) (w w' l : ℕ) → IsBehind x p w l → IsAt size q b n p w l → ((a : ℕ) → Owed size q b a n n → ⊥) → w' ≡ suc y → IsBehind y p w' l
new-back size q b x y n Out w w' l h at free e = absurd h
new-back size q b x y n Cleared w w' l h at free e = absurd h
new-back size q b x y n (Swapped a) w w' l h at free e = absurd (free a at)
new-back size q b x y n (Linking a) w w' l h at free e = (e, h.1)
new-back size q b x y n Waiting w w' l h at free e = (e, h.1)
new-back size q b x y n (Unlinked a) w w' l h at free e = (e, h.1)
new-back size q b x y n (Splicing a m) w w' l h at free e = (e, h.1)
new-back size q b x y n (Relinking a m) w w' l h at free e = absurd h
new-back size q b x y n Head w w' l h at free e = absurd h
new-back size q b x y n (Granting m) w w' l h at free e = absurd h

module _ (size tail : ℕ) (next prev locked : ℕ → ℕ) (place place' : ℕ → Place) (q : List ℕ) (t : ℕ) (r : QueueKept size tail next prev locked place q) where
  owns-splicing : (p n : ℕ) → place t ≡ Splicing p n → Owns size tail next prev locked place place' q t r
  owns-splicing p n is x y h = let at : Owed size q r.debtor p t t × Owed size q r.debtor t n t = there size tail next prev locked place place' q t r (Splicing p n) is in
      ⊎_elim (λ (e : x ≡ t). ap r.debtor e ∙ at.1.1) (λ (e : y ≡ t). ap r.debtor (same-predecessor q x p t r.once (subst (Precedes q x) e h) at.0.0) ∙ at.0.1)

  pub leaves-splicing : (p n : ℕ) → place t ≡ Splicing p n → OwnsLinks next place q t
  leaves-splicing p n is = owns-links size tail next prev locked place place' q t r (owns-splicing p n is)

  -- unqueueing: it takes the link from p to itself
  pub takes-back : (p : ℕ) (next' : ℕ → ℕ) → place t ≡ Waiting → next p ≡ suc t → Sets next next' p 0 → Sets place place' t (Unlinked p) → QueueKept size tail next' prev locked place' q
  takes-back p next' is link set s = let l = r.links p t link in
      takes size tail next prev locked place place' q t r Waiting (Unlinked p) p t next' is s link set (λ a c k. absurd k) (refl, refl) (λ a k. k) (λ f k. first-before q p t r.once f l.0) (λ b' sets. (l.0, sets.0))

  -- it leaves from between p and n
  pub splices : (p n : ℕ) (prev' : ℕ → ℕ) → place t ≡ Splicing p n → Sets prev prev' n (suc p) → Sets place place' t (Relinking p n) → QueueKept size tail next prev' locked place' (without t q)
  splices p n prev' is set s = let at : Owed size q r.debtor p t t × Owed size q r.debtor t n t = there size tail next prev locked place place' q t r (Splicing p n) is in let pt = at.0 in let tn = at.1 in
      let apart : n ≢ t = λ e. precedes-apart q t r.once (subst (Precedes q t) e tn.0) in let before : (x : ℕ) → Precedes q x t → x ≡ p = λ x h. same-predecessor q x p t r.once h pt.0 in let after : (y : ℕ) → Precedes q t y → n ≡ y = λ y h. same-successor q t n y r.once tn.0 h in
      removes size tail next prev locked place place' q t r (Splicing p n) (Relinking p n) tail prev' locked is s (r.ends ∙ sym (last-stays q t n r.once tn.0))
      (owns-splicing p n is)
      (λ x y a c. ⊎_elim (λ (k : (p ≡ x) × (t ≡ y)). absurd (c (sym k.1))) (λ (k : (t ≡ x) × (n ≡ y)). absurd (a (sym k.0))))
      (λ x y h k. (t, ap r.debtor (before x h) ∙ pt.1, subst (λ (v : Place). Owes t v x y) (sym s.0) (sym (before x h), after y k)))
      (λ x y h. ⊎_elim
      (λ (k : Precedes q x y). let not : (x ≢ t) × (y ≢ t) = ((kept-has q t x r.once (left-has (without t q) x y h)).1, (kept-has q t y r.once (right-has (without t q) x y h)).1) in
      let other : y ≢ n = λ e. not.0 (same-predecessor q x t n r.once (subst (Precedes q x) e k) tn.0) in
      subst (λ (w : ℕ). IsBehind x (place' y) w (locked y)) (sym (set.1 y other)) (subst (λ (v : Place). IsBehind x v (prev y) (locked y)) (sym (s.1 y not.1)) (r.behind x y k)))
      (λ (k : Precedes q x t × Precedes q t y). subst (λ (v : ℕ). IsBehind x (place' v) (prev' v) (locked v)) (after y k.1) (subst (λ (v : Place). IsBehind x v (prev' n) (locked n)) (sym (s.1 n apart))
      (new-back size q r.debtor t x n (place n) (prev n) (prev' n) (locked n) (r.behind t n tn.0) (r.each n) (λ a o. apart (same-task n t (sym o.1 ∙ (ap r.debtor (same-predecessor q a t n r.once o.0 tn.0) ∙ tn.1))))
      (set.0 ∙ ap suc (sym (before x k.0)))))) (kept-precedes q t x y h))
      (λ u f. ⊎_elim (λ (k : IsFirst q u). let not : u ≢ t = (kept-has q t u r.once (first-has (without t q) u f)).1 in subst (λ (v : Place). IsHead v (locked u)) (sym (s.1 u not)) (r.head u k))
      (λ k. absurd (first-before q p t r.once k.0 pt.0)) (kept-first q t u f))
      (λ u c. dite (ℕ_discrete u n) (λ e. (p, ap prev' e ∙ set.0, r.inside p (left-has q p t pt.0))) (λ m. (c.0, set.1 u m ∙ c.1, c.2)))
      (λ u o z. z) ((λ m. (kept-has q t t r.once m).1 refl), (bridge q t p n r.once pt.0 tn.0, pt.1))

  -- it links the two that it left from between
  pub relinks : (p n : ℕ) (next' : ℕ → ℕ) → place t ≡ Relinking p n → Sets next next' p (suc n) → Sets place place' t Out → QueueKept size tail next' prev locked place' q
  relinks p n next' is set s = let at : (¬ Has q t) × Owed size q r.debtor p n t = there size tail next prev locked place place' q t r (Relinking p n) is in
      puts size tail next prev locked place place' q t r (Relinking p n) Out p n next' is s at.1 set (λ a c m k. m (sym k.0)) (λ a k. k) (λ _ k. k) (λ b'. at.0)

module _ (size t : ℕ) where
  -- it takes its code out of the predecessor's `next`
  pub takes-code-back : (p : ℕ) → p < MAX_TASKS → Local size t Waiting (next_at p) (Exchange (suc t) 0) (try_place Waiting (Unlinked p) (suc t)) (λ _. Unit {0})
  takes-code-back p small = exchanges-at size t Waiting (Unlinked p) (next_at p) (suc t) 0 (λ n tail. tt) (λ row place q long lt few r is e. (
    q,
    wrote-next size row (with_at place t (Unlinked p)) q p 0 long small (takes-back size (tail_in row) (next_in row) (prev_in row) (locked_in row) place (with_at place t (Unlinked p)) q t r p (next_in (set row (next_at p) 0)) is e (sets-next size row place q p 0 long small) (with_at-sets place t (Unlinked p))),
    inl refl,
  ))

  -- a load of the own `prev` finds a task's code
  pub rereads : Local size t Waiting (prev_at t) Load (λ _. Waiting) (IsCode size)
  rereads row place q long lt few r is = let at : Has q t × IsCode size (prev_in row t) = there size (tail_in row) (next_in row) (prev_in row) (locked_in row) place place q t r Waiting is in
      (q, same-row size t row place q (prev_at t) (prev_in row t) Waiting refl is r, inl refl, tt, at.1)

  -- it stores the predecessor's code in the successor's `prev`
  pub splices-prev : (p n : ℕ) → Local size t (Splicing p n) (prev_at n) (Store (suc p)) (λ _. Relinking p n) (λ _. Unit {0})
  splices-prev p n row place q long lt few r is = let at : Owed size q r.debtor p t t × Owed size q r.debtor t n t = there size (tail_in row) (next_in row) (prev_in row) (locked_in row) place place q t r (Splicing p n) is in let in_n = (inside-owed size t row place q r t n t at.1).1 in (
    without t q,
    wrote-prev size row (with_at place t (Relinking p n)) (without t q) n (suc p) long (omega (arith, in_n, few)) (splices size (tail_in row) (next_in row) (prev_in row) (locked_in row) place (with_at place t (Relinking p n)) q t r p n (prev_in (set row (prev_at n) (suc p))) is (sets-prev size row place q n (suc p) long (omega (arith, in_n, few))) (with_at-sets place t (Relinking p n))),
    inr (inr (record { task = t; there = left-has q t n at.1.0; free = leaves-splicing size (tail_in row) (next_in row) (prev_in row) (locked_in row) place (with_at place t (Relinking p n)) q t r p n is; leaves = inr (inl (p, n, is, refl)); new = refl })),
    tt,
    tt,
  )

  -- it stores the successor's code in the predecessor's `next`
  pub relinks-next : (p n : ℕ) → Local size t (Relinking p n) (next_at p) (Store (suc n)) (λ _. Out) (λ _. Unit {0})
  relinks-next p n row place q long lt few r is = let at : (¬ Has q t) × Owed size q r.debtor p n t = there size (tail_in row) (next_in row) (prev_in row) (locked_in row) place place q t r (Relinking p n) is in let in_p = (inside-owed size t row place q r p n t at.1).0 in (
    q,
    wrote-next size row (with_at place t Out) q p (suc n) long (omega (arith, in_p, few)) (relinks size (tail_in row) (next_in row) (prev_in row) (locked_in row) place (with_at place t Out) q t r p n (next_in (set row (next_at p) (suc n))) is (sets-next size row place q p (suc n) long (omega (arith, in_p, few))) (with_at-sets place t Out)),
    inl refl,
    tt,
    tt,
  )
