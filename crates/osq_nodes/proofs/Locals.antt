-- Each kind of operation on the words of a spin queue keeps the queue's rule, with one of the changes.
use Rattle.std.proofs.Common.{◌≡◌, ℕ, zero, suc, ◌+◌, Option, Some, None, ◌<◌, ◌≤◌, Bool, if◌then◌else◌, List, [], ◌∷◌, ◌++◌, length, get_or, set, sym, refl, ap, ◌∙◌, subst, inl, inr, arith, eq-eqb, ne_eqb}
use mathlib.Core.Logic.{dite}
use native.Mathlib.Decide.{ℕ_discrete}
use lib.Seq.{set-get_or}
use Rattle.word_bits.specs.declared.TheConstants.{MAX_TASKS}
use Rattle.lock_core.specs.declared.layout.TheConstants.{LOCK_WORDS}
use Rattle.lock_core.specs.NodeLists.{Has, IsFirst, without}
use Rattle.lock_core.specs.Laws.NodeList.{left-has, right-has, first-has, last-has}
use Rattle.osq_nodes.specs.Words.{code_in, tail_at, tail_in, next_in, prev_in, locked_in, next_at, prev_at, locked_at}
use Rattle.osq_nodes.specs.OsqPlaces.{is_swap, waits_at}
use Rattle.osq_nodes.specs.OsqStated.{Changes}
use Rattle.osq_nodes.specs.OsqKept.{Owed, QueueKept, RowKept, with_at}
use Rattle.osq_nodes.specs.OsqRuled.{FindsTail, Local}
use Rattle.osq_nodes.specs.OsqSteps.{swap_place, look_place, try_place, take_place, taking_of, IsCodeOrNone}
use Rattle.osq_nodes.specs.Types.{Op, Load, Store, Swap, Exchange, Place, Out, Cleared, Swapped, Linking, Waiting, Unlinked, Splicing, Relinking, Head, Granting}
use Rattle.osq_nodes.proofs.Updating.{with_at-sets, sets-next, sets-prev, sets-locked, wrote-next, wrote-prev, wrote-locked, wrote-tail}
use Rattle.osq_nodes.proofs.Keeping.{there}
use Rattle.osq_nodes.proofs.Stepping.{clears, enters-first, enters, stores-prev, links-itself, sees-grant, lets-go, takes-own, grants, leaves-last, takes-both, leaves-alone, leaves-granting, leaves-apart}

with_at-same : (f : ℕ → Place) (t : ℕ) (p : Place) → f t ≡ p → with_at f t p ≡ f
with_at-same f t p is = λ i u. go u i
  where
    go : (u : ℕ) → with_at f t p u ≡ f u
    go u = dite (ℕ_discrete u t) (λ e. ap (with_at f t p) e ∙ ((with_at-sets f t p).0 ∙ (sym is ∙ ap f (sym e)))) (λ n. (with_at-sets f t p).1 u n)

-- a step that leaves the task's place is no swap of the tail
pub stays-put : (p : Place) (n tail : ℕ) → FindsTail (is_swap p p) n tail
stays-put Out n tail = tt
stays-put Cleared n tail = tt
stays-put (Swapped p) n tail = tt
stays-put (Linking p) n tail = tt
stays-put Waiting n tail = tt
stays-put (Unlinked p) n tail = tt
stays-put (Splicing p m) n tail = tt
stays-put (Relinking p m) n tail = tt
stays-put Head n tail = tt
stays-put (Granting m) n tail = tt

-- nor is one from or to these places
pub leaves-out : (p : Place) (n tail : ℕ) → FindsTail (is_swap p Out) n tail
leaves-out Out n tail = tt
leaves-out Cleared n tail = tt
leaves-out (Swapped p) n tail = tt
leaves-out (Linking p) n tail = tt
leaves-out Waiting n tail = tt
leaves-out (Unlinked p) n tail = tt
leaves-out (Splicing p m) n tail = tt
leaves-out (Relinking p m) n tail = tt
leaves-out Head n tail = tt
leaves-out (Granting m) n tail = tt

module _ (size t : ℕ) where
  -- nothing changes
  pub same-row : (row : List ℕ) (place : ℕ → Place) (q : List ℕ) (at n : ℕ) (P : Place) → get_or row at 0 ≡ n → place t ≡ P → RowKept size row place q → RowKept size (set row at n) (with_at place t P) q
  same-row row place q at n P is there' r = subst (λ (z : List ℕ × (ℕ → Place)). RowKept size z.0 z.1 q) (λ i. (sym (ap (set row at) (sym is) ∙ set-get_or row at 0) i, sym (with_at-same place t P there') i)) r

  -- a load that leaves the task where it is
  pub looks : (P : Place) (at : ℕ) → Local size t P at Load (λ _. P) (λ _. Unit {0})
  looks P at row place q long lt few r is = (q, same-row row place q at (get_or row at 0) P refl is r, inl refl, stays-put P (get_or row at 0) (tail_in row), tt)

  pub clears-locked : Local size t Out (locked_at t) (Store 0) (λ _. Cleared) (λ _. Unit {0})
  clears-locked row place q long lt few r is = (
    q,
    wrote-locked size row (with_at place t Cleared) q t 0 long (omega arith) (clears size (tail_in row) (next_in row) (prev_in row) (locked_in row) place (with_at place t Cleared) q t r (locked_in (set row (locked_at t) 0)) is (sets-locked size row place q t 0 long (omega arith)) (with_at-sets place t Cleared)),
    inl refl,
    tt,
    tt,
  )

  -- the own `next` is 0 already
  pub clears-next : Local size t Cleared (next_at t) (Store 0) (λ _. Cleared) (λ _. Unit {0})
  clears-next row place q long lt few r is = let out : (¬ Has q t) × (locked_in row t ≡ 0) = there size (tail_in row) (next_in row) (prev_in row) (locked_in row) place place q t r Cleared is in
      (q, same-row row place q (next_at t) 0 Cleared (none (next_in row t) refl (λ y e. out.0 (left-has q t y ((r.links t y e).0)))) is r, inl refl, tt, tt)
    where
      none : (n : ℕ) → next_in row t ≡ n → ((y : ℕ) → next_in row t ≡ suc y → ⊥) → next_in row t ≡ 0
      none zero e not = e
      none (suc y) e not = absurd (not y e)

  pub swaps-tail : Local size t Cleared tail_at (Swap (suc t)) swap_place (IsCodeOrNone size)
  swaps-tail row place q long lt few r is = go (tail_in row) refl
    where
      go : (n : ℕ) → tail_in row ≡ n → (q' : List ℕ) × RowKept size (set row tail_at (suc t)) (with_at place t (swap_place n)) q' × Changes row (set row tail_at (suc t)) place q q' × FindsTail (is_swap Cleared (swap_place n)) n (tail_in row) × IsCodeOrNone size n
      go zero e = (q ++ t ∷ [], wrote-tail size row (with_at place t Head) (q ++ t ∷ []) (suc t) long (enters-first size (tail_in row) (next_in row) (prev_in row) (locked_in row) place (with_at place t Head) q t r is e lt (with_at-sets place t Head)), inr (inl (record { task = t; cleared = is; swap = refl; new = refl })), sym e, λ p z. absurd (omega (arith, z)))
      go (suc p) e = (q ++ t ∷ [], wrote-tail size row (with_at place t (Swapped p)) (q ++ t ∷ []) (suc t) long (enters size (tail_in row) (next_in row) (prev_in row) (locked_in row) place (with_at place t (Swapped p)) q t r p is e lt (with_at-sets place t (Swapped p))), inr (inl (record { task = t; cleared = is; swap = refl; new = refl })), sym e, λ m z. let same : p ≡ m = omega (arith, z) in subst (λ (x : ℕ). x < size) same (r.inside p (last-has q p (sym r.ends ∙ e))))

  pub stores-own-prev : (p : ℕ) → Local size t (Swapped p) (prev_at t) (Store (suc p)) (λ _. Linking p) (λ _. Unit {0})
  stores-own-prev p row place q long lt few r is = (
    q,
    wrote-prev size row (with_at place t (Linking p)) q t (suc p) long (omega arith) (stores-prev size (tail_in row) (next_in row) (prev_in row) (locked_in row) place (with_at place t (Linking p)) q t r p (prev_in (set row (prev_at t) (suc p))) is (sets-prev size row place q t (suc p) long (omega arith)) (with_at-sets place t (Linking p))),
    inl refl,
    tt,
    tt,
  )

  -- a task that another knows stands in the queue
  pub inside-owed : (row : List ℕ) (place : ℕ → Place) (q : List ℕ) (r : RowKept size row place q) (x y d : ℕ) → Owed size q r.debtor x y d → (x < size) × (y < size)
  inside-owed row place q r x y d o = (r.inside x (left-has q x y o.0), r.inside y (right-has q x y o.0))

  pub links-in : (p : ℕ) → Local size t (Linking p) (next_at p) (Store (suc t)) (λ _. Waiting) (λ _. Unit {0})
  links-in p row place q long lt few r is = let at : Owed size q r.debtor p t t = there size (tail_in row) (next_in row) (prev_in row) (locked_in row) place place q t r (Linking p) is in let in_p = (inside-owed row place q r p t t at).0 in (
    q,
    wrote-next size row (with_at place t Waiting) q p (suc t) long (omega (arith, in_p, few)) (links-itself size (tail_in row) (next_in row) (prev_in row) (locked_in row) place (with_at place t Waiting) q t r p (next_in (set row (next_at p) (suc t))) is (sets-next size row place q p (suc t) long (omega (arith, in_p, few))) (with_at-sets place t Waiting)),
    inl refl,
    tt,
    tt,
  )

  pub looks-granted : Local size t Waiting (locked_at t) Load look_place (λ _. Unit {0})
  looks-granted row place q long lt few r is = let n : ℕ = locked_in row t in
      let F : Bool → Type 0 = λ b. RowKept size (set row (locked_at t) n) (with_at place t (if b then Head else Waiting)) q × FindsTail (is_swap Waiting (if b then Head else Waiting)) n (tail_in row) in
      let k = dite (ℕ_discrete n 1)
      (λ e. subst F (sym (eq-eqb n 1 e)) (subst (λ (z : List ℕ). RowKept size z (with_at place t Head) q) (sym (set-get_or row (locked_at t) 0)) ((sees-grant size (tail_in row) (next_in row) (prev_in row) (locked_in row) place (with_at place t Head) q t r is e (with_at-sets place t Head)).1), tt))
      (λ m. subst F (sym (ne_eqb n 1 m)) (same-row row place q (locked_at t) n Waiting refl is r, tt)) in (q, k.0, inl refl, k.1, tt)

  -- an exchange that only looks where it misses
  pub exchanges-at : (P P' : Place) (at old new : ℕ) → ((n tail : ℕ) → FindsTail (is_swap P P') n tail)
      → ((row : List ℕ) (place : ℕ → Place) (q : List ℕ) → length row ≡ LOCK_WORDS → t < size → size ≤ MAX_TASKS → RowKept size row place q → place t ≡ P → get_or row at 0 ≡ old → (q' : List ℕ) × RowKept size (set row at new) (with_at place t P') q' × Changes row (set row at new) place q q')
      → Local size t P at (Exchange old new) (try_place P P' old) (λ _. Unit {0})
  exchanges-at P P' at old new finds hit row place q long lt few r is = let n : ℕ = get_or row at 0 in
      let F : Bool → Type 0 = λ b. (q' : List ℕ) × RowKept size (set row at (if b then new else n)) (with_at place t (if b then P' else P)) q' × Changes row (set row at (if b then new else n)) place q q' × FindsTail (is_swap P (if b then P' else P)) n (tail_in row) × Unit {0} in
      dite (ℕ_discrete n old)
      (λ e. subst F (sym (eq-eqb n old e)) (let h = hit row place q long lt few r is e in (h.0, h.1, h.2, finds n (tail_in row), tt)))
      (λ m. subst F (sym (ne_eqb n old m)) (q, same-row row place q at n P refl is r, inl refl, stays-put P n (tail_in row), tt))

  -- the head exchanges the tail from its code to 0
  pub lets-go-tail : Local size t Head tail_at (Exchange (suc t) 0) (try_place Head Out (suc t)) (λ _. Unit {0})
  lets-go-tail = exchanges-at Head Out tail_at (suc t) 0 (leaves-out Head) (λ row place q long lt few r is e. (
    without t q,
    wrote-tail size row (with_at place t Out) (without t q) 0 long (lets-go size (tail_in row) (next_in row) (prev_in row) (locked_in row) place (with_at place t Out) q t r is e (with_at-sets place t Out)),
    inr (inr (record { task = t; there = last-has q t (sym r.ends ∙ e); free = leaves-alone size (tail_in row) (next_in row) (prev_in row) (locked_in row) place (with_at place t Out) q t r is e; leaves = inl (None, is, e, refl); new = refl })),
  ))

  -- the last exchanges it to the code of its predecessor
  pub leaves-at-end : (p : ℕ) → Local size t (Unlinked p) tail_at (Exchange (suc t) (p + 1)) (try_place (Unlinked p) Out (suc t)) (λ _. Unit {0})
  leaves-at-end p = exchanges-at (Unlinked p) Out tail_at (suc t) (p + 1) (leaves-out (Unlinked p)) (λ row place q long lt few r is e. let one : suc p ≡ p + 1 = omega arith in (
    without t q,
    wrote-tail size row (with_at place t Out) (without t q) (p + 1) long (subst (λ (c : ℕ). QueueKept size c (next_in row) (prev_in row) (locked_in row) (with_at place t Out) (without t q)) one (leaves-last size (tail_in row) (next_in row) (prev_in row) (locked_in row) place (with_at place t Out) q t r p is e (with_at-sets place t Out))),
    inr (inr (record { task = t; there = last-has q t (sym r.ends ∙ e); free = leaves-apart size (tail_in row) (next_in row) (prev_in row) (locked_in row) place (with_at place t Out) q t r p is e; leaves = inl (Some p, is, e, refl); new = refl })),
  ))

  -- a swap of the own `next` for 0
  takes-next : (P : Place) (to : ℕ → Place) → ((y n tail : ℕ) → FindsTail (is_swap P (to y)) n tail)
      → ((row : List ℕ) (place : ℕ → Place) (q : List ℕ) (y : ℕ) → length row ≡ LOCK_WORDS → t < size → size ≤ MAX_TASKS → RowKept size row place q → place t ≡ P → next_in row t ≡ suc y → RowKept size (set row (next_at t) 0) (with_at place t (to y)) q)
      → Local size t P (next_at t) (Swap 0) (take_place to P) (IsCodeOrNone size)
  takes-next P to finds hit row place q long lt few r is = go (next_in row t) refl
    where
      go : (n : ℕ) → next_in row t ≡ n → (q' : List ℕ) × RowKept size (set row (next_at t) 0) (with_at place t (take_place to P n)) q' × Changes row (set row (next_at t) 0) place q q' × FindsTail (is_swap P (take_place to P n)) n (tail_in row) × IsCodeOrNone size n
      go zero e = (q, same-row row place q (next_at t) 0 P e is r, inl refl, stays-put P 0 (tail_in row), λ p z. absurd (omega (arith, z)))
      go (suc y) e = (q, hit row place q y long lt few r is e, inl refl, finds y (suc y) (tail_in row), λ m z. let same : y ≡ m = omega (arith, z) in subst (λ (x : ℕ). x < size) same (r.inside y (right-has q t y ((r.links t y e).0))))

  pub takes-to-grant : Local size t Head (next_at t) (Swap 0) (take_place Granting Head) (IsCodeOrNone size)
  takes-to-grant = takes-next Head Granting (λ y n tail. tt) (λ row place q y long lt few r is e. wrote-next size row (with_at place t (Granting y)) q t 0 long (omega arith) (takes-own size (tail_in row) (next_in row) (prev_in row) (locked_in row) place (with_at place t (Granting y)) q t r y (next_in (set row (next_at t) 0)) is e (sets-next size row place q t 0 long (omega arith)) (with_at-sets place t (Granting y))))

  pub takes-to-splice : (p : ℕ) → Local size t (Unlinked p) (next_at t) (Swap 0) (take_place (Splicing p) (Unlinked p)) (IsCodeOrNone size)
  takes-to-splice p = takes-next (Unlinked p) (Splicing p) (λ y n tail. tt) (λ row place q y long lt few r is e. wrote-next size row (with_at place t (Splicing p y)) q t 0 long (omega arith) (takes-both size (tail_in row) (next_in row) (prev_in row) (locked_in row) place (with_at place t (Splicing p y)) q t r p y (next_in (set row (next_at t) 0)) is e (sets-next size row place q t 0 long (omega arith)) (with_at-sets place t (Splicing p y))))

  pub grants-next : (n : ℕ) → Local size t (Granting n) (locked_at n) (Store 1) (λ _. Out) (λ _. Unit {0})
  grants-next n row place q long lt few r is = let at : IsFirst q t × Owed size q r.debtor t n t = there size (tail_in row) (next_in row) (prev_in row) (locked_in row) place place q t r (Granting n) is in let in_n = (inside-owed row place q r t n t at.1).1 in (
    without t q,
    wrote-locked size row (with_at place t Out) (without t q) n 1 long (omega (arith, in_n, few)) (grants size (tail_in row) (next_in row) (prev_in row) (locked_in row) place (with_at place t Out) q t r n (locked_in (set row (locked_at n) 1)) is (sets-locked size row place q n 1 long (omega (arith, in_n, few))) (with_at-sets place t Out)),
    inr (inr (record { task = t; there = first-has q t at.0; free = leaves-granting size (tail_in row) (next_in row) (prev_in row) (locked_in row) place (with_at place t Out) q t r n is; leaves = inr (inr (n, is, refl)); new = refl })),
    tt,
    tt,
  )

  -- of the head, and of one that is leaving

  pub waits-leave : (prev : Option ℕ) → Local size t (waits_at prev) tail_at (Exchange (suc t) (code_in prev)) (try_place (waits_at prev) Out (suc t)) (λ _. Unit {0})
  waits-leave None = lets-go-tail
  waits-leave (Some p) = leaves-at-end p

  pub waits-take : (prev : Option ℕ) → Local size t (waits_at prev) (next_at t) (Swap 0) (take_place (taking_of (waits_at prev)) (waits_at prev)) (IsCodeOrNone size)
  waits-take None = takes-to-grant
  waits-take (Some p) = takes-to-splice p

-- the same of other names for the task, its place, the word, the operation and what becomes of them
pub relocate : (size t t' : ℕ) (P P' : Place) (at at' : ℕ) (op op' : Op) (to to' : ℕ → Place) (tells : ℕ → Type 0) → t ≡ t' → P ≡ P' → at ≡ at' → op ≡ op' → to ≡ to' → Local size t P at op to tells → Local size t' P' at' op' to' tells
relocate size t t' P P' at at' op op' to to' tells a b c d e = subst (λ (z : ℕ × Place × ℕ × Op × (ℕ → Place)). Local size z.0 z.1 z.2 z.3 z.4 tells) (λ i. (a i, b i, c i, d i, e i))
