-- The first readers of a list, and what a loop over it has of them.
use Rattle.std.proofs.Common.{◌≡◌, ℕ, zero, suc, ◌+◌, ◌-◌, ◌*◌, ◌<◌, ◌≤◌, ◌==◌, inl, inr, Bool, true, false, cond, List, [], ◌∷◌, ◌++◌, length, map, filter, take, drop, get_or, if◌then◌else◌, sym, refl, ap, ◌∙◌, subst, arith, append_assoc, length-append, Some, slice_get as get}
use Rattle.std.proofs.lemmas.List.{drop_more, append-nil}
use Rattle.std.proofs.Math.ListN.{drop_of_length-le}
use Rattle.lock_core.proofs.RowLaws.{none-some, same-some}
use Rattle.rwsem_wake.specs.Batches.{reads, task_of, starts_with_reader, batch_of, without_readers, list_after, SharesOut}
use Rattle.rwsem_wake.specs.SemParts.{reader_at, writer_at, reader_bit, here}
use Rattle.rwsem_wake.specs.Types.{Waiter}
use Rattle.lock_core.specs.Records.{bit}
use Rattle.lock_core.specs.Totals.{total}

abbrev pub first_readers : ℕ → List Waiter → List ℕ
first_readers zero ws = []
first_readers (suc n) [] = []
first_readers (suc n) (w ∷ ws) = if w.writer then first_readers (suc n) ws else w.task ∷ first_readers n ws

take-none : (xs : List ℕ) → take 0 xs ≡ []
take-none [] = refl
take-none (x ∷ xs) = refl

pub is-take : (n : ℕ) (ws : List Waiter) → take n (map task_of (filter reads ws)) ≡ first_readers n ws
is-take zero ws = take-none (map task_of (filter reads ws))
is-take (suc n) [] = refl
is-take (suc n) (w ∷ ws) = go w.writer (is-take (suc n) ws) (is-take n ws)
  where
    go : (b : Bool) → take (suc n) (map task_of (filter reads ws)) ≡ first_readers (suc n) ws → take n (map task_of (filter reads ws)) ≡ first_readers n ws
        → take (suc n) (map task_of (cond (if b then false else true) (w ∷ filter reads ws) (filter reads ws))) ≡ (if b then first_readers (suc n) ws else w.task ∷ first_readers n ws)
    go true more less = more
    go false more less = ap (λ (z : List ℕ). w.task ∷ z) less

skips : (n : ℕ) (w : Waiter) (ws : List Waiter) → w.writer ≡ true → first_readers n (w ∷ ws) ≡ first_readers n ws
skips zero w ws e = refl
skips (suc n) w ws e = ap (λ (b : Bool). if b then first_readers (suc n) ws else w.task ∷ first_readers n ws) e

picks : (n m : ℕ) (w : Waiter) (ws : List Waiter) → n ≡ suc m → w.writer ≡ false → first_readers n (w ∷ ws) ≡ w.task ∷ first_readers m ws
picks n m w ws is e = ap (λ (z : ℕ). first_readers z (w ∷ ws)) is ∙ ap (λ (b : Bool). if b then first_readers (suc m) ws else w.task ∷ first_readers m ws) e

-- so far the loop has these, and the others are to come
abbrev pub Has : ℕ → List Waiter → ℕ → List ℕ → Type 0
Has limit ws i out = (length out ≤ limit) × (out ++ first_readers (limit - length out) (drop i ws) ≡ first_readers limit ws)

pub has-skipped : (limit : ℕ) (ws : List Waiter) (i : ℕ) (out : List ℕ) (d : Waiter) → i < length ws → (get_or ws i d).writer ≡ true → Has limit ws i out → Has limit ws (i + 1) out
has-skipped limit ws i out d l is h = (h.0, ap (λ (z : List ℕ). out ++ z) (sym (ap (first_readers (limit - length out)) (drop_more ws i d l) ∙ skips (limit - length out) (get_or ws i d) (drop (i + 1) ws) is)) ∙ h.1)

pub has-picked : (limit : ℕ) (ws : List Waiter) (i : ℕ) (out : List ℕ) (d : Waiter) → i < length ws → length out < limit → (get_or ws i d).writer ≡ false → Has limit ws i out → Has limit ws (i + 1) (out ++ (get_or ws i d).task ∷ [])
has-picked limit ws i out d l room is h = let t : ℕ = (get_or ws i d).task in let e = length-append out (t ∷ []) in let m : ℕ = limit - length (out ++ t ∷ []) in
    let p = picks (limit - length out) m (get_or ws i d) (drop (i + 1) ws) (omega arith) is in
    (omega arith, append_assoc out (t ∷ []) (first_readers m (drop (i + 1) ws)) ∙ (ap (λ (z : List ℕ). out ++ z) (sym (ap (first_readers (limit - length out)) (drop_more ws i d l) ∙ p)) ∙ h.1))

no-more : (n : ℕ) → first_readers n [] ≡ []
no-more zero = refl
no-more (suc n) = refl

pub has-all : (limit : ℕ) (ws : List Waiter) (i : ℕ) (out : List ℕ) → length ws ≤ i → Has limit ws i out → out ≡ first_readers limit ws
has-all limit ws i out l h = sym (append-nil out) ∙ (ap (λ (z : List ℕ). out ++ z) (sym (ap (first_readers (limit - length out)) (drop_of_length-le ws l) ∙ no-more (limit - length out))) ∙ h.1)

pub has-full : (limit : ℕ) (ws : List Waiter) (i : ℕ) (out : List ℕ) → length out ≡ limit → Has limit ws i out → out ≡ first_readers limit ws
has-full limit ws i out l h = let z : limit - length out ≡ 0 = omega arith in sym (append-nil out) ∙ (ap (λ (n : ℕ). out ++ first_readers n (drop i ws)) (sym z) ∙ h.1)

-- where a reader is first, these are the batch
pub is-batch : (limit : ℕ) (ws : List Waiter) (out : List ℕ) → starts_with_reader ws ≡ true → out ≡ first_readers limit ws → out ≡ batch_of limit ws
is-batch limit ws out first is = is ∙ (sym (is-take limit ws) ∙ sym (ap (λ (b : Bool). if b then take limit (map task_of (filter reads ws)) else []) first))

pub reader-first : (ws : List Waiter) (w : Waiter) → get ws 0 ≡ Some w → w.writer ≡ false → starts_with_reader ws ≡ true
reader-first [] w at is = none-some w at
reader-first (x ∷ ws) w at is = ap (λ (b : Bool). if b then false else true) (ap (λ (z : Waiter). z.writer) (same-some x w at) ∙ is)

-- the batch and the list after it share out the list
shares-all : (ws : List Waiter) → SharesOut ws [] ws
shares-all [] = (refl, refl)
shares-all (w ∷ ws) = inr (ws, refl, shares-all ws)

shares-first : (n : ℕ) (ws : List Waiter) → SharesOut ws (first_readers n ws) (without_readers n ws)
shares-first zero ws = shares-all ws
shares-first (suc n) [] = (refl, refl)
shares-first (suc n) (w ∷ ws) = go w.writer refl (shares-first (suc n) ws) (shares-first n ws)
  where
    go : (b : Bool) → w.writer ≡ b → SharesOut ws (first_readers (suc n) ws) (without_readers (suc n) ws) → SharesOut ws (first_readers n ws) (without_readers n ws)
        → SharesOut (w ∷ ws) (if w.writer then first_readers (suc n) ws else w.task ∷ first_readers n ws) (if w.writer then w ∷ without_readers (suc n) ws else without_readers n ws)
    go true e more less = subst (λ (b : Bool). SharesOut (w ∷ ws) (if b then first_readers (suc n) ws else w.task ∷ first_readers n ws) (if b then w ∷ without_readers (suc n) ws else without_readers n ws)) (sym e) (inr (without_readers (suc n) ws, refl, more))
    go false e more less = subst (λ (b : Bool). SharesOut (w ∷ ws) (if b then first_readers (suc n) ws else w.task ∷ first_readers n ws) (if b then w ∷ without_readers (suc n) ws else without_readers n ws)) (sym e) (inl (first_readers n ws, refl, e, less))

pub shares-batch : (limit : ℕ) (ws : List Waiter) → SharesOut ws (batch_of limit ws) (list_after limit ws)
shares-batch limit ws = go (starts_with_reader ws) (subst (λ (z : List ℕ). SharesOut ws z (without_readers limit ws)) (sym (is-take limit ws)) (shares-first limit ws)) (shares-all ws)
  where
    go : (b : Bool) → SharesOut ws (take limit (map task_of (filter reads ws))) (without_readers limit ws) → SharesOut ws [] ws → SharesOut ws (if b then take limit (map task_of (filter reads ws)) else []) (if b then without_readers limit ws else ws)
    go true some none = some
    go false some none = none

-- so each waiter stands in one of them
pub shared-sums : (t : ℕ) (ws : List Waiter) (batch : List ℕ) (rest : List Waiter) → SharesOut ws batch rest → (total (reader_at t) ws ≡ total (reader_at t) rest + here t batch) × (total (writer_at t) ws ≡ total (writer_at t) rest)
shared-sums t [] batch rest s = let a = ap (here t) s.0 in let b = ap (total (reader_at t)) s.1 in let c = ap (total (writer_at t)) s.1 in (omega arith, omega arith)
shared-sums t (w ∷ ws) batch rest s = elim s [
  | inl b ↦ let r = shared-sums t ws b.0 rest b.3 in let x = r.0 in let y = r.1 in let h = ap (here t) b.1 in let k : reader_at t w ≡ 1 * bit (w.task == t) = ap (λ (z : Bool). reader_bit z * bit (w.task == t)) b.2 in
      let l : writer_at t w ≡ 0 * bit (w.task == t) = ap (λ (z : Bool). bit z * bit (w.task == t)) b.2 in (omega (arith, x, h, k), omega (arith, y, l))
  | inr b ↦ let r = shared-sums t ws batch b.0 b.2 in let x = r.0 in let y = r.1 in let h = ap (total (reader_at t)) b.1 in let k = ap (total (writer_at t)) b.1 in (omega (arith, x, h), omega (arith, y, k))
]
