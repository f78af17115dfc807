-- Who stands where: sums over views and the list, by task.
use Rattle.std.proofs.Common.{◌≡◌, ◌≢◌, ℕ, zero, suc, ◌+◌, ◌<◌, ◌≤◌, ◌==◌, List, [], ◌∷◌, ◌++◌, length, get_or, set, Option, Some, None, sym, refl, ap, ◌∙◌, subst, arith, eq-eqb, ne_eqb, get_or-set_same, get_or-set_other}
use mathlib.Core.Logic.{dite}
use native.Mathlib.Decide.{ℕ_discrete}
use Rattle.lock_core.specs.Records.{bit}
use Rattle.lock_core.specs.Views.{is_number}
use Rattle.lock_core.specs.Totals.{total}
use Rattle.lock_core.proofs.HandLaws.{is_number-here, is_number-else}
use Rattle.rwsem_wake.specs.SemParts.{SemPart, reads_weight, granted_weight, named_weight, is_zero, granted_of, granted_at, reads_at, here, some_of, marks_sum, first_mark}
use Rattle.rwsem_wake.specs.GrantsStated.{Without}
use Rattle.rwsem_wake.specs.Types.{Waiter, Wait, Apart, Reads, Writes}

total-append : {V : Type 0} (f : V → ℕ) (xs ys : List V) → total f (xs ++ ys) ≡ total f xs + total f ys
total-append f [] ys = omega arith
total-append f (x ∷ xs) ys = let e = total-append f xs ys in omega arith

pub total-without : (f : Waiter → ℕ) (q q' : List Waiter) (w : Waiter) → Without q w q' → total f q ≡ total f q' + f w
total-without f q q' w s = let a = total-append f s.before (w ∷ s.behind) in let b = total-append f s.before s.behind in let c = ap (total f) s.was in let d = ap (total f) s.is in omega arith

pub length-without : (q q' : List Waiter) (w : Waiter) → Without q w q' → length q ≡ length q' + 1
length-without q q' w s = let c = ap length s.was in let d = ap length s.is in let e = both s.before s.behind in omega arith
  where
    both : (xs ys : List Waiter) → length (xs ++ w ∷ ys) ≡ length (xs ++ ys) + 1
    both [] ys = omega arith
    both (x ∷ xs) ys = let e = both xs ys in omega arith

pub some-length : {A : Type 0} (xs : List A) → (1 ≤ length xs → some_of xs ≡ 1) × (some_of xs ≡ 1 → 1 ≤ length xs) × (some_of xs ≤ 1) × (length xs ≡ 0 → some_of xs ≡ 0)
some-length [] = (λ l. absurd (omega arith), λ e. absurd (omega arith), omega arith, λ e. refl)
some-length (x ∷ xs) = (λ l. refl, λ e. omega arith, omega arith, λ e. absurd (omega arith))

-- marks: one of them is at most their sum
pub mark-least : (marks : List ℕ) (t : ℕ) → get_or marks t 0 ≤ marks_sum marks
mark-least [] t = omega arith
mark-least (m ∷ ms) zero = omega arith
mark-least (m ∷ ms) (suc t) = let l = mark-least ms t in omega arith

pub mark-set : (marks : List ℕ) (t x : ℕ) → t < length marks → marks_sum (set marks t x) + get_or marks t 0 ≡ marks_sum marks + x
mark-set [] t x l = absurd (omega arith)
mark-set (m ∷ ms) zero x l = omega arith
mark-set (m ∷ ms) (suc t) x l = let e = mark-set ms t x (omega arith) in omega arith

pub first-least : (marks : List ℕ) (ts : List ℕ) → first_mark marks ts ≤ marks_sum marks
first-least marks [] = omega arith
first-least marks (t ∷ ts) = mark-least marks t

zero-is : (n : ℕ) → n ≡ 0 → is_zero n ≡ 1
zero-is n e = ap is_zero e

pub not-zero : (n : ℕ) → 1 ≤ n → is_zero n ≡ 0
not-zero zero l = absurd (omega arith)
not-zero (suc n) l = refl

-- a reader is granted exactly where its grant word is 0
pub granted-at : (grants : List ℕ) (t : ℕ) (v : SemPart) → (get_or grants t 0 ≡ 0 → granted_at grants t v ≡ reads_at t v) × (1 ≤ get_or grants t 0 → granted_at grants t v ≡ 0)
granted-at grants t v = go v.task v.sem.wait
  where
    go : (task : Option ℕ) (wait : Wait) → (get_or grants t 0 ≡ 0 → named_weight t task (granted_weight grants task wait) ≡ named_weight t task (reads_weight wait)) × (1 ≤ get_or grants t 0 → named_weight t task (granted_weight grants task wait) ≡ 0)
    go None Apart = (λ e. refl, λ l. refl)
    go None Reads = (λ e. number-none (is_number t None) refl, λ l. refl)
      where
        number-none : (n : ℕ) → n ≡ 0 → 0 ≡ n
        number-none n e = sym e
    go None Writes = (λ e. refl, λ l. refl)
    go (Some u) Apart = (λ e. refl, λ l. refl)
    go (Some u) Writes = (λ e. refl, λ l. refl)
    go (Some u) Reads = dite (ℕ_discrete u t)
        (λ is. (
          (λ e. ap (named_weight t (Some u)) (zero-is (get_or grants u 0) (ap (λ (z : ℕ). get_or grants z 0) is ∙ e))),
          λ l. ap (named_weight t (Some u)) (not-zero (get_or grants u 0) (subst (λ (z : ℕ). 1 ≤ get_or grants z 0) (sym is) l)),
        ))
        (λ not. let z = is_number-else t u not in ((λ e. either (is_zero (get_or grants u 0)) z ∙ sym z), λ l. either (is_zero (get_or grants u 0)) z))
      where
        either : (n : ℕ) → is_number t (Some u) ≡ 0 → named_weight t (Some u) n ≡ 0
        either zero e = refl
        either (suc n) e = e

pub granted-all : (grants : List ℕ) (t : ℕ) (vs : List SemPart) → (get_or grants t 0 ≡ 0 → total (granted_at grants t) vs ≡ total (reads_at t) vs) × (1 ≤ get_or grants t 0 → total (granted_at grants t) vs ≡ 0)
granted-all grants t [] = (λ e. refl, λ l. refl)
granted-all grants t (v ∷ vs) = let a = granted-at grants t v in let b = granted-all grants t vs in (
  (λ e. let c = a.0 e in let d = b.0 e in omega arith),
  λ l. let c = a.1 l in let d = b.1 l in omega arith,
)

-- a grant word is cleared
module _ (grants : List ℕ) (t : ℕ) (inside : t < length grants) (waits : 1 ≤ get_or grants t 0) where
  abbrev Cleared : List ℕ
  Cleared = set grants t 0

  cleared-here : get_or Cleared t 0 ≡ 0
  cleared-here = get_or-set_same grants t 0 0 inside

  cleared-else : (u : ℕ) → u ≢ t → get_or Cleared u 0 ≡ get_or grants u 0
  cleared-else u n = get_or-set_other grants t u 0 0 n

  grant-one : (v : SemPart) → granted_of Cleared v ≡ granted_of grants v + reads_at t v
  grant-one v = go v.task v.sem.wait
    where
      go : (task : Option ℕ) (wait : Wait) → granted_weight Cleared task wait ≡ granted_weight grants task wait + named_weight t task (reads_weight wait)
      go None Apart = omega arith
      go None Reads = omega arith
      go None Writes = omega arith
      go (Some u) Apart = omega arith
      go (Some u) Writes = omega arith
      go (Some u) Reads = dite (ℕ_discrete u t)
          (λ is. let a = zero-is (get_or Cleared u 0) (ap (λ (z : ℕ). get_or Cleared z 0) is ∙ cleared-here) in let b = not-zero (get_or grants u 0) (subst (λ (z : ℕ). 1 ≤ get_or grants z 0) (sym is) waits) in
          let c : is_number t (Some u) ≡ 1 = ap (λ (z : ℕ). is_number t (Some z)) is ∙ is_number-here t in omega arith)
          (λ not. let a : is_zero (get_or Cleared u 0) ≡ is_zero (get_or grants u 0) = ap is_zero (cleared-else u not) in let c = is_number-else t u not in omega arith)

  pub grant-all : (vs : List SemPart) → total (granted_of Cleared) vs ≡ total (granted_of grants) vs + total (reads_at t) vs
  grant-all [] = omega arith
  grant-all (v ∷ vs) = let a = grant-one v in let b = grant-all vs in omega arith

  pub grant-here : (vs : List SemPart) → total (granted_at Cleared t) vs ≡ total (reads_at t) vs
  grant-here vs = (granted-all Cleared t vs).0 cleared-here

  pub grant-else : (u : ℕ) → u ≢ t → (vs : List SemPart) → total (granted_at Cleared u) vs ≡ total (granted_at grants u) vs
  grant-else u n vs = let e = cleared-else u n in let a = granted-all Cleared u vs in let b = granted-all grants u vs in elim (native.Mathlib.Decide.dec_le 1 (get_or grants u 0)) [
    | yes l ↦ a.1 (omega (arith, l, e)) ∙ sym (b.1 l)
    | no l ↦ let z : get_or grants u 0 ≡ 0 = omega (arith, l) in a.0 (e ∙ z) ∙ sym (b.0 z)
  ]

-- a batch's rest
pub here-mine : (t : ℕ) (ts : List ℕ) → here t (t ∷ ts) ≡ here t ts + 1
here-mine t ts = let e : bit (t == t) ≡ 1 = ap bit (eq-eqb t t refl) in omega arith

pub here-else : (t u : ℕ) (ts : List ℕ) → u ≢ t → here u (t ∷ ts) ≡ here u ts
here-else t u ts n = let e : bit (t == u) ≡ 0 = ap bit (ne_eqb t u (λ z. n (sym z))) in omega arith

pub here-behind : (t u : ℕ) (ts : List ℕ) → here u (ts ++ t ∷ []) ≡ here u ts + here u (t ∷ [])
here-behind t u [] = omega arith
here-behind t u (x ∷ ts) = let e = here-behind t u ts in omega arith
