-- The first reader of a list, and the list without it.
use Rattle.std.proofs.Common.{◌≡◌, ◌≢◌, ℕ, ◌+◌, ◌*◌, ◌≤◌, ◌==◌, inl, inr, Bool, true, false, List, [], ◌∷◌, refl, ap, ◌∙◌, arith, eq-eqb, ne_eqb, if◌then◌else◌}
use Rattle.lock_core.specs.Records.{bit}
use Rattle.lock_core.specs.Totals.{total}
use Rattle.wait_list.specs.Lists.{counted, first_code, without}
use Rattle.rwsem_wake.specs.SemParts.{reader_at, reader_bit, writer_at}
use Rattle.rwsem_wake.specs.GrantsStated.{IsFirstReader, Without}
use Rattle.rwsem_wake.specs.Types.{Waiter}

-- waiters by task

one-kind : (b : Bool) (x : ℕ) → x ≡ reader_bit b * x + bit b * x
one-kind true x = omega arith
one-kind false x = omega arith

pub counted-is : (t : ℕ) (q : List Waiter) → counted t q ≡ total (reader_at t) q + total (writer_at t) q
counted-is t [] = refl
counted-is t (w ∷ q) = let e = counted-is t q in let x = one-kind w.writer (bit (w.task == t)) in omega (arith, e, x)

pub reader-counts : (t : ℕ) (q : List Waiter) → IsFirstReader t q → 1 ≤ counted t q
reader-counts t [] f = absurd f
reader-counts t (w ∷ q) f = elim f [ inl is ↦ (let e : bit (w.task == t) ≡ 1 = ap bit (eq-eqb w.task t is.1) in omega (arith, e)) | inr more ↦ (let l = reader-counts t q more.1 in omega (arith, l)) ]

pub first-counts : (t : ℕ) (q : List Waiter) → first_code q ≡ t + 1 → 1 ≤ counted t q
first-counts t [] e = absurd (omega (arith, e))
first-counts t (w ∷ q) e = let z : w.task ≡ t = omega (arith, e) in let f : bit (w.task == t) ≡ 1 = ap bit (eq-eqb w.task t z) in omega (arith, f)

-- the list without its first reader
pub picks-is : (t : ℕ) (q : List Waiter) → counted t q ≤ 1 → IsFirstReader t q → (w : Waiter) × (w.task ≡ t) × (w.writer ≡ false) × ((s : Without q w (without t q)) × (first_code q ≡ t + 1 → s.before ≡ []))
picks-is t [] once f = absurd f
picks-is t (x ∷ q) once f = elim f [
  | inl is ↦ (x, is.1, is.0, (record { before = []; behind = q; was = refl; is = ap (λ (b : Bool). if b then q else x ∷ without t q) (eq-eqb x.task t is.1) }, λ _. refl))
  | inr more ↦ let l = reader-counts t q more.1 in let not : x.task ≢ t = λ e. (let y : bit (x.task == t) ≡ 1 = ap bit (eq-eqb x.task t e) in absurd (omega (arith, y, l, once))) in let r = picks-is t q (omega (arith, once)) more.1 in
      (r.0, r.1, r.2, (record { before = x ∷ r.3.0.before; behind = r.3.0.behind; was = ap (λ (z : List Waiter). x ∷ z) r.3.0.was; is = ap (λ (b : Bool). if b then q else x ∷ without t q) (ne_eqb x.task t not) ∙ ap (λ (z : List Waiter). x ∷ z) r.3.0.is }, λ e. absurd (not (omega (arith, e)))))
]
