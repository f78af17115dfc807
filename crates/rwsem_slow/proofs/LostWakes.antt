-- No wake-up of a semaphore is lost.
use Rattle.std.proofs.Common.{◌≡◌, ℕ, zero, suc, ◌≤◌, ◌⊎◌, inl, inr, List, [], ◌∷◌, length, sym, refl, ap, ◌∙◌, arith}
use mathlib.Core.Option.{some, some-injective, some-ne-none}
use lib.ListN.{get_elem?}
use Rattle.rwsem_wake.specs.Duties.{kept_of, kept_weight}
use Rattle.rwsem_wake.specs.SemParts.{SemPart, reserve_of, reserve_weight, transit_of, transit_weight}
use Rattle.rwsem_slow.specs.RwSemStated.{IsQueued}
use Rattle.rwsem_slow.specs.LostWakes.{HasReserve, HasTransit, LosesNoWake}
use Rattle.rwsem_slow.specs.Types.{Moment, Bias, Clear, Transit, Reserve, Waiter}

-- a bias that keeps writers out is in transit or reserved
kept-cases : (b : Bias) → 1 ≤ kept_weight b → (transit_weight b ≡ 1) ⊎ ((reserve_weight b ≡ 1) × (kept_weight b ≡ 1))
kept-cases Clear few = absurd (omega (arith, few))
kept-cases (Transit word) few = inl refl
kept-cases (Reserve word) few = inr (refl, omega (arith, few))

-- of two lists of one length, where one has something the other has too
same-place : {X Y : Type 0} (xs : List X) (ys : List Y) (i : ℕ) (x : X) → length xs ≡ length ys → get_elem? xs i ≡ some x → (y : Y) × (get_elem? ys i ≡ some y)
same-place [] ys i x many at = absurd (some-ne-none x (sym at))
same-place (z ∷ xs) [] i x many at = absurd (omega (arith, many))
same-place (z ∷ xs) (y ∷ ys) zero x many at = (y, refl)
same-place (z ∷ xs) (y ∷ ys) (suc i) x many at = same-place xs ys i x (omega (arith, many)) at

-- whose bias keeps writers out is a task with a bias in transit, or a waker that has the wait lock
keeps-out : (m : Moment) (q : List Waiter) (ps : List SemPart) → IsQueued m q ps → (id : ℕ) (p : SemPart) → get_elem? ps id ≡ some p → (transit_of p ≡ 1) ⊎ ((reserve_of p ≡ 1) × (kept_of p ≡ 1)) → HasTransit m ps ⊎ HasReserve m ps
keeps-out m q ps queued id p at (inl transit) =
    let there = same-place ps m.hands id p queued.parts.many at in
    let part = queued.parts.each id there.0 there.1 in
    let same : part.0 ≡ p = some-injective part.0 p (sym part.1 ∙ at) in
    let task : p.task ≡ there.0.task = ap (λ (x : SemPart). x.task) (sym same) ∙ part.2.task in
    let held : p.held ≡ there.0.held = ap (λ (x : SemPart). x.held) (sym same) ∙ part.2.held in
    let out = queued.apart id p at transit in
    inl (id, there.0, p, there.1, at, transit, (λ none. out.1 (task ∙ none)), sym held ∙ out.0)
keeps-out m q ps queued id p at (inr reserve) = let one = reserve.0 in inr (id, p, at, reserve.0, reserve.1, queued.locked id p at (omega (arith, one)))

pub loses_no_wake : (m : Moment) (q : List Waiter) (ps : List SemPart) → IsQueued m q ps → LosesNoWake m q ps
loses_no_wake m q ps queued = record {
  first = λ w behind is alone read. elim (queued.first w behind is alone read) [
    | inl owes ↦ inl owes
    | inr (inl keeps) ↦ elim (keeps-out m q ps queued keeps.0 keeps.1 keeps.2 (kept-cases keeps.1.sem.bias keeps.3)) [ inl transit ↦ inr (inl transit) | inr reserve ↦ inr (inr (inl reserve)) ]
    | inr (inr first) ↦ inr (inr (inr first))
  ];
  granted = λ id t h p at there granted task. queued.granted id h p at there granted t task;
}
