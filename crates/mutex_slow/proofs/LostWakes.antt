-- No wake-up of a mutex is lost.
use Rattle.std.proofs.Common.{◌≡◌, ◌≢◌, ℕ, ◌+◌, ◌<◌, List, [], ◌∷◌, inl, inr, Option, Some, None, arith}
use Rattle.wait_list.specs.Lists.{counted, first_code}
use Rattle.wait_list.proofs.Waiters.{counted-here}
use Rattle.mutex_slow.specs.MutexStated.{IsListed, waits_in}
use Rattle.mutex_slow.specs.LostWakes.{LosesNoWake}
use Rattle.mutex_slow.specs.Types.{Moment, Waiter}

first-counted : (l : List Waiter) (t : ℕ) → first_code l ≡ t + 1 → 0 < counted t l
first-counted [] t is = absurd (omega (arith, is))
first-counted (w ∷ l) t is = let here = counted-here w l t (omega (arith, is)) in omega (arith, here)

-- who doesn't wait once doesn't wait
out-of-list : (m : Moment) (l : List Waiter) → IsListed m l → (task : Option ℕ) (queued : ℕ) → queued ≡ waits_in l task → queued ≢ 1 → queued ≡ 0
out-of-list m l listed None queued is not = is
out-of-list m l listed (Some t) queued is not = let few = listed.sound.once t in elim (native.Mathlib.Decide.dec_le queued 0) [ yes none ↦ omega (arith, none) | no waits ↦ absurd (not (omega (arith, is, few, waits))) ]

pub loses_no_wake : (m : Moment) (l : List Waiter) → IsListed m l → LosesNoWake m l
loses_no_wake m l listed nobody t first = elim (listed.duty nobody t first) [
  | inl owes ↦ let none = listed.unnamed owes.0 owes.2 owes.1 owes.3 owes.4 in let waits = listed.waiting owes.0 owes.2 owes.1 owes.3 owes.4 in
      inl (
        owes.0,
        owes.1,
        owes.2,
        owes.3,
        owes.4,
        (λ n. let even = (none n).1 owes.5 in let odd = owes.6 in omega (arith, even, odd)),
        out-of-list m l listed owes.1.task owes.2.queued (listed.marked owes.0 owes.2 owes.1 owes.3 owes.4) (λ w. let even = (waits w).1 owes.5 in let odd = owes.6 in omega (arith, even, odd)),
        inl (owes.5, owes.6),
      )
  | inr (inl chose) ↦ let none = listed.unnamed chose.0 chose.2 chose.1 chose.3 chose.4 in let waits = listed.waiting chose.0 chose.2 chose.1 chose.3 chose.4 in let code = chose.5 in
      inl (
        chose.0,
        chose.1,
        chose.2,
        chose.3,
        chose.4,
        (λ n. let zero_code = (none n).0 in omega (arith, zero_code, code)),
        out-of-list m l listed chose.1.task chose.2.queued (listed.marked chose.0 chose.2 chose.1 chose.3 chose.4) (λ w. let zero_code = (waits w).0 in omega (arith, zero_code, code)),
        inr code,
      )
  | inr (inr (inl set)) ↦ let p = listed.passes t (first-counted l t first) in inr (p.0, p.1, p.2, p.3, inl set)
  | inr (inr (inr awake)) ↦ inr (awake.0, awake.1, awake.3, awake.4, inr (awake.2, awake.5, awake.7))
]
