-- What a pass owes after the steps by which it chooses, wakes, tries and drowses.
use Rattle.std.proofs.Common.{◌≡◌, ◌∙◌, ℕ, zero, suc, ◌+◌, ◌<◌, ◌==◌, ◌&&◌, ◌↔◌, IsTrue, Bool, true, false, List, [], ◌∷◌, Option, Some, None, IfSome, sym, refl, ap, subst, arith, ◌≤◌}
use Rattle.word_bits.specs.declared.TheConstants.{MAX_TASKS}
use Rattle.word_bits.specs.OwnerWord.{task_code}
use Rattle.lock_core.specs.Views.{SpinHolds}
use Rattle.lock_core.specs.SpinFrames.{holds_at}
use Rattle.lock_core.specs.Spins.{holds_in}
use Rattle.lock_core.specs.Holding.{released}
use Rattle.lock_core.specs.Tallies.{raised}
use Rattle.lock_core.proofs.HandLaws.{not-both}
use Rattle.lock_core.proofs.RowLaws.{none-some, same-some}
use Rattle.mutex_word.specs.declared.host.Turn.TheVariants.{Hand as HandOn}
use Rattle.mutex_word.specs.Holders.{turns}
use Rattle.mutex_word.specs.OwnerTries.{at_step}
use Rattle.wait_list.specs.Lists.{AreTasks, first_code, first_of, sighted}
use Rattle.wake_duty.specs.DutyWakes.{owed, chose_any, duty_of, choosing, owing_at, drowsing, dozed_at, waked}
use Rattle.wake_duty.specs.Laws.Wake.{duty-first, waits-drowsing}
use Rattle.wake_duty.specs.WakeSteps.{HasTried}
use Rattle.mutex_slow.specs.Mutexes.{V, OwesNoWake, is_code, saw_first, turned, wait_state_of, with_wake}
use Rattle.mutex_slow.specs.MutexPlaces.{IsInLine, IsOutside, IsToWake, OwesWake, dozes_of, task_of}
use Rattle.mutex_slow.specs.Types.{Waiter, NoDuty, Owing}

-- who has no duty owes nothing
pub clear-none : (v : V) → v.ext.wake.duty ≡ NoDuty → OwesNoWake v
clear-none v is = λ i. owed (is i) v.hand.freed + chose_any (is i)

-- what it owes stays
pub clear-keeps : (v u : V) → u.ext.wake.duty ≡ v.ext.wake.duty → u.hand.freed ≡ v.hand.freed → OwesNoWake v → OwesNoWake u
clear-keeps v u duty freed clear = (λ i. owed (duty i) (freed i) + chose_any (duty i)) ∙ clear

code-none : (l : List Waiter) → None ≡ first_of l → first_code l ≡ 0
code-none [] is = refl
code-none (w ∷ l) is = none-some w is

code-some : (l : List Waiter) (w : Waiter) → Some w ≡ first_of l → first_code l ≡ w.task + 1
code-some [] w is = none-some w (sym is)
code-some (x ∷ l) w is = ap (λ (z : Waiter). z.task + 1) (sym (same-some w x is))

some-small : (l : List Waiter) (w : Waiter) → Some w ≡ first_of l → AreTasks l → w.task < MAX_TASKS
some-small [] w is all = none-some w (sym is)
some-small (x ∷ l) w is all = let a = all.0 in let e = ap (λ (z : Waiter). z.task) (same-some w x is) in omega (arith, a, e)

-- whom a handing over names is to be woken
pub handed : (w u : V) (s m : ℕ) (first : Option Waiter) → u ≡ turns turned HandOn (at_step w s) (released w.hand m) → first ≡ first_of w.ext.list.list → AreTasks w.ext.list.list → IsToWake u (task_of first)
handed w u s m None is first all = clear-none u (ap (λ (z : V). z.ext.wake.duty) is ∙ ap duty_of (code-none w.ext.list.list first))
handed w u s m (Some x) is first all = (ap (λ (z : V). z.ext.wake.duty) is ∙ duty-first (first_code w.ext.list.list) x.task (code-some w.ext.list.list x first), some-small w.ext.list.list x first all)

-- so is whom a debtor sees first under the wait lock
pub chooses : (v u : V) (first : Option ℕ) → u ≡ sighted saw_first v (task_code first) → SpinHolds v.spin → v.ext.list.changes ≡ false → OwesWake v → (n : ℕ) → n ≤ MAX_TASKS → IfSome first (λ t. t < n) → IsToWake u first
chooses v u first is has still owes n few small = to-wake first is small
  where
    duty : (code : ℕ) → u ≡ sighted saw_first v code → u.ext.wake.duty ≡ duty_of code
    duty code is = ap (λ (z : V). z.ext.wake.duty) is ∙ ((λ i. owing_at (holds_at-has i) (still i) v.hand.freed code (owes.owing i)) ∙ ap (λ (z : ℕ). choosing Owing z code) owes.flag)
      where
        holds_at-has : holds_in v.spin ≡ 1
        holds_at-has = ap holds_at has

    to-wake : (r : Option ℕ) → u ≡ sighted saw_first v (task_code r) → IfSome r (λ t. t < n) → IsToWake u r
    to-wake None is small = clear-none u (duty 0 is)
    to-wake (Some t) is small = (duty (t + 1) is ∙ duty-first (t + 1) t refl, omega (arith, small, few))

never-both : (b : Bool) (h : ℕ) → h ≡ 1 → (b && (h == 0)) ≡ false
never-both true h is = ap (λ (z : ℕ). z == 0) is
never-both false h is = refl

-- with the wait lock it doesn't see itself as the first waiter
pub looks-outside : (v u : V) (code : ℕ) → u ≡ sighted saw_first v code → SpinHolds v.spin → IsOutside v → IsOutside u
looks-outside v u code is has outside = subst IsOutside (sym is) record { out = outside.out; rests = outside.rests; still = outside.still; gone = outside.gone; unseen = never-both (is_code v.hand.task code) (holds_in v.spin) (ap holds_at has) }

-- a waiter that drowsed waits on
pub drowses-on : (v u : V) (word : ℕ) → u ≡ waked with_wake v (drowsing word v.ext.wake) → HasTried wait_state_of v → IsInLine v → IsInLine u
drowses-on v u word is tried listed = subst IsInLine (sym is) record { queued = listed.queued; rests = listed.rests; still = listed.still; clear = listed.clear; waits = waits-drowsing word v.ext.wake tried ∙ listed.waits }

pub drowses-count : (v u : V) (word : ℕ) (r : Bool) → u ≡ waked with_wake v (drowsing word v.ext.wake) → IsTrue r ↔ (word ≡ 0) → dozes_of u ≡ raised r (dozes_of v)
drowses-count v u word r is tells = ap dozes_of is ∙ counted word r tells
  where
    counted : (word : ℕ) (r : Bool) → IsTrue r ↔ (word ≡ 0) → dozed_at word v.ext.wake.dozes ≡ raised r v.ext.wake.dozes
    counted zero true t = refl
    counted zero false t = not-both false refl (t.1 refl)
    counted (suc n) true t = absurd (let z = t.0 refl in omega (arith, z))
    counted (suc n) false t = refl
