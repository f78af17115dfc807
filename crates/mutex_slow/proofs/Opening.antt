-- What word the step found by which a call took the mutex, and what the call counted on its CPU.
use Rattle.std.proofs.Common.{◌≡◌, ℕ, ◌+◌, ◌<◌, ◌≤◌, Bool, List, Option, sym, refl, ap, ◌∙◌, subst, arith}
use Rattle.std.specs.Prelude.{Result, Ok, Err, IfOk}
use Rattle.word_bits.specs.Objects.{Obj}
use Rattle.word_bits.specs.Histories.{Plan}
use Rattle.cpu_task.proofs.SleepCounts.{rises-on}
use Rattle.cpu_task.specs.CpuCounting.{Rises, SleepsInTurns}
use Rattle.lock_core.specs.SiteHandles.{SitsAt, MovesOn}
use Rattle.lock_core.specs.Pasts.{GoesOn, IsOwnStep}
use Rattle.lock_core.specs.Laws.SiteRun.{step-by}
use Rattle.lock_core.specs.Shown.{Shown, PastGoesOn, shown}
use Rattle.lock_core.proofs.Within.{found-within}
use Rattle.mutex_word.specs.OwnerTries.{CameTo, FindsOpen, IsOpen}
use Rattle.mutex_slow.specs.Mutexes.{V, owner_at, turned}
use Rattle.mutex_slow.specs.MutexPlaces.{CountsBy, GotInLine, TakesOpen, line_of, seen_of}
use Rattle.mutex_slow.specs.Types.{How, Fast, Spun, Slept, Pass, Site, Alone, Moment, Took, MutexHand}

-- the pass's last step found the word, and left the pass holding
pub takes-open : (v u : V) (p q : List Moment) (task : Option ℕ) → task ≡ v.hand.task → u.hand.task ≡ v.hand.task → u.hand.held ≡ Alone → v.steps < u.steps → IsOwnStep u q → GoesOn p q → FindsOpen owner_at task q → TakesOpen (shown line_of v.fronts v p) (shown line_of u.fronts u q)
takes-open v u p q task named same alone later own goes found = (u.steps, found.0, later, omega arith, (record { past = q; by = step-by u v.hand.task q same own; found = found.1; after = goes; goes_on = λ t e. e }, alone), subst (λ (t : Option ℕ). IsOpen t found.0) named found.2)

-- so it is of a try that took
pub took-open : {Call : Type 0} (o : Obj Call) (k : Plan) (asks counts : Bool) (v u : V) (p q : List Moment) (task : Option ℕ) → task ≡ v.hand.task → CameTo turned o k asks counts v u Took → IsOwnStep u q → GoesOn p q → FindsOpen owner_at task q → TakesOpen (shown line_of v.fronts v p) (shown line_of u.fronts u q)
took-open o k asks counts v u p q task named came own goes found = let is = came.2.3 in let steps = ap (λ (w : V). w.steps) is in let later = came.1 in
    takes-open v u p q task named (ap (λ (w : V). w.hand.task) is) (ap (λ (w : V). w.hand.held) is) (omega (arith, steps, later)) own goes found

-- what a part of a call took, the call took
pub opens-within : (v a b u : Shown) → a.hand.task ≡ v.hand.task → v.steps ≤ a.steps → PastGoesOn v a → TakesOpen a b → b.steps ≤ u.steps → PastGoesOn b u → TakesOpen v u
opens-within v a b u same steps before f more after = let later = f.2 in let by_now = f.3 in (f.0, f.1, omega (arith, later, steps), omega (arith, by_now, more), (found-within same before after f.4.0, f.4.1), subst (λ (t : Option ℕ). IsOpen t f.1) same f.5)

module _ {R O C : Type 0} (site : Site R O MutexHand C) where
  pub opens-behind : (v a u : Pass R O MutexHand C) → SitsAt site v → MovesOn site v a → TakesOpen (seen_of a) (seen_of u) → TakesOpen (seen_of v) (seen_of u)
  opens-behind v a u own on f = opens-within (seen_of v) (seen_of a) (seen_of u) (seen_of u) (sym on.own.task ∙ (on.task ∙ own.task)) on.steps on.goes_on f (omega arith) (λ p t. t)

  pub opens-before : (v b u : Pass R O MutexHand C) → TakesOpen (seen_of v) (seen_of b) → MovesOn site b u → TakesOpen (seen_of v) (seen_of u)
  opens-before v b u f on = opens-within (seen_of v) (seen_of v) (seen_of b) (seen_of u) refl (omega arith) (λ p t. t) f on.steps on.goes_on

-- what a call counted that came to the wait lock, by how it got the mutex there
pub counts-in-line : (how : How) (sleeps sleeps' rescheds asked rescheds' : ℕ) (v a w u : Shown) → GotInLine how a w → v.spin.entries ≡ a.spin.entries → SleepsInTurns (a.spin.entries + 1) u.spin.entries sleeps sleeps' → (how ≡ Spun → sleeps' ≡ sleeps) → rescheds ≤ asked → Rises rescheds asked → asked ≤ rescheds'
    → CountsBy how sleeps sleeps' rescheds rescheds' v u
counts-in-line Fast sleeps sleeps' rescheds asked rescheds' v a w u got same turns awake less rose more = absurd got
counts-in-line Spun sleeps sleeps' rescheds asked rescheds' v a w u got same turns awake less rose more = (awake refl, omega (arith, less, more), λ _. rises-on rescheds asked rescheds' rose more)
counts-in-line Slept sleeps sleeps' rescheds asked rescheds' v a w u got same turns awake less rose more = let is = turns.1 in ((turns.0, omega (arith, is, same), turns.2), omega (arith, less, more), rises-on rescheds asked rescheds' rose more)

pub ok-both : {A B : Type 0} (P Q S : A → Type 0) (r : Result A B) → ((a : A) → P a → Q a → S a) → IfOk r P → IfOk r Q → IfOk r S
ok-both P Q S (Ok a) both p q = both a p q
ok-both P Q S (Err b) both p q = tt

pub ok-map : {A B : Type 0} (P Q : A → Type 0) (r : Result A B) → ((a : A) → P a → Q a) → IfOk r P → IfOk r Q
ok-map P Q (Ok a) so p = so a p
ok-map P Q (Err b) so p = tt
