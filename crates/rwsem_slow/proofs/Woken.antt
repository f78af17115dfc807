-- Whom a part of a call wakes, the call wakes.
use Rattle.std.proofs.Common.{◌≡◌, ◌∙◌, ℕ, ◌≤◌, List, arith, length, refl, sym, ap}
use Rattle.cpu_task.specs.CpuCounting.{slept}
use Rattle.lock_core.specs.Shown.{PastGoesOn, Shown}
use Rattle.lock_core.proofs.Within.{counting, since-within}
use Rattle.rwsem_slow.specs.Leaving.{WakesOn}
use Rattle.rwsem_slow.specs.Waking.{WakesIf, WakesLeft, WakesOf, WakesWaiting, behind}
use Rattle.rwsem_slow.specs.Releasing.{TurnsHold}
use Rattle.rwsem_slow.specs.Types.{Held, Tally, Waiter, WakeType}

pub of-within : (kind : WakeType) (woken : List ℕ) (v a b u : Shown) → a.hand.task ≡ v.hand.task → v.steps ≤ a.steps → PastGoesOn v a → WakesOf kind woken a b → b.steps ≤ u.steps → PastGoesOn b u → WakesOf kind woken v u
of-within kind woken v a b u same steps before w more after = record {
  was = w.was;
  first = since-within v a b u same steps before w.first more after;
  written = w.written;
  owned = w.owned;
  saw = λ other reads. let s = w.saw other reads in (s.0, since-within v a b u same steps before s.1 more after, s.2);
  woken_are = w.woken_are;
}

pub wakes-within : (kind : WakeType) (v a b u : Shown) (m m' n : ℕ) → m' ≡ m → a.hand.task ≡ v.hand.task → v.steps ≤ a.steps → PastGoesOn v a → WakesWaiting kind m' n a b → b.steps ≤ u.steps → PastGoesOn b u → WakesWaiting kind m n v u
wakes-within kind v a b u m m' n is same steps before w more after = record {
  woken = w.woken;
  wakes_of = of-within kind w.woken v a b u same steps before w.wakes_of more after;
  set = w.set ∙ ap (slept (length w.woken)) is;
}

-- The count that a release left asked for a wake, and a part of the call behind the step that turned the hold wakes so; or it didn't.
pub wakes-asked : (asks : ℕ → Type 0) (held : Held) (kind : WakeType) (m k n : ℕ) (v b u : Shown) → asks u.hand.freed → TurnsHold held k n v u → b.hand.task ≡ v.hand.task → k ≤ b.steps → PastGoesOn v b → (m' : ℕ) → WakesWaiting kind m m' b u → WakesIf asks held kind m m' v u
wakes-asked asks held kind m k n v b u asked turns same steps before m' w = record { woken = λ _. (k, n, turns, wakes-within kind (behind k v) b u u m m m' refl same steps before w (omega arith) (λ p t. t)); spared = λ not. absurd (not asked) }

pub wakes-spared : (asks : ℕ → Type 0) (held : Held) (kind : WakeType) (m n : ℕ) (v u : Shown) → (asks u.hand.freed → ⊥) → n ≡ m → WakesIf asks held kind m n v u
wakes-spared asks held kind m n v u unasked same = record { woken = λ asked. absurd (unasked asked); spared = λ _. same }

-- what a site's pass shows beyond its queue and its tally, the call's pass shows
pub wakes-counting : (asks : ℕ → Type 0) (held : Held) (kind : WakeType) (m n : ℕ) (v u : Shown) (f f' s s' : ℕ) (t t' : Tally) → WakesIf asks held kind m n v u → WakesIf asks held kind m n (counting f s t v) (counting f' s' t' u)
wakes-counting asks held kind m n v u f f' s s' t t' w = record {
  woken = λ asked. let k = w.woken asked in (k.0, k.1, k.2, wakes-within kind (behind k.0 (counting f s t v)) (behind k.0 v) u (counting f' s' t' u) m m n refl refl (omega arith) (λ p t. t) k.3 (omega arith) (λ p t. t));
  spared = w.spared;
}

pub on-within : (rest : List Waiter) (woken : List ℕ) (v a b u : Shown) → a.hand.task ≡ v.hand.task → v.steps ≤ a.steps → PastGoesOn v a → WakesOn rest woken a b → b.steps ≤ u.steps → PastGoesOn b u → WakesOn rest woken v u
on-within rest woken v a b u same steps before w more after = record {
  written = w.written;
  saw = λ reads. let s = w.saw reads in (s.0, since-within v a b u same steps before s.1 more after, s.2);
  woken_are = w.woken_are;
}

pub left-within : (woken : List ℕ) (v a b u : Shown) → a.hand.task ≡ v.hand.task → v.steps ≤ a.steps → PastGoesOn v a → WakesLeft woken a b → b.steps ≤ u.steps → PastGoesOn b u → WakesLeft woken v u
left-within woken v a b u same steps before w more after = record {
  task = w.task;
  mine = sym same ∙ w.mine;
  was = w.was;
  first = since-within v a b u same steps before w.first more after;
  next = λ is. since-within v a b u same steps before (w.next is) more after;
  others = λ is. on-within _ woken v a b u same steps before (w.others is) more after;
  nobody = w.nobody;
}
