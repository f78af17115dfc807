-- What a mutex's words state, as callers of any lock see it.
use Rattle.std.proofs.Common.{◌≡◌, ◌≢◌, ◌∙◌, ℕ, zero, suc, ◌+◌, ◌/◌, ◌%◌, ◌==◌, ◌<◌, ◌≤◌, List, [], ◌∷◌, length, map, Option, Some, None, refl, sym, ap, subst, arith}
use Rattle.std.specs.Prelude.{slice_index_or}
use mathlib.Core.Logic.{dite}
use mathlib.Core.Option.{some, some-injective}
use lib.ListN.{get_elem?}
use native.Mathlib.Decide.{ℕ_discrete, dec_le}
use Rattle.word_bits.specs.OwnerWord.{task_code}
use Rattle.word_bits.specs.Objects.{Obj}
use Rattle.word_bits.specs.Histories.{Plan}
use Rattle.lock_core.specs.Kinds.{mutex}
use Rattle.lock_core.specs.Locked.{FlagStates, IsLockedThen, IsWaitLockFree, OwnerStates}
use Rattle.lock_core.specs.Pasts.{EachMoment}
use Rattle.mutex_word.specs.Holders.{IsHolder}
use Rattle.wait_list.specs.Lists.{counted}
use Rattle.mutex_slow.specs.Mutexes.{owner_at, owner_in}
use Rattle.mutex_slow.specs.MutexStated.{IsListed, IsMutexThen, StatesOwner, task_of, waits_on}
use Rattle.mutex_slow.specs.Types.{Hand, Moment, No, Alone, Waiter}

pub each-moment : (P Q : Moment → Type 0) → ((m : Moment) → P m → Q m) → (past : List Moment) → EachMoment P past → EachMoment Q past
each-moment P Q so [] e = tt
each-moment P Q so (m ∷ past) e = (so m e.0, each-moment P Q so past e.1)

named-by : (word : ℕ) (hs : List Hand) (task : Option ℕ) → word % 8 < 4 → word / 8 ≡ task_code task → IsHolder hs task → (j : ℕ) (g : Hand) → get_elem? hs j ≡ some g → g.held ≢ No → (g.held ≡ Alone) × (word % 8 < 4) × ((t : ℕ) × (g.task ≡ Some t) × (word / 8 ≡ t + 1))
named-by word hs None low is out j g at held = absurd (held (out j g at))
named-by word hs (Some task) low is holds j g at held = dite (ℕ_discrete j holds.0)
    (λ same. let it : g ≡ holds.1 = some-injective g holds.1 (sym at ∙ (ap (get_elem? hs) same ∙ holds.2)) in
    (ap {A = Hand} (λ h. h.held) it ∙ holds.3, low, (task, ap {A = Hand} (λ h. h.task) it ∙ holds.4, omega (arith, is))))
    (λ other. absurd (held (holds.5 j g other at)))

held-by : (word : ℕ) (hs : List Hand) (task : Option ℕ) → 8 ≤ word → word / 8 ≡ task_code task → IsHolder hs task → (i : ℕ) × (h : Hand) × (get_elem? hs i ≡ some h) × (h.held ≡ Alone)
held-by word hs None big is out = absurd (omega (arith, big, is))
held-by word hs (Some task) big is holds = (holds.0, holds.1, holds.2, holds.3)

owner-states : (word : ℕ) (free : Type 0) (l : List Waiter) (hs : List Hand) → StatesOwner word free l hs → OwnerStates word hs
owner-states word free l hs r = record {
  named = λ j g at held. elim (dec_le 4 (word % 8)) [
    | yes high ↦ absurd (held ((r.picked high).0 j g at))
    | no low ↦ let h = r.holder (omega (arith, low)) in named-by word hs h.0 (omega (arith, low)) h.1 h.2 j g at held
  ];
  held = λ big low. let h = r.holder low in held-by word hs h.0 big h.1 h.2;
}

some-waits : (l : List Waiter) → map task_of l ≡ [] → length l ≡ 0
some-waits [] e = refl
some-waits (w ∷ ws) e = absurd (let n = ap length e in omega (arith, n))

nobody-waits : (l : List Waiter) → length l ≡ 0 → map task_of l ≡ []
nobody-waits [] e = refl
nobody-waits (w ∷ ws) e = absurd (omega (arith, e))

waits-counted : (l : List Waiter) (t k : ℕ) → k < length (map task_of l) → slice_index_or (map task_of l) k t ≡ t → 0 < counted t l
waits-counted [] t k in_list is = absurd (omega (arith, in_list))
waits-counted (w ∷ ws) t zero in_list is = let b = Rattle.std.proofs.Common.eq-eqb w.task t is in let one : Rattle.lock_core.specs.Records.bit (w.task == t) ≡ 1 = ap Rattle.lock_core.specs.Records.bit b in omega (arith, one)
waits-counted (w ∷ ws) t (suc k) in_list is = let more = waits-counted ws t k (omega (arith, in_list)) is in omega (arith, more)

flag-states : (m : Moment) (l : List Waiter) → IsListed m l → FlagStates (owner_in m.words % 2) m.hands m.spins (map task_of l)
flag-states m l r = record {
  set = λ free flag none. let e = r.owner.unwaited free (some-waits l none) in absurd (omega (arith, e, flag));
  clear = λ free flag. nobody-waits l (elim (dec_le (length l) 0) [ yes none ↦ omega (arith, none) | no more ↦ absurd (flag (r.owner.waited free (omega (arith, more)))) ]);
  passes = λ free t waits. r.passes t (waits-counted l t waits.0 waits.1 waits.2);
}

pub mutex-locked : {Call : Type 0} (o : Obj Call) (size : ℕ) (k : Plan) (m : Moment) → IsMutexThen o size k m → IsLockedThen o mutex size k owner_at waits_on m
mutex-locked o size k m r = let l = r.1.0 in let is = r.1.1 in record {
  is_site = r.0;
  waiting = map task_of l;
  are = (l, is.sound, refl, is.states);
  states = (owner-states (owner_in m.words) (IsWaitLockFree m.spins) l m.hands is.owner, flag-states m l is);
}
