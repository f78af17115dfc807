-- A waiter that is interrupted leaves the list.
use Rattle.std.proofs.Common.{◌≡◌, ◌≢◌, ◌∙◌, ℕ, ◌+◌, ◌≤◌, ◌==◌, inl, inr, Bool, true, false, List, [], ◌∷◌, ◌++◌, length, Option, Some, None, sym, refl, ap, subst, arith, eq-eqb, ne_eqb, eqb-true, if◌then◌else◌}
use Rattle.std.proofs.lemmas.List.{append-nil}
use Rattle.lock_core.specs.Signals.{HasHeard, HearsOfBoth}
use Rattle.lock_core.specs.Records.{bit}
use Rattle.lock_core.specs.Shown.{PastGoesOn, Shown}
use Rattle.lock_core.specs.Views.{SpinHolds}
use Rattle.lock_core.proofs.Within.{since-within}
use Rattle.wait_list.specs.Lists.{AllowsChange, FindsFirst, IsList, Knows, Removes, first_code, first_of, list_part, waiter_code, without}
use Rattle.rwsem_wake.specs.Duties.{heard_locked_at, paid}
use Rattle.rwsem_wake.specs.SemParts.{apart_hand, some_of}
use Rattle.rwsem_wake.specs.Batches.{starts_with_reader}
use Rattle.rwsem_wake.specs.Grants.{OnlySem, ChangesTo, TurnsTo, summing, unmarked}
use Rattle.rwsem_wake.specs.GrantQueues.{MayLook, heard_locked, rested}
use Rattle.rwsem_wake.specs.RwSemViews.{V, leaves_wake, list_of, parted, parted_wake, sem_of, with_list, with_sem, with_wake}
use Rattle.rwsem_slow.specs.RwSems.{may_change}
use Rattle.rwsem_wake.specs.Removals.{KnowsList, StaysBeside}
use Rattle.rwsem_slow.specs.Queued.{Becomes, IsListed, Listens, LooksAt, Stays, waiting}
use Rattle.rwsem_slow.specs.Leaving.{HasLeft, IsUnmarked, MayLeave, SeesUngranted, WakesOn, gone_first, left_wake, ungranted}
use Rattle.rwsem_slow.specs.Types.{Hand, Interrupted, Leave, ListHand, Waiter, Clear, Absent, SemWake, SemHand, Armed, Emptied, Apart, Reads, Any}
use Rattle.rwsem_wake.specs.RwSemWakes.{HasChosenAll, IsAtRest, SawWriter, woken_of}
use Rattle.wait_list.proofs.Joining.{holds-one}
use Rattle.rwsem_wake.proofs.FirstLooks.{code-of}
use Rattle.rwsem_slow.proofs.WaitStates.{heard-same, attends-turns}
use Rattle.rwsem_slow.proofs.WriterSteps.{knows-same, removed-list, stays-turn}

-- two loads that told of its signals
pub listens-both : (v u : V) (why : Interrupted) → HearsOfBoth why v u → Listens v u
listens-both v u why now = now ∙ (λ i. record v { hand = record v.hand { heard = sym (ap (λ (z : V). z.hand.heard) now) i }; steps = sym (ap (λ (z : V). z.steps) now) i })

-- it still has heard of the signal where its hand is as it was
pub heard-on : (why : Interrupted) (h g : Hand) → g ≡ h → HasHeard why h → HasHeard why g
heard-on why h g same heard = record { pending = heard.pending; heard = ap (λ (z : Hand). z.heard) same ∙ heard.heard }

-- a reader that loaded its own grant word under the wait lock
pub sees-ungranted : (v u : V) (word : ℕ) → v.ext.sem ≡ waiting Reads → word ≢ 0 → ChangesTo with_sem with_wake v (heard_locked v.ext.sem word) (heard_locked_at word v.ext.wake) u → SeesUngranted v u
sees-ungranted v u word waits some_word attends = let turns = attends-turns v u (heard_locked v.ext.sem word) (heard_locked_at word v.ext.wake) (heard-same word v.ext.wake some_word) attends in let sem : heard_locked v.ext.sem word ≡ ungranted = ap (λ (b : Bool). if b then record v.ext.sem { wait = Apart } else record v.ext.sem { stage = Armed }) (ne_eqb word 0 some_word) ∙ ap (λ (s : SemHand). record s { stage = Armed }) waits in
    turns ∙ (λ i. record v { steps = sym (ap (λ (z : V). z.steps) turns) i; ext = with_sem v.ext (sem i) })

pub ungranted-leaves : (v u : V) → v.ext.list.changes ≡ false → IsListed v.ext.wake → SeesUngranted v u → MayLeave u
ungranted-leaves v u still listed sees = inr record { sem = ap (λ (z : V). z.ext.sem) sees; still = ap (λ (z : V). z.ext.list.changes) sees ∙ still; listed = subst IsListed (sym (ap (λ (z : V). z.ext.wake) sees)) listed }

-- who may leave, may still where what concerns the list and the semaphore is as it was
pub leaves-on : (v u : V) → u.ext.sem ≡ v.ext.sem → u.ext.list.changes ≡ v.ext.list.changes → u.ext.wake ≡ v.ext.wake → MayLeave v → MayLeave u
leaves-on v u sem changes wake may = elim may [
  | inl line ↦ inl record { waits = sem ∙ line.waits; still = changes ∙ line.still; listed = subst IsListed (sym wake) line.listed }
  | inr un ↦ inr record { sem = sem ∙ un.sem; still = changes ∙ un.still; listed = subst IsListed (sym wake) un.listed }
]

pub looks-leaves : (v u : V) → LooksAt v u → MayLeave v → MayLeave u
looks-leaves v u looks may = let sem : u.ext.sem ≡ v.ext.sem = ap (λ (z : V). z.ext.sem) looks.is in let wake : u.ext.wake ≡ v.ext.wake = ap (λ (z : V). z.ext.wake) looks.is in elim may [
  | inl line ↦ inl record { waits = sem ∙ line.waits; still = looks.list.still; listed = subst IsListed (sym wake) line.listed }
  | inr un ↦ inr record { sem = sem ∙ un.sem; still = looks.list.still; listed = subst IsListed (sym wake) un.listed }
]

-- it has no wake to do
pub leaves-listed : (v : V) → MayLeave v → IsListed v.ext.wake
leaves-listed v may = elim may [ inl line ↦ line.listed | inr un ↦ un.listed ]

-- what concerns the list of a pass that may leave
pub leaves-still : (v : V) → MayLeave v → v.ext.list.changes ≡ false
leaves-still v may = elim may [ inl line ↦ line.still | inr un ↦ un.still ]

leaves-clear : (v : V) → MayLeave v → v.ext.sem.bias ≡ Clear
leaves-clear v may = elim may [ inl line ↦ ap (λ (s : SemHand). s.bias) line.waits | inr un ↦ ap (λ (s : SemHand). s.bias) un.sem ]

-- who is first in the list
pub finds-code : (v u : V) (first : Option Waiter) → FindsFirst list_of with_list v first u → first_code u.ext.list.list ≡ waiter_code first
finds-code v u first f = ap (λ (z : V). first_code z.ext.list.list) f.view ∙ sym (ap waiter_code f.is ∙ code-of f.hand.list)

pub first-is : (v u : V) (w : Waiter) (task : ℕ) → FindsFirst list_of with_list v (Some w) u → (w.task == task) ≡ true → first_code u.ext.list.list ≡ task + 1
first-is v u w task f is = finds-code v u (Some w) f ∙ ap (λ (n : ℕ). n + 1) (eqb-true w.task task is)

pub first-isnt : (v u : V) (w : Waiter) (task : ℕ) → FindsFirst list_of with_list v (Some w) u → (w.task == task) ≡ false → first_code u.ext.list.list ≢ task + 1
first-isnt v u w task f isnt = λ e. let c : first_code u.ext.list.list ≡ w.task + 1 = finds-code v u (Some w) f in let same : w.task ≡ task = omega (arith, c, e) in absurd (let z = ap bit (sym (eq-eqb w.task task same) ∙ isnt) in omega (arith, z))

pub none-isnt : (v u : V) (task : ℕ) → FindsFirst list_of with_list v None u → first_code u.ext.list.list ≢ task + 1
none-isnt v u task f = λ e. let c : first_code u.ext.list.list ≡ 0 = finds-code v u None f in omega (arith, c, e)

-- its own mark goes
pub leaves-look : (v : V) (task : ℕ) → MayLeave v → KnowsList v → first_code v.ext.list.list ≡ task + 1 → MayLook list_of sem_of v task
leaves-look v task may list first = record {
  knows = record { knows = list.knows; first = first };
  stage = elim may [ inl line ↦ inl (ap (λ (s : SemHand). s.stage) line.waits) | inr un ↦ inr (ap (λ (s : SemHand). s.stage) un.sem) ];
}

module _ (v u : V) (task mark : ℕ) (turns : TurnsTo with_sem v (unmarked v.ext.sem mark) u) where
  pub unmarked-none : mark ≡ 0 → OnlySem with_sem v (summing v.ext.sem) u
  unmarked-none none = let sem : unmarked v.ext.sem mark ≡ summing v.ext.sem = ap (λ (b : Bool). if b then summing v.ext.sem else v.ext.sem) (eq-eqb mark 0 none) in
      turns ∙ (λ i. record v { steps = sym (ap (λ (z : V). z.steps) turns) i; ext = with_sem v.ext (sem i) })

  module _ (marked : mark ≢ 0) where
    looked : Stays v u
    looked = stays-turn v u (unmarked v.ext.sem mark) (ap (λ (b : Bool). if b then summing v.ext.sem else v.ext.sem) (ne_eqb mark 0 marked)) turns

    pub look-again : MayLook list_of sem_of v task → MayLook list_of sem_of u task
    look-again may = let same = ap (λ (z : V). z.ext.list) looked in let spin = ap (λ (z : V). z.spin) looked in let stage = ap (λ (z : V). z.ext.sem.stage) looked in record {
      knows = record { knows = subst Knows (λ i. (sym spin i, sym same i)) may.knows.knows; first = ap (λ (h : ListHand). first_code h.list) same ∙ may.knows.first };
      stage = elim may.stage [ inl rests ↦ inl (stage ∙ rests) | inr arms ↦ inr (stage ∙ arms) ];
    }

    pub unmarked-cleared : (w : V) → TurnsTo with_sem u (summing u.ext.sem) w → OnlySem with_sem v (summing v.ext.sem) w
    unmarked-cleared w more = more ∙ (λ i. record (looked i) { steps = sym (ap (λ (z : V). z.steps) more) i; ext = with_sem (looked i).ext (summing (looked i).ext.sem) })

-- then nobody is marked
module _ (v u : V) (only : OnlySem with_sem v (summing v.ext.sem) u) where
  pub unmarked-is : KnowsList v → MayLeave v → IsUnmarked u
  unmarked-is list may = let sem = ap (λ (z : V). z.ext.sem) only in record {
    sem = elim may [ inl line ↦ inr (sem ∙ ap summing line.waits) | inr un ↦ inl (sem ∙ ap summing un.sem) ];
    still = ap (λ (z : V). z.ext.list.changes) only ∙ list.still;
  }

  pub unmarked-list : KnowsList v → KnowsList u
  unmarked-list list = knows-same v u list (ap (λ (z : V). z.spin) only) (ap (λ (z : V). z.ext.list) only)

  pub unmarked-first : (n : ℕ) → first_code v.ext.list.list ≡ n → first_code u.ext.list.list ≡ n
  unmarked-first n first = ap (λ (z : V). first_code z.ext.list.list) only ∙ first

-- the host lets it leave as the first
pub first-allowed : (v : V) (t : ℕ) → IsUnmarked v → KnowsList v → v.hand.task ≡ Some t → first_code v.ext.list.list ≡ t + 1 → AllowsChange list_of may_change (Leave t) v
first-allowed v t un list task first = λ l same. inr (inl (
  (task, elim un.sem [ inl is ↦ ap (λ (s : SemHand). s.bias) is | inr is ↦ ap (λ (s : SemHand). s.bias) is ]),
  elim un.sem [ inl is ↦ ap (λ (s : SemHand). s.stage) is | inr is ↦ ap (λ (s : SemHand). s.stage) is ],
  elim un.sem [ inl is ↦ ap (λ (s : SemHand). s.rest) is | inr is ↦ ap (λ (s : SemHand). s.rest) is ],
  elim un.sem [ inl is ↦ inl (ap (λ (s : SemHand). s.wait) is) | inr is ↦ inr (ap (λ (s : SemHand). s.wait) is) ],
  ap first_code (same list.knows) ∙ first,
))

-- and behind it
pub behind-allowed : (v : V) (t : ℕ) → MayLeave v → KnowsList v → v.hand.task ≡ Some t → first_code v.ext.list.list ≢ t + 1 → AllowsChange list_of may_change (Leave t) v
behind-allowed v t may list task behind = λ l same. inr (inr (inl (
  (task, leaves-clear v may),
  (λ e. behind (sym (ap first_code (same list.knows)) ∙ e)),
  elim may [
    | inl line ↦ inr (ap (λ (s : SemHand). s.stage) line.waits, ap (λ (s : SemHand). s.wait) line.waits)
    | inr un ↦ inl (ap (λ (s : SemHand). s.stage) un.sem, ap (λ (s : SemHand). s.wait) un.sem)
  ],
)))

zero-more : (n : ℕ) → n ≡ n + 0
zero-more n = omega arith

-- it removed itself behind the first
pub removed-behind : (v u : V) (t : ℕ) → MayLeave v → SpinHolds v.spin → v.steps ≤ u.steps → Removes list_of with_list v t u → Becomes v 0 apart_hand (leaves_wake v.ext.wake.owing v.ext.wake) u
removed-behind v u t may locked later r = record {
  later = later;
  list = removed-list v u t locked r;
  is = r.view ∙ (λ i. record v { steps = u.steps; ext = record { list = sym (ap (λ (z : V). z.ext.list) r.view) i; sem = sem i; appends = zero-more v.ext.appends i; wake = wake i } });
}
  where
    wake : parted_wake v.ext.sem.stage v.ext.sem.wait t v.ext.wake ≡ leaves_wake v.ext.wake.owing v.ext.wake
    wake = elim may [ inl line ↦ ap (λ (s : SemHand). parted_wake s.stage s.wait t v.ext.wake) line.waits | inr un ↦ ap (λ (s : SemHand). parted_wake s.stage s.wait t v.ext.wake) un.sem ]

    sem : parted v.ext.sem.stage v.ext.sem.wait t (length r.hand.list) v.ext.sem ≡ apart_hand
    sem = elim may [ inl line ↦ ap (λ (s : SemHand). parted s.stage s.wait t (length r.hand.list) s) line.waits | inr un ↦ ap (λ (s : SemHand). parted s.stage s.wait t (length r.hand.list) s) un.sem ]

none-long : (q : List Waiter) → None ≡ first_of q → length q ≡ 0
none-long [] e = refl
none-long (x ∷ q) e = absurd cc

some-long : (q : List Waiter) (w : Waiter) → Some w ≡ first_of q → length q ≢ 0
some-long [] w e = absurd cc
some-long (x ∷ q) w e = λ z. omega (arith, z)

-- it removed itself as the first, and looked who is
module _ (v u w : V) (t : ℕ) (un : IsUnmarked v) (locked : SpinHolds v.spin) (later : v.steps ≤ u.steps) (r : Removes list_of with_list v t u) (first : Option Waiter) (more : u.steps ≤ w.steps) (f : FindsFirst list_of with_list u first w) where
  mine : list_part list_of u ≡ (v.spin, r.hand)
  mine = λ i. ((r.view i).spin, (r.view i).ext.list)

  same : f.hand ≡ r.hand
  same = f.learnt.same (subst Knows (sym mine) (holds-one v locked, r.since)) ∙ ap (λ p. p.1) mine

  whole : w ≡ record v { steps = w.steps; ext = with_list (Leave t) v r.hand }
  whole = f.view ∙ (λ i. record (r.view i) { steps = w.steps; ext = record (r.view i).ext { list = same i } })

  knows : KnowsList w
  knows = let spin = ap (λ (z : V). z.spin) whole in let list = ap (λ (z : V). z.ext.list) whole in record {
    knows = subst Knows (λ i. (sym spin i, sym list i)) (holds-one v locked, r.since);
    still = ap (λ (h : ListHand). h.changes) list ∙ r.still;
    sound = subst IsList (sym (ap (λ (z : V). z.ext.list.list) f.view)) f.learnt.sound;
  }

  sem-at : (empty : Bool) → (length r.hand.list == 0) ≡ empty → parted v.ext.sem.stage v.ext.sem.wait t (length r.hand.list) v.ext.sem ≡ gone_first empty
  sem-at empty long = let here : parted v.ext.sem.stage v.ext.sem.wait t (length r.hand.list) v.ext.sem ≡ gone_first (length r.hand.list == 0) = elim un.sem [ inl is ↦ ap (λ (s : SemHand). parted s.stage s.wait t (length r.hand.list) s) is | inr is ↦ ap (λ (s : SemHand). parted s.stage s.wait t (length r.hand.list) s) is ] in
      here ∙ ap gone_first long

  wake-at : parted_wake v.ext.sem.stage v.ext.sem.wait t v.ext.wake ≡ leaves_wake true v.ext.wake
  wake-at = elim un.sem [ inl is ↦ ap (λ (s : SemHand). parted_wake s.stage s.wait t v.ext.wake) is | inr is ↦ ap (λ (s : SemHand). parted_wake s.stage s.wait t v.ext.wake) is ]

  becomes-at : (empty : Bool) → (length r.hand.list == 0) ≡ empty → Becomes v 0 (gone_first empty) (leaves_wake true v.ext.wake) w
  becomes-at empty long = record {
    later = omega (arith, later, more);
    list = knows;
    is = whole ∙ (λ i. record v { steps = w.steps; ext = record { list = sym (ap (λ (z : V). z.ext.list) whole) i; sem = sem-at empty long i; appends = zero-more v.ext.appends i; wake = wake-at i } });
  }

  lengths : length f.hand.list ≡ length r.hand.list
  lengths = ap (λ (h : ListHand). length h.list) same

  pub removed-none : first ≡ None → Becomes v 0 (gone_first true) (leaves_wake true v.ext.wake) w
  removed-none none = let z = none-long f.hand.list (sym none ∙ f.is) in becomes-at true (eq-eqb (length r.hand.list) 0 (sym lengths ∙ z))

  -- those behind it wait on
  pub left-without : KnowsList v → w.ext.list.list ≡ without t v.ext.list.list
  left-without list = ap (λ (z : V). z.ext.list.list) whole ∙ (r.now ∙ ap (without t) (r.before list.knows))

  pub none-left : first ≡ None → bit true + some_of w.ext.list.list ≡ 1
  none-left none = ap (λ (z : V). 1 + some_of z.ext.list.list) f.view ∙ go f.hand.list (sym none ∙ f.is)
    where
      go : (q : List Waiter) → None ≡ first_of q → 1 + some_of q ≡ 1
      go [] e = refl
      go (x ∷ q) e = absurd cc

  pub some-left : (x : Waiter) → first ≡ Some x → bit false + some_of w.ext.list.list ≡ 1
  some-left x is = ap (λ (z : V). 0 + some_of z.ext.list.list) f.view ∙ go f.hand.list (sym is ∙ f.is)
    where
      go : (q : List Waiter) → Some x ≡ first_of q → 0 + some_of q ≡ 1
      go [] e = absurd cc
      go (y ∷ q) e = refl

  pub removed-some : (x : Waiter) → first ≡ Some x → Becomes v 0 (gone_first false) (leaves_wake true v.ext.wake) w
  removed-some x is = let z = some-long f.hand.list x (sym is ∙ f.is) in becomes-at false (ne_eqb (length r.hand.list) 0 (λ e. z (lengths ∙ e)))

-- what becomes of the pass then
pub gone-sem : (v u : V) (n : ℕ) (s : SemHand) (b : SemWake) → Becomes v n s b u → u.ext.sem ≡ s
gone-sem v u n s b becomes = ap (λ (z : V). z.ext.sem) becomes.is

-- what it chose is what it had, where that is nobody
none-more : (tasks : List ℕ) (b : SemWake) → tasks ≡ [] → b.chosen ≡ b.chosen ++ tasks
none-more tasks b none = sym (append-nil b.chosen) ∙ ap (λ (z : List ℕ). b.chosen ++ z) (sym none)

-- all but its part of the list and the semaphore is as it was
pub left-becomes : (tasks : List ℕ) (v u : V) → tasks ≡ [] → v.ext.wake.owing ≡ false → Becomes v 0 apart_hand (leaves_wake v.ext.wake.owing v.ext.wake) u → HasLeft tasks v u
left-becomes tasks v u none clear b = record {
  later = b.later;
  apart = gone-sem v u 0 apart_hand (leaves_wake v.ext.wake.owing v.ext.wake) b;
  still = b.list.still;
  wake = ap (λ (z : V). z.ext.wake) b.is ∙ (λ i. record v.ext.wake { owing = clear i; chosen = none-more tasks v.ext.wake none i; wait_state = Absent });
  hand = ap (λ (z : V). z.hand) b.is;
  spin = ap (λ (z : V). z.spin) b.is;
  fronts = ap (λ (z : V). z.fronts) b.is;
  appends = (let e = ap (λ (z : V). z.ext.appends) b.is in omega (arith, e));
}

pub left-since : (tasks : List ℕ) (v u x : V) → u.hand ≡ v.hand → u.spin ≡ v.spin → u.fronts ≡ v.fronts → u.ext.appends ≡ v.ext.appends → left_wake tasks u.ext.wake ≡ left_wake tasks v.ext.wake → v.steps ≤ u.steps → HasLeft tasks u x → HasLeft tasks v x
left-since tasks v u x hand spin fronts appends wake later left = record {
  later = (let l = left.later in omega (arith, l, later));
  apart = left.apart;
  still = left.still;
  wake = left.wake ∙ wake;
  hand = left.hand ∙ hand;
  spin = left.spin ∙ spin;
  fronts = left.fronts ∙ fronts;
  appends = left.appends ∙ appends;
}

pub left-looked : (tasks : List ℕ) (v u x : V) → LooksAt v u → HasLeft tasks u x → HasLeft tasks v x
left-looked tasks v u x looks left = left-since tasks v u x (ap (λ (z : V). z.hand) looks.is) (ap (λ (z : V). z.spin) looks.is) (ap (λ (z : V). z.fronts) looks.is) (ap (λ (z : V). z.ext.appends) looks.is) (ap (λ (z : V). left_wake tasks z.ext.wake) looks.is) looks.later left

-- as the first: it cleared its mark, and removed itself
module _ (tasks : List ℕ) (v u w : V) (s : SemHand) (only : OnlySem with_sem v s u) (before : v.steps ≤ u.steps) (empty : Bool) (gone : Becomes u 0 (gone_first empty) (leaves_wake true u.ext.wake) w) where
  since : (x : V) → HasLeft tasks w x → HasLeft tasks v x
  since x left = left-since tasks v w x (ap (λ (z : V). z.hand) gone.is ∙ ap (λ (z : V). z.hand) only) (ap (λ (z : V). z.spin) gone.is ∙ ap (λ (z : V). z.spin) only) (ap (λ (z : V). z.fronts) gone.is ∙ ap (λ (z : V). z.fronts) only)
      (let e = ap (λ (z : V). z.ext.appends) gone.is in let d = ap (λ (z : V). z.ext.appends) only in omega (arith, e, d)) (ap (λ (z : V). left_wake tasks z.ext.wake) gone.is ∙ ap (λ (z : V). left_wake tasks z.ext.wake) only) (let l = gone.later in omega (arith, l, before)) left

  absent : w.ext.wake.wait_state ≡ Absent
  absent = ap (λ (z : V). z.ext.wake.wait_state) gone.is

  -- it was alone
  pub empty-stage : empty ≡ true → w.ext.sem ≡ record apart_hand { stage = Emptied }
  empty-stage is = gone-sem u w 0 (gone_first empty) (leaves_wake true u.ext.wake) gone ∙ ap gone_first is

  pub left-empty : (x : V) → empty ≡ true → tasks ≡ [] → ChangesTo with_sem with_wake w (rested w.ext.sem) (paid w.ext.wake) x → HasLeft tasks v x
  left-empty x is none turns = since x record {
    later = (let n = ap (λ (z : V). z.steps) turns in omega (arith, n));
    apart = ap (λ (z : V). z.ext.sem) turns ∙ ap rested (empty-stage is);
    still = ap (λ (z : V). z.ext.list.changes) turns ∙ gone.list.still;
    wake = ap (λ (z : V). z.ext.wake) turns ∙ (λ i. record w.ext.wake { owing = false; chosen = none-more tasks w.ext.wake none i; wait_state = absent i });
    hand = ap (λ (z : V). z.hand) turns;
    spin = ap (λ (z : V). z.spin) turns;
    fronts = ap (λ (z : V). z.fronts) turns;
    appends = ap (λ (z : V). z.ext.appends) turns;
  }

  -- others wait on
  pub others-sem : empty ≡ false → w.ext.sem ≡ apart_hand
  others-sem is = gone-sem u w 0 (gone_first empty) (leaves_wake true u.ext.wake) gone ∙ ap gone_first is

  pub others-rest : empty ≡ false → IsAtRest w
  others-rest is = let sem = others-sem is in record { stage = ap (λ (z : SemHand). z.stage) sem; clear = ap (λ (z : SemHand). z.bias) sem; none = ap (λ (z : SemHand). z.rest) sem; still = gone.list.still }

  pub left-others : (x : V) → empty ≡ false → StaysBeside w x → IsAtRest x → HasChosenAll tasks w x → HasLeft tasks v x
  left-others x is beside rests chosen = since x record {
    later = beside.later;
    apart = λ i. record { wait = (beside.wait ∙ ap (λ (z : SemHand). z.wait) (others-sem is)) i; bias = rests.clear i; stage = rests.stage i; rest = rests.none i };
    still = rests.still;
    wake = chosen.chose ∙ (λ i. record w.ext.wake { owing = chosen.clear i; chosen = w.ext.wake.chosen ++ tasks; wait_state = absent i });
    hand = beside.hand;
    spin = beside.spin;
    fronts = beside.fronts;
    appends = beside.appends;
  }

-- whom it wakes then: nobody where nobody waits on
nobody-is : (q : List Waiter) → bit true + some_of q ≡ 1 → q ≡ []
nobody-is [] e = refl
nobody-is (x ∷ q) e = absurd (omega (arith, e))

pub wakes-nobody : (q rest : List Waiter) (woken : List ℕ) (v u : Shown) → bit true + some_of q ≡ 1 → q ≡ rest → woken ≡ [] → WakesOn rest woken v u
wakes-nobody q rest woken v u none same empty = let is : rest ≡ [] = sym same ∙ nobody-is q none in record {
  written = false;
  saw = λ starts. absurd (let a = ap (λ (z : List Waiter). bit (starts_with_reader z)) is in let b = ap bit starts in omega (arith, a, b));
  woken_are = empty ∙ sym (ap (woken_of Any false) is);
}

-- and whom its wake woke else
pub wakes-others : (was rest : List Waiter) (woken : List ℕ) (written : Bool) (v a u : Shown) → was ≡ rest → (starts_with_reader was ≡ true → SawWriter written a u) → woken ≡ woken_of Any written was → a.hand.task ≡ v.hand.task → v.steps ≤ a.steps → PastGoesOn v a → WakesOn rest woken v u
wakes-others was rest woken written v a u same saw are named steps before = record {
  written = written;
  saw = λ starts. let s = saw (ap starts_with_reader same ∙ starts) in (s.0, since-within v a u u named steps before s.1 (omega arith) (λ p e. e), s.2);
  woken_are = are ∙ ap (woken_of Any written) same;
}
