-- The laws of the rule of a mutex.
use Rattle.std.proofs.Common.{◌≡◌, ◌≢◌, ℕ, zero, suc, ◌+◌, ◌*◌, ◌/◌, ◌%◌, ◌<◌, ◌≤◌, ◌==◌, ◌&&◌, ◌⊎◌, inl, inr, Bool, true, false, List, [], ◌∷◌, ◌++◌, length, map, get_or, set, Option, Some, None}
use Rattle.std.proofs.Common.{sym, refl, ap, ◌∙◌, subst, arith, ⊎_elim, length-set, get_or-set_same, get_or-set_other, ne_eqb}
use Rattle.std.proofs.lemmas.List.{drop-set-lt}
use mathlib.Core.Option.{some, some-injective, some-ne-none}
use mathlib.Core.Logic.{dite}
use native.Mathlib.Decide.{ℕ_discrete}
use lib.ListN.{get_elem?}
use Rattle.atomic_table.proofs.Lists.{at_map, set_else}
use Rattle.word_bits.specs.declared.TheConstants.{MAX_TASKS}
use Rattle.word_bits.specs.LockWords.{owned}
use Rattle.word_bits.specs.Objects.{Obj}
use Rattle.word_bits.specs.Histories.{Plan}
use Rattle.lock_core.specs.declared.layout.TheConstants.{LOCK_WORDS, SPIN_WORDS}
use Rattle.lock_core.specs.Records.{bit}
use Rattle.lock_core.specs.Stores.{HasWord}
use Rattle.lock_core.specs.Layout.{SiteWords, fresh, site, lay, width}
use Rattle.lock_core.specs.Views.{SpinHolds, SpinRests, SpinStays, hand_of, spin_part, part_with, no_part, held_of, handed, seated, ticked, first, split_off, merged, spent, stranger, named_of}
use Rattle.lock_core.specs.Views.{is_number, HoldsNothing, held_weight}
use Rattle.lock_core.specs.Sites.{HandGoes, HoldGoes, SiteKept}
use Rattle.lock_core.specs.Moves.{Goes, KeepsHold, SiteMove, TriesWhere}
use Rattle.lock_core.specs.Laws.Move.{hand-stays, saw-stays, tries-go, set-moves, hold-moved, spin-moved}
use Rattle.lock_core.specs.SpinFrames.{when, holds_at, holds_of}
use Rattle.lock_core.specs.Spins.{SpinKept, SpinGoes, SpinFrees, SpinMoves, spun, holds_in, frame_of}
use Rattle.lock_core.specs.Laws.Spin.{spin-same, spin-renames, spin-comes, spin-ends, spin-opens}
use Rattle.lock_core.specs.Totals.{total, total-set, total-at, total-two}
use Rattle.lock_core.specs.ViewParts.{at_unmap, keep_part, set_part, set-there, snoc_part}
use Rattle.lock_core.specs.Regions.{part-in, part-above, part-below, part-at, wide-part}
use Rattle.lock_core.proofs.HandLaws.{held-none, not-both, false-or-true, is_number-here, number-or-not, is_number-else}
use Rattle.mutex_word.specs.declared.host.Turn.TheVariants.{Hand as HandOn}
use Rattle.mutex_word.specs.Holders.{KeepsLeft, OwnKept, IsTurn, turns}
use Rattle.mutex_word.specs.Laws.Own.{Named, no-holders, own-frees, own-stays, own-strangers, own-opens, held-word}
use Rattle.wait_list.specs.declared.words.TheConstants.{LIST_WORDS}
use Rattle.wait_list.specs.Lists.{Part, ListKept, MadeBy, Knows, Lists, LeaverGoes, Allowed, changed, list_part, listed, sighted, first_code, changes_of, takes_of, counted}
use Rattle.wait_list.proofs.Walks.{head-is}
use Rattle.wait_list.specs.Laws.List.{none-change, list-spins, list-keeps, list-leaves, list-strangers, list-opens, list-known}
use Rattle.wake_duty.specs.DutyWakes.{WAKE_WORDS, WakeKept, IsQuiet, Sets, Drowses, wake_word, with_hand, waked, duty_of, waits, setting, drowsing}
use Rattle.wake_duty.specs.Laws.Wake.{wake-opens, wake-snoc, wake-quiet, wake-sets, wake-drowses, waits-looking, waits-drowsing, wait_state-looking}
use Rattle.wake_duty.specs.WakeSteps.{HasTried, knowing}
use Rattle.mutex_slow.specs.Laws.Duty.{wparted, some-of, same-holders, duty-stays, duty-renames, duty-spins, duty-fails, duty-takes, duty-frees, duty-hands, duty-enters, duty-leaves, duty-looks}
use Rattle.mutex_slow.specs.Laws.Standing.{StandingGoes, chosen-code, chosen-debt, goes-clear, goes-drowses, goes-fails, free-holds, goes-looks, goes-same, goes-sets, goes-wait_state, same-holds}
use Rattle.mutex_slow.specs.Mutexes.{V, HasLock, HasChosen, after_set, after_swap, wait_state_of, with_wake, wake_words, wakes_at, idle, list_of, IsOut, Coupled, MutexKept, Kept, Leaves}
use Rattle.mutex_slow.specs.Mutexes.{LeavesToFirst, PicksFirst, Asks, HasHandoff, IsFirstTask, AnswersHandoff, TookUp, IsOwnChange, IsUnpicked, MutexMoves, entered, owner_at, list_at, spin_words}
use Rattle.mutex_slow.specs.Mutexes.{owner_in, list_words, may_free, may_miss, rests, may_own, turned, with_list, may_change, is_code, saw_first, queued_of}
use Rattle.mutex_slow.specs.Laws.Coupled.{Apart, coupled-stays, coupled-hands, coupled-seats, coupled-spins, coupled-fails, coupled-takes-free, coupled-takes-picked, coupled-asks, coupled-frees}
use Rattle.mutex_slow.specs.Laws.Coupled.{coupled-hands-over, coupled-flags, coupled-clears, coupled-enters, coupled-leaves, coupled-opens, coupled-snoc, idle-ok, flagged, not-in, is-in, locked-free}
use Rattle.mutex_slow.specs.Types.{Hand, SpinHand, No, Alone, Turn, Fail, Take, Ask, Free, Flag, Clear, Waiter, Change, Stay, Enter, Leave, ListHand, Absent, Awake, Tried, NoDuty, Owing, WakeHand}

pub spin-inside : 0 + SPIN_WORDS ≤ LOCK_WORDS
spin-inside = omega arith

pub own-inside : owner_at < LOCK_WORDS
own-inside = omega arith

pub own-there : (tasks : ℕ) → HasWord tasks owner_at
own-there tasks = record {
  spin = λ _. omega arith;
  first = λ m. absurd (omega (arith, m));
  second = λ m. absurd (omega (arith, m));
  third = λ m. absurd (omega (arith, m));
  fourth =
      λ m. absurd (omega (arith, m));
}

pub list-room : (SPIN_WORDS ≤ list_at) × (list_at + 8 ≤ SPIN_WORDS + 64)
list-room = (omega arith, omega arith)

pub list-inside : list_at + LIST_WORDS ≤ LOCK_WORDS
list-inside = omega arith

pub wake-inside : wakes_at + WAKE_WORDS ≤ LOCK_WORDS
wake-inside = omega arith

abbrev parted : V → Part
parted v = list_part list_of v

pub turned-list : (t : Turn) (v : V) → (turned t v).list ≡ v.ext.list
turned-list Fail v = refl
turned-list Take v = refl
turned-list Ask v = refl
turned-list Free v = refl
turned-list HandOn v = refl
turned-list Flag v = refl
turned-list Clear v = refl

turned-appends : (t : Turn) (v : V) → (turned t v).appends ≡ v.ext.appends
turned-appends Fail v = refl
turned-appends Take v = refl
turned-appends Ask v = refl
turned-appends Free v = refl
turned-appends HandOn v = refl
turned-appends Flag v = refl
turned-appends Clear v = refl

list-appends : (c : Change) (v : V) (b : ListHand) → (with_list c v b).appends ≡ v.ext.appends + entered c
list-appends Stay v b = omega arith
list-appends (Enter w) v b = refl
list-appends (Leave t) v b = omega arith

pub list-back : (c : Change) (v : V) (b : ListHand) → list_of (with_list c v b) ≡ b
list-back Stay v b = refl
list-back (Enter w) v b = refl
list-back (Leave t) v b = refl

pub list-same : (v : V) → with_list Stay v (list_of v.ext) ≡ v.ext
list-same v = refl

pub list-over : (c : Change) (v : V) (n : ℕ) (b d : ListHand) → with_list c (record v { steps = n; ext = with_list Stay v b }) d ≡ with_list c v d
list-over Stay v n b d = refl
list-over (Enter w) v n b d = refl
list-over (Leave t) v n b d = refl

pub list-again : (c : Change) (v : V) (n : ℕ) (b d : ListHand) → d.list ≡ b.list → with_list Stay (record v { steps = n; ext = with_list c v b }) d ≡ with_list c v d
list-again Stay v n b d e = refl
list-again (Enter w) v n b d e = λ i. record (with_list (Enter w) v d) { point = (with_list (Enter w) v (record d { list = sym e i })).point }
list-again (Leave t) v n b d e = λ i. record (with_list (Leave t) v d) { point = (with_list (Leave t) v (record d { list = sym e i })).point }

pub may-stay : (v : V) (l : List Waiter) → may_change Stay v l
may-stay v l = tt

pub may-on : (c : Change) (v : V) (b : ListHand) (l : List Waiter) → may_change c v l → may_change c (listed with_list Stay v b) l
may-on Stay v b l m = m
may-on (Enter w) v b l m = m
may-on (Leave t) v b l m = m

-- a failed try that is counted is of a pass outside the list
misses-outside : (v : V) (h : Hand) (word : ℕ) → TriesWhere may_miss word v h → h.misses ≢ v.hand.misses → may_miss v
misses-outside v h word tries more = elim tries [ inl kept ↦ absurd (more kept.0) | inr failed ↦ failed.1 ]

-- a place of a list stays where one stands behind it
still-there : (vs : List V) (x v : V) (j : ℕ) → get_elem? vs j ≡ some v → get_elem? (vs ++ x ∷ []) j ≡ some v
still-there [] x v j at = absurd (some-ne-none v (sym at))
still-there (y ∷ vs) x v zero at = at
still-there (y ∷ vs) x v (suc j) at = still-there vs x v j at

module _ {Call : Type 0} (o : Obj Call) (size : ℕ) where
  abbrev Queue : Plan → List ℕ → List V → List Waiter → Type 0
  Queue = MutexKept o size

  abbrev Site : Plan → List ℕ → List Hand → Type 0
  Site k ws hs = SiteKept o owned size k (site k ws) hs

  abbrev Go : Plan → ℕ → List ℕ → List V → List ℕ → List V → Type 0
  Go k = Goes (Kept o size k) (MutexMoves k)

  pub mutex-site : (k : Plan) (ws : List ℕ) (vs : List V) → Kept o size k ws vs → Site k ws (map hand_of vs)
  mutex-site k ws vs r = r.1.site_holds

  pub mutex-spin : (k : Plan) (ws : List ℕ) (vs : List V) → Kept o size k ws vs → SpinKept (spin_words ws) (map spin_part vs)
  mutex-spin k ws vs r = r.1.spin

  pub mutex-own : (k : Plan) (ws : List ℕ) (vs : List V) → Kept o size k ws vs → OwnKept (owner_in ws) (map hand_of vs) × Unit {0}
  mutex-own k ws vs r = (r.1.own, tt)

  pub mutex-list : (k : Plan) (ws : List ℕ) (vs : List V) (l : List Waiter) → Queue k ws vs l → ListKept (list_words ws) l (map (list_part list_of) vs)
  mutex-list k ws vs l r = r.list

  pub mutex-queued : (k : Plan) (ws : List ℕ) (vs : List V) → Kept o size k ws vs → (l : List Waiter) × Queue k ws vs l
  mutex-queued k ws vs r = r

  -- a pass that counts for a task has its number
  counts-number : (t : ℕ) (task : Option ℕ) (b : Bool) → 0 < when b (is_number t task) → task ≡ Some t
  counts-number t task false l = absurd (omega (arith, l))
  counts-number t None true l = absurd (omega (arith, l))
  counts-number t (Some u) true l = dite (ℕ_discrete u t) (λ is. ap Some is) (λ other. let e = is_number-else t u other in absurd (omega (arith, l, e)))

  -- who waits is a task of the plan
  pub mutex-few : (k : Plan) (ws : List ℕ) (vs : List V) (l : List Waiter) (t : ℕ) → Queue k ws vs l → 0 < counted t l → t < length k
  mutex-few k ws vs l t r there = let places = r.coupled.places t in let s = some-of (queued_of t) vs (omega (arith, places, there)) in let v : V = s.1 in
      ((r.site_holds.each s.0 v.hand (at_map hand_of vs s.0 v s.2)).mine t (counts-number t v.hand.task v.ext.queued s.3)).0

  named : (k : Plan) (ws : List ℕ) (hs : List Hand) → Site k ws hs → Named hs
  named k ws hs r j h at out = ((r.each j h at).nameless out).0

  -- a list whose first code isn't 0 has a waiter
  some-waits : (l : List Waiter) → first_code l ≢ 0 → 0 < length l
  some-waits [] names = absurd (names refl)
  some-waits (w ∷ l) names = omega arith

  takes-total : (vs : List V) → total takes_of (map parted vs) ≡ total holds_of (map frame_of (map spin_part vs))
  takes-total [] = refl
  takes-total (v ∷ vs) = ap (λ (z : ℕ). holds_in v.spin + z) (takes-total vs)

  module _ (k : Plan) (ws : List ℕ) (vs : List V) (l : List Waiter) (id : ℕ) (v : V) (r : Queue k ws vs l) (at : get_elem? vs id ≡ some v) where
    one-takes : total takes_of (map parted vs) ≤ 1
    one-takes = let b = r.spin.1.lock.balanced.comes in let t = takes-total vs in omega (arith, b, t)

    small : (t : ℕ) → v.hand.task ≡ Some t → t < MAX_TASKS
    small t is = let a = ((r.site_holds.each id v.hand (at_map hand_of vs id v at)).mine t is).0 in let b = r.site_holds.laid.small.tasks in omega (arith, a, b)

    pub apart : Apart vs id v
    apart = record {
      numbers = λ j t w at' other is is'. let hs : List Hand = map hand_of vs in
          let two = total-two (named_of t) hs id j v.hand w.hand (at_map hand_of vs id v at) (at_map hand_of vs j w at') (λ e. other (sym e)) in
          let a : named_of t v.hand ≡ 1 = ap (is_number t) is ∙ is_number-here t in let b : named_of t w.hand ≡ 1 = ap (is_number t) is' ∙ is_number-here t in
          let c = (r.site_holds.balances.named t (small t is)).1 in omega (arith, two, a, b, c);
      locks = λ j w at' other has. let ps : List Part = map parted vs in
          let two = total-two takes_of ps id j (parted v) (parted w) (at_map parted vs id v at) (at_map parted vs j w at') (λ e. other (sym e)) in let one = one-takes in
          let a : takes_of (parted v) ≡ 1 = has in omega (arith, two, one, a);
    }

    one-lock : (i j : ℕ) (x y : V) → get_elem? vs i ≡ some x → get_elem? vs j ≡ some y → HasLock x → HasLock y → i ≡ j
    one-lock i j x y at' at'' has has' = dite (ℕ_discrete i j) (λ e. e)
        (λ other. let two = total-two takes_of (map parted vs) i j (parted x) (parted y) (at_map parted vs i x at') (at_map parted vs j y at'') other in let one = one-takes in
        let a : takes_of (parted x) ≡ 1 = has in let b : takes_of (parted y) ≡ 1 = has' in absurd (omega (arith, two, one, a, b)))

    -- a pass of which a step leaves whose the word is, and whether it picks, holds as before
    held-stays : (n : ℕ) (h : Hand) → OwnKept n (set (map hand_of vs) id h) → Site k ws (set (map hand_of vs) id h) → owner_in ws / 8 ≡ n / 8 → (4 ≤ owner_in ws % 8 → 4 ≤ n % 8)
        → (owner_in ws % 8 < 4 → n % 8 < 4) → h.held ≡ v.hand.held
    held-stays n h own there same high low = let hs : List Hand = map hand_of vs in let mine = at_map hand_of vs id v at in
        let all = same-holders (owner_in ws) n hs (set hs id h) r.own own (named k ws hs r.site_holds) (named k ws (set hs id h) there) same high low in
        let one = total-set held_of hs id v.hand h mine in
        elim (native.Mathlib.Decide.dec_le (held_weight v.hand.held) 0) [
          | yes none ↦ held-none h.held (omega (arith, all, one, none)) ∙ sym (held-none v.hand.held none)
          | no some_h ↦ own.alone id h (set-there hs id v.hand h mine) (λ z. let w : held_weight h.held ≡ 0 = ap held_weight z in omega (arith, all, one, some_h, w))
              ∙ sym (r.own.alone id v.hand mine (λ z. let w : held_weight v.hand.held ≡ 0 = ap held_weight z in omega (arith, some_h, w)))
        ]

    -- who gave up its hold holds nothing
    held-freed : (n : ℕ) (h : Hand) → OwnKept n (set (map hand_of vs) id h) → Site k ws (set (map hand_of vs) id h) → n < 8 → h.held ≡ No
    held-freed n h own there few = let hs : List Hand = map hand_of vs in let none = no-holders (set hs id h) n own (named k ws (set hs id h) there) few in
        let one = total-at held_of (set hs id h) id h (set-there hs id v.hand h (at_map hand_of vs id v at)) in held-none h.held (omega (arith, none, one))

    -- nobody holds at a word that picks
    held-picked : (n : ℕ) (h : Hand) → OwnKept n (set (map hand_of vs) id h) → 4 ≤ n % 8 → h.held ≡ No
    held-picked n h own high = let hs : List Hand = map hand_of vs in let none = own.picked high in
        let one = total-at held_of (set hs id h) id h (set-there hs id v.hand h (at_map hand_of vs id v at)) in held-none h.held (omega (arith, none, one))

    -- who ended its hold has a number
    alone-named : v.hand.held ≡ Alone → (t : ℕ) × (v.hand.task ≡ Some t)
    alone-named alone = number-or-not v.hand.task (λ out. let w : held_weight No ≡ held_weight Alone =
        ap held_weight (sym (named k ws (map hand_of vs) r.site_holds id v.hand (at_map hand_of vs id v at) out) ∙ alone) in absurd (omega (arith, w))) (λ t is. (t, is))

    -- a pass without a number, or between two calls, owes nothing and waits for nothing
    quiet-or : (h : Hand) → KeepsHold rests v h → (h.task ≡ v.hand.task) ⊎ IsQuiet (wparted v)
    quiet-or h same = elim same.1 [
      | inl e ↦ inl e
      | inr s ↦ elim s [
        | inl none ↦ inr ((r.wake.each id (wparted v) (at_map wparted vs id v at)).named none)
        | inr q ↦ inr record
            { clear = q.1.4; absent = sym ((r.coupled.each id v at).waits) ∙ ap bit q.1.0; out = q.0.0 }
      ]
    ]

    -- it keeps its number, or is out of everything
    same-or-out : (h : Hand) → KeepsHold rests v h → (h.task ≡ v.hand.task) ⊎ IsOut v
    same-or-out h same = elim same.1 [
      | inl e ↦ inl e
      | inr s ↦ elim s [
        | inl none ↦ inr ((r.coupled.each id v at).named none)
        | inr q ↦ inr
            (q.1.0, q.1.1, q.1.2, q.1.3, λ has. locked-free v (ap holds_at q.0.1) has)
      ]
    ]

    known : Knows (parted v) → (v.ext.list.list ≡ l) × (v.ext.list.words ≡ list_words ws) × (v.ext.list.changes ≡ false → Lists (list_words ws) l)
    known knows = list-known (list_words ws) l (map parted vs) id (parted v) r.list (at_map parted vs id v at) one-takes knows

    -- what the owner word is before and behind a step by which the pass ends its hold
    ended : (n : ℕ) (h : Hand) → v.hand.held ≡ Alone → h.held ≡ No → OwnKept n (set (map hand_of vs) id h) → (owner_in ws % 8 < 4) × (8 ≤ owner_in ws) × (n % 8 < 4 → n < 8)
    ended n h alone free own = let hs : List Hand = map hand_of vs in let mine = at_map hand_of vs id v at in
        let none = (own-frees hs id (owner_in ws) v.hand h r.own mine alone free).held (omega arith) in number-or-not v.hand.task
        (λ out. let w : held_weight No ≡ held_weight Alone = ap held_weight (sym (named k ws hs r.site_holds id v.hand mine out) ∙ alone) in absurd (omega (arith, w)))
        (λ t has. let word = held-word hs id t (owner_in ws) v.hand r.own mine alone has in let low = word.0 in let is = word.1 in
        (low, omega (arith, is), λ few. let after = own.held few in omega (arith, after, none)))

    -- a step that changes the list so, and all that it leaves
    goes : (us : List ℕ) (vs' : List V) (c : Change) → length us ≡ width k → Site k us (map hand_of vs') → SiteMove id (owner_in ws) (site k ws) vs (site k us) vs' → (u : V)
        → get_elem? vs' id ≡ some u → SpinMoves id (spin_words ws) (map spin_part vs) (spin_words us) (map spin_part vs') → OwnKept (owner_in us) (map hand_of vs')
        → ListKept (list_words us) (changed c l) (map parted vs') → Coupled (owner_in us) (changed c l) vs' → WakeKept (wake_words us) (changed c l) (map wparted vs')
        → StandingGoes (owner_in ws) l c (wake_words ws) (wake_words us) v u → Allowed c l → MadeBy c id (map parted vs) → IsOwnChange id vs (owner_in ws) c
        → (Leaves (owner_in ws) (owner_in us) → PicksFirst (owner_in us) l) → (4 ≤ owner_in ws % 8 → (owner_in us ≡ owner_in ws) ⊎ TookUp id vs (owner_in ws) (owner_in us))
        → (Asks (owner_in ws) (owner_in us) → IsFirstTask v.hand.task l) → (HasHandoff (owner_in ws) → HasHandoff (owner_in us) ⊎ AnswersHandoff v.hand (owner_in us) l)
        → KeepsLeft v.hand u.hand (owner_in us) → (v.hand.held ≡ Alone → u.hand.held ≡ No → HasLock u → LeavesToFirst (owner_in us) l) → u.ext.appends ≡ v.ext.appends + entered c
        → (u.hand.misses ≢ v.hand.misses → may_miss v) → Go k id ws vs us vs'
    goes us vs' c wide there move u at' spin own list coupled wake stands may made mine hands picks asks stays freed names counts missed =
        let before : v ≡ move.before = some-injective v move.before (sym at ∙ move.at) in let after : u ≡ move.after = some-injective u move.after (sym at' ∙ move.at') in (
          (changed c l, record { wide = wide; site_holds = there; spin = (spin.queues', spin.new); own = own; list = list; coupled = coupled; wake = wake }),
          record {
            site = move;
            spin = spin;
            list = record { list = l; list' = changed c l; old = r.list; new = list; change = c; allowed = may; made = made; is = refl };
            own = mine;
            hands = hands;
            picks = picks;
            asks = subst (λ (x : V). Asks (owner_in ws) (owner_in us) → IsFirstTask x.hand.task l) before asks;
            stays = subst (λ (x : V). HasHandoff (owner_in ws) → HasHandoff (owner_in us) ⊎ AnswersHandoff x.hand (owner_in us) l) before stays;
            freed = subst (λ (x : V × V). KeepsLeft x.0.hand x.1.hand (owner_in us)) (λ i. (before i, after i)) freed;
            names = subst (λ (x : V × V). x.0.hand.held ≡ Alone → x.1.hand.held ≡ No → HasLock x.1 → LeavesToFirst (owner_in us) l) (λ i. (before i, after i)) names;
            appends = subst (λ (x : V × V). x.1.ext.appends ≡ x.0.ext.appends + entered c) (λ i. (before i, after i)) counts;
            missed = subst (λ (x : V × V). x.1.hand.misses ≢ x.0.hand.misses → may_miss x.0) (λ i. (before i, after i)) missed;
            wakes = subst (λ (x : V × V). StandingGoes (owner_in ws) l c (wake_words ws) (wake_words us) x.0 x.1) (λ i. (before i, after i)) stands;
          },
        )

    -- the same, where the owner word stays
    goes-on : (us : List ℕ) (vs' : List V) (c : Change) → length us ≡ width k → Site k us (map hand_of vs') → SiteMove id (owner_in ws) (site k ws) vs (site k us) vs' → (u : V)
        → get_elem? vs' id ≡ some u → u.hand.held ≡ v.hand.held → (u.hand.misses ≢ v.hand.misses → may_miss v) → u.ext.appends ≡ v.ext.appends + entered c
        → SpinMoves id (spin_words ws) (map spin_part vs) (spin_words us) (map spin_part vs') → owner_in us ≡ owner_in ws → OwnKept (owner_in ws) (map hand_of vs')
        → ListKept (list_words us) (changed c l) (map parted vs') → Coupled (owner_in ws) (changed c l) vs' → WakeKept (wake_words us) (changed c l) (map wparted vs')
        → StandingGoes (owner_in ws) l c (wake_words ws) (wake_words us) v u → Allowed c l → MadeBy c id (map parted vs) → IsOwnChange id vs (owner_in ws) c → Go k id ws vs us vs'
    goes-on us vs' c wide there move u at' held missed counts spin same own list coupled wake stands may made mine =
        goes us vs' c wide there move u at' spin (subst (λ (z : ℕ). OwnKept z (map hand_of vs')) (sym same) own) list (subst (λ (z : ℕ). Coupled z (changed c l) vs') (sym same) coupled) wake stands
        may made mine
        (λ leaves. absurd (leaves.3 (ap (λ (z : ℕ). z / 8) same))) (λ _. inl same)
        (λ asked. let less = asked.0 in let more : 2 ≤ owner_in ws % 4 = subst HasHandoff same asked.1 in absurd (omega (arith, less, more)))
        (λ asked. inl (subst HasHandoff (sym same) asked)) (λ alone not. absurd (not (held ∙ alone)))
        (λ alone free _. let w : held_weight No ≡ held_weight Alone = ap held_weight (sym free ∙ (held ∙ alone)) in absurd (omega (arith, w))) counts missed

  pub mutex-sites : (k : Plan) (ws : List ℕ) (vs : List V) (id i n : ℕ) (v : V) (h : Hand) (s : SpinHand) → Kept o size k ws vs → get_elem? vs id ≡ some v → KeepsHold rests v h → SpinStays v.spin s
      → Site k (set ws (LOCK_WORDS + i) n) (set (map hand_of vs) id h)
      → SiteMove id (owner_in ws) (site k ws) vs (site k (set ws (LOCK_WORDS + i) n)) (set vs id (seated v h s)) → Go k id ws vs (set ws (LOCK_WORDS + i) n) (set vs id (seated v h s))
  mutex-sites k ws vs id i n v h s (l, r) at same stays there move = let w : V = seated v h s in let us : List ℕ = set ws (LOCK_WORDS + i) n in let hs : List Hand = map hand_of vs in
      let mine = at_map hand_of vs id v at in
      let task : (h.task ≡ v.hand.task) ⊎ (v.hand.held ≡ No) = elim same.1 [ inl e ↦ inl e | inr s ↦ elim s [ inl out ↦ inr (named k ws hs r.site_holds id v.hand mine out) | inr q ↦ inr q.0.0 ] ] in
      goes-on k ws vs l id v r at us (set vs id w) Stay (length-set ws (LOCK_WORDS + i) n ∙ r.wide) (set_part hand_of (Site k us) vs id w there) move w (set-there vs id v w at) same.0
      (λ more. absurd (more same.2.0)) (omega arith)
      (subst (λ (z : List ℕ). SpinMoves id (spin_words ws) (map spin_part vs) z (map spin_part (set vs id w))) (sym (part-below ws 0 SPIN_WORDS (LOCK_WORDS + i) n (omega arith)))
      (set_part spin_part (SpinMoves id (spin_words ws) (map spin_part vs) (spin_words ws)) vs id w
      (spin-renames id (spin_words ws) (map spin_part vs) (spin_part v) h.task s r.spin (at_map spin_part vs id v at) stays
      (⊎_elim (λ a. inl a) (λ b. ⊎_elim (λ c. inr (inl c)) (λ t. inr (inr t.0.1)) b) same.1))))
      (get_or-set_other ws (LOCK_WORDS + i) owner_at n 0 (λ e. omega (arith, e)))
      (set_part hand_of (OwnKept (owner_in ws)) vs id w (own-stays hs id (owner_in ws) v.hand h r.own mine same.0 task))
      (subst (λ (z : List ℕ). ListKept z l (map parted (set vs id w))) (sym (part-below ws list_at LIST_WORDS (LOCK_WORDS + i) n (omega arith)))
      (set_part parted (ListKept (list_words ws) l) vs id w (list-keeps (list_words ws) l (map parted vs) id (parted v) r.list (at_map parted vs id v at) s
      (⊎_elim (λ e. ap (λ (z : SpinHand). z.entries) e) (λ e. ap (λ (z : SpinHand). z.entries) e) stays)
      (⊎_elim (λ e. ap (λ (z : SpinHand). z.frame) e) (λ e. ap (λ (z : SpinHand). z.frame) e) stays))))
      (coupled-seats (owner_in ws) l vs id v r.coupled at h s stays (same-or-out k ws vs l id v r at h same))
      (let before : v ≡ move.before = some-injective v move.before (sym at ∙ move.at) in let after : w ≡ move.after = some-injective w move.after (sym (set-there vs id v w at) ∙ move.at') in
      let goes_hand : HoldGoes v.hand h = subst (λ (x : V × V). HoldGoes x.0.hand x.1.hand) (λ i. (sym before i, sym after i)) move.moved.site.hand in
      let freed : h.freed ≡ v.hand.freed = goes_hand.freed same.0 in
      let entries : s.entries ≡ v.spin.entries = ⊎_elim (λ e. ap (λ (z : SpinHand). z.entries) e) (λ e. ap (λ (z : SpinHand). z.entries) e) stays in
      let locked : holds_in s ≡ holds_in v.spin = ⊎_elim (λ e. ap holds_in e) (λ e. ap holds_in e) stays in
      subst (λ (z : List ℕ). WakeKept z l (map wparted (set vs id w))) (sym (part-below ws wakes_at WAKE_WORDS (LOCK_WORDS + i) n (omega arith)))
      (⊎_elim (λ (e : h.task ≡ v.hand.task). duty-stays (wake_words ws) (owner_in ws) l vs id v r.coupled r.wake at (apart k ws vs l id v r at) r.list.sound.small w e same.0 freed locked entries refl)
      (λ (q : IsQuiet (wparted v)). duty-renames (wake_words ws) (owner_in ws) l vs id v r.coupled r.wake at (apart k ws vs l id v r at) r.list.sound.small w same.0 freed refl q)
      (quiet-or k ws vs l id v r at h same)))
      (goes-same (owner_in ws) l (wake_words ws) (wake_words us) v w (part-below ws wakes_at WAKE_WORDS (LOCK_WORDS + i) n (omega arith)) refl (same-holds v w same.0)) tt tt tt

  spins-first : (k : Plan) (ws : List ℕ) (vs : List V) (id i n : ℕ) (v : V) (s : SpinHand) → Kept o size k ws vs → get_elem? vs id ≡ some v → i < SPIN_WORDS → SpinGoes (v.steps + 1) 0 v.spin s
      → (SpinFrees 0 v.spin s → may_free v)
      → SpinMoves id (spin_words ws) (map spin_part vs) (set (spin_words ws) i n) (set (map spin_part vs) id (part_with v s)) → Go k id ws vs (set ws (0 + i) n) (set vs id (spun v s))
  spins-first k ws vs id i n v s (l, r) at within turn may spin = let w : V = spun v s in let us : List ℕ = set ws (0 + i) n in
      let same : site k us ≡ site k ws = ap (lay k) (drop-set-lt LOCK_WORDS ws (0 + i) n (omega (arith, within))) in
      goes-on k ws vs l id v r at us (set vs id w) Stay (length-set ws (0 + i) n ∙ r.wide)
      (subst (λ (z : SiteWords). SiteKept o owned size k z (map hand_of (set vs id w))) (sym same) (keep_part hand_of (Site k ws) vs id v w at refl r.site_holds))
      (subst (λ (z : SiteWords). SiteMove id (owner_in ws) (site k ws) vs z (set vs id w)) (sym same) (set-moves id (site k ws) (site k ws) vs v w at (spin-moved (site k ws) v 0 s turn))) w
      (set-there vs id v w at) refl (λ more. absurd (more refl)) (omega arith)
      (subst (λ (z : List ℕ). SpinMoves id (spin_words ws) (map spin_part vs) z (map spin_part (set vs id w))) (sym (part-in ws 0 SPIN_WORDS i n within))
      (set_part spin_part (SpinMoves id (spin_words ws) (map spin_part vs) (set (spin_words ws) i n)) vs id w spin))
      (get_or-set_other ws (0 + i) owner_at n 0 (λ e. omega (arith, e, within)))
      (keep_part hand_of (OwnKept (owner_in ws)) vs id v w at refl r.own)
      (subst (λ (z : List ℕ). ListKept z l (map parted (set vs id w))) (sym (part-above ws list_at LIST_WORDS (0 + i) n (omega (arith, within))))
      (set_part parted (ListKept (list_words ws) l) vs id w (list-spins (list_words ws) l (map parted vs) id (parted v) r.list (at_map parted vs id v at) s turn.entries (λ frees. (may frees).1))))
      (coupled-spins (owner_in ws) l vs id v r.coupled at s turn.entries (λ has out. (may (has, out)).0))
      (subst (λ (z : List ℕ). WakeKept z l (map wparted (set vs id w))) (sym (part-above ws wakes_at WAKE_WORDS (0 + i) n (omega (arith, within))))
      (duty-spins (wake_words ws) (owner_in ws) l vs id v r.coupled r.wake at (apart k ws vs l id v r at) r.list.sound.small s turn.entries))
      (goes-same (owner_in ws) l (wake_words ws) (wake_words us) v w (part-above ws wakes_at WAKE_WORDS (0 + i) n (omega (arith, within))) refl (same-holds v w refl)) tt tt tt

  -- it is the only one
  pub mutex-spins : (k : Plan) (ws : List ℕ) (vs : List V) (id l i n : ℕ) (v : V) (s : SpinHand) → Kept o size k ws vs → get_elem? vs id ≡ some v → l < 1 → i < SPIN_WORDS
      → SpinGoes (v.steps + 1) l v.spin s → (SpinFrees l v.spin s → may_free v)
      → SpinMoves id (spin_words ws) (map spin_part vs) (set (spin_words ws) i n) (set (map spin_part vs) id (part_with v s)) → Go k id ws vs (set ws (0 + i) n) (set vs id (spun v s))
  mutex-spins k ws vs id zero i n v s r at one within turn may spin = spins-first k ws vs id i n v s r at within turn may spin
  mutex-spins k ws vs id (suc l) i n v s r at one within turn may spin = absurd (omega (arith, one))

  -- a step on the owner word leaves everything but the word and the hand, once the coupled facts are there
  owns-by : (k : Plan) (ws : List ℕ) (vs : List V) (l : List Waiter) (id n : ℕ) (v : V) (h : Hand) (t : Turn) → Queue k ws vs l → get_elem? vs id ≡ some v → h.task ≡ v.hand.task → HandGoes v.hand h
      → TriesWhere may_miss (owner_in ws) v h → OwnKept n (set (map hand_of vs) id h) → Site k ws (set (map hand_of vs) id h)
      → Coupled n l (set vs id (turns turned t v h)) → WakeKept (wake_words ws) l (map wparted (set vs id (turns turned t v h)))
      → StandingGoes (owner_in ws) l Stay (wake_words ws) (wake_words ws) v (turns turned t v h) → (Leaves (owner_in ws) n → PicksFirst n l)
      → (4 ≤ owner_in ws % 8 → (n ≡ owner_in ws) ⊎ TookUp id vs (owner_in ws) n)
      → (Asks (owner_in ws) n → IsFirstTask v.hand.task l) → (HasHandoff (owner_in ws) → HasHandoff n ⊎ AnswersHandoff v.hand n l) → KeepsLeft v.hand h n
      → (v.hand.held ≡ Alone → h.held ≡ No → HasLock v → LeavesToFirst n l) → Go k id ws vs (set ws owner_at n) (set vs id (turns turned t v h))
  owns-by k ws vs l id n v h t r at task counts tries own there coupled wake stands hands picks asks stays left names = let w : V = turns turned t v h in let us : List ℕ = set ws owner_at n in
      let wide = r.wide in let same : site k us ≡ site k ws = ap (lay k) (drop-set-lt LOCK_WORDS ws owner_at n (omega arith)) in
      let word : owner_in us ≡ n = get_or-set_same ws owner_at n 0 (omega (arith, wide)) in
      goes k ws vs l id v r at us (set vs id w) Stay (length-set ws owner_at n ∙ wide)
      (subst (λ (z : SiteWords). SiteKept o owned size k z (map hand_of (set vs id w))) (sym same) (set_part hand_of (Site k ws) vs id w there))
      (subst (λ (z : SiteWords). SiteMove id (owner_in ws) (site k ws) vs z (set vs id w)) (sym same)
      (set-moves id (site k ws) (site k ws) vs v w at (hold-moved (site k ws) v h (turned t v) counts (tries-go may_miss v h tries)))) w (set-there vs id v w at)
      (subst (λ (z : List ℕ). SpinMoves id (spin_words ws) (map spin_part vs) z (map spin_part (set vs id w))) (sym (part-below ws 0 SPIN_WORDS owner_at n (omega arith)))
      (keep_part spin_part (SpinMoves id (spin_words ws) (map spin_part vs) (spin_words ws)) vs id v w at
      (λ i. record { task = task i; spin = v.spin }) (spin-same id (spin_words ws) (map spin_part vs) r.spin)))
      (subst (λ (z : ℕ). OwnKept z (map hand_of (set vs id w))) (sym word) (set_part hand_of (OwnKept n) vs id w own))
      (subst (λ (z : List ℕ). ListKept z l (map parted (set vs id w))) (sym (part-above ws list_at LIST_WORDS owner_at n (omega arith)))
      (keep_part parted (ListKept (list_words ws) l) vs id v w at (λ i. (v.spin, turned-list t v i)) r.list))
      (subst (λ (z : ℕ). Coupled z l (set vs id w)) (sym word) coupled)
      (subst (λ (z : List ℕ). WakeKept z l (map wparted (set vs id w))) (sym (part-above ws wakes_at WAKE_WORDS owner_at n (omega arith))) wake)
      (subst (λ (z : List ℕ). StandingGoes (owner_in ws) l Stay (wake_words ws) z v w) (sym (part-above ws wakes_at WAKE_WORDS owner_at n (omega arith))) stands) tt tt tt
      (subst (λ (z : ℕ). Leaves (owner_in ws) z → PicksFirst z l) (sym word) hands)
      (subst (λ (z : ℕ). 4 ≤ owner_in ws % 8 → (z ≡ owner_in ws) ⊎ TookUp id vs (owner_in ws) z) (sym word) picks)
      (subst (λ (z : ℕ). Asks (owner_in ws) z → IsFirstTask v.hand.task l) (sym word) asks)
      (subst (λ (z : ℕ). HasHandoff (owner_in ws) → HasHandoff z ⊎ AnswersHandoff v.hand z l) (sym word) stays)
      (subst (KeepsLeft v.hand h) (sym word) left) (subst (λ (z : ℕ). v.hand.held ≡ Alone → h.held ≡ No → HasLock v → LeavesToFirst z l) (sym word) names)
      (let e = turned-appends t v in omega (arith, e)) (misses-outside v h (owner_in ws) tries)

  pub mutex-owns : (k : Plan) (ws : List ℕ) (vs : List V) (id n : ℕ) (v : V) (h : Hand) (t : Turn) → Kept o size k ws vs → get_elem? vs id ≡ some v → h.task ≡ v.hand.task → HandGoes v.hand h
      → TriesWhere may_miss (owner_in ws) v h → KeepsLeft v.hand h n → may_own t v (owner_in ws) n → OwnKept n (set (map hand_of vs) id h) → Site k ws (set (map hand_of vs) id h)
      → Go k id ws vs (set ws owner_at n) (set vs id (turns turned t v h))
  mutex-owns k ws vs id n v h Fail (l, r) at task counts tries left may own there = let m : ℕ = owner_in ws in
      owns-by k ws vs l id n v h Fail r at task counts tries own there
      (subst (λ (z : ℕ). Coupled z l (set vs id (turns turned Fail v h))) (sym may.0) (coupled-fails m l vs id v r.coupled at (apart k ws vs l id v r at) may.3.0 may.3.1 may.3.2 may.2 h task))
      (let same = may.0 in let held = held-stays k ws vs l id v r at n h own there (omega (arith, same)) (λ z. omega (arith, same, z)) (λ z. omega (arith, same, z)) in
      duty-fails (wake_words ws) m l vs id v r.coupled r.wake at (apart k ws vs l id v r at) r.list.sound.small h may.3.0 r.own may.3.1 may.3.2 may.1 task held (counts.0.freed held))
      (goes-fails m l (wake_words ws) v (turns turned Fail v h) refl may.1 may.3.0 may.3.1 may.3.2
      (let same = may.0 in same-holds v (turns turned Fail v h) (held-stays k ws vs l id v r at n h own there (omega (arith, same)) (λ z. omega (arith, same, z)) (λ z. omega (arith, same, z)))))
      (λ leaves. absurd (leaves.3 (ap (λ (z : ℕ). z / 8) may.0))) (λ _. inl may.0)
      (λ asked. let less = asked.0 in let more : 2 ≤ m % 4 = subst HasHandoff may.0 asked.1 in absurd (omega (arith, less, more))) (λ asked. inl (subst HasHandoff (sym may.0) asked)) left
      (λ alone free _. let e = ended k ws vs l id v r at n h alone free own in let low = e.0 in let big = e.1 in let is = may.0 in let few = e.2 (omega (arith, is, low)) in
      absurd (omega (arith, few, big, is)))
  mutex-owns k ws vs id n v h Take (l, r) at task counts tries left may own there = let m : ℕ = owner_in ws in let nobody = r.own.nobody in let flags = r.own.flags in
      let names : v.hand.held ≡ Alone → h.held ≡ No → HasLock v → LeavesToFirst n l = λ alone _ _. let w : held_weight No ≡ held_weight Alone = ap held_weight (sym may.0 ∙ alone) in
      absurd (omega (arith, w)) in ⊎_elim
      (λ (q : (m < 8) × (n ≡ 8 * (may.1.0 + 1) + m)). let free = q.0 in let few = nobody free in
      owns-by k ws vs l id n v h Take r at task counts tries own there (coupled-takes-free m l vs id v r.coupled at (apart k ws vs l id v r at) may.1.0 n h q.0 (nobody q.0) q.1 task)
      (let is = q.1 in duty-takes (wake_words ws) m l vs id v r.coupled r.wake at (apart k ws vs l id v r at) r.list.sound.small n may.1.0 h own (omega (arith, is)) (omega (arith, is, few))
      may.1.1 task) (goes-clear m l (wake_words ws) (wake_words ws) v (turns turned Take v h) refl may.2 NoDuty refl (λ e. absurd (omega (arith, e))) (λ some. absurd (some refl))
      (λ alone free. absurd (free-holds v (turns turned Take v h) may.0 alone free))) (λ leaves. let big = leaves.2 in absurd (omega (arith, big, free)))
      (λ high. absurd (omega (arith, high, few)))
      (λ asked. let more = asked.1 in let is = q.1 in absurd (omega (arith, more, is, few))) (λ asked. absurd (omega (arith, asked, few))) left names)
      (λ (q : (4 ≤ m % 8) × (m / 8 ≡ may.1.0 + 1) × (n + 4 ≡ m)). let high = q.0 in
      owns-by k ws vs l id n v h Take r at task counts tries own there (coupled-takes-picked m l vs id v r.coupled at (apart k ws vs l id v r at) n h q.0 flags q.2 task)
      (let is = q.2 in let me = q.1 in duty-takes (wake_words ws) m l vs id v r.coupled r.wake at (apart k ws vs l id v r at) r.list.sound.small n may.1.0 h own (omega (arith, is, me, high))
      (omega (arith, is, high, flags)) may.1.1 task) (goes-clear m l (wake_words ws) (wake_words ws) v (turns turned Take v h) refl may.2 NoDuty refl (λ e. absurd (omega (arith, e)))
      (λ some. absurd (some refl)) (λ alone free. absurd (free-holds v (turns turned Take v h) may.0 alone free))) (λ leaves. let low = leaves.0 in absurd (omega (arith, low, high)))
      (λ _. inr (v, at, (may.1.0, may.1.1, q.1), q.2))
      (λ asked. let more = asked.1 in let is = q.2 in absurd (omega (arith, more, is, high, flags))) (λ asked. absurd (omega (arith, asked, high, flags))) left names)
      may.1.2
  mutex-owns k ws vs id n v h Ask (l, r) at task counts tries left may own there = let m : ℕ = owner_in ws in let few = may.2.0 in let is = may.2.2 in
      owns-by k ws vs l id n v h Ask r at task counts tries own there (coupled-asks m l vs id v r.coupled at (apart k ws vs l id v r at) n h may.0 may.1 may.2.0 may.2.2 task)
      (let held = held-stays k ws vs l id v r at n h own there (omega (arith, few, is)) (λ z. omega (arith, few, z)) (λ z. omega (arith, few, is)) in
      duty-stays (wake_words ws) m l vs id v r.coupled r.wake at (apart k ws vs l id v r at) r.list.sound.small (turns turned Ask v h) task held (counts.0.freed held) refl refl refl)
      (goes-same m l (wake_words ws) (wake_words ws) v (turns turned Ask v h) refl refl
      (same-holds v (turns turned Ask v h) (held-stays k ws vs l id v r at n h own there (omega (arith, few, is)) (λ z. omega (arith, few, z)) (λ z. omega (arith, few, is)))))
      (λ leaves. absurd (leaves.3 (omega (arith, few, is)))) (λ high. absurd (omega (arith, high, few)))
      (λ _. (r.coupled.each id v at).first may.0) (λ asked. absurd (omega (arith, asked, few))) left
      (λ alone free _. let e = ended k ws vs l id v r at n h alone free own in let big = e.1 in let small = e.2 (omega (arith, few, is)) in absurd (omega (arith, small, big, is)))
  mutex-owns k ws vs id n v h Free (l, r) at task counts tries left may own there = let m : ℕ = owner_in ws in let few = may.2 in
      owns-by k ws vs l id n v h Free r at task counts tries own there (coupled-frees m l vs id v r.coupled at (apart k ws vs l id v r at) n h may.2 may.3 task)
      (let is = may.3 in let named_by = alone-named k ws vs l id v r at may.0 in let free = held-freed k ws vs l id v r at n h own there (omega (arith, is)) in
      duty-frees (wake_words ws) m l vs id v r.coupled r.wake at (apart k ws vs l id v r at) r.list.sound.small n named_by.0 h (one-lock k ws vs l id v r at) named_by.1 may.1 is may.4 task
      (left may.0 (λ z. let w : held_weight No ≡ held_weight Alone = ap held_weight (sym free ∙ z) in omega (arith, w))))
      (goes-clear m l (wake_words ws) (wake_words ws) v (turns turned Free v h) refl may.5 Owing refl
      (λ _. (let is = may.3 in (may.0, held-freed k ws vs l id v r at n h own there (omega (arith, is))))) (λ some. absurd (some refl)) (λ _ _. inl refl))
      (λ leaves. let x = leaves.1 in absurd (omega (arith, x, few))) (λ high. absurd (omega (arith, high, few)))
      (λ asked. let more = asked.1 in let is = may.3 in absurd (omega (arith, more, is, few))) (λ asked. absurd (omega (arith, asked, few))) left (λ _ _ has. locked-free v (ap holds_at may.1) has)
  mutex-owns k ws vs id n v h HandOn (l, r) at task counts tries left may own there = let m : ℕ = owner_in ws in let kn = known k ws vs l id v r at may.2.0 in let a = apart k ws vs l id v r at in
      let is : v.ext.list.list ≡ l = kn.0 in let few = may.3 in
      let none_is : length l ≡ 0 → n ≡ m % 2 = λ z. may.4.0 (ap length is ∙ z) in
      let some_is : 0 < length l → n ≡ 8 * first_code l + 4 + m % 2 = λ lo. subst (λ (y : List Waiter). 0 < length y → n ≡ 8 * first_code y + 4 + m % 2) is may.4.1 lo in
      owns-by k ws vs l id n v h HandOn r at task counts tries own there (coupled-hands-over m l vs id v r.coupled at a n h may.2.0.0 may.2.2 may.3 none_is some_is task may.1.0)
      (let named_by = alone-named k ws vs l id v r at may.0 in duty-hands (wake_words ws) m l vs id v r.coupled r.wake at a r.list.sound.small named_by.0 h may.2.0.0 named_by.1 may.1.0 is task)
      (goes-clear m l (wake_words ws) (wake_words ws) v (turns turned HandOn v h) refl may.1.1 (duty_of (first_code v.ext.list.list)) refl
      (λ e. absurd (let none = chosen-debt (first_code v.ext.list.list) in omega (arith, none, e)))
      (λ chose. (
        (may.2.0.0, chosen-code (first_code v.ext.list.list) ∙ ap first_code is),
        inr
            (may.0, held-picked k ws vs l id v r at n h own (let e = some_is (some-waits l (λ z. chose (chosen-code (first_code v.ext.list.list) ∙ (ap first_code is ∙ z)))) in omega (arith, e))),
      ))
      (λ _ _. inr (may.2.0.0, chosen-code (first_code v.ext.list.list) ∙ ap first_code is)))
      (λ leaves. let fl = flagged m l vs id v r.coupled at a may.2.0.0 may.2.2 in let asks = leaves.1 in elim (native.Mathlib.Decide.dec_le (length l) 0) [
        | yes z ↦ let e = fl.none (omega (arith, z)) in absurd (omega (arith, e, asks))
        | no lo ↦ let e = some_is (omega (arith, lo)) in (omega (arith, e), omega (arith, e))
      ])
      (λ high. absurd (omega (arith, high, few)))
      (λ asked. let more = asked.1 in elim (native.Mathlib.Decide.dec_le (length l) 0) [
        | yes z ↦ let e = none_is (omega (arith, z)) in absurd (omega (arith, e, more))
        | no lo ↦ let e = some_is (omega (arith, lo)) in absurd (omega (arith, e, more))
      ])
      (λ asked. elim (native.Mathlib.Decide.dec_le (length l) 0) [
        | yes z ↦ inr (inr (omega (arith, z)))
        | no lo ↦ let e = some_is (omega (arith, lo)) in inr (inl (may.0, (omega (arith, e), omega (arith, e))))
      ])
      left
      (λ _ _ _. elim (native.Mathlib.Decide.dec_le (length l) 0) [
        | yes z ↦ let e = none_is (omega (arith, z)) in inr (omega (arith, e), omega (arith, z))
        | no lo ↦ let e = some_is (omega (arith, lo)) in inl (omega (arith, e), omega (arith, e))
      ])
  mutex-owns k ws vs id n v h Flag (l, r) at task counts tries left may own there = let m : ℕ = owner_in ws in let low = ((r.coupled.each id v at).joins may.0).3 in
      let is = may.1 (omega (arith, low)) in
      owns-by k ws vs l id n v h Flag r at task counts tries own there (coupled-flags m l vs id v r.coupled at (apart k ws vs l id v r at) n h may.0 is task)
      (let held = held-stays k ws vs l id v r at n h own there (omega (arith, is, low)) (λ z. omega (arith, low, z)) (λ z. omega (arith, low, is)) in
      duty-stays (wake_words ws) m l vs id v r.coupled r.wake at (apart k ws vs l id v r at) r.list.sound.small (turns turned Flag v h) task held (counts.0.freed held) refl refl refl)
      (goes-same m l (wake_words ws) (wake_words ws) v (turns turned Flag v h) refl refl
      (same-holds v (turns turned Flag v h) (held-stays k ws vs l id v r at n h own there (omega (arith, is, low)) (λ z. omega (arith, low, z)) (λ z. omega (arith, low, is)))))
      (λ leaves. let x = leaves.1 in absurd (omega (arith, x, low))) (λ high. absurd (omega (arith, high, low)))
      (λ asked. let more = asked.1 in absurd (omega (arith, more, is, low))) (λ asked. absurd (omega (arith, asked, low))) left
      (λ alone free _. let e = ended k ws vs l id v r at n h alone free own in let big = e.1 in let small = e.2 (omega (arith, low, is)) in absurd (omega (arith, small, big, is)))
  mutex-owns k ws vs id n v h Clear (l, r) at task counts tries left may own there = let m : ℕ = owner_in ws in let is = may.1 in let low = ((r.coupled.each id v at).empties may.0).3 in
      owns-by k ws vs l id n v h Clear r at task counts tries own there (coupled-clears m l vs id v r.coupled at (apart k ws vs l id v r at) n h may.0 may.1 task)
      (let held = held-stays k ws vs l id v r at n h own there (omega (arith, is)) (λ z. omega (arith, low, z)) (λ z. omega (arith, is)) in
      duty-stays (wake_words ws) m l vs id v r.coupled r.wake at (apart k ws vs l id v r at) r.list.sound.small (turns turned Clear v h) task held (counts.0.freed held) refl refl refl)
      (goes-same m l (wake_words ws) (wake_words ws) v (turns turned Clear v h) refl refl
      (same-holds v (turns turned Clear v h) (held-stays k ws vs l id v r at n h own there (omega (arith, is)) (λ z. omega (arith, low, z)) (λ z. omega (arith, is)))))
      (λ leaves. absurd (leaves.3 (omega (arith, is)))) (λ high. absurd (omega (arith, high, low)))
      (λ asked. let more = asked.1 in absurd (omega (arith, more, is))) (λ _. inr (inr ((r.coupled.each id v at).empties may.0).1)) left
      (λ alone free _. let e = ended k ws vs l id v r at n h alone free own in let big = e.1 in let small = e.2 (omega (arith, is)) in absurd (omega (arith, small, big, is)))

  pub mutex-own-looks : (k : Plan) (ws : List ℕ) (vs : List V) (id : ℕ) (v : V) (h : Hand) → Kept o size k ws vs → get_elem? vs id ≡ some v → h.task ≡ v.hand.task → h.held ≡ v.hand.held
      → HandGoes v.hand h → TriesWhere may_miss (owner_in ws) v h → Site k ws (set (map hand_of vs) id h) → Go k id ws vs ws (set vs id (handed v h))
  mutex-own-looks k ws vs id v h (l, r) at task held counts tries there = let w : V = handed v h in
      goes-on k ws vs l id v r at ws (set vs id w) Stay r.wide (set_part hand_of (Site k ws) vs id w there)
      (set-moves id (site k ws) (site k ws) vs v w at (hold-moved (site k ws) v h v.ext counts (tries-go may_miss v h tries))) w (set-there vs id v w at) held (misses-outside v h (owner_in ws) tries)
      (omega arith)
      (keep_part spin_part (SpinMoves id (spin_words ws) (map spin_part vs) (spin_words ws)) vs id v w at
      (λ i. record { task = task i; spin = v.spin }) (spin-same id (spin_words ws) (map spin_part vs) r.spin))
      refl
      (set_part hand_of (OwnKept (owner_in ws)) vs id w (own-stays (map hand_of vs) id (owner_in ws) v.hand h r.own (at_map hand_of vs id v at) held (inl task)))
      (keep_part parted (ListKept (list_words ws) l) vs id v w at refl r.list)
      (coupled-hands (owner_in ws) l vs id v r.coupled at h (inl task))
      (duty-stays (wake_words ws) (owner_in ws) l vs id v r.coupled r.wake at (apart k ws vs l id v r at) r.list.sound.small w task held (counts.0.freed held) refl refl refl)
      (goes-same (owner_in ws) l (wake_words ws) (wake_words ws) v w refl refl (same-holds v w held)) tt tt tt

  pub mutex-opens : (k : Plan) → length (fresh k) ≡ width k → ((i : ℕ) → i < LOCK_WORDS → get_or (fresh k) i 0 ≡ 0) → Site k (fresh k) (map hand_of (first k idle ∷ []))
      → Kept o size k (fresh k) (first k idle ∷ [])
  mutex-opens k wide zeros there = let v : V = first k idle in let own = zeros owner_at (omega arith) in let ws : List ℕ = list_words (fresh k) in (
    [],
    record {
      wide = wide;
      site_holds = there;
      spin = spin-opens (spin_words (fresh k)) (wide-part (fresh k) 0 SPIN_WORDS (omega (arith, wide))) (part-at (fresh k) 0 SPIN_WORDS 0 (omega arith) ∙ zeros 0 (omega arith));
      own = subst (λ (z : ℕ). OwnKept z (v.hand ∷ [])) (sym own) (own-opens v.hand.plan v.hand.seen);
      list = list-opens ws (wide-part (fresh k) list_at LIST_WORDS (omega (arith, wide))) (λ i few. part-at (fresh k) list_at LIST_WORDS i few ∙ zeros (list_at + i) (omega (arith, few)));
      coupled = subst (λ (z : ℕ). Coupled z [] (v ∷ [])) (sym own) (coupled-opens v refl refl refl);
      wake = wake-opens (wake_words (fresh k)) (wparted v) (wide-part (fresh k) wakes_at WAKE_WORDS (omega (arith, wide)))
          (λ i few. part-at (fresh k) wakes_at WAKE_WORDS i few ∙ zeros (wakes_at + i) (omega (arith, few))) record { clear = refl; absent = refl; out = refl };
    },
  )

  pub mutex-splits : (k : Plan) (ws : List ℕ) (vs : List V) (id : ℕ) (v : V) → Kept o size k ws vs → get_elem? vs id ≡ some v → Site k ws (map hand_of (set vs id (ticked v) ++ split_off idle v ∷ []))
      → SiteMove id (owner_in ws) (site k ws) vs (site k ws) (set vs id (ticked v) ++ split_off idle v ∷ []) → Go k id ws vs ws (set vs id (ticked v) ++ split_off idle v ∷ [])
  mutex-splits k ws vs id v (l, r) at there move = let us : List V = set vs id (ticked v) in let w : V = split_off idle v in
      goes-on k ws vs l id v r at ws (us ++ w ∷ []) Stay r.wide there move (ticked v) (still-there us w (ticked v) id (set-there vs id v (ticked v) at)) refl (λ more. absurd (more refl)) (omega arith)
      (snoc_part spin_part (SpinMoves id (spin_words ws) (map spin_part vs) (spin_words ws)) us w
      (keep_part spin_part (λ ps. SpinMoves id (spin_words ws) (map spin_part vs) (spin_words ws) (ps ++ no_part ∷ [])) vs id v (ticked v) at refl
      (spin-comes id (spin_words ws) (map spin_part vs) r.spin)))
      refl
      (snoc_part hand_of (OwnKept (owner_in ws)) us w (own-strangers (map hand_of us) (owner_in ws) v.hand.plan v.hand.seen
      (keep_part hand_of (OwnKept (owner_in ws)) vs id v (ticked v) at refl r.own)))
      (snoc_part parted (ListKept (list_words ws) l) us w (list-strangers (list_words ws) l (map parted us) (keep_part parted (ListKept (list_words ws) l) vs id v (ticked v) at refl r.list)))
      (coupled-snoc (owner_in ws) l us w (coupled-hands (owner_in ws) l vs id v r.coupled at v.hand (inl refl)) refl refl)
      (snoc_part wparted (WakeKept (wake_words ws) l) us w (wake-snoc (wake_words ws) l (map wparted us) (wparted w) (keep_part wparted (WakeKept (wake_words ws) l) vs id v (ticked v) at refl r.wake)
      record { clear = refl; absent = refl; out = refl })) (goes-same (owner_in ws) l (wake_words ws) (wake_words ws) v (ticked v) refl refl (same-holds v (ticked v) refl)) tt tt tt

  pub mutex-joins : (k : Plan) (ws : List ℕ) (vs : List V) (id other : ℕ) (v w : V) → Kept o size k ws vs → get_elem? vs id ≡ some v → other ≢ id → get_elem? vs other ≡ some w → HoldsNothing w
      × rests w × (w.hand.task ≡ None)
      → Site k ws (map hand_of (set (set vs id (merged v w)) other (spent idle))) → SiteMove id (owner_in ws) (site k ws) vs (site k ws) (set (set vs id (merged v w)) other (spent idle))
      → Go k id ws vs ws (set (set vs id (merged v w)) other (spent idle))
  mutex-joins k ws vs id other v w (l, r) at apart' at' (free, out, nameless) there move = let u : V = merged v w in let us : List V = set vs id u in let x : V = spent idle in
      let n : ℕ = owner_in ws in
      let there' : get_elem? us other ≡ some w = set_else vs id other u apart' ∙ at' in
      let own : OwnKept n (map hand_of us) = set_part hand_of (OwnKept n) vs id u (own-stays (map hand_of vs) id n v.hand u.hand r.own (at_map hand_of vs id v at) refl (inl refl)) in
      let coupled = coupled-hands n l vs id v r.coupled at u.hand (inl refl) in
      goes-on k ws vs l id v r at ws (set us other x) Stay r.wide there move u (set_else us other id x (λ e. apart' (sym e)) ∙ set-there vs id v u at) refl
      (λ more. absurd (more refl)) (omega arith)
      (set_part spin_part (SpinMoves id (spin_words ws) (map spin_part vs) (spin_words ws)) us other x
      (keep_part spin_part (λ ps. SpinMoves id (spin_words ws) (map spin_part vs) (spin_words ws) (set ps other no_part)) vs id v u at refl
      (spin-ends id (spin_words ws) (map spin_part vs) other (spin_part w) r.spin (at_map spin_part vs other w at') nameless free.1)))
      refl
      (set_part hand_of (OwnKept n) us other x (own-stays (map hand_of us) other n w.hand (stranger None []) own (at_map hand_of us other w there') (sym free.0) (inr free.0)))
      (set_part parted (ListKept (list_words ws) l) us other x (list-leaves (list_words ws) l (map parted us) other (parted w) (keep_part parted (ListKept (list_words ws) l) vs id v u at refl r.list)
      (at_map parted us other w there') (ap holds_at free.1)))
      (coupled-stays n l us other w coupled there' x (idle-ok n l x refl refl) (λ t. sym (λ i. when (out.0 i) (is_number t w.hand.task))) (sym out.1))
      (set_part wparted (WakeKept (wake_words ws) l) us other x (let before = keep_part wparted (WakeKept (wake_words ws) l) vs id v u at refl r.wake in let here = at_map wparted us other w there' in
      wake-quiet (wake_words ws) l (map wparted us) other (wparted w) before here (wparted x) ((before.each other (wparted w) here).named nameless) record { clear = refl; absent = refl; out = refl }))
      (goes-same (owner_in ws) l (wake_words ws) (wake_words ws) v u refl refl (same-holds v u refl)) tt tt tt

  -- what a change of the list needs of it
  pub mutex-list-may : (k : Plan) (ws : List ℕ) (vs : List V) (l : List Waiter) (id : ℕ) (v : V) (c : Change) → Queue k ws vs l → get_elem? vs id ≡ some v → SpinHolds v.spin → may_change c v l
      → Allowed c l
  mutex-list-may k ws vs l id v Stay r at has may = tt
  mutex-list-may k ws vs l id v (Enter w) r at has may = (small k ws vs l id v r at w.task may.0, not-in (owner_in ws) l vs id v r.coupled at (apart k ws vs l id v r at) may.1 w.task may.0)
  mutex-list-may k ws vs l id v (Leave t) r at has may = is-in (owner_in ws) l vs id v r.coupled at (apart k ws vs l id v r at) may.1 t may.0

  lists-by : (k : Plan) (ws : List ℕ) (vs : List V) (l : List Waiter) (id i n : ℕ) (v : V) (c : Change) (b : ListHand) → Queue k ws vs l → get_elem? vs id ≡ some v → i < LIST_WORDS
      → ListKept (set (list_words ws) i n) (changed c l) (set (map parted vs) id (v.spin, b))
      → Coupled (owner_in ws) (changed c l) (set vs id (listed with_list c v b)) → WakeKept (wake_words ws) (changed c l) (map wparted (set vs id (listed with_list c v b)))
      → StandingGoes (owner_in ws) l c (wake_words ws) (wake_words ws) v (listed with_list c v b) → Allowed c l → MadeBy c id (map parted vs) → IsOwnChange id vs (owner_in ws) c
      → Go k id ws vs (set ws (list_at + i) n) (set vs id (listed with_list c v b))
  lists-by k ws vs l id i n v c b r at inside list coupled wake stands may made mine = let w : V = listed with_list c v b in let us : List ℕ = set ws (list_at + i) n in
      let same : site k us ≡ site k ws = ap (lay k) (drop-set-lt LOCK_WORDS ws (list_at + i) n (omega (arith, inside))) in
      goes-on k ws vs l id v r at us (set vs id w) c (length-set ws (list_at + i) n ∙ r.wide)
      (subst (λ (z : SiteWords). SiteKept o owned size k z (map hand_of (set vs id w))) (sym same) (keep_part hand_of (Site k ws) vs id v w at refl r.site_holds))
      (subst (λ (z : SiteWords). SiteMove id (owner_in ws) (site k ws) vs z (set vs id w)) (sym same)
      (set-moves id (site k ws) (site k ws) vs v w at (hold-moved (site k ws) v v.hand (with_list c v b) (hand-stays v.hand) (inl (saw-stays v.hand))))) w (set-there vs id v w at) refl
      (λ more. absurd (more refl)) (list-appends c v b)
      (subst (λ (z : List ℕ). SpinMoves id (spin_words ws) (map spin_part vs) z (map spin_part (set vs id w))) (sym (part-below ws 0 SPIN_WORDS (list_at + i) n (omega arith)))
      (keep_part spin_part (SpinMoves id (spin_words ws) (map spin_part vs) (spin_words ws)) vs id v w at refl (spin-same id (spin_words ws) (map spin_part vs) r.spin)))
      (get_or-set_other ws (list_at + i) owner_at n 0 (λ e. omega (arith, e)))
      (keep_part hand_of (OwnKept (owner_in ws)) vs id v w at refl r.own)
      (subst (λ (z : List ℕ). ListKept z (changed c l) (map parted (set vs id w))) (sym (part-in ws list_at LIST_WORDS i n inside))
      (set_part parted (ListKept (set (list_words ws) i n) (changed c l)) vs id w
      (subst (λ (z : ListHand). ListKept (set (list_words ws) i n) (changed c l) (set (map parted vs) id (v.spin, z))) (sym (list-back c v b)) list)))
      coupled (subst (λ (z : List ℕ). WakeKept z (changed c l) (map wparted (set vs id w))) (sym (part-above ws wakes_at WAKE_WORDS (list_at + i) n (omega (arith, inside)))) wake)
      (subst (λ (z : List ℕ). StandingGoes (owner_in ws) l c (wake_words ws) z v w) (sym (part-above ws wakes_at WAKE_WORDS (list_at + i) n (omega (arith, inside)))) stands) may made mine

  pub mutex-lists : (k : Plan) (ws : List ℕ) (vs : List V) (l : List Waiter) (id i n : ℕ) (v : V) (c : Change) (b : ListHand) → Queue k ws vs l → get_elem? vs id ≡ some v → i < LIST_WORDS
      → SpinHolds v.spin → may_change c v l → b.list ≡ changed c l → LeaverGoes c v.ext.list.leaver b.leaver
      → ListKept (set (list_words ws) i n) (changed c l) (set (map parted vs) id (v.spin, b)) → Go k id ws vs (set ws (list_at + i) n) (set vs id (listed with_list c v b))
  mutex-lists k ws vs l id i n v Stay b r at inside has may is leaver list = let m : ℕ = owner_in ws in let ok = r.coupled.each id v at in
      lists-by k ws vs l id i n v Stay b r at inside list (coupled-stays m l vs id v r.coupled at (listed with_list Stay v b) record {
        joins = ok.joins;
        empties = ok.empties;
        first = ok.first;
        failed = ok.failed;
        past = ok.past;
        leaver = λ some_is. ⊎_elim (λ (e : b.leaver ≡ v.ext.list.leaver). let k = ok.leaver (λ z. some_is (e ∙ z)) in (k.0, k.1, e ∙ k.2)) (λ (z : b.leaver ≡ 0). absurd (some_is z)) leaver;
        named = λ none. let q = ok.named none in (q.0, q.1, q.2, ⊎_elim (λ (e : b.leaver ≡ v.ext.list.leaver). e ∙ q.3) (λ (z : b.leaver ≡ 0). z) leaver, q.4);
        waits = ok.waits;
      } (λ t. refl) refl) (keep_part wparted (WakeKept (wake_words ws) l) vs id v (listed with_list Stay v b) at refl r.wake)
      (goes-same m l (wake_words ws) (wake_words ws) v (listed with_list Stay v b) refl refl (same-holds v (listed with_list Stay v b) refl)) tt tt tt
  mutex-lists k ws vs l id i n v (Enter w) b r at inside has may is leaver list = let m : ℕ = owner_in ws in let a = apart k ws vs l id v r at in
      lists-by k ws vs l id i n v (Enter w) b r at inside list (coupled-enters m l vs id v r.coupled at a w b (ap holds_at has) may.0 may.1 may.2 is leaver)
      (duty-enters (wake_words ws) m l vs id v r.coupled r.wake at a r.list.sound.small w b (ap holds_at has) may.0 may.5 may.1)
      (goes-wait_state m l (wake_words ws) (wake_words ws) v (listed with_list (Enter w) v b) (Enter w) refl Awake refl (λ _. refl) (λ _ _. inl refl)
      (λ _ e. absurd (omega (arith, e))) (same-holds v (listed with_list (Enter w) v b) refl))
      (mutex-list-may k ws vs l id v (Enter w) r at has may) (parted v, at_map parted vs id v at, ap holds_at has) (v, at, may.0, may.3, may.4)
  mutex-lists k ws vs l id i n v (Leave t) b r at inside has may is leaver list = let m : ℕ = owner_in ws in let a = apart k ws vs l id v r at in
      let unpicked : IsUnpicked m t = λ high. ⊎_elim
      (λ (alone : v.hand.held ≡ Alone). let low = (held-word (map hand_of vs) id t m v.hand r.own (at_map hand_of vs id v at) alone may.0).0 in absurd (omega (arith, low, high)))
      (λ (tried : (v.ext.failed ≡ v.spin.entries) × (v.ext.wake.wait_state ≡ Tried v.spin.entries)). (r.coupled.each id v at).failed (ap holds_at has) tried.0 t may.0 high)
      may.3 in
      lists-by k ws vs l id i n v (Leave t) b r at inside list (coupled-leaves m l vs id v r.coupled at a t b (ap holds_at has) may.0 may.1 may.2 unpicked is leaver)
      (duty-leaves (wake_words ws) m l vs id v r.coupled r.wake at a r.list.sound.small t b (ap holds_at has) may.0 (⊎_elim (λ alone. inl alone) (λ tried. inr tried.1) may.3))
      (goes-wait_state m l (wake_words ws) (wake_words ws) v (listed with_list (Leave t) v b) (Leave t) refl Absent refl (λ e. absurd (omega (arith, e))) (λ _ e. absurd (omega (arith, e)))
      (λ _ _. inl refl) (same-holds v (listed with_list (Leave t) v b) refl))
      (mutex-list-may k ws vs l id v (Leave t) r at has may) (parted v, at_map parted vs id v at, ap holds_at has) (v, at, may.0, unpicked)

  both : (a b : Bool) → (a && b) ≡ true → (a ≡ true) × (b ≡ true)
  both true true e = (refl, refl)
  both true false e = (refl, e)
  both false b e = (e, absurd cc)

  is-code : (n h : ℕ) (task : Option ℕ) → (is_code task n && (h == 0)) ≡ true → (t : ℕ) × (task ≡ Some t) × (n ≡ t + 1) × (h ≡ 0)
  is-code n h None e = absurd cc
  is-code n h (Some t) e = let q = both (n == t + 1) (h == 0) e in dite (ℕ_discrete n (t + 1))
      (λ is. dite (ℕ_discrete h 0) (λ out. (t, refl, is, out)) (λ other. not-both (h == 0) (ne_eqb h 0 other) q.1))
      (λ other. not-both (n == t + 1) (ne_eqb n (t + 1) other) q.0)

  -- a load of the head, by which a pass sees that it is the first waiter
  pub mutex-firsts : (k : Plan) (ws : List ℕ) (vs : List V) (l : List Waiter) (id : ℕ) (v : V) → Queue k ws vs l → get_elem? vs id ≡ some v
      → Go k id ws vs ws (set vs id (sighted saw_first v (get_or (list_words ws) 0 0)))
  mutex-firsts k ws vs l id v r at = let n : ℕ = get_or (list_words ws) 0 0 in let w : V = sighted saw_first v n in let ok = r.coupled.each id v at in
      goes-on k ws vs l id v r at ws (set vs id w) Stay r.wide
      (keep_part hand_of (Site k ws) vs id v w at refl r.site_holds)
      (set-moves id (site k ws) (site k ws) vs v w at (hold-moved (site k ws) v v.hand w.ext (hand-stays v.hand) (inl (saw-stays v.hand)))) w (set-there vs id v w at) refl
      (λ more. absurd (more refl)) (omega arith)
      (keep_part spin_part (SpinMoves id (spin_words ws) (map spin_part vs) (spin_words ws)) vs id v w at refl (spin-same id (spin_words ws) (map spin_part vs) r.spin))
      refl
      (keep_part hand_of (OwnKept (owner_in ws)) vs id v w at refl r.own)
      (keep_part parted (ListKept (list_words ws) l) vs id v w at refl r.list)
      (coupled-stays (owner_in ws) l vs id v r.coupled at w record {
        joins = λ p. let j = ok.joins p in (j.0, j.1, j.2, j.3, wait_state-looking (holds_in v.spin) v.ext.list.changes v.hand.freed n v.ext.wake j.0 ∙ j.4);
        empties = ok.empties;
        first = λ f. let c = is-code n (holds_in v.spin) v.hand.task f in (c.0, c.1, heads c.0 c.1 c.2 c.3);
        failed = ok.failed;
        past = ok.past;
        leaver = ok.leaver;
        named = λ none. let q = ok.named none in (q.0, q.1, ap (λ (z : Option ℕ). is_code z n && (holds_in v.spin == 0)) none, q.3, q.4);
        waits = ok.waits ∙ sym (waits-looking (holds_in v.spin) v.ext.list.changes v.hand.freed n v.ext.wake);
      } (λ t. refl) refl)
      (duty-looks (wake_words ws) (owner_in ws) l vs id v r.coupled r.wake at (apart k ws vs l id v r at) r.list.sound.small n
      (λ has still. head-is (list_words ws) l (r.list.quiet (none-change (list_words ws) l (map parted vs) id (parted v) r.list (at_map parted vs id v at) (one-takes k ws vs l id v r at) has
      still))))
      (goes-looks (owner_in ws) l (wake_words ws) v w n refl (λ has still. head-is (list_words ws) l
      (r.list.quiet (none-change (list_words ws) l (map parted vs) id (parted v) r.list (at_map parted vs id v at) (one-takes k ws vs l id v r at) has still))) (same-holds v w refl)) tt tt tt
    where
      heads : (t : ℕ) → v.hand.task ≡ Some t → get_or (list_words ws) 0 0 ≡ t + 1 → holds_in v.spin ≡ 0 → first_code l ≡ t + 1
      heads t is word out = elim (native.Mathlib.Decide.dec_le (total changes_of (map parted vs)) 0) [
        | yes none ↦ sym (head-is (list_words ws) l (r.list.quiet (omega (arith, none)))) ∙ word
        | no some_do ↦ let s = some-of changes_of (map parted vs) (omega (arith, some_do)) in let p = at_unmap parted vs s.0 s.1 s.2 in let weighs = s.3 in
            let ch : s.1.1.changes ≡ true = false-or-true s.1.1.changes (λ t. t) (λ f. let z : changes_of s.1 ≡ 0 = ap bit f in absurd (omega (arith, z, weighs))) in
            let q = (r.list.each s.0 s.1 s.2).changes ch in ⊎_elim
            (λ (e : get_or (list_words ws) 0 0 ≡ first_code l). sym e ∙ word)
            (λ (rest : (get_or (list_words ws) 0 0 ≡ 0) ⊎ (get_or (list_words ws) 0 0 ≡ s.1.1.leaver)). ⊎_elim
            (λ (z : get_or (list_words ws) 0 0 ≡ 0). absurd (omega (arith, z, word)))
            (λ (z : get_or (list_words ws) 0 0 ≡ s.1.1.leaver). let x : V = p.0 in let same : x.ext.list.leaver ≡ s.1.1.leaver = ap (λ (y : Part). y.1.leaver) p.2 in
            let o = (r.coupled.each s.0 x p.1).leaver (λ zero_it. omega (arith, zero_it, same, z, word)) in let t' = o.2 in let e : o.0 ≡ t = omega (arith, t', same, z, word) in
            let holds : HasLock x = ap (λ (y : Part). holds_in y.0) p.2 ∙ q.0.0 in dite (ℕ_discrete s.0 id)
            (λ mine. let f : x ≡ v = some-injective x v (sym p.1 ∙ (ap (get_elem? vs) mine ∙ at)) in locked-free v out (ap (λ (y : V). holds_in y.spin) (sym f) ∙ holds))
            (λ other. absurd ((apart k ws vs l id v r at).numbers s.0 t x p.1 other is (o.1 ∙ ap Some e))))
            rest)
            q.1
      ]

  -- a change that a pass may make is one for which the word's own facts are enough
  pub mutex-own-may : (k : Plan) (ws : List ℕ) (vs : List V) (id n : ℕ) (v : V) (t : Turn) → Kept o size k ws vs → get_elem? vs id ≡ some v → may_own t v (owner_in ws) n → IsTurn t (owner_in ws) n
  mutex-own-may k ws vs id n v Fail r at may = may.0
  mutex-own-may k ws vs id n v Take r at may = tt
  mutex-own-may k ws vs id n v Ask r at may = may.2
  mutex-own-may k ws vs id n v Free r at may = tt
  mutex-own-may k ws vs id n v HandOn r at may = tt
  mutex-own-may k ws vs id n v Flag r at may = tt
  mutex-own-may k ws vs id n v Clear r at may = ((r.1.coupled.each id v at).empties may.0).3

  pub mutex-bits : (k : Plan) (ws : List ℕ) (vs : List V) (l : List Waiter) (t : ℕ) → Queue k ws vs l → t < MAX_TASKS → get_or ws (wakes_at + 8 * t) 0 ≤ 1
  mutex-bits k ws vs l t r few = let small = r.wake.bits t few in let word = part-at ws wakes_at WAKE_WORDS (8 * t) (omega (arith, few)) in omega (arith, small, word)

  -- a step on a wake word
  mutex-wakes : (k : Plan) (ws : List ℕ) (vs : List V) (l : List Waiter) (id t n : ℕ) (v : V) (b : WakeHand) → Queue k ws vs l → get_elem? vs id ≡ some v → t < MAX_TASKS → Sets t n (wparted v) b
      ⊎ (Drowses t (wake_word (wake_words ws) t) n (wparted v) b × (v.hand.held ≡ No))
      → WakeKept (set (wake_words ws) (8 * t) n) l (set (map wparted vs) id (with_hand (wparted v) b)) → Go k id ws vs (set ws (wakes_at + 8 * t) n) (set vs id (waked with_wake v b))
  mutex-wakes k ws vs l id t n v b r at few kind wake = let w : V = waked with_wake v b in let us : List ℕ = set ws (wakes_at + 8 * t) n in
      let same : site k us ≡ site k ws = ap (lay k) (drop-set-lt LOCK_WORDS ws (wakes_at + 8 * t) n (omega (arith, few))) in let ok = r.coupled.each id v at in
      goes-on k ws vs l id v r at us (set vs id w) Stay (length-set ws (wakes_at + 8 * t) n ∙ r.wide)
      (subst (λ (z : SiteWords). SiteKept o owned size k z (map hand_of (set vs id w))) (sym same) (keep_part hand_of (Site k ws) vs id v w at refl r.site_holds))
      (subst (λ (z : SiteWords). SiteMove id (owner_in ws) (site k ws) vs z (set vs id w)) (sym same)
      (set-moves id (site k ws) (site k ws) vs v w at (hold-moved (site k ws) v v.hand w.ext (hand-stays v.hand) (inl (saw-stays v.hand))))) w (set-there vs id v w at) refl
      (λ more. absurd (more refl)) (omega arith)
      (subst (λ (z : List ℕ). SpinMoves id (spin_words ws) (map spin_part vs) z (map spin_part (set vs id w))) (sym (part-below ws 0 SPIN_WORDS (wakes_at + 8 * t) n (omega arith)))
      (keep_part spin_part (SpinMoves id (spin_words ws) (map spin_part vs) (spin_words ws)) vs id v w at refl (spin-same id (spin_words ws) (map spin_part vs) r.spin)))
      (get_or-set_other ws (wakes_at + 8 * t) owner_at n 0 (λ e. omega (arith, e)))
      (keep_part hand_of (OwnKept (owner_in ws)) vs id v w at refl r.own)
      (subst (λ (z : List ℕ). ListKept z l (map parted (set vs id w))) (sym (part-below ws list_at LIST_WORDS (wakes_at + 8 * t) n (omega arith)))
      (keep_part parted (ListKept (list_words ws) l) vs id v w at refl r.list))
      (coupled-stays (owner_in ws) l vs id v r.coupled at w record {
        joins = λ p. let j = ok.joins p in (j.0, j.1, j.2, j.3, joins-awake j.4 j.0);
        empties = ok.empties;
        first = ok.first;
        failed = ok.failed;
        past = ok.past;
        leaver = ok.leaver;
        named = ok.named;
        waits = ok.waits ∙ sym waits-same;
      } (λ t. refl) refl)
      (subst (λ (z : List ℕ). WakeKept z l (map wparted (set vs id w))) (sym (part-in ws wakes_at WAKE_WORDS (8 * t) n (omega (arith, few))))
      (set_part wparted (WakeKept (set (wake_words ws) (8 * t) n) l) vs id w wake))
      (subst (λ (z : List ℕ). StandingGoes (owner_in ws) l Stay (wake_words ws) z v w) (sym (part-in ws wakes_at WAKE_WORDS (8 * t) n (omega (arith, few)))) (⊎_elim
      (λ (s : Sets t n (wparted v) b). goes-sets (owner_in ws) l (wake_words ws) v w t n few r.wake.wide s.1 s.0 s.2 (same-holds v w refl))
      (λ (d : Drowses t (wake_word (wake_words ws) t) n (wparted v) b × (v.hand.held ≡ No)). goes-drowses (owner_in ws) l (wake_words ws) v w t n few r.wake.wide d.0.3 d.0.0 d.0.1 d.1
      (ok.waits ∙ ap waits d.0.2.1) d.0.2 d.0.4)
      kind)) tt tt tt
    where
      waits-same : waits b.wait_state ≡ waits v.ext.wake.wait_state
      waits-same = ⊎_elim (λ (s : Sets t n (wparted v) b). ap (λ (z : WakeHand). waits z.wait_state) s.2)
          (λ (d : Drowses t (wake_word (wake_words ws) t) n (wparted v) b × (v.hand.held ≡ No)). ap (λ (z : WakeHand). waits z.wait_state) d.0.4
          ∙ waits-drowsing (wake_word (wake_words ws) t) v.ext.wake d.0.2) kind

      joins-awake : v.ext.wake.wait_state ≡ Awake → HasLock v → b.wait_state ≡ Awake
      joins-awake is has = ⊎_elim (λ (s : Sets t n (wparted v) b). ap (λ (z : WakeHand). z.wait_state) s.2 ∙ is)
          (λ (d : Drowses t (wake_word (wake_words ws) t) n (wparted v) b × (v.hand.held ≡ No)). locked-free v d.0.1 has) kind

  -- the task that a pass has chosen is woken
  pub mutex-sets : (k : Plan) (ws : List ℕ) (vs : List V) (l : List Waiter) (id t : ℕ) (v : V) → Queue k ws vs l → get_elem? vs id ≡ some v → HasChosen v.ext t
      → Go k id ws vs (set ws (wakes_at + 8 * t) 1) (set vs id (knowing v (after_set v.ext t)))
  mutex-sets k ws vs l id t v r at chosen = let b : WakeHand = setting v.ext.wake in let kind : Sets t 1 (wparted v) b = (chosen.0, refl, refl) in
      mutex-wakes k ws vs l id t 1 v b r at chosen.1 (inl kind) (wake-sets (wake_words ws) l (map wparted vs) id (wparted v) r.wake (at_map wparted vs id v at) t 1 b kind)

  -- a waiter swaps its own wake word for 0
  pub mutex-swaps : (k : Plan) (ws : List ℕ) (vs : List V) (l : List Waiter) (id t : ℕ) (v : V) → Queue k ws vs l → get_elem? vs id ≡ some v → v.hand.task ≡ Some t → t < MAX_TASKS → SpinRests v.spin
      → v.hand.held ≡ No → HasTried wait_state_of v
      → Go k id ws vs (set ws (wakes_at + 8 * t) 0) (set vs id (knowing v (after_swap v.ext (get_or ws (wakes_at + 8 * t) 0))))
  mutex-swaps k ws vs l id t v r at mine few rests free tried = let n : ℕ = get_or ws (wakes_at + 8 * t) 0 in let old : ℕ = wake_word (wake_words ws) t in
      let word : old ≡ n = part-at ws wakes_at WAKE_WORDS (8 * t) (omega (arith, few)) in let b : WakeHand = drowsing n v.ext.wake in
      let kind : Drowses t old 0 (wparted v) b = (mine, ap holds_at rests, tried, refl, ap (λ (z : ℕ). drowsing z v.ext.wake) (sym word)) in
      mutex-wakes k ws vs l id t 0 v b r at few (inr (kind, free)) (wake-drowses (wake_words ws) l (map wparted vs) id (wparted v) r.wake (at_map wparted vs id v at) t 0 b few kind)
