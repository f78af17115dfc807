-- The rule of a mutex implies what is stated of it.
use Rattle.std.proofs.Common.{◌≡◌, ◌≢◌, ◌∙◌, ℕ, zero, suc, ◌+◌, ◌*◌, ◌/◌, ◌%◌, ◌==◌, ◌<◌, ◌≤◌, ◌⊎◌, inl, inr, Bool, true, false, List, [], ◌∷◌, length, map, get_or, Option, Some, None, refl, sym, ap, subst, arith}
use mathlib.Core.Option.{some, some-injective}
use lib.ListN.{get_elem?}
use Rattle.atomic_table.proofs.Lists.{at_map}
use Rattle.word_bits.specs.OwnerWord.{task_code}
use Rattle.word_bits.specs.LockWords.{owned}
use Rattle.word_bits.specs.Objects.{Obj}
use Rattle.word_bits.specs.Histories.{Plan}
use Rattle.lock_core.specs.Layout.{site}
use Rattle.lock_core.specs.Locked.{HasPass, IsWaitLockFree}
use Rattle.lock_core.specs.SpinFrames.{when}
use Rattle.lock_core.specs.Spins.{holds_in}
use Rattle.lock_core.specs.Totals.{total, total-at, total-two}
use Rattle.lock_core.specs.ViewParts.{Each, at_unmap}
use Rattle.lock_core.specs.Records.{bit}
use Rattle.lock_core.specs.Views.{hand_of, spin_of, held_weight, held_of, is_number}
use Rattle.lock_core.specs.Pasts.{instant, marks_of, moment}
use Rattle.lock_core.proofs.HandLaws.{false-or-true, held-none, number-or-not, not-both}
use Rattle.lock_core.proofs.Stating.{kept-states}
use Rattle.lock_core.proofs.WordSteps.{some-of}
use Rattle.mutex_word.specs.Holders.{OwnKept, IsHolder}
use Rattle.mutex_word.specs.Laws.Own.{Named, no-codes, only-code, alone-code}
use Rattle.wait_list.specs.Lists.{Part, PartOk, changes_of, counted, first_code, list_part}
use Rattle.mutex_slow.specs.Mutexes.{V, Flagged, Kept, MutexKept, list_of, owner_in, point_of, queued_of, standing, standing_of, chosen_code, awake_bit, wake_words, Standing}
use Rattle.mutex_slow.specs.Laws.Coupled.{is-in, not-in, point-held}
use Rattle.mutex_slow.specs.Laws.Mutex.{apart}
use Rattle.wake_duty.specs.DutyWakes.{WakePart, owed, chose, awake, waits, keeps_awake, wake_word}
use Rattle.mutex_slow.specs.Laws.Duty.{wparted, first-small, some-of as any-of}
use Rattle.mutex_slow.specs.Laws.Standing.{owed-some, owes-none}
use Rattle.mutex_slow.specs.MutexStated.{line_marks, waits_in, HasDuty, IsListed, IsMutexThen, OwesNone}
use Rattle.mutex_slow.specs.Types.{Hand, No, Marks, Waiter, Duty, NoDuty, Owing, Chosen, WaitState, Absent, Awake, Tried}

-- who holds, by a word that picks nobody
holder-of : (hs : List Hand) (word : ℕ) → OwnKept word hs → Named hs → word % 8 < 4 → (task : Option ℕ) × (word / 8 ≡ task_code task) × IsHolder hs task
holder-of hs word r named low = let held = r.held low in elim (native.Mathlib.Decide.dec_le (total held_of hs) 0) [
  | yes none ↦ let a = no-codes hs none in (None, omega (arith, a, held, low), λ j h at. let l = total-at held_of hs j h at in held-none h.held (omega (arith, l, none)))
  | no some_hold ↦ let s = some-of held_of hs (omega (arith, some_hold)) in let weighs = s.3 in let one = r.one in
      let is_held : s.1.held ≢ No = λ n. (let w : held_of s.1 ≡ 0 = ap held_weight n in omega (arith, w, weighs)) in let alone = r.alone s.0 s.1 s.2 is_held in
      number-or-not s.1.task (λ out. absurd (is_held (named s.0 s.1 s.2 out))) (λ t has. let a = only-code hs s.0 s.1 s.2 alone one in let b = alone-code s.1 t alone has in
      (Some t, omega (arith, a, b, held, low), (s.0, s.1, s.2, alone, has, λ j g other at. let two = total-two held_of hs s.0 j s.1 g s.2 at (λ e. other (sym e)) in held-none g.held (omega (arith, two, weighs, one)))))
]

-- whose weight in a total isn't 0
view-of : (f : V → ℕ) (vs : List V) → 0 < total f vs → (j : ℕ) × (v : V) × (get_elem? vs j ≡ some v) × (0 < f v)
view-of f [] more = absurd (omega (arith, more))
view-of f (v ∷ vs) more = elim (native.Mathlib.Decide.dec_le (f v) 0) [
  | yes none ↦ let s = view-of f vs (omega (arith, more, none)) in (suc s.0, s.1, s.2, s.3)
  | no weighs ↦ (zero, v, refl, omega (arith, weighs))
]

eqb-eq : (m n : ℕ) → (m == n) ≡ true → m ≡ n
eqb-eq m n e = elim (native.Mathlib.Decide.ℕ_discrete m n) [ yes same ↦ same | no other ↦ not-both (m == n) (Rattle.std.proofs.Common.ne_eqb m n other) e ]

-- what a weight that isn't 0 says
chose-some : (t : ℕ) (d : Duty) → 0 < chose t d → chosen_code d ≡ t + 1
chose-some t NoDuty more = absurd (omega (arith, more))
chose-some t Owing more = absurd (omega (arith, more))
chose-some t (Chosen u) more = false-or-true (u == t) (λ same. ap (λ (n : ℕ). n + 1) (eqb-eq u t same)) (λ other. absurd (let b : bit (u == t) ≡ 0 = ap bit other in omega (arith, b, more)))

number-is : (t : ℕ) (task : Option ℕ) → 0 < is_number t task → task ≡ Some t
number-is t None more = absurd (omega (arith, more))
number-is t (Some u) more = false-or-true (u == t) (λ same. ap Some (eqb-eq u t same)) (λ other. absurd (let b : bit (u == t) ≡ 0 = ap bit other in omega (arith, b, more)))

awake-some : (t : ℕ) (task : Option ℕ) (x : WaitState) → 0 < awake t task x → (task ≡ Some t) × (awake_bit x ≡ 1) × (waits x ≡ 1)
awake-some t task Absent more = absurd (omega (arith, more))
awake-some t task Awake more = (number-is t task more, refl, refl)
awake-some t task (Tried n) more = absurd (omega (arith, more))

queued-task : (t : ℕ) (v : V) → 0 < queued_of t v → v.hand.task ≡ Some t
queued-task t v more = false-or-true v.ext.queued (λ is. number-is t v.hand.task (let b : when v.ext.queued (is_number t v.hand.task) ≡ is_number t v.hand.task = ap (λ (b : Bool). when b (is_number t v.hand.task)) is in omega (arith, b, more)))
    (λ out. absurd (let b : when v.ext.queued (is_number t v.hand.task) ≡ 0 = ap (λ (b : Bool). when b (is_number t v.hand.task)) out in omega (arith, b, more)))

-- the marks of a pass say how it stands
pub same-standing : (v : V) (s : Standing) → marks_of standing v ≡ line_marks s → standing_of v.ext ≡ s
same-standing v s e = let at : (i : ℕ) → get_or (marks_of standing v).numbers i 0 ≡ get_or (line_marks s).numbers i 0 = λ i. ap (λ (m : Marks). get_or m.numbers i 0) e in
    λ i. record { queued = at 0 i; appends = at 1 i; debt = at 2 i; chosen = at 3 i; awake = at 4 i; wakes = at 5 i; dozes = at 6 i }

module _ {Call : Type 0} (o : Obj Call) (size : ℕ) (k : Plan) (ws : List ℕ) (vs : List V) (l : List Waiter) (r : MutexKept o size k ws vs l) where
  changes : {words : List ℕ} {p : Part} → PartOk words l p → holds_in p.0 ≡ 0 → p.1.changes ≡ false
  changes {words} {p} ok out = false-or-true p.1.changes (λ t. let h = (ok.changes t).0.0 in absurd (omega (arith, h, out))) (λ f. f)

  all : IsWaitLockFree (map spin_of vs) → Each (λ v. holds_in v.spin ≡ 0) vs
  all free j v at = free j v.spin (at_map spin_of vs j v at)

  quiet : (vs : List V) → Each (λ v. v.ext.list.changes ≡ false) vs → total changes_of (map (list_part list_of) vs) ≡ 0
  quiet [] each = refl
  quiet (v ∷ vs) each = let a : bit v.ext.list.changes ≡ 0 = ap bit (each zero v refl) in let b = quiet vs (λ j x at. each (suc j) x at) in omega (arith, a, b)

  points : (vs : List V) → Each (λ v. point_of v ≡ 0) vs → total point_of vs ≡ 0
  points [] each = refl
  points (v ∷ vs) each = let a = each zero v refl in let b = points vs (λ j x at. each (suc j) x at) in omega (arith, a, b)

  flagged : IsWaitLockFree (map spin_of vs) → Flagged (owner_in ws) l
  flagged free = r.coupled.flags (points vs (λ j v at. point-held (owner_in ws) l v (r.coupled.each j v at) (all free j v at)))

  named : Named (map hand_of vs)
  named j h at out = ((r.site_holds.each j h at).nameless out).0

  named-word : 4 ≤ owner_in ws % 8 → 8 ≤ owner_in ws
  named-word high = let n = r.own.nobody in elim (native.Mathlib.Decide.dec_le 8 (owner_in ws)) [ yes big ↦ big | no small ↦ let two = n (omega (arith, small)) in absurd (omega (arith, two, high)) ]

  some-first : (l : List Waiter) → 0 < first_code l → 0 < length l
  some-first [] more = absurd (omega (arith, more))
  some-first (w ∷ ws) more = omega arith

  has-pass : (t : ℕ) → 0 < counted t l → HasPass (map hand_of vs) t
  has-pass t more = let p = r.coupled.places t in let s = view-of (queued_of t) vs (omega (arith, p, more)) in (s.0, s.1.hand, at_map hand_of vs s.0 s.1 s.2, queued-task t s.1 s.3)

  first-number : (v : V) (s : Standing) → marks_of standing v ≡ line_marks s → bit v.ext.queued ≡ s.queued
  first-number v s e = ap (λ (m : Marks). get_or m.numbers 0 0) e

  -- the mark of a pass says how often it waits in the list
  marks-list : (id : ℕ) (s : Standing) (h : Hand) → get_elem? (map hand_of vs) id ≡ some h → get_elem? (map (marks_of standing) vs) id ≡ some (line_marks s) → s.queued ≡ waits_in l h.task
  marks-list id s h at there = let p = at_unmap hand_of vs id h at in let v : V = p.0 in let same : v.hand.task ≡ h.task = ap {A = Hand} (λ g. g.task) p.2 in
      let mark : bit v.ext.queued ≡ s.queued = first-number v s (some-injective (marks_of standing v) (line_marks s) (sym (at_map (marks_of standing) vs id v p.1) ∙ there)) in
      number-or-not h.task
      (λ none. let out : bit v.ext.queued ≡ 0 = ap bit ((r.coupled.each id v p.1).named (same ∙ none)).0 in sym mark ∙ (out ∙ sym (ap (waits_in l) none)))
      (λ t is. let named : v.hand.task ≡ Some t = same ∙ is in let waits : waits_in l h.task ≡ counted t l = ap (waits_in l) is in
      let alone = apart o size k ws vs l id v r p.1 in let once = r.list.sound.once t in false-or-true v.ext.queued
      (λ waits_now. let some_is = is-in (owner_in ws) l vs id v r.coupled p.1 alone waits_now t named in let one : bit v.ext.queued ≡ 1 = ap bit waits_now in omega (arith, some_is, one, mark, once, waits))
      (λ out. let none_is = not-in (owner_in ws) l vs id v r.coupled p.1 alone out t named in let zero_it : bit v.ext.queued ≡ 0 = ap bit out in omega (arith, none_is, zero_it, mark, waits)))

  -- a pass without a task has no wake to do
  unnamed-clear : (id : ℕ) (s : Standing) (h : Hand) → get_elem? (map hand_of vs) id ≡ some h → get_elem? (map (marks_of standing) vs) id ≡ some (line_marks s) → h.task ≡ None → OwesNone s h
  unnamed-clear id s h at there none = let p = at_unmap hand_of vs id h at in let v : V = p.0 in let task : v.hand.task ≡ h.task = ap {A = Hand} (λ g. g.task) p.2 in
      let quiet = (r.wake.each id (wparted v) (at_map wparted vs id v p.1)).named (task ∙ none) in
      let stands = same-standing v s (some-injective (marks_of standing v) (line_marks s) (sym (at_map (marks_of standing) vs id v p.1) ∙ there)) in
      subst (λ (z : Standing × Hand). OwesNone z.0 z.1) (λ i. (stands i, p.2 i)) (owes-none v.ext.wake.duty v.hand.freed quiet.clear)

  -- nor has one whose task waits
  waiting-clear : (id : ℕ) (s : Standing) (h : Hand) → get_elem? (map hand_of vs) id ≡ some h → get_elem? (map (marks_of standing) vs) id ≡ some (line_marks s) → s.queued ≡ 1 → OwesNone s h
  waiting-clear id s h at there one = let p = at_unmap hand_of vs id h at in let v : V = p.0 in
      let marks = some-injective (marks_of standing v) (line_marks s) (sym (at_map (marks_of standing) vs id v p.1) ∙ there) in
      let queued : bit v.ext.queued ≡ 1 = first-number v s marks ∙ one in let waits_now = (r.coupled.each id v p.1).waits in
      let stands = same-standing v s marks in let clear = (r.wake.each id (wparted v) (at_map wparted vs id v p.1)).waiter (omega (arith, queued, waits_now)) in
      subst (λ (z : Standing × Hand). OwesNone z.0 z.1) (λ i. (stands i, p.2 i)) (owes-none v.ext.wake.duty v.hand.freed clear)

  -- where nobody holds, somebody has the duty to wake the first waiter, or it needs nobody
  duty-there : IsHolder (map hand_of vs) None → (t : ℕ) → first_code l ≡ t + 1 → HasDuty (moment standing (instant ws vs)) t
  duty-there out t first = let kept = r.wake.first t first in let word = r.wake.bits t (first-small l t r.list.sound.small first) in elim (native.Mathlib.Decide.dec_le 1 (wake_word (wake_words ws) t)) [
    | yes set_it ↦ inr (inr (inl (omega (arith, set_it, word))))
    | no unset ↦ let s = any-of (keeps_awake t) (map wparted vs) (omega (arith, kept, unset)) in let p = at_unmap wparted vs s.0 s.1 s.2 in let v : V = p.0 in let weighs : 0 < keeps_awake t (wparted v) = subst (λ (z : WakePart). 0 < keeps_awake t z) (sym p.2) s.3 in
        let free : held_weight v.hand.held ≡ 0 = ap held_weight (out s.0 v.hand (at_map hand_of vs s.0 v p.1)) in let marked = at_map (marks_of standing) vs s.0 v p.1 in let there = at_map hand_of vs s.0 v p.1 in
        elim (native.Mathlib.Decide.dec_le 1 (owed v.ext.wake.duty v.hand.freed)) [
          | yes owes ↦ let e = owed-some v.ext.wake.duty v.hand.freed owes in inl (s.0, v.hand, standing_of v.ext, there, marked, e.0, e.1)
          | no clear ↦ elim (native.Mathlib.Decide.dec_le 1 (chose t v.ext.wake.duty)) [
            | yes chosen ↦ inr (inl (s.0, v.hand, standing_of v.ext, there, marked, chose-some t v.ext.wake.duty chosen))
            | no unchosen ↦ let a = awake-some t v.hand.task v.ext.wake.wait_state (omega (arith, weighs, free, clear, unchosen)) in inr (inr (inr (s.0, v.hand, standing_of v.ext, there, a.0, marked, (r.coupled.each s.0 v p.1).waits ∙ a.2, a.1)))
          ]
        ]
  ]

  pub listed : IsListed (moment standing (instant ws vs)) l
  listed = let own = r.own in record {
    sound = r.list.sound;
    states = λ free. r.list.quiet (quiet vs (λ j v at. changes (r.list.each j (list_part list_of v) (at_map (list_part list_of) vs j v at)) (all free j v at)));
    passes = has-pass;
    has = λ id h at. let p = at_unmap hand_of vs id h at in (standing_of p.0.ext, at_map (marks_of standing) vs id p.0 p.1);
    marked = marks-list;
    unnamed = unnamed-clear;
    waiting = waiting-clear;
    owner = record {
      holder = holder-of (map hand_of vs) (owner_in ws) own named;
      picked = λ high. let none = own.picked high in let first = r.coupled.picked high in let big = named-word high in
          ((λ j h at. let w = total-at held_of (map hand_of vs) j h at in held-none h.held (omega (arith, w, none))), (high, first), some-first l (omega (arith, first, big)));
      nobody = own.nobody;
      apart = own.flags;
      waited = λ free. (flagged free).some;
      unwaited = λ free. (flagged free).none;
    };
    duty = duty-there;
  }

module _ {Call : Type 0} (o : Obj Call) (size : ℕ) where
  pub mutex-states : (k : Plan) (ws : List ℕ) (vs : List V) → Kept o size k ws vs → IsMutexThen o size k (moment standing (instant ws vs))
  mutex-states k ws vs r = (kept-states o owned size k (site k ws) (map hand_of vs) r.1.site_holds, (r.0, listed o size k ws vs r.0 r.1))
