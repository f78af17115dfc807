-- The rule of a semaphore implies what is stated of it.
use Rattle.std.proofs.Common.{◌≡◌, ◌∙◌, ℕ, zero, suc, ◌+◌, ◌/◌, ◌%◌, ◌<◌, ◌≤◌, true, false, ◌⊎◌, inl, inr, Bool, List, [], ◌∷◌, length, map, Option, Some, None, refl, sym, ap, subst, arith, ⊎_elim}
use mathlib.Core.Option.{some, some-injective}
use lib.ListN.{get_elem?}
use Rattle.word_bits.specs.declared.TheConstants.{MAX_TASKS}
use Rattle.atomic_table.proofs.Lists.{at_map}
use Rattle.word_bits.specs.LockWords.{counted as shut}
use Rattle.word_bits.specs.Objects.{Obj}
use Rattle.word_bits.specs.Histories.{Plan}
use Rattle.lock_core.specs.Layout.{site}
use Rattle.lock_core.specs.Locked.{IsWaitLockFree}
use Rattle.lock_core.specs.ViewParts.{Each, at_unmap}
use Rattle.lock_core.specs.Pasts.{instant, marks_of, moment}
use Rattle.lock_core.specs.Records.{bit}
use Rattle.lock_core.specs.Spins.{holds_in}
use Rattle.lock_core.specs.Totals.{total, total-at}
use Rattle.lock_core.specs.Views.{hand_of, is_number, named_of, spin_of}
use Rattle.lock_core.proofs.HandLaws.{false-or-true, held-none}
use Rattle.lock_core.proofs.Stating.{kept-states}
use Rattle.wait_list.specs.Lists.{AreTasks, Part, PartOk, changes_of, first_code, list_part}
use Rattle.wait_list.specs.Laws.List.{holds-or-not}
use Rattle.wake_duty.specs.DutyWakes.{awake, waits, wake_word}
use Rattle.rwsem_wake.specs.SemDuties.{DutyPart, answers, chose, first_writes, wakes_it, attends, times, wakes_first, where_so}
use Rattle.rwsem_wake.specs.SemParts.{SemPart, alone_of, busy_of, busy_weight, granted_of, granting_of, reserve_of, rest_of, shared_of, transit_weight}
use Rattle.rwsem_wake.specs.Duties.{overdue_of}
use Rattle.rwsem_wake.specs.GrantsStated.{readers}
use Rattle.rwsem_wake.proofs.DutySteps.{late-are}
use Rattle.rwsem_wake.specs.GrantSemaphores.{Quiet}
use Rattle.rwsem_wake.proofs.Readers.{only-first, readers-are, readers-once}
use Rattle.rwsem_wake.proofs.Stating.{sem-states, sem-waiters}
use Rattle.rwsem_slow.specs.Laws.RwSemList.{batch-busy}
use Rattle.rwsem_slow.specs.Laws.Waiter.{has-pass, named-is, view-of}
use Rattle.rwsem_slow.specs.WakesGo.{WakeStands}
use Rattle.rwsem_slow.proofs.MarkedCounts.{same-wakes}
use Rattle.rwsem_wake.specs.RwSemViews.{V, IsDone, list_of, seen}
use Rattle.rwsem_slow.specs.RwSems.{Kept, RwSemKept, count_in, duty_seen, grants_in, marks_in, standing, wake_words}
use Rattle.rwsem_slow.specs.Laws.RwSem.{few-named}
use Rattle.rwsem_slow.specs.RwSemStated.{HasWaitLock, IsQueued, IsBeingWoken, IsRwSemThen, SomebodyKeepsOut, SomebodyOwes, WakesMarked, stance}
use Rattle.rwsem_slow.specs.Types.{Hand, Moment, Waiter, WaitState, Absent, Awake, Tried, SemWake}

-- who doesn't wait has no wait_state
waits-none : (x : WaitState) → waits x ≡ 0 → x ≡ Absent
waits-none Absent e = refl
waits-none Awake e = absurd (omega (arith, e))
waits-none (Tried n) e = absurd (omega (arith, e))

length-map : {A B : Type 0} (f : A → B) (xs : List A) → length (map f xs) ≡ length xs
length-map f [] = refl
length-map f (x ∷ xs) = let e = length-map f xs in omega (arith, e)

awake-is : (t : ℕ) (task : Option ℕ) (x : WaitState) → 0 < awake t task x → (task ≡ Some t) × (x ≡ Awake)
awake-is t task Absent more = absurd (omega (arith, more))
awake-is t task Awake more = (named-is t task 1 more, refl)
awake-is t task (Tried n) more = absurd (omega (arith, more))

so-is : (b : Bool) → 0 < bit b → b ≡ true
so-is true more = refl
so-is false more = absurd (omega (arith, more))

where-weighs : (n m : ℕ) → 0 < where_so n m → (0 < n) × (0 < m)
where-weighs zero m more = absurd (omega (arith, more))
where-weighs (suc n) m more = (omega arith, more)

module _ {Call : Type 0} (o : Obj Call) (size : ℕ) (k : Plan) (ws : List ℕ) (vs : List V) (q : List Waiter) (r : RwSemKept o size k ws vs q) where
  abbrev ps : List SemPart
  ps = map seen vs

  -- what of the passes concerns wakes
  abbrev duty : V → DutyPart
  duty = duty_seen (grants_in ws)

  abbrev ds : List DutyPart
  ds = map duty vs

  abbrev here : Moment
  here = moment standing (instant ws vs)

  changes : {words : List ℕ} {p : Part} → PartOk words q p → holds_in p.0 ≡ 0 → p.1.changes ≡ false
  changes {words} {p} ok out = false-or-true p.1.changes (λ t. let h = (ok.changes t).0.0 in absurd (omega (arith, h, out))) (λ f. f)

  all : IsWaitLockFree (map spin_of vs) → Each (λ v. holds_in v.spin ≡ 0) vs
  all free j v at = free j v.spin (at_map spin_of vs j v at)

  still : (vs : List V) → Each (λ v. v.ext.list.changes ≡ false) vs → total changes_of (map (list_part list_of) vs) ≡ 0
  still [] each = refl
  still (v ∷ vs) each = let a : bit v.ext.list.changes ≡ 0 = ap bit (each zero v refl) in let b = still vs (λ j x at. each (suc j) x at) in omega (arith, a, b)

  -- while the wait lock is free no pass is at a stage
  resting : (vs : List V) → Each (λ v. busy_weight v.ext.sem.stage ≡ 0) vs → total busy_of (map seen vs) ≡ 0
  resting [] each = refl
  resting (v ∷ vs) each = let a = each zero v refl in let b = resting vs (λ j x at. each (suc j) x at) in omega (arith, a, b)

  quiet : IsWaitLockFree (map spin_of vs) → Quiet (count_in ws / 2 % 2) (count_in ws / 4 % 2) q (marks_in ws)
  quiet free = (sem-states (count_in ws) q (marks_in ws) (grants_in ws) ps r.sem (few-named o size k ws vs q r)).free (resting vs (λ j v at. let l = r.locked j v at in let h = all free j v at in omega (arith, l, h)))

  small : Each (λ (p : SemPart). (t : ℕ) → p.task ≡ Some t → t < MAX_TASKS) ps
  small j p at t has = let v = at_unmap seen vs j p at in let named : v.0.hand.task ≡ Some t = ap {A = SemPart} (λ x. x.task) v.2 ∙ has in let m = (r.site_holds.each j v.0.hand (at_map hand_of vs j v.0 v.1)).mine t named in let l = m.0 in let s = r.site_holds.laid.small.tasks in omega (arith, l, s)

  named-once : (t : ℕ) → t < MAX_TASKS → total (λ (p : SemPart). is_number t p.task) ps ≤ 1
  named-once t few = let a = (r.site_holds.balances.named t few).1 in let e = same vs in omega (arith, a, e)
    where
      same : (xs : List V) → total (λ (p : SemPart). is_number t p.task) (map seen xs) ≡ total (named_of t) (map hand_of xs)
      same [] = refl
      same (x ∷ xs) = let e = same xs in omega (arith, e)

  -- who is at a stage, has reserved a bias, or has a batch, has the wait lock
  locks : (id : ℕ) (p : SemPart) → get_elem? ps id ≡ some p → 0 < busy_of p + reserve_of p + rest_of p → HasWaitLock id (moment standing (instant ws vs))
  locks id p at more = let v = at_unmap seen vs id p at in let ok = r.sem.each id p at in let a = ok.reserved in let c = batch-busy p.sem.stage in let d : busy_of p ≡ 0 → rest_of p ≡ 0 = λ none. ap (λ (l : List ℕ). length l) (ok.rest (omega (arith, none, c))) in let e : busy_weight v.0.ext.sem.stage ≡ busy_of p = ap {A = SemPart} (λ x. busy_of x) v.2 in let l = r.locked id v.0 v.1 in
      holds-or-not v.0.spin (λ one. (v.0.spin, at_map spin_of vs id v.0 v.1, one)) (λ out. absurd (let z : busy_of p ≡ 0 = omega (arith, e, l, out) in let f = d z in omega (arith, a, z, f, more)))

  marked-as : (j : ℕ) (v : V) → get_elem? vs j ≡ some v → WakesMarked j v.ext.wake here
  marked-as j v at = (v.ext.sem, v.ext.appends, at_map (marks_of standing) vs j v at)

  -- a pass without a number has no wake to do
  done : (j : ℕ) (v : V) → get_elem? vs j ≡ some v → v.hand.task ≡ None → IsDone v.ext.wake
  done j v at none = let quiet = (r.duty.each j (duty v) (at_map duty vs j v at)).unnamed none in record { clear = quiet.clear; none = quiet.none; absent = waits-none v.ext.wake.wait_state quiet.absent }

  unnamed-there : (id : ℕ) (h : Hand) (b : SemWake) → get_elem? (map hand_of vs) id ≡ some h → h.task ≡ None → WakesMarked id b here → IsDone b
  unnamed-there id h b at none (s, appends, marked) = let x = at_unmap hand_of vs id h at in let v : V = x.0 in let quiet = done id v x.1 (ap {A = Hand} (λ g. g.task) x.2 ∙ none) in
      let e = same-wakes v s appends b (some-injective (marks_of standing v) (stance s appends b) (sym (at_map (marks_of standing) vs id v x.1) ∙ marked)) in record {
        clear = sym (ap (λ (w : WakeStands). w.owing) e) ∙ quiet.clear;
        none = sym (ap (λ (w : WakeStands). w.chosen) e) ∙ quiet.none;
        absent = waits-none b.wait_state (sym (ap (λ (w : WakeStands). w.queued) e) ∙ ap waits quiet.absent);
      }

  -- a task is awakened that somebody has chosen, whose wake word is set, or that is awake
  chosen-awakened : (t j : ℕ) (v : V) → get_elem? vs j ≡ some v → 0 < times t v.ext.wake.chosen → IsBeingWoken here t
  chosen-awakened t j v at more = inl (j, v.hand, v.ext.wake, at_map hand_of vs j v at, (λ none. let quiet = done j v at none in absurd (let z = ap (times t) quiet.none in omega (arith, more, z))), marked-as j v at, omega (arith, more))

  word-awakened : (t : ℕ) → t < MAX_TASKS → 0 < wake_word (wake_words ws) t → IsBeingWoken here t
  word-awakened t few more = let l = r.duty.bits t few in inr (inl (omega (arith, l, more)))

  awake-awakened : (t j : ℕ) (v : V) → get_elem? vs j ≡ some v → 0 < awake t v.hand.task v.ext.wake.wait_state → IsBeingWoken here t
  awake-awakened t j v at more = let a = awake-is t v.hand.task v.ext.wake.wait_state more in inr (inr (j, v.hand, v.ext.wake, at_map hand_of vs j v at, a.0, marked-as j v at, a.1))

  -- the pass of this weight writes, or owes a wake
  looks-or : (j : ℕ) (v : V) → get_elem? vs j ≡ some v → SomebodyOwes here ⊎ (bit v.ext.wake.owing ≡ 0)
  looks-or j v at = elim (native.Mathlib.Decide.dec_le 1 (bit v.ext.wake.owing)) [
    | yes owes ↦ inl (j, v.hand, v.ext.wake, at_map hand_of vs j v at, (λ none. let quiet = done j v at none in absurd (let z = ap bit quiet.clear in omega (arith, owes, z))), marked-as j v at, so-is v.ext.wake.owing owes)
    | no clear ↦ inr (omega (arith, clear))
  ]

  -- the first of those who wait, where nobody writes or reads
  first-there : (w : Waiter) (behind : List Waiter) → q ≡ w ∷ behind → total alone_of ps ≡ 0 → readers (grants_in ws) ps ≡ 0 → SomebodyOwes here ⊎ SomebodyKeepsOut ps ⊎ ((w.writer ≡ true) × IsBeingWoken here w.task)
  first-there w behind is none unread = elim (native.Mathlib.Decide.dec_le 1 (total attends ds)) [
    | yes attend ↦ somebody attend
    | no still ↦ let kept = r.duty.first t (ap first_code is) in let e : wakes_first (wake_words ws) q ds t ≡ where_so (bit w.writer) (total (wakes_it t) ds + wake_word (wake_words ws) t) = ap (λ (z : List Waiter). where_so (first_writes z) (total (wakes_it t) ds + wake_word (wake_words ws) t)) is in
        let s = where-weighs (bit w.writer) (total (wakes_it t) ds + wake_word (wake_words ws) t) (omega (arith, kept, still, e)) in inr (inr (so-is w.writer s.0, awakened s.1))
  ]
    where
      t : ℕ
      t = w.task

      few : w.task < MAX_TASKS
      few = (subst AreTasks is r.list.sound.small).0

      somebody : 1 ≤ total attends ds → SomebodyOwes here ⊎ SomebodyKeepsOut ps ⊎ ((w.writer ≡ true) × IsBeingWoken here w.task)
      somebody attend = let s = view-of duty attends vs (omega (arith, attend)) in let x : V = s.1 in let at = at_map seen vs s.0 x s.2 in ⊎_elim
          (λ (looks : SomebodyOwes here). inl looks)
          (λ (clear : bit x.ext.wake.owing ≡ 0). inr (inl (s.0, seen x, at, (let a = total-at alone_of ps s.0 (seen x) at in let b = total-at shared_of ps s.0 (seen x) at in let c = total-at (granted_of (grants_in ws)) ps s.0 (seen x) at in let d = total-at granting_of ps s.0 (seen x) at in let m = s.3 in omega (arith, m, clear, a, b, c, d, none, unread)))))
          (looks-or s.0 x s.2)

      awakened : 0 < total (wakes_it w.task) ds + wake_word (wake_words ws) w.task → IsBeingWoken here w.task
      awakened more = elim (native.Mathlib.Decide.dec_le 1 (wake_word (wake_words ws) w.task)) [
        | yes set_it ↦ word-awakened w.task few (omega (arith, set_it))
        | no unset ↦ let s = view-of duty (wakes_it w.task) vs (omega (arith, more, unset)) in let x : V = s.1 in let m = s.3 in elim (native.Mathlib.Decide.dec_le 1 (times w.task x.ext.wake.chosen)) [
          | yes chosen ↦ chosen-awakened w.task s.0 x s.2 (omega (arith, chosen))
          | no unchosen ↦ awake-awakened w.task s.0 x s.2 (where-weighs (duty x).writes (awake w.task x.hand.task x.ext.wake.wait_state) (omega (arith, m, unchosen))).1
        ]
      ]

  -- while a bias stands that came under a writer
  late-there : (id : ℕ) (p : SemPart) → get_elem? ps id ≡ some p → 1 ≤ overdue_of p → (1 ≤ total alone_of ps) ⊎ SomebodyOwes here
  late-there id p at more = let l = total-at overdue_of ps id p at in let e = late-are seen (λ (x : V). x.ext.wake) (grants_in ws) vs in let k = r.duty.late (omega (arith, l, e, more)) in let s = view-of duty answers vs (omega (arith, k)) in ⊎_elim
      (λ (looks : SomebodyOwes here). inr looks)
      (λ (clear : bit s.1.ext.wake.owing ≡ 0). inl (let a = total-at alone_of ps s.0 (seen s.1) (at_map seen vs s.0 s.1 s.2) in let m = s.3 in omega (arith, a, m, clear)))
      (looks-or s.0 s.1 s.2)

  -- a reader that is granted while it waits
  granted-there : (id : ℕ) (h : Hand) (p : SemPart) → get_elem? (map hand_of vs) id ≡ some h → get_elem? ps id ≡ some p → 1 ≤ granted_of (grants_in ws) p → (t : ℕ) → h.task ≡ Some t → IsBeingWoken here t
  granted-there id h p at at' more t named = let x = at_unmap hand_of vs id h at in let v : V = x.0 in let there = at_map seen vs id v x.1 in let task : v.hand.task ≡ Some t = ap {A = Hand} (λ g. g.task) x.2 ∙ named in
      let g : granted_of (grants_in ws) p ≡ granted_of (grants_in ws) (seen v) = ap (granted_of (grants_in ws)) (some-injective p (seen v) (sym at' ∙ there)) in
      let kept = r.duty.granted id (duty v) (at_map duty vs id v x.1) (omega (arith, g, more)) t task in
      elim (native.Mathlib.Decide.dec_le 1 (total (chose t) ds)) [
        | yes chosen ↦ let s = view-of duty (chose t) vs (omega (arith, chosen)) in chosen-awakened t s.0 s.1 s.2 s.3
        | no unchosen ↦ elim (native.Mathlib.Decide.dec_le 1 (wake_word (wake_words ws) t)) [
          | yes set_it ↦ word-awakened t (small id (seen v) there t task) (omega (arith, set_it))
          | no unset ↦ awake-awakened t id v x.1 (omega (arith, kept, unchosen, unset))
        ]
      ]

  pub queued : IsQueued (moment standing (instant ws vs)) q ps
  queued = record {
    parts = record {
      many = length-map seen vs ∙ sym (length-map hand_of vs);
      each = λ id h at. let p = at_unmap hand_of vs id h at in (
        seen p.0,
        at_map seen vs id p.0 p.1,
        record {
          task = ap {A = Hand} (λ g. g.task) p.2;
          held = ap {A = Hand} (λ g. g.held) p.2;
          appends = p.0.ext.appends;
          wake = p.0.ext.wake;
          marked = at_map (marks_of standing) vs id p.0 p.1;
        },
      );
    };
    sound = r.list.sound;
    states = λ free. r.list.quiet (still vs (λ j v at. changes (r.list.each j (list_part list_of v) (at_map (list_part list_of) vs j v at)) (all free j v at)));
    passes = has-pass o size k ws vs q r;
    waiters = sem-waiters (count_in ws) q (marks_in ws) (grants_in ws) ps r.sem;
    count = sem-states (count_in ws) q (marks_in ws) (grants_in ws) ps r.sem (few-named o size k ws vs q r);
    read = record { once = readers-once q (count_in ws) (marks_in ws) (grants_in ws) ps r.sem small named-once; are = readers-are q (count_in ws) (marks_in ws) (grants_in ws) ps r.sem small named-once };
    flags = quiet;
    marked = λ free. only-first (count_in ws / 2 % 2) (count_in ws / 4 % 2) q (marks_in ws) (omega arith) (quiet free);
    locked = locks;
    apart = λ id p at one. (
      (let a = (r.sem.each id p at).apart in held-none p.held (omega (arith, a, one))),
      λ none. let b = (r.sem.each id p at).numbered none in let z : transit_weight p.sem.bias ≡ 0 = ap transit_weight b.1 in absurd (omega (arith, one, z)),
    );
    first = first-there;
    late = late-there;
    unnamed = unnamed-there;
    granted = granted-there;
  }

module _ {Call : Type 0} (o : Obj Call) (size : ℕ) where
  pub sem-then : (k : Plan) (ws : List ℕ) (vs : List V) → Kept o size k ws vs → IsRwSemThen o size k (moment standing (instant ws vs))
  sem-then k ws vs r = (kept-states o shut size k (site k ws) (map hand_of vs) r.1.site_holds, (r.0, map seen vs, queued o size k ws vs r.0 r.1))
