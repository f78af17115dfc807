-- Each kind of step of a semaphore keeps the facts of its wake words.
use Rattle.std.proofs.Common.{◌≡◌, ◌≢◌, ℕ, zero, suc, ◌+◌, ◌*◌, ◌/◌, ◌%◌, ◌<◌, ◌≤◌, ◌==◌, ◌&&◌, ◌⊎◌, inl, inr, Bool, true, false, List, [], ◌∷◌, ◌++◌, length, map, get_or, set, Option, Some, None}
use Rattle.std.proofs.Common.{sym, refl, ap, ◌∙◌, subst, arith, eq-eqb, ne_eqb, if◌then◌else◌}
use mathlib.Core.Option.{some, some-injective}
use mathlib.Core.Logic.{dite}
use native.Mathlib.Decide.{ℕ_discrete}
use lib.ListN.{get_elem?}
use Rattle.atomic_table.proofs.Lists.{at_map, set_again}
use Rattle.word_bits.specs.declared.TheConstants.{MAX_TASKS}
use Rattle.lock_core.specs.Records.{bit}
use Rattle.lock_core.specs.Views.{alone_weight, held_weight, is_number}
use Rattle.lock_core.specs.Totals.{total, total-set, total-at, total-two}
use Rattle.lock_core.specs.ViewParts.{Each, at_unmap, each-set, keep_part, set_part, set-there}
use Rattle.lock_core.proofs.HandLaws.{false-or-true, is_number-here, not-both}
use Rattle.lock_core.proofs.RowLaws.{none-some}
use Rattle.wait_list.specs.Lists.{AreTasks, first_code, listed, without}
use Rattle.wake_duty.specs.DutyWakes.{awake, waits, wake_word}
use Rattle.rwsem_wake.specs.SemDuties.{DutyPart, DutyKept, IsQuiet, alone_of as alone_in_duty, late_of as late_in_duty, owes, attends, chose, wakes_it, where_so, first_writes, wakes_first, recounted}
use Rattle.rwsem_wake.specs.SemDuties.{entering, leaving}
use Rattle.rwsem_wake.specs.Laws.SemDuty.{duty-guards, duty-owes, duty-ends, duty-lets-go, duty-writes, duty-unwaited, duty-enters, duty-leaves, duty-picks, duty-chooses, duty-quiet, duty-pays}
use Rattle.rwsem_count.specs.Counts.{early_weight, late_weight, part, shared_in, shared_weight}
use Rattle.rwsem_wake.specs.SemParts.{SemPart, alone_of, apart_hand, busy_of, busy_weight, granted_of, granted_weight, granting_of, granting_weight, is_zero, nobody, reads_weight, reserve_weight}
use Rattle.rwsem_wake.specs.SemParts.{part_of, shared_of, some_of, transit_of, transit_weight, writes_weight, writes_at, writer_at, named_weight}
use Rattle.rwsem_wake.specs.GrantSemaphores.{SemKept, SemPartOk, FlagsAt, FlagsOf, now, pick}
use Rattle.rwsem_wake.specs.Grants.{KeepsOut}
use Rattle.rwsem_wake.specs.Duties.{StageOk, WakeGoes, begun_weight, waited_weight, duty_of, guards_of, is_left, kept_of, kept_weight, overdue_of, overdue_weight, paid, writes_of}
use Rattle.rwsem_wake.proofs.DutySteps.{field-is, writer-is, guards-are, late-are, alone-are, not-left, overdue-only}
use Rattle.rwsem_wake.proofs.Sums.{busy-most, now-at}
use Rattle.rwsem_wake.specs.RwSemViews.{V, MayPick, gone, picked, sem_of, with_list, IsDone, joined, leaves_wake, chooses_task, looked, looks_at, parted, parted_wake, seen}
use Rattle.rwsem_slow.specs.RwSems.{LeavesBehind, LeavesFirst, LeavesTaken, MayJoin, biased, may_count, IsStaged, duty_seen, has_waiters, owes_after}
use Rattle.rwsem_slow.specs.Types.{Hand, Held, No, Shared, Alone, Waiter, Enter, Leave, ListHand, Awake, SemWake, Bias, Clear, Transit, Reserve, SemHand, Wait, Apart, Reads, Writes, Stage}
use Rattle.rwsem_slow.specs.Types.{Rest, Armed, Joining, First, Marking, Took, Removed, Emptied, Overdue, Marked, Removing, Summing, Counted, Granting}

-- the facts of the wake words, and that each pass stands as its stage asks
abbrev pub Duties : List ℕ → List ℕ → List Waiter → List V → Type 0
Duties words grants q vs = DutyKept words q (map (duty_seen grants) vs) × Each IsStaged vs

-- at a stage that asks nothing
pub staged-rest : (v : SemPart) (b : SemWake) (s : Stage) → v.sem.stage ≡ s → begun_weight s ≡ 0 → (overdue_of v ≡ 0) ⊎ (waited_weight s ≡ 1) → StageOk v b
staged-rest v b s is unbegun late = record {
  joining = λ x e. absurd (let a : begun_weight s ≡ 1 = ap begun_weight (sym is ∙ e) in omega (arith, a, unbegun));
  first = λ e. absurd (let a : begun_weight s ≡ 1 = ap begun_weight (sym is ∙ e) in omega (arith, a, unbegun));
  took = λ e. absurd (let a : begun_weight s ≡ 1 = ap begun_weight (sym is ∙ e) in omega (arith, a, unbegun));
  waited = λ some_l. elim late [ inl none ↦ absurd (omega (arith, some_l, none)) | inr waits_now ↦ ap waited_weight is ∙ waits_now ];
}

-- a part that differs in its number alone stands as before
pub staged-same : (v u : SemPart) (b c : SemWake) → u.held ≡ v.held → u.sem ≡ v.sem → c.wait_state ≡ b.wait_state → StageOk v b → StageOk u c
staged-same v u b c held sem wait_state ok = record {
  joining = λ x e. subst (λ (z : SemHand). 1 ≤ transit_weight z.bias) (sym sem) (ok.joining x (ap (λ (z : SemHand). z.stage) (sym sem) ∙ e));
  first = λ e. let f = ok.first (ap (λ (z : SemHand). z.stage) (sym sem) ∙ e) in (wait_state ∙ f.0, ap (λ (z : SemHand). z.wait) sem ∙ f.1);
  took = λ e. held ∙ ok.took (ap (λ (z : SemHand). z.stage) (sym sem) ∙ e);
  waited = λ some_l. ap (λ (z : SemHand). waited_weight z.stage) sem ∙ ok.waited (subst (λ (z : SemHand). 1 ≤ overdue_weight z.bias) sem some_l);
}

-- so it stands behind a step on the count, a mark or a grant word
pub staged-goes : (n n' : ℕ) (q : List Waiter) (grants grants' : List ℕ) (sees : List SemPart) (v u : SemPart) (b w : SemWake) → StageOk v b → WakeGoes n q grants sees n' grants' v u b w → StageOk u w
staged-goes n n' q grants grants' sees v u b w ok kind = elim kind [
  | inl (same, inl keeps) ↦ keeps-stage keeps.stage keeps.late keeps.wake
  | inl (same, inr (inl (only, clear, none, is, _))) ↦ staged-rest u w (Overdue (n / 4 % 2 == 1)) (ap (λ (z : SemPart). z.sem.stage) is) refl (inr refl)
  | inl (same, inr (inr (inl (only, bias, none, is, _)))) ↦ staged-rest u w Rest (ap (λ (z : SemPart). z.sem.stage) is) refl (inl (ap overdue_of is))
  | inl (same, inr (inr (inr (inl (only, bias, _, is, _))))) ↦ staged-rest u w Rest (ap (λ (z : SemPart). z.sem.stage) is) refl (inl (ap overdue_of is))
  | inl (same, inr (inr (inr (inr (inl (is, late, _)))))) ↦ record {
    joining = λ x e. absurd (let a : took_weight Took ≡ took_weight (Joining x) = ap took_weight (sym (ap (λ (z : SemPart). z.sem.stage) is) ∙ e) in omega (arith, a));
    first = λ e. absurd (let a : took_weight Took ≡ took_weight First = ap took_weight (sym (ap (λ (z : SemPart). z.sem.stage) is) ∙ e) in omega (arith, a));
    took = λ _. ap (λ (z : SemPart). z.held) is;
    waited = λ some_l. absurd (let l : overdue_of u ≡ 0 = ap overdue_of is ∙ late in omega (arith, some_l, l));
  }
  | inl (same, inr (inr (inr (inr (inr (inl (waits_now, granted, stage, unshared, unalone, is, clear, _))))))) ↦ staged-rest u w Rest (ap (λ (z : SemPart). z.sem.stage) is ∙ stage) refl
      (inl (let l : overdue_of u ≡ overdue_of v = ap overdue_of is in let z = overdue-rest stage in omega (arith, l, z)))
  | inl (same, inr (inr (inr (inr (inr (inr (inl (why, (s, is, unbegun, granting, waited), _)))))))) ↦ staged-rest u w s (ap (λ (z : SemPart). z.sem.stage) is) unbegun
      (by-late s waited (ap overdue_of is))
  | inl (same, inr (inr (inr (inr (inr (inr (inr (only, nobody_waits, clear, stage, is, _)))))))) ↦ staged-rest u w Rest (ap (λ (z : SemPart). z.sem.stage) is) refl
      (inl (ap overdue_of is ∙ ap overdue_weight clear))
  | inr (same_n, (t, ts, s, rest, stage, grants_are, is, granting, unbegun), clear, _) ↦ staged-rest u w s (ap (λ (z : SemPart). z.sem.stage) is) unbegun
      (inl (ap overdue_of is ∙ ap overdue_weight clear))
]
  where
    took_weight : Stage → ℕ
    took_weight Took = 1
    took_weight _ = 0

    overdue-rest : v.sem.stage ≡ Rest → overdue_of v ≡ 0
    overdue-rest stage = elim (native.Mathlib.Decide.dec_le 1 (overdue_of v))
        [ yes some_l ↦ absurd (let a = ok.waited some_l in let e : waited_weight v.sem.stage ≡ 0 = ap waited_weight stage in omega (arith, a, e)) | no none ↦ omega (arith, none) ]

    by-late : (s : Stage) → (overdue_of v ≡ 0) ⊎ (waited_weight v.sem.stage ≤ waited_weight s) → overdue_of u ≡ overdue_of v → (overdue_of u ≡ 0) ⊎ (waited_weight s ≡ 1)
    by-late s waited same = elim (native.Mathlib.Decide.dec_le 1 (overdue_of v)) [
      | no none ↦ inl (omega (arith, none, same))
      | yes some_l ↦ elim waited [ inl clear ↦ inl (omega (arith, clear, same)) | inr less ↦ inr (let a = ok.waited some_l in let m = waited-most s in omega (arith, a, less, m)) ]
    ]
      where
        waited-most : (s : Stage) → waited_weight s ≤ 1
        waited-most Marking = omega arith
        waited-most Emptied = omega arith
        waited-most (Overdue x) = omega arith
        waited-most (Marked x) = omega arith
        waited-most Removing = omega arith
        waited-most Summing = omega arith
        waited-most (Counted x) = omega arith
        waited-most _ = omega arith

    keeps-stage : ((begun_weight u.sem.stage ≡ 0) ⊎ (u ≡ v)) × ((overdue_of u ≡ 0) ⊎ (waited_weight v.sem.stage ≤ waited_weight u.sem.stage)) → overdue_of u ≡ overdue_of v → w ≡ b → StageOk u w
    keeps-stage goes late wake_is = elim goes.0 [
      | inr is ↦ staged-same v u b w (ap (λ (z : SemPart). z.held) is) (ap (λ (z : SemPart). z.sem) is) (ap (λ (z : SemWake). z.wait_state) wake_is) ok
      | inl unbegun ↦ staged-rest u w u.sem.stage refl unbegun (elim goes.1 [ inl none ↦ inl none | inr less ↦ by-late u.sem.stage (inr less) late ])
    ]

-- the pass of this view, whose part is given, makes a step that leaves the list and these words
module _ (words grants : List ℕ) (q : List Waiter) (vs : List V) (id : ℕ) (v : V) (d : Duties words grants q vs) (at : get_elem? vs id ≡ some v) where
  abbrev ps : List DutyPart
  ps = map (duty_seen grants) vs

  abbrev p : DutyPart
  p = duty_seen grants v

  abbrev seens : List SemPart
  seens = map seen vs

  there : get_elem? ps id ≡ some p
  there = at_map (duty_seen grants) vs id v at

  mine : get_elem? seens id ≡ some (seen v)
  mine = at_map seen vs id v at

  ok : IsStaged v
  ok = d.1 id v at

  -- what it takes of one view
  pub duties-by : (words' : List ℕ) (q' : List Waiter) (w : V) → DutyKept words' q' (set ps id (duty_seen grants w)) → IsStaged w → Duties words' grants q' (set vs id w)
  duties-by words' q' w kept staged_w = (set_part (duty_seen grants) (DutyKept words' q') vs id w kept, each-set IsStaged IsStaged vs id w staged_w (λ j x _ _ k. k) d.1)

  becomes : (words' : List ℕ) (q' : List Waiter) (x y : DutyPart) → x ≡ y → DutyKept words' q' (set ps id x) → DutyKept words' q' (set ps id y)
  becomes words' q' x y is = subst (λ (z : DutyPart). DutyKept words' q' (set ps id z)) is

  -- all that concerns it stays
  pub duties-stay : (w : V) → w.hand.task ≡ v.hand.task → w.hand.held ≡ v.hand.held → w.ext.sem ≡ v.ext.sem → w.ext.wake ≡ v.ext.wake → Duties words grants q (set vs id w)
  duties-stay w task held sem wake = (
    keep_part (duty_seen grants) (DutyKept words q) vs id v w at (λ i. duty_of grants (record { task = task i; held = held i; sem = sem i }) (wake i)) d.0,
    each-set IsStaged IsStaged vs id w (staged-same (seen v) (seen w) v.ext.wake w.ext.wake held sem (ap (λ (z : SemWake). z.wait_state) wake) ok) (λ j x _ _ k. k) d.1,
  )

  -- a pass that is about nothing
  pub quiet-apart : (w : V) → w.ext.sem ≡ apart_hand → IsDone w.ext.wake → IsQuiet (duty_seen grants w)
  quiet-apart w sem done = record {
    clear = done.clear;
    none = done.none;
    absent = ap waits done.absent;
    out = apart-granted w.hand.task w.ext.sem sem;
  }
    where
      apart-granted : (task : Option ℕ) (s : SemHand) → s ≡ apart_hand → granted_weight grants task s.wait ≡ 0
      apart-granted None s e = refl
      apart-granted (Some t) s e = ap (λ (z : SemHand). granted_weight grants (Some t) z.wait) e

  -- it gets a number or gives it back
  pub duties-rename : (w : V) → w.hand.held ≡ v.hand.held → w.ext.sem ≡ v.ext.sem → w.ext.wake ≡ v.ext.wake → v.ext.sem ≡ apart_hand → IsQuiet p → Duties words grants q (set vs id w)
  duties-rename w held sem wake apart quiet = duties-by words q w (duty-quiet words q ps id p d.0 there (duty_seen grants w) quiet now_quiet (ap alone_weight held) guards
      (ap (λ (z : SemHand). overdue_weight z.bias) sem) (ap (λ (z : SemHand). z.rest) sem))
      (staged-same (seen v) (seen w) v.ext.wake w.ext.wake held sem (ap (λ (z : SemWake). z.wait_state) wake) ok)
    where
      none-granted : (task : Option ℕ) → granted_weight grants task w.ext.sem.wait ≡ 0
      none-granted None = refl
      none-granted (Some t) = ap (λ (z : SemHand). granted_weight grants (Some t) z.wait) (sem ∙ apart)

      now_quiet : IsQuiet (duty_seen grants w)
      now_quiet = record {
        clear = ap (λ (z : SemWake). z.owing) wake ∙ quiet.clear;
        none = ap (λ (z : SemWake). z.chosen) wake ∙ quiet.none;
        absent =
            ap (λ (z : SemWake). waits z.wait_state) wake ∙ quiet.absent;
        out = none-granted w.hand.task;
      }

      guards : guards_of grants (seen w) ≡ guards_of grants (seen v)
      guards = let a : shared_of (seen w) ≡ shared_of (seen v) = ap shared_weight held in let b : kept_of (seen w) ≡ kept_of (seen v) = ap (λ (z : SemHand). kept_weight z.bias) sem in
          let c : granting_of (seen w) ≡ granting_of (seen v) = ap (λ (z : SemHand). granting_weight z.stage (length z.rest)) sem in
          let e = none-granted w.hand.task in let f = quiet.out in omega (arith, a, b, c, e, f)

  -- a pass that is about nothing is spent
  pub duties-end : (w : V) → seen v ≡ seen w → v.ext.sem ≡ apart_hand → IsDone v.ext.wake → IsDone w.ext.wake → Duties words grants q (set vs id w)
  duties-end w same apart was done = let quiet = quiet-apart v apart was in let now_quiet = quiet-apart w (ap (λ (z : SemPart). z.sem) (sym same) ∙ apart) done in
      duties-by words q w (duty-quiet words q ps id p d.0 there (duty_seen grants w) quiet now_quiet (ap alone_of (sym same)) (ap (guards_of grants) (sym same)) (ap overdue_of (sym same))
      (ap (λ (z : SemPart). z.sem.rest) (sym same)))
      (staged-same (seen v) (seen w) v.ext.wake w.ext.wake (ap (λ (z : SemPart). z.held) (sym same)) (ap (λ (z : SemPart). z.sem) (sym same)) (done.absent ∙ sym was.absent) ok)

-- the list, once WAITERS isn't set: nobody waits, or a reader that joins has its bias in transit, or a writer is to set it, or a writer took
now-is : (vs : List SemPart) → (now vs ≡ nobody) ⊎ ((j : ℕ) × (v : SemPart) × (get_elem? vs j ≡ some v) × (now vs ≡ v))
now-is [] = inl refl
now-is (v ∷ vs) = by-busy (busy_of v) (now-is vs)
  where
    by-busy : (n : ℕ) → ((now vs ≡ nobody) ⊎ ((j : ℕ) × (x : SemPart) × (get_elem? vs j ≡ some x) × (now vs ≡ x))) → (pick n v (now vs) ≡ nobody)
        ⊎ ((j : ℕ) × (x : SemPart) × (get_elem? (v ∷ vs) j ≡ some x) × (pick n v (now vs) ≡ x))
    by-busy (suc n) found = inr (zero, v, refl, refl)
    by-busy zero (inl none) = inl none
    by-busy zero (inr (j, x, at, is)) = inr (suc j, x, at, is)

some-of : {X : Type 0} (f : X → ℕ) (xs : List X) → 1 ≤ total f xs → (j : ℕ) × (x : X) × (get_elem? xs j ≡ some x) × (1 ≤ f x)
some-of f [] l = absurd (omega (arith, l))
some-of f (x ∷ xs) l = elim (native.Mathlib.Decide.dec_le 1 (f x)) [ yes has ↦ (zero, x, refl, has) | no none ↦ let r = some-of f xs (omega (arith, l, none)) in (suc r.0, r.1, r.2, r.3) ]

overdue-most : (b : Bias) → (overdue_weight b ≤ reserve_weight b) × (kept_weight b + overdue_weight b ≤ 1) × (transit_weight b ≤ kept_weight b)
overdue-most Clear = (omega arith, omega arith, omega arith)
overdue-most (Transit m) = (omega arith, omega arith, omega arith)
overdue-most (Reserve m) = (omega arith, omega arith, omega arith)

kept-transit : (b : Bias) → reserve_weight b ≡ 0 → kept_weight b ≡ transit_weight b
kept-transit Clear none = refl
kept-transit (Transit m) none = refl
kept-transit (Reserve m) none = absurd (omega (arith, none))

no-waiters : (q : List Waiter) → some_of q ≡ 0 → first_code q ≡ 0
no-waiters [] none = refl
no-waiters (w ∷ q) none = absurd (omega (arith, none))

-- where WAITERS isn't set
module _ (words grants marks : List ℕ) (n : ℕ) (q : List Waiter) (vs : List V) (r : SemKept n q marks grants (map seen vs)) (staged : Each IsStaged vs) (unset : n / 2 % 2 ≡ 0) where
  abbrev sees' : List SemPart
  sees' = map seen vs

  busy-one : (j : ℕ) (v : SemPart) → get_elem? sees' j ≡ some v → 1 ≤ busy_of v → FlagsAt v.sem.stage v.task v.sem.rest (n / 2 % 2) (n / 4 % 2) q marks grants
  busy-one j v at busy = let m = busy-most v.sem.stage in let few = r.busy in
      subst (λ (z : SemPart). FlagsOf z (n / 2 % 2) (n / 4 % 2) q marks grants) (now-at sees' j v at (omega (arith, m, busy)) few) r.flags

  -- a stage at which WAITERS is set
  is-set : (s : Stage) (me : Option ℕ) (rest : List ℕ) → waited_weight s ≡ 1 → FlagsAt s me rest (n / 2 % 2) (n / 4 % 2) q marks grants → n / 2 % 2 ≡ 1
  is-set Marking me rest w f = f.0
  is-set Emptied me rest w f = f.0
  is-set (Overdue b) me rest w f = let a = f.0.waiters in let l = f.2 in a ∙ some-there q l
    where
      some-there : (q : List Waiter) → 1 ≤ length q → some_of q ≡ 1
      some-there [] l = absurd (omega (arith, l))
      some-there (x ∷ q) l = refl
  is-set (Marked b) me rest w f = f.0
  is-set Removing me rest w f = f.0
  is-set Summing me rest w f = f.0
  is-set (Counted b) me rest w f = f.0
  is-set Rest me rest w f = absurd (omega (arith, w))
  is-set Armed me rest w f = absurd (omega (arith, w))
  is-set (Joining b) me rest w f = absurd (omega (arith, w))
  is-set First me rest w f = absurd (omega (arith, w))
  is-set Took me rest w f = absurd (omega (arith, w))
  is-set Removed me rest w f = absurd (omega (arith, w))
  is-set Granting me rest w f = absurd (omega (arith, w))

  -- no bias came under a writer
  pub none-late : total overdue_of sees' ≡ 0
  none-late = elim (native.Mathlib.Decide.dec_le 1 (total overdue_of sees')) [
    | no none ↦ omega (arith, none)
    | yes some_l ↦ absurd (let s = some-of overdue_of sees' some_l in let p = at_unmap seen vs s.0 s.1 s.2 in let v : V = p.0 in let at = at_map seen vs s.0 v p.1 in
        let late : 1 ≤ overdue_of (seen v) = (let e : overdue_of (seen v) ≡ overdue_of s.1 = ap overdue_of p.2 in let l = s.3 in omega (arith, e, l)) in
        let o = (overdue-most v.ext.sem.bias).0 in let b = (r.each s.0 (seen v) at).reserved in let waited = (staged s.0 v p.1).waited late in
        let set_it = is-set v.ext.sem.stage v.hand.task v.ext.sem.rest waited (busy-one s.0 (seen v) at (omega (arith, late, o, b))) in omega (arith, set_it, unset))
  ]

  -- a writer that is to set WAITERS
  abbrev pub Begins : Type 0
  Begins = (j : ℕ) × (v : V) × (get_elem? vs j ≡ some v) × (v.ext.sem.stage ≡ First) × (length q ≡ 1)

  -- nobody waits; or a bias is in transit; or a pass holds alone that has taken from the list; or a writer is to set WAITERS
  abbrev pub Unset : Type 0
  Unset = (first_code q ≡ 0) ⊎ (1 ≤ total kept_of sees') ⊎ ((j : ℕ) × (v : V) × (get_elem? vs j ≡ some v) × (v.ext.sem.stage ≡ Took) × (v.hand.held ≡ Alone)) ⊎ Begins

  pub unset-is : Unset
  unset-is = elim (now-is sees') [
    | inl none ↦ inl (let f : FlagsOf nobody (n / 2 % 2) (n / 4 % 2) q marks grants = subst (λ (z : SemPart). FlagsOf z (n / 2 % 2) (n / 4 % 2) q marks grants) none r.flags in
        no-waiters q (let w = f.waiters in omega (arith, w, unset)))
    | inr (j, x, at, is) ↦ let p = at_unmap seen vs j x at in let f : FlagsOf (seen p.0) (n / 2 % 2) (n / 4 % 2) q marks grants =
        subst (λ (z : SemPart). FlagsOf z (n / 2 % 2) (n / 4 % 2) q marks grants) (is ∙ sym p.2) r.flags in by-stage j p.0 p.1 p.0.ext.sem.stage refl f
  ]
    where
      by-stage : (j : ℕ) (v : V) → get_elem? vs j ≡ some v → (s : Stage) → v.ext.sem.stage ≡ s → FlagsAt s v.hand.task v.ext.sem.rest (n / 2 % 2) (n / 4 % 2) q marks grants → Unset
      by-stage j v at Rest is f = inl (no-waiters q (let w = f.waiters in omega (arith, w, unset)))
      by-stage j v at Armed is f = inl (no-waiters q (let w = f.0.waiters in omega (arith, w, unset)))
      by-stage j v at (Joining true) is f = inr (inl (let t = (staged j v at).joining true is in let k = (overdue-most v.ext.sem.bias).2 in
          let a = total-at kept_of sees' j (seen v) (at_map seen vs j v at) in omega (arith, t, k, a)))
      by-stage j v at (Joining false) is f = inl (no-waiters q (let w = f.waiters in omega (arith, w, unset)))
      by-stage j v at First is f = inr (inr (inr (j, v, at, is, f.3)))
      by-stage j v at Marking is f = absurd (let w = f.0 in omega (arith, w, unset))
      by-stage j v at Took is f = inr (inr (inl (j, v, at, is, (staged j v at).took is)))
      by-stage j v at Removed is f = inl (no-waiters q (let w = f.1 in omega (arith, w, unset)))
      by-stage j v at Emptied is f = absurd (let w = f.0 in omega (arith, w, unset))
      by-stage j v at (Overdue x) is f = absurd (let w = is-set (Overdue x) v.hand.task v.ext.sem.rest refl f in omega (arith, w, unset))
      by-stage j v at (Marked x) is f = absurd (let w = f.0 in omega (arith, w, unset))
      by-stage j v at Removing is f = absurd (let w = f.0 in omega (arith, w, unset))
      by-stage j v at Summing is f = absurd (let w = f.0 in omega (arith, w, unset))
      by-stage j v at (Counted x) is f = absurd (let w = f.0 in omega (arith, w, unset))
      by-stage j v at Granting is f = inl (no-waiters q (let w = f.waiters in omega (arith, w, unset)))

  -- that writer is the first, and tries before it sleeps
  pub begins-awake : Begins → (t : ℕ) → first_code q ≡ t + 1 → 1 ≤ wakes_first words q (map (duty_seen grants) vs) t
  begins-awake (j, v, at, is, alone) t first = by-task v.hand.task refl
    where
      there-it : get_elem? sees' j ≡ some (seen v)
      there-it = at_map seen vs j v at

      stands : (v.ext.wake.wait_state ≡ Awake) × (v.ext.sem.wait ≡ Writes)
      stands = (staged j v at).first is

      by-task : (task : Option ℕ) → v.hand.task ≡ task → 1 ≤ wakes_first words q (map (duty_seen grants) vs) t
      by-task None none = absurd (let z = (r.each j (seen v) there-it).numbered none in let e : begun_weight First ≡ begun_weight Rest = ap begun_weight (sym is ∙ z.2) in omega (arith, e))
      by-task (Some own) has = let one : writes_at own (seen v) ≡ 1 = (λ i. named_weight own (has i) (writes_weight (stands.1 i))) ∙ is_number-here own in
          let m = total-at (writes_at own) sees' j (seen v) there-it in let w = r.writes own in
          let only = alone-writer q alone (let a : total (writer_at own) q ≡ total (writes_at own) sees' = w in omega (arith, one, m, a)) in let same : t ≡ own = (let a = only.0 in
          omega (arith, a, first)) in
          let end_sleep : wakes_it t (duty_seen grants v) ≡ chose t (duty_seen grants v) + 1 =
          ap (λ (z : ℕ). chose t (duty_seen grants v) + z) ((λ i. where_so (writes_weight (stands.1 i)) (awake t (has i) (stands.0 i)))
          ∙ (ap (λ (z : ℕ). is_number z (Some own)) same ∙ is_number-here own)) in
          let a = total-at (wakes_it t) (map (duty_seen grants) vs) j (duty_seen grants v) (at_map (duty_seen grants) vs j v at) in
          let up : wakes_first words q (map (duty_seen grants) vs) t ≡ total (wakes_it t) (map (duty_seen grants) vs) + wake_word words t =
          ap (λ (z : ℕ). where_so z (total (wakes_it t) (map (duty_seen grants) vs) + wake_word words t)) only.1 in omega (arith, end_sleep, a, up)
        where
          alone-writer : (l : List Waiter) → length l ≡ 1 → 1 ≤ total (writer_at own) l → (first_code l ≡ own + 1) × (first_writes l ≡ 1)
          alone-writer [] e more = absurd (omega (arith, e))
          alone-writer (x ∷ y ∷ l) e more = absurd (omega (arith, e))
          alone-writer (x ∷ []) e more = by-kind x.writer refl
            where
              by-kind : (b : Bool) → x.writer ≡ b → (first_code (x ∷ []) ≡ own + 1) × (first_writes (x ∷ []) ≡ 1)
              by-kind false kind = absurd (let z : writer_at own x ≡ 0 * bit (x.task == own) = ap (λ (c : Bool). bit c * bit (x.task == own)) kind in omega (arith, z, more))
              by-kind true kind = let z : writer_at own x ≡ 1 * bit (x.task == own) = ap (λ (c : Bool). bit c * bit (x.task == own)) kind in dite (ℕ_discrete x.task own)
                  (λ same. (omega (arith, same), ap bit kind))
                  (λ other. absurd (let n : bit (x.task == own) ≡ 0 = ap bit (ne_eqb x.task own other) in omega (arith, z, n, more)))

-- a step on the count by which a pass that waits for nothing changes how it holds and its bias
module _ (words grants marks : List ℕ) (n n' : ℕ) (q : List Waiter) (vs : List V) (id : ℕ) (v : V) (d : Duties words grants q vs) (at : get_elem? vs id ≡ some v)
    (r : SemKept n q marks grants (map seen vs)) (h : Hand) (b : Bias)
    (r' : SemKept n' q marks grants (set (map seen vs) id (record { task = h.task; held = h.held; sem = record v.ext.sem { bias = b } }))) (may : may_count v (part h b)) (task : h.task ≡ v.hand.task)
    (own : ℕ) (has : v.hand.task ≡ Some own) (flags : n' / 2 % 2 ≡ n / 2 % 2)
    (left : v.hand.held ≢ No → h.held ≢ v.hand.held → h.freed ≡ n') where
  abbrev w : V
  w = record v { hand = h; steps = v.steps + 1; ext = biased v h b }

  abbrev u : SemPart
  u = seen w

  abbrev seens' : List SemPart
  seens' = map seen vs

  abbrev ps' : List DutyPart
  ps' = map (duty_seen grants) vs

  abbrev p' : DutyPart
  p' = duty_seen grants v

  mine' : get_elem? seens' id ≡ some (seen v)
  mine' = at_map seen vs id v at

  there' : get_elem? ps' id ≡ some p'
  there' = at_map (duty_seen grants) vs id v at

  sem-ok : SemPartOk (seen v)
  sem-ok = r.each id (seen v) mine'

  -- it reserves no bias, before the step and behind it
  unreserved : reserve_weight v.ext.sem.bias ≡ 0
  unreserved = let a = sem-ok.reserved in let e : busy_weight v.ext.sem.stage ≡ 0 = ap busy_weight may.4 in omega (arith, a, e)

  kept-before : kept_of (seen v) ≡ transit_of (seen v)
  kept-before = kept-transit v.ext.sem.bias unreserved

  kept-after : kept_of u ≡ transit_of u
  kept-after = kept-transit b may.2

  late-before : overdue_of (seen v) ≡ 0
  late-before = let a = (overdue-most v.ext.sem.bias).0 in let e = unreserved in omega (arith, a, e)

  late-after : overdue_of u ≡ 0
  late-after = let a = (overdue-most b).0 in let e = may.2 in omega (arith, a, e)

  granted-same : granted_of grants u ≡ granted_of grants (seen v)
  granted-same = ap (λ (z : Option ℕ). granted_weight grants z v.ext.sem.wait) task

  -- its part behind the step is this one
  is-part : (alone guards : ℕ) (owing : Bool) → alone ≡ alone_of u → guards ≡ guards_of grants u → owing ≡ w.ext.wake.owing → recounted p' alone guards p'.late owing ≡ duty_seen grants w
  is-part alone guards owing a g o = λ i. record {
    task = sym task i;
    alone = a i;
    guards = g i;
    late = (late-before ∙ sym late-after) i;
    writes = writes_of (seen v);
    granted =
        sym granted-same i;
    rest = v.ext.sem.rest;
    wake = record v.ext.wake { owing = o i };
  }

  after-by : (alone guards : ℕ) (owing : Bool) → alone ≡ alone_of u → guards ≡ guards_of grants u → owing ≡ w.ext.wake.owing → DutyKept words q (set ps' id (recounted p' alone guards p'.late owing))
      → DutyKept words q (set ps' id (duty_seen grants w))
  after-by alone guards owing a g o = subst (λ (z : DutyPart). DutyKept words q (set ps' id z)) (is-part alone guards owing a g o)

  abbrev owes_now : Bool
  owes_now = owes_after v.hand.held h.held h.freed v.ext.wake.owing

  -- its debt stays
  by-guards : guards_of grants (seen v) ≤ guards_of grants u → alone_of u ≡ alone_of (seen v) → owes_now ≡ v.ext.wake.owing → DutyKept words q (set ps' id (duty_seen grants w))
  by-guards more alone owing = after-by p'.alone (guards_of grants u) p'.wake.owing (sym alone) refl (sym owing) (duty-guards words q ps' id p' d.0 there' (guards_of grants u) more)

  by-writes : alone_of u ≡ 1 → owes_now ≡ v.ext.wake.owing → DutyKept words q (set ps' id (duty_seen grants w))
  by-writes alone owing = after-by 1 (guards_of grants u) p'.wake.owing (sym alone) refl (sym owing) (duty-writes words q ps' id p' d.0 there' (guards_of grants u))

  by-debt : owes_now ≡ true → DutyKept words q (set ps' id (duty_seen grants w))
  by-debt owing = after-by (alone_of u) (guards_of grants u) true refl refl (sym owing) (duty-owes words q ps' id p' d.0 there' (alone_of u) (guards_of grants u) p'.late own has)

  abbrev ended : DutyPart
  ended = recounted p' (alone_of u) (guards_of grants u) p'.late false

  -- how many are counted behind the step
  field-after : n' / 256 ≡ total (guards_of grants) (set seens' id u) + total overdue_of (set seens' id u)
  field-after = field-is (set seens' id u) r'

  guards-after : total (λ (o : DutyPart). o.guards) (set ps' id ended) ≡ total (guards_of grants) (set seens' id u)
  guards-after = let G = total-set (λ (o : DutyPart). o.guards) ps' id p' ended there' in let g = guards-are seen (λ (x : V). x.ext.wake) grants vs in
      let G' = total-set (guards_of grants) seens' id (seen v) u mine' in omega (arith, G, g, G')

  alone-after : total alone_in_duty (set ps' id ended) ≡ total alone_of (set seens' id u)
  alone-after = let A = total-set alone_in_duty ps' id p' ended there' in let a = alone-are seen (λ (x : V). x.ext.wake) grants vs in let A' = total-set alone_of seens' id (seen v) u mine' in
      omega (arith, A, a, A')

  -- no bias came under a writer, where WAITERS isn't set
  no-late : n' / 2 % 2 ≡ 0 → total late_in_duty (set ps' id ended) ≡ 0
  no-late unset = let z = none-late words grants marks n q vs r d.1 (sym flags ∙ unset) in let l = late-are seen (λ (x : V). x.ext.wake) grants vs in
      let L = total-set late_in_duty ps' id p' ended there' in omega (arith, z, l, L)

  -- nobody is left to write, or to be counted
  by-ended : owes_now ≡ false → n' / 2 % 2 ≡ 0 → ((t : ℕ) → first_code q ≡ t + 1 → (1 ≤ total attends (set ps' id ended)) ⊎ (1 ≤ wakes_first words q ps' t))
      → DutyKept words q (set ps' id (duty_seen grants w))
  by-ended owing unset first = after-by (alone_of u) (guards_of grants u) false refl refl (sym owing)
      (duty-ends words q ps' id p' d.0 there' (alone_of u) (guards_of grants u) p'.late first (no-late unset))

  has-none : has_waiters n' ≡ false → n' / 2 % 2 ≡ 0
  has-none unset = elim (ℕ_discrete (n' / 2 % 2) 1) [ yes one ↦ not-both (has_waiters n') unset (eq-eqb (n' / 2 % 2) 1 one) | no other ↦ omega (arith, other) ]

  -- a pass that took from the list holds alone, and isn't this one
  other-takes : {P : Type 0} → ((j : ℕ) × (x : V) × (get_elem? vs j ≡ some x) × (x.ext.sem.stage ≡ Took) × (x.hand.held ≡ Alone)) → 1 ≤ alone_of (seen v) + shared_of (seen v) → P
  other-takes (j, x, at', stage, alone) holds = absurd (let w_is = writer-is seens' r in let m = total-two alone_of seens' j id (seen x) (seen v) (at_map seen vs j x at') mine' apart in
      let a : alone_of (seen x) ≡ 1 = ap alone_weight alone in let one : n % 2 ≤ 1 = omega arith in
      let ap' = r.count.apart in let s = total-at shared_of seens' id (seen v) mine' in elim (native.Mathlib.Decide.dec_le 1 (alone_of (seen v))) [
        | yes mine_too ↦ omega (arith, w_is, m, a, one, mine_too)
        | no not_mine ↦ let x_alone = total-at alone_of seens' j (seen x) (at_map seen vs j x at') in let none = ap' (omega (arith, w_is, x_alone, a)) in let e = shareds seens' in
            omega (arith, none, e, s, holds, not_mine)
      ])
    where
      apart : j ≢ id
      apart same = let e : x ≡ v = some-injective x v (sym at' ∙ (ap (get_elem? vs) same ∙ at)) in
          let z : begun_weight Took ≡ begun_weight Rest = ap begun_weight (sym stage ∙ (ap (λ (y : V). y.ext.sem.stage) e ∙ may.4)) in omega (arith, z)

      shareds : (xs : List SemPart) → total shared_in (map part_of xs) ≡ total shared_of xs
      shareds [] = refl
      shareds (y ∷ ys) = let e = shareds ys in omega (arith, e)

  attends-guards : (xs : List DutyPart) → total (λ (o : DutyPart). o.guards) xs + total alone_in_duty xs ≤ total attends xs
  attends-guards [] = omega arith
  attends-guards (y ∷ ys) = let e = attends-guards ys in omega (arith, e)

  -- it ends its hold while WAITERS isn't set
  first-unset : n' / 2 % 2 ≡ 0 → 1 ≤ alone_of (seen v) + shared_of (seen v) → kept_of (seen v) ≡ 0 → (t : ℕ) → first_code q ≡ t + 1 → (1 ≤ total attends (set ps' id ended))
      ⊎ (1 ≤ wakes_first words q ps' t)
  first-unset unset holds bare t first = let before : n / 2 % 2 ≡ 0 = sym flags ∙ unset in elim (unset-is words grants marks n q vs r d.1 before) [
    | inl none ↦ absurd (omega (arith, none, first))
    | inr more ↦ elim more [
      | inl kept ↦ inl (let K = total-set kept_of seens' id (seen v) u mine' in let g = guards-after in let c = kept-guards (set seens' id u) in let s = attends-guards (set ps' id ended) in
          omega (arith, kept, K, bare, g, c, s))
      | inr rest ↦ elim rest [ inl takes ↦ other-takes takes holds | inr begins ↦ inr (begins-awake words grants marks n q vs r d.1 before begins t first) ]
    ]
  ]
    where
      kept-guards : (xs : List SemPart) → total kept_of xs ≤ total (guards_of grants) xs
      kept-guards [] = omega arith
      kept-guards (y ∷ ys) = let e = kept-guards ys in omega (arith, e)

  -- whoever else is counted attends
  left-attends : is_left n' ≡ false → 1 ≤ total attends (set ps' id (recounted p' (alone_of u) (guards_of grants u) p'.late false)) + total late_in_duty ps'
  left-attends held = let a = not-left n' held in let f = field-after in let z = writer-is (set seens' id u) r' in let g = guards-after in let c = alone-after in
      let s = attends-guards (set ps' id ended) in let O = total-set overdue_of seens' id (seen v) u mine' in let l = late-are seen (λ (x : V). x.ext.wake) grants vs in let lb = late-before in
      let la = late-after in omega (arith, a, f, z, g, c, s, O, l, lb, la)

  kept-apart : 1 ≤ held_weight v.hand.held → kept_of (seen v) ≡ 0
  kept-apart holds = let a = sem-ok.apart in let k = kept-before in omega (arith, a, k, holds)

  -- by how it held, and holds behind the step
  by-holds : (x y : Held) → v.hand.held ≡ x → h.held ≡ y → DutyKept words q (set ps' id (duty_seen grants w))
  by-holds No No was is = by-guards (let s : shared_of (seen v) ≡ 0 = ap shared_weight was in let s' : shared_of u ≡ 0 = ap shared_weight is in let k = kept-before in let k' = kept-after in
      let m = may.6 in let g = granted-same in omega (arith, s, s', k, k', m, g)) (ap alone_weight is ∙ sym (ap alone_weight was)) (λ i. owes_after (was i) h.held h.freed v.ext.wake.owing)
  by-holds No Shared was is = by-guards (let s : shared_of (seen v) ≡ 0 = ap shared_weight was in let s' : shared_of u ≡ 1 = ap shared_weight is in let k = (overdue-most v.ext.sem.bias).1 in
      let g = granted-same in omega (arith, s, s', k, g)) (ap alone_weight is ∙ sym (ap alone_weight was)) (λ i. owes_after (was i) h.held h.freed v.ext.wake.owing)
  by-holds No Alone was is = by-writes (ap alone_weight is) (λ i. owes_after (was i) h.held h.freed v.ext.wake.owing)
  by-holds Shared Shared was is = by-guards (let s : shared_of (seen v) ≡ 1 = ap shared_weight was in let s' : shared_of u ≡ 1 = ap shared_weight is in
      let k = kept-apart (let e : held_weight v.hand.held ≡ 1 = ap held_weight was in omega (arith, e)) in let g = granted-same in
      omega (arith, s, s', k, g)) (ap alone_weight is ∙ sym (ap alone_weight was)) (λ i. owes_after (was i) (is i) h.freed v.ext.wake.owing)
  by-holds Shared Alone was is = by-writes (ap alone_weight is) (λ i. owes_after (was i) (is i) h.freed v.ext.wake.owing)
  by-holds Alone Alone was is = by-writes (ap alone_weight is) (λ i. owes_after (was i) (is i) h.freed v.ext.wake.owing)
  by-holds Alone Shared was is = let freed = left (λ e. differs-held (sym was ∙ e)) (λ e. differs-shared (sym is ∙ (e ∙ was))) in
      let owes_is : owes_now ≡ has_waiters n' = λ i. owes_after (was i) (is i) (freed i) v.ext.wake.owing in false-or-true (has_waiters n')
      (λ waited. by-debt (owes_is ∙ waited))
      (λ none. by-ended (owes_is ∙ none) (has-none none) (λ t first. inl
      (let s' : shared_of u ≡ 1 = ap shared_weight is in let a = total-at attends (set ps' id ended) id ended (set-there ps' id p' ended there') in omega (arith, s', a))))
    where
      differs-held : Alone ≡ No → ⊥
      differs-held e = let z : held_weight Alone ≡ held_weight No = ap held_weight e in omega (arith, z)

      differs-shared : Shared ≡ Alone → ⊥
      differs-shared e = let z : alone_weight Shared ≡ alone_weight Alone = ap alone_weight e in omega (arith, z)
  by-holds Alone No was is = let freed = left (λ e. differs-held (sym was ∙ e)) (λ e. differs-no (sym is ∙ (e ∙ was))) in
      let owes_is : owes_now ≡ has_waiters n' = λ i. owes_after (was i) (is i) (freed i) v.ext.wake.owing in false-or-true (has_waiters n')
      (λ waited. by-debt (owes_is ∙ waited))
      (λ none. by-ended (owes_is ∙ none) (has-none none) (first-unset (has-none none) (let a : alone_of (seen v) ≡ 1 = ap alone_weight was in omega (arith, a))
      (kept-apart (let e : held_weight v.hand.held ≡ 1 = ap held_weight was in omega (arith, e)))))
    where
      differs-held : Alone ≡ No → ⊥
      differs-held e = let z : held_weight Alone ≡ held_weight No = ap held_weight e in omega (arith, z)

      differs-no : No ≡ Alone → ⊥
      differs-no e = let z : held_weight No ≡ held_weight Alone = ap held_weight e in omega (arith, z)
  by-holds Shared No was is = let freed = left (λ e. differs-held (sym was ∙ e)) (λ e. differs-no (sym is ∙ (e ∙ was))) in
      let owes_is : owes_now ≡ (has_waiters n' && is_left n') = λ i. owes_after (was i) (is i) (freed i) v.ext.wake.owing in false-or-true (is_left n')
      (λ alone_it. false-or-true (has_waiters n')
      (λ waited. by-debt (owes_is ∙ ((λ i. waited i && is_left n') ∙ alone_it)))
      (λ none. by-ended (owes_is ∙ (λ i. none i && is_left n')) (has-none none)
      (first-unset (has-none none) (let s : shared_of (seen v) ≡ 1 = ap shared_weight was in omega (arith, s))
      (kept-apart (let e : held_weight v.hand.held ≡ 1 = ap held_weight was in omega (arith, e))))))
      (λ counted_still. after-by (alone_of u) (guards_of grants u) false refl refl (sym (owes_is ∙ false-right (has_waiters n') counted_still))
      (by-others counted_still))
    where
      differs-held : Shared ≡ No → ⊥
      differs-held e = let z : held_weight Shared ≡ held_weight No = ap held_weight e in omega (arith, z)

      differs-no : No ≡ Shared → ⊥
      differs-no e = let z : held_weight No ≡ held_weight Shared = ap held_weight e in omega (arith, z)

      false-right : (c : Bool) → is_left n' ≡ false → (c && is_left n') ≡ false
      false-right true e = e
      false-right false e = refl

      same-alone : alone_of u ≡ p'.alone
      same-alone = ap alone_weight is ∙ sym (ap alone_weight was)

      by-others : is_left n' ≡ false → DutyKept words q (set ps' id ended)
      by-others held = let s = left-attends held in let as-let-go : ended ≡ recounted p' p'.alone (guards_of grants u) p'.late p'.wake.owing =
          λ i. recounted p' (same-alone i) (guards_of grants u) p'.late (sym may.5 i) in
          subst (λ (z : DutyPart). DutyKept words q (set ps' id z)) (sym as-let-go)
          (duty-lets-go words q ps' id p' d.0 there' (guards_of grants u) (subst (λ (z : DutyPart). 1 ≤ total attends (set ps' id z) + total late_in_duty ps') as-let-go s))

  pub duties-counted : Duties words grants q (set vs id w)
  duties-counted = duties-by words grants q vs id v d at words q w (by-holds v.hand.held h.held refl refl) (staged-rest u w.ext.wake Rest may.4 refl (inl late-after))

if-same : {A : Type 0} (P : A → Type 0) (c : Bool) (x y : A) → P x → P y → P (if c then x else y)
if-same P true x y a b = a
if-same P false x y a b = b

-- a step on the list by the pass that has the wait lock
module _ (words grants marks : List ℕ) (n : ℕ) (q : List Waiter) (vs : List V) (id : ℕ) (v : V) (d : Duties words grants q vs) (at : get_elem? vs id ≡ some v)
    (r : SemKept n q marks grants (map seen vs)) (own : ℕ) (has : v.hand.task ≡ Some own) (only : total busy_of (map seen vs) ≡ busy_of (seen v)) where
  abbrev lps : List DutyPart
  lps = map (duty_seen grants) vs

  abbrev lp : DutyPart
  lp = duty_seen grants v

  lthere : get_elem? lps id ≡ some lp
  lthere = at_map (duty_seen grants) vs id v at

  late-own : total late_in_duty lps ≡ overdue_of (seen v)
  late-own = late-are seen (λ (x : V). x.ext.wake) grants vs ∙ overdue-only (map seen vs) id (seen v) (at_map seen vs id v at) r.each only

  unnumbered : v.hand.task ≢ None
  unnumbered none = none-some own (sym none ∙ has)

  not-reading : (z : Wait) → reads_weight z ≡ 0 → granted_weight grants v.hand.task z ≡ 0
  not-reading z none = ap (λ (t : Option ℕ). granted_weight grants t z) has ∙ by-wait z none
    where
      by-wait : (z : Wait) → reads_weight z ≡ 0 → granted_weight grants (Some own) z ≡ 0
      by-wait Apart none = refl
      by-wait Writes none = refl
      by-wait Reads none = absurd (omega (arith, none))

  -- it appends itself
  pub duties-enter : (x : Waiter) (b : ListHand) → v.hand.task ≡ Some x.task → v.ext.sem.wait ≡ Apart → MayJoin x.writer v.ext.sem → (x.writer ≡ false → 1 ≤ get_or grants own 0)
      → Duties words grants (q ++ x ∷ []) (set vs id (listed with_list (Enter x) v b))
  duties-enter x b task apart join unwoken = by-kind x.writer refl join
    where
      y : V
      y = listed with_list (Enter x) v b

      unwaiting : granted_of grants (seen v) ≡ 0
      unwaiting = not-reading v.ext.sem.wait (ap reads_weight apart)

      enters : (wait : Wait) (stage : Stage) (from : Stage) → v.ext.sem.stage ≡ from → granting_weight from (length v.ext.sem.rest) ≡ 0 → y.ext.sem ≡ record v.ext.sem { wait = wait; stage = stage }
          → granting_weight stage (length v.ext.sem.rest) ≡ 0 → writes_weight wait ≡ bit x.writer → granted_weight grants v.hand.task wait ≡ 0 → (x.writer ≡ false → 1 ≤ lp.guards) → IsStaged y
          → Duties words grants (q ++ x ∷ []) (set vs id y)
      enters wait stage from at-stage none is none' writes ungranted guards staged_y = duties-by words grants q vs id v d at words (q ++ x ∷ []) y
          (subst (λ (z : DutyPart). DutyKept words (q ++ x ∷ []) (set lps id z)) part-is (duty-enters words q lps id lp d.0 lthere x task unwaiting (ap writes_weight apart) guards)) staged_y
        where
          granting-none : granting_of (seen v) ≡ 0
          granting-none = ap (λ (z : Stage). granting_weight z (length v.ext.sem.rest)) at-stage ∙ none

          same-guards : lp.guards ≡ guards_of grants (seen y)
          same-guards = let a : shared_of (seen y) ≡ shared_of (seen v) = refl in let c : kept_of (seen y) ≡ kept_of (seen v) = ap (λ (z : SemHand). kept_weight z.bias) is in
              let e : granted_of grants (seen y) ≡ 0 = ap (λ (z : SemHand). granted_weight grants v.hand.task z.wait) is ∙ ungranted in
              let f : granting_of (seen y) ≡ 0 = ap (λ (z : SemHand). granting_weight z.stage (length z.rest)) is ∙ none' in let u = unwaiting in let g = granting-none in
              omega (arith, a, c, e, f, u, g)

          part-is : entering lp x ≡ duty_seen grants y
          part-is = λ i. record {
            task = v.hand.task;
            alone = lp.alone;
            guards = same-guards i;
            late = ap (λ (z : SemHand). overdue_weight z.bias) (sym is) i;
            writes = (sym writes ∙ ap (λ (z : SemHand). writes_weight z.wait) (sym is)) i;
            granted = (unwaiting ∙ sym (ap (λ (z : SemHand). granted_weight grants v.hand.task z.wait) is ∙ ungranted)) i;
            rest = ap (λ (z : SemHand). z.rest) (sym is) i;
            wake = record v.ext.wake { wait_state = Awake };
          }

      by-kind : (kind : Bool) → x.writer ≡ kind → MayJoin kind v.ext.sem → Duties words grants (q ++ x ∷ []) (set vs id y)
      by-kind true writer may = let is : y.ext.sem ≡ record v.ext.sem { wait = Writes; stage = if length b.list == 1 then First else Rest } =
          ap (λ (k : Bool). joined k (length b.list) v.ext.sem) writer in
          enters Writes (if length b.list == 1 then First else Rest) Rest may.0 refl is
          (if-same (λ (s : Stage). granting_weight s (length v.ext.sem.rest) ≡ 0) (length b.list == 1) First Rest refl refl) (sym (ap bit writer)) (not-reading Writes refl)
          (λ reads. not-both x.writer reads writer)
          (subst (λ (z : SemHand). StageOk (record (seen v) { sem = z }) y.ext.wake) (sym is)
          (if-same (λ (s : Stage). StageOk (record (seen v) { sem = record v.ext.sem { wait = Writes; stage = s } }) y.ext.wake) (length b.list == 1) First Rest
          record {
            joining = λ c e. absurd (let z : first_weight First ≡ first_weight (Joining c) = ap first_weight e in omega (arith, z));
            first = λ _. (refl, refl);
            took =
                λ e. absurd (let z : first_weight First ≡ first_weight Took = ap first_weight e in omega (arith, z));
            waited =
                λ some_l. absurd (let z : overdue_weight v.ext.sem.bias ≡ 0 = ap overdue_weight may.1 in omega (arith, some_l, z));
          }
          (staged-rest (record (seen v) { sem = record v.ext.sem { wait = Writes; stage = Rest } }) y.ext.wake Rest refl refl (inl (ap overdue_weight may.1)))))
        where
          first_weight : Stage → ℕ
          first_weight First = 1
          first_weight _ = 0
      by-kind false writer may = let is : y.ext.sem ≡ record v.ext.sem { wait = Reads; stage = Joining (length b.list == 1) } = ap (λ (k : Bool). joined k (length b.list) v.ext.sem) writer in
          enters Reads (Joining (length b.list == 1)) Armed may.0 refl is refl (sym (ap bit writer))
          (ap (λ (t : Option ℕ). granted_weight grants t Reads) has ∙ (let a = unwoken writer in not-zero (get_or grants own 0) a))
          (λ _. let k : kept_of (seen v) ≡ 1 = ap kept_weight may.1.1 in omega (arith, k))
          (subst (λ (z : SemHand). StageOk (record (seen v) { sem = z }) y.ext.wake) (sym is)
          record {
            joining = λ c e. (let t : transit_weight v.ext.sem.bias ≡ 1 = ap transit_weight may.1.1 in omega (arith, t));
            first =
                λ e. absurd (let z : joins_weight (Joining (length b.list == 1)) ≡ joins_weight First = ap joins_weight e in omega (arith, z));
            took =
                λ e. absurd (let z : joins_weight (Joining (length b.list == 1)) ≡ joins_weight Took = ap joins_weight e in omega (arith, z));
            waited =
                λ some_l. absurd (let z : overdue_weight v.ext.sem.bias ≡ 0 = ap overdue_weight may.1.1 in omega (arith, some_l, z));
          })
        where
          joins_weight : Stage → ℕ
          joins_weight (Joining c) = 1
          joins_weight _ = 0

          not-zero : (m : ℕ) → 1 ≤ m → is_zero m ≡ 0
          not-zero zero l = absurd (omega (arith, l))
          not-zero (suc m) l = refl

  -- it leaves the list at this stage
  leaves : (y : V) (stage : Stage) (owing : Bool) (t : ℕ) → v.hand.task ≡ Some t
      → y ≡ record v { steps = y.steps; ext = record { list = y.ext.list; sem = gone stage v.ext.sem; appends = y.ext.appends; wake = leaves_wake owing v.ext.wake } } → granting_of (seen v) ≡ 0
      → granting_weight stage (length v.ext.sem.rest) ≡ 0 → granted_of grants (seen v) ≡ 0
      → begun_weight stage ≡ 0 → overdue_of (seen v) ≡ 0 → owes lp ≤ bit owing → (owing ≡ true) ⊎ (1 ≤ lp.alone) ⊎ (first_code q ≢ t + 1) → Duties words grants (without t q) (set vs id y)
  leaves y stage owing t task is none none' ungranted unbegun late still why = duties-by words grants q vs id v d at words (without t q) y
      (subst (λ (z : DutyPart). DutyKept words (without t q) (set lps id z)) part-is (duty-leaves words q lps id lp d.0 lthere t owing task still why))
      (subst (λ (z : V). IsStaged z) (sym is) (staged-rest (seen (record v
      { steps = y.steps; ext = record { list = y.ext.list; sem = gone stage v.ext.sem; appends = y.ext.appends; wake = leaves_wake owing v.ext.wake } })) (leaves_wake owing v.ext.wake) stage refl
      unbegun (inl late)))
    where
      apart-none : granted_weight grants v.hand.task Apart ≡ 0
      apart-none = not-reading Apart refl

      part-is : leaving lp owing ≡ duty_seen grants y
      part-is = (λ i. record {
        task = v.hand.task;
        alone = lp.alone;
        guards = (let e : lp.guards ≡ shared_of (seen v) + kept_of (seen v) + granted_weight grants v.hand.task Apart + granting_weight stage (length v.ext.sem.rest) =
            (let a = apart-none in omega (arith, none, none', ungranted, a)) in e) i;
        late = lp.late;
        writes = 0;
        granted = sym apart-none i;
        rest = v.ext.sem.rest;
        wake = leaves_wake owing v.ext.wake;
      }) ∙ ap (duty_seen grants) (sym is)

  pub duties-leave-taken : (t : ℕ) (b : ListHand) → LeavesTaken v t → Duties words grants (without t q) (set vs id (listed with_list (Leave t) v b))
  duties-leave-taken t b may = let y : V = listed with_list (Leave t) v b in
      leaves y Removed v.ext.wake.owing t may.1 (λ i. record y {
        ext =
            record { list = b; sem = parted (may.0 i) v.ext.sem.wait t (length b.list) v.ext.sem; appends = v.ext.appends; wake = parted_wake (may.0 i) v.ext.sem.wait t v.ext.wake };
      })
      (ap (λ (z : Stage). granting_weight z (length v.ext.sem.rest)) may.0) refl (not-reading v.ext.sem.wait (ap reads_weight may.2)) refl (ap overdue_weight may.3) (omega arith)
      (inr (inl (let e : alone_weight v.hand.held ≡ 1 = ap alone_weight ((d.1 id v at).took may.0) in omega (arith, e))))

  pub duties-leave-first : (t : ℕ) (b : ListHand) → LeavesFirst v q t → granted_of grants (seen v) ≡ 0 → Duties words grants (without t q) (set vs id (listed with_list (Leave t) v b))
  duties-leave-first t b may ungranted = let y : V = listed with_list (Leave t) v b in
      leaves y (if length b.list == 0 then Emptied else Rest) true t may.0.0
      (λ i. record y {
        ext = record {
          list = b;
          sem = parted (may.1 i) v.ext.sem.wait t (length b.list) v.ext.sem;
          appends = v.ext.appends;
          wake =
              parted_wake (may.1 i) v.ext.sem.wait t v.ext.wake;
        };
      }) (ap (λ (z : Stage). granting_weight z (length v.ext.sem.rest)) may.1)
      (if-same (λ (s : Stage). granting_weight s (length v.ext.sem.rest) ≡ 0) (length b.list == 0) Emptied Rest refl refl) ungranted
      (if-same (λ (s : Stage). begun_weight s ≡ 0) (length b.list == 0) Emptied Rest refl refl) (ap overdue_weight may.0.1) (bit-most lp.wake.owing) (inl refl)
    where
      bit-most : (c : Bool) → bit c ≤ 1
      bit-most true = omega arith
      bit-most false = omega arith

  pub duties-leave-behind : (t : ℕ) (b : ListHand) → LeavesBehind v q t → granted_of grants (seen v) ≡ 0 → Duties words grants (without t q) (set vs id (listed with_list (Leave t) v b))
  duties-leave-behind t b may ungranted = let y : V = listed with_list (Leave t) v b in elim may.2 [
    | inl reads ↦ leaves y Rest v.ext.wake.owing t may.0.0 (λ i. record y
        { ext = record { list = b; sem = parted (reads.0 i) v.ext.sem.wait t (length b.list) v.ext.sem; appends = v.ext.appends; wake = parted_wake (reads.0 i) v.ext.sem.wait t v.ext.wake } })
        (ap (λ (z : Stage). granting_weight z (length v.ext.sem.rest)) reads.0) refl ungranted refl (ap overdue_weight may.0.1) (omega arith) (inr (inr may.1))
    | inr writes ↦ leaves y Rest v.ext.wake.owing t may.0.0 (λ i. record y
        { ext = record { list = b; sem = parted (writes.0 i) (writes.1 i) t (length b.list) v.ext.sem; appends = v.ext.appends; wake = parted_wake (writes.0 i) (writes.1 i) t v.ext.wake } })
        (ap (λ (z : Stage). granting_weight z (length v.ext.sem.rest)) writes.0) refl ungranted refl (ap overdue_weight may.0.1) (omega arith) (inr (inr may.1))
  ]

  -- it removes one more of its batch
  pub duties-pick : (t : ℕ) (b : ListHand) → MayPick v.ext.sem → KeepsOut sem_of v → t < MAX_TASKS → Duties words grants (without t q) (set vs id (listed with_list (Leave t) v b))
  duties-pick t b may keeps few = by-pick may
    where
      y : V
      y = listed with_list (Leave t) v b

      tight : overdue_of (seen v) ≡ 0
      tight = let a = late-overdue v.ext.sem.bias in let k = keeps.1 in omega (arith, a, k)
        where
          late-overdue : (c : Bias) → overdue_weight c ≤ late_weight c
          late-overdue Clear = omega arith
          late-overdue (Transit m) = omega arith
          late-overdue (Reserve m) = omega arith

      guarded : 1 ≤ lp.guards
      guarded = let a = early-kept v.ext.sem.bias in let k = keeps.0 in omega (arith, a, k)
        where
          early-kept : (c : Bias) → early_weight c ≤ kept_weight c
          early-kept Clear = omega arith
          early-kept (Transit m) = omega arith
          early-kept (Reserve m) = omega arith

      picks : (from : Stage) → v.ext.sem.stage ≡ from → granting_weight from (length v.ext.sem.rest) ≡ 0
          → y ≡ record v { steps = y.steps; ext = record { list = b; sem = picked t v.ext.sem; appends = v.ext.appends; wake = chooses_task t v.ext.wake } }
          → Duties words grants (without t q) (set vs id y)
      picks from stage none is = duties-by words grants q vs id v d at words (without t q) y
          (subst (λ (z : DutyPart). DutyKept words (without t q) (set lps id z)) ((λ i. record {
            task = v.hand.task;
            alone = lp.alone;
            guards = (let e : lp.guards ≡ shared_of (seen v) + kept_of (seen v) + granted_of grants (seen v) + 0 =
                (let g : granting_of (seen v) ≡ 0 = ap (λ (z : Stage). granting_weight z (length v.ext.sem.rest)) stage ∙ none in omega (arith, g)) in e) i;
            late = lp.late;
            writes = lp.writes;
            granted = lp.granted;
            rest = v.ext.sem.rest ++ t ∷ [];
            wake = chooses_task t v.ext.wake;
          }) ∙ ap (duty_seen grants) (sym is)) (duty-picks words q lps id lp d.0 lthere t few unnumbered guarded (late-own ∙ tight)))
          (subst (λ (z : V). IsStaged z) (sym is) (staged-rest (seen (record v
          { steps = y.steps; ext = record { list = b; sem = picked t v.ext.sem; appends = v.ext.appends; wake = chooses_task t v.ext.wake } })) (chooses_task t v.ext.wake) Removing refl refl
          (inr refl)))

      by-pick : MayPick v.ext.sem → Duties words grants (without t q) (set vs id y)
      by-pick (inl is) = picks Rest is.0 refl (λ i. record y {
        ext = record
            { list = b; sem = parted (is.0 i) (is.1 i) t (length b.list) v.ext.sem; appends = v.ext.appends; wake = parted_wake (is.0 i) (is.1 i) t v.ext.wake };
      })
      by-pick (inr (inl (c, is))) = picks (Overdue c) is refl (λ i. record y
          { ext = record { list = b; sem = parted (is i) v.ext.sem.wait t (length b.list) v.ext.sem; appends = v.ext.appends; wake = parted_wake (is i) v.ext.sem.wait t v.ext.wake } })
      by-pick (inr (inr is)) = picks Removing is refl (λ i. record y {
        ext =
            record { list = b; sem = parted (is i) v.ext.sem.wait t (length b.list) v.ext.sem; appends = v.ext.appends; wake = parted_wake (is i) v.ext.sem.wait t v.ext.wake };
      })

  -- a look that pays for a wake, by a pass without a bias that knows the list
  pub duties-look : (m : ℕ) → v.ext.sem.bias ≡ Clear → v.ext.list.list ≡ q → AreTasks q
      → Duties words grants q (set vs id (record v { steps = m; ext = record v.ext { wake = looked true v.hand.held v.ext.list.list v.ext.wake } }))
  duties-look m clear known small = by-list q known refl small
    where
      Y : SemWake → V
      Y c = record v { steps = m; ext = record v.ext { wake = c } }

      none-behind : (x : DutyPart) → x.late ≡ lp.late → total late_in_duty (set lps id x) ≡ 0
      none-behind x same = let L = total-set late_in_duty lps id lp x lthere in let a = late-own in let z : overdue_of (seen v) ≡ 0 = ap overdue_weight clear in omega (arith, L, a, z, same)

      to-part : (c : SemWake) → DutyKept words q (set lps id (record lp { wake = c })) → c.wait_state ≡ v.ext.wake.wait_state → Duties words grants q (set vs id (Y c))
      to-part c kept wait_state = duties-by words grants q vs id v d at words q (Y c) kept (staged-same (seen v) (seen (Y c)) v.ext.wake c refl refl wait_state (d.1 id v at))

      pays-shared : v.hand.held ≡ Shared → DutyKept words q (set lps id (record lp { wake = paid v.ext.wake }))
      pays-shared held = subst (λ (z : ℕ). DutyKept words q (set lps id (record lp { late = z; wake = paid v.ext.wake }))) (sym (ap overdue_weight clear))
          (duty-pays words q lps id lp d.0 lthere lp.guards (let s : shared_weight v.hand.held ≡ 1 = ap shared_weight held in omega (arith, s))
          (none-behind (recounted lp lp.alone lp.guards 0 false) (sym (ap overdue_weight clear))))

      chooses : (x : Waiter) (l : List Waiter) → x.writer ≡ true → q ≡ x ∷ l → x.task < MAX_TASKS → DutyKept words q (set lps id (record lp { wake = chooses_task x.task v.ext.wake }))
      chooses x l kind known_q few = duty-chooses words q lps id lp d.0 lthere x.task few unnumbered (ap first_code known_q) (ap first_writes known_q ∙ ap bit kind)
          (late-own ∙ ap overdue_weight clear)

      by-held : (x : Waiter) (l : List Waiter) (held : Held) (kind : Bool) → v.hand.held ≡ held → x.writer ≡ kind → q ≡ x ∷ l → x.task < MAX_TASKS
          → Duties words grants q (set vs id (Y (looks_at held kind x.task v.ext.wake)))
      by-held x l held false is kind known_q few = to-part (looks_at held false x.task v.ext.wake)
          (subst (λ (z : SemWake). DutyKept words q (set lps id (record lp { wake = z }))) (sym (no-look held x.task v.ext.wake)) (stays-there))
          (ap (λ (z : SemWake). z.wait_state) (no-look held x.task v.ext.wake))
        where
          no-look : (held : Held) (t : ℕ) (c : SemWake) → looks_at held false t c ≡ c
          no-look No t c = refl
          no-look Shared t c = refl
          no-look Alone t c = refl

          stays-there : DutyKept words q (set lps id lp)
          stays-there = subst (DutyKept words q) (sym (set_again lps id lp lthere)) d.0
      by-held x l Shared true is kind known_q few = to-part (paid v.ext.wake) (pays-shared is) refl
      by-held x l No true is kind known_q few = to-part (chooses_task x.task v.ext.wake) (chooses x l kind known_q few) refl
      by-held x l Alone true is kind known_q few = to-part (chooses_task x.task v.ext.wake) (chooses x l kind known_q few) refl

      by-list : (l : List Waiter) → v.ext.list.list ≡ l → q ≡ l → AreTasks l → Duties words grants q (set vs id (Y (looked true v.hand.held v.ext.list.list v.ext.wake)))
      by-list [] is same small_l = subst (λ (z : List Waiter). Duties words grants q (set vs id (Y (looked true v.hand.held z v.ext.wake)))) (sym is)
          (to-part (paid v.ext.wake) (duty-unwaited words q lps id lp d.0 lthere lp.alone lp.guards lp.late false
          (λ _. refl) (ap first_code same) (none-behind (recounted lp lp.alone lp.guards lp.late false) refl)) refl)
      by-list (x ∷ l) is same small_l = subst (λ (z : List Waiter). Duties words grants q (set vs id (Y (looked true v.hand.held z v.ext.wake)))) (sym is)
          (by-held x l v.hand.held x.writer refl refl same small_l.0)
