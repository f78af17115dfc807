-- Of which kind each step on the count, a mark or a grant word is, for wakes.
use Rattle.std.proofs.Common.{◌≡◌, ◌≢◌, ℕ, zero, suc, ◌+◌, ◌-◌, ◌/◌, ◌%◌, ◌<◌, ◌≤◌, ◌==◌, ◌⊎◌, inl, inr, Bool, true, false, List, [], ◌∷◌, length, get_or, set, Some, sym, refl, ap, ◌∙◌, subst, arith, eq-eqb, ne_eqb, if◌then◌else◌}
use mathlib.Core.Logic.{dite}
use native.Mathlib.Decide.{ℕ_discrete}
use lib.Seq.{set-get_or}
use Rattle.word_bits.specs.declared.TheConstants.{MAX_TASKS}
use Rattle.lock_core.specs.Ops.{word_after}
use Rattle.lock_core.specs.Views.{alone_weight, is_number}
use Rattle.lock_core.specs.Totals.{total, total-at}
use Rattle.lock_core.proofs.HandLaws.{false-or-true, is_number-here, not-both}
use Rattle.wait_list.specs.Lists.{Part, first_code}
use Rattle.rwsem_count.specs.Counts.{shared_weight, early_weight, late_weight}
use Rattle.rwsem_wake.specs.SemParts.{SemPart, late_of, granted_of, granted_weight, granting_of, granting_weight, is_zero, reads_at, shared_of, some_of, transit_of}
use Rattle.rwsem_wake.specs.Grants.{reserved, unreserved, unmarked, gains, losses, looked, counted, granting_on, granted, tail}
use Rattle.rwsem_wake.specs.GrantQueues.{rested, asked, taken, own_unmarked, heard, heard_locked, settled}
use Rattle.rwsem_wake.specs.Duties.{kept_weight, overdue_weight, kept_of, overdue_of, begun_weight, waited_weight, SameGrants, IsOnly, WakeGoes, paid, is_left, left_by, heard_by, after_failed_try_by, after_failed_try_unless, saw_count, exchanged, is_own, saw_mark, heard_at, heard_locked_at}
use Rattle.rwsem_wake.specs.Types.{Load, Held, No, Shared, Alone, Waiter, SemWake, Bias, Clear, Transit, Reserve, Apart, Reads, Writes, Stage, Rest, Armed, Marking, Took, Removed, Emptied}
use Rattle.rwsem_wake.specs.Types.{Removing, Summing, Counted, Granting}
use Rattle.rwsem_wake.proofs.WakeLaws.{staged}
use Rattle.rwsem_wake.proofs.QueueLaws.{unread-one, reads-at-w}
use Rattle.rwsem_wake.proofs.Stepping.{Local, with_hand, named_in}
use Rattle.rwsem_wake.proofs.Waking.{only-one, reads-name}

not-zero : (m : ℕ) → (suc m == 0) ≡ false
not-zero m = ne_eqb (suc m) 0 (λ e. omega (arith, e))

early-overdue : (b : Bias) → overdue_weight b ≤ late_weight b
early-overdue Clear = omega arith
early-overdue (Transit m) = omega arith
early-overdue (Reserve m) = omega arith

kept-most : (b : Bias) → kept_weight b ≤ 1
kept-most Clear = omega arith
kept-most (Transit m) = omega arith
kept-most (Reserve m) = omega arith

kept-early : (b : Bias) → late_weight b ≡ 0 → kept_weight b ≤ early_weight b
kept-early Clear none = omega arith
kept-early (Transit m) none = omega (arith, none)
kept-early (Reserve m) none = omega arith

module _ (n : ℕ) (q : List Waiter) (grants : List ℕ) (sees : List SemPart) (v : SemPart) (b : SemWake) where
  abbrev Goes : ℕ → SemPart → SemWake → Type 0
  Goes n' u w = WakeGoes n q grants sees n' grants v u b w

  same-grants : SameGrants grants grants sees
  same-grants j y e = refl

  -- it leaves all
  pub wakes-stay : (n' : ℕ) → Goes n' v b
  wakes-stay n' = inl (same-grants, inl record { stage = (inr refl, inr (omega arith)); alone = refl; guards = omega arith; late = refl; writes = refl; granted = refl; rest = refl; stays = inr (refl, omega arith); wake = refl })

  -- its stage turns to this one
  pub wakes-turn : (n' : ℕ) (from to : Stage) → v.sem.stage ≡ from → ((m : ℕ) → granting_weight from m ≡ 0) → begun_weight to ≡ 0 → (overdue_of v ≡ 0) ⊎ (waited_weight from ≤ waited_weight to) → Goes n' (staged v to) b
  wakes-turn n' from to is none begun waited = inl (
    same-grants,
    inl record {
      stage = (inl begun, elim waited [ inl clear ↦ inl clear | inr less ↦ inr (let e = ap waited_weight is in omega (arith, e, less)) ]);
      alone = refl;
      guards = (let e : granting_of v ≡ 0 = ap (λ (z : Stage). granting_weight z (length v.sem.rest)) is ∙ none (length v.sem.rest) in omega (arith, e));
      late = refl;
      writes = refl;
      granted = refl;
      rest = refl;
      stays = inr (refl, omega arith);
      wake = refl;
    },
  )

  no-grants : (from : Stage) → v.sem.stage ≡ from → ((m : ℕ) → granting_weight from m ≡ 0) → granting_of v ≡ 0
  no-grants from is none = ap (λ (z : Stage). granting_weight z (length v.sem.rest)) is ∙ none (length v.sem.rest)

  pub wakes-reserve : (n' : ℕ) → IsOnly sees v → v.sem.stage ≡ Rest → v.sem.bias ≡ Clear → Goes n' (with_hand v (reserved v.sem n)) (paid b)
  wakes-reserve n' only stage clear = inl (same-grants, inr (inl (only, clear, no-grants Rest stage (λ m. refl), refl, refl)))

  pub wakes-return : (n' m : ℕ) (from : Stage) → IsOnly sees v → v.sem.stage ≡ from → ((m : ℕ) → granting_weight from m ≡ 0) → v.sem.bias ≡ Reserve m → m % 2 ≡ 1 → Goes n' (with_hand v (unreserved v.sem)) b
  wakes-return n' m from only stage none bias odd = inl (same-grants, inr (inr (inl (only, (m, bias, odd), no-grants from stage none, refl, refl))))

  pub wakes-back : (n' m by : ℕ) → IsOnly sees v → v.sem.bias ≡ Transit m → b.owing ≡ false → n' + by ≡ n → Goes n' (with_hand v (unreserved v.sem)) (left_by (n - by) b)
  wakes-back n' m by only bias clear sum = let left : n - by ≡ n' = omega (arith, sum) in inl (same-grants, inr (inr (inr (inl (only, (m, bias), clear, refl, ap (λ (z : ℕ). left_by z b) left)))))

  -- a mark is loaded by a waker
  pub wakes-unmarked : (mark : ℕ) → v.sem.stage ≡ Removing → Goes n (with_hand v (unmarked v.sem mark)) b
  wakes-unmarked mark stage = dite (ℕ_discrete mark 0)
      (λ none. subst (λ (z : Bool). Goes n (with_hand v (if z then record v.sem { stage = Summing } else v.sem)) b) (sym (eq-eqb mark 0 none)) (wakes-turn n Removing Summing stage (λ m. refl) refl (inr (omega arith))))
      (λ other. subst (λ (z : Bool). Goes n (with_hand v (if z then record v.sem { stage = Summing } else v.sem)) b) (sym (ne_eqb mark 0 other)) (wakes-stay n))

  -- the batch is in the count
  pub wakes-counted : (n' : ℕ) (from : Stage) → v.sem.stage ≡ from → ((m : ℕ) → granting_weight from m ≡ 0) → late_of v ≡ 0 → transit_of v ≡ 0 → kept_of v ≤ length v.sem.rest → Goes n' (with_hand v (counted v.sem)) b
  wakes-counted n' from stage none tight free some_read = inl (
    same-grants,
    inl record {
      stage = (inl refl, inl refl);
      alone = refl;
      guards = (let e = no-grants from stage none in omega (arith, e, some_read));
      late = (let o = early-overdue v.sem.bias in omega (arith, o, tight));
      writes = refl;
      granted = refl;
      rest = refl;
      stays = inr (refl, omega (arith, free));
      wake = refl;
    },
  )

  pub wakes-look : (l : List Waiter) → v.sem.stage ≡ Summing → late_of v ≡ 0 → transit_of v ≡ 0 → Goes n (with_hand v (looked v.sem l n)) b
  wakes-look l stage tight free = dite (ℕ_discrete (losses v.sem (n / 4 % 2)) (gains v.sem l))
      (λ none. subst (λ (z : Bool). Goes n (with_hand v (if z then counted v.sem else record v.sem { stage = Counted (n / 4 % 2 == 1) })) b) (sym (eq-eqb (losses v.sem (n / 4 % 2)) (gains v.sem l) none))
      (wakes-counted n Summing stage (λ m. refl) tight free (let k = kept-early v.sem.bias tight in let s = some-most l in omega (arith, none, k, s))))
      (λ other. subst (λ (z : Bool). Goes n (with_hand v (if z then counted v.sem else record v.sem { stage = Counted (n / 4 % 2 == 1) })) b) (sym (ne_eqb (losses v.sem (n / 4 % 2)) (gains v.sem l) other))
      (wakes-turn n Summing (Counted (n / 4 % 2 == 1)) stage (λ m. refl) refl (inr (omega arith))))
    where
      some-most : (l : List Waiter) → some_of l ≤ 1
      some-most [] = omega arith
      some-most (w ∷ ws) = omega arith

  pub wakes-sum : (n' : ℕ) (x : Bool) → v.sem.stage ≡ Counted x → late_of v ≡ 0 → transit_of v ≡ 0 → 0 < length v.sem.rest → Goes n' (with_hand v (counted v.sem)) b
  wakes-sum n' x stage tight free some_read = wakes-counted n' (Counted x) stage (λ m. refl) tight free (let k = kept-most v.sem.bias in omega (arith, k, some_read))

  -- a queued writer that saw this count
  seen-count : (n' : ℕ) (from : Stage) (s : Stage) → IsOnly sees v → v.sem.stage ≡ from → ((m : ℕ) → granting_weight from m ≡ 0) → v.sem.wait ≡ Writes → v.sem.bias ≡ Clear → begun_weight s ≡ 0 → ((m : ℕ) → granting_weight s m ≡ 0) → Goes n' (staged v s) (saw_count n b)
  seen-count n' from s only stage none writes clear begun none' = false-or-true (is_left n)
      (λ left. subst (λ (z : Bool). Goes n' (staged v s) (after_failed_try_unless z b)) (sym left) (wakes-turn n' from s stage none begun (inl late)))
      (λ held. subst (λ (z : Bool). Goes n' (staged v s) (after_failed_try_unless z b)) (sym held) (inl (
        same-grants,
        inr (inr (inr (inr (inr (inr (inl (
          inr (writes, inl (held, only, late)),
          (s, refl, begun, none' (length v.sem.rest) ∙ sym (no-grants from stage none), inl late),
          refl,
        ))))))),
      )))
    where
      late : overdue_of v ≡ 0
      late = ap overdue_weight clear

  pub wakes-listed : IsOnly sees v → v.sem.stage ≡ Rest → v.sem.wait ≡ Writes → v.sem.bias ≡ Clear → Goes n v (saw_count n b)
  wakes-listed only stage writes clear = subst (λ (z : Stage). Goes n (staged v z) (saw_count n b)) (sym stage) (seen-count n Rest Rest only stage (λ m. refl) writes clear refl (λ m. refl))

  pub wakes-ask : (n' old : ℕ) → v.sem.stage ≡ Rest → Goes n' (with_hand v (asked v.sem old n)) b
  wakes-ask n' old stage = dite (ℕ_discrete n old)
      (λ found. subst (λ (z : Bool). Goes n' (with_hand v (if z then record v.sem { stage = Marking } else v.sem)) b) (sym (eq-eqb n old found)) (wakes-turn n' Rest Marking stage (λ m. refl) refl (inr (omega arith))))
      (λ other. subst (λ (z : Bool). Goes n' (with_hand v (if z then record v.sem { stage = Marking } else v.sem)) b) (sym (ne_eqb n old other)) (wakes-stay n'))

  -- who left loaded its own mark
  pub wakes-own : (mark : ℕ) → v.sem.stage ≡ Removed → Goes n (with_hand v (own_unmarked v.sem mark)) b
  wakes-own mark stage = dite (ℕ_discrete mark 0)
      (λ none. subst (λ (z : Bool). Goes n (with_hand v (if z then record v.sem { stage = Rest } else v.sem)) b) (sym (eq-eqb mark 0 none)) (wakes-turn n Removed Rest stage (λ m. refl) refl (inr (omega arith))))
      (λ other. subst (λ (z : Bool). Goes n (with_hand v (if z then record v.sem { stage = Rest } else v.sem)) b) (sym (ne_eqb mark 0 other)) (wakes-stay n))

  pub wakes-turn-either : (n' : ℕ) (to : Stage) → (v.sem.stage ≡ Rest) ⊎ (v.sem.stage ≡ Armed) → begun_weight to ≡ 0 → Goes n' (staged v to) b
  wakes-turn-either n' to stage begun = elim stage [ inl is ↦ wakes-turn n' Rest to is (λ m. refl) begun (inr (omega arith)) | inr is ↦ wakes-turn n' Armed to is (λ m. refl) begun (inr (omega arith)) ]

  -- a waiter loaded the first's mark
  pub wakes-first : (mark : ℕ) (known : List Waiter) → (v.sem.stage ≡ Rest) ⊎ (v.sem.stage ≡ Armed) → known ≡ q → (is_own v.task (first_code known) ≡ true) ⊎ (v.sem.wait ≡ Writes) → Goes n (with_hand v (unmarked v.sem mark)) (saw_mark (is_own v.task (first_code known)) mark b)
  wakes-first mark known stage knows waits = false-or-true (is_own v.task (first_code known))
      (λ mine. subst (λ (z : Bool). Goes n (with_hand v (unmarked v.sem mark)) (saw_mark z mark b)) (sym mine) (by-mark mark))
      (λ other. subst (λ (z : Bool). Goes n (with_hand v (unmarked v.sem mark)) (saw_mark z mark b)) (sym other) (behind other mark))
    where
      by-mark : (m : ℕ) → Goes n (with_hand v (unmarked v.sem m)) b
      by-mark zero = wakes-turn-either n Summing stage refl
      by-mark (suc m) = subst (λ (z : Bool). Goes n (with_hand v (if z then record v.sem { stage = Summing } else v.sem)) b) (sym (not-zero m)) (wakes-stay n)

      unbegun : begun_weight v.sem.stage ≡ 0
      unbegun = elim stage [ inl is ↦ ap begun_weight is | inr is ↦ ap begun_weight is ]

      not-first : is_own v.task (first_code known) ≡ false → (t : ℕ) → v.task ≡ Some t → first_code q ≢ t + 1
      not-first other t task is = let e : is_own v.task (first_code known) ≡ true = (λ i. is_own (task i) (first_code (knows i))) ∙ eq-eqb (first_code q) (t + 1) is in not-both (is_own v.task (first_code known)) other e

      writes : is_own v.task (first_code known) ≡ false → v.sem.wait ≡ Writes
      writes other = elim waits [ inl mine ↦ not-both (is_own v.task (first_code known)) other mine | inr is ↦ is ]

      behind : is_own v.task (first_code known) ≡ false → (m : ℕ) → Goes n (with_hand v (unmarked v.sem m)) (saw_mark false m b)
      behind other zero = wakes-turn-either n Summing stage refl
      behind other (suc m) = subst (λ (z : Bool). Goes n (with_hand v (if z then record v.sem { stage = Summing } else v.sem)) (after_failed_try_by b)) (sym (not-zero m)) (inl (same-grants, inr (inr (inr (inr (inr (inr (inl (inr (writes other, inr (not-first other)), (v.sem.stage, refl, unbegun, refl, inr (omega arith)), refl)))))))))

  -- WAITERS and HANDOFF go with the last waiter
  pub wakes-empty : (n' : ℕ) → IsOnly sees v → length q ≡ 0 → v.sem.bias ≡ Clear → v.sem.stage ≡ Emptied → Goes n' (with_hand v (rested v.sem)) (paid b)
  wakes-empty n' only nobody clear stage = inl (same-grants, inr (inr (inr (inr (inr (inr (inr (only, none q nobody, clear, stage, refl, refl))))))))
    where
      none : (l : List Waiter) → length l ≡ 0 → first_code l ≡ 0
      none [] e = refl
      none (x ∷ l) e = absurd (omega (arith, e))

  -- a writer's exchange
  pub wakes-take : {P : Type 0} (n' old : ℕ) → IsOnly sees v → (v.sem.stage ≡ Summing) ⊎ ((v.sem.stage ≡ Rest) × P) → v.sem.wait ≡ Writes → v.sem.bias ≡ Clear → v.held ≡ No → Goes n' (record { task = v.task; held = if n == old then Alone else No; sem = taken v.sem old n }) (exchanged old n b)
  wakes-take {P} n' old only stage writes clear out = dite (ℕ_discrete n old)
      (λ found. subst (λ (z : Bool). Goes n' (record { task = v.task; held = if z then Alone else No; sem = record v.sem { stage = if z then Took else Rest } }) (if z then b else saw_count n b)) (sym (eq-eqb n old found)) (inl (same-grants, inr (inr (inr (inr (inl (refl, ap overdue_weight clear, refl))))))))
      (λ other. subst (λ (z : Bool). Goes n' (record { task = v.task; held = if z then Alone else No; sem = record v.sem { stage = if z then Took else Rest } }) (if z then b else saw_count n b)) (sym (ne_eqb n old other))
      (subst (λ (z : Held). Goes n' (record { task = v.task; held = z; sem = record v.sem { stage = Rest } }) (saw_count n b)) out
      (elim stage [ inl is ↦ seen-count n' Summing Rest only is (λ m. refl) writes clear refl (λ m. refl) | inr is ↦ seen-count n' Rest Rest only is.0 (λ m. refl) writes clear refl (λ m. refl) ])))

  -- a reader in transit holds
  pub wakes-settle : (n' m : ℕ) → v.sem.stage ≡ Rest → v.sem.bias ≡ Transit m → v.held ≡ No → Goes n' (record { task = v.task; held = if n % 2 == 0 then Shared else No; sem = settled v.sem n }) b
  wakes-settle n' m stage bias out = dite (ℕ_discrete (n % 2) 0)
      (λ free. subst (λ (z : Bool). Goes n' (record { task = v.task; held = if z then Shared else No; sem = if z then record v.sem { bias = Clear } else v.sem }) b) (sym (eq-eqb (n % 2) 0 free)) (inl (
        same-grants,
        inl record {
          stage = (inl (ap begun_weight stage), inl refl);
          alone = sym (ap alone_weight out);
          guards = (let k : kept_of v ≡ 1 = ap kept_weight bias in let s : shared_of v ≡ 0 = ap shared_weight out in omega (arith, k, s));
          late = sym (ap overdue_weight bias);
          writes = refl;
          granted = refl;
          rest = refl;
          stays = inl refl;
          wake = refl;
        },
      )))
      (λ held. subst (λ (z : Bool). Goes n' (record { task = v.task; held = if z then Shared else No; sem = if z then record v.sem { bias = Clear } else v.sem }) b) (sym (ne_eqb (n % 2) 0 held)) (subst (λ (z : Held). Goes n' (record { task = v.task; held = z; sem = v.sem }) b) out (wakes-stay n')))

-- a queued reader loads its grant word
module _ (n : ℕ) (q : List Waiter) (grants : List ℕ) (sees : List SemPart) (v : SemPart) (b : SemWake) (own : ℕ) (has : v.task ≡ Some own) (stage : v.sem.stage ≡ Rest) (waits : v.sem.wait ≡ Reads) (out : v.held ≡ No) (clear : b.owing ≡ false) where
  abbrev word : ℕ
  word = get_or grants own 0

  abbrev Hears : List ℕ → SemPart → SemWake → Type 0
  Hears grants' u w = WakeGoes n q grants sees n grants' v u b w

  granted-is : granted_of grants v ≡ is_zero word
  granted-is = λ i. granted_weight grants (has i) (waits i)

  gets : word ≡ 0 → WakeGoes n q grants sees n grants v (record v { held = Shared; sem = record v.sem { wait = Apart } }) b (heard_by b)
  gets zero_it = inl ((λ j y e. refl), inr (inr (inr (inr (inr (inl (waits, granted-is ∙ ap is_zero zero_it, stage, ap shared_weight out, ap alone_weight out, refl, clear, refl)))))))

  misses : (m : ℕ) → word ≡ suc m → (s : Stage) → begun_weight s ≡ 0 → ((k : ℕ) → granting_weight s k ≡ 0) → 0 ≤ waited_weight s → WakeGoes n q grants sees n grants v (staged v s) b (after_failed_try_by b)
  misses m more s begun none _ = inl (
    (λ j y e. refl),
    inr (inr (inr (inr (inr (inr (inl (
      inl (waits, granted-is ∙ ap is_zero more),
      (s, refl, begun, none (length v.sem.rest) ∙ sym (ap (λ (z : Stage). granting_weight z (length v.sem.rest)) stage), inr (let e = ap waited_weight stage in omega (arith, e))),
      refl,
    ))))))),
  )

  by-word : (m : ℕ) → word ≡ m → WakeGoes n q grants sees n grants v (record { task = v.task; held = if m == 0 then Shared else No; sem = heard v.sem m }) b (heard_at m b)
  by-word zero is = gets is
  by-word (suc m) is = subst (λ (z : Bool). WakeGoes n q grants sees n grants v (record { task = v.task; held = if z then Shared else No; sem = if z then record v.sem { wait = Apart } else v.sem }) b (after_failed_try_by b)) (sym (not-zero m))
      (subst (λ (z : Held). WakeGoes n q grants sees n grants v (record { task = v.task; held = z; sem = v.sem }) b (after_failed_try_by b)) out
      (subst (λ (z : Stage). WakeGoes n q grants sees n grants v (staged v z) b (after_failed_try_by b)) (sym stage) (misses m is Rest refl (λ k. refl) (omega arith))))

  by-word-locked : (m : ℕ) → word ≡ m → WakeGoes n q grants sees n grants v (record { task = v.task; held = if m == 0 then Shared else No; sem = heard_locked v.sem m }) b (heard_locked_at m b)
  by-word-locked zero is = gets is
  by-word-locked (suc m) is = subst (λ (z : Bool). WakeGoes n q grants sees n grants v (record { task = v.task; held = if z then Shared else No; sem = if z then record v.sem { wait = Apart } else record v.sem { stage = Armed } }) b b) (sym (not-zero m))
      (subst (λ (z : Held). WakeGoes n q grants sees n grants v (record { task = v.task; held = z; sem = record v.sem { stage = Armed } }) b b) out (wakes-turn n q grants sees v b n Rest Armed stage (λ k. refl) refl (inr (omega arith))))

  pub wakes-hear : Hears (set grants own (word_after Load word)) (record { task = v.task; held = if word == 0 then Shared else No; sem = heard v.sem word }) (heard_at word b)
  wakes-hear = subst (λ (z : List ℕ). Hears z (record { task = v.task; held = if word == 0 then Shared else No; sem = heard v.sem word }) (heard_at word b)) (sym (set-get_or grants own 0)) (by-word word refl)

  pub wakes-hear-locked : Hears (set grants own (word_after Load word)) (record { task = v.task; held = if word == 0 then Shared else No; sem = heard_locked v.sem word }) (heard_locked_at word b)
  wakes-hear-locked = subst (λ (z : List ℕ). Hears z (record { task = v.task; held = if word == 0 then Shared else No; sem = heard_locked v.sem word }) (heard_locked_at word b)) (sym (set-get_or grants own 0)) (by-word-locked word refl)

-- a grant word is stored
module _ (sees : List SemPart) (id : ℕ) (v : SemPart) (known : Part) (n : ℕ) (q : List Waiter) (marks grants : List ℕ) (loc : Local sees id v known n q marks grants) (b : SemWake) (own : ℕ) (has : v.task ≡ Some own) where
  pub wakes-arm : v.sem.stage ≡ Rest → v.sem.wait ≡ Apart → own < MAX_TASKS → WakeGoes n q grants sees n (set grants own 1) v (staged v Armed) b b
  wakes-arm stage apart few = inl (
    same,
    inl record {
      stage = (inl refl, inr (let e = ap waited_weight stage in omega (arith, e)));
      alone = refl;
      guards = (let e : granting_of v ≡ 0 = ap (λ (z : Stage). granting_weight z (length v.sem.rest)) stage in let g = same id v loc.mine in omega (arith, e, g));
      late = refl;
      writes = refl;
      granted = same id v loc.mine;
      rest = refl;
      stays = inr (refl, omega arith);
      wake = refl;
    },
  )
    where
      nobody : total (reads_at own) sees ≡ 0
      nobody = only-one (reads_at own) (named_in own) (λ x. reads-name own x.task x.sem.wait) sees id v loc.mine (ap (is_number own) has ∙ is_number-here own) (loc.named own few) ∙ (reads-at-w v own has Apart apart own)

      same : SameGrants grants (set grants own 1) sees
      same j y at = unread-one grants own 1 y (let a = total-at (reads_at own) sees j y at in omega (arith, a, nobody))

  pub wakes-grant : (t : ℕ) (ts : List ℕ) → v.sem.stage ≡ Granting → v.sem.rest ≡ t ∷ ts → v.sem.bias ≡ Clear → WakeGoes n q grants sees n (set grants t 0) v (with_hand v (granted v.sem)) b b
  wakes-grant t ts stage rest clear = let is : tail v.sem.rest ≡ ts = ap tail rest in inr (refl, (t, ts, granting_on ts, rest, stage, refl, ap (λ (z : List ℕ). record v { sem = record v.sem { rest = z; stage = granting_on z } }) is, ap (λ (z : List ℕ). granting_weight (granting_on z) (length z)) is ∙ many ts, unbegun ts), clear, refl)
    where
      many : (xs : List ℕ) → granting_weight (granting_on xs) (length xs) ≡ length xs
      many [] = refl
      many (x ∷ xs) = refl

      unbegun : (xs : List ℕ) → begun_weight (granting_on xs) ≡ 0
      unbegun [] = refl
      unbegun (x ∷ xs) = refl
