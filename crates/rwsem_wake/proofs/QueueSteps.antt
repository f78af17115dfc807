-- What the steps of those that queue keep.
use Rattle.std.proofs.Common.{◌≡◌, ◌≢◌, ℕ, ◌+◌, ◌-◌, ◌*◌, ◌/◌, ◌%◌, ◌^◌, ◌<◌, ◌≤◌, ◌==◌, ◌⊎◌, ◌↔◌, inl, inr, Bool, true, false, List, [], ◌∷◌, length, map, get_or, set, Option, Some, sym, refl, ap, ◌∙◌, subst, arith, eq-eqb, ne_eqb, if◌then◌else◌, get_or-set_same}
use mathlib.Core.Logic.{dite}
use native.Mathlib.Decide.{ℕ_discrete}
use lib.Seq.{set-get_or}
use Rattle.word_bits.specs.declared.TheConstants.{MAX_TASKS}
use Rattle.atomic_table.proofs.Lists.{set_again}
use Rattle.lock_core.specs.Ops.{word_after}
use Rattle.lock_core.specs.Records.{bit}
use Rattle.lock_core.specs.Views.{alone_weight, is_number}
use Rattle.lock_core.specs.Totals.{total, total-at, total-set}
use Rattle.lock_core.proofs.HandLaws.{is_number-else, is_number-here, not-both}
use Rattle.word_bits.specs.LockWords.{IsLawfulCount}
use Rattle.wait_list.specs.Lists.{Part, Knows, first_code}
use Rattle.rwsem_count.specs.Counts.{shared_weight, early_weight, late_weight, early_in, late_in, alone_in, shared_in}
use Rattle.rwsem_count.specs.CountWordSteps.{HasFlags, HasHandoff, IsLocked}
use Rattle.rwsem_wake.specs.SemParts.{SemPart, busy_of, early_of, late_of, first_mark, tasks, granted_of, granting_weight, here, is_zero, named_weight, part_of, reads_of, reads_weight, writer_at, writes_at}
use Rattle.rwsem_wake.specs.GrantSemaphores.{FlagsAt, IsFirst, SemKept, batch_weight, more_of}
use Rattle.rwsem_wake.specs.Handoffs.{KeepsHandoff, Unasked, granting_at, shared_at}
use Rattle.rwsem_wake.specs.Grants.{summing, unmarked, unreserved}
use Rattle.rwsem_wake.specs.GrantQueues.{rested, asked, taken, own_unmarked, heard, heard_locked, settled}
use Rattle.rwsem_wake.specs.Types.{Load, Sub, Or, And, Exchange, Held, No, Shared, Alone, Waiter, Bias, Clear, Transit, Apart, Reads, Writes, Stage, Rest, Armed, Joining, First, Marking}
use Rattle.rwsem_wake.specs.Types.{Took, Removed, Emptied, Summing, SemHand}
use Rattle.rwsem_wake.proofs.Sums.{set-mine}
use Rattle.rwsem_wake.proofs.Places.{first-least, some-length}
use Rattle.rwsem_wake.proofs.WakeLaws.{staged, ok-of}
use Rattle.rwsem_wake.proofs.QueueLaws.{granted-w, mine-at, sem-backs, sem-granted, sem-stages, writes-at-w}
use Rattle.rwsem_wake.proofs.HandoffLaws.{sem-sets, sem-takes, sem-unmarks-own, sem-clears, sem-asks-write, sem-marks}
use Rattle.rwsem_wake.proofs.HandoffSteps.{PassGoes, first-marked, marking, marks-stay, pass-from, pass-same, pass-turns, hands-asks, hands-empties, hands-free, hands-granted, hands-step, hands-takes, hands-unmarks, own-comes, unasked-same}
use Rattle.rwsem_wake.proofs.FirstLaws.{light-of, sem-arms-again, sem-clears-first, sem-first-clear, sem-own-clear, sem-rests}
use Rattle.rwsem_wake.proofs.Flags.{sets_waiters, clears_waiters}
use Rattle.rwsem_wake.proofs.Stepping.{Local, with_hand}
use Rattle.rwsem_wake.proofs.Waking.{head-is, twice}
use Rattle.rwsem_wake.proofs.Counting.{count-keeps, part-least}

module _ (sees : List SemPart) (id : ℕ) (v : SemPart) (known : Part) (n : ℕ) (q : List Waiter) (marks grants : List ℕ) (loc : Local sees id v known n q marks grants) (only : total busy_of sees ≡ busy_of v) (own : ℕ) (has : v.task ≡ Some own) where
  abbrev W : ℕ
  W = n / 2 % 2

  abbrev H : ℕ
  H = n / 4 % 2

  small : n < 256 * (MAX_TASKS + 2)
  small = let low = loc.lawful.0 in let high = loc.lawful.1 in omega (arith, low, high)

  abbrev After : ℕ → List ℕ → List ℕ → SemHand → Type 0
  After n' marks' grants' s = let us : List SemPart = set sees id (with_hand v s) in SemKept n' q marks' grants' us × KeepsHandoff id n q marks grants sees n' marks' grants' us

  -- nobody comes to read
  same-readers : (n' : ℕ) (marks' : List ℕ) (s : Stage) → n' % 2 ≤ n % 2 → ((m : ℕ) → granting_weight s m ≡ 0) → Unasked n marks n' marks' → PassGoes n n' q marks' grants v (staged v s) → KeepsHandoff id n q marks grants sees n' marks' grants (set sees id (staged v s))
  same-readers n' marks' s low none un goes = hands-step id n q marks grants sees v (staged v s) loc.mine n' marks' low (λ t. let z = none (here t v.sem.rest) in omega (arith, z)) un goes

  -- its stage turns to this one
  turns : {n' : ℕ} (marks' : List ℕ) (from to : Stage) → v.sem.stage ≡ from → ((m : ℕ) → granting_weight from m ≡ 0) → marking from ≡ 0 → marking to ≡ 0 → PassGoes n n' q marks' grants v (staged v to)
  turns {n'} marks' from to is none out later = pass-turns q marks' grants v v.sem.bias from to is none out later (inl refl)

  -- it clears a mark that it may clear
  clears-mark : (t : ℕ) (s : Stage) → (v.task ≡ Some t) → t < MAX_TASKS → ((m : ℕ) → granting_weight s m ≡ 0) → PassGoes n n q (set marks t 0) grants v (staged v s) → KeepsHandoff id n q marks grants sees n (set marks t 0) grants (set sees id (staged v s))
  clears-mark t s mine few none goes = let wide = loc.marks_wide in hands-unmarks id n q marks grants sees v (staged v s) loc.mine t (inl mine) (omega (arith, few, wide)) (λ x. let z = none (here x v.sem.rest) in omega (arith, z)) goes

  -- it leaves all
  pub on-stay : After n marks grants v.sem
  on-stay = (subst (SemKept n q marks grants) (sym (set_again sees id v loc.mine)) loc.kept, hands-step id n q marks grants sees v v loc.mine n marks (omega arith) (λ t. omega arith) (unasked-same n marks) (pass-same q marks grants v))

  there : Knows known → 1 ≤ length known.1.list → 1 ≤ length q
  there knows some_there = subst (λ (z : List Waiter). 1 ≤ length z) (loc.list knows) some_there

  -- a writer of the list finds somebody in it
  pub on-listed : v.sem.wait ≡ Writes → Knows known → 1 ≤ length known.1.list
  on-listed writes knows = subst (λ (z : List Waiter). 1 ≤ length z) (sym (loc.list knows)) (some-there q (let w = loc.kept.writes own in let t = total-at (writes_at own) sees id v loc.mine in let a = writes-at-w v own has Writes writes own in let b = is_number-here own in omega (arith, w, t, a, b)))
    where
      some-there : (l : List Waiter) → 1 ≤ total (writer_at own) l → 1 ≤ length l
      some-there [] more = absurd (omega (arith, more))
      some-there (x ∷ l) more = omega arith

  -- who is alone in the list sets WAITERS
  pub on-set : v.sem.stage ≡ First → v.sem.bias ≡ Clear → After (word_after (Or 2) n) marks grants (rested v.sem) × IsLawfulCount n
  on-set stage clear = let f = mine-at sees id v loc.mine n q marks grants loc.kept own has First only stage in let clear_it = f.0 in let is = sets_waiters n clear_it in (
    (sem-sets sees id v loc.mine n q marks grants loc.kept own has only (word_after (Or 2) n) is stage (light-of v own has clear n q marks grants sees id loc.kept loc.mine), same-readers (word_after (Or 2) n) marks Rest (omega (arith, is)) (λ m. refl) (omega (arith, is, clear_it), λ t. omega arith) (turns marks First Rest stage (λ m. refl) refl refl)),
    loc.lawful,
  )

  -- a reader that joined takes its bias back
  pub on-back : (m by : ℕ) (b : Bool) → v.sem.stage ≡ Joining b → v.sem.bias ≡ Transit m → by + 2 * bit b ≡ 256 → After (word_after (Sub by) n) marks grants (unreserved v.sem) × IsLawfulCount n × (256 ≤ n)
  on-back m by b stage bias is = let l = small in let one : early_of v + late_of v ≡ 1 = ap (λ (z : Bias). early_weight z + late_weight z) bias ∙ (let e : (1 - m % 2) + m % 2 ≡ 1 = omega arith in e) in
      let F = part-least early_in sees id v loc.mine in let L = part-least late_in sees id v loc.mine in let rf = loc.kept.count.field in let g : 256 ≤ n = omega (arith, one, F, L, rf) in
      let o = bit-most b in let n' : ℕ = word_after (Sub by) n in let sum : n' + 256 ≡ n + 2 * bit b = omega (arith, l, g, is, o) in (
        (sem-backs sees id v loc.mine n q marks grants loc.kept own has n' m b only stage bias sum, hands-step id n q marks grants sees v (with_hand v (unreserved v.sem)) loc.mine n' marks (omega (arith, sum)) (λ t. omega arith) (let x = unset b stage in omega (arith, sum, x), λ t. omega arith) (pass-turns q marks grants v Clear (Joining b) Rest stage (λ m. refl) refl refl (inr (inl refl)))),
        loc.lawful,
        g,
      )
    where
      unset : (b : Bool) → v.sem.stage ≡ Joining b → n / 2 % 2 + bit b ≤ 1
      unset true is = let f = mine-at sees id v loc.mine n q marks grants loc.kept own has (Joining true) only is in let z = f.0 in omega (arith, z)
      unset false is = omega arith

      bit-most : (b : Bool) → bit b ≤ 1
      bit-most true = omega arith
      bit-most false = omega arith

  -- a writer asks for a handoff
  pub on-ask-write : (old new : ℕ) → v.sem.stage ≡ Rest → v.sem.wait ≡ Writes → (HasHandoff old → ⊥) → new ≡ old + 4 → Knows known → 1 ≤ length known.1.list → After (word_after (Exchange old new) n) marks grants (asked v.sem old n) × IsLawfulCount n
  on-ask-write old new stage writes unasked is knows some_there = dite (ℕ_discrete n old)
      (λ found. let not : n / 4 % 2 ≢ 1 = λ e. unasked (ap (λ (x : ℕ). x / 4 % 2) (sym found) ∙ e) in let z : n / 4 % 2 ≡ 0 = omega (arith, not) in
      let goes : PassGoes n (n + 4) q marks grants v (staged v Marking) = record { ends = λ t less. absurd (let g : granting_at t v ≡ 0 = ap (λ (x : Stage). granting_weight x (here t v.sem.rest)) stage in omega (arith, g, less)); batch = inl refl; next = λ _. inl refl; to_mark = λ _. inr (z, omega (arith, z)); found = inl refl } in
      subst (λ (b : Bool). After (if b then new else n) marks grants (if b then record v.sem { stage = Marking } else v.sem) × IsLawfulCount n) (sym (eq-eqb n old found)) (
        subst (λ (x : ℕ). After x marks grants (record v.sem { stage = Marking })) (ap (λ (x : ℕ). x + 4) found ∙ sym is)
            (sem-asks-write sees id v loc.mine n q marks grants loc.kept own has only z (there knows some_there) stage, hands-asks id n q marks grants sees v (staged v Marking) loc.mine (n + 4) marks (omega arith) (λ t. omega arith) (λ _ _. inr (writes, refl)) (λ _. omega (arith, z)) (λ t none more. absurd (omega (arith, none, more))) (λ t more. more) goes),
        loc.lawful,
      ))
      (λ other. subst (λ (b : Bool). After (if b then new else n) marks grants (if b then record v.sem { stage = Marking } else v.sem) × IsLawfulCount n) (sym (ne_eqb n old other)) (on-stay, loc.lawful))

  -- and marks the first waiter
  pub on-mark-asked : (t : ℕ) → v.sem.stage ≡ Marking → v.sem.wait ≡ Writes → v.sem.bias ≡ Clear → Knows known → first_code known.1.list ≡ t + 1 → t < MAX_TASKS → After n (set marks t 1) grants (rested v.sem)
  on-mark-asked t stage writes clear knows code few = let x = head-is q t (ap first_code (sym (loc.list knows)) ∙ code) in let wide = loc.marks_wide in
      let set_it : n / 4 % 2 ≡ 1 = (mine-at sees id v loc.mine n q marks grants loc.kept own has Marking only stage).1 in
      let first : first_mark (set marks t 1) (tasks q) ≡ 1 = ap (λ (z : List Waiter). first_mark (set marks t 1) (tasks z)) x.2 ∙ (ap (λ (z : ℕ). get_or (set marks t 1) z 0) x.3 ∙ get_or-set_same marks t 1 0 (omega (arith, few, wide))) in
      let goes : PassGoes n n q (set marks t 1) grants v (staged v Rest) = record { ends = λ s less. let g : granting_at s v ≡ 0 = ap (λ (z : Stage). granting_weight z (here s v.sem.rest)) stage in absurd (omega (arith, g, less)); batch = inl refl; next = λ _. inr first; to_mark = λ e. let m = ap marking e in absurd (omega (arith, m)); found = inl refl } in (
        subst (λ (z : ℕ). SemKept n q (set marks z 1) grants (set sees id (staged v Rest))) x.3 (sem-marks sees id v loc.mine n q marks grants loc.kept own has only x.0 x.1 stage (light-of v own has clear n q marks grants sees id loc.kept loc.mine) x.2 (let e = x.3 in omega (arith, e, few, wide))),
        hands-asks id n q marks grants sees v (staged v Rest) loc.mine n (set marks t 1) (omega arith) (λ s. omega arith) (λ z o. absurd (omega (arith, z, o))) (λ set_it. set_it) (λ s none more. (first-marked marks q t (ap first_code (sym (loc.list knows)) ∙ code) s none more, inr (writes, stage, set_it))) (marks-stay marks t (omega (arith, few, wide))) goes,
      )

  from-either : (marks' : List ℕ) (to : Stage) → (v.sem.stage ≡ Rest) ⊎ (v.sem.stage ≡ Armed) → marking to ≡ 0 → PassGoes n n q marks' grants v (staged v to)
  from-either marks' to stage later = elim stage [ inl is ↦ turns marks' Rest to is (λ m. refl) refl later | inr is ↦ turns marks' Armed to is (λ m. refl) refl later ]

  -- the first's mark is loaded, or cleared
  pub on-look-first : (t : ℕ) → (v.sem.stage ≡ Rest) ⊎ (v.sem.stage ≡ Armed) → Knows known → first_code known.1.list ≡ t + 1 → let m = get_or marks t 0 in After n (set marks t (word_after Load m)) grants (unmarked v.sem m)
  on-look-first t stage knows code = let m : ℕ = get_or marks t 0 in let x = head-is q t (ap first_code (sym (loc.list knows)) ∙ code) in subst (λ (z : List ℕ). After n z grants (unmarked v.sem m)) (sym (set-get_or marks t 0)) (dite (ℕ_discrete m 0)
      (λ none. subst (λ (z : Bool). After n marks grants (if z then record v.sem { stage = Summing } else v.sem)) (sym (eq-eqb m 0 none)) (
        sem-first-clear sees id v loc.mine n q marks grants loc.kept own has only x.0 x.1 stage x.2 (ap (λ (z : ℕ). get_or marks z 0) x.3 ∙ none),
        same-readers n marks Summing (omega arith) (λ m. refl) (unasked-same n marks) (from-either marks Summing stage refl),
      ))
      (λ set_it. subst (λ (z : Bool). After n marks grants (if z then record v.sem { stage = Summing } else v.sem)) (sym (ne_eqb m 0 set_it)) on-stay))

  pub on-clear-first : (v.sem.stage ≡ Rest) ⊎ (v.sem.stage ≡ Armed) → Knows known → first_code known.1.list ≡ own + 1 → own < MAX_TASKS → After n (set marks own 0) grants (summing v.sem)
  on-clear-first stage knows code few = let x = head-is q own (ap first_code (sym (loc.list knows)) ∙ code) in let wide = loc.marks_wide in (
    subst (λ (z : ℕ). SemKept n q (set marks z 0) grants (set sees id (staged v Summing))) x.3 (sem-clears-first sees id v loc.mine n q marks grants loc.kept own has only x.0 x.1 stage x.2 (let e = x.3 in omega (arith, e, few, wide))),
    clears-mark own Summing has few (λ m. refl) (from-either (set marks own 0) Summing stage refl),
  )

  -- so is the own mark of a writer that took and left
  pub on-look-own : v.sem.stage ≡ Removed → v.sem.bias ≡ Clear → let m = get_or marks own 0 in After n (set marks own (word_after Load m)) grants (own_unmarked v.sem m)
  on-look-own stage clear = let m : ℕ = get_or marks own 0 in subst (λ (z : List ℕ). After n z grants (own_unmarked v.sem m)) (sym (set-get_or marks own 0)) (dite (ℕ_discrete m 0)
      (λ none. subst (λ (z : Bool). After n marks grants (if z then record v.sem { stage = Rest } else v.sem)) (sym (eq-eqb m 0 none)) (sem-own-clear sees id v loc.mine n q marks grants loc.kept own has only stage clear none, same-readers n marks Rest (omega arith) (λ m. refl) (unasked-same n marks) (turns marks Removed Rest stage (λ m. refl) refl refl)))
      (λ set_it. subst (λ (z : Bool). After n marks grants (if z then record v.sem { stage = Rest } else v.sem)) (sym (ne_eqb m 0 set_it)) on-stay))

  pub on-clear-own : v.sem.stage ≡ Removed → v.sem.bias ≡ Clear → own < MAX_TASKS → After n (set marks own 0) grants (rested v.sem)
  on-clear-own stage clear few = let wide = loc.marks_wide in (
    sem-unmarks-own sees id v loc.mine n q marks grants loc.kept own has only stage (light-of v own has clear n q marks grants sees id loc.kept loc.mine) (omega (arith, few, wide)),
    clears-mark own Rest has few (λ m. refl) (turns (set marks own 0) Removed Rest stage (λ m. refl) refl refl),
  )

  -- WAITERS and HANDOFF are cleared where the list is empty
  pub on-clear-flags : v.sem.stage ≡ Emptied → v.sem.bias ≡ Clear → After (word_after (And 18446744073709551609) n) marks grants (rested v.sem) × IsLawfulCount n
  on-clear-flags stage clear = let l = small in let f = mine-at sees id v loc.mine n q marks grants loc.kept own has Emptied only stage in let w = f.0 in let is = clears_waiters n (omega (arith, l)) in let n' : ℕ = word_after (And 18446744073709551609) n in let sum : n' + (2 + 4 * H) ≡ n = omega (arith, is, w) in (
    (sem-clears sees id v loc.mine n q marks grants loc.kept own has only n' sum stage (light-of v own has clear n q marks grants sees id loc.kept loc.mine), hands-empties id n q marks grants sees v (staged v Rest) loc.mine n' (omega (arith, sum)) (λ t. omega arith) (omega (arith, sum, w)) f.2 (turns marks Emptied Rest stage (λ m. refl) refl refl)),
    loc.lawful,
  )

  -- how its pass holds and its part after a step that may make it hold
  abbrev Held-after : ℕ → List ℕ → Held → SemHand → Type 0
  Held-after n' grants' h s = let us : List SemPart = set sees id (record { task = v.task; held = h; sem = s }) in SemKept n' q marks grants' us × KeepsHandoff id n q marks grants sees n' marks grants' us

  -- nobody holds alone, and, where it is to hold so, nobody at all
  abbrev Lets-hold : Held → Type 0
  Lets-hold held = (total alone_in (map part_of sees) ≡ 0) × (0 < alone_weight held → total shared_in (map part_of sees) ≡ 0)

  lets-share : n % 2 ≡ 0 → Lets-hold Shared
  lets-share none = let w = loc.kept.count.writer in (omega (arith, none, w), λ l. absurd (omega (arith, l)))

  unheld : {h : Held} (s : SemHand) → v.held ≡ h → SemKept n q marks grants (set sees id (with_hand v s)) → KeepsHandoff id n q marks grants sees n marks grants (set sees id (with_hand v s)) → Held-after n grants h s
  unheld s out kept hands = subst (λ (z : Held). Held-after n grants z s) out (kept, hands)

  -- a writer of the list takes a free count
  module _ (out : v.held ≡ No) (writes : v.sem.wait ≡ Writes) (clear : v.sem.bias ≡ Clear) (none : v.sem.rest ≡ []) (knows : Knows known) (some_there : 1 ≤ length known.1.list) where
    shares-none : (t : ℕ) → shared_at t v ≡ 0
    shares-none t = ap (λ (h : Held). named_weight t v.task (shared_weight h)) out

    abbrev Unmarked : ℕ → Type 0
    Unmarked old = (v.sem.stage ≡ Summing) ⊎ ((v.sem.stage ≡ Rest) × ((HasHandoff old → ⊥) ⊎ (first_code known.1.list ≡ own + 1)))

    -- it is about nothing from then on
    goes-on : (old : ℕ) → Unmarked old → Held-after n grants No (rested v.sem)
    goes-on old may = unheld (rested v.sem) out (elim may [ inl is ↦ sem-rests sees id v loc.mine n q marks grants loc.kept own has only is clear none (there knows some_there) | inr is ↦ subst (λ (z : Stage). SemKept n q marks grants (set sees id (staged v z))) is.0 on-stay.0 ])
        (same-readers n marks Rest (omega arith) (λ m. refl) (unasked-same n marks) (elim may [ inl is ↦ turns marks Summing Rest is (λ m. refl) refl refl | inr is ↦ turns marks Rest Rest is.0 (λ m. refl) refl refl ]))

    first-or-none : (old : ℕ) → n ≡ old → Unmarked old → IsFirst (Some own) q ⊎ (first_mark marks (tasks q) ≡ 0)
    first-or-none old found may = let l = first-least marks (tasks q) in elim may [
      | inl is ↦ let f = mine-at sees id v loc.mine n q marks grants loc.kept own has Summing only is in let z = f.1 in inr (omega (arith, z, l))
      | inr is ↦ let f = mine-at sees id v loc.mine n q marks grants loc.kept own has Rest only is.0 in elim is.1 [
        | inl unasked ↦ let not : n / 4 % 2 ≢ 1 = λ e. unasked (ap (λ (x : ℕ). x / 4 % 2) (sym found) ∙ e) in let m = f.marked in inr (omega (arith, not, m, l))
        | inr code ↦ let x = head-is q own (ap first_code (sym (loc.list knows)) ∙ code) in inl (subst (IsFirst (Some own)) (sym x.2) (ap (λ (t : ℕ). Some t) (sym x.3)))
      ]
    ]

    pub on-take : (alone : Bool) (old new : ℕ) → ((alone ≡ true) ↔ (length known.1.list ≡ 1)) → Unmarked old → (IsLocked old → ⊥) → HasFlags old new 1 (if alone then 0 else old / 2 % 2) 0
        → Held-after (word_after (Exchange old new) n) grants (if n == old then Alone else No) (taken v.sem old n) × ((n == old) ≡ true → Lets-hold Alone) × IsLawfulCount n
    on-take alone old new whether may free flags = dite (ℕ_discrete n old)
        (λ found. subst (λ (b : Bool). Held-after (if b then new else n) grants (if b then Alone else No) (record v.sem { stage = if b then Took else Rest }) × (b ≡ true → Lets-hold Alone) × IsLawfulCount n) (sym (eq-eqb n old found)) (takes found, (λ _. nobody found), loc.lawful))
        (λ other. subst (λ (b : Bool). Held-after (if b then new else n) grants (if b then Alone else No) (record v.sem { stage = if b then Took else Rest }) × (b ≡ true → Lets-hold Alone) × IsLawfulCount n) (sym (ne_eqb n old other)) (goes-on old may, (λ e. not-both false refl e), loc.lawful))
      where
        writer-free : n ≡ old → n % 2 ≡ 0
        writer-free found = let not : old % 2 ≢ 1 = λ e. free (inl e) in omega (arith, not, found)

        readers-free : n ≡ old → n / 256 ≡ 0
        readers-free found = elim (ℕ_discrete (old % 2 ^ 63 / 256) 0) [ yes z ↦ (let l = small in omega (arith, z, found, l)) | no other ↦ absurd (free (inr other)) ]

        nobody : n ≡ old → Lets-hold Alone
        nobody found = let a = writer-free found in let b = readers-free found in let w = loc.kept.count.writer in let f = loc.kept.count.field in (omega (arith, a, w), λ _. omega (arith, b, f))

        alone-bit : (b : Bool) → b ≡ alone → (length q ≤ 1 → bit b ≡ 1) × (2 ≤ length q → bit b ≡ 0)
        alone-bit true is = let e = whether.0 (sym is) in let l : length q ≡ 1 = subst (λ (z : List Waiter). length z ≡ 1) (loc.list knows) e in ((λ _. refl), λ more. absurd (omega (arith, l, more)))
        alone-bit false is = ((λ few. let t = there knows some_there in let e : length known.1.list ≡ 1 = subst (λ (z : List Waiter). length z ≡ 1) (sym (loc.list knows)) (omega (arith, few, t)) in not-both alone (sym is) (whether.1 e)), λ _. refl)

        waiting : W ≡ 1
        waiting = let s = (some-length q).0 (there knows some_there) in elim may [ inl is ↦ (mine-at sees id v loc.mine n q marks grants loc.kept own has Summing only is).0 | inr is ↦ (mine-at sees id v loc.mine n q marks grants loc.kept own has Rest only is.0).waiters ∙ s ]

        sum-by : (b : Bool) → n ≡ old → HasFlags old new 1 (if b then 0 else old / 2 % 2) 0 → new + (4 * H + 2 * bit b) ≡ n + 1
        sum-by true found f = let l = small in let w = waiting in let a = writer-free found in let low = loc.lawful.0 in let x = f.rest in let y = f.writer_is in let z = f.waiters_is in let u = f.handoff_is in omega (arith, l, w, a, x, y, z, u, found)
        sum-by false found f = let l = small in let w = waiting in let a = writer-free found in let low = loc.lawful.0 in let x = f.rest in let y = f.writer_is in let z = f.waiters_is in let u = f.handoff_is in omega (arith, l, w, a, x, y, z, u, found)

        takes : n ≡ old → Held-after new grants Alone (record v.sem { stage = Took })
        takes found = let m = first-or-none old found may in let ab = alone-bit alone refl in let u : SemPart = record v { held = Alone; sem = record v.sem { stage = Took } } in (
          elim may [
            | inl is ↦ let w : SemPart = staged v Rest in let us : List SemPart = set sees id w in let B = total-set busy_of sees id v w loc.mine in let o = only in
                let r = sem-rests sees id v loc.mine n q marks grants loc.kept own has only is clear none (there knows some_there) in
                subst (SemKept new q marks grants) (twice sees id w u) (sem-takes us id w (set-mine sees id v w loc.mine) n q marks grants r own has (omega (arith, B, o)) new (bit alone) (readers-free found) (writer-free found) (sum-by alone found flags) ab.0 ab.1 (there knows some_there) refl writes clear out m)
            | inr is ↦ sem-takes sees id v loc.mine n q marks grants loc.kept own has only new (bit alone) (readers-free found) (writer-free found) (sum-by alone found flags) ab.0 ab.1 (there knows some_there) is.0 writes clear out m
          ],
          hands-takes id n q marks grants sees v u loc.mine new (elim m [ inl first ↦ inl (subst (λ (z : Option ℕ). IsFirst z q) (sym has) first) | inr z ↦ inr z ]) (λ t. omega arith) flags.handoff_is (readers-free found) (writer-free found) flags.writer_is
              (elim may [ inl is ↦ pass-from q marks grants v u Summing is (λ m. refl) refl (inl refl) (λ t. let z = shares-none t in omega (arith, z)) refl (inl refl) | inr is ↦ pass-from q marks grants v u Rest is.0 (λ m. refl) refl (inl refl) (λ t. let z = shares-none t in omega (arith, z)) refl (inl refl) ]),
        )

  -- a reader whose bias is in the count sees no writer, under the wait lock with an empty list
  pub on-settle : (m : ℕ) → v.sem.stage ≡ Rest → v.sem.wait ≡ Apart → v.sem.bias ≡ Transit m → v.held ≡ No → Knows known → known.1.list ≡ [] → Held-after n grants (if n % 2 == 0 then Shared else No) (settled v.sem n) × ((n % 2 == 0) ≡ true → Lets-hold Shared) × IsLawfulCount n
  on-settle m stage apart bias out knows none = dite (ℕ_discrete (n % 2) 0)
      (λ free. subst (λ (b : Bool). Held-after n grants (if b then Shared else No) (if b then record v.sem { bias = Clear } else v.sem) × (b ≡ true → Lets-hold Shared) × IsLawfulCount n) (sym (eq-eqb (n % 2) 0 free)) (settles free, (λ _. lets-share free), loc.lawful))
      (λ writes. subst (λ (b : Bool). Held-after n grants (if b then Shared else No) (if b then record v.sem { bias = Clear } else v.sem) × (b ≡ true → Lets-hold Shared) × IsLawfulCount n) (sym (ne_eqb (n % 2) 0 writes)) (unheld v.sem out on-stay.0 on-stay.1, (λ e. not-both false refl e), loc.lawful))
    where
      settles : n % 2 ≡ 0 → Held-after n grants Shared (record v.sem { bias = Clear })
      settles free = let u : SemPart = record v { held = Shared; sem = record v.sem { bias = Clear } } in let f = mine-at sees id v loc.mine n q marks grants loc.kept own has Rest only stage in let r0 : reads_of v ≡ 0 = ap reads_weight apart in (
        sem-stages sees id v loc.mine n q marks grants loc.kept own has u n marks only refl refl refl refl (subst (λ (z : Stage). FlagsAt z v.task v.sem.rest W H q marks grants) (sym stage) f)
            (count-keeps sees id v u loc.mine n m (more_of grants sees) loc.kept.count (inl free) out bias refl refl)
            (ok-of u own has (λ _. (loc.kept.each id v loc.mine).rest (ap batch_weight stage)) (omega (arith, r0)) (omega arith) (omega (arith, r0)) (omega arith)),
        hands-free id n q marks grants sees v u loc.mine n (inr (ap (λ (z : List Waiter). first_mark marks (tasks z)) (sym (loc.list knows) ∙ none), omega arith)) (λ a b. absurd (omega (arith, a, b))) (unasked-same n marks) (own-comes id n q marks grants sees v u loc.mine own has ((loc.kept.each id v loc.mine).rest (ap batch_weight stage)) (λ t not. let z : shared_at t u ≡ 0 = ap (is_number t) has ∙ is_number-else t own (λ e. not (sym e)) in omega (arith, z)))
            (pass-from q marks grants v u Rest stage (λ m. refl) refl (inl refl) (λ t. let z : shared_at t v ≡ 0 = ap (λ (h : Held). named_weight t v.task (shared_weight h)) out in omega (arith, z)) (ap marking stage) (inr (inl refl))),
      )

-- a queued reader loads its grant word, with or without the wait lock
module _ (sees : List SemPart) (id : ℕ) (v : SemPart) (known : Part) (n : ℕ) (q : List Waiter) (marks grants : List ℕ) (loc : Local sees id v known n q marks grants) (own : ℕ) (has : v.task ≡ Some own) (stage : v.sem.stage ≡ Rest) (waits : v.sem.wait ≡ Reads) (clear : v.sem.bias ≡ Clear) (out : v.held ≡ No) where
  abbrev Heard : Held → SemHand → Type 0
  Heard h s = let us : List SemPart = set sees id (record { task = v.task; held = h; sem = s }) in SemKept n q marks (set grants own (word_after Load (get_or grants own 0))) us × KeepsHandoff id n q marks grants sees n marks (set grants own (word_after Load (get_or grants own 0))) us

  abbrev Shares : Type 0
  Shares = (total alone_in (map part_of sees) ≡ 0) × (0 < alone_weight Shared → total shared_in (map part_of sees) ≡ 0)

  heard-by : (h : Held) (s : SemHand) → SemKept n q marks grants (set sees id (record { task = v.task; held = h; sem = s })) → KeepsHandoff id n q marks grants sees n marks grants (set sees id (record { task = v.task; held = h; sem = s })) → Heard h s
  heard-by h s kept hands = subst (λ (z : List ℕ). SemKept n q marks z (set sees id (record { task = v.task; held = h; sem = s })) × KeepsHandoff id n q marks grants sees n marks z (set sees id (record { task = v.task; held = h; sem = s }))) (sym (set-get_or grants own 0)) (kept, hands)

  holds : get_or grants own 0 ≡ 0 → Heard Shared (record v.sem { wait = Apart })
  holds zero_it = heard-by Shared (record v.sem { wait = Apart }) (sem-granted sees id v loc.mine n q marks grants loc.kept own has stage waits clear out zero_it) (hands-granted id n own q marks grants sees v loc.mine has waits out zero_it)

  -- the reader is counted, so there is no writer
  shares : get_or grants own 0 ≡ 0 → Shares
  shares zero_it = let g : granted_of grants v ≡ 1 = granted-w v own has Reads waits grants ∙ ap is_zero zero_it in let t = total-at (granted_of grants) sees id v loc.mine in let w = loc.kept.count.writer in
      let even : n % 2 ≡ 0 = elim (native.Mathlib.Decide.dec_le 1 (n % 2)) [ yes l ↦ (let a = loc.kept.count.apart (omega (arith, l)) in absurd (omega (arith, a, g, t))) | no l ↦ omega (arith, l) ] in (omega (arith, even, w), λ l. absurd (omega (arith, l)))

  pub on-hear : let m = get_or grants own 0 in Heard (if m == 0 then Shared else No) (heard v.sem m) × ((m == 0) ≡ true → Shares)
  on-hear = let m : ℕ = get_or grants own 0 in dite (ℕ_discrete m 0)
      (λ zero_it. subst (λ (b : Bool). Heard (if b then Shared else No) (if b then record v.sem { wait = Apart } else v.sem) × (b ≡ true → Shares)) (sym (eq-eqb m 0 zero_it)) (holds zero_it, λ _. shares zero_it))
      (λ other. subst (λ (b : Bool). Heard (if b then Shared else No) (if b then record v.sem { wait = Apart } else v.sem) × (b ≡ true → Shares)) (sym (ne_eqb m 0 other)) (
        subst (λ (z : Held). Heard z v.sem) out (heard-by v.held v.sem (subst (SemKept n q marks grants) (sym (set_again sees id v loc.mine)) loc.kept) (hands-step id n q marks grants sees v v loc.mine n marks (omega arith) (λ t. omega arith) (unasked-same n marks) (pass-same q marks grants v))),
        λ e. not-both false refl e,
      ))

  pub on-hear-locked : total busy_of sees ≡ busy_of v → let m = get_or grants own 0 in Heard (if m == 0 then Shared else No) (heard_locked v.sem m) × ((m == 0) ≡ true → Shares)
  on-hear-locked only = let m : ℕ = get_or grants own 0 in dite (ℕ_discrete m 0)
      (λ zero_it. subst (λ (b : Bool). Heard (if b then Shared else No) (if b then record v.sem { wait = Apart } else record v.sem { stage = Armed }) × (b ≡ true → Shares)) (sym (eq-eqb m 0 zero_it)) (holds zero_it, λ _. shares zero_it))
      (λ other. subst (λ (b : Bool). Heard (if b then Shared else No) (if b then record v.sem { wait = Apart } else record v.sem { stage = Armed }) × (b ≡ true → Shares)) (sym (ne_eqb m 0 other)) (
        subst (λ (z : Held). Heard z (record v.sem { stage = Armed })) out (heard-by v.held (record v.sem { stage = Armed }) (sem-arms-again sees id v loc.mine n q marks grants loc.kept own has only stage clear (omega (arith, other))) (hands-step id n q marks grants sees v (staged v Armed) loc.mine n marks (omega arith) (λ t. omega arith) (unasked-same n marks) (pass-turns q marks grants v v.sem.bias Rest Armed stage (λ m. refl) refl refl (inl refl)))),
        λ e. not-both false refl e,
      ))
