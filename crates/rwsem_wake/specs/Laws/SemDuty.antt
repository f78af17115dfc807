-- Each kind of step of a semaphore's pass keeps the facts of its wake words.
use Rattle.std.proofs.Common.{◌≡◌, ◌≢◌, ℕ, zero, suc, ◌+◌, ◌*◌, ◌<◌, ◌≤◌, ◌==◌, ◌⊎◌, inl, inr, Bool, true, false, List, [], ◌∷◌, ◌++◌, length, set, get_or, Option, Some, None, sym, refl, ap, ◌∙◌}
use Rattle.std.proofs.Common.{subst, arith, eq-eqb, ne_eqb, ⊎_elim, length-set, get_or-set_same, get_or-set_other, if◌then◌else◌}
use mathlib.Core.Option.{some, some-ne-none}
use mathlib.Core.Logic.{dite}
use native.Mathlib.Decide.{ℕ_discrete}
use lib.ListN.{get_elem?}
use Rattle.word_bits.specs.declared.TheConstants.{MAX_TASKS}
use Rattle.lock_core.specs.Records.{bit}
use Rattle.lock_core.specs.Views.{is_number}
use Rattle.lock_core.specs.Totals.{total, total-set, total-snoc, total-at}
use Rattle.lock_core.specs.ViewParts.{Each, each-set, each-snoc, set-there}
use Rattle.lock_core.proofs.HandLaws.{is_number-here}
use Rattle.lock_core.proofs.RowLaws.{none-some, same-some}
use Rattle.wait_list.specs.Lists.{first_code, without}
use Rattle.wait_list.proofs.Waiters.{first-without, without-else}
use Rattle.wake_duty.specs.DutyWakes.{WAKE_WORDS, wake_word, awake, waits, after_failed_try}
use Rattle.wake_duty.specs.Laws.Wake.{awake-none, awake-else}
use Rattle.rwsem_wake.specs.SemDuties.{DutyPart, DutyKept, PartOk, IsQuiet, times, where_so, alone_of, late_of, owes, answers, attends, chose, is_awake, wakes_it, first_writes, wakes_first, recounted}
use Rattle.rwsem_wake.specs.SemDuties.{with_wait_state, entering, leaving, choosing, less, setting, drowsing, with_wake}
use Rattle.rwsem_wake.specs.Types.{Waiter, WaitState, Awake, Tried}

-- numbers

where-more : (n a b : ℕ) → a ≤ b → where_so n a ≤ where_so n b
where-more zero a b less = omega arith
where-more (suc n) a b less = less

where-one : (n a : ℕ) → n ≡ 1 → where_so n a ≡ a
where-one n a is = ap (λ (z : ℕ). where_so z a) is

where-none : (n a : ℕ) → n ≡ 0 → where_so n a ≡ 0
where-none n a is = ap (λ (z : ℕ). where_so z a) is

where-some : {P : Type 0} (n a : ℕ) → 1 ≤ where_so n a → (1 ≤ n → 1 ≤ a → P) → P
where-some zero a more then_it = absurd (omega (arith, more))
where-some (suc n) a more then_it = then_it (omega arith) more

where-zero : (n : ℕ) → where_so n 0 ≡ 0
where-zero zero = refl
where-zero (suc n) = refl

total-more : {X : Type 0} (f g : X → ℕ) → ((x : X) → f x ≤ g x) → (xs : List X) → total f xs ≤ total g xs
total-more f g more [] = omega arith
total-more f g more (x ∷ xs) = let a = more x in let b = total-more f g more xs in omega (arith, a, b)

-- who writes or owes attends
pub answers-attend : (ps : List DutyPart) → total answers ps ≤ total attends ps
answers-attend = total-more answers attends (λ p. omega arith)

pub alone-answers : (ps : List DutyPart) → total alone_of ps ≤ total answers ps
alone-answers = total-more alone_of answers (λ p. omega arith)

-- tasks among tasks

pub times-snoc : (t u : ℕ) (us : List ℕ) → times t (us ++ u ∷ []) ≡ times t us + bit (u == t)
times-snoc t u [] = omega arith
times-snoc t u (v ∷ us) = let a = times-snoc t u us in omega (arith, a)

bit-here : (t : ℕ) → bit (t == t) ≡ 1
bit-here t = ap bit (eq-eqb t t refl)

bit-is : (u t : ℕ) → 1 ≤ bit (u == t) → u ≡ t
bit-is u t more = dite (ℕ_discrete u t) (λ is. is) (λ other. let z : bit (u == t) ≡ 0 = ap bit (ne_eqb u t other) in absurd (omega (arith, z, more)))

-- one time less of this task
less-here : (t : ℕ) (us : List ℕ) → 1 ≤ times t us → times t (less t us) + 1 ≡ times t us
less-here t [] more = absurd (omega (arith, more))
less-here t (u ∷ us) more = dite (ℕ_discrete u t)
    (λ is. let a : times t (less t (u ∷ us)) ≡ times t us = ap (λ (b : Bool). times t (if b then us else u ∷ less t us)) (eq-eqb u t is) in let b : bit (u == t) ≡ 1 = ap bit (eq-eqb u t is) in
    omega (arith, a, b))
    (λ not. let a : times t (less t (u ∷ us)) ≡ bit (u == t) + times t (less t us) = ap (λ (b : Bool). times t (if b then us else u ∷ less t us)) (ne_eqb u t not) in
    let b : bit (u == t) ≡ 0 = ap bit (ne_eqb u t not) in let c = less-here t us (omega (arith, more, b)) in omega (arith, a, b, c))

-- as many of any other
less-else : (t s : ℕ) (us : List ℕ) → s ≢ t → times s (less t us) ≡ times s us
less-else t s [] other = refl
less-else t s (u ∷ us) other = dite (ℕ_discrete u t)
    (λ is. let a : times s (less t (u ∷ us)) ≡ times s us = ap (λ (b : Bool). times s (if b then us else u ∷ less t us)) (eq-eqb u t is) in
    let b : bit (u == s) ≡ 0 = ap bit (ne_eqb u s (λ e. other (sym e ∙ is))) in omega (arith, a, b))
    (λ not. let a : times s (less t (u ∷ us)) ≡ bit (u == s) + times s (less t us) = ap (λ (b : Bool). times s (if b then us else u ∷ less t us)) (ne_eqb u t not) in let c = less-else t s us other in
    omega (arith, a, c))

-- the first waiter

first-writes-without : (t : ℕ) (q : List Waiter) → first_code q ≢ t + 1 → first_writes (without t q) ≡ first_writes q
first-writes-without t [] other = refl
first-writes-without t (w ∷ ws) other = ap first_writes (without-else w ws t (λ e. other (omega (arith, e))))

-- a quiet part wakes_it nobody
quiet-chose : (p : DutyPart) (t : ℕ) → IsQuiet p → chose t p ≡ 0
quiet-chose p t quiet = ap (times t) quiet.none

quiet-wakes_it : (p : DutyPart) (t : ℕ) → IsQuiet p → wakes_it t p ≡ 0
quiet-wakes_it p t quiet = let a = quiet-chose p t quiet in let b = awake-none p.wake.wait_state t p.task quiet.absent in
    let c : where_so p.writes (is_awake t p) ≡ 0 = ap (where_so p.writes) b ∙ where-zero p.writes in omega (arith, a, c)

module _ (words : List ℕ) (q : List Waiter) (ps : List DutyPart) (id : ℕ) (p : DutyPart) (r : DutyKept words q ps) (at : get_elem? ps id ≡ some p) where
  ok : PartOk p
  ok = r.each id p at

  -- what there is to show of a step of one pass
  pub duty-goes : (words' : List ℕ) (q' : List Waiter) (x : DutyPart) → length words' ≡ WAKE_WORDS → ((t : ℕ) → t < MAX_TASKS → wake_word words' t ≤ 1) → PartOk x
      → ((t : ℕ) → first_code q' ≡ t + 1 → 1 ≤ total attends (set ps id x) + wakes_first words' q' (set ps id x) t)
      → (1 ≤ total late_of (set ps id x) → 1 ≤ total answers (set ps id x)) → (1 ≤ x.granted → (t : ℕ) → x.task ≡ Some t → 1 ≤ total (chose t) (set ps id x) + wake_word words' t + is_awake t x)
      → ((j : ℕ) (w : DutyPart) → j ≢ id → get_elem? ps j ≡ some w → 1 ≤ w.granted → (t : ℕ) → w.task ≡ Some t → 1 ≤ total (chose t) (set ps id x) + wake_word words' t + is_awake t w)
      → DutyKept words' q' (set ps id x)
  duty-goes words' q' x wide bits fine first late mine others = record {
    wide = wide;
    bits = bits;
    each = each-set PartOk PartOk ps id x fine (λ j w _ _ k. k) r.each;
    first = first;
    late = late;
    granted = each-set (λ w. 1 ≤ w.granted → (t : ℕ) → w.task ≡ Some t → 1 ≤ total (chose t) ps + wake_word words t + is_awake t w)
        (λ w. 1 ≤ w.granted → (t : ℕ) → w.task ≡ Some t → 1 ≤ total (chose t) (set ps id x) + wake_word words' t + is_awake t w) ps id x mine (λ j w other at' _. others j w other at') r.granted;
  }

  -- who is granted keeps its waker, where the pass has chosen no less
  others-keep : (x : DutyPart) → ((t : ℕ) → chose t p ≤ chose t x) → (j : ℕ) (w : DutyPart) → get_elem? ps j ≡ some w → 1 ≤ w.granted → (t : ℕ) → w.task ≡ Some t
      → 1 ≤ total (chose t) (set ps id x) + wake_word words t + is_awake t w
  others-keep x more j w at' granted t task = let a = r.granted j w at' granted t task in let s = total-set (chose t) ps id p x at in let m = more t in omega (arith, a, s, m)

  -- the first waiter has no less
  first-keeps : (q' : List Waiter) (x : DutyPart) (t : ℕ) → first_code q' ≡ first_code q → first_writes q' ≡ first_writes q → attends p ≤ attends x → (first_writes q ≡ 1 → wakes_it t p ≤ wakes_it t x)
      → first_code q' ≡ t + 1 → 1 ≤ total attends (set ps id x) + wakes_first words q' (set ps id x) t
  first-keeps q' x t code writes more end_sleep is = let a = r.first t (sym code ∙ is) in let s = total-set attends ps id p x at in
      let same : wakes_first words q' (set ps id x) t ≡ wakes_first words q (set ps id x) t = ap (λ (z : ℕ). where_so z (total (wakes_it t) (set ps id x) + wake_word words t)) writes in
      let w : wakes_first words q ps t ≤ wakes_first words q (set ps id x) t = by-kind q end_sleep in omega (arith, a, s, more, w, same)
    where
      by-kind : (l : List Waiter) → (first_writes l ≡ 1 → wakes_it t p ≤ wakes_it t x) → wakes_first words l ps t ≤ wakes_first words l (set ps id x) t
      by-kind l up = elim (native.Mathlib.Decide.dec_le (first_writes l) 0) [
        | yes none ↦ let z : first_writes l ≡ 0 = omega (arith, none) in let a = where-none (first_writes l) (total (wakes_it t) ps + wake_word words t) z in omega (arith, a)
        | no some_w ↦ where-more (first_writes l) (total (wakes_it t) ps + wake_word words t) (total (wakes_it t) (set ps id x) + wake_word words t)
            (let one = first-bit l in let m = up (omega (arith, one, some_w)) in let s = total-set (wakes_it t) ps id p x at in omega (arith, m, s))
      ]
        where
          first-bit : (l : List Waiter) → first_writes l ≤ 1
          first-bit [] = omega arith
          first-bit (w ∷ l) = bit-small w.writer
            where
              bit-small : (b : Bool) → bit b ≤ 1
              bit-small true = omega arith
              bit-small false = omega arith

  -- how it holds, its biases and its debt change
  pub duty-counts : (alone guards late : ℕ) (owing : Bool) → (p.task ≡ None → owing ≡ false)
      → ((t : ℕ) → first_code q ≡ t + 1 → (1 ≤ total attends (set ps id (recounted p alone guards late owing))) ⊎ (attends p ≤ alone + guards + bit owing) ⊎ (1 ≤ wakes_first words q ps t))
      → (1 ≤ total late_of (set ps id (recounted p alone guards late owing)) → 1 ≤ total answers (set ps id (recounted p alone guards late owing)))
      → DutyKept words q (set ps id (recounted p alone guards late owing))
  duty-counts alone guards late owing named first answered = let x = recounted p alone guards late owing in duty-goes words q x r.wide r.bits
      record { unnamed = λ none. let quiet = ok.unnamed none in record { clear = named none; none = quiet.none; absent = quiet.absent; out = quiet.out }; chosen = ok.chosen; rest = ok.rest }
      (λ t e. elim (first t e) [
        | inl some_s ↦ omega (arith, some_s)
        | inr kept ↦ elim kept [
          | inl more ↦ first-keeps q x t refl refl more (λ _. omega arith) e
          | inr woken ↦ let s = total-set (wakes_it t) ps id p x at in
              let same : wakes_first words q (set ps id x) t ≡ wakes_first words q ps t =
              ap (where_so (first_writes q)) (let e : total (wakes_it t) (set ps id x) + wake_word words t ≡ total (wakes_it t) ps + wake_word words t = omega (arith, s) in e) in
              omega (arith, woken, same)
        ]
      ])
      answered
      (λ granted t task. others-keep x (λ u. omega arith) id p at granted t task)
      (λ j w _ at' granted t task. others-keep x (λ u. omega arith) j w at' granted t task)

  -- it comes to write
  pub duty-writes : (guards : ℕ) → DutyKept words q (set ps id (recounted p 1 guards p.late p.wake.owing))
  duty-writes guards = let x = recounted p 1 guards p.late p.wake.owing in duty-counts 1 guards p.late p.wake.owing (λ none. (ok.unnamed none).clear)
      (λ t e. inl (let a = total-at attends (set ps id x) id x (set-there ps id p x at) in omega (arith, a)))
      (λ _. let a = total-at answers (set ps id x) id x (set-there ps id p x at) in omega (arith, a))

  -- it ends or downgrades a hold, or gives up a bias, and owes a wake
  pub duty-owes : (alone guards late t : ℕ) → p.task ≡ Some t → DutyKept words q (set ps id (recounted p alone guards late true))
  duty-owes alone guards late t task = let x = recounted p alone guards late true in duty-counts alone guards late true (λ none. none-some t (sym none ∙ task))
      (λ t e. inl (let a = total-at attends (set ps id x) id x (set-there ps id p x at) in omega (arith, a)))
      (λ _. let a = total-at answers (set ps id x) id x (set-there ps id p x at) in omega (arith, a))

  -- it comes to read or to have a bias that keeps writers out, or changes one for the other; so it does without its debt, where no bias was reserved under a writer
  pub duty-guards : (guards : ℕ) → p.guards ≤ guards → DutyKept words q (set ps id (recounted p p.alone guards p.late p.wake.owing))
  duty-guards guards more = let x = recounted p p.alone guards p.late p.wake.owing in
      duty-counts p.alone guards p.late p.wake.owing (λ none. (ok.unnamed none).clear) (λ t e. inr (inl (omega (arith, more))))
      (λ some_l. let l = total-set late_of ps id p x at in let a = total-set answers ps id p x at in let k = r.late (omega (arith, some_l, l)) in omega (arith, k, a))

  pub duty-pays : (guards : ℕ) → 1 ≤ guards → total late_of (set ps id (recounted p p.alone guards 0 false)) ≡ 0 → DutyKept words q (set ps id (recounted p p.alone guards 0 false))
  duty-pays guards some_g none = let x = recounted p p.alone guards 0 false in duty-counts p.alone guards 0 false (λ _. refl)
      (λ t e. inl (let a = total-at attends (set ps id x) id x (set-there ps id p x at) in omega (arith, a, some_g)))
      (λ some_l. absurd (omega (arith, some_l, none)))

  -- it ends a shared hold, or gives up a bias, and somebody else writes or is counted as a reader
  pub duty-lets-go : (guards : ℕ) → 1 ≤ total attends (set ps id (recounted p p.alone guards p.late p.wake.owing)) + total late_of ps
      → DutyKept words q (set ps id (recounted p p.alone guards p.late p.wake.owing))
  duty-lets-go guards others = let x = recounted p p.alone guards p.late p.wake.owing in let l = total-set late_of ps id p x at in let s = total-set answers ps id p x at in
      let answered : 1 ≤ total late_of (set ps id x) → 1 ≤ total answers (set ps id x) = λ some_l. let k = r.late (omega (arith, some_l, l)) in omega (arith, k, s) in
      duty-counts p.alone guards p.late p.wake.owing (λ none. (ok.unnamed none).clear)
      (λ t e. inl (elim (native.Mathlib.Decide.dec_le (total late_of ps) 0) [
        | yes none ↦ omega (arith, others, none)
        | no some_l ↦ let a = answered (omega (arith, some_l, l)) in let b = answers-attend (set ps id x) in omega (arith, a, b)
      ]))
      answered

  -- it gives up a bias, and its debt, where somebody writes or is counted as a reader, and no bias came under a writer
  pub duty-returns : (guards : ℕ) → 1 ≤ total attends (set ps id (recounted p p.alone guards p.late false)) → total late_of (set ps id (recounted p p.alone guards p.late false)) ≡ 0
      → DutyKept words q (set ps id (recounted p p.alone guards p.late false))
  duty-returns guards held none = duty-counts p.alone guards p.late false (λ _. refl) (λ t e. inl held) (λ some_l. absurd (omega (arith, some_l, none)))

  -- nobody waits
  pub duty-unwaited : (alone guards late : ℕ) (owing : Bool) → (p.task ≡ None → owing ≡ false) → first_code q ≡ 0 → total late_of (set ps id (recounted p alone guards late owing)) ≡ 0
      → DutyKept words q (set ps id (recounted p alone guards late owing))
  duty-unwaited alone guards late owing named nobody none = duty-counts alone guards late owing named (λ t e. absurd (omega (arith, e, nobody))) (λ some_l. absurd (omega (arith, some_l, none)))

  -- it ends a hold while WAITERS isn't set: the first waiter tries before it sleeps
  pub duty-ends : (alone guards late : ℕ) → ((t : ℕ) → first_code q ≡ t + 1 → (1 ≤ total attends (set ps id (recounted p alone guards late false))) ⊎ (1 ≤ wakes_first words q ps t))
      → total late_of (set ps id (recounted p alone guards late false)) ≡ 0 → DutyKept words q (set ps id (recounted p alone guards late false))
  duty-ends alone guards late first none = duty-counts alone guards late false (λ _. refl) (λ t e. elim (first t e) [ inl some_s ↦ inl some_s | inr woken ↦ inr (inr woken) ])
      (λ some_l. absurd (omega (arith, some_l, none)))

  -- it reserves a bias, and finds a writer
  pub duty-reserves-late : 1 ≤ total alone_of ps → DutyKept words q (set ps id (recounted p p.alone p.guards 1 false))
  duty-reserves-late written = let x = recounted p p.alone p.guards 1 false in let a = total-set alone_of ps id p x at in let b = alone-answers (set ps id x) in let c = answers-attend (set ps id x) in
      duty-counts p.alone p.guards 1 false (λ _. refl) (λ t e. inl (omega (arith, written, a, b, c))) (λ _. omega (arith, written, a, b))

  -- it takes that bias back
  pub duty-takes-back : p.late ≡ 1 → total late_of (set ps id (recounted p p.alone p.guards 0 p.wake.owing)) ≡ 0 → DutyKept words q (set ps id (recounted p p.alone p.guards 0 p.wake.owing))
  duty-takes-back was none = let x = recounted p p.alone p.guards 0 p.wake.owing in
      duty-counts p.alone p.guards 0 p.wake.owing (λ none. (ok.unnamed none).clear) (λ t e. inr (inl (omega arith))) (λ some_l. absurd (omega (arith, some_l, none)))

  -- it waits no more as a reader, for it has loaded its grant word, which was 0
  pub duty-hears : (guards : ℕ) → 1 ≤ guards → p.wake.owing ≡ false → DutyKept words q (set ps id (record (leaving p false) { guards = guards }))
  duty-hears guards some_g clear = let x : DutyPart = record (leaving p false) { guards = guards } in duty-goes words q x r.wide r.bits
      record { unnamed = λ none. let quiet = ok.unnamed none in record { clear = refl; none = quiet.none; absent = refl; out = refl }; chosen = ok.chosen; rest = ok.rest }
      (λ t e. let a = total-at attends (set ps id x) id x (set-there ps id p x at) in omega (arith, a, some_g))
      (λ some_l. let l = total-set late_of ps id p x at in let a = total-set answers ps id p x at in let k = r.late (omega (arith, some_l, l)) in let z : owes p ≡ 0 = ap bit clear in
      omega (arith, k, a, z))
      (λ granted. absurd (omega (arith, granted)))
      (λ j w _ at' granted t task. others-keep x (λ u. omega arith) j w at' granted t task)

  -- how its task waits changes, and it isn't a granted reader
  waits-on : (v : WaitState) → (p.task ≡ None → waits v ≡ 0) → p.granted ≡ 0
      → ((t : ℕ) → first_code q ≡ t + 1 → first_writes q ≡ 1 → (1 ≤ total attends ps) ⊎ (where_so p.writes (is_awake t p) ≤ where_so p.writes (awake t p.task v)))
      → DutyKept words q (set ps id (with_wait_state p v))
  waits-on v named out first = let x = with_wait_state p v in let s : (t : ℕ) → total attends (set ps id x) ≡ total attends ps = λ t. let a = total-set attends ps id p x at in omega (arith, a) in
      duty-goes words q x r.wide r.bits
      record { unnamed = λ none. let quiet = ok.unnamed none in record { clear = quiet.clear; none = quiet.none; absent = named none; out = quiet.out }; chosen = ok.chosen; rest = ok.rest }
      (λ t e. elim (native.Mathlib.Decide.dec_le 1 (total attends ps)) [
        | yes some_s ↦ let a = s t in omega (arith, a, some_s)
        | no none ↦ first-keeps q x t refl refl (omega arith) (λ writes. ⊎_elim (λ (some_s : 1 ≤ total attends ps). absurd (none some_s))
            (λ (more : where_so p.writes (is_awake t p) ≤ where_so p.writes (awake t p.task v)). omega (arith, more)) (first t e writes)) e
      ])
      (λ some_l. let l = total-set late_of ps id p x at in let a = total-set answers ps id p x at in let k = r.late (omega (arith, some_l, l)) in omega (arith, k, a))
      (λ granted. absurd (omega (arith, granted, out)))
      (λ j w _ at' granted t task. others-keep x (λ u. omega arith) j w at' granted t task)

  -- a writer's try fails: it isn't the first waiter, or somebody else writes or is counted as a reader
  pub duty-fails : (e t : ℕ) → p.task ≡ Some t → p.granted ≡ 0 → (first_code q ≡ t + 1 → 1 ≤ total attends ps) → DutyKept words q (set ps id (with_wait_state p (after_failed_try p.wake.wait_state e)))
  duty-fails e t task out first = waits-on (after_failed_try p.wake.wait_state e) (λ none. none-some t (sym none ∙ task)) out (λ u is writes. dite (ℕ_discrete u t)
      (λ same. inl (first (omega (arith, is, same))))
      (λ other. inr (let a : is_awake u p ≡ 0 = ap (λ (z : Option ℕ). awake u z p.wake.wait_state) task ∙ awake-else p.wake.wait_state u t (λ z. other (sym z)) in
      let b : where_so p.writes (is_awake u p) ≡ 0 = ap (where_so p.writes) a ∙ where-zero p.writes in omega (arith, b))))

  -- a reader has loaded its grant word, which wasn't 0
  pub duty-waits : (e t : ℕ) → p.task ≡ Some t → p.granted ≡ 0 → p.writes ≡ 0 → DutyKept words q (set ps id (with_wait_state p (after_failed_try p.wake.wait_state e)))
  duty-waits e t task out reads = waits-on (after_failed_try p.wake.wait_state e) (λ none. none-some t (sym none ∙ task)) out
      (λ u is writes. inr (let a = where-none p.writes (is_awake u p) reads in omega (arith, a)))

  -- a waiter enters, awake: a reader by a bias in transit
  pub duty-enters : (w : Waiter) → p.task ≡ Some w.task → p.granted ≡ 0 → p.writes ≡ 0 → (w.writer ≡ false → 1 ≤ p.guards) → DutyKept words (q ++ w ∷ []) (set ps id (entering p w))
  duty-enters w task out none_yet reads = let x = entering p w in duty-goes words (q ++ w ∷ []) x r.wide r.bits
      record { unnamed = λ none. none-some w.task (sym none ∙ task); chosen = ok.chosen; rest = ok.rest }
      (λ t e. first-comes q t refl e)
      (λ some_l. let l = total-set late_of ps id p x at in let a = total-set answers ps id p x at in let k = r.late (omega (arith, some_l, l)) in omega (arith, k, a))
      (λ granted. absurd (omega (arith, granted, out)))
      (λ j y _ at' granted t task. others-keep x (λ u. omega arith) j y at' granted t task)
    where
      own : (t : ℕ) → w.task ≡ t → (b : Bool) → w.writer ≡ b → 1 ≤ total attends (set ps id (entering p w)) + where_so (bit w.writer)
          (total (wakes_it t) (set ps id (entering p w)) + wake_word words t)
      own t is true writer = let x = entering p w in let one : bit w.writer ≡ 1 = ap bit writer in let a = total-at (wakes_it t) (set ps id x) id x (set-there ps id p x at) in
          let named : is_number t p.task ≡ 1 = ap (is_number t) (task ∙ ap Some is) ∙ is_number-here t in let b = where-one (bit w.writer) (is_number t p.task) one in
          let c = where-one (bit w.writer) (total (wakes_it t) (set ps id x) + wake_word words t) one in omega (arith, a, named, b, c)
      own t is false writer = let x = entering p w in let a = total-at attends (set ps id x) id x (set-there ps id p x at) in let g = reads writer in omega (arith, a, g)

      first-comes : (l : List Waiter) (t : ℕ) → q ≡ l → first_code (q ++ w ∷ []) ≡ t + 1 → 1 ≤ total attends (set ps id (entering p w)) + wakes_first words (q ++ w ∷ []) (set ps id (entering p w)) t
      first-comes [] t is e = let code : first_code (q ++ w ∷ []) ≡ w.task + 1 = ap (λ (z : List Waiter). first_code (z ++ w ∷ [])) is in
          let kind : first_writes (q ++ w ∷ []) ≡ bit w.writer = ap (λ (z : List Waiter). first_writes (z ++ w ∷ [])) is in
          let here = own t (omega (arith, code, e)) w.writer refl in let same : wakes_first words (q ++ w ∷ []) (set ps id (entering p w)) t
          ≡ where_so (bit w.writer) (total (wakes_it t) (set ps id (entering p w)) + wake_word words t) =
          ap (λ (z : ℕ). where_so z (total (wakes_it t) (set ps id (entering p w)) + wake_word words t)) kind in omega (arith, here, same)
      first-comes (y ∷ l) t is e = first-keeps (q ++ w ∷ []) (entering p w) t (ap (λ (z : List Waiter). first_code (z ++ w ∷ [])) is ∙ sym (ap first_code is))
          (ap (λ (z : List Waiter). first_writes (z ++ w ∷ [])) is ∙ sym (ap first_writes is)) (omega arith)
          (λ _. let a = where-none p.writes (is_awake t p) none_yet in omega (arith, a)) e

  -- a waiter that isn't granted leaves: it owes a wake, or writes, or isn't the first
  pub duty-leaves : (t : ℕ) (owing : Bool) → p.task ≡ Some t → owes p ≤ bit owing → (owing ≡ true) ⊎ (1 ≤ p.alone) ⊎ (first_code q ≢ t + 1) → DutyKept words (without t q) (set ps id (leaving p owing))
  duty-leaves t owing task still why = let x = leaving p owing in duty-goes words (without t q) x r.wide r.bits
      record { unnamed = λ none. none-some t (sym none ∙ task); chosen = ok.chosen; rest = ok.rest }
      (λ u e. elim why [
        | inl debt ↦ let a = total-at attends (set ps id x) id x (set-there ps id p x at) in let b : bit owing ≡ 1 = ap bit debt in omega (arith, a, b)
        | inr (inl alone) ↦ let a = total-at attends (set ps id x) id x (set-there ps id p x at) in omega (arith, a, alone)
        | inr (inr other) ↦ first-keeps (without t q) x u (first-without t q other) (first-writes-without t q other) (omega (arith, still))
            (λ _. let a : is_awake u p ≡ 0 = ap (λ (z : Option ℕ). awake u z p.wake.wait_state) task
            ∙ awake-else p.wake.wait_state u t (λ z. let code = first-without t q other in other (omega (arith, code, e, z))) in
            let b : where_so p.writes (is_awake u p) ≡ 0 = ap (where_so p.writes) a ∙ where-zero p.writes in omega (arith, b)) e
      ])
      (λ some_l. let l = total-set late_of ps id p x at in let a = total-set answers ps id p x at in let k = r.late (omega (arith, some_l, l)) in omega (arith, k, a, still))
      (λ granted. absurd (omega (arith, granted)))
      (λ j w _ at' granted u task'. others-keep x (λ u. omega arith) j w at' granted u task')

  -- it removes one more task of its batch from the list, and keeps writers out meanwhile
  pub duty-picks : (t : ℕ) → t < MAX_TASKS → p.task ≢ None → 1 ≤ p.guards → total late_of ps ≡ 0 → DutyKept words (without t q) (set ps id (choosing p t (p.rest ++ t ∷ []) false))
  duty-picks t few named guards none = let x = choosing p t (p.rest ++ t ∷ []) false in duty-goes words (without t q) x r.wide r.bits
      record {
        unnamed = λ is. absurd (named is);
        chosen = λ u more. let s = times-snoc u t p.wake.chosen in dite (ℕ_discrete t u) (λ same. omega (arith, same, few))
            (λ other. let z : bit (t == u) ≡ 0 = ap bit (ne_eqb t u other) in ok.chosen u (omega (arith, more, s, z)));
        rest = λ u. let a = times-snoc u t p.wake.chosen in let b = times-snoc u t p.rest in let c = ok.rest u in omega (arith, a, b, c);
      }
      (λ u e. let a = total-at attends (set ps id x) id x (set-there ps id p x at) in omega (arith, a, guards))
      (λ some_l. let l = total-set late_of ps id p x at in absurd (omega (arith, some_l, l, none)))
      (λ granted u task. others-keep x (λ s. let a = times-snoc s t p.wake.chosen in omega (arith, a)) id p at granted u task)
      (λ j w _ at' granted u task. others-keep x (λ s. let a = times-snoc s t p.wake.chosen in omega (arith, a)) j w at' granted u task)

  -- it chooses the first waiter, a writer
  pub duty-chooses : (t : ℕ) → t < MAX_TASKS → p.task ≢ None → first_code q ≡ t + 1 → first_writes q ≡ 1 → total late_of ps ≡ 0 → DutyKept words q (set ps id (choosing p t p.rest false))
  duty-chooses t few named is writes none = let x = choosing p t p.rest false in duty-goes words q x r.wide r.bits
      record {
        unnamed = λ z. absurd (named z);
        chosen = λ u more. let s = times-snoc u t p.wake.chosen in dite (ℕ_discrete t u) (λ same. omega (arith, same, few))
            (λ other. let z : bit (t == u) ≡ 0 = ap bit (ne_eqb t u other) in ok.chosen u (omega (arith, more, s, z)));
        rest = λ u. let a = times-snoc u t p.wake.chosen in let c = ok.rest u in omega (arith, a, c);
      }
      (λ u e. let same : t ≡ u = omega (arith, e, is) in let a = total-at (wakes_it u) (set ps id x) id x (set-there ps id p x at) in let b = times-snoc u t p.wake.chosen in
      let c : bit (t == u) ≡ 1 = ap bit (eq-eqb t u same) in
      let d = where-one (first_writes q) (total (wakes_it u) (set ps id x) + wake_word words u) writes in omega (arith, a, b, c, d))
      (λ some_l. let l = total-set late_of ps id p x at in absurd (omega (arith, some_l, l, none)))
      (λ granted u task. others-keep x (λ s. let a = times-snoc s t p.wake.chosen in omega (arith, a)) id p at granted u task)
      (λ j w _ at' granted u task. others-keep x (λ s. let a = times-snoc s t p.wake.chosen in omega (arith, a)) j w at' granted u task)

  -- the wake word of a task
  word-here : (t n : ℕ) → t < MAX_TASKS → wake_word (set words (8 * t) n) t ≡ n
  word-here t n few = let w = r.wide in get_or-set_same words (8 * t) n 0 (omega (arith, w, few))

  word-else : (t u n : ℕ) → u ≢ t → wake_word (set words (8 * t) n) u ≡ wake_word words u
  word-else t u n other = get_or-set_other words (8 * t) (8 * u) n 0 (λ e. other (omega (arith, e)))

  bits-set : (t n : ℕ) → t < MAX_TASKS → n ≤ 1 → (u : ℕ) → u < MAX_TASKS → wake_word (set words (8 * t) n) u ≤ 1
  bits-set t n few small u few' = dite (ℕ_discrete u t) (λ e. let a = word-here t n few in
      let b : wake_word (set words (8 * t) n) u ≡ wake_word (set words (8 * t) n) t = ap (wake_word (set words (8 * t) n)) e in
      omega (arith, a, b, small)) (λ e. let a = word-else t u n e in let b = r.bits u few' in omega (arith, a, b))

  -- the wake word of a task that it has chosen is set, once its whole batch is granted
  pub duty-sets : (t : ℕ) → 1 ≤ chose t p → p.rest ≡ [] → DutyKept (set words (8 * t) 1) q (set ps id (with_wake p (setting t p.wake)))
  duty-sets t chosen granted_all = let few = ok.chosen t chosen in let x = with_wake p (setting t p.wake) in let g = total-set attends ps id p x at in
      duty-goes (set words (8 * t) 1) q x (length-set words (8 * t) 1 ∙ r.wide) (bits-set t 1 few (omega arith))
      record {
        unnamed = λ none. absurd (let quiet = quiet-chose p t (ok.unnamed none) in omega (arith, chosen, quiet));
        chosen = λ u more. ok.chosen u (let a = fewer u in omega (arith, a, more));
        rest = λ u. let a : times u p.rest ≡ 0 = ap (times u) granted_all in omega (arith, a);
      }
      (λ u e. let a = r.first u e in by-first u a)
      (λ some_l. let l = total-set late_of ps id p x at in let a = total-set answers ps id p x at in let k = r.late (omega (arith, some_l, l)) in omega (arith, k, a))
      (λ granted u task. still id p at granted u task)
      (λ j w _ at' granted u task. still j w at' granted u task)
    where
      x' : DutyPart
      x' = with_wake p (setting t p.wake)

      fewer : (u : ℕ) → times u (less t p.wake.chosen) ≤ times u p.wake.chosen
      fewer u = dite (ℕ_discrete u t) (λ same. subst (λ (z : ℕ). times z (less t p.wake.chosen) ≤ times z p.wake.chosen) (sym same) (let a = less-here t p.wake.chosen chosen in omega (arith, a)))
          (λ other. let a = less-else t u p.wake.chosen other in omega (arith, a))

      -- of each task: as much as before
      as-much : (u : ℕ) (c : ℕ) → 1 ≤ total (chose u) ps + wake_word words u + c → 1 ≤ total (chose u) (set ps id x') + wake_word (set words (8 * t) 1) u + c
      as-much u c some_c = dite (ℕ_discrete u t)
          (λ same. let few = ok.chosen t chosen in let a = word-here t 1 few in
          let b : wake_word (set words (8 * t) 1) u ≡ wake_word (set words (8 * t) 1) t = ap (wake_word (set words (8 * t) 1)) same in omega (arith, a, b))
          (λ other. let a = word-else t u 1 other in let b = total-set (chose u) ps id p x' at in let c' = less-else t u p.wake.chosen other in omega (arith, a, b, c', some_c))

      still : (j : ℕ) (w : DutyPart) → get_elem? ps j ≡ some w → 1 ≤ w.granted → (u : ℕ) → w.task ≡ Some u → 1 ≤ total (chose u) (set ps id x') + wake_word (set words (8 * t) 1) u + is_awake u w
      still j w at' granted u task = as-much u (is_awake u w) (r.granted j w at' granted u task)

      by-first : (u : ℕ) → 1 ≤ total attends ps + wakes_first words q ps u → 1 ≤ total attends (set ps id x') + wakes_first (set words (8 * t) 1) q (set ps id x') u
      by-first u some_f = elim (native.Mathlib.Decide.dec_le 1 (total attends ps)) [
        | yes some_s ↦ let g = total-set attends ps id p x' at in omega (arith, g, some_s)
        | no none ↦ where-some (first_writes q) (total (wakes_it u) ps + wake_word words u) (omega (arith, none, some_f)) (λ writes some_w.
            let up : 1 ≤ total (wakes_it u) (set ps id x') + wake_word (set words (8 * t) 1) u = dite (ℕ_discrete u t)
            (λ same. let few = ok.chosen t chosen in let a = word-here t 1 few in
            let b : wake_word (set words (8 * t) 1) u ≡ wake_word (set words (8 * t) 1) t = ap (wake_word (set words (8 * t) 1)) same in omega (arith, a, b))
            (λ other. let a = word-else t u 1 other in let b = total-set (wakes_it u) ps id p x' at in let c' = less-else t u p.wake.chosen other in omega (arith, a, b, c', some_w)) in
            let a = where-more (first_writes q) 1 (total (wakes_it u) (set ps id x') + wake_word (set words (8 * t) 1) u) up in let b = where-at-least (first_writes q) writes in omega (arith, a, b))
      ]
        where
          where-at-least : (n : ℕ) → 1 ≤ n → where_so n 1 ≡ 1
          where-at-least zero more = absurd (omega (arith, more))
          where-at-least (suc n) more = refl

  -- a waiter swaps its own wake word for 0
  pub duty-drowses : (t : ℕ) → p.task ≡ Some t → t < MAX_TASKS → (e : ℕ) × (p.wake.wait_state ≡ Tried e) → (first_code q ≡ t + 1 → first_writes q ≡ 1 → p.writes ≡ 1)
      → ((j : ℕ) (w : DutyPart) → j ≢ id → get_elem? ps j ≡ some w → w.task ≢ Some t)
      → DutyKept (set words (8 * t) 0) q (set ps id (with_wake p (drowsing (wake_word words t) p.wake)))
  duty-drowses t task few tried writer apart = by-word (wake_word words t) refl
    where
      by-word : (old : ℕ) → wake_word words t ≡ old → DutyKept (set words (8 * t) 0) q (set ps id (with_wake p (drowsing old p.wake)))
      by-word zero was = let x = with_wake p (drowsing 0 p.wake) in duty-goes (set words (8 * t) 0) q x (length-set words (8 * t) 0 ∙ r.wide) (bits-set t 0 few (omega arith))
          record { unnamed = λ none. none-some t (sym none ∙ task); chosen = ok.chosen; rest = ok.rest }
          (λ u e. let a = r.first u e in let g = total-set attends ps id p x at in let s = total-set (wakes_it u) ps id p x at in let w = same u in
          let same_s : total (wakes_it u) (set ps id x) + wake_word (set words (8 * t) 0) u ≡ total (wakes_it u) ps + wake_word words u = omega (arith, s, w) in
          let z : wakes_first (set words (8 * t) 0) q (set ps id x) u ≡ wakes_first words q ps u = ap (where_so (first_writes q)) same_s in omega (arith, a, g, z))
          (λ some_l. let l = total-set late_of ps id p x at in let a = total-set answers ps id p x at in let k = r.late (omega (arith, some_l, l)) in omega (arith, k, a))
          (λ granted u task'. let a = r.granted id p at granted u task' in let s = total-set (chose u) ps id p x at in let w = same u in omega (arith, a, s, w))
          (λ j y _ at' granted u task'. let a = r.granted j y at' granted u task' in let s = total-set (chose u) ps id p x at in let w = same u in omega (arith, a, s, w))
        where
          same : (u : ℕ) → wake_word (set words (8 * t) 0) u ≡ wake_word words u
          same u = dite (ℕ_discrete u t) (λ h. ap (wake_word (set words (8 * t) 0)) h ∙ (word-here t 0 few ∙ (sym was ∙ ap (wake_word words) (sym h)))) (λ h. word-else t u 0 h)
      by-word (suc old) was = let x = with_wake p (drowsing (suc old) p.wake) in duty-goes (set words (8 * t) 0) q x (length-set words (8 * t) 0 ∙ r.wide) (bits-set t 0 few (omega arith))
          record { unnamed = λ none. none-some t (sym none ∙ task); chosen = ok.chosen; rest = ok.rest }
          (λ u e. dite (ℕ_discrete u t)
          (λ h. awakes u h e)
          (λ h. let a = r.first u e in let g = total-set attends ps id p x at in let s = total-set (wakes_it u) ps id p x at in let w = word-else t u 0 h in
          let b1 : is_awake u p ≡ 0 = ap (λ (z : Option ℕ). awake u z p.wake.wait_state) task ∙ awake-else p.wake.wait_state u t (λ z. h (sym z)) in
          let b2 : is_awake u x ≡ 0 = ap (λ (z : Option ℕ). awake u z Awake) task ∙ awake-else Awake u t (λ z. h (sym z)) in
          let c1 : where_so p.writes (is_awake u p) ≡ 0 = ap (where_so p.writes) b1 ∙ where-zero p.writes in
          let c2 : where_so p.writes (is_awake u x) ≡ 0 = ap (where_so p.writes) b2 ∙ where-zero p.writes in
          let same_s : total (wakes_it u) (set ps id x) + wake_word (set words (8 * t) 0) u ≡ total (wakes_it u) ps + wake_word words u = omega (arith, s, w, c1, c2) in
          let z : wakes_first (set words (8 * t) 0) q (set ps id x) u ≡ wakes_first words q ps u = ap (where_so (first_writes q)) same_s in omega (arith, a, g, z)))
          (λ some_l. let l = total-set late_of ps id p x at in let a = total-set answers ps id p x at in let k = r.late (omega (arith, some_l, l)) in omega (arith, k, a))
          (λ granted u task'. let h : u ≡ t = same-some u t (sym task' ∙ task) in let a = number u h in omega (arith, a))
          (λ j y other at' granted u task'. let a = r.granted j y at' granted u task' in let s = total-set (chose u) ps id p x at in
          let w = word-else t u 0 (λ h. apart j y other at' (task' ∙ ap Some h)) in omega (arith, a, s, w))
        where
          number : (u : ℕ) → u ≡ t → is_number u p.task ≡ 1
          number u h = ap (is_number u) (task ∙ ap Some (sym h)) ∙ is_number-here u

          awakes : (u : ℕ) → u ≡ t → first_code q ≡ u + 1 → 1 ≤ total attends (set ps id (with_wake p (drowsing (suc old) p.wake))) + wakes_first (set words (8 * t) 0) q
              (set ps id (with_wake p (drowsing (suc old) p.wake))) u
          awakes u h e = let x = with_wake p (drowsing (suc old) p.wake) in let g = total-set attends ps id p x at in elim (native.Mathlib.Decide.dec_le 1 (total attends ps)) [
            | yes some_s ↦ omega (arith, g, some_s)
            | no none ↦ let a = r.first u e in where-some (first_writes q) (total (wakes_it u) ps + wake_word words u) (omega (arith, none, a)) (λ writes some_w. let kind = one-bit q writes in
                let mine = writer (omega (arith, e, h)) kind in let b = total-at (wakes_it u) (set ps id x) id x (set-there ps id p x at) in let c = where-one p.writes (is_number u p.task) mine in
                let n = number u h in
                let d = where-one (first_writes q) (total (wakes_it u) (set ps id x) + wake_word (set words (8 * t) 0) u) kind in omega (arith, b, c, n, d))
          ]
            where
              one-bit : (l : List Waiter) → 1 ≤ first_writes l → first_writes l ≡ 1
              one-bit [] more = absurd (omega (arith, more))
              one-bit (w ∷ l) more = by-kind w.writer more
                where
                  by-kind : (b : Bool) → 1 ≤ bit b → bit b ≡ 1
                  by-kind true more = refl
                  by-kind false more = absurd (omega (arith, more))

  -- a quiet part becomes another, as where its pass gets a number or gives it back
  pub duty-quiet : (x : DutyPart) → IsQuiet p → IsQuiet x → x.alone ≡ p.alone → x.guards ≡ p.guards → x.late ≡ p.late → x.rest ≡ p.rest → DutyKept words q (set ps id x)
  duty-quiet x was now alone guards late rest = let none : owes p ≡ 0 = ap bit was.clear in let none' : owes x ≡ 0 = ap bit now.clear in duty-goes words q x r.wide r.bits
      record {
        unnamed = λ _. now;
        chosen = λ t more. absurd (let z = quiet-chose x t now in omega (arith, more, z));
        rest = λ t. let a : times t x.rest ≡ times t p.rest = ap (times t) rest in
            let c = ok.rest t in let z = quiet-chose p t was in omega (arith, a, c, z);
      }
      (λ t e. first-keeps q x t refl refl (omega (arith, alone, guards, none, none')) (λ _. let a = quiet-wakes_it p t was in omega (arith, a)) e)
      (λ some_l. let l = total-set late_of ps id p x at in let a = total-set answers ps id p x at in let k = r.late (omega (arith, some_l, l, late)) in omega (arith, k, a, alone, none, none'))
      (λ granted. absurd (let z = now.out in omega (arith, granted, z)))
      (λ j w _ at' granted t task'. others-keep x (λ u. let z = quiet-chose p u was in omega (arith, z)) j w at' granted t task')

-- the grant word of the next of a batch is cleared: its reader is granted, and was chosen
pub duty-grants : (words : List ℕ) (q : List Waiter) (ps us : List DutyPart) → DutyKept words q ps → Each PartOk us → total attends us ≡ total attends ps → total answers us ≡ total answers ps
    → total late_of us ≡ total late_of ps → ((t : ℕ) → total (wakes_it t) us ≡ total (wakes_it t) ps) → ((t : ℕ) → total (chose t) us ≡ total (chose t) ps)
    → ((j : ℕ) (u : DutyPart) → get_elem? us j ≡ some u → 1 ≤ u.granted → ((t : ℕ) → u.task ≡ Some t → 1 ≤ total (chose t) ps)
    ⊎ ((p : DutyPart) × (get_elem? ps j ≡ some p) × (1 ≤ p.granted) × (p.task ≡ u.task) × (p.wake ≡ u.wake))) → DutyKept words q us
duty-grants words q ps us r fine attend answer late end_sleep chosen granted = record {
  wide = r.wide;
  bits = r.bits;
  each = fine;
  first = λ t e. let a = r.first t e in let z : wakes_first words q us t ≡ wakes_first words q ps t = ap (λ (n : ℕ). where_so (first_writes q) (n + wake_word words t)) (end_sleep t) in
      omega (arith, a, attend, z);
  late = λ some_l. let k = r.late (omega (arith, some_l, late)) in omega (arith, k, answer);
  granted = λ j u at is t task. let c = chosen t in ⊎_elim
      (λ (new : (t : ℕ) → u.task ≡ Some t → 1 ≤ total (chose t) ps). let a = new t task in omega (arith, a, c))
      (λ (old : (p : DutyPart) × (get_elem? ps j ≡ some p) × (1 ≤ p.granted) × (p.task ≡ u.task) × (p.wake ≡ u.wake)). let a = r.granted j old.0 old.1 old.2 t (old.3 ∙ task) in
      let w : is_awake t old.0 ≡ is_awake t u = λ i. awake t (old.3 i) (old.4 i).wait_state in omega (arith, a, c, w))
      (granted j u at is);
}

-- a new table
pub duty-opens : (words : List ℕ) (p : DutyPart) → length words ≡ WAKE_WORDS → ((i : ℕ) → i < WAKE_WORDS → get_or words i 0 ≡ 0) → IsQuiet p → p.rest ≡ [] → p.late ≡ 0 → DutyKept words [] (p ∷ [])
duty-opens words p wide zeros quiet none late = record {
  wide = wide;
  bits = λ t few. let z = zeros (8 * t) (omega (arith, few)) in omega (arith, z);
  each = each-snoc PartOk [] p (quiet-ok p quiet none) (λ j w e. absurd (some-ne-none w (sym e)));
  first = λ t e. absurd (omega (arith, e));
  late = λ some_l. absurd (omega (arith, some_l, late));
  granted = each-snoc (λ w. 1 ≤ w.granted → (t : ℕ) → w.task ≡ Some t → 1 ≤ total (chose t) (p ∷ []) + wake_word words t + is_awake t w) [] p
      (λ some_g. absurd (let z = quiet.out in omega (arith, some_g, z))) (λ j w e. absurd (some-ne-none w (sym e)));
}
  where
    quiet-ok : (p : DutyPart) → IsQuiet p → p.rest ≡ [] → PartOk p
    quiet-ok p quiet none = record {
      unnamed = λ _. quiet;
      chosen = λ t more. absurd (let z = quiet-chose p t quiet in omega (arith, more, z));
      rest =
          λ t. let a : times t p.rest ≡ 0 = ap (times t) none in omega (arith, a);
    }

-- a quiet part comes
pub duty-snoc : (words : List ℕ) (q : List Waiter) (ps : List DutyPart) (p : DutyPart) → DutyKept words q ps → IsQuiet p → p.rest ≡ [] → p.late ≡ 0 → DutyKept words q (ps ++ p ∷ [])
duty-snoc words q ps p r quiet none late = record {
  wide = r.wide;
  bits = r.bits;
  each = each-snoc PartOk ps p record {
    unnamed = λ _. quiet;
    chosen = λ t more. absurd (let z = quiet-chose p t quiet in omega (arith, more, z));
    rest =
        λ t. let a : times t p.rest ≡ 0 = ap (times t) none in omega (arith, a);
  } r.each;
  first = λ t e. let a = r.first t e in let s = total-snoc attends ps p in
      let w = where-more (first_writes q) (total (wakes_it t) ps + wake_word words t) (total (wakes_it t) (ps ++ p ∷ []) + wake_word words t) (let s = total-snoc (wakes_it t) ps p in
      omega (arith, s)) in omega (arith, a, s, w);
  late = λ some_l. let l = total-snoc late_of ps p in let s = total-snoc answers ps p in let k = r.late (omega (arith, some_l, l, late)) in omega (arith, k, s);
  granted = each-snoc (λ w. 1 ≤ w.granted → (t : ℕ) → w.task ≡ Some t → 1 ≤ total (chose t) (ps ++ p ∷ []) + wake_word words t + is_awake t w) ps p
      (λ some_g. absurd (let z = quiet.out in omega (arith, some_g, z)))
      (λ j w at' some_g t task. let a = r.granted j w at' some_g t task in let s = total-snoc (chose t) ps p in omega (arith, a, s));
}
