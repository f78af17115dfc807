-- A step on the count, a mark or a grant word keeps the facts of the wake words.
use Rattle.std.proofs.Common.{◌≡◌, ◌≢◌, ℕ, zero, suc, ◌+◌, ◌-◌, ◌/◌, ◌%◌, ◌≤◌, ◌==◌, ◌&&◌, ◌⊎◌, inl, inr, Bool, true, false, List, [], ◌∷◌, length, map, set, get_or, Option, Some, None, sym, refl, ap, ◌∙◌, subst, arith, ⊎_elim, eq-eqb, get_or-set_other}
use mathlib.Core.Option.{some, some-injective, some-ne-none}
use mathlib.Core.Logic.{dite}
use native.Mathlib.Decide.{ℕ_discrete}
use lib.ListN.{get_elem?}
use Rattle.atomic_table.proofs.Lists.{at_map, at_set}
use Rattle.lock_core.specs.Records.{bit}
use Rattle.lock_core.specs.Totals.{total, total-set, total-at}
use Rattle.lock_core.specs.ViewParts.{Each, at_unmap}
use Rattle.lock_core.proofs.HandLaws.{false-or-true, not-both}
use Rattle.lock_core.proofs.RowLaws.{none-some, same-some}
use Rattle.wake_duty.specs.DutyWakes.{awake, after_failed_try}
use Rattle.rwsem_wake.specs.SemDuties.{DutyPart, DutyKept, PartOk, alone_of as alone_in_duty, late_of as late_in_duty, owes, answers, attends, chose, wakes_it, times, where_so, recounted, with_wait_state, leaving}
use Rattle.rwsem_wake.specs.Laws.SemDuty.{duty-guards, duty-pays, duty-reserves-late, duty-takes-back, duty-owes, duty-returns, duty-writes, duty-hears, duty-waits, duty-fails, duty-unwaited, duty-grants}
use Rattle.rwsem_count.specs.Counts.{early_weight, late_weight, alone_in, shared_in, early_in, late_in}
use Rattle.rwsem_wake.specs.SemParts.{SemPart, alone_of, busy_of, granted_of, granted_weight, granting_of, granting_weight, is_zero, part_of, reserve_weight, shared_of, writes_weight}
use Rattle.rwsem_wake.specs.GrantSemaphores.{SemKept, SemPartOk, more_of}
use Rattle.rwsem_wake.specs.Duties.{kept_weight, overdue_weight, kept_of, overdue_of, guards_of, writes_of, duty_of, SameGrants, IsOnly, Keeps, ReservesBias, ReturnsLate, ReturnsOwn, TakesAlone, HearsGrant, FailsWaiting, LeavesEmpty, GrantsTask, WakeGoes, is_left}
use Rattle.rwsem_wake.specs.Types.{Waiter, Absent, SemWake, Bias, Clear, Transit, Reserve, Wait, Apart, Reads, Writes, Stage}

-- a bias is counted once
bias-once : (b : Bias) → early_weight b + late_weight b ≡ kept_weight b + overdue_weight b
bias-once Clear = refl
bias-once (Transit m) = omega arith
bias-once (Reserve m) = omega arith

overdue-reserved : (b : Bias) → overdue_weight b ≤ reserve_weight b
overdue-reserved Clear = omega arith
overdue-reserved (Transit m) = omega arith
overdue-reserved (Reserve m) = omega arith

-- the count, by what keeps writers out and what doesn't
field-sums : (grants : List ℕ) (sees : List SemPart) → more_of grants sees + total shared_in (map part_of sees) + (total early_in (map part_of sees) + total late_in (map part_of sees)) ≡ total (guards_of grants) sees + total overdue_of sees
field-sums grants [] = refl
field-sums grants (v ∷ vs) = let r = field-sums grants vs in let b = bias-once v.sem.bias in omega (arith, r, b)

alone-sums : (sees : List SemPart) → total alone_in (map part_of sees) ≡ total alone_of sees
alone-sums [] = refl
alone-sums (v ∷ vs) = let r = alone-sums vs in omega (arith, r)

pub field-is : {n : ℕ} {q : List Waiter} {marks grants : List ℕ} (sees : List SemPart) → SemKept n q marks grants sees → n / 256 ≡ total (guards_of grants) sees + total overdue_of sees
field-is {n} {q} {marks} {grants} sees r = r.count.field ∙ field-sums grants sees

pub writer-is : {n : ℕ} {q : List Waiter} {marks grants : List ℕ} (sees : List SemPart) → SemKept n q marks grants sees → n % 2 ≡ total alone_of sees
writer-is {n} {q} {marks} {grants} sees r = r.count.writer ∙ alone-sums sees

-- who has a bias that came under a writer has the wait lock
overdue-busy : (sees : List SemPart) → Each SemPartOk sees → total overdue_of sees ≤ total busy_of sees
overdue-busy [] each = omega arith
overdue-busy (v ∷ vs) each = let a = overdue-reserved v.sem.bias in let b = (each zero v refl).reserved in let r = overdue-busy vs (λ j x e. each (suc j) x e) in omega (arith, a, b, r)

pub overdue-only : (sees : List SemPart) (id : ℕ) (v : SemPart) → get_elem? sees id ≡ some v → Each SemPartOk sees → IsOnly sees v → total overdue_of sees ≡ overdue_of v
overdue-only [] id v at each only = absurd (some-ne-none v (sym at))
overdue-only (x ∷ xs) zero v at each only = let is = some-injective x v at in let a : busy_of x ≡ busy_of v = ap busy_of is in let o : overdue_of x ≡ overdue_of v = ap overdue_of is in let l = overdue-busy xs (λ j y e. each (suc j) y e) in omega (arith, only, a, o, l)
overdue-only (x ∷ xs) (suc id) v at each only = let l = total-at busy_of xs id v at in let a = overdue-reserved x.sem.bias in let b = (each zero x refl).reserved in let r = overdue-only xs id v at (λ j y e. each (suc j) y e) (omega (arith, only, l)) in omega (arith, only, l, a, b, r)

-- a count that isn't free
pub not-left : (n : ℕ) → is_left n ≡ false → 1 ≤ n % 2 + n / 256
not-left n unfree = elim (native.Mathlib.Decide.dec_le 1 (n % 2 + n / 256)) [
  | yes some_n ↦ some_n
  | no none ↦ let a : n % 2 ≡ 0 = omega (arith, none) in let b : n / 256 ≡ 0 = omega (arith, none) in let both : is_left n ≡ true = (λ i. (eq-eqb (n % 2) 0 a i) && (n / 256 == 0)) ∙ eq-eqb (n / 256) 0 b in not-both (is_left n) unfree both
]

module _ {X : Type 0} (part : X → SemPart) (wake : X → SemWake) where
  abbrev pub duty_at : List ℕ → X → DutyPart
  duty_at grants x = duty_of grants (part x) (wake x)

  -- where no reader is granted or ceases to be, nothing else differs
  duties-same : (grants grants' : List ℕ) (vs : List X) → SameGrants grants grants' (map part vs) → map (duty_at grants') vs ≡ map (duty_at grants) vs
  duties-same grants grants' [] same = refl
  duties-same grants grants' (x ∷ xs) same = λ i. record {
    task = (part x).task;
    alone = alone_of (part x);
    guards = shared_of (part x) + kept_of (part x) + same zero (part x) refl i + granting_of (part x);
    late = overdue_of (part x);
    writes = writes_of (part x);
    granted = same zero (part x) refl i;
    rest = (part x).sem.rest;
    wake = wake x;
  } ∷ duties-same grants grants' xs (λ j y e. same (suc j) y e) i

  pub guards-are : (grants : List ℕ) (vs : List X) → total (λ (p : DutyPart). p.guards) (map (duty_at grants) vs) ≡ total (guards_of grants) (map part vs)
  guards-are grants [] = refl
  guards-are grants (x ∷ xs) = ap (λ (z : ℕ). guards_of grants (part x) + z) (guards-are grants xs)

  pub late-are : (grants : List ℕ) (vs : List X) → total late_in_duty (map (duty_at grants) vs) ≡ total overdue_of (map part vs)
  late-are grants [] = refl
  late-are grants (x ∷ xs) = ap (λ (z : ℕ). overdue_of (part x) + z) (late-are grants xs)

  pub alone-are : (grants : List ℕ) (vs : List X) → total alone_in_duty (map (duty_at grants) vs) ≡ total alone_of (map part vs)
  alone-are grants [] = refl
  alone-are grants (x ∷ xs) = ap (λ (z : ℕ). alone_of (part x) + z) (alone-are grants xs)

attends-least : (ps : List DutyPart) → total alone_in_duty ps + total (λ (p : DutyPart). p.guards) ps ≤ total attends ps
attends-least [] = omega arith
attends-least (p ∷ ps) = let r = attends-least ps in omega (arith, r)

module _ {X : Type 0} (part : X → SemPart) (wake : X → SemWake) (words : List ℕ) (n n' : ℕ) (q : List Waiter) (marks marks' grants grants' : List ℕ) (vs : List X) (id : ℕ) (x : X) (u : SemPart) (w : SemWake) (r : SemKept n q marks grants (map part vs)) (r' : SemKept n' q marks' grants' (set (map part vs) id u)) (at : get_elem? vs id ≡ some x) (own : ℕ) (has : (part x).task ≡ Some own) (task : u.task ≡ (part x).task)
    (d : DutyKept words q (map (duty_at part wake grants) vs)) where
  abbrev v : SemPart
  v = part x

  abbrev b : SemWake
  b = wake x

  abbrev sees : List SemPart
  sees = map part vs

  abbrev ps : List DutyPart
  ps = map (duty_at part wake grants) vs

  abbrev p : DutyPart
  p = duty_at part wake grants x

  abbrev After : DutyPart → Type 0
  After y = DutyKept words q (set ps id y)

  mine : get_elem? sees id ≡ some v
  mine = at_map part vs id x at

  there : get_elem? ps id ≡ some p
  there = at_map (duty_at part wake grants) vs id x at

  unnamed : p.task ≡ None → b.owing ≡ false
  unnamed none = none-some own (sym none ∙ has)

  -- its part is this one
  becomes : (y : DutyPart) → y ≡ duty_of grants' u w → After y → After (duty_of grants' u w)
  becomes y is after = subst After is after

  late-is : IsOnly sees v → total late_in_duty ps ≡ overdue_of v
  late-is only = late-are part wake grants vs ∙ overdue-only sees id v mine r.each only

  -- whoever writes or is counted as a reader attends, where no bias came under a writer
  pub held-attends : is_left n ≡ false → IsOnly sees v → overdue_of v ≡ 0 → 1 ≤ total attends ps
  held-attends held only none = let a = not-left n held in let f = field-is sees r in let z = writer-is sees r in let l = overdue-only sees id v mine r.each only in let c = guards-are part wake grants vs in let e = alone-are part wake grants vs in let s = attends-least ps in omega (arith, a, f, z, l, none, c, e, s)

  keeps-on : Keeps grants grants' v u b w → After (duty_of grants' u w)
  keeps-on k = becomes (recounted p p.alone (guards_of grants' u) p.late p.wake.owing)
      (λ i. record { task = sym task i; alone = sym k.alone i; guards = guards_of grants' u; late = sym k.late i; writes = sym k.writes i; granted = sym k.granted i; rest = sym k.rest i; wake = sym k.wake i })
      (duty-guards words q ps id p d there (guards_of grants' u) k.guards)

  -- the bias that it reserves keeps writers out, or came under one
  reserves-on : (same : granted_of grants' u ≡ granted_of grants v) → ReservesBias n sees v u b w → After (duty_of grants' u w)
  reserves-on same (only, clear, none, is, paid_is) = elim (ℕ_discrete (n % 2) 0) [
    | yes even ↦ let l : overdue_of u ≡ 0 = overdue ∙ even in let p' : DutyPart = recounted p p.alone (guards_of grants' u) 0 false in let L = total-set late_in_duty ps id p p' there in
        becomes p' (λ i. record { task = sym task i; alone = sym alone i; guards = guards_of grants' u; late = sym l i; writes = sym writes i; granted = sym same i; rest = sym rest i; wake = sym paid_is i })
        (duty-pays words q ps id p d there (guards_of grants' u) (let k = kept in omega (arith, k, even)) (omega (arith, L, before, late_before)))
    | no odd ↦ let one : n % 2 ≡ 1 = omega (arith, odd) in let l : overdue_of u ≡ 1 = overdue ∙ one in let p' : DutyPart = recounted p p.alone p.guards 1 false in let g : guards_of grants' u ≡ guards_of grants v = (let k = kept in let s = shared in let o = granting in let c = kept_before in omega (arith, k, s, o, c, same, one, none)) in
        becomes p' (λ i. record { task = sym task i; alone = sym alone i; guards = sym g i; late = sym l i; writes = sym writes i; granted = sym same i; rest = sym rest i; wake = sym paid_is i })
        (duty-reserves-late words q ps id p d there (let a = writer-is sees r in let e = alone-are part wake grants vs in omega (arith, a, e, one)))
  ]
    where
      overdue : overdue_of u ≡ n % 2
      overdue = ap overdue_of is

      kept : kept_of u ≡ 1 - n % 2
      kept = ap kept_of is

      kept_before : kept_of v ≡ 0
      kept_before = ap kept_weight clear

      alone : alone_of u ≡ alone_of v
      alone = ap alone_of is

      shared : shared_of u ≡ shared_of v
      shared = ap shared_of is

      granting : granting_of u ≡ 0
      granting = ap granting_of is

      writes : writes_of u ≡ writes_of v
      writes = ap writes_of is

      rest : u.sem.rest ≡ v.sem.rest
      rest = ap (λ (z : SemPart). z.sem.rest) is

      late_before : overdue_of v ≡ 0
      late_before = ap overdue_weight clear

      before : total late_in_duty ps ≡ overdue_of v
      before = late-is only

  -- it takes back a bias that came under a writer
  returns-late-on : (same : granted_of grants' u ≡ granted_of grants v) → ReturnsLate sees v u b w → After (duty_of grants' u w)
  returns-late-on same (only, (m, reserved_is, odd), none, is, wake_is) = let was : overdue_of v ≡ 1 = ap overdue_weight reserved_is ∙ odd in let kept : kept_of v ≡ 1 - m % 2 = ap kept_weight reserved_is in let k' : kept_of u ≡ 0 = ap kept_of is in let s : shared_of u ≡ shared_of v = ap shared_of is in let o : granting_of u ≡ 0 = ap granting_of is in
      let g : guards_of grants' u ≡ guards_of grants v = omega (arith, kept, k', s, o, same, odd, none) in let l : overdue_of u ≡ 0 = ap overdue_of is in let p' : DutyPart = recounted p p.alone p.guards 0 p.wake.owing in let L = total-set late_in_duty ps id p p' there in let before = late-is only in
      becomes p' (λ i. record { task = sym task i; alone = ap alone_of (sym is) i; guards = sym g i; late = sym l i; writes = ap writes_of (sym is) i; granted = sym same i; rest = ap (λ (z : SemPart). z.sem.rest) (sym is) i; wake = sym wake_is i })
      (duty-takes-back words q ps id p d there was (omega (arith, L, before)))

  same-sums : SameGrants grants grants' sees → total (guards_of grants') sees ≡ total (guards_of grants) sees
  same-sums = go sees
    where
      go : (xs : List SemPart) → SameGrants grants grants' xs → total (guards_of grants') xs ≡ total (guards_of grants) xs
      go [] same = refl
      go (y ∷ ys) same = let a = same zero y refl in let b = go ys (λ j z e. same (suc j) z e) in omega (arith, a, b)

  -- a reader that joined takes its own back
  returns-own-on : SameGrants grants grants' sees → granted_of grants' u ≡ granted_of grants v → ReturnsOwn n' sees v u b w → After (duty_of grants' u w)
  returns-own-on same_all same (only, (m, transit), clear, is, wake_is) = false-or-true (is_left n')
      (λ left. becomes (recounted p p.alone (guards_of grants' u) p.late true) (as-now true left) (duty-owes words q ps id p d there p.alone (guards_of grants' u) p.late own has))
      (λ held. becomes (recounted p p.alone (guards_of grants' u) p.late false) (as-now false held) (duty-returns words q ps id p d there (guards_of grants' u) (still held) none))
    where
      late : overdue_of v ≡ 0
      late = ap overdue_weight transit

      late' : overdue_of u ≡ 0
      late' = ap overdue_of is

      as-now : (z : Bool) → is_left n' ≡ z → recounted p p.alone (guards_of grants' u) p.late z ≡ duty_of grants' u w
      as-now z left = λ i. record { task = sym task i; alone = ap alone_of (sym is) i; guards = guards_of grants' u; late = (late ∙ sym late') i; writes = ap writes_of (sym is) i; granted = sym same i; rest = ap (λ (y : SemPart). y.sem.rest) (sym is) i; wake = (sym (wake_is ∙ ap (λ (y : Bool). record b { owing = y }) left)) i }

      none : total late_in_duty (set ps id (recounted p p.alone (guards_of grants' u) p.late false)) ≡ 0
      none = let L = total-set late_in_duty ps id p (recounted p p.alone (guards_of grants' u) p.late false) there in let before = late-is only in omega (arith, L, before, late)

      still : is_left n' ≡ false → 1 ≤ total attends (set ps id (recounted p p.alone (guards_of grants' u) p.late false))
      still held = let y : DutyPart = recounted p p.alone (guards_of grants' u) p.late false in let some_n = not-left n' held in let f = field-is (set sees id u) r' in let z = writer-is (set sees id u) r' in
          let G = total-set (λ (o : DutyPart). o.guards) ps id p y there in let g = guards-are part wake grants vs in let G' = total-set (guards_of grants') sees id v u mine in let same_g = same-sums same_all in let same_v : guards_of grants' v ≡ guards_of grants v = (let a = same_all id v mine in omega (arith, a)) in
          let A = total-set alone_in_duty ps id p y there in let a = alone-are part wake grants vs in let A' = total-set alone_of sees id v u mine in let same_a : alone_of u ≡ alone_of v = ap alone_of is in
          let O' = total-set overdue_of sees id v u mine in let o = overdue-only sees id v mine r.each only in let s = attends-least (set ps id y) in omega (arith, some_n, f, z, G, g, G', same_g, same_v, A, a, A', same_a, O', o, late, late', s)

  -- a writer takes
  takes-on : granted_of grants' u ≡ granted_of grants v → TakesAlone v u b w → After (duty_of grants' u w)
  takes-on same (is, late, wake_is) = becomes (recounted p 1 (guards_of grants' u) p.late p.wake.owing)
      (λ i. record { task = sym task i; alone = ap alone_of (sym is) i; guards = guards_of grants' u; late = ap overdue_of (sym is) i; writes = ap writes_of (sym is) i; granted = sym same i; rest = ap (λ (y : SemPart). y.sem.rest) (sym is) i; wake = sym wake_is i })
      (duty-writes words q ps id p d there (guards_of grants' u))

  -- a granted reader holds
  hears-on : HearsGrant grants v u b w → After (duty_of grants' u w)
  hears-on (waits, granted, stage, unshared, unalone, is, clear, wake_is) = becomes (record (leaving p false) { guards = guards_of grants' u })
      (λ i. record { task = sym task i; alone = (unalone ∙ sym (ap alone_of is)) i; guards = guards_of grants' u; late = ap overdue_of (sym is) i; writes = ap writes_of (sym is) i; granted = sym ungranted i; rest = ap (λ (y : SemPart). y.sem.rest) (sym is) i; wake = (sym (wake_is ∙ ap (λ (z : Bool). record b { owing = z; wait_state = Absent }) clear)) i })
      (duty-hears words q ps id p d there (guards_of grants' u) (let s : shared_of u ≡ 1 = ap shared_of is in omega (arith, s)) clear)
    where
      ungranted : granted_of grants' u ≡ 0
      ungranted = apart u.task u.sem.wait (ap (λ (y : SemPart). y.sem.wait) is)
        where
          apart : (t : Option ℕ) (z : Wait) → z ≡ Apart → granted_weight grants' t z ≡ 0
          apart None z e = refl
          apart (Some t) z e = ap (granted_weight grants' (Some t)) e

  -- a try fails
  fails-on : granted_of grants' u ≡ granted_of grants v → FailsWaiting n q grants sees v u b w → After (duty_of grants' u w)
  fails-on same (why, (s, is, unbegun, granting, waited), wake_is) = becomes (with_wait_state p (after_failed_try b.wait_state 0))
      (λ i. record { task = sym task i; alone = ap alone_of (sym is) i; guards = sym guards i; late = ap overdue_of (sym is) i; writes = ap writes_of (sym is) i; granted = sym same i; rest = ap (λ (y : SemPart). y.sem.rest) (sym is) i; wake = sym wake_is i })
      (elim why [
        | inl reads ↦ duty-waits words q ps id p d there 0 own has reads.1 (ap writes_weight reads.0)
        | inr (writes, inl held) ↦ duty-fails words q ps id p d there 0 own has (ungranted writes) (λ _. held-attends held.0 held.1 held.2)
        | inr (writes, inr other) ↦ duty-fails words q ps id p d there 0 own has (ungranted writes) (λ first. absurd (other own has first))
      ])
    where
      guards : guards_of grants' u ≡ guards_of grants v
      guards = let a : shared_of u ≡ shared_of v = ap shared_of is in let c : kept_of u ≡ kept_of v = ap kept_of is in omega (arith, a, c, same, granting)

      ungranted : v.sem.wait ≡ Writes → granted_of grants v ≡ 0
      ungranted writes = go v.task v.sem.wait writes
        where
          go : (t : Option ℕ) (z : Wait) → z ≡ Writes → granted_weight grants t z ≡ 0
          go None z e = refl
          go (Some t) z e = ap (granted_weight grants (Some t)) e

  -- it has left the list empty
  empties-on : granted_of grants' u ≡ granted_of grants v → LeavesEmpty q sees v u b w → After (duty_of grants' u w)
  empties-on same (only, nobody, clear, stage, is, wake_is) = becomes (recounted p p.alone p.guards p.late false)
      (λ i. record { task = sym task i; alone = ap alone_of (sym is) i; guards = sym guards i; late = ap overdue_of (sym is) i; writes = ap writes_of (sym is) i; granted = sym same i; rest = ap (λ (y : SemPart). y.sem.rest) (sym is) i; wake = sym wake_is i })
      (duty-unwaited words q ps id p d there p.alone p.guards p.late false (λ _. refl) nobody (let L = total-set late_in_duty ps id p (recounted p p.alone p.guards p.late false) there in let before = late-is only in let z : overdue_of v ≡ 0 = ap overdue_weight clear in omega (arith, L, before, z)))
    where
      guards : guards_of grants' u ≡ guards_of grants v
      guards = let a : shared_of u ≡ shared_of v = ap shared_of is in let c : kept_of u ≡ kept_of v = ap kept_of is in let e : granting_of v ≡ 0 = ap (λ (z : Stage). granting_weight z (length v.sem.rest)) stage in let f : granting_of u ≡ 0 = ap granting_of is in omega (arith, a, c, same, e, f)

  -- the parts of all, by the grant words behind the step
  now-all : SameGrants grants grants' sees → After (duty_of grants' u w) → DutyKept words q (set (map (duty_at part wake grants') vs) id (duty_of grants' u w))
  now-all same = subst (λ (z : List DutyPart). DutyKept words q (set z id (duty_of grants' u w))) (sym (duties-same part wake grants grants' vs same))

  -- the grant word of the next of its batch is cleared
  module _ (k : GrantsTask n n' grants grants' v u b w) where
    abbrev us : List DutyPart
    us = set (map (duty_at part wake grants') vs) id (duty_of grants' u w)

    abbrev t : ℕ
    t = k.1.0

    abbrev ts : List ℕ
    ts = k.1.1

    is : u ≡ record v { sem = record v.sem { rest = ts; stage = k.1.2 } }
    is = k.1.6

    wake_is : w ≡ b
    wake_is = k.3

    there' : get_elem? (map (duty_at part wake grants') vs) id ≡ some (duty_at part wake grants' x)
    there' = at_map (duty_at part wake grants') vs id x at

    -- a weight that grant words, hold and batch don't change
    same-total : (f : DutyPart → ℕ) → ((g : List ℕ) (y : SemPart) (c : SemWake) → f (duty_of g y c) ≡ f (duty_of grants y c)) → f (duty_of grants' u w) ≡ f (duty_of grants v b) → total f us ≡ total f ps
    same-total f same_any own_is = let s = total-set f (map (duty_at part wake grants') vs) id (duty_at part wake grants' x) (duty_of grants' u w) there' in let a = all vs in let c = same_any grants' v b in omega (arith, s, a, c, own_is)
      where
        all : (xs : List X) → total f (map (duty_at part wake grants') xs) ≡ total f (map (duty_at part wake grants) xs)
        all [] = refl
        all (y ∷ ys) = let c = same_any grants' (part y) (wake y) in let a = all ys in omega (arith, c, a)

    alone-same : total alone_in_duty us ≡ total alone_in_duty ps
    alone-same = same-total alone_in_duty (λ g y c. refl) (ap alone_of is)

    late-same : total late_in_duty us ≡ total late_in_duty ps
    late-same = same-total late_in_duty (λ g y c. refl) (ap overdue_of is)

    owes-same : total owes us ≡ total owes ps
    owes-same = same-total owes (λ g y c. refl) (ap (λ (z : SemWake). bit z.owing) wake_is)

    answers-same : total answers us ≡ total answers ps
    answers-same = same-total answers (λ g y c. refl) (λ i. alone_of (is i) + bit (wake_is i).owing)

    chose-same : (s : ℕ) → total (chose s) us ≡ total (chose s) ps
    chose-same s = same-total (chose s) (λ g y c. refl) (ap (λ (z : SemWake). times s z.chosen) wake_is)

    wakes_it-same : (s : ℕ) → total (wakes_it s) us ≡ total (wakes_it s) ps
    wakes_it-same s = same-total (wakes_it s) (λ g y c. refl) (λ i. times s (wake_is i).chosen + where_so (writes_of (is i)) (awake s (task i) (wake_is i).wait_state))

    -- as many are counted as readers as before
    guards-same : total (λ (o : DutyPart). o.guards) us ≡ total (λ (o : DutyPart). o.guards) ps
    guards-same = let f = field-is sees r in let f' = field-is (set sees id u) r' in let same_n = k.0 in let g = guards-are part wake grants vs in let g' = guards-are part wake grants' vs in
        let G = total-set (λ (o : DutyPart). o.guards) (map (duty_at part wake grants') vs) id (duty_at part wake grants' x) (duty_of grants' u w) there' in let G' = total-set (guards_of grants') sees id v u mine in
        let O = total-set overdue_of sees id v u mine in let o : overdue_of u ≡ overdue_of v = ap overdue_of is in let e : n' / 256 ≡ n / 256 = ap (λ (z : ℕ). z / 256) same_n in omega (arith, f, f', e, g, g', G, G', O, o)

    attends-same : total attends us ≡ total attends ps
    attends-same = let a = parts-of us in let c = parts-of ps in let e = alone-same in let f = guards-same in let g = owes-same in omega (arith, a, c, e, f, g)
      where
        parts-of : (xs : List DutyPart) → total attends xs ≡ total alone_in_duty xs + total (λ (o : DutyPart). o.guards) xs + total owes xs
        parts-of [] = refl
        parts-of (y ∷ ys) = let e = parts-of ys in omega (arith, e)

    chosen-next : 1 ≤ total (chose t) ps
    chosen-next = let ok = (d.each id p there).rest t in let a = total-at (chose t) ps id p there in let c : times t v.sem.rest ≡ 1 + times t ts = ap (times t) k.1.3 ∙ ap (λ (z : Bool). bit z + times t ts) (eq-eqb t t refl) in omega (arith, ok, a, c)

    -- a part by other grant words is as sound
    sound : (g : List ℕ) (y : SemPart) (c : SemWake) → PartOk (duty_of grants y c) → PartOk (duty_of g y c)
    sound g y c ok = record {
      unnamed = λ none. let quiet = ok.unnamed none in record { clear = quiet.clear; none = quiet.none; absent = quiet.absent; out = ap (λ (z : Option ℕ). granted_weight g z y.sem.wait) none };
      chosen = ok.chosen;
      rest = ok.rest;
    }

    fewer : (s : ℕ) → times s ts ≤ times s v.sem.rest
    fewer s = let a : times s v.sem.rest ≡ bit (t == s) + times s ts = ap (times s) k.1.3 in omega (arith, a)

    sound-own : PartOk (duty_of grants' u w)
    sound-own = let ok = d.each id p there in record {
      unnamed = λ none. none-some own (sym none ∙ (task ∙ has));
      chosen = λ s more. ok.chosen s (let c : times s w.chosen ≡ times s b.chosen = ap (λ (z : SemWake). times s z.chosen) wake_is in omega (arith, c, more));
      rest = λ s. let a : times s u.sem.rest ≡ times s ts = ap (λ (y : SemPart). times s y.sem.rest) is in let e = fewer s in let f = ok.rest s in let c : times s w.chosen ≡ times s b.chosen = ap (λ (z : SemWake). times s z.chosen) wake_is in omega (arith, a, e, f, c);
    }

    all-sound : Each PartOk us
    all-sound j y e = ⊎_elim (λ (z : (j ≡ id) × (duty_of grants' u w ≡ y)). subst PartOk z.1 sound-own)
        (λ (z : (j ≢ id) × (get_elem? (map (duty_at part wake grants') vs) j ≡ some y)). let o = at_unmap (duty_at part wake grants') vs j y z.1 in subst PartOk o.2 (sound grants' (part o.0) (wake o.0) (d.each j (duty_at part wake grants o.0) (at_map (duty_at part wake grants) vs j o.0 o.1))))
        (at_set (map (duty_at part wake grants') vs) id j (duty_of grants' u w) y e)

    -- whose grant word is 0 now: that of this task, or it was 0
    granted-before : (s : Option ℕ) (z : Wait) → 1 ≤ granted_weight grants' s z → (s ≡ Some t) ⊎ (1 ≤ granted_weight grants s z)
    granted-before None z more = absurd (omega (arith, more))
    granted-before (Some s) Apart more = absurd (omega (arith, more))
    granted-before (Some s) Writes more = absurd (omega (arith, more))
    granted-before (Some s) Reads more = dite (ℕ_discrete s t) (λ same. inl (ap Some same))
        (λ other. inr (let a : get_or grants' s 0 ≡ get_or grants s 0 = ap (λ (g : List ℕ). get_or g s 0) k.1.5 ∙ get_or-set_other grants t s 0 0 other in let e : is_zero (get_or grants' s 0) ≡ is_zero (get_or grants s 0) = ap is_zero a in omega (arith, e, more)))

    was-granted : (j : ℕ) (y : DutyPart) → get_elem? us j ≡ some y → 1 ≤ y.granted → ((s : ℕ) → y.task ≡ Some s → 1 ≤ total (chose s) ps) ⊎ ((o : DutyPart) × (get_elem? ps j ≡ some o) × (1 ≤ o.granted) × (o.task ≡ y.task) × (o.wake ≡ y.wake))
    was-granted j y e more = ⊎_elim
        (λ (z : (j ≡ id) × (duty_of grants' u w ≡ y)). let here : 1 ≤ granted_weight grants' u.task u.sem.wait = (let g : granted_weight grants' u.task u.sem.wait ≡ y.granted = ap (λ (o : DutyPart). o.granted) z.1 in omega (arith, g, more)) in ⊎_elim
        (λ (new : u.task ≡ Some t). inl (λ s named. next s (sym new ∙ (ap (λ (o : DutyPart). o.task) z.1 ∙ named))))
        (λ (old : 1 ≤ granted_weight grants u.task u.sem.wait). inr (p, ap (get_elem? ps) z.0 ∙ there, (let g : granted_weight grants u.task u.sem.wait ≡ granted_of grants v = λ i. granted_weight grants (task i) (is i).sem.wait in omega (arith, g, old)), sym task ∙ ap (λ (o : DutyPart). o.task) z.1, sym wake_is ∙ ap (λ (o : DutyPart). o.wake) z.1))
        (granted-before u.task u.sem.wait here))
        (λ (z : (j ≢ id) × (get_elem? (map (duty_at part wake grants') vs) j ≡ some y)). let o = at_unmap (duty_at part wake grants') vs j y z.1 in let here : 1 ≤ granted_of grants' (part o.0) = (let g : granted_of grants' (part o.0) ≡ y.granted = ap (λ (c : DutyPart). c.granted) o.2 in omega (arith, g, more)) in ⊎_elim
        (λ (new : (part o.0).task ≡ Some t). inl (λ s named. next s (sym new ∙ (ap (λ (c : DutyPart). c.task) o.2 ∙ named))))
        (λ (old : 1 ≤ granted_of grants (part o.0)). inr (duty_at part wake grants o.0, at_map (duty_at part wake grants) vs j o.0 o.1, old, ap (λ (c : DutyPart). c.task) o.2, ap (λ (c : DutyPart). c.wake) o.2))
        (granted-before (part o.0).task (part o.0).sem.wait here))
        (at_set (map (duty_at part wake grants') vs) id j (duty_of grants' u w) y e)
      where
        next : (s : ℕ) → Some t ≡ Some s → 1 ≤ total (chose s) ps
        next s same = subst (λ (z : ℕ). 1 ≤ total (chose z) ps) (same-some t s same) chosen-next

    grants-on : DutyKept words q us
    grants-on = duty-grants words q ps us d all-sound attends-same answers-same late-same wakes_it-same chose-same was-granted

  -- a step on the count, a mark or a grant word
  pub duty-goes-on : WakeGoes n q grants sees n' grants' v u b w → DutyKept words q (set (map (duty_at part wake grants') vs) id (duty_of grants' u w))
  duty-goes-on kind = elim kind [
    | inl (same, inl keeps) ↦ now-all same (keeps-on keeps)
    | inl (same, inr (inl reserves)) ↦ now-all same (reserves-on (stays same (ap (λ (y : SemPart). y.sem.wait) reserves.3)) reserves)
    | inl (same, inr (inr (inl returns))) ↦ now-all same (returns-late-on (stays same (ap (λ (y : SemPart). y.sem.wait) returns.3)) returns)
    | inl (same, inr (inr (inr (inl own_is)))) ↦ now-all same (returns-own-on same (stays same (ap (λ (y : SemPart). y.sem.wait) own_is.3)) own_is)
    | inl (same, inr (inr (inr (inr (inl takes))))) ↦ now-all same (takes-on (stays same (ap (λ (y : SemPart). y.sem.wait) takes.0)) takes)
    | inl (same, inr (inr (inr (inr (inr (inl hears)))))) ↦ now-all same (hears-on hears)
    | inl (same, inr (inr (inr (inr (inr (inr (inl fails))))))) ↦ now-all same (fails-on (stays same (ap (λ (y : SemPart). y.sem.wait) fails.1.1)) fails)
    | inl (same, inr (inr (inr (inr (inr (inr (inr empties))))))) ↦ now-all same (empties-on (stays same (ap (λ (y : SemPart). y.sem.wait) empties.4)) empties)
    | inr grants_it ↦ grants-on grants_it
  ]
    where
      stays : SameGrants grants grants' sees → u.sem.wait ≡ v.sem.wait → granted_of grants' u ≡ granted_of grants v
      stays same waits = (λ i. granted_weight grants' (task i) (waits i)) ∙ same id v mine
