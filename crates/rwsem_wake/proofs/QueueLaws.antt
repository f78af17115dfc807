-- The steps of those that queue, and of a wake that removes its batch.
use Rattle.std.proofs.Common.{◌≡◌, ℕ, ◌+◌, ◌*◌, ◌/◌, ◌%◌, ◌<◌, ◌≤◌, Bool, true, false, List, map, [], ◌∷◌, ◌++◌, length, get_or, set, Option, Some, None, sym, refl, ap, ◌∙◌, subst, arith, get_or-set_same, get_or-set_other}
use mathlib.Core.Option.{some}
use mathlib.Core.Logic.{dite}
use native.Mathlib.Decide.{ℕ_discrete}
use lib.ListN.{get_elem?}
use Rattle.lock_core.specs.Records.{bit}
use Rattle.lock_core.specs.Views.{alone_weight, held_weight, is_number}
use Rattle.lock_core.specs.Totals.{total, total-set, total-same, total-snoc}
use Rattle.lock_core.specs.ViewParts.{each-set}
use Rattle.lock_core.proofs.HandLaws.{is_number-here}
use Rattle.lock_core.proofs.RowLaws.{same-some}
use Rattle.rwsem_count.specs.Counts.{shared_weight, early_weight, late_weight, CountKept, shared_in, early_in, late_in}
use Rattle.rwsem_wake.specs.SemParts.{SemPart, transit_weight, reserve_weight, reads_weight, writes_weight, named_weight, granted_weight, granting_weight, busy_weight, shared_of, holds_of, alone_of, early_of, late_of, reserve_of, reads_of, reads_at, writes_at, reader_at, writer_at, reader_of, rest_of, rest_at, busy_of, granting_of, granted_of, granted_at, here, is_zero, some_of, tasks, part_of}
use Rattle.rwsem_wake.specs.GrantSemaphores.{batch_weight, Quiet, Fresh, FlagsOf, FlagsAt, SemPartOk, SemKept, more_of}
use Rattle.rwsem_wake.specs.Types.{No, Shared, Waiter, Wait, Apart, Reads, Writes, Bias, Clear, Transit, Stage, Rest, Armed, Joining}
use Rattle.rwsem_wake.proofs.Sums.{busy-most, mine-of, of-mine, of-others}
use Rattle.rwsem_wake.proofs.Counting.{adds, count-step, count-back, part-least}
use Rattle.rwsem_wake.proofs.Places.{some-length, first-least, granted-all, not-zero}
use Rattle.rwsem_wake.proofs.WakeLaws.{staged, biased, waiting, holding, ok-of, slim-of, held-most, single-of, bias-most, reserve-most, sem-moves, more-same}

-- where nobody reads with a number, its grant word is of no account
module _ (grants : List ℕ) (t x : ℕ) where
  abbrev Grants : List ℕ
  Grants = set grants t x

  pub unread-one : (v : SemPart) → reads_at t v ≡ 0 → granted_of Grants v ≡ granted_of grants v
  unread-one v = go v.task v.sem.wait
    where
      go : (task : Option ℕ) (wait : Wait) → named_weight t task (reads_weight wait) ≡ 0 → granted_weight Grants task wait ≡ granted_weight grants task wait
      go None wait e = refl
      go (Some u) Apart e = refl
      go (Some u) Writes e = refl
      go (Some u) Reads e = dite (ℕ_discrete u t) (λ is. let c : is_number t (Some u) ≡ 1 = ap (λ (z : ℕ). is_number t (Some z)) is ∙ is_number-here t in absurd (omega (arith, c, e)))
          (λ not. ap is_zero (get_or-set_other grants t u x 0 not))

  pub unread-all : (vs : List SemPart) → total (reads_at t) vs ≡ 0 → total (granted_of Grants) vs ≡ total (granted_of grants) vs
  unread-all [] e = refl
  unread-all (v ∷ vs) e = let a = unread-one v (omega arith) in let b = unread-all vs (omega arith) in omega arith

  pub unread-at : (vs : List SemPart) → total (reads_at t) vs ≡ 0 → (u : ℕ) → total (granted_at Grants u) vs ≡ total (granted_at grants u) vs
  unread-at vs e u = let a = granted-all Grants u vs in let b = granted-all grants u vs in dite (ℕ_discrete u t)
      (λ is. let z : total (reads_at u) vs ≡ 0 = ap (λ (y : ℕ). total (reads_at y) vs) is ∙ e in least Grants u vs z ∙ sym (least grants u vs z))
      (λ not. let o : get_or Grants u 0 ≡ get_or grants u 0 = get_or-set_other grants t u x 0 not in elim (native.Mathlib.Decide.dec_le 1 (get_or grants u 0)) [
        | yes l ↦ a.1 (omega (arith, l, o)) ∙ sym (b.1 l)
        | no l ↦ let z : get_or grants u 0 ≡ 0 = omega (arith, l) in a.0 (o ∙ z) ∙ sym (b.0 z)
      ])
    where
      least : (gs : List ℕ) (u : ℕ) (vs : List SemPart) → total (reads_at u) vs ≡ 0 → total (granted_at gs u) vs ≡ 0
      least gs u vs z = let a = granted-all gs u vs in elim (native.Mathlib.Decide.dec_le 1 (get_or gs u 0)) [ yes l ↦ a.1 l | no l ↦ a.0 (omega (arith, l)) ∙ z ]

-- how a view waits, by what it adds
module _ (v : SemPart) (own : ℕ) (has : v.task ≡ Some own) (w : Wait) (as_so : v.sem.wait ≡ w) where
  pub reads-w : reads_of v ≡ reads_weight w
  reads-w = ap reads_weight as_so

  pub reads-at-w : (t : ℕ) → reads_at t v ≡ named_weight t (Some own) (reads_weight w)
  reads-at-w t = λ i. named_weight t (has i) (reads_weight (as_so i))

  pub writes-at-w : (t : ℕ) → writes_at t v ≡ named_weight t (Some own) (writes_weight w)
  writes-at-w t = λ i. named_weight t (has i) (writes_weight (as_so i))

  pub granted-w : (grants : List ℕ) → granted_of grants v ≡ granted_weight grants (Some own) w
  granted-w grants = λ i. granted_weight grants (has i) (as_so i)

  pub granted-at-w : (grants : List ℕ) (t : ℕ) → granted_at grants t v ≡ named_weight t (Some own) (granted_weight grants (Some own) w)
  granted-at-w grants t = λ i. named_weight t (has i) (granted_weight grants (has i) (as_so i))

abbrev pub reader : ℕ → Waiter
reader t = record { task = t; writer = false }

abbrev pub a_writer : ℕ → Waiter
a_writer t = record { task = t; writer = true }

-- a list that one more joins
pub joined-flags : (w h : ℕ) (q : List Waiter) (x : Waiter) (marks : List ℕ) → some_of q ≡ 1 → Quiet w h q marks → Quiet w h (q ++ x ∷ []) marks
joined-flags w h [] x marks l f = absurd (omega arith)
joined-flags w h (y ∷ q) x marks l f = record { waiters = f.waiters; handoff = f.handoff; first = f.first; marked = f.marked }

pub fresh-flags : (w h : ℕ) (q : List Waiter) (x : Waiter) (marks : List ℕ) → some_of q ≡ 0 → Quiet w h q marks → Fresh w h (q ++ x ∷ []) marks
fresh-flags w h [] x marks l f = let a = f.waiters in let b = f.handoff in let c = f.marked in (a, omega arith, omega arith, refl)
fresh-flags w h (y ∷ q) x marks l f = absurd (omega arith)

-- who is alone in the list may have set WAITERS
pub set-flags : (w h : ℕ) (q : List Waiter) (marks : List ℕ) → Fresh 0 0 q marks → w ≡ 1 → h ≡ 0 → Quiet w h q marks
set-flags w h q marks f is none = let a = (some-length q).0 in let b = f.3 in let c = f.2 in let l = first-least marks (tasks q) in record { waiters = omega arith; handoff = omega arith; first = omega arith; marked = omega arith }

module _ (vs : List SemPart) (id : ℕ) (v : SemPart) (at : get_elem? vs id ≡ some v) (n : ℕ) (q : List Waiter) (marks grants : List ℕ) (r : SemKept n q marks grants vs) (own : ℕ) (has : v.task ≡ Some own) where
  abbrev W : ℕ
  W = n / 2 % 2

  abbrev H : ℕ
  H = n / 4 % 2

  -- the count where a view adds as much as before
  pub same-count : (u : SemPart) (more : ℕ) → more ≡ more_of grants vs → u.held ≡ v.held → u.sem.bias ≡ v.sem.bias → CountKept n more (map part_of (set vs id u))
  same-count u more is held bias = subst (λ (z : ℕ). CountKept n z (map part_of (set vs id u))) (sym is) (count-step vs id v u at n n (more_of grants vs) (more_of grants vs) (alone_of v) (shared_of v) (early_of v) (late_of v) (alone_of v) (shared_of v) (early_of v) (late_of v) r.count
      record { alone_is = refl; shared_is = refl; early_is = refl; late_is = refl } record { alone_is = ap alone_weight held; shared_is = ap shared_weight held; early_is = ap early_weight bias; late_is = ap late_weight bias } r.count.low refl refl
      (λ p. let e = r.count.apart p in let S = part-least shared_in vs id v at in let F = part-least early_in vs id v at in omega arith))

  -- the facts of the own stage
  pub mine-at : (s : Stage) → total busy_of vs ≡ busy_of v → v.sem.stage ≡ s → FlagsAt s v.task v.sem.rest W H q marks grants
  mine-at s only stage = subst (λ (z : Stage). FlagsAt z v.task v.sem.rest W H q marks grants) stage (mine-of W H q marks grants vs id v at only r.flags)

  -- a step of the wait lock's holder that changes flags, marks and its stage, and nothing of who waits
  pub sem-stages : (u : SemPart) (n' : ℕ) (marks' : List ℕ) → total busy_of vs ≡ busy_of v → u.task ≡ v.task → u.sem.wait ≡ v.sem.wait → u.sem.rest ≡ v.sem.rest → granting_of u ≡ granting_of v → FlagsOf u (n' / 2 % 2) (n' / 4 % 2) q marks' grants
      → CountKept n' (more_of grants vs) (map part_of (set vs id u)) → SemPartOk u → SemKept n' q marks' grants (set vs id u)
  sem-stages u n' marks' only task wait rest g flags count ok = let m = busy-most u.sem.stage in
      sem-moves vs id v at u n n' q q marks marks' grants r (of-mine (n' / 2 % 2) (n' / 4 % 2) q marks' grants vs id v u at only flags) (omega arith) (subst (λ (z : ℕ). CountKept n' z (map part_of (set vs id u))) (sym (more-same vs id v at u grants task wait g)) count)
      (λ t. let x : granted_at grants t u ≡ granted_at grants t v = λ i. named_weight t (task i) (granted_weight grants (task i) (wait i)) in let y : reads_at t u ≡ reads_at t v = λ i. named_weight t (task i) (reads_weight (wait i)) in let z : rest_at t u ≡ rest_at t v = ap (here t) rest in omega arith)
      (λ t. let y : writes_at t u ≡ writes_at t v = λ i. named_weight t (task i) (writes_weight (wait i)) in omega arith)
      (let x : granted_of grants u ≡ granted_of grants v = λ i. granted_weight grants (task i) (wait i) in let y : reads_of u ≡ reads_of v = ap reads_weight wait in let z : rest_of u ≡ rest_of v = ap (λ (l : List ℕ). length l) rest in omega arith) ok

  -- a reader that is to queue stores 1 in its grant word
  pub sem-arms : total busy_of vs ≡ busy_of v → v.sem.stage ≡ Rest → total (reads_at own) vs ≡ 0 → own < length grants → SemKept n q marks (set grants own 1) (set vs id (staged v Armed))
  sem-arms only stage alone inside = let u : SemPart = staged v Armed in let grants' : List ℕ = set grants own 1 in let a = unread-all grants own 1 vs alone in let g0 : granting_of v ≡ 0 = ap (λ (z : Stage). granting_weight z (length v.sem.rest)) stage in
      let f = mine-at Rest only stage in let b0 : busy_of v ≡ 0 = ap busy_weight stage in let B = total-set busy_of vs id v u at in let R = total-same rest_of vs id v u at refl in let A = total-same (granted_of grants') vs id v u at refl in
      let L = total-same reads_of vs id v u at refl in let G = total-set granting_of vs id v u at in let more : more_of grants' (set vs id u) ≡ more_of grants vs = omega arith in record {
        count = same-count u (more_of grants' (set vs id u)) more refl refl;
        busy = omega arith;
        flags = of-mine W H q marks grants' vs id v u at only (f, λ t is. let e : own ≡ t = same-some own t (sym has ∙ is) in subst (λ (z : ℕ). 1 ≤ get_or grants' z 0) e (let one = get_or-set_same grants own 1 0 inside in omega (arith, one)));
        reads = λ t. let x = r.reads t in let y = total-same (reads_at t) vs id v u at refl in let z = total-same (rest_at t) vs id v u at refl in let c = total-same (granted_at grants' t) vs id v u at refl in let d = unread-at grants own 1 vs alone t in omega arith;
        writes = λ t. r.writes t ∙ sym (total-same (writes_at t) vs id v u at refl);
        members = let m = r.members in omega arith;
        each = each-set SemPartOk SemPartOk vs id u (ok-of u own has (λ _. (r.each id v at).rest (ap batch_weight stage)) (let x = slim-of v own has (r.each id v at) in omega (arith, x, b0)) (reserve-most v.sem.bias).0 (let x9 = single-of v own has (r.each id v at) in omega arith) (r.each id v at).apart) (λ j w _ _ p. p) r.each;
      }

  -- and appends itself
  pub sem-joins : (b : Bool) → bit b + some_of q ≡ 1 → total busy_of vs ≡ busy_of v → v.sem.stage ≡ Armed → v.sem.wait ≡ Apart → v.held ≡ No → SemKept n (q ++ reader own ∷ []) marks grants (set vs id (waiting v Reads (Joining b)))
  sem-joins b empty only stage wait out = let u : SemPart = waiting v Reads (Joining b) in let f = mine-at Armed only stage in let own1 : is_zero (get_or grants own 0) ≡ 0 = not-zero (get_or grants own 0) (f.1 own has) in let b0 : busy_of v ≡ 1 = ap busy_weight stage in
      let g0 : granting_of v ≡ 0 = ap (λ (z : Stage). granting_weight z (length v.sem.rest)) stage in let gu : granted_of grants u ≡ 0 = granted-w u own has Reads refl grants ∙ own1 in let gv : granted_of grants v ≡ 0 = granted-w v own has Apart wait grants in
      let more : more_of grants (set vs id u) ≡ more_of grants vs = (let x = total-set (granted_of grants) vs id v u at in let y = total-set granting_of vs id v u at in omega arith) in
      sem-moves vs id v at u n n q (q ++ reader own ∷ []) marks marks grants r (of-mine W H (q ++ reader own ∷ []) marks grants vs id v u at only (flags b empty f.0)) (omega arith) (same-count u (more_of grants (set vs id u)) more refl refl)
      (λ t. let x = total-snoc (reader_at t) q (reader own) in let y = reads-at-w u own has Reads refl t in let z = reads-at-w v own has Apart wait t in
      let c : granted_at grants t u ≡ 0 = granted-at-w u own has Reads refl grants t ∙ ap (named_weight t (Some own)) own1 in let d = granted-at-w v own has Apart wait grants t in omega arith)
      (λ t. let x = total-snoc (writer_at t) q (reader own) in let y = writes-at-w u own has Reads refl t in let z = writes-at-w v own has Apart wait t in omega arith)
      (let x = total-snoc reader_of q (reader own) in let y = reads-w v own has Apart wait in omega arith) (ok-of u own has (λ _. (r.each id v at).rest (ap batch_weight stage)) (let x = bias-most v.sem.bias in let y : shared_of v ≡ 0 = ap shared_weight out in omega arith) (reserve-most v.sem.bias).0 (let y : holds_of v ≡ 0 = ap held_weight out in omega arith) (r.each id v at).apart)
    where
      flags : (b : Bool) → bit b + some_of q ≡ 1 → Quiet W H q marks → FlagsAt (Joining b) v.task v.sem.rest W H (q ++ reader own ∷ []) marks grants
      flags true e f = fresh-flags W H q (reader own) marks (omega arith) f
      flags false e f = joined-flags W H q (reader own) marks (omega arith) f

  -- and takes its bias back, with WAITERS where the list was empty
  pub sem-backs : (n' m : ℕ) (b : Bool) → total busy_of vs ≡ busy_of v → v.sem.stage ≡ Joining b → v.sem.bias ≡ Transit m → n' + 256 ≡ n + 2 * bit b → SemKept n' q marks grants (set vs id (biased v Clear Rest))
  sem-backs n' m b only stage bias sum = let u : SemPart = biased v Clear Rest in let f = mine-at (Joining b) only stage in let low = r.count.low in let one : early_of v + late_of v ≡ 1 = (λ i. early_weight (bias i) + late_weight (bias i)) ∙ omega arith in
      let F = part-least early_in vs id v at in let L = part-least late_in vs id v at in let rf = r.count.field in let wb = word b f in
      sem-stages u n' marks only refl refl refl (sym (ap (λ (z : Stage). granting_weight z (length v.sem.rest)) stage)) (flags b f sum (omega arith))
      (count-back vs id v u at n n' (more_of grants vs) r.count (omega arith) (omega arith) (omega arith) refl one refl) (ok-of u own has (λ _. (r.each id v at).rest (ap batch_weight stage)) (let x = slim-of v own has (r.each id v at) in let y : busy_of v ≡ 1 = ap busy_weight stage in omega arith) (omega arith) (let x9 = single-of v own has (r.each id v at) in omega arith) (let x = (held-most v.held).0 in omega arith))
    where
      word : (b : Bool) → FlagsAt (Joining b) v.task v.sem.rest W H q marks grants → bit b + W ≤ 1
      word true f = let a = f.0 in omega arith
      word false f = omega arith

      flags : (b : Bool) → FlagsAt (Joining b) v.task v.sem.rest W H q marks grants → n' + 256 ≡ n + 2 * bit b → 256 ≤ n → Quiet (n' / 2 % 2) (n' / 4 % 2) q marks
      flags true f sum l = let a = f.0 in let c = f.1 in set-flags (n' / 2 % 2) (n' / 4 % 2) q marks (refl, refl, f.2, f.3) (omega arith) (omega arith)
      flags false f sum l = let a = f.waiters in let c = f.handoff in let d = f.marked in record { waiters = omega arith; handoff = omega arith; first = f.first; marked = omega arith }

  -- a queued reader finds its grant word 0, and holds
  pub sem-granted : v.sem.stage ≡ Rest → v.sem.wait ≡ Reads → v.sem.bias ≡ Clear → v.held ≡ No → get_or grants own 0 ≡ 0 → SemKept n q marks grants (set vs id (holding v Shared (record v.sem { wait = Apart })))
  sem-granted stage wait clear out zero_it = let u : SemPart = holding v Shared (record v.sem { wait = Apart }) in let gv : granted_of grants v ≡ 1 = granted-w v own has Reads wait grants ∙ ap is_zero zero_it in let gu : granted_of grants u ≡ 0 = granted-w u own has Apart refl grants in
      let D = total-set (granted_of grants) vs id v u at in let G = total-same granting_of vs id v u at refl in let S = part-least shared_in vs id v at in
      sem-moves vs id v at u n n q q marks marks grants r (of-others W H q marks grants vs id v u at r.busy refl (λ f. f) r.flags) (let o = r.busy in omega arith)
      (count-step vs id v u at n n (more_of grants vs) (more_of grants (set vs id u)) 0 0 0 0 0 1 0 0 r.count (adds v No Clear out clear) (adds u Shared Clear refl clear) r.count.low (omega arith) (omega arith) (λ p. let e = r.count.apart p in omega arith))
      (λ t. let c : granted_at grants t v ≡ named_weight t (Some own) 1 = granted-at-w v own has Reads wait grants t ∙ ap (λ (z : ℕ). named_weight t (Some own) (is_zero z)) zero_it in let d = granted-at-w u own has Apart refl grants t in
      let y = reads-at-w u own has Apart refl t in let z = reads-at-w v own has Reads wait t in omega arith)
      (λ t. let y = writes-at-w u own has Apart refl t in let z = writes-at-w v own has Reads wait t in omega arith)
      (let y = reads-w v own has Reads wait in omega arith) (ok-of u own has (λ _. (r.each id v at).rest (ap batch_weight stage)) (let e : early_of v + late_of v ≡ 0 = ap (λ (z : Bias). early_weight z + late_weight z) clear in omega arith) (let e : reserve_of v ≡ 0 = ap reserve_weight clear in omega arith) (let x9 = single-of v own has (r.each id v at) in omega arith) (let z : transit_weight v.sem.bias ≡ 0 = ap transit_weight clear in omega (arith, z)))
