-- The steps of queues and wakes.
use Rattle.std.proofs.Common.{◌≡◌, ℕ, ◌+◌, ◌*◌, ◌/◌, ◌%◌, ◌<◌, ◌≤◌, Bool, List, map, [], ◌∷◌, length, get_or, set, Option, Some, sym, refl, ap, ◌∙◌, subst, arith}
use mathlib.Core.Option.{some}
use mathlib.Core.Logic.{dite}
use native.Mathlib.Decide.{ℕ_discrete}
use lib.ListN.{get_elem?}
use Rattle.lock_core.specs.Records.{bit}
use Rattle.lock_core.specs.Views.{held_weight, number_weight}
use Rattle.lock_core.specs.Totals.{total, total-set, total-same, total-at}
use Rattle.lock_core.specs.ViewParts.{each-set}
use Rattle.lock_core.proofs.RowLaws.{none-some}
use Rattle.rwsem_count.specs.Counts.{shared_weight, early_weight, late_weight, CountKept, shared_in, early_in}
use Rattle.rwsem_wake.specs.SemParts.{SemPart, transit_weight, reserve_weight, reads_weight, writes_weight, named_weight, granted_weight, granting_weight, busy_weight, shared_of, alone_of, early_of, late_of, transit_of, holds_of, reserve_of, reads_of, reads_at, writes_at, reader_at, writer_at, reader_of, rest_of, rest_at, busy_of, granting_of, granted_of, granted_at, here, some_of, tasks, part_of}
use Rattle.rwsem_wake.specs.GrantSemaphores.{batch_weight, Quiet, FlagsOf, FlagsAt, now, SemPartOk, number_of, load_of, SemKept, more_of}
use Rattle.rwsem_wake.specs.Types.{Held, No, Shared, Alone, Waiter, Wait, Apart, Reads, Writes, Bias, Clear, Transit, Reserve, Stage, Counted, Granting, SemHand}
use Rattle.rwsem_wake.proofs.Sums.{mine-of, of-mine, of-others}
use Rattle.rwsem_wake.proofs.Counting.{count-step, part-least}
use Rattle.rwsem_wake.proofs.Places.{some-length, first-least, granted-all, grant-all, grant-here, grant-else, here-mine, here-else}

-- what becomes of a view
abbrev pub staged : SemPart → Stage → SemPart
staged v s = record v { sem = record v.sem { stage = s } }

abbrev pub biased : SemPart → Bias → Stage → SemPart
biased v b s = record v { sem = record v.sem { bias = b; stage = s } }

abbrev pub batched : SemPart → List ℕ → Stage → SemPart
batched v rest s = record v { sem = record v.sem { rest = rest; stage = s } }

abbrev pub waiting : SemPart → Wait → Stage → SemPart
waiting v w s = record v { sem = record v.sem { wait = w; stage = s } }

abbrev pub holding : SemPart → Held → SemHand → SemPart
holding v h s = record v { held = h; sem = s }

pub ok-of : (u : SemPart) (t : ℕ) → u.task ≡ Some t → (batch_weight u.sem.stage ≡ 0 → u.sem.rest ≡ []) → load_of u ≤ 1 + busy_of u → reserve_of u ≤ busy_of u → holds_of u + reads_of u ≤ 1 → holds_of u + transit_of u ≤ 1 → SemPartOk u
ok-of u t has rest slim reserved single apart = record { rest = rest; numbered = λ none. none-some t (sym none ∙ has); slim = let e : number_of u ≡ 1 = ap number_weight has in omega arith; reserved = reserved; single = let e : number_of u ≡ 1 = ap number_weight has in omega arith; apart = apart }

-- what a pass with a number adds
pub slim-of : (v : SemPart) (t : ℕ) → v.task ≡ Some t → SemPartOk v → load_of v ≤ 1 + busy_of v
slim-of v t has ok = let e : number_of v ≡ 1 = ap number_weight has in let s = ok.slim in omega arith

pub single-of : (v : SemPart) (t : ℕ) → v.task ≡ Some t → SemPartOk v → holds_of v + reads_of v ≤ 1
single-of v t has ok = let e : number_of v ≡ 1 = ap number_weight has in let s = ok.single in omega arith

pub shared-most : (x : Held) → shared_weight x ≤ 1
shared-most No = omega arith
shared-most Shared = omega arith
shared-most Alone = omega arith

pub held-most : (x : Held) → (held_weight x ≤ 1) × (shared_weight x ≤ held_weight x)
held-most No = (omega arith, omega arith)
held-most Shared = (omega arith, omega arith)
held-most Alone = (omega arith, omega arith)

pub reads-most : (x : Wait) → reads_weight x ≤ 1
reads-most Apart = omega arith
reads-most Reads = omega arith
reads-most Writes = omega arith

pub reserve-most : (x : Bias) → (reserve_weight x ≤ 1) × (reserve_weight x ≤ early_weight x + late_weight x)
reserve-most Clear = (omega arith, omega arith)
reserve-most (Transit n) = (omega arith, omega arith)
reserve-most (Reserve n) = (omega arith, omega arith)

pub transit-most : (x : Bias) → transit_weight x ≤ early_weight x + late_weight x
transit-most Clear = omega arith
transit-most (Transit n) = omega arith
transit-most (Reserve n) = omega arith

pub bias-most : (x : Bias) → early_weight x + late_weight x ≤ 1
bias-most Clear = omega arith
bias-most (Transit n) = omega arith
bias-most (Reserve n) = omega arith

module _ (vs : List SemPart) (id : ℕ) (v : SemPart) (at : get_elem? vs id ≡ some v) where
  -- A step of a pass that holds the wait lock, or of one that leaves flags, list and marks
  module _ (u : SemPart) where
    pub sem-moves : (n n' : ℕ) (q q' : List Waiter) (marks marks' grants : List ℕ) → SemKept n q marks grants vs
        → FlagsOf (now (set vs id u)) (n' / 2 % 2) (n' / 4 % 2) q' marks' grants → total busy_of vs + busy_of u ≤ 1 + busy_of v
        → CountKept n' (more_of grants (set vs id u)) (map part_of (set vs id u))
        → ((t : ℕ) → total (reader_at t) q' + rest_at t u + granted_at grants t u + reads_at t v ≡ total (reader_at t) q + rest_at t v + granted_at grants t v + reads_at t u)
        → ((t : ℕ) → total (writer_at t) q' + writes_at t v ≡ total (writer_at t) q + writes_at t u)
        → total reader_of q' + rest_of u + granted_of grants u + reads_of v ≡ total reader_of q + rest_of v + granted_of grants v + reads_of u
        → SemPartOk u → SemKept n' q' marks' grants (set vs id u)
    sem-moves n n' q q' marks marks' grants r flags busy count reads writes members ok = let B = total-set busy_of vs id v u at in record {
      count = count;
      busy = omega arith;
      flags = flags;
      reads = λ t. let a = r.reads t in let b = reads t in let x = total-set (granted_at grants t) vs id v u at in let y = total-set (reads_at t) vs id v u at in let z = total-set (rest_at t) vs id v u at in omega arith;
      writes = λ t. let a = r.writes t in let b = writes t in let y = total-set (writes_at t) vs id v u at in omega arith;
      members = let a = r.members in let x = total-set (granted_of grants) vs id v u at in let y = total-set reads_of vs id v u at in let z = total-set rest_of vs id v u at in omega arith;
      each = each-set SemPartOk SemPartOk vs id u ok (λ j w _ _ p. p) r.each;
    }

    -- of a view that waits as before
    pub more-same : (grants : List ℕ) → u.task ≡ v.task → u.sem.wait ≡ v.sem.wait → granting_of u ≡ granting_of v → more_of grants (set vs id u) ≡ more_of grants vs
    more-same grants task wait g = let a = total-same (granted_of grants) vs id v u at (λ i. granted_weight grants (task i) (wait i)) in let b = total-same granting_of vs id v u at g in omega arith

    -- a step on the count that leaves WAITERS and HANDOFF
    pub sem-counts : (n n' : ℕ) (q : List Waiter) (marks grants : List ℕ) → SemKept n q marks grants vs → u.task ≡ v.task → u.sem.wait ≡ v.sem.wait → u.sem.rest ≡ v.sem.rest → u.sem.stage ≡ v.sem.stage → n' / 2 % 2 ≡ n / 2 % 2 → n' / 4 % 2 ≡ n / 4 % 2
        → CountKept n' (more_of grants vs) (map part_of (set vs id u)) → SemPartOk u → SemKept n' q marks grants (set vs id u)
    sem-counts n n' q marks grants r task wait rest stage low high count ok = let same : more_of grants (set vs id u) ≡ more_of grants vs = more-same grants task wait (λ i. granting_weight (stage i) (length (rest i))) in
        let b : busy_of u ≡ busy_of v = ap busy_weight stage in let o = r.busy in
        sem-moves n n' q q marks marks grants r flags (omega arith) (subst (λ (z : ℕ). CountKept n' z (map part_of (set vs id u))) (sym same) count)
        (λ t. let x : granted_at grants t u ≡ granted_at grants t v = λ i. named_weight t (task i) (granted_weight grants (task i) (wait i)) in let y : reads_at t u ≡ reads_at t v = λ i. named_weight t (task i) (reads_weight (wait i)) in let z : rest_at t u ≡ rest_at t v = ap (here t) rest in omega arith)
        (λ t. let y : writes_at t u ≡ writes_at t v = λ i. named_weight t (task i) (writes_weight (wait i)) in omega arith)
        (let x : granted_of grants u ≡ granted_of grants v = λ i. granted_weight grants (task i) (wait i) in let y : reads_of u ≡ reads_of v = ap reads_weight wait in let z : rest_of u ≡ rest_of v = ap (λ (l : List ℕ). length l) rest in omega arith) ok
      where
        Now : ℕ × ℕ → Type 0
        Now z = FlagsOf (now (set vs id u)) z.0 z.1 q marks grants

        flags : FlagsOf (now (set vs id u)) (n' / 2 % 2) (n' / 4 % 2) q marks grants
        flags = subst Now (λ i. (sym low i, sym high i)) (of-others (n / 2 % 2) (n / 4 % 2) q marks grants vs id v u at r.busy (ap busy_weight stage)
            (subst (λ (z : Stage × Option ℕ × List ℕ). FlagsAt z.0 z.1 z.2 (n / 2 % 2) (n / 4 % 2) q marks grants) (λ i. (sym stage i, sym task i, sym rest i))) r.flags)

  -- The batch's sum: 256 for each of its readers, less the reserved bias, less 4 where HANDOFF is set, less 2 where the list is empty.
  pub sem-sums : (n n' t : ℕ) (q : List Waiter) (marks grants : List ℕ) (b : Bool) → SemKept n q marks grants vs → total busy_of vs ≡ busy_of v → v.task ≡ Some t → v.sem.stage ≡ Counted b → shared_of v + early_of v ≡ 1 → late_of v ≡ 0
      → n' + (256 * early_of v + (4 * bit b + 2)) ≡ n + (256 * length v.sem.rest + 2 * some_of q) → SemKept n' q marks grants (set vs id (biased v Clear Granting))
  sem-sums n n' t q marks grants b r only has stage keeps tight sum = let u : SemPart = biased v Clear Granting in let mine = mine-of (n / 2 % 2) (n / 4 % 2) q marks grants vs id v at only r.flags in
      let f : FlagsAt (Counted b) v.task v.sem.rest (n / 2 % 2) (n / 4 % 2) q marks grants = subst (λ (z : Stage). FlagsAt z v.task v.sem.rest (n / 2 % 2) (n / 4 % 2) q marks grants) stage mine in
      let w = f.0 in let none = f.1 in let h = f.2 in let low = r.count.low in let s1 = (some-length q).2 in let least = first-least marks (tasks q) in
      let g0 : granting_of v ≡ 0 = ap (λ (z : Stage). granting_weight z (length v.sem.rest)) stage in let b0 : busy_of v ≡ 1 = ap busy_weight stage in
      let G = total-set granting_of vs id v u at in let D = total-same (granted_of grants) vs id v u at refl in let S = part-least shared_in vs id v at in let F = part-least early_in vs id v at in let ap' = r.count.apart in
      let quiet : Quiet (n' / 2 % 2) (n' / 4 % 2) q marks = record { waiters = omega arith; handoff = omega arith; first = omega arith; marked = omega arith } in
      sem-moves u n n' q q marks marks grants r (of-mine (n' / 2 % 2) (n' / 4 % 2) q marks grants vs id v u at only quiet) (omega arith)
      (count-step vs id v u at n n' (more_of grants vs) (more_of grants (set vs id u)) (alone_of v) (shared_of v) (early_of v) (late_of v) (alone_of v) (shared_of v) 0 0 r.count
      record { alone_is = refl; shared_is = refl; early_is = refl; late_is = refl } record { alone_is = refl; shared_is = refl; early_is = refl; late_is = refl } (omega arith) (omega arith) (omega arith) (λ p. let e = ap' (omega arith) in absurd (omega arith)))
      (λ t. refl) (λ t. refl) refl (ok-of u t has (λ z. absurd (omega (arith, z))) (let x = shared-most v.held in let y = reads-most v.sem.wait in omega arith) (omega arith) (single-of v t has (r.each id v at)) (let x = held-most v.held in let y = x.0 in omega arith))

  -- a grant word is cleared: the reader of the batch's rest goes over to those that are granted
  pub sem-grants : (n t own : ℕ) (ts : List ℕ) (q : List Waiter) (marks grants : List ℕ) → SemKept n q marks grants vs → total busy_of vs ≡ busy_of v → v.task ≡ Some own → v.sem.stage ≡ Granting → v.sem.rest ≡ t ∷ ts
      → total (reads_at t) vs ≤ 1 → t < length grants → SemKept n q marks (set grants t 0) (set vs id (batched v ts Granting))
  sem-grants n t own ts q marks grants r only has stage rest one inside = let u : SemPart = batched v ts Granting in let mine = mine-of (n / 2 % 2) (n / 4 % 2) q marks grants vs id v at only r.flags in
      let granting : FlagsAt Granting v.task v.sem.rest (n / 2 % 2) (n / 4 % 2) q marks grants = subst (λ (z : Stage). FlagsAt z v.task v.sem.rest (n / 2 % 2) (n / 4 % 2) q marks grants) stage mine in
      let mine_at : rest_at t v ≡ here t ts + 1 = ap (here t) rest ∙ here-mine t ts in let R = total-at (rest_at t) vs id v at in let a = r.reads t in let G = granted-all grants t vs in
      let waits : 1 ≤ get_or grants t 0 = elim (native.Mathlib.Decide.dec_le 1 (get_or grants t 0)) [ yes l ↦ l | no l ↦ let z = G.0 (omega (arith, l)) in absurd (omega (arith, z, a, R, mine_at, one)) ] in
      let z = G.1 waits in let b0 : busy_of v ≡ 1 = ap busy_weight stage in let all = grant-all grants t inside waits vs in
      let g0 : granting_of v ≡ length ts + 1 = (λ i. granting_weight (stage i) (length (rest i))) ∙ omega arith in let grants' : List ℕ = set grants t 0 in
      let D = total-same (granted_of grants') vs id v u at refl in let GG = total-set granting_of vs id v u at in let B = total-set busy_of vs id v u at in let L = total-set rest_of vs id v u at in let l0 : rest_of v ≡ length ts + 1 = ap (λ (l : List ℕ). length l) rest ∙ omega arith in
      let more : more_of grants' (set vs id u) ≡ more_of grants vs = omega arith in record {
        count = subst (λ (z : ℕ). CountKept n z (map part_of (set vs id u))) (sym more) (count-step vs id v u at n n (more_of grants vs) (more_of grants vs) (alone_of v) (shared_of v) (early_of v) (late_of v) (alone_of v) (shared_of v) (early_of v) (late_of v) r.count
            record { alone_is = refl; shared_is = refl; early_is = refl; late_is = refl } record { alone_is = refl; shared_is = refl; early_is = refl; late_is = refl } r.count.low refl refl (λ p. let e = r.count.apart p in let S = part-least shared_in vs id v at in let F = part-least early_in vs id v at in omega arith));
        busy = omega arith;
        flags = of-mine (n / 2 % 2) (n / 4 % 2) q marks grants' vs id v u at only granting;
        reads = λ x. let ax = r.reads x in let rx = total-same (reads_at x) vs id v u at refl in let Z = total-set (rest_at x) vs id v u at in let gx = total-same (granted_at grants' x) vs id v u at refl in dite (ℕ_discrete x t)
            (λ is. subst (λ (y : ℕ). total (reader_at y) q + total (rest_at y) (set vs id u) + total (granted_at grants' y) (set vs id u) ≡ total (reads_at y) (set vs id u)) (sym is)
            (let ht = grant-here grants t inside waits vs in let rt = total-same (reads_at t) vs id v u at refl in let Zt = total-set (rest_at t) vs id v u at in let gt = total-same (granted_at grants' t) vs id v u at refl in omega arith))
            (λ not. let hx = grant-else grants t inside waits x not vs in let mx : rest_at x v ≡ here x ts = ap (here x) rest ∙ here-else t x ts not in omega arith);
        writes = λ x. r.writes x ∙ sym (total-same (writes_at x) vs id v u at refl);
        members = let m = r.members in let rr = total-same reads_of vs id v u at refl in let reads = r.reads t in omega arith;
        each = each-set SemPartOk SemPartOk vs id u (ok-of u own has (λ z. absurd (omega (arith, z))) (let x = slim-of v own has (r.each id v at) in omega (arith, x, b0)) (reserve-most v.sem.bias).0 (single-of v own has (r.each id v at)) (r.each id v at).apart) (λ j w _ _ p. p) r.each;
      }
