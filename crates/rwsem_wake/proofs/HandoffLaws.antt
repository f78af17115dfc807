-- The steps of queued writers, of a wake before its sum, of handoff and of leaving.
use Rattle.std.proofs.Common.{◌≡◌, ℕ, ◌+◌, ◌*◌, ◌/◌, ◌%◌, ◌<◌, ◌≤◌, ◌==◌, ◌⊎◌, inl, inr, if◌then◌else◌, Bool, true, false, List, [], ◌∷◌, ◌++◌, length, get_or, set, Option, Some, sym, refl, ap, ◌∙◌, subst, arith, length-append, get_or-set_same}
use mathlib.Core.Option.{some}
use native.Mathlib.Decide.{ℕ_discrete}
use lib.ListN.{get_elem?}
use Rattle.lock_core.specs.Records.{bit}
use Rattle.lock_core.specs.Totals.{total, total-set, total-same, total-snoc}
use Rattle.lock_core.proofs.RowLaws.{same-some}
use Rattle.rwsem_count.specs.Counts.{shared_weight, early_weight, late_weight, shared_in, early_in, late_in}
use Rattle.rwsem_wake.specs.SemParts.{SemPart, named_weight, granting_weight, busy_weight, reads_weight, transit_weight, shared_of, holds_of, alone_of, early_of, late_of, reserve_of, reads_of, reads_at, writes_at, reader_at, writer_at, reader_of, busy_of, granting_of, granted_of, granted_at, is_zero, reader_bit, IsWhole, some_of, marks_sum, first_mark, tasks, own_mark}
use Rattle.rwsem_wake.specs.GrantSemaphores.{batch_weight, Quiet, IsFirst, FlagsAt, load_of, SemKept, more_of}
use Rattle.rwsem_wake.proofs.Sums.{busy-most, of-mine}
use Rattle.rwsem_wake.proofs.Counting.{count-step, count-back, count-reserves, count-writes, part-least}
use Rattle.rwsem_wake.proofs.Places.{total-without, length-without, some-length, first-least, here-behind, mark-set, mark-least, not-zero}
use Rattle.rwsem_wake.proofs.WakeLaws.{staged, biased, batched, waiting, ok-of, slim-of, held-most, single-of, reserve-most, sem-moves, more-same}
use Rattle.rwsem_wake.proofs.QueueLaws.{reads-w, reads-at-w, writes-at-w, granted-w, granted-at-w, reader, a_writer, joined-flags, fresh-flags, set-flags, sem-stages, same-count, mine-at}
use Rattle.rwsem_wake.specs.GrantsStated.{Without}
use Rattle.rwsem_wake.specs.Types.{No, Alone, Waiter, Apart, Reads, Writes, Bias, Clear, Reserve, Stage, Rest, First, Marking, Took, Removed, Emptied, Overdue, Marked, Removing, Summing}
use Rattle.rwsem_wake.specs.Types.{Counted, Granting}

-- the list without its first waiter, and without another
first-left : (marks : List ℕ) (q q' : List Waiter) (w : Waiter) (s : Without q w q') → s.before ≡ [] → first_mark marks (tasks q) ≡ get_or marks w.task 0
first-left marks q q' w s e = ap (λ (z : List Waiter). first_mark marks (tasks z)) (s.was ∙ ap (λ (z : List Waiter). z ++ w ∷ s.behind) e)

later-left : (marks : List ℕ) (q q' : List Waiter) (w : Waiter) (s : Without q w q') → 1 ≤ length s.before → (first_mark marks (tasks q) ≡ first_mark marks (tasks q')) × (some_of q ≡ some_of q')
later-left marks q q' w s l = let e = both s.before s.behind l in ((ap (λ (z : List Waiter). first_mark marks (tasks z)) s.was ∙ (e.0 ∙ sym (ap (λ (z : List Waiter). first_mark marks (tasks z)) s.is))), ap (λ (z : List Waiter). some_of z) s.was ∙ (e.1 ∙ sym (ap (λ (z : List Waiter). some_of z) s.is)))
  where
    both : (xs ys : List Waiter) → 1 ≤ length xs → (first_mark marks (tasks (xs ++ w ∷ ys)) ≡ first_mark marks (tasks (xs ++ ys))) × (some_of (xs ++ w ∷ ys) ≡ some_of (xs ++ ys))
    both [] ys l = absurd (omega arith)
    both (x ∷ xs) ys l = (refl, refl)

-- a batch's rest with one more behind it
led : (marks rest : List ℕ) (q q' : List Waiter) (w : Waiter) (s : Without q w q') → (rest ≡ [] → s.before ≡ []) → first_mark marks ((rest ++ w.task ∷ []) ++ tasks q') ≡ first_mark marks (rest ++ tasks q)
led marks [] q q' w s e = sym (first-left marks q q' w s (e refl))
led marks (x ∷ rest) q q' w s e = refl

quiet-none : (w h : ℕ) (q : List Waiter) (marks : List ℕ) → w ≡ some_of q → h ≤ w → marks_sum marks ≡ 0 → Quiet w h q marks
quiet-none w h q marks e l z = let f = first-least marks (tasks q) in record { waiters = e; handoff = l; first = omega arith; marked = omega arith }

module _ (vs : List SemPart) (id : ℕ) (v : SemPart) (at : get_elem? vs id ≡ some v) (n : ℕ) (q : List Waiter) (marks grants : List ℕ) (r : SemKept n q marks grants vs) (own : ℕ) (has : v.task ≡ Some own) (only : total busy_of vs ≡ busy_of v) where
  abbrev W : ℕ
  W = n / 2 % 2

  abbrev H : ℕ
  H = n / 4 % 2

  mine : (s : Stage) → v.sem.stage ≡ s → FlagsAt s v.task v.sem.rest W H q marks grants
  mine s stage = mine-at vs id v at n q marks grants r own has s only stage

  no-rest : (s : Stage) → v.sem.stage ≡ s → batch_weight s ≡ 0 → v.sem.rest ≡ []
  no-rest s stage z = (r.each id v at).rest (ap batch_weight stage ∙ z)

  grants-not : (s : Stage) → v.sem.stage ≡ s → granting_weight s (length v.sem.rest) ≡ 0 → granting_of v ≡ 0
  grants-not s stage z = ap (λ (x : Stage). granting_weight x (length v.sem.rest)) stage ∙ z

  slim : load_of v ≤ 1 + busy_of v
  slim = slim-of v own has (r.each id v at)

  most : reserve_of v ≤ 1
  most = (reserve-most v.sem.bias).0

  single : holds_of v + reads_of v ≤ 1
  single = single-of v own has (r.each id v at)

  -- a pass that adds little has no reserved bias
  light-none : load_of v + reserve_of v ≤ 1 → reserve_of v ≡ 0
  light-none l = let x = reserve-most v.sem.bias in let y = x.1 in omega arith

  -- from one stage to another
  still : (s : Stage) → v.sem.stage ≡ s → load_of v ≤ 1 + busy_weight s
  still s stage = let x = slim in let y : busy_of v ≡ busy_weight s = ap busy_weight stage in omega arith

  -- stages alone change
  turns : (s s' : Stage) (marks' : List ℕ) → v.sem.stage ≡ s → granting_weight s' (length v.sem.rest) ≡ granting_of v → FlagsAt s' v.task v.sem.rest W H q marks' grants → (batch_weight s' ≡ 0 → v.sem.rest ≡ []) → load_of v ≤ 1 + busy_weight s' → reserve_of v ≤ busy_weight s' → SemKept n q marks' grants (set vs id (staged v s'))
  turns s s' marks' stage g flags ok slim reserved = sem-stages vs id v at n q marks grants r own has (staged v s') n marks' only refl refl refl g flags (same-count vs id v at n q marks grants r own has (staged v s') (more_of grants vs) refl refl refl) (ok-of (staged v s') own has ok slim reserved (let x9 = single in omega arith) (r.each id v at).apart)

  -- a waker reserves a bias, and sees whether HANDOFF is set
  pub sem-reserves : (b : Bool) → bit b ≡ H → 1 ≤ length q → v.sem.stage ≡ Rest → v.sem.bias ≡ Clear → SemKept (n + 256) q marks grants (set vs id (biased v (Reserve n) (Overdue b)))
  sem-reserves b seen there stage clear = let f = mine Rest stage in let low = r.count.low in let a = f.waiters in let c = f.handoff in let d = f.marked in
      sem-stages vs id v at n q marks grants r own has (biased v (Reserve n) (Overdue b)) (n + 256) marks only refl refl refl (sym (grants-not Rest stage refl))
      (record { waiters = omega arith; handoff = omega arith; first = f.first; marked = omega arith }, omega arith, there)
      (count-reserves vs id v (biased v (Reserve n) (Overdue b)) at n (more_of grants vs) r.count refl clear refl) (ok-of (biased v (Reserve n) (Overdue b)) own has (λ _. no-rest Rest stage refl) (let x = still Rest stage in let y : early_of v + late_of v ≡ 0 = ap (λ (z : Bias). early_weight z + late_weight z) clear in omega arith) (omega arith) (let x9 = single in omega arith) (let x = (held-most v.held).0 in omega arith))

  -- a writer was there: it takes its bias back
  pub sem-unreserves : (n' m : ℕ) (b : Bool) → n' + 256 ≡ n → v.sem.stage ≡ Overdue b → v.sem.bias ≡ Reserve m → SemKept n' q marks grants (set vs id (biased v Clear Rest))
  sem-unreserves n' m b less stage bias = let f = mine (Overdue b) stage in let low = r.count.low in let one : early_of v + late_of v ≡ 1 = (λ i. early_weight (bias i) + late_weight (bias i)) ∙ omega arith in let a = f.0.waiters in let c = f.0.handoff in let d = f.0.marked in
      sem-stages vs id v at n q marks grants r own has (biased v Clear Rest) n' marks only refl refl refl (sym (grants-not (Overdue b) stage refl)) record { waiters = omega arith; handoff = omega arith; first = f.0.first; marked = omega arith }
      (count-back vs id v (biased v Clear Rest) at n n' (more_of grants vs) r.count (omega arith) (omega arith) (omega arith) refl one refl) (ok-of (biased v Clear Rest) own has (λ _. no-rest (Overdue b) stage refl) (let x = still (Overdue b) stage in omega arith) (omega arith) (let x9 = single in omega arith) (let x = (held-most v.held).0 in omega arith))

  -- and where the time is over, it marks the first waiter before
  pub sem-overdue : (b : Bool) (x : Waiter) (xs : List Waiter) → v.sem.stage ≡ Overdue b → q ≡ x ∷ xs → x.task < length marks → SemKept n q (set marks x.task 1) grants (set vs id (staged v (Marked b)))
  sem-overdue b x xs stage is inside = let f = mine (Overdue b) stage in let a = f.0.waiters in let c = f.0.first in let m = mark-set marks x.task 1 inside in let same = get_or-set_same marks x.task 1 0 inside in let s = (some-length q).0 f.2 in
      let e : first_mark marks (tasks q) ≡ get_or marks x.task 0 = ap (λ (z : List Waiter). first_mark marks (tasks z)) is in let e' : first_mark (set marks x.task 1) (tasks q) ≡ get_or (set marks x.task 1) x.task 0 = ap (λ (z : List Waiter). first_mark (set marks x.task 1) (tasks z)) is in
      turns (Overdue b) (Marked b) (set marks x.task 1) stage (sym (grants-not (Overdue b) stage refl)) (omega arith, f.1, omega arith, omega arith, f.2) (λ _. no-rest (Overdue b) stage refl) (still (Overdue b) stage) most

  -- and sets HANDOFF as it takes its bias back
  pub sem-asks : (n' m : ℕ) (b : Bool) → n' + (256 + 4 * bit b) ≡ n + 4 → v.sem.stage ≡ Marked b → v.sem.bias ≡ Reserve m → SemKept n' q marks grants (set vs id (biased v Clear Rest))
  sem-asks n' m b sum stage bias = let f = mine (Marked b) stage in let low = r.count.low in let one : early_of v + late_of v ≡ 1 = (λ i. early_weight (bias i) + late_weight (bias i)) ∙ omega arith in let a = f.0 in let c = f.1 in let d = f.3 in let s = (some-length q).0 f.4 in
      let F = part-least early_in vs id v at in let L = part-least late_in vs id v at in let rf = r.count.field in
      sem-stages vs id v at n q marks grants r own has (biased v Clear Rest) n' marks only refl refl refl (sym (grants-not (Marked b) stage refl)) record { waiters = omega arith; handoff = omega arith; first = f.2; marked = omega arith }
      (count-back vs id v (biased v Clear Rest) at n n' (more_of grants vs) r.count (omega arith) (omega arith) (omega arith) refl one refl) (ok-of (biased v Clear Rest) own has (λ _. no-rest (Marked b) stage refl) (let x = still (Marked b) stage in omega arith) (omega arith) (let x9 = single in omega arith) (let x = (held-most v.held).0 in omega arith))

  -- a waker removes one of its batch
  pub sem-picks : (q' : List Waiter) (w : Waiter) (s : Without q w q') → W ≡ 1 → marks_sum marks ≡ first_mark marks (v.sem.rest ++ tasks q) → granting_of v ≡ 0 → w.writer ≡ false → (v.sem.rest ≡ [] → s.before ≡ []) → busy_of v ≤ 1
      → SemKept n q' marks grants (set vs id (batched v (v.sem.rest ++ w.task ∷ []) Removing))
  sem-picks q' w s set_it first g0 reads lead one = let rest' : List ℕ = v.sem.rest ++ w.task ∷ [] in let u : SemPart = batched v rest' Removing in let long = length-append v.sem.rest (w.task ∷ []) in let rb : reader_of w ≡ 1 = ap reader_bit reads in
      let more = more-same vs id v at u grants refl refl (sym g0) in
      sem-moves vs id v at u n n q q' marks marks grants r (of-mine W H q' marks grants vs id v u at only (set_it, first ∙ sym (led marks v.sem.rest q q' w s lead))) (omega arith) (same-count vs id v at n q marks grants r own has u (more_of grants (set vs id u)) more refl refl)
      (λ t. let x = total-without (reader_at t) q q' w s in let y : reader_at t w ≡ 1 * bit (w.task == t) = ap (λ (z : Bool). reader_bit z * bit (w.task == t)) reads in let z = here-behind w.task t v.sem.rest in omega arith)
      (λ t. let x = total-without (writer_at t) q q' w s in let y : writer_at t w ≡ 0 * bit (w.task == t) = ap (λ (z : Bool). bit z * bit (w.task == t)) reads in omega arith)
      (let x = total-without reader_of q q' w s in omega arith) (ok-of u own has (λ z. absurd (omega (arith, z))) (let x = slim in omega arith) most (let x9 = single in omega arith) (r.each id v at).apart)

  -- clears the mark of its batch's first, where it is set
  pub sem-unmarks : (t : ℕ) (ts : List ℕ) → v.sem.stage ≡ Removing → v.sem.rest ≡ t ∷ ts → t < length marks → SemKept n q (set marks t 0) grants (set vs id (staged v Summing))
  sem-unmarks t ts stage rest inside = let f = mine Removing stage in let m = mark-set marks t 0 inside in let e : first_mark marks (v.sem.rest ++ tasks q) ≡ get_or marks t 0 = ap (λ (z : List ℕ). first_mark marks (z ++ tasks q)) rest in let a = f.1 in
      turns Removing Summing (set marks t 0) stage (sym (grants-not Removing stage refl)) (f.0, omega arith) (λ z. absurd (omega (arith, z))) (still Removing stage) most

  pub sem-unmarked : (t : ℕ) (ts : List ℕ) → v.sem.stage ≡ Removing → v.sem.rest ≡ t ∷ ts → get_or marks t 0 ≡ 0 → SemKept n q marks grants (set vs id (staged v Summing))
  sem-unmarked t ts stage rest none = let f = mine Removing stage in let e : first_mark marks (v.sem.rest ++ tasks q) ≡ get_or marks t 0 = ap (λ (z : List ℕ). first_mark marks (z ++ tasks q)) rest in
      turns Removing Summing marks stage (sym (grants-not Removing stage refl)) (f.0, f.1 ∙ (e ∙ none)) (λ z. absurd (omega (arith, z))) (still Removing stage) most

  -- looks whether HANDOFF is set
  pub sem-looks : (b : Bool) → bit b ≡ H → v.sem.stage ≡ Summing → IsWhole v.sem.rest q → SemKept n q marks grants (set vs id (staged v (Counted b)))
  sem-looks b seen stage whole = let f = mine Summing stage in turns Summing (Counted b) marks stage (sym (grants-not Summing stage refl)) (f.0, f.1, sym seen, whole) (λ z. absurd (omega (arith, z))) (still Summing stage) most

  -- and has granted all
  pub sem-done : v.sem.stage ≡ Granting → v.sem.rest ≡ [] → load_of v + reserve_of v ≤ 1 → SemKept n q marks grants (set vs id (staged v Rest))
  sem-done stage none light = let f = mine Granting stage in turns Granting Rest marks stage (sym (ap (λ (x : Stage). granting_weight x (length v.sem.rest)) stage ∙ ap (λ (l : List ℕ). length l) none)) f (λ _. none) (omega arith) (let z = light-none light in omega arith)

  -- a writer appends itself
  pub sem-enters : (b : Bool) → bit b + some_of q ≡ 1 → v.sem.stage ≡ Rest → v.sem.wait ≡ Apart → SemKept n (q ++ a_writer own ∷ []) marks grants (set vs id (waiting v Writes (if b then First else Rest)))
  sem-enters b empty stage wait = let s : Stage = if b then First else Rest in let u : SemPart = waiting v Writes s in let f = mine Rest stage in let g0 = grants-not Rest stage refl in
      let gu : granted_of grants u ≡ 0 = granted-w u own has Writes refl grants in let gv : granted_of grants v ≡ 0 = granted-w v own has Apart wait grants in
      let more : more_of grants (set vs id u) ≡ more_of grants vs = (let x = total-set (granted_of grants) vs id v u at in let y = total-same granting_of vs id v u at (idle b ∙ sym g0) in omega arith) in let m = busy-most s in
      sem-moves vs id v at u n n q (q ++ a_writer own ∷ []) marks marks grants r (of-mine W H (q ++ a_writer own ∷ []) marks grants vs id v u at only (flags b empty f)) (omega arith) (same-count vs id v at n q marks grants r own has u (more_of grants (set vs id u)) more refl refl)
      (λ t. let x = total-snoc (reader_at t) q (a_writer own) in let y = reads-at-w u own has Writes refl t in let z = reads-at-w v own has Apart wait t in let c = granted-at-w u own has Writes refl grants t in let d = granted-at-w v own has Apart wait grants t in omega arith)
      (λ t. let x = total-snoc (writer_at t) q (a_writer own) in let y = writes-at-w u own has Writes refl t in let z = writes-at-w v own has Apart wait t in omega arith)
      (let x = total-snoc reader_of q (a_writer own) in let y = reads-w v own has Apart wait in omega arith) (ok-of u own has (λ _. no-rest Rest stage refl) (let x = still Rest stage in omega arith) (let z = (r.each id v at).reserved in let b0 : busy_of v ≡ 0 = ap busy_weight stage in omega arith) (let x9 = single in omega arith) (r.each id v at).apart)
    where
      idle : (b : Bool) → granting_weight (if b then First else Rest) (length v.sem.rest) ≡ 0
      idle true = refl
      idle false = refl

      flags : (b : Bool) → bit b + some_of q ≡ 1 → Quiet W H q marks → FlagsAt (if b then First else Rest) v.task v.sem.rest W H (q ++ a_writer own ∷ []) marks grants
      flags true e f = fresh-flags W H q (a_writer own) marks (omega arith) f
      flags false e f = joined-flags W H q (a_writer own) marks (omega arith) f

  -- the first of them sets WAITERS
  pub sem-sets : (n' : ℕ) → n' ≡ n + 2 → v.sem.stage ≡ First → load_of v + reserve_of v ≤ 1 → SemKept n' q marks grants (set vs id (staged v Rest))
  sem-sets n' sum stage light = let f = mine First stage in let low = r.count.low in let a = f.0 in let c = f.1 in
      sem-stages vs id v at n q marks grants r own has (staged v Rest) n' marks only refl refl refl (sym (grants-not First stage refl)) (set-flags (n' / 2 % 2) (n' / 4 % 2) q marks (refl, refl, f.2, f.3) (omega arith) (omega arith))
      (count-step vs id v (staged v Rest) at n n' (more_of grants vs) (more_of grants vs) (alone_of v) (shared_of v) (early_of v) (late_of v) (alone_of v) (shared_of v) (early_of v) (late_of v) r.count
      record { alone_is = refl; shared_is = refl; early_is = refl; late_is = refl } record { alone_is = refl; shared_is = refl; early_is = refl; late_is = refl } (omega arith) (omega arith) (omega arith)
      (λ p. let e = r.count.apart (omega arith) in let S = part-least shared_in vs id v at in let F = part-least early_in vs id v at in omega arith)) (ok-of (staged v Rest) own has (λ _. no-rest First stage refl) (omega arith) (let z = light-none light in omega arith) (let x9 = single in omega arith) (r.each id v at).apart)

  -- a queued writer takes: it is the first, or no first waiter is marked
  pub sem-takes : (n' : ℕ) (a : ℕ) → n / 256 ≡ 0 → n % 2 ≡ 0 → n' + (4 * H + 2 * a) ≡ n + 1 → (length q ≤ 1 → a ≡ 1) → (2 ≤ length q → a ≡ 0) → 1 ≤ length q → v.sem.stage ≡ Rest → v.sem.wait ≡ Writes → v.sem.bias ≡ Clear → v.held ≡ No → IsFirst (Some own) q ⊎ (first_mark marks (tasks q) ≡ 0)
      → SemKept n' q marks grants (set vs id (record v { held = Alone; sem = record v.sem { stage = Took } }))
  sem-takes n' a free none sum short long there stage writes clear out may = let u : SemPart = record v { held = Alone; sem = record v.sem { stage = Took } } in let f = mine Rest stage in let low = r.count.low in let fw = f.waiters in let fh = f.handoff in let fm = f.marked in let s = (some-length q).0 there in
      let one : a ≤ 1 = elim (native.Mathlib.Decide.dec_le 2 (length q)) [ yes l ↦ (let e = long l in omega (arith, e)) | no l ↦ (let e = short (omega (arith, l)) in omega (arith, e)) ] in
      sem-stages vs id v at n q marks grants r own has u n' marks only refl refl refl (sym (grants-not Rest stage refl))
      (omega arith, omega arith, (λ l. let e = long l in omega arith), (λ l. let e = short l in omega arith), marked may f.first, λ l. is-first may f.first l)
      (count-writes vs id v u at n n' (more_of grants vs) r.count free none (omega arith) (omega arith) out refl refl) (ok-of u own has (λ _. no-rest Rest stage refl) (let x = still Rest stage in let y : shared_of v ≡ 0 = ap shared_weight out in omega arith) most (let x = ap reads_weight writes in omega (arith, x)) (let x = ap transit_weight clear in omega (arith, x)))
    where
      -- a mark is the own one
      own-first : (xs : List Waiter) → IsFirst (Some own) xs → first_mark marks (tasks xs) ≡ get_or marks own 0
      own-first [] i = absurd i
      own-first (x ∷ xs) i = ap (λ (t : ℕ). get_or marks t 0) (sym (same-some own x.task i))

      marked : IsFirst (Some own) q ⊎ (first_mark marks (tasks q) ≡ 0) → marks_sum marks ≡ first_mark marks (tasks q) → marks_sum marks ≡ own_mark marks v.task
      marked may e = let o : own_mark marks v.task ≡ get_or marks own 0 = ap (own_mark marks) has in elim may [ inl i ↦ e ∙ (own-first q i ∙ sym o) | inr z ↦ let l = mark-least marks own in omega (arith, e, z, o, l) ]

      is-first : IsFirst (Some own) q ⊎ (first_mark marks (tasks q) ≡ 0) → marks_sum marks ≡ first_mark marks (tasks q) → 0 < marks_sum marks → IsFirst v.task q
      is-first may e l = elim may [ inl i ↦ subst (λ (z : Option ℕ). IsFirst z q) (sym has) i | inr z ↦ absurd (omega (arith, e, z, l)) ]

  -- a waiter removes itself; what the flags then are is its stage's
  pub sem-drops-writer : (q' : List Waiter) (w : Waiter) (s : Stage) → Without q w q' → w ≡ a_writer own → v.sem.wait ≡ Writes → load_of v + reserve_of v ≤ 1 → granting_of v ≡ 0 → granting_weight s (length v.sem.rest) ≡ 0 → (batch_weight s ≡ 0 → v.sem.rest ≡ []) → FlagsAt s v.task v.sem.rest W H q' marks grants
      → SemKept n q' marks grants (set vs id (waiting v Apart s))
  sem-drops-writer q' w s gone is wait light g0 g1 ok flags = let u : SemPart = waiting v Apart s in let m = busy-most s in let gu : granted_of grants u ≡ 0 = granted-w u own has Apart refl grants in let gv : granted_of grants v ≡ 0 = granted-w v own has Writes wait grants in
      let more : more_of grants (set vs id u) ≡ more_of grants vs = (let x = total-set (granted_of grants) vs id v u at in let y = total-same granting_of vs id v u at (g1 ∙ sym g0) in omega arith) in
      sem-moves vs id v at u n n q q' marks marks grants r (of-mine W H q' marks grants vs id v u at only flags) (omega arith) (same-count vs id v at n q marks grants r own has u (more_of grants (set vs id u)) more refl refl)
      (λ t. let x = total-without (reader_at t) q q' w gone in let e : reader_at t w ≡ 0 * bit (own == t) = ap (reader_at t) is in let y = reads-at-w u own has Apart refl t in let z = reads-at-w v own has Writes wait t in let c = granted-at-w u own has Apart refl grants t in let d = granted-at-w v own has Writes wait grants t in omega arith)
      (λ t. let x = total-without (writer_at t) q q' w gone in let e : writer_at t w ≡ 1 * bit (own == t) = ap (writer_at t) is in let y = writes-at-w u own has Apart refl t in let z : writes_at t v ≡ bit (own == t) = writes-at-w v own has Writes wait t in omega arith)
      (let x = total-without reader_of q q' w gone in let e : reader_of w ≡ 0 = ap reader_of is in let y = reads-w v own has Writes wait in omega arith) (ok-of u own has ok (omega arith) (let z = light-none light in omega arith) (let x9 = single in omega arith) (r.each id v at).apart)

  pub sem-drops-reader : (q' : List Waiter) (w : Waiter) (s : Stage) → Without q w q' → w ≡ reader own → v.sem.wait ≡ Reads → 1 ≤ get_or grants own 0 → load_of v + reserve_of v ≤ 1 → granting_of v ≡ 0 → granting_weight s (length v.sem.rest) ≡ 0 → (batch_weight s ≡ 0 → v.sem.rest ≡ []) → FlagsAt s v.task v.sem.rest W H q' marks grants
      → SemKept n q' marks grants (set vs id (waiting v Apart s))
  sem-drops-reader q' w s gone is wait waits light g0 g1 ok flags = let u : SemPart = waiting v Apart s in let m = busy-most s in let ng : is_zero (get_or grants own 0) ≡ 0 = not-zero (get_or grants own 0) waits in
      let gu : granted_of grants u ≡ 0 = granted-w u own has Apart refl grants in let gv : granted_of grants v ≡ 0 = granted-w v own has Reads wait grants ∙ ng in
      let more : more_of grants (set vs id u) ≡ more_of grants vs = (let x = total-set (granted_of grants) vs id v u at in let y = total-same granting_of vs id v u at (g1 ∙ sym g0) in omega arith) in
      sem-moves vs id v at u n n q q' marks marks grants r (of-mine W H q' marks grants vs id v u at only flags) (omega arith) (same-count vs id v at n q marks grants r own has u (more_of grants (set vs id u)) more refl refl)
      (λ t. let x = total-without (reader_at t) q q' w gone in let e : reader_at t w ≡ 1 * bit (own == t) = ap (reader_at t) is in let y = reads-at-w u own has Apart refl t in let z : reads_at t v ≡ bit (own == t) = reads-at-w v own has Reads wait t in
      let c = granted-at-w u own has Apart refl grants t in let d : granted_at grants t v ≡ 0 = granted-at-w v own has Reads wait grants t ∙ ap (named_weight t (Some own)) ng in omega arith)
      (λ t. let x = total-without (writer_at t) q q' w gone in let e : writer_at t w ≡ 0 * bit (own == t) = ap (writer_at t) is in let y = writes-at-w u own has Apart refl t in let z = writes-at-w v own has Reads wait t in omega arith)
      (let x = total-without reader_of q q' w gone in let e : reader_of w ≡ 1 = ap reader_of is in let y = reads-w v own has Reads wait in omega arith) (ok-of u own has ok (omega arith) (let z = light-none light in omega arith) (let x9 = single in omega arith) (r.each id v at).apart)

  -- what the flags are where another than the first has left
  pub left-later : (q' : List Waiter) (w : Waiter) (s : Without q w q') → v.sem.stage ≡ Rest → 1 ≤ length s.before → Quiet W H q' marks
  left-later q' w s stage l = let f = mine Rest stage in let e = later-left marks q q' w s l in record { waiters = f.waiters ∙ e.1; handoff = f.handoff; first = f.first ∙ e.0; marked = f.marked }

  -- who took leaves the list
  pub took-left : (q' : List Waiter) (w : Waiter) → Without q w q' → v.sem.stage ≡ Took → FlagsAt Removed v.task v.sem.rest W H q' marks grants
  took-left q' w s stage = let f = mine Took stage in let l = length-without q q' w s in let t = some-length q' in (f.0, (elim (native.Mathlib.Decide.dec_le 1 (length q')) [ yes m ↦ f.2 (omega (arith, l, m)) ∙ sym (t.0 m) | no m ↦ f.3 (omega (arith, l, m)) ∙ sym (t.3 (omega (arith, m))) ]), f.4)

  -- the own mark is cleared, or was found clear
  pub cleared : (marks' : List ℕ) → own < length marks → marks_sum marks ≡ own_mark marks v.task → marks' ≡ set marks own 0 → marks_sum marks' ≡ 0
  cleared marks' inside own_sum is = let m = mark-set marks own 0 inside in let o : own_mark marks v.task ≡ get_or marks own 0 = ap (own_mark marks) has in let e = ap marks_sum is in omega arith

  pub sem-unmarks-own : v.sem.stage ≡ Removed → load_of v + reserve_of v ≤ 1 → own < length marks → SemKept n q (set marks own 0) grants (set vs id (staged v Rest))
  sem-unmarks-own stage light inside = let f = mine Removed stage in let z = cleared (set marks own 0) inside f.2 refl in let a = f.0 in turns Removed Rest (set marks own 0) stage (sym (grants-not Removed stage refl)) (quiet-none W H q (set marks own 0) f.1 (omega arith) z) (λ _. no-rest Removed stage refl) (omega arith) (let y = light-none light in omega arith)

  -- WAITERS and HANDOFF are cleared
  pub sem-clears : (n' : ℕ) → n' + (2 + 4 * H) ≡ n → v.sem.stage ≡ Emptied → load_of v + reserve_of v ≤ 1 → SemKept n' q marks grants (set vs id (staged v Rest))
  sem-clears n' sum stage light = let f = mine Emptied stage in let low = r.count.low in let a = f.0 in let e = (some-length q).3 f.2 in
      sem-stages vs id v at n q marks grants r own has (staged v Rest) n' marks only refl refl refl (sym (grants-not Emptied stage refl)) (quiet-none (n' / 2 % 2) (n' / 4 % 2) q marks (omega arith) (omega arith) f.1)
      (count-step vs id v (staged v Rest) at n n' (more_of grants vs) (more_of grants vs) (alone_of v) (shared_of v) (early_of v) (late_of v) (alone_of v) (shared_of v) (early_of v) (late_of v) r.count
      record { alone_is = refl; shared_is = refl; early_is = refl; late_is = refl } record { alone_is = refl; shared_is = refl; early_is = refl; late_is = refl } (omega arith) (omega arith) (omega arith)
      (λ p. let x = r.count.apart (omega arith) in let S = part-least shared_in vs id v at in let F = part-least early_in vs id v at in omega arith)) (ok-of (staged v Rest) own has (λ _. no-rest Emptied stage refl) (omega arith) (let z = light-none light in omega arith) (let x9 = single in omega arith) (r.each id v at).apart)

  -- a queued writer asks for a handoff
  pub sem-asks-write : H ≡ 0 → 1 ≤ length q → v.sem.stage ≡ Rest → SemKept (n + 4) q marks grants (set vs id (staged v Marking))
  sem-asks-write none there stage = let f = mine Rest stage in let low = r.count.low in let a = f.waiters in let m = f.marked in let s = (some-length q).0 there in
      sem-stages vs id v at n q marks grants r own has (staged v Marking) (n + 4) marks only refl refl refl (sym (grants-not Rest stage refl)) (omega arith, omega arith, omega arith, there)
      (count-step vs id v (staged v Marking) at n (n + 4) (more_of grants vs) (more_of grants vs) (alone_of v) (shared_of v) (early_of v) (late_of v) (alone_of v) (shared_of v) (early_of v) (late_of v) r.count
      record { alone_is = refl; shared_is = refl; early_is = refl; late_is = refl } record { alone_is = refl; shared_is = refl; early_is = refl; late_is = refl } (omega arith) (omega arith) (omega arith)
      (λ p. let x = r.count.apart (omega arith) in let S = part-least shared_in vs id v at in let F = part-least early_in vs id v at in omega arith)) (ok-of (staged v Marking) own has (λ _. no-rest Rest stage refl) (let x = still Rest stage in omega arith) most (let x9 = single in omega arith) (r.each id v at).apart)

  -- and marks the first
  pub sem-marks : (x : Waiter) (xs : List Waiter) → v.sem.stage ≡ Marking → load_of v + reserve_of v ≤ 1 → q ≡ x ∷ xs → x.task < length marks → SemKept n q (set marks x.task 1) grants (set vs id (staged v Rest))
  sem-marks x xs stage light is inside = let f = mine Marking stage in let a = f.0 in let b = f.1 in let c = f.2 in let m = mark-set marks x.task 1 inside in let l = mark-least marks x.task in let same = get_or-set_same marks x.task 1 0 inside in let s = (some-length q).0 f.3 in
      let e' : first_mark (set marks x.task 1) (tasks q) ≡ get_or (set marks x.task 1) x.task 0 = ap (λ (z : List Waiter). first_mark (set marks x.task 1) (tasks z)) is in
      turns Marking Rest (set marks x.task 1) stage (sym (grants-not Marking stage refl)) record { waiters = omega arith; handoff = omega arith; first = omega arith; marked = omega arith } (λ _. no-rest Marking stage refl) (omega arith) (let y = light-none light in omega arith)
