-- A list of waiters without one task; marks of others than the first; and the readers as tasks.
use Rattle.std.proofs.Common.{◌≡◌, ◌≢◌, ℕ, zero, suc, ◌+◌, ◌*◌, ◌<◌, ◌≤◌, ◌==◌, Bool, List, [], ◌∷◌, length, get_or, Option, Some, None, if◌then◌else◌, sym, refl, ap, ◌∙◌, arith, eq-eqb, ne_eqb}
use mathlib.Core.Option.{some}
use mathlib.Core.Logic.{dite}
use native.Mathlib.Decide.{ℕ_discrete}
use lib.ListN.{get_elem?}
use Rattle.word_bits.specs.declared.TheConstants.{MAX_TASKS}
use Rattle.lock_core.specs.Records.{bit}
use Rattle.lock_core.specs.Views.{is_number, number_weight}
use Rattle.lock_core.specs.Totals.{total, total-at}
use Rattle.lock_core.specs.ViewParts.{Each}
use Rattle.lock_core.proofs.HandLaws.{is_number-here, is_number-else}
use Rattle.rwsem_wake.specs.SemParts.{SemPart, reader_bit, reader_at, writer_at, marks_sum, first_mark, tasks, named_weight, is_zero, shared_of, reads_of, reads_at, rest_at, granted_of, granted_weight, granted_at, granting_of, granting_weight, here}
use Rattle.rwsem_wake.specs.GrantSemaphores.{Quiet, number_of, SemPartOk, SemKept}
use Rattle.rwsem_wake.proofs.WakeLaws.{held-most, shared-most}
use Rattle.wait_list.specs.Lists.{without}
use Rattle.rwsem_wake.proofs.Places.{mark-least}
use Rattle.rwsem_wake.specs.Handoffs.{shared_at, granting_at, reads_as}
use Rattle.rwsem_wake.specs.GrantsStated.{over, Without, OnlyFirst}
use Rattle.rwsem_wake.specs.Types.{Waiter, Wait, Apart, Reads, Writes, Stage, Rest, Armed, Joining, First, Marking, Took, Removed, Emptied, Overdue, Marked, Removing, Summing, Counted, Granting}

-- a task that stands in the list
pub without-is : (t : ℕ) (q : List Waiter) → 1 ≤ total (reader_at t) q + total (writer_at t) q → (w : Waiter) × (w.task ≡ t) × Without q w (without t q)
without-is t [] l = absurd (omega arith)
without-is t (w ∷ q) l = dite (ℕ_discrete w.task t)
    (λ is. (w, is, record { before = []; behind = q; was = refl; is = ap (λ (b : Bool). if b then q else w ∷ without t q) (eq-eqb w.task t is) }))
    (λ not. let z : bit (w.task == t) ≡ 0 = ap bit (ne_eqb w.task t not) in let a = none (reader_bit w.writer) (bit (w.task == t)) z in let b = none (bit w.writer) (bit (w.task == t)) z in let r = without-is t q (omega (arith, l, a, b)) in
    (r.0, r.1, record { before = w ∷ r.2.before; behind = r.2.behind; was = ap (λ (x : List Waiter). w ∷ x) r.2.was; is = ap (λ (b : Bool). if b then q else w ∷ without t q) (ne_eqb w.task t not) ∙ ap (λ (x : List Waiter). w ∷ x) r.2.is }))
  where
    none : (x y : ℕ) → y ≡ 0 → x * y ≡ 0
    none x y z = ap (λ (n : ℕ). x * n) z ∙ omega arith

-- two marks are at most their sum
pub two-marks : (marks : List ℕ) (t u : ℕ) → t ≢ u → get_or marks t 0 + get_or marks u 0 ≤ marks_sum marks
two-marks [] t u n = omega arith
two-marks (m ∷ ms) zero zero n = absurd (n refl)
two-marks (m ∷ ms) zero (suc u) n = let l = mark-least ms u in omega arith
two-marks (m ∷ ms) (suc t) zero n = let l = mark-least ms t in omega arith
two-marks (m ∷ ms) (suc t) (suc u) n = let l = two-marks ms t u (λ e. n (ap suc e)) in omega arith

pub only-first : (w h : ℕ) (q : List Waiter) (marks : List ℕ) → w ≤ 1 → Quiet w h q marks → OnlyFirst h q marks
only-first w h q marks one f = record { handoff = λ t l. let a = mark-least marks t in let b = f.marked in let c = f.handoff in omega arith; first = λ t l. go q t l f.first }
  where
    go : (xs : List Waiter) (t : ℕ) → 0 < get_or marks t 0 → marks_sum marks ≡ first_mark marks (tasks xs) → (x : Waiter) × (ys : List Waiter) × (xs ≡ x ∷ ys) × (x.task ≡ t)
    go [] t l e = let a = mark-least marks t in absurd (omega (arith, a, e, l))
    go (x ∷ ys) t l e = dite (ℕ_discrete x.task t) (λ is. (x, ys, refl, is)) (λ not. let a = two-marks marks x.task t not in absurd (omega (arith, a, e, l)))

over-zero : (f : ℕ → ℕ) (m : ℕ) → ((t : ℕ) → t < m → f t ≡ 0) → over f m ≡ 0
unfolding over
over-zero f zero each = refl
over-zero f (suc m) each = let a = over-zero f m (λ t l. each t (omega arith)) in let b = each m (omega arith) in omega arith

over-same : (f g : ℕ → ℕ) (m : ℕ) → ((t : ℕ) → t < m → f t ≡ g t) → over f m ≡ over g m
unfolding over
over-same f g zero each = refl
over-same f g (suc m) each = let a = over-same f g m (λ t l. each t (omega arith)) in let b = each m (omega arith) in omega arith

over-both : (f g : ℕ → ℕ) (m : ℕ) → over (λ t. f t + g t) m ≡ over f m + over g m
unfolding over
over-both f g zero = refl
over-both f g (suc m) = let a = over-both f g m in omega arith

-- a weight at one number
over-one : (f : ℕ → ℕ) (m u x : ℕ) → u < m → f u ≡ x → ((t : ℕ) → t ≢ u → f t ≡ 0) → over f m ≡ x
unfolding over
over-one f zero u x l is none = absurd (omega arith)
over-one f (suc m) u x l is none = dite (ℕ_discrete u m)
    (λ e. let a = over-zero f m (λ t k. none t (λ z. omega (arith, z, e, k))) in let b : f m ≡ x = ap f (sym e) ∙ is in omega (arith, a, b))
    (λ not. let a = over-one f m u x (omega (arith, l, not)) is none in let b = none m (λ z. not (sym z)) in omega (arith, a, b))

-- a sum of sums, either way round
pub exchange : {V : Type 0} (f : ℕ → V → ℕ) (vs : List V) (m : ℕ) → over (λ t. total (f t) vs) m ≡ total (λ v. over (λ t. f t v) m) vs
exchange f [] m = over-zero (λ t. 0) m (λ t l. refl)
exchange f (v ∷ vs) m = over-both (λ t. f t v) (λ t. total (f t) vs) m ∙ (let a = exchange f vs m in omega arith)

named-over : (task : Option ℕ) (n m : ℕ) → ((t : ℕ) → task ≡ Some t → t < m) → (task ≡ None → n ≡ 0) → n ≤ 1 → over (λ t. named_weight t task n) m ≡ n
named-over task zero m small none one = over-zero (λ t. named_weight t task 0) m (λ t l. refl)
named-over None (suc n) m small none one = absurd (let e = none refl in omega arith)
named-over (Some u) (suc n) m small none one = over-one (λ t. is_number t (Some u)) m u (suc n) (small u refl) (is_number-here u ∙ omega arith) (λ t not. is_number-else t u (λ z. not (sym z)))

here-over : (ts : List ℕ) (m : ℕ) → ((t : ℕ) → 0 < here t ts → t < m) → over (λ t. here t ts) m ≡ length ts
here-over [] m small = over-zero (λ t. 0) m (λ t l. refl)
here-over (u ∷ ts) m small = over-both (λ t. bit (u == t)) (λ t. here t ts) m ∙ (let a = over-one (λ t. bit (u == t)) m u 1 (small u (let e : bit (u == u) ≡ 1 = ap bit (eq-eqb u u refl) in omega arith)) (ap bit (eq-eqb u u refl)) (λ t not. ap bit (ne_eqb u t (λ z. not (sym z)))) in
    let b = here-over ts m (λ t l. small t (omega (arith, l))) in omega arith)

-- The readers are tasks, each once: the sum over views is the number of tasks that are readers.
module _ (q : List Waiter) (n : ℕ) (marks grants : List ℕ) (vs : List SemPart) (r : SemKept n q marks grants vs)
    (small : Each (λ (v : SemPart). (t : ℕ) → v.task ≡ Some t → t < MAX_TASKS) vs) (named : (t : ℕ) → t < MAX_TASKS → total (λ (v : SemPart). is_number t v.task) vs ≤ 1) where
  nobody-reads : (xs : List SemPart) → Each (λ (v : SemPart). (t : ℕ) → v.task ≡ Some t → t < MAX_TASKS) xs → (t : ℕ) → MAX_TASKS ≤ t → total (reads_at t) xs ≡ 0
  nobody-reads [] s t l = refl
  nobody-reads (v ∷ xs) s t l = let a = nobody-reads xs (λ j w e. s (suc j) w e) t l in let b = one v.task (reads_of v) (s zero v refl) in omega arith
    where
      one : (task : Option ℕ) (x : ℕ) → ((u : ℕ) → task ≡ Some u → u < MAX_TASKS) → named_weight t task x ≡ 0
      one task zero s = refl
      one None (suc x) s = refl
      one (Some u) (suc x) s = is_number-else t u (λ e. let k = s u refl in omega (arith, k, e, l))

  rest-small : (v : SemPart) (id : ℕ) → get_elem? vs id ≡ some v → (t : ℕ) → 0 < here t v.sem.rest → t < MAX_TASKS
  rest-small v id at t l = elim (native.Mathlib.Decide.dec_le MAX_TASKS t) [ yes k ↦ (let a = r.reads t in let b = nobody-reads vs small t k in let c = total-at (rest_at t) vs id v at in absurd (omega (arith, a, b, c, l))) | no k ↦ omega (arith, k) ]

  one-view : (v : SemPart) (id : ℕ) → get_elem? vs id ≡ some v → over (λ t. reads_as grants t v) MAX_TASKS ≡ shared_of v + granted_of grants v + granting_of v
  one-view v id at = let ok = r.each id v at in let a = over-both (λ t. shared_at t v + granted_at grants t v) (λ t. granting_at t v) MAX_TASKS in let b = over-both (λ t. shared_at t v) (λ t. granted_at grants t v) MAX_TASKS in
      let c = named-over v.task (shared_of v) MAX_TASKS (small id v at) (λ e. let s = ok.single in let h = (held-most v.held).1 in let z : number_of v ≡ 0 = ap number_weight e in omega (arith, s, h, z)) (shared-most v.held) in
      let d = named-over v.task (granted_of grants v) MAX_TASKS (small id v at) (λ e. ap (λ (x : Option ℕ). granted_weight grants x v.sem.wait) e) (granted-most v.task v.sem.wait) in
      let e = granting-over v.sem.stage v.sem.rest (here-over v.sem.rest MAX_TASKS (rest-small v id at)) in omega arith
    where
      zero-most : (x : ℕ) → is_zero x ≤ 1
      zero-most zero = omega arith
      zero-most (suc x) = omega arith

      granted-most : (task : Option ℕ) (wait : Wait) → granted_weight grants task wait ≤ 1
      granted-most None wait = omega arith
      granted-most (Some t) Apart = omega arith
      granted-most (Some t) Writes = omega arith
      granted-most (Some t) Reads = zero-most (get_or grants t 0)

      none-over : over (λ t. 0) MAX_TASKS ≡ 0
      none-over = over-zero (λ t. 0) MAX_TASKS (λ t l. refl)

      granting-over : (s : Stage) (ts : List ℕ) → over (λ t. here t ts) MAX_TASKS ≡ length ts → over (λ t. granting_weight s (here t ts)) MAX_TASKS ≡ granting_weight s (length ts)
      granting-over Rest ts e = none-over
      granting-over Armed ts e = none-over
      granting-over (Joining b) ts e = none-over
      granting-over First ts e = none-over
      granting-over Marking ts e = none-over
      granting-over Took ts e = none-over
      granting-over Removed ts e = none-over
      granting-over Emptied ts e = none-over
      granting-over (Overdue b) ts e = none-over
      granting-over (Marked b) ts e = none-over
      granting-over Removing ts e = none-over
      granting-over Summing ts e = none-over
      granting-over (Counted b) ts e = none-over
      granting-over Granting ts e = e

  pub readers-are : over (λ t. total (reads_as grants t) vs) MAX_TASKS ≡ total shared_of vs + total (granted_of grants) vs + total granting_of vs
  readers-are = exchange (reads_as grants) vs MAX_TASKS ∙ all vs (λ j v at. one-view v j at)
    where
      all : (xs : List SemPart) → Each (λ (v : SemPart). over (λ t. reads_as grants t v) MAX_TASKS ≡ shared_of v + granted_of grants v + granting_of v) xs → total (λ (v : SemPart). over (λ t. reads_as grants t v) MAX_TASKS) xs ≡ total shared_of xs + total (granted_of grants) xs + total granting_of xs
      all [] e = refl
      all (v ∷ xs) e = let a = e zero v refl in let b = all xs (λ j w at. e (suc j) w at) in omega (arith, a, b)

  pub readers-once : (t : ℕ) → t < MAX_TASKS → total (reads_as grants t) vs ≤ 1
  readers-once t l = let a = r.reads t in let b = named t l in let c = sums vs r.each in omega arith
    where
      part-of : (task : Option ℕ) (s w : ℕ) → s + w ≤ number_weight task → named_weight t task s + named_weight t task w ≤ is_number t task
      part-of task zero zero l = omega arith
      part-of task zero (suc w) l = omega arith
      part-of task (suc s) zero l = omega arith
      part-of None (suc s) (suc w) l = absurd (omega arith)
      part-of (Some u) (suc s) (suc w) l = absurd (omega arith)

      least : (s : Stage) (x : ℕ) → granting_weight s x ≤ x
      least Rest x = omega arith
      least Armed x = omega arith
      least (Joining b) x = omega arith
      least First x = omega arith
      least Marking x = omega arith
      least Took x = omega arith
      least Removed x = omega arith
      least Emptied x = omega arith
      least (Overdue b) x = omega arith
      least (Marked b) x = omega arith
      least Removing x = omega arith
      least Summing x = omega arith
      least (Counted b) x = omega arith
      least Granting x = omega arith

      sums : (xs : List SemPart) → Each SemPartOk xs → total (reads_as grants t) xs + total (reads_at t) xs ≤ total (λ (v : SemPart). is_number t v.task) xs + total (granted_at grants t) xs + total (rest_at t) xs
      sums [] e = omega arith
      sums (v ∷ xs) e = let a = sums xs (λ j w at. e (suc j) w at) in let h = (held-most v.held).1 in let o = (e zero v refl).single in let b = part-of v.task (shared_of v) (reads_of v) (omega (arith, h, o)) in let c = least v.sem.stage (here t v.sem.rest) in omega arith
