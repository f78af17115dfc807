-- Which steps keep to a handoff.
use Rattle.std.proofs.Common.{◌≡◌, ◌≢◌, ℕ, ◌+◌, ◌/◌, ◌%◌, ◌<◌, ◌≤◌, ◌⊎◌, inl, inr, Bool, List, [], ◌∷◌, length, get_or, set, Some, sym, refl, ap, ◌∙◌, subst, arith, get_or-set_other, get_or-set_same}
use mathlib.Core.Option.{some, some-injective}
use mathlib.Core.Logic.{dite}
use native.Mathlib.Decide.{ℕ_discrete}
use lib.ListN.{get_elem?}
use Rattle.lock_core.specs.Totals.{total, total-set, total-same, total-at}
use Rattle.wait_list.specs.Lists.{first_code}
use Rattle.rwsem_count.specs.Counts.{shared_weight}
use Rattle.rwsem_wake.specs.SemParts.{SemPart, named_weight, granting_weight, is_zero, granted_at, reads_at, rest_at, here, first_mark, IsWhole, tasks, busy_of}
use Rattle.rwsem_wake.specs.GrantSemaphores.{IsFirst, FlagsAt, SemKept}
use Rattle.rwsem_wake.proofs.Sums.{mine-of, set-mine}
use Rattle.rwsem_wake.proofs.Places.{first-least, granted-all, grant-here, grant-else, here-mine, here-else}
use Rattle.rwsem_wake.proofs.WakeLaws.{batched, biased, holding}
use Rattle.rwsem_wake.proofs.QueueLaws.{granted-at-w}
use Rattle.rwsem_wake.specs.Handoffs.{shared_at, granting_at, reads_as, BatchGoes, ComesToMark, ComesToRead, EndsReading, GrantsNext, KeepsHandoff, MarksNext, MayMark, MayRead, MaySetHandoff, MayUnmark, OfPass, KeepsFound, Unasked}
use Rattle.rwsem_wake.specs.Types.{Held, No, Shared, Waiter, Bias, Clear, Apart, Reads, Stage, Marking, Counted, Granting}

-- flag and marks stay
pub unasked-same : (n : ℕ) (marks : List ℕ) → Unasked n marks n marks
unasked-same n marks = (omega arith, λ t. omega arith)

-- no mark comes where one is cleared
cleared-least : (marks : List ℕ) (t : ℕ) → t < length marks → (s : ℕ) → get_or (set marks t 0) s 0 ≤ get_or marks s 0
cleared-least marks t inside s = dite (ℕ_discrete s t)
    (λ is. let e : get_or (set marks t 0) s 0 ≡ 0 = ap (λ (z : ℕ). get_or (set marks t 0) z 0) is ∙ get_or-set_same marks t 0 0 inside in omega (arith, e))
    (λ not. let e = get_or-set_other marks t s 0 0 not in omega (arith, e))

-- and none goes where one is set
pub marks-stay : (marks : List ℕ) (t : ℕ) → t < length marks → (s : ℕ) → 0 < get_or marks s 0 → 0 < get_or (set marks t 1) s 0
marks-stay marks t inside s more = dite (ℕ_discrete s t)
    (λ is. let e : get_or (set marks t 1) s 0 ≡ 1 = ap (λ (z : ℕ). get_or (set marks t 1) z 0) is ∙ get_or-set_same marks t 1 0 inside in omega (arith, e))
    (λ not. let e = get_or-set_other marks t s 1 0 not in omega (arith, e, more))

-- the mark that is set is the first waiter's
pub first-marked : (marks : List ℕ) (q : List Waiter) (t : ℕ) → first_code q ≡ t + 1 → (s : ℕ) → get_or marks s 0 ≡ 0 → 0 < get_or (set marks t 1) s 0 → first_code q ≡ s + 1
first-marked marks q t code s none more = dite (ℕ_discrete s t) (λ is. omega (arith, is, code)) (λ not. let e = get_or-set_other marks t s 1 0 not in absurd (omega (arith, e, none, more)))

-- 1 for a writer that is to mark the first waiter
abbrev pub marking : Stage → ℕ
marking Marking = 1
marking _ = 0

pub is-marking : (s : Stage) → 0 < marking s → s ≡ Marking
is-marking Marking more = refl
is-marking _ more = absurd (omega (arith, more))

-- what a step that clears no grant word makes of its pass: its task reads on, or its shared hold ends. Its batch goes on, and so it does as the one that is to mark, which it comes to be by setting HANDOFF. A bias that it adds keeps the count that was there.
pub record PassGoes (n n' : ℕ) (q : List Waiter) (marks' grants : List ℕ) (v u : SemPart) : Type 0 where
  pub ends : (t : ℕ) → reads_as grants t u < reads_as grants t v → (v.task ≡ Some t) × (v.held ≡ Shared)
  pub batch : BatchGoes q grants v u
  pub next : MarksNext q marks' v u
  pub to_mark : ComesToMark n n' v u
  pub found : KeepsFound n v u

-- nothing becomes of it
pub pass-same : {n n' : ℕ} (q : List Waiter) (marks' grants : List ℕ) (v : SemPart) → PassGoes n n' q marks' grants v v
pass-same {n} {n'} q marks' grants v = record { ends = λ t less. absurd (omega (arith, less)); batch = inl refl; next = λ e. inl e; to_mark = λ e. inl e; found = inl refl }

-- it was at a stage at which no batch of its is in the count, and it isn't to mark, before or behind the step
pub pass-from : {n n' : ℕ} (q : List Waiter) (marks' grants : List ℕ) (v u : SemPart) (from : Stage) → v.sem.stage ≡ from → ((m : ℕ) → granting_weight from m ≡ 0) → marking from ≡ 0 → BatchGoes q grants v u
    → ((t : ℕ) → shared_at t v + granted_at grants t v ≤ shared_at t u + granted_at grants t u) → marking u.sem.stage ≡ 0 → KeepsFound n v u → PassGoes n n' q marks' grants v u
pass-from {n} {n'} q marks' grants v u from is none out batch reads later word = record {
  ends = λ t less. let g : granting_at t v ≡ 0 = ap (λ (z : Stage). granting_weight z (here t v.sem.rest)) is ∙ none (here t v.sem.rest) in let k = reads t in absurd (omega (arith, less, g, k));
  batch = batch;
  next = λ e. let a = ap marking e in let b = ap marking is in absurd (omega (arith, a, b, out));
  to_mark = λ e. let a = ap marking e in absurd (omega (arith, a, later));
  found = word;
}

-- so it was, and only its bias and stage change
pub pass-turns : {n n' : ℕ} (q : List Waiter) (marks' grants : List ℕ) (v : SemPart) (b : Bias) (from to : Stage) → v.sem.stage ≡ from → ((m : ℕ) → granting_weight from m ≡ 0) → marking from ≡ 0 → marking to ≡ 0 → KeepsFound n v (biased v b to) → PassGoes n n' q marks' grants v (biased v b to)
pass-turns {n} {n'} q marks' grants v b from to is none out later word = pass-from q marks' grants v (biased v b to) from is none out (inl refl) (λ t. omega arith) later word

module _ (id n : ℕ) (q : List Waiter) (marks grants : List ℕ) (vs : List SemPart) where
  -- nobody sets the writer bit, and the same tasks read
  pub hands-still : (n' : ℕ) (marks' grants' : List ℕ) (us : List SemPart) → n' % 2 ≤ n % 2 → ((t : ℕ) → total (reads_as grants' t) us ≡ total (reads_as grants t) vs) → Unasked n marks n' marks' → GrantsNext id grants vs grants' us → OfPass id vs us (BatchGoes q grants') → OfPass id vs us (MarksNext q marks')
      → OfPass id vs us (ComesToMark n n') → OfPass id vs us (KeepsFound n) → KeepsHandoff id n q marks grants vs n' marks' grants' us
  hands-still n' marks' grants' us low same un granted batch next to_mark found = record {
    writer = λ h m a b. absurd (omega (arith, a, b, low));
    reader = λ h m t z l. let x = same t in absurd (omega (arith, x, z, l));
    takes = λ a b. absurd (omega (arith, a, b, low));
    lone = λ a b. absurd (omega (arith, a, b, low));
    comes = λ t z l. let x = same t in absurd (omega (arith, x, z, l));
    ends = λ t l z. let x = same t in absurd (omega (arith, x, z, l));
    asks = λ z o. let x = un.0 in absurd (omega (arith, x, z, o));
    stays = λ h. let x = un.0 in inl (x ∙ h);
    marked = λ t z l. let x = un.1 t in absurd (omega (arith, x, z, l));
    unmarks = λ t more none. let x = un.1 t in absurd (omega (arith, x, more, none));
    marks_next = next;
    to_mark = to_mark;
    found = found;
    granted = granted;
    batch = batch;
  }

  -- nothing changes
  pub hands-none : KeepsHandoff id n q marks grants vs n marks grants vs
  hands-none = hands-still n marks grants vs (omega arith) (λ t. refl) (unasked-same n marks) (λ t more none. absurd (omega (arith, more, none)))
      (λ v u at at'. inl (ap (λ (x : SemPart). x.sem.rest) (some-injective u v (sym at' ∙ at)))) (λ v u at at' e. inl (ap (λ (x : SemPart). x.sem.stage) (some-injective u v (sym at' ∙ at)) ∙ e))
      (λ v u at at' e. inl (ap (λ (x : SemPart). x.sem.stage) (some-injective v u (sym at ∙ at')) ∙ e)) (λ v u at at'. inl (ap (λ (x : SemPart). x.sem.bias) (some-injective u v (sym at' ∙ at))))

  module _ (v u : SemPart) (at : get_elem? vs id ≡ some v) where
    -- what is so of the two parts of the pass
    pub of-pass : (P : SemPart → SemPart → Type 0) → P v u → OfPass id vs (set vs id u) P
    of-pass P is x y here_is there_is = subst (λ (z : SemPart × SemPart). P z.0 z.1) (λ i. (some-injective v x (sym at ∙ here_is) i, some-injective u y (sym (set-mine vs id v u at) ∙ there_is) i)) is

    ends-by : {n' : ℕ} {marks' : List ℕ} → PassGoes n n' q marks' grants v u → EndsReading id grants vs grants (set vs id u)
    ends-by {n'} {marks'} goes t more none = let a = total-set (reads_as grants t) vs id v u at in let e = goes.ends t (omega (arith, a, more, none)) in (v, at, e.0, e.1)

    grants-none : GrantsNext id grants vs grants (set vs id u)
    grants-none t more none = absurd (omega (arith, more, none))

    batch-by : {n' : ℕ} {marks' : List ℕ} → PassGoes n n' q marks' grants v u → OfPass id vs (set vs id u) (BatchGoes q grants)
    batch-by {n'} {marks'} goes = of-pass (BatchGoes q grants) goes.batch

    next-by : {n' : ℕ} {marks' : List ℕ} → PassGoes n n' q marks' grants v u → OfPass id vs (set vs id u) (MarksNext q marks')
    next-by {n'} {marks'} goes = of-pass (MarksNext q marks') goes.next

    mark-by : {n' : ℕ} {marks' : List ℕ} → PassGoes n n' q marks' grants v u → OfPass id vs (set vs id u) (ComesToMark n n')
    mark-by {n'} {marks'} goes = of-pass (ComesToMark n n') goes.to_mark

    found-by : {n' : ℕ} {marks' : List ℕ} → PassGoes n n' q marks' grants v u → OfPass id vs (set vs id u) (KeepsFound n)
    found-by {n'} {marks'} goes = of-pass (KeepsFound n) goes.found

    -- no handoff, or nobody is marked
    pub hands-free : (n' : ℕ) → (n / 4 % 2 ≡ 0) ⊎ ((first_mark marks (tasks q) ≡ 0) × (n' % 2 ≤ n % 2)) → (n % 2 ≡ 0 → n' % 2 ≡ 1 → n / 256 ≡ 0) → Unasked n marks n' marks → ComesToRead id q grants vs grants (set vs id u) → PassGoes n n' q marks grants v u → KeepsHandoff id n q marks grants vs n' marks grants (set vs id u)
    hands-free n' none lone un comes goes = record {
      lone = lone;
      comes = comes;
      ends = ends-by goes;
      asks = λ z o. let x = un.0 in absurd (omega (arith, x, z, o));
      stays = λ h. let x = un.0 in inl (x ∙ h);
      marked = λ t z l. absurd (omega (arith, z, l));
      unmarks = λ t more gone. absurd (omega (arith, more, gone));
      writer = λ h m _ _. absurd (elim none [ inl z ↦ omega (arith, z, h) | inr z ↦ (let x = z.0 in omega (arith, x, m)) ]);
      takes = λ a b. elim none [ inl z ↦ un.0 ∙ z | inr z ↦ (let low = z.1 in absurd (omega (arith, a, b, low))) ];
      reader = λ h m _ _ _. absurd (elim none [ inl z ↦ omega (arith, z, h) | inr z ↦ (let x = z.0 in omega (arith, x, m)) ]);
      marks_next = next-by goes;
      to_mark = mark-by goes;
      found = found-by goes;
      granted = grants-none;
      batch = batch-by goes;
    }

    -- a step of one view, which doesn't become a reader
    pub hands-step : (n' : ℕ) (marks' : List ℕ) → n' % 2 ≤ n % 2 → ((t : ℕ) → reads_as grants t u ≤ reads_as grants t v) → Unasked n marks n' marks' → PassGoes n n' q marks' grants v u → KeepsHandoff id n q marks grants vs n' marks' grants (set vs id u)
    hands-step n' marks' low less un goes = record {
      writer = λ h m a b. absurd (omega (arith, a, b, low));
      takes = λ a b. absurd (omega (arith, a, b, low));
      lone = λ a b. absurd (omega (arith, a, b, low));
      reader = λ h m t z l. let a = total-set (reads_as grants t) vs id v u at in let b = less t in absurd (omega arith);
      comes = λ t z l. let a = total-set (reads_as grants t) vs id v u at in let b = less t in absurd (omega arith);
      ends = ends-by goes;
      asks = λ z o. let x = un.0 in absurd (omega (arith, x, z, o));
      stays = λ h. let x = un.0 in inl (x ∙ h);
      marked = λ t z l. let x = un.1 t in absurd (omega (arith, x, z, l));
      unmarks = λ t more none. let x = un.1 t in absurd (omega (arith, x, more, none));
      marks_next = next-by goes;
      to_mark = mark-by goes;
      found = found-by goes;
      granted = grants-none;
      batch = batch-by goes;
    }

    -- the same of one that clears a mark
    pub hands-unmarks : (t : ℕ) → MayUnmark v t → t < length marks → ((s : ℕ) → reads_as grants s u ≤ reads_as grants s v) → PassGoes n n q (set marks t 0) grants v u → KeepsHandoff id n q marks grants vs n (set marks t 0) grants (set vs id u)
    hands-unmarks t may inside less goes = record {
      writer = λ h m a b. absurd (omega (arith, a, b));
      takes = λ a b. absurd (omega (arith, a, b));
      lone = λ a b. absurd (omega (arith, a, b));
      reader = λ h m s z l. let a = total-set (reads_as grants s) vs id v u at in let b = less s in absurd (omega arith);
      comes = λ s z l. let a = total-set (reads_as grants s) vs id v u at in let b = less s in absurd (omega arith);
      ends = ends-by goes;
      asks = λ z o. absurd (omega (arith, z, o));
      stays = λ h. inl h;
      marked = λ s z l. let x = cleared-least marks t inside s in absurd (omega (arith, x, z, l));
      unmarks = λ s more none. dite (ℕ_discrete s t) (λ is. (v, at, subst (MayUnmark v) (sym is) may)) (λ not. let e = get_or-set_other marks t s 0 0 not in absurd (omega (arith, e, more, none)));
      marks_next = next-by goes;
      to_mark = mark-by goes;
      found = found-by goes;
      granted = grants-none;
      batch = batch-by goes;
    }

    -- the same of one that asks for a handoff, or marks the first waiter
    pub hands-asks : (n' : ℕ) (marks' : List ℕ) → n' % 2 ≤ n % 2 → ((t : ℕ) → reads_as grants t u ≤ reads_as grants t v) → (n / 4 % 2 ≡ 0 → n' / 4 % 2 ≡ 1 → MaySetHandoff q marks v u) → (n / 4 % 2 ≡ 1 → n' / 4 % 2 ≡ 1) → ((t : ℕ) → get_or marks t 0 ≡ 0 → 0 < get_or marks' t 0 → (first_code q ≡ t + 1) × MayMark n v) → ((t : ℕ) → 0 < get_or marks t 0 → 0 < get_or marks' t 0) → PassGoes n n' q marks' grants v u → KeepsHandoff id n q marks grants vs n' marks' grants (set vs id u)
    hands-asks n' marks' low less sets still marks_it stay goes = record {
      writer = λ h m a b. absurd (omega (arith, a, b, low));
      takes = λ a b. absurd (omega (arith, a, b, low));
      lone = λ a b. absurd (omega (arith, a, b, low));
      reader = λ h m t z l. let a = total-set (reads_as grants t) vs id v u at in let b = less t in absurd (omega arith);
      comes = λ t z l. let a = total-set (reads_as grants t) vs id v u at in let b = less t in absurd (omega arith);
      ends = ends-by goes;
      asks = λ z o. (v, u, at, set-mine vs id v u at, sets z o);
      stays = λ h. inl (still h);
      marked = λ t z l. let m = marks_it t z l in (m.0, (v, at, m.1));
      unmarks = λ t more none. let x = stay t more in absurd (omega (arith, x, none));
      marks_next = next-by goes;
      to_mark = mark-by goes;
      found = found-by goes;
      granted = grants-none;
      batch = batch-by goes;
    }

    -- the same of one that clears the flags where nobody waits
    pub hands-empties : (n' : ℕ) → n' % 2 ≤ n % 2 → ((t : ℕ) → reads_as grants t u ≤ reads_as grants t v) → n' / 4 % 2 ≤ n / 4 % 2 → length q ≡ 0 → PassGoes n n' q marks grants v u → KeepsHandoff id n q marks grants vs n' marks grants (set vs id u)
    hands-empties n' low less answered none goes = record {
      writer = λ h m a b. absurd (omega (arith, a, b, low));
      takes = λ a b. absurd (omega (arith, a, b, low));
      lone = λ a b. absurd (omega (arith, a, b, low));
      reader = λ h m t z l. let a = total-set (reads_as grants t) vs id v u at in let b = less t in absurd (omega arith);
      comes = λ t z l. let a = total-set (reads_as grants t) vs id v u at in let b = less t in absurd (omega arith);
      ends = ends-by goes;
      asks = λ z o. absurd (omega (arith, answered, z, o));
      stays = λ h. inr (inr (inr none));
      marked = λ t z l. absurd (omega (arith, z, l));
      unmarks = λ t more gone. absurd (omega (arith, more, gone));
      marks_next = next-by goes;
      to_mark = mark-by goes;
      found = found-by goes;
      granted = grants-none;
      batch = batch-by goes;
    }

    -- its own task alone becomes one
    pub own-comes : (own : ℕ) → v.task ≡ Some own → v.sem.rest ≡ [] → ((t : ℕ) → t ≢ own → reads_as grants t u ≤ reads_as grants t v) → ComesToRead id q grants vs grants (set vs id u)
    own-comes own has none less t z l = dite (ℕ_discrete t own) (λ is. (v, at, inl ((has ∙ ap (λ (x : ℕ). Some x) (sym is)), none))) (λ not. let a = total-set (reads_as grants t) vs id v u at in let b = less t not in absurd (omega arith))

    -- its batch alone does
    pub batch-comes : ((t : ℕ) → reads_as grants t u ≤ shared_at t v + granted_at grants t v + here t v.sem.rest) → IsWhole v.sem.rest q → ComesToRead id q grants vs grants (set vs id u)
    batch-comes is whole t z l = let a = total-set (reads_as grants t) vs id v u at in let b = is t in elim (native.Mathlib.Decide.dec_le 1 (here t v.sem.rest)) [ yes there ↦ (v, at, inr (there, whole)) | no out ↦ absurd (omega arith) ]

    -- or which may become one
    pub hands-reads : (n' own : ℕ) → n' % 2 ≤ n % 2 → v.task ≡ Some own → v.sem.rest ≡ [] → MayRead v → ((t : ℕ) → t ≢ own → reads_as grants t u ≤ reads_as grants t v) → Unasked n marks n' marks → PassGoes n n' q marks grants v u → KeepsHandoff id n q marks grants vs n' marks grants (set vs id u)
    hands-reads n' own low has none may less un goes = record {
      asks = λ z o. let x = un.0 in absurd (omega (arith, x, z, o));
      stays = λ h. let x = un.0 in inl (x ∙ h);
      marked = λ t z l. absurd (omega (arith, z, l));
      unmarks = λ t more gone. absurd (omega (arith, more, gone));
      writer = λ h m a b. absurd (omega (arith, a, b, low));
      takes = λ a b. absurd (omega (arith, a, b, low));
      lone = λ a b. absurd (omega (arith, a, b, low));
      reader = λ h m t z l. dite (ℕ_discrete t own) (λ is. (v, at, (has ∙ ap (λ (x : ℕ). Some x) (sym is)), may)) (λ not. let a = total-set (reads_as grants t) vs id v u at in let b = less t not in absurd (omega arith));
      comes = own-comes own has none less;
      ends = ends-by goes;
      marks_next = next-by goes;
      to_mark = mark-by goes;
      found = found-by goes;
      granted = grants-none;
      batch = batch-by goes;
    }

    -- a queued writer takes
    pub hands-takes : (n' : ℕ) → IsFirst v.task q ⊎ (first_mark marks (tasks q) ≡ 0) → ((t : ℕ) → reads_as grants t u ≤ reads_as grants t v) → n' / 4 % 2 ≡ 0 → n / 256 ≡ 0 → n % 2 ≡ 0 → n' % 2 ≡ 1 → PassGoes n n' q marks grants v u → KeepsHandoff id n q marks grants vs n' marks grants (set vs id u)
    hands-takes n' may less unasked nobody free writes goes = record {
      lone = λ _ _. nobody;
      asks = λ z o. absurd (omega (arith, unasked, o));
      stays = λ h. inr (inl (free, writes));
      marked = λ t z l. absurd (omega (arith, z, l));
      unmarks = λ t more gone. absurd (omega (arith, more, gone));
      takes = λ _ _. unasked;
      writer = λ h m a b. elim may [ inl first ↦ (v, at, first) | inr z ↦ absurd (omega (arith, z, m)) ];
      reader = λ h m t z l. let a = total-set (reads_as grants t) vs id v u at in let b = less t in absurd (omega arith);
      comes = λ t z l. let a = total-set (reads_as grants t) vs id v u at in let b = less t in absurd (omega arith);
      ends = ends-by goes;
      marks_next = next-by goes;
      to_mark = mark-by goes;
      found = found-by goes;
      granted = grants-none;
      batch = batch-by goes;
    }

-- the batch's sum: nobody is marked then
pub hands-sums : (id n n' : ℕ) (q : List Waiter) (marks grants : List ℕ) (vs : List SemPart) (v : SemPart) (b : Bool) → SemKept n q marks grants vs → (at : get_elem? vs id ≡ some v) → total busy_of vs ≡ busy_of v → v.sem.stage ≡ Counted b → 0 < length v.sem.rest → n' / 4 % 2 ≤ n / 4 % 2 → n' % 2 ≤ n % 2
    → KeepsHandoff id n q marks grants vs n' marks grants (set vs id (biased v Clear Granting))
hands-sums id n n' q marks grants vs v b r at only stage more answered low = let f : FlagsAt (Counted b) v.task v.sem.rest (n / 2 % 2) (n / 4 % 2) q marks grants = subst (λ (z : Stage). FlagsAt z v.task v.sem.rest (n / 2 % 2) (n / 4 % 2) q marks grants) stage (mine-of (n / 2 % 2) (n / 4 % 2) q marks grants vs id v at only r.flags) in
    let z = f.1 in let l = first-least marks (tasks q) in let u : SemPart = biased v Clear Granting in let goes : PassGoes n n' q marks grants v u = pass-turns q marks grants v Clear (Counted b) Granting stage (λ m. refl) refl refl (inr (inl refl)) in
    let other : v.sem.stage ≢ Granting = λ e. let w : granting_weight (Counted b) 1 ≡ 1 = ap (λ (s : Stage). granting_weight s 1) (sym stage ∙ e) in absurd (omega (arith, w)) in record {
      comes = batch-comes id n q marks grants vs v u at (λ t. omega arith) f.3;
      ends = ends-by id n q marks grants vs v u at goes;
      writer = λ h m _ _. absurd (omega (arith, z, l, m));
      takes = λ a c. absurd (omega (arith, a, c, low));
      lone = λ a c. absurd (omega (arith, a, c, low));
      reader = λ h m _ _ _. absurd (omega (arith, z, l, m));
      asks = λ none o. absurd (omega (arith, answered, none, o));
      stays = λ h. inr (inr (inl (v, u, at, set-mine vs id v u at, (more, other, refl))));
      marked = λ t none more. absurd (omega (arith, none, more));
      unmarks = λ t more gone. absurd (omega (arith, more, gone));
      marks_next = next-by id n q marks grants vs v u at goes;
      to_mark = mark-by id n q marks grants vs v u at goes;
      found = found-by id n q marks grants vs v u at goes;
      granted = grants-none id n q marks grants vs v u at;
      batch = batch-by id n q marks grants vs v u at goes;
    }

-- the readers by each of the three
pub reads-apart : (gs : List ℕ) (t : ℕ) (vs : List SemPart) → total (reads_as gs t) vs ≡ total (shared_at t) vs + total (granted_at gs t) vs + total (granting_at t) vs
reads-apart gs t [] = omega arith
reads-apart gs t (v ∷ vs) = let e = reads-apart gs t vs in omega arith

-- a grant word is cleared: the same tasks are readers
pub hands-grants : (id n t : ℕ) (ts : List ℕ) (s : Stage) (q : List Waiter) (marks grants : List ℕ) (vs : List SemPart) (v : SemPart) → SemKept n q marks grants vs → get_elem? vs id ≡ some v → v.sem.stage ≡ Granting → v.sem.rest ≡ t ∷ ts → ((x : ℕ) → granting_weight s (here x ts) ≡ here x ts) → marking s ≡ 0 → total (reads_at t) vs ≤ 1 → t < length grants
    → KeepsHandoff id n q marks grants vs n marks (set grants t 0) (set vs id (batched v ts s))
hands-grants id n t ts s q marks grants vs v r at stage rest whole out one inside = hands-still id n q marks grants vs n marks grants' (set vs id u) (omega arith) (λ x. dite (ℕ_discrete x t) (λ is. subst SameReads (sym is) next-reads) (others x)) (unasked-same n marks)
    (λ x more none. dite (ℕ_discrete x t)
    (λ is. (v, u, at, set-mine vs id v u at, stage, rest ∙ ap (λ (z : ℕ). z ∷ ts) (sym is)))
    (λ not. let e = get_or-set_other grants t x 0 0 not in absurd (omega (arith, e, none, more))))
    (of-pass id n q marks grants vs v u at (BatchGoes q grants') (inr (inl (t, stage, rest, get_or-set_same grants t 0 0 inside))))
    (of-pass id n q marks grants vs v u at (MarksNext q marks) (λ e. let m = ap marking (sym stage ∙ e) in absurd (omega (arith, m))))
    (of-pass id n q marks grants vs v u at (ComesToMark n n) (λ e. let m = ap marking e in absurd (omega (arith, m, out))))
    (of-pass id n q marks grants vs v u at (KeepsFound n) (inl refl))
  where
    u : SemPart
    u = batched v ts s

    grants' : List ℕ
    grants' = set grants t 0

    SameReads : ℕ → Type 0
    SameReads x = total (reads_as grants' x) (set vs id u) ≡ total (reads_as grants x) vs

    here-all : (x : ℕ) → granting_at x v ≡ here x (t ∷ ts)
    here-all x = λ i. granting_weight (stage i) (here x (rest i))

    waited : (1 ≤ total (reads_at t) vs) × (1 ≤ get_or grants t 0)
    waited = let mine : rest_at t v ≡ here t ts + 1 = ap (here t) rest ∙ here-mine t ts in let R = total-at (rest_at t) vs id v at in let a = r.reads t in let G = granted-all grants t vs in let l : 1 ≤ total (reads_at t) vs = omega (arith, mine, R, a) in
        (l, elim (native.Mathlib.Decide.dec_le 1 (get_or grants t 0)) [ yes l ↦ l | no l ↦ let z = G.0 (omega (arith, l)) in absurd (omega (arith, z, a, R, mine, one)) ])

    -- this one moves from the batch to the granted
    next-reads : SameReads t
    next-reads = let A = reads-apart grants t vs in let B = reads-apart grants' t (set vs id u) in let S = total-same (shared_at t) vs id v u at refl in let D = total-same (granted_at grants' t) vs id v u at refl in let E = total-set (granting_at t) vs id v u at in
        let e = here-all t in let w = whole t in let h = grant-here grants t inside waited.1 vs in let k = here-mine t ts in let z = (granted-all grants t vs).1 waited.1 in let l = waited.0 in omega (arith, A, B, S, D, E, e, w, h, k, z, l, one)

    others : (x : ℕ) → x ≢ t → SameReads x
    others x not = let A = reads-apart grants x vs in let B = reads-apart grants' x (set vs id u) in let S = total-same (shared_at x) vs id v u at refl in let D = total-same (granted_at grants' x) vs id v u at refl in let E = total-set (granting_at x) vs id v u at in
        let e = here-all x in let w = whole x in let h = grant-else grants t inside waited.1 x not vs in let k = here-else t x ts not in omega (arith, A, B, S, D, E, e, w, h, k)

-- a queued reader that finds its grant word 0 was a reader
pub hands-granted : (id n own : ℕ) (q : List Waiter) (marks grants : List ℕ) (vs : List SemPart) (v : SemPart) → get_elem? vs id ≡ some v → v.task ≡ Some own → v.sem.wait ≡ Reads → v.held ≡ No → get_or grants own 0 ≡ 0
    → KeepsHandoff id n q marks grants vs n marks grants (set vs id (holding v Shared (record v.sem { wait = Apart })))
hands-granted id n own q marks grants vs v at has wait out zero_it = hands-step id n q marks grants vs v u at n marks (omega arith) (λ t. let e = same t in omega (arith, e)) (unasked-same n marks) record { ends = λ t less. let e = same t in absurd (omega (arith, e, less)); batch = inl refl; next = λ e. inl e; to_mark = λ e. inl e; found = inl refl }
  where
    u : SemPart
    u = holding v Shared (record v.sem { wait = Apart })

    same : (t : ℕ) → reads_as grants t u ≡ reads_as grants t v
    same t = let a : granted_at grants t v ≡ named_weight t (Some own) 1 = granted-at-w v own has Reads wait grants t ∙ ap (λ (z : ℕ). named_weight t (Some own) (is_zero z)) zero_it in let b = granted-at-w u own has Apart refl grants t in
        let c : shared_at t u ≡ named_weight t (Some own) 1 = λ i. named_weight t (has i) 1 in let d : shared_at t v ≡ 0 = ap (λ (h : Held). named_weight t v.task (shared_weight h)) out in omega (arith, a, b, c, d)
