-- What each change of the list makes of the facts of a semaphore.
use Rattle.std.proofs.Common.{◌≡◌, ◌≢◌, ℕ, ◌+◌, ◌*◌, ◌/◌, ◌%◌, ◌≤◌, ◌==◌, ◌⊎◌, inl, inr, Bool, true, false, List, [], ◌∷◌, ◌++◌, length, get_or, set, Some, sym, refl, ap, ◌∙◌, subst, arith, eq-eqb}
use Rattle.std.proofs.Common.{ne_eqb, if◌then◌else◌, ⊎_elim}
use mathlib.Core.Option.{some}
use mathlib.Core.Logic.{dite}
use native.Mathlib.Decide.{ℕ_discrete}
use lib.ListN.{get_elem?}
use Rattle.rwsem_slow.specs.Types.{No, Waiter, Bias, Clear, SemHand, Apart, Reads, Writes, Stage, Rest, Armed, Joining, First, Took, Removed, Emptied, Overdue, Removing, Summing}
use Rattle.lock_core.specs.Records.{bit}
use Rattle.lock_core.specs.Totals.{total, total-at}
use Rattle.lock_core.proofs.HandLaws.{is_number-here}
use Rattle.wait_list.specs.Lists.{counted, first_code, without}
use Rattle.rwsem_count.specs.Counts.{early_weight, late_weight}
use Rattle.rwsem_wake.specs.SemParts.{SemPart, busy_of, named_weight, reads_at, writes_at, granted_at, granting_of, granting_weight, here, reader_at, writer_at, reader_bit, reserve_weight, reserve_of}
use Rattle.rwsem_wake.specs.SemParts.{early_of, late_of, some_of, marks_sum, first_mark, tasks}
use Rattle.rwsem_wake.specs.GrantSemaphores.{FlagsAt, Quiet, SemKept, batch_weight, load_of}
use Rattle.rwsem_wake.specs.Handoffs.{KeepsHandoff, granting_at}
use Rattle.rwsem_wake.specs.GrantsStated.{IsFirstReader, Picks, Without}
use Rattle.rwsem_wake.proofs.Sums.{busy-most}
use Rattle.rwsem_wake.proofs.Places.{first-least, granted-all, not-zero, some-length, total-without}
use Rattle.rwsem_wake.proofs.WakeLaws.{batched, held-most, single-of}
use Rattle.rwsem_wake.proofs.QueueLaws.{a_writer, reader, granted-at-w, mine-at, reads-at-w, sem-joins, writes-at-w}
use Rattle.rwsem_wake.proofs.HandoffLaws.{sem-drops-reader, sem-drops-writer, sem-enters, sem-picks, took-left}
use Rattle.rwsem_wake.proofs.HandoffSteps.{PassGoes, hands-step, marking, pass-from, unasked-same}
use Rattle.rwsem_wake.proofs.FirstReaders.{counted-is, picks-is}
use Rattle.rwsem_wake.proofs.Readers.{without-is}
use Rattle.rwsem_wake.specs.RwSemViews.{gone, picked}

-- a list with one more is longer than 1 exactly where it wasn't empty
pub alone-long : (q : List Waiter) (x : Waiter) → bit (length (q ++ x ∷ []) == 1) + some_of q ≡ 1
alone-long [] x = refl
alone-long (y ∷ q) x = let e : bit (length (y ∷ (q ++ x ∷ [])) == 1) ≡ 0 = ap bit (ne_eqb (length (y ∷ (q ++ x ∷ []))) 1 (λ z. let l = long q in omega (arith, z, l))) in omega (arith, e)
  where
    long : (q : List Waiter) → 1 ≤ length (q ++ x ∷ [])
    long [] = omega arith
    long (y ∷ q) = omega arith

-- who isn't the first leaves the first where it is
not-first : (q q' : List Waiter) (w : Waiter) (s : Without q w q') → first_code q ≢ w.task + 1 → 1 ≤ length s.before
not-first q q' w s other = go s.before refl
  where
    go : (xs : List Waiter) → s.before ≡ xs → 1 ≤ length s.before
    go [] e = absurd (other (ap first_code (s.was ∙ ap (λ (z : List Waiter). z ++ w ∷ s.behind) e)))
    go (x ∷ xs) e = let l = ap length e in omega (arith, l)

quiet-behind : (w h : ℕ) (q q' : List Waiter) (marks : List ℕ) (x : Waiter) (s : Without q x q') → 1 ≤ length s.before → Quiet w h q marks → Quiet w h q' marks
quiet-behind w h q q' marks x s l f = subst (λ (z : List Waiter). Quiet w h z marks) (sym s.is) (go s.before s.behind l (subst (λ (z : List Waiter). Quiet w h z marks) s.was f))
  where
    go : (xs ys : List Waiter) → 1 ≤ length xs → Quiet w h (xs ++ x ∷ ys) marks → Quiet w h (xs ++ ys) marks
    go [] ys l f = absurd (omega (arith, l))
    go (y ∷ xs) ys l f = record { waiters = f.waiters; handoff = f.handoff; first = f.first; marked = f.marked }

-- nobody is marked
quiet-unmarked : (w h : ℕ) (q : List Waiter) (marks : List ℕ) → w ≡ some_of q → h ≤ w → marks_sum marks ≡ 0 → Quiet w h q marks
quiet-unmarked w h q marks e l z = let f = first-least marks (tasks q) in record { waiters = e; handoff = l; first = omega (arith, f, z); marked = omega (arith, z) }

module _ (vs : List SemPart) (id : ℕ) (v : SemPart) (at : get_elem? vs id ≡ some v) (n : ℕ) (q : List Waiter) (marks grants : List ℕ) (r : SemKept n q marks grants vs) (own : ℕ)
    (has : v.task ≡ Some own) (only : total busy_of vs ≡ busy_of v) where
  abbrev W : ℕ
  W = n / 2 % 2

  abbrev H : ℕ
  H = n / 4 % 2

  -- the facts hold with this list and this part of the pass, and the step keeps to a handoff
  abbrev pub Both : List Waiter → SemHand → Type 0
  Both q' s = let u : SemPart = record v { sem = s } in SemKept n q' marks grants (set vs id u) × KeepsHandoff id n q marks grants vs n marks grants (set vs id u)

  -- who isn't granted, isn't to mark, has no batch in the count before or behind the step, and keeps its bias, is a reader as before
  no-more : (from : Stage) (s : SemHand) → v.sem.stage ≡ from → ((m : ℕ) → granting_weight from m ≡ 0) → marking from ≡ 0 → marking s.stage ≡ 0 → s.bias ≡ v.sem.bias → s.rest ≡ v.sem.rest
      → ((t : ℕ) → granted_at grants t v ≡ 0) → ((t : ℕ) → granted_at grants t (record v { sem = s }) ≡ 0) → ((t : ℕ) → granting_at t (record v { sem = s }) ≡ 0)
      → KeepsHandoff id n q marks grants vs n marks grants (set vs id (record v { sem = s }))
  no-more from s is none out later kept same was granted granting = hands-step id n q marks grants vs v (record v { sem = s }) at n marks (omega arith)
      (λ t. let a = granted t in let b = granting t in omega (arith, a, b)) (unasked-same n marks)
      (pass-from q marks grants v (record v { sem = s }) from is none out (inl same) (λ t. let a = was t in omega (arith, a)) later (inl kept))

  pub enters-writer : (b : Bool) → bit b + some_of q ≡ 1 → v.sem.stage ≡ Rest → v.sem.wait ≡ Apart → Both (q ++ a_writer own ∷ []) (record v.sem { wait = Writes; stage = if b then First else Rest })
  enters-writer b empty stage wait = let s : SemHand = record v.sem { wait = Writes; stage = if b then First else Rest } in (
    sem-enters vs id v at n q marks grants r own has only b empty stage wait,
    no-more Rest s stage (λ m. refl) refl (unbound b) refl refl (λ t. granted-at-w v own has Apart wait grants t) (λ t. granted-at-w (record v { sem = s }) own has Writes refl grants t)
        (λ t. still b (here t v.sem.rest)),
  )
    where
      still : (b : Bool) (m : ℕ) → granting_weight (if b then First else Rest) m ≡ 0
      still true m = refl
      still false m = refl

      unbound : (b : Bool) → marking (if b then First else Rest) ≡ 0
      unbound true = refl
      unbound false = refl

  pub enters-reader : (b : Bool) → bit b + some_of q ≡ 1 → v.sem.stage ≡ Armed → v.sem.wait ≡ Apart → v.held ≡ No → Both (q ++ reader own ∷ []) (record v.sem { wait = Reads; stage = Joining b })
  enters-reader b empty stage wait out = let s : SemHand = record v.sem { wait = Reads; stage = Joining b } in
      let one = not-zero (get_or grants own 0) ((mine-at vs id v at n q marks grants r own has Armed only stage).1 own has) in (
        sem-joins vs id v at n q marks grants r own has b empty only stage wait out,
        no-more Armed s stage (λ m. refl) refl refl refl refl (λ t. granted-at-w v own has Apart wait grants t)
            (λ t. granted-at-w (record v { sem = s }) own has Reads refl grants t ∙ ap (named_weight t (Some own)) one) (λ t. refl),
      )

  -- the own waiter is of the kind as which the pass waits
  module _ (w : Waiter) (q' : List Waiter) (gone_is : Without q w q') (is : w.task ≡ own) where
    named_here : bit (w.task == own) ≡ 1
    named_here = ap bit (eq-eqb w.task own is)

    own-writer : total (reads_at own) vs ≡ 0 → w ≡ a_writer own
    own-writer none = let a = total-without (reader_at own) q q' w gone_is in let b = r.reads own in go w.writer refl (omega (arith, a, b, none)) named_here
      where
        go : (b : Bool) → w.writer ≡ b → reader_bit w.writer * bit (w.task == own) ≡ 0 → bit (w.task == own) ≡ 1 → w ≡ a_writer own
        go true e z one = λ i. record { task = is i; writer = e i }
        go false e z one = let f : reader_bit w.writer * bit (w.task == own) ≡ 1 * 1 = λ i. reader_bit (e i) * one i in absurd (omega (arith, z, f))

    own-reader : total (writes_at own) vs ≡ 0 → w ≡ reader own
    own-reader none = let a = total-without (writer_at own) q q' w gone_is in let b = r.writes own in go w.writer refl (omega (arith, a, b, none)) named_here
      where
        go : (b : Bool) → w.writer ≡ b → bit w.writer * bit (w.task == own) ≡ 0 → bit (w.task == own) ≡ 1 → w ≡ reader own
        go false e z one = λ i. record { task = is i; writer = e i }
        go true e z one = let f : bit w.writer * bit (w.task == own) ≡ 1 * 1 = λ i. bit (e i) * one i in absurd (omega (arith, z, f))

  light : v.sem.bias ≡ Clear → load_of v + reserve_of v ≤ 1
  light clear = let s = single-of v own has (r.each id v at) in let h = (held-most v.held).1 in
      let f : early_of v + late_of v + reserve_of v ≡ 0 = ap (λ (z : Bias). early_weight z + late_weight z + reserve_weight z) clear in omega (arith, f, s, h)

  -- a waiter that stands in the list leaves it at this stage
  abbrev pub Leaving : Stage → Type 0
  Leaving stage = (w : Waiter) × Without q w (without own q) × (w.task ≡ own) × Both (without own q) (gone stage v.sem)

  module _ (stage to : Stage) (at_stage : v.sem.stage ≡ stage) (clear : v.sem.bias ≡ Clear) (none : v.sem.rest ≡ []) (before : (m : ℕ) → granting_weight stage m ≡ 0)
      (after : (m : ℕ) → granting_weight to m ≡ 0) (unbound : marking stage ≡ 0) (later : marking to ≡ 0) where
    not-granting : granting_of v ≡ 0
    not-granting = ap (λ (z : Stage). granting_weight z (length v.sem.rest)) at_stage ∙ before (length v.sem.rest)

    quits-writer : v.sem.wait ≡ Writes → total (reads_at own) vs ≡ 0 → ((w : Waiter) → (s : Without q w (without own q)) → w.task ≡ own → FlagsAt to v.task v.sem.rest W H (without own q) marks grants)
        → Leaving to
    quits-writer wait alone flags = let a = total-at (writes_at own) vs id v at in let e : writes_at own v ≡ 1 = writes-at-w v own has Writes wait own ∙ is_number-here own in let b = r.writes own in
        let out = without-is own q (omega (arith, a, e, b)) in let is = own-writer out.0 (without own q) out.2 out.1 alone in let s : SemHand = gone to v.sem in (
          out.0,
          out.2,
          out.1,
          (
            sem-drops-writer vs id v at n q marks grants r own has only (without own q) out.0 to out.2 is wait (light clear) not-granting (after (length v.sem.rest))
                (λ _. none) (flags out.0 out.2 out.1),
            no-more stage s at_stage before unbound later refl refl (λ t. granted-at-w v own has Writes wait grants t) (λ t. granted-at-w (record v { sem = s }) own has Apart refl grants t)
                (λ t. after (here t v.sem.rest)),
          ),
        )

    quits-reader : v.sem.wait ≡ Reads → total (writes_at own) vs ≡ 0 → 1 ≤ get_or grants own 0 → 1 ≤ counted own q
        → ((w : Waiter) → (s : Without q w (without own q)) → w.task ≡ own → FlagsAt to v.task v.sem.rest W H (without own q) marks grants) → Leaving to
    quits-reader wait alone waits there flags = let c = counted-is own q in let out = without-is own q (omega (arith, c, there)) in let is = own-reader out.0 (without own q) out.2 out.1 alone in
        let s : SemHand = gone to v.sem in (
          out.0,
          out.2,
          out.1,
          (
            sem-drops-reader vs id v at n q marks grants r own has only (without own q) out.0 to out.2 is wait waits (light clear) not-granting (after (length v.sem.rest))
                (λ _. none) (flags out.0 out.2 out.1),
            no-more stage s at_stage before unbound later refl refl (λ t. granted-at-w v own has Reads wait grants t ∙ ap (named_weight t (Some own)) (not-zero (get_or grants own 0) waits))
                (λ t. granted-at-w (record v { sem = s }) own has Apart refl grants t) (λ t. after (here t v.sem.rest)),
          ),
        )

  -- a writer that took leaves
  pub leaves-taken : v.sem.stage ≡ Took → v.sem.wait ≡ Writes → v.sem.bias ≡ Clear → total (reads_at own) vs ≡ 0 → Leaving Removed
  leaves-taken stage wait clear alone = quits-writer Took Removed stage clear ((r.each id v at).rest (ap batch_weight stage)) (λ m. refl) (λ m. refl) refl refl wait alone
      (λ w s is. took-left vs id v at n q marks grants r own has only (without own q) w s stage)

  -- a reader in the list isn't granted
  ungranted : total (reads_at own) vs + total (writes_at own) vs ≤ 1 → v.sem.wait ≡ Reads → 1 ≤ counted own q → 1 ≤ get_or grants own 0
  ungranted once wait there = elim (native.Mathlib.Decide.dec_le 1 (get_or grants own 0)) [
    | yes l ↦ l
    | no z ↦ let g = (granted-all grants own vs).0 (omega (arith, z)) in let c = counted-is own q in let a = r.reads own in let b = r.writes own in let t = total-at (reads_at own) vs id v at in
        let e : reads_at own v ≡ 1 = reads-at-w v own has Reads wait own ∙ is_number-here own in
        absurd (omega (arith, g, c, a, b, t, e, there, once))
  ]

  -- a waiter gives up as the first, and nobody is marked
  module _ (once : total (reads_at own) vs + total (writes_at own) vs ≤ 1) (stage : v.sem.stage ≡ Summing) (clear : v.sem.bias ≡ Clear) (none : v.sem.rest ≡ []) (there : 1 ≤ counted own q) where
    nobody_marked : FlagsAt Summing v.task v.sem.rest W H q marks grants
    nobody_marked = mine-at vs id v at n q marks grants r own has Summing only stage

    emptied : length (without own q) ≡ 0 → FlagsAt Emptied v.task v.sem.rest W H (without own q) marks grants
    emptied z = (nobody_marked.0, nobody_marked.1, z)

    rested : 1 ≤ length (without own q) → FlagsAt Rest v.task v.sem.rest W H (without own q) marks grants
    rested l = let f = nobody_marked.0 in let s = (some-length (without own q)).0 l in quiet-unmarked W H (without own q) marks (f ∙ sym s) (omega (arith, f)) nobody_marked.1

    quits-first : (to : Stage) → ((m : ℕ) → granting_weight to m ≡ 0) → marking to ≡ 0 → FlagsAt to v.task v.sem.rest W H (without own q) marks grants → (v.sem.wait ≡ Reads) ⊎ (v.sem.wait ≡ Writes)
        → Leaving to
    quits-first to after later flags waits = let a = total-at (reads_at own) vs id v at in let b = total-at (writes_at own) vs id v at in ⊎_elim
        (λ (wait : v.sem.wait ≡ Reads). let e : reads_at own v ≡ 1 = reads-at-w v own has Reads wait own ∙ is_number-here own in
        quits-reader Summing to stage clear none (λ m. refl) after refl later wait (omega (arith, once, a, e)) (ungranted once wait there) there (λ w s is. flags))
        (λ (wait : v.sem.wait ≡ Writes). let e : writes_at own v ≡ 1 = writes-at-w v own has Writes wait own ∙ is_number-here own in
        quits-writer Summing to stage clear none (λ m. refl) after refl later wait (omega (arith, once, b, e)) (λ w s is. flags))
        waits

    pub leaves-first : (v.sem.wait ≡ Reads) ⊎ (v.sem.wait ≡ Writes) → Leaving (if length (without own q) == 0 then Emptied else Rest)
    leaves-first waits = dite (ℕ_discrete (length (without own q)) 0)
        (λ z. subst (λ (b : Bool). Leaving (if b then Emptied else Rest)) (sym (eq-eqb (length (without own q)) 0 z)) (quits-first Emptied (λ m. refl) refl (emptied z) waits))
        (λ other. subst (λ (b : Bool). Leaving (if b then Emptied else Rest)) (sym (ne_eqb (length (without own q)) 0 other)) (quits-first Rest (λ m. refl) refl (rested (omega (arith, other))) waits))

  -- a waiter gives up that isn't the first
  module _ (once : total (reads_at own) vs + total (writes_at own) vs ≤ 1) (clear : v.sem.bias ≡ Clear) (other : first_code q ≢ own + 1) where
    behind : Quiet W H q marks → (w : Waiter) (s : Without q w (without own q)) → w.task ≡ own → Quiet W H (without own q) marks
    behind f w s is = quiet-behind W H q (without own q) marks w s (not-first q (without own q) w s (λ e. other (omega (arith, e, is)))) f

    pub leaves-reader : v.sem.stage ≡ Armed → v.sem.wait ≡ Reads → 1 ≤ counted own q → Leaving Rest
    leaves-reader stage wait there = let f = mine-at vs id v at n q marks grants r own has Armed only stage in let one = f.1 own has in let a = total-at (reads_at own) vs id v at in
        let e : reads_at own v ≡ 1 = reads-at-w v own has Reads wait own ∙ is_number-here own in
        quits-reader Armed Rest stage clear ((r.each id v at).rest (ap batch_weight stage)) (λ m. refl) (λ m. refl) refl refl wait (omega (arith, once, a, e)) (omega (arith, one)) there
        (λ w s is. behind f.0 w s is)

    pub leaves-writer : v.sem.stage ≡ Rest → v.sem.wait ≡ Writes → Leaving Rest
    leaves-writer stage wait = let f = mine-at vs id v at n q marks grants r own has Rest only stage in let b = total-at (writes_at own) vs id v at in
        let e : writes_at own v ≡ 1 = writes-at-w v own has Writes wait own ∙ is_number-here own in
        quits-writer Rest Rest stage clear ((r.each id v at).rest (ap batch_weight stage)) (λ m. refl) (λ m. refl) refl refl wait (omega (arith, once, b, e)) (λ w s is. behind f w s is)

  -- a waker's batch takes one more
  abbrev BatchMayGrow : Type 0
  BatchMayGrow = (v.sem.stage ≡ Rest) ⊎ ((b : Bool) × (v.sem.stage ≡ Overdue b)) ⊎ (v.sem.stage ≡ Removing)

  pub leaves-picked : (t : ℕ) → BatchMayGrow → Picks v q t → counted t q ≤ 1 → (w : Waiter) × Without q w (without t q) × (w.task ≡ t) × Both (without t q) (picked t v.sem)
  leaves-picked t may picks once = let p = picks-is t q once picks.0 in let w : Waiter = p.0 in let facts = flags may in let m = busy-most v.sem.stage in (
    w,
    p.3.0,
    p.1,
    (
      subst (λ (x : ℕ). SemKept n (without t q) marks grants (set vs id (batched v (v.sem.rest ++ x ∷ []) Removing))) p.1
          (sem-picks vs id v at n q marks grants r own has only (without t q) w p.3.0 facts.0 facts.1 facts.2 p.2 (λ none. p.3.1 (picks.1 none)) m),
      hands-step id n q marks grants vs v (record v { sem = picked t v.sem }) at n marks (omega arith) (λ t. omega arith) (unasked-same n marks) (goes may),
    ),
  )
    where
      -- the batch goes on with this task
      grows : (from : Stage) → v.sem.stage ≡ from → ((m : ℕ) → granting_weight from m ≡ 0) → marking from ≡ 0 → PassGoes n n q marks grants v (record v { sem = picked t v.sem })
      grows from is none out = pass-from q marks grants v (record v { sem = picked t v.sem }) from is none out (inr (inr (t, refl, picks))) (λ t. omega arith) refl (inl refl)

      goes : BatchMayGrow → PassGoes n n q marks grants v (record v { sem = picked t v.sem })
      goes (inl is) = grows Rest is (λ m. refl) refl
      goes (inr (inl (b, is))) = grows (Overdue b) is (λ m. refl) refl
      goes (inr (inr is)) = grows Removing is (λ m. refl) refl

      there : 1 ≤ length q
      there = long q picks.0
        where
          long : (q : List Waiter) → IsFirstReader t q → 1 ≤ length q
          long [] f = absurd f
          long (x ∷ q) f = omega arith

      Facts : Type 0
      Facts = (W ≡ 1) × (marks_sum marks ≡ first_mark marks (v.sem.rest ++ tasks q)) × (granting_of v ≡ 0)

      of-quiet : (stage : Stage) → v.sem.stage ≡ stage → batch_weight stage ≡ 0 → ((m : ℕ) → granting_weight stage m ≡ 0) → Quiet W H q marks → Facts
      of-quiet stage is no_rest none f = let empty = (r.each id v at).rest (ap batch_weight is ∙ no_rest) in (
        f.waiters ∙ (some-length q).0 there,
        f.first ∙ ap (λ (z : List ℕ). first_mark marks (z ++ tasks q)) (sym empty),
        ap (λ (z : Stage). granting_weight z (length v.sem.rest)) is
            ∙ none (length v.sem.rest),
      )

      flags : BatchMayGrow → Facts
      flags (inl is) = of-quiet Rest is refl (λ m. refl) (mine-at vs id v at n q marks grants r own has Rest only is)
      flags (inr (inl (b, is))) = of-quiet (Overdue b) is refl (λ m. refl) (mine-at vs id v at n q marks grants r own has (Overdue b) only is).0
      flags (inr (inr is)) = let f = mine-at vs id v at n q marks grants r own has Removing only is in (f.0, f.1, ap (λ (z : Stage). granting_weight z (length v.sem.rest)) is)
