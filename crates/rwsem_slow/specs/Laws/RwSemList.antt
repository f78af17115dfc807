-- The rule of a semaphore hosts a list of waiters.
use Rattle.std.proofs.Common.{◌≡◌, ◌≢◌, ◌&&◌, ne_eqb, None, ℕ, zero, suc, ◌+◌, ◌<◌, ◌≤◌, ◌==◌, ◌⊎◌, inl, inr, Bool, true, false, List, [], ◌∷◌, ◌++◌, length, map, get_or, set, Option, Some, sym, refl}
use Rattle.std.proofs.Common.{ap, ◌∙◌, subst, arith, length-set}
use mathlib.Core.Option.{some, some-injective, some-ne-none}
use lib.ListN.{get_elem?}
use Rattle.atomic_table.proofs.Lists.{at_map, set_again}
use Rattle.word_bits.specs.declared.TheConstants.{MAX_TASKS}
use Rattle.word_bits.specs.LockWords.{counted as unavailable}
use Rattle.word_bits.specs.Objects.{Obj}
use Rattle.word_bits.specs.Histories.{Plan}
use Rattle.lock_core.specs.declared.layout.TheConstants.{SPIN_WORDS}
use Rattle.lock_core.specs.Layout.{SiteWords, site}
use Rattle.lock_core.specs.Views.{SpinHolds, hand_of, spin_part, named_of, is_number}
use Rattle.lock_core.specs.Sites.{SiteKept}
use Rattle.lock_core.specs.Moves.{SiteMove}
use Rattle.lock_core.specs.Laws.Move.{hand-stays, saw-stays, set-moves, hold-moved}
use Rattle.lock_core.specs.SpinFrames.{holds_at}
use Rattle.lock_core.specs.Spins.{SpinMoves, holds_in}
use Rattle.lock_core.specs.Laws.Spin.{spin-same}
use Rattle.lock_core.specs.Totals.{total, total-at}
use Rattle.lock_core.specs.ViewParts.{Each, each-set, keep_part, set_part, set-there}
use Rattle.lock_core.specs.Regions.{part-above, part-in, part-below}
use Rattle.lock_core.proofs.HandLaws.{is_number-here, not-both}
use Rattle.wait_list.specs.declared.words.TheConstants.{LIST_WORDS}
use Rattle.wait_list.specs.Laws.List.{list-known}
use Rattle.wait_list.specs.Lists.{AreTasks, Part, ListKept, first_code, LeaverGoes, MadeBy, Allowed, changed, counted, list_part, listed, sighted, without}
use Rattle.wake_duty.specs.DutyWakes.{WAKE_WORDS}
use Rattle.rwsem_wake.specs.GrantsStated.{IsFirstReader, Picks}
use Rattle.rwsem_wake.specs.SemParts.{SemPart, busy_weight, busy_of, granted_at, granted_of, granted_weight, named_weight, reads_weight, writes_weight, reads_at, transit_of, transit_weight, writes_at}
use Rattle.rwsem_wake.specs.SemParts.{rest_at, here}
use Rattle.rwsem_wake.specs.GrantSemaphores.{SemPartOk, batch_weight}
use Rattle.rwsem_wake.proofs.Sums.{busy-most}
use Rattle.rwsem_wake.proofs.QueueLaws.{a_writer, reader, mine-at, reads-at-w, writes-at-w}
use Rattle.rwsem_wake.proofs.Places.{granted-all}
use Rattle.rwsem_wake.proofs.HandoffSteps.{hands-none}
use Rattle.rwsem_wake.specs.RwSemViews.{V, list_of, seen, list_at, chooses_task, joined, leaves_wake, picked, parted as parted_at, parted_wake, has_number, is_clear, looked, may_look, with_list}
use Rattle.rwsem_wake.specs.RwSemViews.{saw_first, MayPick, LeavesPicked}
use Rattle.rwsem_slow.specs.RwSems.{spin_words, count_in, list_words, marks_in, grants_in, IsLocked, RwSemKept, Kept as IsKept, entered, IsMadeBy, wake_words, wakes_at, may_change, MayJoin}
use Rattle.rwsem_slow.specs.RwSems.{LeavesTaken, LeavesFirst, LeavesBehind}
use Rattle.rwsem_slow.specs.WakesGo.{WakesGo, wake_stands}
use Rattle.rwsem_slow.specs.Laws.WakesGo.{HoldsOn, enter-leaves, goes-chooses, goes-leaves, goes-wait_state, leave-enters, look-goes, none-owed, still-goes}
use Rattle.rwsem_slow.specs.Laws.DutyRule.{Duties, duties-enter, duties-leave-behind, duties-leave-first, duties-leave-taken, duties-look, duties-pick, duties-stay}
use Rattle.rwsem_slow.specs.Laws.RwSem.{SemWords, sem_words, sem-else, Go as Going, Sem, Hands, one-takes, sem-only, sem-only-in, goes, goes-on, hands-same, same-site}
use Rattle.rwsem_wake.proofs.FirstReaders.{counted-is, first-counts, reader-counts}
use Rattle.rwsem_slow.specs.Laws.ListSteps.{alone-long, enters-reader, enters-writer, leaves-first, leaves-picked, leaves-reader, leaves-taken, leaves-writer}
use Rattle.rwsem_slow.specs.Types.{Alone, Waiter, Change, Stay, Enter, Leave, ListHand, Awake, SemWake, Bias, Clear, Transit, Reserve, SemHand, Wait, Apart, Reads, Writes, Stage, Rest}
use Rattle.rwsem_slow.specs.Types.{Armed, Joining, First, Marking, Took, Removed, Emptied, Overdue, Marked, Removing, Summing, Counted, Granting}

abbrev parted : V → Part
parted v = list_part list_of v

-- who leaves the list keeps its bias
parted-bias : (stage : Stage) (wait : Wait) (t long : ℕ) (s : SemHand) → (parted_at stage wait t long s).bias ≡ s.bias
parted-bias Took wait t long s = refl
parted-bias Summing wait t long s = refl
parted-bias Armed wait t long s = refl
parted-bias Rest Writes t long s = refl
parted-bias Rest Apart t long s = refl
parted-bias Rest Reads t long s = refl
parted-bias (Joining c) wait t long s = refl
parted-bias First wait t long s = refl
parted-bias Marking wait t long s = refl
parted-bias Removed wait t long s = refl
parted-bias Emptied wait t long s = refl
parted-bias (Overdue c) wait t long s = refl
parted-bias (Marked c) wait t long s = refl
parted-bias Removing wait t long s = refl
parted-bias (Counted c) wait t long s = refl
parted-bias Granting wait t long s = refl

pub list-back : (c : Change) (v : V) (b : ListHand) → list_of (with_list c v b) ≡ b
list-back Stay v b = refl
list-back (Enter w) v b = refl
list-back (Leave t) v b = refl

pub list-same : (v : V) → with_list Stay v (list_of v.ext) ≡ v.ext
list-same v = refl

pub list-over : (c : Change) (v : V) (n : ℕ) (b d : ListHand) → with_list c (record v { steps = n; ext = with_list Stay v b }) d ≡ with_list c v d
list-over Stay v n b d = refl
list-over (Enter w) v n b d = refl
list-over (Leave t) v n b d = refl

pub list-again : (c : Change) (v : V) (n : ℕ) (b d : ListHand) → d.list ≡ b.list → with_list Stay (record v { steps = n; ext = with_list c v b }) d ≡ with_list c v d
list-again Stay v n b d e = refl
list-again (Enter w) v n b d e = λ i. record (with_list (Enter w) v d) { sem = joined w.writer (length (sym e i)) v.ext.sem }
list-again (Leave t) v n b d e = λ i. record (with_list (Leave t) v d) { sem = parted_at v.ext.sem.stage v.ext.sem.wait t (length (sym e i)) v.ext.sem }

pub may-stay : (v : V) (q : List Waiter) → may_change Stay v q
may-stay v q = tt

pub may-pick : (v : V) (q : List Waiter) (t : ℕ) → LeavesPicked v q t → may_change (Leave t) v q
may-pick v q t leaves = inr (inr (inr leaves))

pub may-on : (c : Change) (v : V) (b : ListHand) (q : List Waiter) → may_change c v q → may_change c (listed with_list Stay v b) q
may-on Stay v b q m = m
may-on (Enter w) v b q m = m
may-on (Leave t) v b q m = m

list-appends : (c : Change) (v : V) (b : ListHand) → (with_list c v b).appends ≡ v.ext.appends + entered c
list-appends Stay v b = omega arith
list-appends (Enter w) v b = refl
list-appends (Leave t) v b = omega arith

-- a waiter of one kind
a-writer : (w : Waiter) → w.writer ≡ true → w ≡ a_writer w.task
a-writer w e = λ i. record { task = w.task; writer = e i }

a-reader : (w : Waiter) → w.writer ≡ false → w ≡ reader w.task
a-reader w e = λ i. record { task = w.task; writer = e i }

-- a pass waits as one of the two at most
waits-once : (t : ℕ) (task : Option ℕ) (w : Wait) → named_weight t task (reads_weight w) + named_weight t task (writes_weight w) ≤ is_number t task
waits-once t task Apart = omega arith
waits-once t task Reads = omega arith
waits-once t task Writes = omega arith

-- a batch is under way only at a stage
pub batch-busy : (s : Stage) → batch_weight s ≤ busy_weight s
batch-busy Rest = omega arith
batch-busy _ = omega arith

-- no batch is under way beside a pass that is at another stage
no-batches : (ps : List SemPart) (id : ℕ) (p : SemPart) (t : ℕ) → get_elem? ps id ≡ some p → p.sem.stage ≡ Armed → Each SemPartOk ps → total busy_of ps ≡ busy_of p → total (rest_at t) ps ≡ 0
no-batches [] id p t at stage each only = refl
no-batches (x ∷ ps) zero p t at stage each only = let is = some-injective x p at in let z : batch_weight x.sem.stage ≡ 0 = ap (λ (y : SemPart). batch_weight y.sem.stage) is ∙ ap batch_weight stage in
    let a = ap (here t) ((each zero x refl).rest z) in let b : busy_of x ≡ busy_of p = ap busy_of is in let c = none ps (λ j y e. each (suc j) y e) (omega (arith, only, b)) in omega (arith, a, c)
  where
    none : (ps : List SemPart) → Each SemPartOk ps → total busy_of ps ≡ 0 → total (rest_at t) ps ≡ 0
    none [] each z = refl
    none (y ∷ ps) each z = let l = batch-busy y.sem.stage in let a = ap (here t) ((each zero y refl).rest (omega (arith, z, l))) in let b = none ps (λ j x e. each (suc j) x e) (omega (arith, z)) in
        omega (arith, a, b)
no-batches (x ∷ ps) (suc id) p t at stage each only = let l = batch-busy x.sem.stage in let m = total-at busy_of ps id p at in
    let a = ap (here t) ((each zero x refl).rest (omega (arith, only, m, l))) in let b = no-batches ps id p t at stage (λ j y e. each (suc j) y e) (omega (arith, only, m)) in omega (arith, a, b)

module _ {Call : Type 0} (o : Obj Call) (size : ℕ) where
  abbrev Queue : Plan → List ℕ → List V → List Waiter → Type 0
  Queue = RwSemKept o size

  abbrev Kept : Plan → List ℕ → List V → Type 0
  Kept = IsKept o size

  abbrev Go : Plan → ℕ → List ℕ → List V → List ℕ → List V → Type 0
  Go = Going o size

  pub sem-queued : (k : Plan) (ws : List ℕ) (vs : List V) → Kept k ws vs → (q : List Waiter) × Queue k ws vs q
  sem-queued k ws vs r = r

  pub sem-list : (k : Plan) (ws : List ℕ) (vs : List V) (q : List Waiter) → Queue k ws vs q → ListKept (list_words ws) q (map (list_part list_of) vs)
  sem-list k ws vs q r = r.list

  module _ (k : Plan) (ws : List ℕ) (vs : List V) (q : List Waiter) (id : ℕ) (v : V) (r : Queue k ws vs q) (at : get_elem? vs id ≡ some v) where
    mine : get_elem? (map seen vs) id ≡ some (seen v)
    mine = at_map seen vs id v at

    small : (t : ℕ) → v.hand.task ≡ Some t → t < MAX_TASKS
    small t has = let m = (r.site_holds.each id v.hand (at_map hand_of vs id v at)).mine t has in let l = m.0 in let s = r.site_holds.laid.small.tasks in omega (arith, l, s)

    -- nobody else waits by the number of a pass
    waits-alone : (t : ℕ) → v.hand.task ≡ Some t → total (reads_at t) (map seen vs) + total (writes_at t) (map seen vs) ≤ 1
    waits-alone t has = let few = small t has in let one = (r.site_holds.balances.named t few).1 in let a = both vs in let b = least vs in omega (arith, one, a, b)
      where
        both : (xs : List V) → total (reads_at t) (map seen xs) + total (writes_at t) (map seen xs) ≤ total (λ (x : V). is_number t x.hand.task) xs
        both [] = omega arith
        both (x ∷ xs) = let e = both xs in let w = waits-once t x.hand.task x.ext.sem.wait in omega (arith, e, w)

        least : (xs : List V) → total (λ (x : V). is_number t x.hand.task) xs ≡ total (named_of t) (map hand_of xs)
        least [] = refl
        least (x ∷ xs) = let e = least xs in omega (arith, e)

    -- its own weights are all
    only-mine : (t : ℕ) → v.hand.task ≡ Some t → (total (reads_at t) (map seen vs) ≡ reads_at t (seen v)) × (total (writes_at t) (map seen vs) ≡ writes_at t (seen v))
    only-mine t has = let few = small t has in let one = (r.site_holds.balances.named t few).1 in let n = names vs in
        let mine_is : is_number t v.hand.task ≡ 1 = ap (is_number t) has ∙ is_number-here t in let m = one-of vs id v at in
        let a = total-at (reads_at t) (map seen vs) id (seen v) mine in let b = total-at (writes_at t) (map seen vs) id (seen v) mine in
        (omega (arith, one, n, mine_is, m, a, b), omega (arith, one, n, mine_is, m, a, b))
      where
        names : (xs : List V) → total (λ (x : V). is_number t x.hand.task) xs ≡ total (named_of t) (map hand_of xs)
        names [] = refl
        names (x ∷ xs) = let e = names xs in omega (arith, e)

        both : (xs : List V) → total (reads_at t) (map seen xs) + total (writes_at t) (map seen xs) ≤ total (λ (x : V). is_number t x.hand.task) xs
        both [] = omega arith
        both (x ∷ xs) = let e = both xs in let w = waits-once t x.hand.task x.ext.sem.wait in omega (arith, e, w)

        -- all that the others weigh is no more than how often they have the number
        one-of : (xs : List V) (i : ℕ) (x : V) → get_elem? xs i ≡ some x
            → total (reads_at t) (map seen xs) + total (writes_at t) (map seen xs) + is_number t x.hand.task ≤ total
            (λ (y : V). is_number t y.hand.task) xs + reads_at t (seen x) + writes_at t (seen x)
        one-of [] i x e = absurd (some-ne-none x (sym e))
        one-of (y ∷ xs) zero x e = let is = some-injective y x e in let l = both xs in let a : reads_at t (seen y) ≡ reads_at t (seen x) = ap (λ (z : V). reads_at t (seen z)) is in
            let b : writes_at t (seen y) ≡ writes_at t (seen x) = ap (λ (z : V). writes_at t (seen z)) is in
            let c : is_number t y.hand.task ≡ is_number t x.hand.task = ap (λ (z : V). is_number t z.hand.task) is in omega (arith, l, a, b, c)
        one-of (y ∷ xs) (suc i) x e = let l = one-of xs i x e in let w = waits-once t y.hand.task y.ext.sem.wait in omega (arith, l, w)

    -- at a stage at which no batch may be under way
    no-rest : (s : Stage) → v.ext.sem.stage ≡ s → batch_weight s ≡ 0 → v.ext.sem.rest ≡ []
    no-rest s stage none = (r.sem.each id (seen v) mine).rest (ap batch_weight stage ∙ none)

    -- whose pass waits as a writer, or as a reader that isn't granted, stands in the list
    writer-there : (t : ℕ) → v.hand.task ≡ Some t → v.ext.sem.wait ≡ Writes → 1 ≤ counted t q
    writer-there t has wait = let a = total-at (writes_at t) (map seen vs) id (seen v) mine in let b : writes_at t (seen v) ≡ 1 = writes-at-w (seen v) t has Writes wait t ∙ is_number-here t in
        let c = counted-is t q in let y = r.sem.writes t in omega (arith, a, b, c, y)

    -- a pass that is about to queue or to give up as a reader is the only one under the wait lock, so no batch is under way
    armed-there : (t : ℕ) → SpinHolds v.spin → v.hand.task ≡ Some t → v.ext.sem.stage ≡ Armed → v.ext.sem.wait ≡ Reads → 1 ≤ counted t q
    armed-there t has named stage wait = let one = (mine-at (map seen vs) id (seen v) mine (count_in ws) q (marks_in ws) (grants_in ws) r.sem t named Armed only stage).1 t named in
        let G = (granted-all (grants_in ws) t (map seen vs)).1 (omega (arith, one)) in let a = r.sem.reads t in
        let b : reads_at t (seen v) ≡ 1 = reads-at-w (seen v) t named Reads wait t ∙ is_number-here t in let m = total-at (reads_at t) (map seen vs) id (seen v) mine in let c = counted-is t q in
        let z = no-batches (map seen vs) id (seen v) t mine stage (λ j x at. r.sem.each j x at) only in omega (arith, G, a, b, m, c, z)
      where
        only : total busy_of (map seen vs) ≡ busy_of (seen v)
        only = sem-only o size k ws vs q r id v at has

    -- what a change of the list needs of it
    pub sem-list-may : (c : Change) → SpinHolds v.spin → may_change c v q → Allowed c q
    sem-list-may Stay has may = tt
    sem-list-may (Enter w) has may = let few = small w.task may.0 in let m = only-mine w.task may.0 in let a = reads-at-w (seen v) w.task may.0 Apart may.2 w.task in
        let b = writes-at-w (seen v) w.task may.0 Apart may.2 w.task in let c = counted-is w.task q in let x = r.sem.reads w.task in let y = r.sem.writes w.task in let d = m.0 in let e = m.1 in
        (few, omega (arith, d, e, a, b, c, x, y))
    sem-list-may (Leave t) has (inl taken) = writer-there t taken.1 taken.2
    sem-list-may (Leave t) has (inr (inl quits)) = first-counts t q quits.4
    sem-list-may (Leave t) has (inr (inr (inl behind))) = elim behind.2 [ inl reads ↦ armed-there t has behind.0.0 reads.0 reads.1 | inr writes ↦ writer-there t behind.0.0 writes.1 ]
    sem-list-may (Leave t) has (inr (inr (inr taken))) = reader-counts t q taken.2.0

    -- the facts with this list and this part of the pass, and that the step keeps to a handoff
    abbrev Facts : List Waiter → SemHand → Type 0
    Facts q' s = let u : SemPart = record (seen v) { sem = s } in Sem o size (sem_words ws) q' (set (map seen vs) id u)
        × Hands o size id (sem_words ws) q (map seen vs) (sem_words ws) (set (map seen vs) id u)

    -- what a change of the list makes of wakes
    abbrev Wakes : Change → ListHand → Type 0
    Wakes c b = let w : V = listed with_list c v b in WakesGo (count_in ws) (count_in ws) q c (grants_in ws) (wake_words ws) (wake_words ws) (holds_in v.spin) (seen v) (seen w)
        (wake_stands v.ext.wake) (wake_stands w.ext.wake)

    -- a step on the list's words, once they are there
    lists-by : (i n : ℕ) (c : Change) (b : ListHand) → SpinHolds v.spin → i < LIST_WORDS → ListKept (set (list_words ws) i n) (changed c q) (set (map parted vs) id (v.spin, b)) → Allowed c q
        → MadeBy c id (map parted vs) → IsMadeBy id vs (with_list c v b).sem.rest c q → Facts (changed c q) (with_list c v b).sem
        → Duties (wake_words ws) (grants_in ws) (changed c q) (set vs id (listed with_list c v b)) → Wakes c b
        → Go k id ws vs (set ws (list_at + i) n) (set vs id (listed with_list c v b))
    lists-by i n c b has inside list may made own facts duties wakes = let w : V = listed with_list c v b in let j : ℕ = list_at + i in let us : List ℕ = set ws j n in
        let same = same-site o size k ws vs q r id v at j n (omega (arith, inside)) in let words = sem-else ws j n (inl (λ e. omega (arith, e), omega (arith, inside))) in
        let m = busy-most w.ext.sem.stage in let holds : holds_in v.spin ≡ 1 = ap holds_at has in
        goes o size k ws vs q r id v at us (set vs id w) c (length-set ws j n ∙ r.wide)
        (subst (λ (z : SiteWords). SiteKept o unavailable size k z (map hand_of (set vs id w))) (sym same)
        (keep_part hand_of (SiteKept o unavailable size k (site k ws)) vs id v w at refl r.site_holds))
        (subst (λ (z : SiteWords). SiteMove id (count_in ws) (site k ws) vs z (set vs id w)) (sym same)
        (set-moves id (site k ws) (site k ws) vs v w at (hold-moved (site k ws) v v.hand (with_list c v b) (hand-stays v.hand) (inl (saw-stays v.hand))))) w (set-there vs id v w at)
        (subst (λ (z : List ℕ). SpinMoves id (spin_words ws) (map spin_part vs) z (map spin_part (set vs id w))) (sym (part-below ws 0 SPIN_WORDS j n (omega arith)))
        (keep_part spin_part (SpinMoves id (spin_words ws) (map spin_part vs) (spin_words ws)) vs id v w at refl (spin-same id (spin_words ws) (map spin_part vs) r.spin)))
        (subst (λ (z : List ℕ). ListKept z (changed c q) (map parted (set vs id w))) (sym (part-in ws list_at LIST_WORDS i n inside))
        (set_part parted (ListKept (set (list_words ws) i n) (changed c q)) vs id w
        (subst (λ (z : ListHand). ListKept (set (list_words ws) i n) (changed c q) (set (map parted vs) id (v.spin, z))) (sym (list-back c v b)) list)))
        (subst (λ (z : SemWords). Sem o size z (changed c q) (map seen (set vs id w))) (sym words) (set_part seen (Sem o size (sem_words ws) (changed c q)) vs id w facts.0))
        (each-set IsLocked IsLocked vs id w (omega (arith, m, holds)) (λ j x _ _ p. p) r.locked)
        (subst (λ (z : List ℕ × List ℕ). Duties z.0 z.1 (changed c q) (set vs id w)) (λ e. (sym (part-above ws wakes_at WAKE_WORDS j n (omega (arith, inside))) e, (sym words e).2)) duties) may made
        own
        (subst (λ (z : SemWords). Hands o size id (sem_words ws) q (map seen vs) z (map seen (set vs id w))) (sym words)
        (set_part seen (Hands o size id (sem_words ws) q (map seen vs) (sem_words ws)) vs id w facts.1))
        (λ out other. absurd (other refl)) (omega (arith, m, holds)) (list-appends c v b) (λ other. absurd (other refl))
        (subst (λ (z : ℕ × List ℕ). WakesGo (count_in ws) z.0 q c (grants_in ws) (wake_words ws) z.1 (holds_in v.spin) (seen v) (seen w) (wake_stands v.ext.wake) (wake_stands w.ext.wake))
        (λ e. ((sym words e).0, sym (part-above ws wakes_at WAKE_WORDS j n (omega (arith, inside))) e)) wakes)

    module _ (has : SpinHolds v.spin) where
      only : total busy_of (map seen vs) ≡ busy_of (seen v)
      only = sem-only o size k ws vs q r id v at has

      -- what each change makes of the facts
      stays-facts : Facts q v.ext.sem
      stays-facts = let ps : List SemPart = map seen vs in subst (λ (z : List SemPart). Sem o size (sem_words ws) q z × Hands o size id (sem_words ws) q ps (sem_words ws) z)
          (sym (set_again ps id (seen v) mine))
          (r.sem, hands-none id (count_in ws) q (marks_in ws) (grants_in ws) ps)

      enters-facts : (w : Waiter) (b : ListHand) → may_change (Enter w) v q → b.list ≡ q ++ w ∷ [] → Facts (q ++ w ∷ []) (with_list (Enter w) v b).sem
      enters-facts w b may is = subst (λ (z : List Waiter). Facts (q ++ w ∷ []) (joined w.writer (length z) v.ext.sem)) (sym is) (go w.writer refl may.3)
        where
          long : ℕ
          long = length (q ++ w ∷ [])

          go : (kind : Bool) → w.writer ≡ kind → MayJoin kind v.ext.sem → Facts (q ++ w ∷ []) (joined w.writer long v.ext.sem)
          go true e join = subst (λ (z : Waiter × Bool). Facts (q ++ z.0 ∷ []) (joined z.1 long v.ext.sem)) (λ i. (sym (a-writer w e) i, sym e i))
              (enters-writer (map seen vs) id (seen v) mine (count_in ws) q (marks_in ws) (grants_in ws) r.sem w.task may.0 only (long == 1) (alone-long q w) join.0 may.2)
          go false e join = subst (λ (z : Waiter × Bool). Facts (q ++ z.0 ∷ []) (joined z.1 long v.ext.sem)) (λ i. (sym (a-reader w e) i, sym e i))
              (enters-reader (map seen vs) id (seen v) mine (count_in ws) q (marks_in ws) (grants_in ws) r.sem w.task may.0 only (long == 1) (alone-long q w) join.0 may.2 may.1)

      -- and of a task that leaves
      abbrev Parts : ℕ → ℕ → Type 0
      Parts t long = Facts (without t q) (parted_at v.ext.sem.stage v.ext.sem.wait t long v.ext.sem)

      taken-facts : (t long : ℕ) → LeavesTaken v t → Parts t long
      taken-facts t long may = let m = only-mine t may.1 in let a = m.0 in let b = reads-at-w (seen v) t may.1 Writes may.2 t in
          subst (λ (z : Stage). Facts (without t q) (parted_at z v.ext.sem.wait t long v.ext.sem)) (sym may.0)
          (leaves-taken (map seen vs) id (seen v) mine (count_in ws) q (marks_in ws) (grants_in ws) r.sem t may.1 only may.0 may.2 may.3 (omega (arith, a, b))).3

      first-facts : (t : ℕ) → LeavesFirst v q t → Parts t (length (without t q))
      first-facts t may = subst (λ (z : Stage). Facts (without t q) (parted_at z v.ext.sem.wait t (length (without t q)) v.ext.sem)) (sym may.1)
          (leaves-first (map seen vs) id (seen v) mine (count_in ws) q (marks_in ws) (grants_in ws) r.sem t may.0.0 only (waits-alone t may.0.0) may.1 may.0.1 may.2 (first-counts t q may.4) may.3).3

      behind-facts : (t long : ℕ) → LeavesBehind v q t → Parts t long
      behind-facts t long may = elim may.2 [
        | inl reads ↦ subst (λ (z : Stage). Facts (without t q) (parted_at z v.ext.sem.wait t long v.ext.sem)) (sym reads.0)
            (leaves-reader (map seen vs) id (seen v) mine (count_in ws) q (marks_in ws) (grants_in ws) r.sem t may.0.0 only (waits-alone t may.0.0) may.0.1 may.1 reads.0 reads.1
            (armed-there t has may.0.0 reads.0 reads.1)).3
        | inr writes ↦ subst (λ (z : Stage × Wait). Facts (without t q) (parted_at z.0 z.1 t long v.ext.sem)) (λ i. (sym writes.0 i, sym writes.1 i))
            (leaves-writer (map seen vs) id (seen v) mine (count_in ws) q (marks_in ws) (grants_in ws) r.sem t may.0.0 only (waits-alone t may.0.0) may.0.1 may.1 writes.0 writes.1).3
      ]

      picked-facts : (t long : ℕ) → LeavesPicked v q t → Parts t long
      picked-facts t long may = let facts = leaves-picked (map seen vs) id (seen v) mine (count_in ws) q (marks_in ws) (grants_in ws) r.sem may.1.0 may.1.1 only t (grows may.0) may.2
          (r.list.sound.once t) in as_batch may.0 facts.3
        where
          grows : MayPick v.ext.sem → (v.ext.sem.stage ≡ Rest) ⊎ ((b : Bool) × (v.ext.sem.stage ≡ Overdue b)) ⊎ (v.ext.sem.stage ≡ Removing)
          grows (inl is) = inl is.0
          grows (inr more) = inr more

          as_batch : MayPick v.ext.sem → Facts (without t q) (picked t v.ext.sem) → Parts t long
          as_batch (inl is) facts = subst (λ (z : Stage × Wait). Facts (without t q) (parted_at z.0 z.1 t long v.ext.sem)) (λ i. (sym is.0 i, sym is.1 i)) facts
          as_batch (inr (inl (b, is))) facts = subst (λ (z : Stage). Facts (without t q) (parted_at z v.ext.sem.wait t long v.ext.sem)) (sym is) facts
          as_batch (inr (inr is)) facts = subst (λ (z : Stage). Facts (without t q) (parted_at z v.ext.sem.wait t long v.ext.sem)) (sym is) facts

      leaves-facts : (t : ℕ) → may_change (Leave t) v q → Parts t (length (without t q))
      leaves-facts t (inl may) = taken-facts t (length (without t q)) may
      leaves-facts t (inr (inl may)) = first-facts t may
      leaves-facts t (inr (inr (inl may))) = behind-facts t (length (without t q)) may
      leaves-facts t (inr (inr (inr may))) = picked-facts t (length (without t q)) may

      picks-rest : (t long : ℕ) → MayPick v.ext.sem → (parted_at v.ext.sem.stage v.ext.sem.wait t long v.ext.sem).rest ≡ v.ext.sem.rest ++ t ∷ []
      picks-rest t long (inl is) = subst (λ (z : Stage × Wait). (parted_at z.0 z.1 t long v.ext.sem).rest ≡ v.ext.sem.rest ++ t ∷ []) (λ i. (sym is.0 i, sym is.1 i)) refl
      picks-rest t long (inr (inl (b, is))) = subst (λ (z : Stage). (parted_at z v.ext.sem.wait t long v.ext.sem).rest ≡ v.ext.sem.rest ++ t ∷ []) (sym is) refl
      picks-rest t long (inr (inr is)) = subst (λ (z : Stage). (parted_at z v.ext.sem.wait t long v.ext.sem).rest ≡ v.ext.sem.rest ++ t ∷ []) (sym is) refl

      leaves-by : (t long : ℕ) → may_change (Leave t) v q → IsMadeBy id vs (parted_at v.ext.sem.stage v.ext.sem.wait t long v.ext.sem).rest (Leave t) q
      leaves-by t long (inl may) = (v, at, inl (may.1, no-rest Took may.0 refl))
      leaves-by t long (inr (inl may)) = (v, at, inl (may.0.0, may.2))
      leaves-by t long (inr (inr (inl may))) = (v, at, inl (may.0.0, elim may.2 [ inl reads ↦ no-rest Armed reads.0 refl | inr writes ↦ no-rest Rest writes.0 refl ]))
      leaves-by t long (inr (inr (inr may))) = (v, at, inr (may.2, picks-rest t long may.0))

    -- a reader that is to join has 1 in its grant word
    armed-word : SpinHolds v.spin → (t : ℕ) → v.hand.task ≡ Some t → (kind : Bool) → kind ≡ false → MayJoin kind v.ext.sem → 1 ≤ get_or (grants_in ws) t 0
    armed-word has t named true reads join = not-both true reads refl
    armed-word has t named false reads join = (mine-at (map seen vs) id (seen v) mine (count_in ws) q (marks_in ws) (grants_in ws) r.sem t named Armed (only has) join.0).1 t named

    -- who waits in the list as a reader isn't granted
    reads-ungranted : (t : ℕ) → v.hand.task ≡ Some t → v.ext.sem.wait ≡ Reads → 1 ≤ counted t q → granted_of (grants_in ws) (seen v) ≡ 0
    reads-ungranted t named wait listed_it = let a = r.sem.reads t in let w = r.sem.writes t in let c = counted-is t q in let alone = waits-alone t named in
        let m = total-at (reads_at t) (map seen vs) id (seen v) mine in let b : reads_at t (seen v) ≡ 1 = reads-at-w (seen v) t named Reads wait t ∙ is_number-here t in
        let g = total-at (granted_at (grants_in ws) t) (map seen vs) id (seen v) mine in let one : named_weight t (Some t) 1 ≡ 1 = is_number-here t in
        by-grant (granted_of (grants_in ws) (seen v)) (λ i. named_weight t (named i) (granted_of (grants_in ws) (seen v))) (omega (arith, a, w, c, alone, m, b, g, listed_it))
      where
        by-grant : (x : ℕ) → named_weight t v.hand.task x ≡ named_weight t (Some t) x → named_weight t v.hand.task x ≡ 0 → x ≡ 0
        by-grant zero e none = refl
        by-grant (suc x) e none = absurd (let one : named_weight t (Some t) (suc x) ≡ 1 = is_number-here t in omega (arith, e, none, one))

    writes-ungranted : v.ext.sem.wait ≡ Writes → granted_of (grants_in ws) (seen v) ≡ 0
    writes-ungranted wait = by-task v.hand.task
      where
        by-task : (task : Option ℕ) → granted_weight (grants_in ws) task v.ext.sem.wait ≡ 0
        by-task None = refl
        by-task (Some t) = ap (granted_weight (grants_in ws) (Some t)) wait

    leaves-duties : SpinHolds v.spin → (t : ℕ) (b : ListHand) → may_change (Leave t) v q → Duties (wake_words ws) (grants_in ws) (without t q) (set vs id (listed with_list (Leave t) v b))
    leaves-duties has t b (inl may) = duties-leave-taken (wake_words ws) (grants_in ws) (marks_in ws) (count_in ws) q vs id v (r.duty, r.staged) at r.sem t may.1 (only has) t b may
    leaves-duties has t b (inr (inl may)) = duties-leave-first (wake_words ws) (grants_in ws) (marks_in ws) (count_in ws) q vs id v (r.duty, r.staged) at r.sem t may.0.0 (only has) t b may
        (elim may.3 [ inl reads ↦ reads-ungranted t may.0.0 reads (first-counts t q may.4) | inr writes ↦ writes-ungranted writes ])
    leaves-duties has t b (inr (inr (inl may))) = duties-leave-behind (wake_words ws) (grants_in ws) (marks_in ws) (count_in ws) q vs id v (r.duty, r.staged) at r.sem t may.0.0 (only has) t b may
        (elim may.2 [ inl reads ↦ reads-ungranted t may.0.0 reads.1 (armed-there t has may.0.0 reads.0 reads.1) | inr writes ↦ writes-ungranted writes.1 ])
    leaves-duties has t b (inr (inr (inr may))) = duties-pick (wake_words ws) (grants_in ws) (marks_in ws) (count_in ws) q vs id v (r.duty, r.staged) at r.sem may.1.0 may.1.1 (only has) t b may.0
        may.3 (reader-small t q r.list.sound.small may.2.0)
      where
        reader-small : (t : ℕ) (l : List Waiter) → AreTasks l → IsFirstReader t l → t < MAX_TASKS
        reader-small t [] all first = absurd first
        reader-small t (w ∷ l) all (inl is) = let a = all.0 in let e = is.1 in omega (arith, a, e)
        reader-small t (w ∷ l) all (inr more) = reader-small t l all.1 more.1

    -- what a task's leave makes of wakes
    leaves-wakes : SpinHolds v.spin → (t : ℕ) (b : ListHand) → may_change (Leave t) v q → Wakes (Leave t) b
    leaves-wakes has t b may = by-may may
      where
        u : V
        u = listed with_list (Leave t) v b

        After : SemWake → Type 0
        After x = WakesGo (count_in ws) (count_in ws) q (Leave t) (grants_in ws) (wake_words ws) (wake_words ws) (holds_in v.spin) (seen v) (seen u) (wake_stands v.ext.wake) (wake_stands x)

        -- it holds as before, and keeps its bias
        on : HoldsOn (seen v) (seen u)
        on = inr (inr (refl, (let e : transit_of (seen u) ≡ transit_of (seen v) = ap transit_weight (parted-bias v.ext.sem.stage v.ext.sem.wait t (length b.list) v.ext.sem) in omega (arith, e))))

        -- it stops waiting
        leaves : v.hand.task ≡ Some t → (o : Bool) → (v.ext.wake.owing ≡ true → o ≡ true) → (v.ext.wake.owing ≡ false → o ≡ true → first_code q ≡ t + 1)
            → (first_code q ≡ t + 1 → v.hand.held ≢ Alone → o ≡ true) → After (leaves_wake o v.ext.wake)
        leaves mine o keeps first must = goes-leaves (count_in ws) (count_in ws) q (Leave t) (grants_in ws) (wake_words ws) (wake_words ws) (holds_in v.spin) (seen v) (seen u) v.ext.wake refl t refl
            mine o keeps first on must

        leaves-same : v.hand.task ≡ Some t → (first_code q ≡ t + 1 → v.hand.held ≢ Alone → ⊥) → After (leaves_wake v.ext.wake.owing v.ext.wake)
        leaves-same mine not = leaves mine v.ext.wake.owing (λ e. e) (λ e e'. not-both v.ext.wake.owing e e') (λ first other. absurd (not first other))

        -- the pass chooses the next of its batch
        picks : Picks (seen v) q t → After (chooses_task t v.ext.wake)
        picks picked_it = goes-chooses (count_in ws) (count_in ws) q (Leave t) (grants_in ws) (wake_words ws) (wake_words ws) (holds_in v.spin) (seen v) (seen u) v.ext.wake refl
            (λ w e. leave-enters t w e) (ap holds_at has) t (inl (refl, picked_it)) on

        picks-at : MayPick v.ext.sem → After (chooses_task t v.ext.wake) → After (parted_wake v.ext.sem.stage v.ext.sem.wait t v.ext.wake)
        picks-at (inl is) = subst (λ (z : Stage × Wait). After (parted_wake z.0 z.1 t v.ext.wake)) (λ i. (sym is.0 i, sym is.1 i))
        picks-at (inr (inl (x, is))) = subst (λ (z : Stage). After (parted_wake z v.ext.sem.wait t v.ext.wake)) (sym is)
        picks-at (inr (inr is)) = subst (λ (z : Stage). After (parted_wake z v.ext.sem.wait t v.ext.wake)) (sym is)

        by-may : may_change (Leave t) v q → After (parted_wake v.ext.sem.stage v.ext.sem.wait t v.ext.wake)
        by-may (inl taken) = subst (λ (z : Stage). After (parted_wake z v.ext.sem.wait t v.ext.wake)) (sym taken.0) (leaves-same taken.1 (λ _ other. other ((r.staged id v at).took taken.0)))
        by-may (inr (inl first)) = subst (λ (z : Stage). After (parted_wake z v.ext.sem.wait t v.ext.wake)) (sym first.1) (leaves first.0.0 true (λ _. refl) (λ _ _. first.4) (λ _ _. refl))
        by-may (inr (inr (inl behind))) = elim behind.2 [
          | inl reads ↦ subst (λ (z : Stage). After (parted_wake z v.ext.sem.wait t v.ext.wake)) (sym reads.0) (leaves-same behind.0.0 (λ first _. behind.1 first))
          | inr writes ↦ subst (λ (z : Stage × Wait). After (parted_wake z.0 z.1 t v.ext.wake)) (λ i. (sym writes.0 i, sym writes.1 i)) (leaves-same behind.0.0 (λ first _. behind.1 first))
        ]
        by-may (inr (inr (inr picked_it))) = picks-at picked_it.0 (picks picked_it.2)

    -- who is to join has no batch under way
    joins-none : (writer : Bool) → MayJoin writer v.ext.sem → v.ext.sem.rest ≡ []
    joins-none true join = no-rest Rest join.0 refl
    joins-none false join = no-rest Armed join.0 refl

    pub sem-lists : (i n : ℕ) (c : Change) (b : ListHand) → i < LIST_WORDS → SpinHolds v.spin → may_change c v q → b.list ≡ changed c q → LeaverGoes c v.ext.list.leaver b.leaver
        → ListKept (set (list_words ws) i n) (changed c q) (set (map parted vs) id (v.spin, b)) → Go k id ws vs (set ws (list_at + i) n) (set vs id (listed with_list c v b))
    sem-lists i n Stay b inside has may is leaver list = lists-by i n Stay b has inside list tt tt tt (stays-facts has)
        (duties-stay (wake_words ws) (grants_in ws) q vs id v (r.duty, r.staged) at (listed with_list Stay v b) refl refl refl refl)
        (still-goes (count_in ws) (count_in ws) q (grants_in ws) (wake_words ws) (holds_in v.spin) (seen v) (seen (listed with_list Stay v b)) v.ext.wake (inr (inr (refl, omega arith))))
    sem-lists i n (Enter w) b inside has may is leaver list = lists-by i n (Enter w) b has inside list (sem-list-may (Enter w) has may) (parted v, at_map parted vs id v at, ap holds_at has)
        (v, at, may.0, may.1, joins-none w.writer may.3) (enters-facts has w b may is)
        (duties-enter (wake_words ws) (grants_in ws) (marks_in ws) (count_in ws) q vs id v (r.duty, r.staged) at r.sem w.task may.0 (only has) w b may.0 may.2 may.3
        (λ reads. armed-word has w.task may.0 w.writer reads may.3))
        (goes-wait_state (count_in ws) (count_in ws) q (Enter w) (grants_in ws) (wake_words ws) (wake_words ws) (holds_in v.spin) (seen v) (seen (listed with_list (Enter w) v b)) v.ext.wake refl Awake
        (λ _ _. refl) (λ _ _. (w, refl)) (λ e e'. absurd (omega (arith, e'))) (λ _. inl ((w, refl), refl))
        (λ m. none-owed (count_in ws) q (Enter w) (seen v) (seen (listed with_list (Enter w) v b)) (wake_stands v.ext.wake) (wake_stands (record v.ext.wake { wait_state = Awake })) (enter-leaves w)
        (inr (inr (refl, omega arith))) m))
    sem-lists i n (Leave t) b inside has may is leaver list = lists-by i n (Leave t) b has inside list (sem-list-may (Leave t) has may) (parted v, at_map parted vs id v at, ap holds_at has)
        (leaves-by has t (length b.list) may)
        (subst (λ (z : List Waiter). Facts (without t q) (parted_at v.ext.sem.stage v.ext.sem.wait t (length z) v.ext.sem)) (sym is) (leaves-facts has t may)) (leaves-duties has t b may)
        (leaves-wakes has t b may)

    -- a load of the head
    pub sem-firsts : Go k id ws vs ws (set vs id (sighted saw_first v (get_or (list_words ws) 0 0)))
    sem-firsts = let w : V = sighted saw_first v (get_or (list_words ws) 0 0) in
        goes-on o size k ws vs q r id v at ws (set vs id w) r.wide (keep_part hand_of (SiteKept o unavailable size k (site k ws)) vs id v w at refl r.site_holds)
        (set-moves id (site k ws) (site k ws) vs v w at (hold-moved (site k ws) v v.hand w.ext (hand-stays v.hand) (inl (saw-stays v.hand)))) w (set-there vs id v w at)
        (keep_part spin_part (SpinMoves id (spin_words ws) (map spin_part vs) (spin_words ws)) vs id v w at refl (spin-same id (spin_words ws) (map spin_part vs) r.spin))
        (keep_part parted (ListKept (list_words ws) q) vs id v w at refl r.list)
        refl refl
        (keep_part seen (Sem o size (sem_words ws) q) vs id v w at refl r.sem)
        (each-set IsLocked IsLocked vs id w (r.locked id v at) (λ j x _ _ p. p) r.locked)
        (by-look (may_look v) refl)
        (hands-same o size k ws vs q r id v at (set vs id w) (keep_part seen (λ z. z ≡ map seen vs) vs id v w at refl refl)) refl refl refl (λ other. absurd (other refl))
        (look-goes (count_in ws) q (grants_in ws) (wake_words ws) (holds_in v.spin) (seen v) (seen w) v.ext.wake (inr (inr (refl, omega arith))) (may_look v) v.ext.list.list
        (λ is. let k = knows is in (k.0, k.1)))
      where
        After : Bool → Type 0
        After c = Duties (wake_words ws) (grants_in ws) q (set vs id (record v { steps = v.steps + 1; ext = record v.ext { wake = looked c v.hand.held v.ext.list.list v.ext.wake } }))

        both : (a b : Bool) → (a && b) ≡ true → (a ≡ true) × (b ≡ true)
        both true b e = (refl, e)
        both false b e = not-both false refl e

        equal : (x y : ℕ) → (x == y) ≡ true → x ≡ y
        equal x y e = elim (native.Mathlib.Decide.ℕ_discrete x y) [ yes is ↦ is | no other ↦ not-both (x == y) (ne_eqb x y other) e ]

        clear-is : (b : Bias) → is_clear b ≡ true → b ≡ Clear
        clear-is Clear e = refl
        clear-is (Transit m) e = not-both false refl e
        clear-is (Reserve m) e = not-both false refl e

        numbered : (t : Option ℕ) → has_number t ≡ true → (own : ℕ) × (t ≡ Some own)
        numbered None e = not-both false refl e
        numbered (Some t) e = (t, refl)

        -- what its test says
        knows : may_look v ≡ true → (holds_in v.spin ≡ 1) × (v.ext.list.list ≡ q) × (v.ext.sem.bias ≡ Clear) × ((own : ℕ) × (v.hand.task ≡ Some own))
        knows is = let c = both ((holds_in v.spin == 1) && (v.ext.list.since == v.spin.entries) && is_clear v.ext.sem.bias) (has_number v.hand.task) is in
            let b = both ((holds_in v.spin == 1) && (v.ext.list.since == v.spin.entries)) (is_clear v.ext.sem.bias) c.0 in
            let a = both (holds_in v.spin == 1) (v.ext.list.since == v.spin.entries) b.0 in
            let holds = equal (holds_in v.spin) 1 a.0 in (
              holds,
              (list-known (list_words ws) q (map parted vs) id (parted v) r.list (at_map parted vs id v at) (one-takes o size k ws vs q r) (holds, equal v.ext.list.since v.spin.entries a.1)).0,
              clear-is v.ext.sem.bias b.1,
              numbered v.hand.task c.1,
            )

        by-look : (c : Bool) → may_look v ≡ c → After (may_look v)
        by-look false is = subst After (sym is) (duties-stay (wake_words ws) (grants_in ws) q vs id v (r.duty, r.staged) at (record v { steps = v.steps + 1 }) refl refl refl refl)
        by-look true is = let k' = knows is in subst After (sym is) (duties-look (wake_words ws) (grants_in ws) (marks_in ws) (count_in ws) q vs id v (r.duty, r.staged) at r.sem k'.3.0 k'.3.1
            (sem-only-in o size k ws vs q r id v at k'.0) (v.steps + 1) k'.2 k'.1 r.list.sound.small)
