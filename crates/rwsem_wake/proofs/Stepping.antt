-- A step on the count, a mark or a grant word, from what it makes of the semaphore's own facts.
use Rattle.std.proofs.Common.{◌≡◌, ◌≢◌, ℕ, ◌+◌, ◌*◌, ◌<◌, ◌≤◌, inl, Bool, true, if◌then◌else◌, List, [], ◌∷◌, length, map, take, get_or, set, Some, None, sym, refl, ap, ◌∙◌, subst, arith, get_or-set_same, get_or-set_other}
use mathlib.Core.Option.{some}
use lib.ListN.{get_elem?}
use Rattle.atomic_table.specs.Table.{Me, keeps}
use Rattle.atomic_table.proofs.Lists.{at_map, set_again}
use Rattle.word_bits.specs.declared.TheConstants.{MAX_TASKS}
use Rattle.word_bits.specs.LockWords.{Unavailable, IsLawfulCount}
use Rattle.word_bits.specs.Objects.{Obj}
use Rattle.word_bits.specs.Histories.{Plan}
use Rattle.lock_core.specs.declared.layout.TheConstants.{LOCK_WORDS, SPIN_WORDS}
use Rattle.lock_core.specs.Layout.{SiteWords, site, part}
use Rattle.lock_core.specs.Ops.{word_after}
use Rattle.lock_core.specs.SpinFrames.{holds_of, holds_at}
use Rattle.lock_core.specs.Spins.{SpinsKept, frame_of, holds_in}
use Rattle.lock_core.specs.Holding.{Learns}
use Rattle.lock_core.specs.Views.{SpinHolds, hand_of, spin_part, held_of, alone_of, alone_weight, named_of, is_number, took}
use Rattle.lock_core.specs.Totals.{total}
use Rattle.lock_core.specs.Sites.{KeepsSaw, SiteKept}
use Rattle.lock_core.specs.Moves.{Goes, Lets}
use Rattle.lock_core.specs.SitePlays.{Turns}
use Rattle.lock_core.proofs.HandLaws.{false-or-true, not-both}
use Rattle.lock_core.proofs.HoldSteps.{quiet-state, site-takes}
use Rattle.lock_core.proofs.RowLaws.{none-some}
use Rattle.wait_list.specs.declared.words.TheConstants.{LIST_WORDS}
use Rattle.wait_list.specs.Lists.{Part, ListKept, IsList, Knows, list_part, takes_of}
use Rattle.wait_list.specs.Laws.List.{list-known}
use Rattle.rwsem_count.specs.Counts.{CountPart, HandStep, alone_in, shared_in, count_part}
use Rattle.rwsem_count.proofs.Counting.{held-parts, its-plan}
use Rattle.rwsem_wake.specs.SemParts.{SemPart, part_of, busy_weight, busy_of}
use Rattle.rwsem_wake.specs.GrantSemaphores.{SemKept}
use Rattle.rwsem_wake.specs.Handoffs.{KeepsHandoff}
use Rattle.rwsem_wake.specs.Lines.{lines_in}
use Rattle.rwsem_wake.specs.Grants.{sem_part, semmed, with_changes}
use Rattle.rwsem_wake.specs.Duties.{WakeGoes}
use Rattle.rwsem_wake.specs.GrantQueues.{HoldsWhere}
use Rattle.rwsem_wake.specs.Types.{Op, View, Hand, Held, No, Waiter, ListHand, SemWake, SemHand}
use Rattle.rwsem_wake.proofs.Sums.{busy-most}
use Rattle.rwsem_wake.proofs.Lines.{length-lines, lines-at, lines-set, lines-else}

abbrev pub named_in : ℕ → SemPart → ℕ
named_in t v = is_number t v.task

-- what a step of the pass of this number may use
pub record Local (sees : List SemPart) (id : ℕ) (v : SemPart) (known : Part) (n : ℕ) (q : List Waiter) (marks grants : List ℕ) : Type 0 where
  pub kept : SemKept n q marks grants sees
  pub lawful : IsLawfulCount n
  pub mine : get_elem? sees id ≡ some v
  pub list : Knows known → known.1.list ≡ q
  pub sound : IsList q
  pub marks_wide : length marks ≡ MAX_TASKS
  pub grants_wide : length grants ≡ MAX_TASKS
  pub named : (t : ℕ) → t < MAX_TASKS → total (named_in t) sees ≤ 1

abbrev pub with_hand : SemPart → SemHand → SemPart
with_hand v s = record v { sem = s }

-- a view with this hand and this part
abbrev pub turned : Hand → SemHand → SemPart
turned h s = record { task = h.task; held = h.held; sem = s }

module _ {E Call : Type 0} (o : Obj Call) (unavailable : Unavailable) (size : ℕ) (k : Plan) (locks first list_at count marks_at grants_at : ℕ) (list : E → ListHand) (sem : E → SemHand) (with_sem : E → SemHand → E) (wake : E → SemWake) (with_wake : E → SemWake → E)
    (wake_same : (e : E) (s : SemHand) → with_wake (with_sem e s) (wake e) ≡ with_sem e s)
    (holds : List ℕ → List (View E) → Type 0) (moves : ℕ → List ℕ → List (View E) → List ℕ → List (View E) → Type 0) (queue : List ℕ → List (View E) → List Waiter → Type 0)
    (site_kept : (ws : List ℕ) (vs : List (View E)) → holds ws vs → SiteKept o unavailable size k (site k ws) (map hand_of vs))
    (spin_kept : (ws : List ℕ) (vs : List (View E)) → holds ws vs → SpinsKept locks (part first SPIN_WORDS ws) (map spin_part vs))
    (queued : (ws : List ℕ) (vs : List (View E)) → holds ws vs → (q : List Waiter) × queue ws vs q)
    (list_kept : (ws : List ℕ) (vs : List (View E)) (q : List Waiter) → queue ws vs q → ListKept (part list_at LIST_WORDS ws) q (map (list_part list) vs))
    (places : (count < marks_at) × (marks_at + 8 * MAX_TASKS ≤ grants_at) × (grants_at + 8 * MAX_TASKS ≤ LOCK_WORDS))
    (sem_kept : (ws : List ℕ) (vs : List (View E)) (q : List Waiter) → queue ws vs q → SemKept (get_or ws count 0) q (lines_in marks_at ws) (lines_in grants_at ws) (map (sem_part sem) vs) × IsLawfulCount (get_or ws count 0) × (LOCK_WORDS ≤ length ws))
    (sem_only : (ws : List ℕ) (vs : List (View E)) (q : List Waiter) (id : ℕ) (v : View E) → queue ws vs q → get_elem? vs id ≡ some v → SpinHolds v.spin → total busy_of (map (sem_part sem) vs) ≡ busy_weight (sem v.ext).stage)
    (sems : (ws : List ℕ) (vs : List (View E)) (q : List Waiter) (id i n : ℕ) (v : View E) (h : Hand) (s : SemHand) (b : SemWake) → queue ws vs q → get_elem? vs id ≡ some v → count ≤ i → i < grants_at + 8 * MAX_TASKS → (count < i → marks_at ≤ i) → busy_weight s.stage ≤ holds_in v.spin → HandStep v.hand h (get_or (set ws i n) count 0) → KeepsSaw v.hand h
    → SemKept (get_or (set ws i n) count 0) q (lines_in marks_at (set ws i n)) (lines_in grants_at (set ws i n)) (set (map (sem_part sem) vs) id (record { task = h.task; held = h.held; sem = s }))
    → KeepsHandoff id (get_or ws count 0) q (lines_in marks_at ws) (lines_in grants_at ws) (map (sem_part sem) vs) (get_or (set ws i n) count 0) (lines_in marks_at (set ws i n)) (lines_in grants_at (set ws i n)) (set (map (sem_part sem) vs) id (record { task = h.task; held = h.held; sem = s }))
    → WakeGoes (get_or ws count 0) q (lines_in grants_at ws) (map (sem_part sem) vs) (get_or (set ws i n) count 0) (lines_in grants_at (set ws i n)) (sem_part sem v) (record { task = h.task; held = h.held; sem = s }) (wake v.ext) b
    → SiteKept o unavailable size k (site k ws) (set (map hand_of vs) id h) → Goes holds moves id ws vs (set ws i n) (set vs id (with_changes with_sem with_wake v h s b))) where
  abbrev M : Type 0
  M = Me (Unit {0}) (View E)

  abbrev Kept : SiteWords → List Hand → Type 0
  Kept = SiteKept o unavailable size k

  names-are : (t : ℕ) (vs : List (View E)) → total (named_in t) (map (sem_part sem) vs) ≡ total (named_of t) (map hand_of vs)
  names-are t [] = refl
  names-are t (v ∷ vs) = let e = names-are t vs in omega arith

  alones-are : (vs : List (View E)) → total alone_of (map hand_of vs) ≡ total alone_in (map part_of (map (sem_part sem) vs))
  alones-are [] = refl
  alones-are (v ∷ vs) = let e = alones-are vs in omega arith

  parts-are : (vs : List (View E)) → map (count_part (λ e. (sem e).bias)) vs ≡ map part_of (map (sem_part sem) vs)
  parts-are [] = refl
  parts-are (v ∷ vs) = ap (λ (z : List CountPart). part_of (sem_part sem v) ∷ z) (parts-are vs)

  helds-are : (vs : List (View E)) → total held_of (map hand_of vs) ≡ total alone_in (map part_of (map (sem_part sem) vs)) + total shared_in (map part_of (map (sem_part sem) vs))
  helds-are vs = subst (λ (z : List CountPart). total held_of (map hand_of vs) ≡ total alone_in z + total shared_in z) (parts-are vs) (held-parts (λ e. (sem e).bias) vs)

  takes-total : (vs : List (View E)) → total takes_of (map (list_part list) vs) ≡ total holds_of (map frame_of (map spin_part vs))
  takes-total [] = refl
  takes-total (v ∷ vs) = ap (λ (z : ℕ). holds_in v.spin + z) (takes-total vs)

  local : (ws : List ℕ) (vs : List (View E)) (q : List Waiter) (id : ℕ) (v : View E) → holds ws vs → queue ws vs q → get_elem? vs id ≡ some v → Local (map (sem_part sem) vs) id (sem_part sem v) (list_part list v) (get_or ws count 0) q (lines_in marks_at ws) (lines_in grants_at ws)
  local ws vs q id v h r at = let kept = sem_kept ws vs q r in let l = list_kept ws vs q r in let b = (spin_kept ws vs h).1.lock.balanced.comes in record {
    kept = kept.0;
    lawful = kept.1;
    mine = at_map (sem_part sem) vs id v at;
    list = λ knows. (list-known (part list_at LIST_WORDS ws) q (map (list_part list) vs) id (list_part list v) l (at_map (list_part list) vs id v at) (let c = takes-total vs in omega (arith, b, c)) knows).0;
    sound = l.sound;
    marks_wide = length-lines marks_at ws;
    grants_wide = length-lines grants_at ws;
    named = λ t few. let a = ((site_kept ws vs h).balances.named t few).1 in let b = names-are t vs in omega (arith, a, b);
  }

  -- A word of these: how it is read off the count, the marks and the grant words, and what they are when this is stored in it
  pub record Word (i : ℕ) (found : ℕ → List ℕ → List ℕ → ℕ) (word : ℕ → ℕ → ℕ) (ms gs : List ℕ → ℕ → List ℕ) : Type 0 where
    pub above : count ≤ i
    pub inside : i < grants_at + 8 * MAX_TASKS
    pub apart : count < i → marks_at ≤ i
    pub is : (ws : List ℕ) → LOCK_WORDS ≤ length ws → found (get_or ws count 0) (lines_in marks_at ws) (lines_in grants_at ws) ≡ get_or ws i 0
    pub word_is : (ws : List ℕ) (x : ℕ) → LOCK_WORDS ≤ length ws → get_or (set ws i x) count 0 ≡ word (get_or ws count 0) x
    pub marks_are : (ws : List ℕ) (x : ℕ) → LOCK_WORDS ≤ length ws → lines_in marks_at (set ws i x) ≡ ms (lines_in marks_at ws) x
    pub grants_are : (ws : List ℕ) (x : ℕ) → LOCK_WORDS ≤ length ws → lines_in grants_at (set ws i x) ≡ gs (lines_in grants_at ws) x

  module _ (i : ℕ) (found : ℕ → List ℕ → List ℕ → ℕ) (word : ℕ → ℕ → ℕ) (ms gs : List ℕ → ℕ → List ℕ) (there : Word i found word ms gs) where
    -- what a step on it comes to, whatever the table is
    abbrev pub Comes : (id : ℕ) (me : M) → Op → (ℕ → M → Type 0) → Type 0
    Comes id me op tells = (n : ℕ) (q : List Waiter) (marks grants : List ℕ) (sees : List SemPart) (w : SiteWords) (hs : List Hand) → Local sees id (sem_part sem me.0) (list_part list me.0) n q marks grants → (SpinHolds me.0.spin → total busy_of sees ≡ busy_weight (sem me.0.ext).stage)
        → Kept w hs → get_elem? hs id ≡ some me.0.hand → total alone_of hs ≡ total alone_in (map part_of sees) → total held_of hs ≡ total alone_in (map part_of sees) + total shared_in (map part_of sees)
        → (let m = found n marks grants in let x = word_after op m in (h : Hand) × (s : SemHand) × (b : SemWake) × HandStep me.0.hand h (word n x) × KeepsSaw me.0.hand h × (busy_weight s.stage ≤ holds_in me.0.spin) × SemKept (word n x) q (ms marks x) (gs grants x) (set sees id (turned h s))
        × KeepsHandoff id n q marks grants sees (word n x) (ms marks x) (gs grants x) (set sees id (turned h s)) × WakeGoes n q grants sees (word n x) (gs grants x) (sem_part sem me.0) (turned h s) (wake me.0.ext) b × Kept w (set hs id h) × tells m (with_changes with_sem with_wake me.0 h s b, me.1))

    pub word-goes : (slots id : ℕ) (me : M) (op : Op) (tells : ℕ → M → Type 0) → Comes id me op tells → Lets holds moves slots id me i op tells
    word-goes slots id me op tells comes st h _ at small = let v = me.0 in let ws = st.words in let vs = st.views in let q = queued ws vs h in let r = sem_kept ws vs q.0 q.1 in let wide = r.2 in
        let sees : List SemPart = map (sem_part sem) vs in let n : ℕ = get_or ws count 0 in let marks = lines_in marks_at ws in let grants = lines_in grants_at ws in
        let t = comes n q.0 marks grants sees (site k ws) (map hand_of vs) (local ws vs q.0 id v h q.1 at) (sem_only ws vs q.0 id v q.1 at) (site_kept ws vs h) (at_map hand_of vs id v at) (alones-are vs) (helds-are vs) in
        let m = there.is ws wide in let y : ℕ = word_after op (found n marks grants) in let x : ℕ = word_after op (get_or ws i 0) in let xy : x ≡ y = ap (word_after op) (sym m) in
        let wd : get_or (set ws i x) count 0 ≡ word n y = there.word_is ws x wide ∙ ap (word n) xy in let mk : lines_in marks_at (set ws i x) ≡ ms marks y = there.marks_are ws x wide ∙ ap (ms marks) xy in let gr : lines_in grants_at (set ws i x) ≡ gs grants y = there.grants_are ws x wide ∙ ap (gs grants) xy in (
          with_changes with_sem with_wake v t.0 t.1 t.2,
          keeps,
          tt,
          sems ws vs q.0 id i x v t.0 t.1 t.2 q.1 at there.above there.inside there.apart t.5 (subst (HandStep v.hand t.0) (sym wd) t.3) t.4
              (subst (λ (z : ℕ × List ℕ × List ℕ). SemKept z.0 q.0 z.1 z.2 (set sees id (turned t.0 t.1))) (λ j. (sym wd j, sym mk j, sym gr j)) t.6)
              (subst (λ (z : ℕ × List ℕ × List ℕ). KeepsHandoff id n q.0 marks grants sees z.0 z.1 z.2 (set sees id (turned t.0 t.1))) (λ j. (sym wd j, sym mk j, sym gr j)) t.7)
              (subst (λ (z : ℕ × List ℕ). WakeGoes n q.0 grants sees z.0 z.1 (sem_part sem v) (turned t.0 t.1) (wake v.ext) t.2) (λ j. (sym wd j, sym gr j)) t.8) t.9,
          refl,
          subst (λ (z : ℕ). tells z (with_changes with_sem with_wake v t.0 t.1 t.2, me.1)) m t.10,
        )

    -- what a step under the wait lock comes to that leaves how its pass holds
    abbrev pub OnChange : (id : ℕ) (me : M) → Op → (ℕ → SemHand) → (ℕ → SemWake) → (ℕ → Type 0) → Type 0
    OnChange id me op does attends tells = (n : ℕ) (q : List Waiter) (marks grants : List ℕ) (sees : List SemPart) → Local sees id (sem_part sem me.0) (list_part list me.0) n q marks grants → total busy_of sees ≡ busy_weight (sem me.0.ext).stage
        → (let m = found n marks grants in let x = word_after op m in let us = set sees id (with_hand (sem_part sem me.0) (does m)) in SemKept (word n x) q (ms marks x) (gs grants x) us × KeepsHandoff id n q marks grants sees (word n x) (ms marks x) (gs grants x) us
        × WakeGoes n q grants sees (word n x) (gs grants x) (sem_part sem me.0) (with_hand (sem_part sem me.0) (does m)) (wake me.0.ext) (attends m) × tells m)

    -- it leaves what the pass knows of wakes
    abbrev pub OnWord : (id : ℕ) (me : M) → Op → (ℕ → SemHand) → (ℕ → Type 0) → Type 0
    OnWord id me op does tells = OnChange id me op does (λ _. wake me.0.ext) tells

    attends-there : (slots id : ℕ) (me : M) (op : Op) (does : ℕ → SemHand) (attends : ℕ → SemWake) (tells : ℕ → Type 0) → SpinHolds me.0.spin → me.0.hand.task ≢ None → OnChange id me op does attends tells → Lets holds moves slots id me i op (λ n m'. tells n × Turns me (with_changes with_sem with_wake me.0 me.0.hand (does n) (attends n)) m')
    attends-there slots id me op does attends tells has numbered step = word-goes slots id me op (λ n m'. tells n × Turns me (with_changes with_sem with_wake me.0 me.0.hand (does n) (attends n)) m') (λ n q marks grants sees w hs loc only r mine alones helds.
        let t = step n q marks grants sees loc (only has) in let m : ℕ = found n marks grants in let b = busy-most (does m).stage in let one : holds_in me.0.spin ≡ 1 = ap holds_at has in (
          me.0.hand,
          does m,
          attends m,
          record { numbered = numbered; task = refl; goes = (record { misses = omega arith; freed = λ e. refl; takes = omega arith; comes = λ l. omega (arith, l) }, refl, refl); left = λ held other. absurd (other refl) },
          (refl, inl (refl, refl)),
          omega (arith, b, one),
          t.0,
          t.1,
          t.2,
          subst (Kept w) (sym (set_again hs id me.0.hand mine)) r,
          (t.3, (refl, refl)),
        ))

    pub word-attends : (slots id at : ℕ) (me : M) (op : Op) (does : ℕ → SemHand) (attends : ℕ → SemWake) (tells : ℕ → Type 0) → at ≡ i → SpinHolds me.0.spin → me.0.hand.task ≢ None → OnChange id me op does attends tells → Lets holds moves slots id me at op (λ n m'. tells n × Turns me (with_changes with_sem with_wake me.0 me.0.hand (does n) (attends n)) m')
    word-attends slots id at me op does attends tells is has numbered step = subst (λ (z : ℕ). Lets holds moves slots id me z op (λ n m'. tells n × Turns me (with_changes with_sem with_wake me.0 me.0.hand (does n) (attends n)) m')) (sym is) (attends-there slots id me op does attends tells has numbered step)

    pub word-does : (slots id at : ℕ) (me : M) (op : Op) (does : ℕ → SemHand) (tells : ℕ → Type 0) → at ≡ i → SpinHolds me.0.spin → me.0.hand.task ≢ None → OnWord id me op does tells → Lets holds moves slots id me at op (λ n m'. tells n × Turns me (semmed with_sem me.0 me.0.hand (does n)) m')
    word-does slots id at me op does tells is has numbered step = subst (λ (f : ℕ → View E). Lets holds moves slots id me at op (λ n m'. tells n × Turns me (f n) m')) (λ j n. record me.0 { steps = me.0.steps + 1; ext = wake_same me.0.ext (does n) j }) (word-attends slots id at me op does (λ _. wake me.0.ext) tells is has numbered step)

    -- what a step comes to by which its pass may come to hold so: where it does, nobody holds alone, and nobody at all where it is to hold alone
    abbrev pub OnHold : (id : ℕ) (me : M) → Op → Held → (gets : ℕ → Bool) → (does : ℕ → SemHand) → (attends : ℕ → SemWake) → (ℕ → Type 0) → Type 0
    OnHold id me op held gets does attends tells = (n : ℕ) (q : List Waiter) (marks grants : List ℕ) (sees : List SemPart) → Local sees id (sem_part sem me.0) (list_part list me.0) n q marks grants → (SpinHolds me.0.spin → total busy_of sees ≡ busy_weight (sem me.0.ext).stage)
        → (let m = found n marks grants in let x = word_after op m in let us = set sees id (record { task = me.0.hand.task; held = if gets m then held else No; sem = does m }) in (busy_weight (does m).stage ≤ holds_in me.0.spin) × SemKept (word n x) q (ms marks x) (gs grants x) us
        × KeepsHandoff id n q marks grants sees (word n x) (ms marks x) (gs grants x) us × WakeGoes n q grants sees (word n x) (gs grants x) (sem_part sem me.0) (record { task = me.0.hand.task; held = if gets m then held else No; sem = does m }) (wake me.0.ext) (attends m) × (gets m ≡ true → (total alone_in (map part_of sees) ≡ 0) × (0 < alone_weight held → total shared_in (map part_of sees) ≡ 0)) × tells m)

    holds-there : (slots id t : ℕ) (me : M) (op : Op) (held : Held) (gets : ℕ → Bool) (does : ℕ → SemHand) (attends : ℕ → SemWake) (tells : ℕ → Type 0) → me.0.hand.task ≡ Some t → me.0.hand.held ≡ No → held ≢ No → OnHold id me op held gets does attends tells → Lets holds moves slots id me i op (HoldsWhere with_sem with_wake o held gets does attends tells me)
    holds-there slots id t me op held gets does attends tells has out some_hold step = word-goes slots id me op (HoldsWhere with_sem with_wake o held gets does attends tells me) (λ n q marks grants sees w hs loc only r mine alones helds.
        let m : ℕ = found n marks grants in let x : ℕ = word_after op m in let v = me.0 in let s = step n q marks grants sees loc only in let numbered : v.hand.task ≢ None = λ e. none-some t (sym e ∙ has) in
        let After : Held → Type 0 = λ z. (let us = set sees id (record { task = v.hand.task; held = z; sem = does m }) in SemKept (word n x) q (ms marks x) (gs grants x) us × KeepsHandoff id n q marks grants sees (word n x) (ms marks x) (gs grants x) us
        × WakeGoes n q grants sees (word n x) (gs grants x) (sem_part sem v) (record { task = v.hand.task; held = z; sem = does m }) (wake v.ext) (attends m)) in
        let facts : After (if gets m then held else No) = (s.1, s.2, s.3) in false-or-true (gets m)
        (λ yes_it. let now : After held = subst (λ (z : Bool). After (if z then held else No)) yes_it facts in let known : List ℕ = take size w.guarded in let none_alone : total alone_of hs ≡ 0 = (let z = (s.4 yes_it).0 in omega (arith, alones, z)) in (
          took v.hand held known r.log,
          does m,
          attends m,
          record { numbered = numbered; task = refl; goes = (record { misses = omega arith; freed = λ e. refl; takes = omega arith; comes = λ l. omega (arith, l) }, refl, refl); left = λ held. absurd (held out) },
          (refl, inl (refl, refl)),
          s.0,
          now.0,
          now.1,
          now.2,
          site-takes o unavailable size k w hs id t v.hand held r mine out has some_hold (λ l. let a = s.4 yes_it in let z = a.0 in let y = a.1 l in omega (arith, helds, z, y)) none_alone,
          (
            s.5,
            (λ _. let ok = r.each id v.hand mine in (known, r.log, (λ p plan. subst (λ (z : Plan). Learns o z v.hand known r.log) (its-plan k p v.hand.plan ok.plan plan) record { stored = quiet-state o unavailable size k w hs r none_alone; within = r.tells.within; begins = ok.seen }), (refl, refl))),
            λ no_it. not-both (gets m) no_it yes_it,
          ),
        ))
        (λ no_it. let now : After v.hand.held = subst After (sym out) (subst (λ (z : Bool). After (if z then held else No)) no_it facts) in (
          v.hand,
          does m,
          attends m,
          record { numbered = numbered; task = refl; goes = (record { misses = omega arith; freed = λ e. refl; takes = omega arith; comes = λ l. omega (arith, l) }, refl, refl); left = λ held other. absurd (other refl) },
          (refl, inl (refl, refl)),
          s.0,
          now.0,
          now.1,
          now.2,
          subst (Kept w) (sym (set_again hs id v.hand mine)) r,
          (s.5, (λ yes_it. not-both (gets m) no_it yes_it), λ _. (refl, refl)),
        )))

    pub word-holds : (slots id at t : ℕ) (me : M) (op : Op) (held : Held) (gets : ℕ → Bool) (does : ℕ → SemHand) (attends : ℕ → SemWake) (tells : ℕ → Type 0) → at ≡ i → me.0.hand.task ≡ Some t → me.0.hand.held ≡ No → held ≢ No → OnHold id me op held gets does attends tells → Lets holds moves slots id me at op (HoldsWhere with_sem with_wake o held gets does attends tells me)
    word-holds slots id at t me op held gets does attends tells is has out some_hold step = subst (λ (z : ℕ). Lets holds moves slots id me z op (HoldsWhere with_sem with_wake o held gets does attends tells me)) (sym is) (holds-there slots id t me op held gets does attends tells has out some_hold step)

  -- the count
  pub count-word : Word count (λ n marks grants. n) (λ n x. x) (λ marks x. marks) (λ grants x. grants)
  count-word = record {
    above = omega arith;
    inside = omega (arith, places);
    apart = λ l. absurd (omega (arith, l));
    is = λ ws wide. refl;
    word_is = λ ws x wide. get_or-set_same ws count x 0 (omega (arith, places, wide));
    marks_are = λ ws x wide. lines-else marks_at ws count x (λ t l e. omega (arith, places, e));
    grants_are = λ ws x wide. lines-else grants_at ws count x (λ t l e. omega (arith, places, e));
  }

  -- the mark of a task
  pub mark-word : (t : ℕ) → t < MAX_TASKS → Word (marks_at + 8 * t) (λ n marks grants. get_or marks t 0) (λ n x. n) (λ marks x. set marks t x) (λ grants x. grants)
  mark-word t few = record {
    above = omega (arith, places);
    inside = omega (arith, places, few);
    apart = λ l. omega arith;
    is = λ ws wide. lines-at marks_at ws t few;
    word_is = λ ws x wide. get_or-set_other ws (marks_at + 8 * t) count x 0 (λ e. omega (arith, places, e));
    marks_are = λ ws x wide. lines-set marks_at ws t x few (omega (arith, places, few, wide));
    grants_are = λ ws x wide. lines-else grants_at ws (marks_at + 8 * t) x (λ u l e. omega (arith, places, few, e));
  }

  -- the grant word of a task
  pub grant-word : (t : ℕ) → t < MAX_TASKS → Word (grants_at + 8 * t) (λ n marks grants. get_or grants t 0) (λ n x. n) (λ marks x. marks) (λ grants x. set grants t x)
  grant-word t few = record {
    above = omega (arith, places);
    inside = omega (arith, places, few);
    apart = λ l. omega (arith, places);
    is = λ ws wide. lines-at grants_at ws t few;
    word_is = λ ws x wide. get_or-set_other ws (grants_at + 8 * t) count x 0 (λ e. omega (arith, places, e));
    marks_are = λ ws x wide. lines-else marks_at ws (grants_at + 8 * t) x (λ u l e. omega (arith, places, l, e));
    grants_are = λ ws x wide. lines-set grants_at ws t x few (omega (arith, places, few, wide));
  }

  -- steps on them
  pub count-does : (slots id at : ℕ) (me : M) (op : Op) (does : ℕ → SemHand) (tells : ℕ → Type 0) → at ≡ count → SpinHolds me.0.spin → me.0.hand.task ≢ None → OnWord count (λ n marks grants. n) (λ n x. x) (λ marks x. marks) (λ grants x. grants) count-word id me op does tells → Lets holds moves slots id me at op (λ n m'. tells n × Turns me (semmed with_sem me.0 me.0.hand (does n)) m')
  count-does = word-does count (λ n marks grants. n) (λ n x. x) (λ marks x. marks) (λ grants x. grants) count-word

  pub count-attends : (slots id at : ℕ) (me : M) (op : Op) (does : ℕ → SemHand) (attends : ℕ → SemWake) (tells : ℕ → Type 0) → at ≡ count → SpinHolds me.0.spin → me.0.hand.task ≢ None → OnChange count (λ n marks grants. n) (λ n x. x) (λ marks x. marks) (λ grants x. grants) count-word id me op does attends tells → Lets holds moves slots id me at op (λ n m'. tells n × Turns me (with_changes with_sem with_wake me.0 me.0.hand (does n) (attends n)) m')
  count-attends = word-attends count (λ n marks grants. n) (λ n x. x) (λ marks x. marks) (λ grants x. grants) count-word

  pub mark-attends : (t : ℕ) (few : t < MAX_TASKS) (slots id at : ℕ) (me : M) (op : Op) (does : ℕ → SemHand) (attends : ℕ → SemWake) (tells : ℕ → Type 0) → at ≡ marks_at + 8 * t → SpinHolds me.0.spin → me.0.hand.task ≢ None → OnChange (marks_at + 8 * t) (λ n marks grants. get_or marks t 0) (λ n x. n) (λ marks x. set marks t x) (λ grants x. grants) (mark-word t few) id me op does attends tells → Lets holds moves slots id me at op (λ n m'. tells n × Turns me (with_changes with_sem with_wake me.0 me.0.hand (does n) (attends n)) m')
  mark-attends t few = word-attends (marks_at + 8 * t) (λ n marks grants. get_or marks t 0) (λ n x. n) (λ marks x. set marks t x) (λ grants x. grants) (mark-word t few)

  pub mark-does : (t : ℕ) (few : t < MAX_TASKS) (slots id at : ℕ) (me : M) (op : Op) (does : ℕ → SemHand) (tells : ℕ → Type 0) → at ≡ marks_at + 8 * t → SpinHolds me.0.spin → me.0.hand.task ≢ None → OnWord (marks_at + 8 * t) (λ n marks grants. get_or marks t 0) (λ n x. n) (λ marks x. set marks t x) (λ grants x. grants) (mark-word t few) id me op does tells → Lets holds moves slots id me at op (λ n m'. tells n × Turns me (semmed with_sem me.0 me.0.hand (does n)) m')
  mark-does t few = word-does (marks_at + 8 * t) (λ n marks grants. get_or marks t 0) (λ n x. n) (λ marks x. set marks t x) (λ grants x. grants) (mark-word t few)

  pub grant-does : (t : ℕ) (few : t < MAX_TASKS) (slots id at : ℕ) (me : M) (op : Op) (does : ℕ → SemHand) (tells : ℕ → Type 0) → at ≡ grants_at + 8 * t → SpinHolds me.0.spin → me.0.hand.task ≢ None → OnWord (grants_at + 8 * t) (λ n marks grants. get_or grants t 0) (λ n x. n) (λ marks x. marks) (λ grants x. set grants t x) (grant-word t few) id me op does tells → Lets holds moves slots id me at op (λ n m'. tells n × Turns me (semmed with_sem me.0 me.0.hand (does n)) m')
  grant-does t few = word-does (grants_at + 8 * t) (λ n marks grants. get_or grants t 0) (λ n x. n) (λ marks x. marks) (λ grants x. set grants t x) (grant-word t few)

  -- steps on them by which their pass may come to hold
  pub count-holds : (slots id at t : ℕ) (me : M) (op : Op) (held : Held) (gets : ℕ → Bool) (does : ℕ → SemHand) (attends : ℕ → SemWake) (tells : ℕ → Type 0) → at ≡ count → me.0.hand.task ≡ Some t → me.0.hand.held ≡ No → held ≢ No → OnHold count (λ n marks grants. n) (λ n x. x) (λ marks x. marks) (λ grants x. grants) count-word id me op held gets does attends tells → Lets holds moves slots id me at op (HoldsWhere with_sem with_wake o held gets does attends tells me)
  count-holds = word-holds count (λ n marks grants. n) (λ n x. x) (λ marks x. marks) (λ grants x. grants) count-word

  pub grant-holds : (t : ℕ) (few : t < MAX_TASKS) (slots id at own : ℕ) (me : M) (op : Op) (held : Held) (gets : ℕ → Bool) (does : ℕ → SemHand) (attends : ℕ → SemWake) (tells : ℕ → Type 0) → at ≡ grants_at + 8 * t → me.0.hand.task ≡ Some own → me.0.hand.held ≡ No → held ≢ No
      → OnHold (grants_at + 8 * t) (λ n marks grants. get_or grants t 0) (λ n x. n) (λ marks x. marks) (λ grants x. set grants t x) (grant-word t few) id me op held gets does attends tells → Lets holds moves slots id me at op (HoldsWhere with_sem with_wake o held gets does attends tells me)
  grant-holds t few = word-holds (grants_at + 8 * t) (λ n marks grants. get_or grants t 0) (λ n x. n) (λ marks x. marks) (λ grants x. set grants t x) (grant-word t few)
