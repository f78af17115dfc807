-- What the steps of a wake keep.
use Rattle.std.proofs.Common.{◌≡◌, ℕ, zero, suc, ◌+◌, ◌*◌, ◌/◌, ◌%◌, ◌^◌, ◌<◌, ◌≤◌, ◌==◌, inl, inr, Bool, true, false, List, [], ◌∷◌, length, get_or, set, Option, Some, sym, refl, ap, ◌∙◌, subst, arith, eq-eqb, ne_eqb, if◌then◌else◌, get_or-set_other, get_or-set_same}
use mathlib.Core.Option.{some, some-injective, some-ne-none}
use mathlib.Core.Logic.{dite}
use native.Mathlib.Decide.{ℕ_discrete}
use lib.ListN.{get_elem?}
use lib.Seq.{set-get_or}
use Rattle.word_bits.specs.declared.TheConstants.{MAX_TASKS}
use Rattle.atomic_table.proofs.Lists.{set_again}
use Rattle.lock_core.specs.Ops.{word_after}
use Rattle.lock_core.specs.Records.{bit}
use Rattle.lock_core.specs.Views.{is_number}
use Rattle.lock_core.proofs.HandLaws.{is_number-here}
use Rattle.word_bits.specs.LockWords.{IsLawfulCount}
use Rattle.lock_core.specs.Totals.{total, total-set, total-same, total-at}
use Rattle.wait_list.specs.Lists.{Part, Knows, first_code}
use Rattle.rwsem_count.specs.Counts.{early_weight, late_weight, early_in, late_in}
use Rattle.rwsem_wake.specs.SemParts.{SemPart, busy_of, busy_weight, shared_of, early_of, late_of, reserve_weight, reserve_of, granting_weight, IsWhole, first_mark, tasks, here, reads_weight, named_weight, granted_at, reads_at}
use Rattle.rwsem_wake.specs.GrantSemaphores.{SemKept}
use Rattle.rwsem_wake.proofs.Sums.{set-mine, total-least}
use Rattle.rwsem_wake.proofs.Places.{first-least, some-length}
use Rattle.rwsem_wake.proofs.WakeLaws.{staged, biased, batched, held-most, sem-sums, sem-grants, single-of}
use Rattle.rwsem_wake.proofs.QueueLaws.{mine-at, sem-arms, unread-at, reads-at-w}
use Rattle.rwsem_wake.proofs.HandoffLaws.{sem-reserves, sem-unreserves, sem-overdue, sem-asks, sem-unmarks, sem-unmarked, sem-looks, sem-done}
use Rattle.rwsem_wake.proofs.LookLaws.{sem-sums-none}
use Rattle.rwsem_wake.specs.Handoffs.{BatchGoes, ComesToMark, KeepsHandoff, MarksNext, KeepsFound, shared_at, granting_at}
use Rattle.rwsem_wake.proofs.HandoffSteps.{PassGoes, batch-comes, first-marked, marking, marks-stay, of-pass, pass-same, pass-turns, reads-apart, hands-asks, hands-free, hands-still, hands-step, hands-sums, hands-grants, hands-unmarks, unasked-same}
use Rattle.rwsem_wake.specs.Grants.{tail, saw_handoff, armed, reserved, unreserved, marked, unmarked, summing, gains, losses, looked, counted, granting_on, granted}
use Rattle.rwsem_wake.specs.Types.{Op, Load, Add, Sub, Wait, Apart, Reads, Writes, Waiter, Bias, Clear, Reserve, Stage, Rest, Armed, Overdue, Marked, Removing, Summing, Counted, Granting, SemHand}
use Rattle.rwsem_wake.proofs.Stepping.{Local, with_hand, named_in}
use Rattle.rwsem_wake.proofs.Counting.{part-least}

bit-is : (n : ℕ) → n ≤ 1 → bit (n == 1) ≡ n
bit-is zero l = refl
bit-is (suc zero) l = refl
bit-is (suc (suc n)) l = absurd (omega arith)

pub twice : (vs : List SemPart) (id : ℕ) (v w : SemPart) → set (set vs id v) id w ≡ set vs id w
twice [] id v w = refl
twice (x ∷ vs) zero v w = refl
twice (x ∷ vs) (suc id) v w = ap (λ (z : List SemPart). x ∷ z) (twice vs id v w)

-- the first of a list
pub head-is : (q : List Waiter) (t : ℕ) → first_code q ≡ t + 1 → (x : Waiter) × (xs : List Waiter) × (q ≡ x ∷ xs) × (x.task ≡ t)
head-is [] t e = absurd (omega (arith, e))
head-is (x ∷ xs) t e = (x, xs, refl, omega (arith, e))

-- who reads has a name
pub reads-name : (t : ℕ) (task : Option ℕ) (w : Wait) → named_weight t task (reads_weight w) ≤ is_number t task
reads-name t task Apart = omega arith
reads-name t task Reads = omega arith
reads-name t task Writes = omega arith

reads-names : (t : ℕ) (vs : List SemPart) → total (reads_at t) vs ≤ total (named_in t) vs
reads-names t vs = total-least (reads_at t) (named_in t) (λ v. reads-name t v.task v.sem.wait) vs

-- where one of a list weighs all that may weigh, no other does
pub only-one : {V : Type 0} (f g : V → ℕ) → ((v : V) → f v ≤ g v) → (vs : List V) (id : ℕ) (v : V) → get_elem? vs id ≡ some v → g v ≡ 1 → total g vs ≤ 1 → total f vs ≡ f v
only-one f g less [] id v at one most = absurd (some-ne-none v (sym at))
only-one f g less (x ∷ vs) zero v at one most = let is = some-injective x v at in let a : g x ≡ 1 = ap g is ∙ one in let b = total-least f g less vs in let c = ap f is in omega (arith, a, b, c, most)
only-one f g less (x ∷ vs) (suc id) v at one most = let a = total-at g vs id v at in let b = less x in let c = only-one f g less vs id v at one (omega (arith, most)) in omega (arith, a, b, c, one, most)

module _ (sees : List SemPart) (id : ℕ) (v : SemPart) (known : Part) (n : ℕ) (q : List Waiter) (marks grants : List ℕ) (loc : Local sees id v known n q marks grants) (only : total busy_of sees ≡ busy_of v) (own : ℕ) (has : v.task ≡ Some own) where
  abbrev H : ℕ
  H = n / 4 % 2

  small : n < 256 * (MAX_TASKS + 2)
  small = let low = loc.lawful.0 in let high = loc.lawful.1 in omega (arith, low, high)

  -- one pass at most reads in the name of a task
  reads-once : (t : ℕ) → t < MAX_TASKS → total (reads_at t) sees ≤ 1
  reads-once t few = let a = reads-names t sees in let b = loc.named t few in omega (arith, a, b)

  abbrev After : ℕ → List ℕ → List ℕ → SemHand → Type 0
  After n' marks' grants' s = let us : List SemPart = set sees id (with_hand v s) in SemKept n' q marks' grants' us × KeepsHandoff id n q marks grants sees n' marks' grants' us

  -- a bias that it has is in the count
  biased-word : (b : Bias) → v.sem.bias ≡ b → early_weight b + late_weight b ≡ 1 → 256 ≤ n
  biased-word b is one = let f = part-least early_in sees id v loc.mine in let l = part-least late_in sees id v loc.mine in let e : early_of v + late_of v ≡ early_weight b + late_weight b = ap (λ (z : Bias). early_weight z + late_weight z) is in let r = loc.kept.count.field in omega (arith, f, l, e, one, r)

  reserve-one : (m : ℕ) → early_weight (Reserve m) + late_weight (Reserve m) ≡ 1
  reserve-one m = omega arith

  -- its bias and stage turn to these
  turns : {n' : ℕ} (b : Bias) (from to : Stage) → v.sem.stage ≡ from → ((m : ℕ) → granting_weight from m ≡ 0) → marking from ≡ 0 → marking to ≡ 0 → KeepsFound n v (biased v b to) → PassGoes n n' q marks grants v (biased v b to)
  turns {n'} b from to is none out later word = pass-turns q marks grants v b from to is none out later word

  pub on-reserve : v.sem.stage ≡ Rest → v.sem.bias ≡ Clear → Knows known → 1 ≤ length known.1.list → After (word_after (Add 256) n) marks grants (reserved v.sem n) × IsLawfulCount n
  on-reserve stage clear knows some_there = let l = small in let b : Bool = H == 1 in let sum : n + 256 ≡ word_after (Add 256) n = omega (arith, l) in (
    (
      subst (λ (z : ℕ). SemKept z q marks grants (set sees id (with_hand v (reserved v.sem n)))) sum (sem-reserves sees id v loc.mine n q marks grants loc.kept own has only b (bit-is H (omega arith)) (subst (λ (z : List Waiter). 1 ≤ length z) (loc.list knows) some_there) stage clear),
      hands-step id n q marks grants sees v (with_hand v (reserved v.sem n)) loc.mine (word_after (Add 256) n) marks (omega (arith, l)) (λ t. omega arith) (omega (arith, sum), λ t. omega arith) (turns (Reserve n) Rest (Overdue b) stage (λ m. refl) refl refl (inr (inr (clear, inr refl)))),
    ),
    loc.lawful,
  )

  pub on-unreserve : (m : ℕ) (b : Bool) → v.sem.stage ≡ Overdue b → v.sem.bias ≡ Reserve m → After (word_after (Sub 256) n) marks grants (unreserved v.sem) × IsLawfulCount n
  on-unreserve m b stage bias = let l = small in let g = biased-word (Reserve m) bias (reserve-one m) in let n' : ℕ = word_after (Sub 256) n in let sum : n' + 256 ≡ n = omega (arith, l, g) in (
    (sem-unreserves sees id v loc.mine n q marks grants loc.kept own has only n' m b sum stage bias, hands-step id n q marks grants sees v (with_hand v (unreserved v.sem)) loc.mine n' marks (omega (arith, sum)) (λ t. omega arith) (omega (arith, sum), λ t. omega arith) (turns Clear (Overdue b) Rest stage (λ m. refl) refl refl (inr (inl refl)))),
    loc.lawful,
  )

  pub on-mark : (m t : ℕ) (b : Bool) → v.sem.stage ≡ Overdue b → v.sem.bias ≡ Reserve m → m % 2 ≡ 1 → b ≡ (m / 4 % 2 == 1) → Knows known → first_code known.1.list ≡ t + 1 → t < MAX_TASKS → After n (set marks t 1) grants (marked v.sem)
  on-mark m t b stage bias odd same knows code few = let x = head-is q t (ap first_code (sym (loc.list knows)) ∙ code) in let wide = loc.marks_wide in let saw : b ≡ saw_handoff v.sem.bias = same ∙ ap saw_handoff (sym bias) in (
    subst (λ (z : ℕ × Bool). SemKept n q (set marks z.0 1) grants (set sees id (staged v (Marked z.1)))) (λ i. (x.3 i, saw i)) (sem-overdue sees id v loc.mine n q marks grants loc.kept own has only b x.0 x.1 stage x.2 (let e = x.3 in omega (arith, e, few, wide))),
    hands-asks id n q marks grants sees v (with_hand v (marked v.sem)) loc.mine n (set marks t 1) (omega arith) (λ s. omega arith) (λ z o. absurd (omega (arith, z, o))) (λ set_it. set_it) (λ s none more. (first-marked marks q t (ap first_code (sym (loc.list knows)) ∙ code) s none more, inl (m, bias, odd))) (marks-stay marks t (omega (arith, few, wide))) (pass-turns q (set marks t 1) grants v v.sem.bias (Overdue b) (Marked (saw_handoff v.sem.bias)) stage (λ m. refl) refl refl (inl refl)),
  )

  pub on-ask : (m by : ℕ) (b : Bool) → v.sem.stage ≡ Marked b → v.sem.bias ≡ Reserve m → by + 4 ≡ 256 + 4 * bit b → After (word_after (Sub by) n) marks grants (unreserved v.sem) × IsLawfulCount n
  on-ask m by b stage bias is = let l = small in let g = biased-word (Reserve m) bias (reserve-one m) in let n' : ℕ = word_after (Sub by) n in let one = bit-most b in
      let f = mine-at sees id v loc.mine n q marks grants loc.kept own has (Marked b) only stage in let h = f.1 in let sum : n' + (256 + 4 * bit b) ≡ n + 4 = omega (arith, l, g, is, one) in let first : first_mark marks (tasks q) ≡ 1 = (let a = f.2 in let c = f.3 in omega (arith, a, c)) in (
        (sem-asks sees id v loc.mine n q marks grants loc.kept own has only n' m b sum stage bias, hands-asks id n q marks grants sees v (with_hand v (unreserved v.sem)) loc.mine n' marks (omega (arith, sum)) (λ t. omega arith) (λ _ _. inl (m, bias, first)) (λ _. omega (arith, sum, h, one)) (λ t none more. absurd (omega (arith, none, more))) (λ t more. more) (turns Clear (Marked b) Rest stage (λ m. refl) refl refl (inr (inl refl)))),
        loc.lawful,
      )
    where
      bit-most : (b : Bool) → bit b ≤ 1
      bit-most true = omega arith
      bit-most false = omega arith

  -- the mark of the batch's first is loaded, and cleared where it is set
  pub on-look-mark : (t : ℕ) (ts : List ℕ) → v.sem.stage ≡ Removing → v.sem.rest ≡ t ∷ ts → let m = get_or marks t 0 in After n (set marks t (word_after Load m)) grants (unmarked v.sem m)
  on-look-mark t ts stage rest = let m : ℕ = get_or marks t 0 in subst (λ (z : List ℕ). After n z grants (unmarked v.sem m)) (sym (set-get_or marks t 0)) (dite (ℕ_discrete m 0)
      (λ none. subst (λ (z : Bool). After n marks grants (if z then record v.sem { stage = Summing } else v.sem)) (sym (eq-eqb m 0 none)) (
        sem-unmarked sees id v loc.mine n q marks grants loc.kept own has only t ts stage rest none,
        hands-step id n q marks grants sees v (staged v Summing) loc.mine n marks (omega arith) (λ t. omega arith) (unasked-same n marks) (turns v.sem.bias Removing Summing stage (λ m. refl) refl refl (inl refl)),
      ))
      (λ set_it. subst (λ (z : Bool). After n marks grants (if z then record v.sem { stage = Summing } else v.sem)) (sym (ne_eqb m 0 set_it)) (
        subst (SemKept n q marks grants) (sym (set_again sees id v loc.mine)) loc.kept,
        hands-step id n q marks grants sees v v loc.mine n marks (omega arith) (λ t. omega arith) (unasked-same n marks) (pass-same q marks grants v),
      )))

  pub on-clear-mark : (t : ℕ) (ts : List ℕ) → v.sem.stage ≡ Removing → v.sem.rest ≡ t ∷ ts → t < MAX_TASKS → After n (set marks t 0) grants (summing v.sem)
  on-clear-mark t ts stage rest few = let wide = loc.marks_wide in (
    sem-unmarks sees id v loc.mine n q marks grants loc.kept own has only t ts stage rest (omega (arith, few, wide)),
    hands-unmarks id n q marks grants sees v (with_hand v (summing v.sem)) loc.mine t (inr (ts, rest)) (omega (arith, few, wide)) (λ s. omega arith) (pass-turns q (set marks t 0) grants v v.sem.bias Removing Summing stage (λ m. refl) refl refl (inl refl)),
  )

  -- the count is loaded: the batch is in it at once where its sum is 0
  pub on-look : v.sem.stage ≡ Summing → shared_of v + early_of v ≡ 1 → late_of v ≡ 0 → Knows known → IsWhole v.sem.rest known.1.list → After (word_after Load n) marks grants (looked v.sem known.1.list n) × IsLawfulCount n
  on-look stage keeps tight knows whole = let left : IsWhole v.sem.rest q = subst (IsWhole v.sem.rest) (loc.list knows) whole in subst (λ (z : List Waiter). After n marks grants (looked v.sem z n) × IsLawfulCount n) (sym (loc.list knows)) (dite (ℕ_discrete (losses v.sem H) (gains v.sem q))
      (λ none. subst (λ (z : Bool). After n marks grants (if z then record v.sem { bias = Clear; stage = Granting } else record v.sem { stage = Counted (H == 1) }) × IsLawfulCount n) (sym (eq-eqb (losses v.sem H) (gains v.sem q) none)) (
        (
          sem-sums-none sees id v loc.mine n own q marks grants (H == 1) loc.kept has only (bit-is H (omega arith)) stage left keeps tight (let e = bit-is H (omega arith) in omega (arith, none, e)),
          hands-free id n q marks grants sees v (biased v Clear Granting) loc.mine n (inr (let f = mine-at sees id v loc.mine n q marks grants loc.kept own has Summing only stage in let z = f.1 in let l = first-least marks (tasks q) in omega (arith, z, l), omega arith)) (λ a b. absurd (omega (arith, a, b))) (unasked-same n marks) (batch-comes id n q marks grants sees v (biased v Clear Granting) loc.mine (λ t. omega arith) left) (turns Clear Summing Granting stage (λ m. refl) refl refl (inr (inl refl))),
        ),
        loc.lawful,
      ))
      (λ some_sum. subst (λ (z : Bool). After n marks grants (if z then record v.sem { bias = Clear; stage = Granting } else record v.sem { stage = Counted (H == 1) }) × IsLawfulCount n) (sym (ne_eqb (losses v.sem H) (gains v.sem q) some_sum)) (
        (
          sem-looks sees id v loc.mine n q marks grants loc.kept own has only (H == 1) (bit-is H (omega arith)) stage left,
          hands-step id n q marks grants sees v (staged v (Counted (H == 1))) loc.mine n marks (omega arith) (λ t. omega arith) (unasked-same n marks) (turns v.sem.bias Summing (Counted (H == 1)) stage (λ m. refl) refl refl (inl refl)),
        ),
        loc.lawful,
      )))

  -- the batch's sum is added
  pub on-sum : (gain loss : ℕ) (op : Op) → ((m : ℕ) → loss ≤ m + gain → m + gain < 2 ^ 64 + loss → word_after op m + loss ≡ m + gain) → (b : Bool) → v.sem.stage ≡ Counted b → shared_of v + early_of v ≡ 1 → late_of v ≡ 0 → Knows known → 0 < length v.sem.rest → length v.sem.rest ≤ MAX_TASKS
      → gain + losses v.sem (bit b) ≡ loss + gains v.sem known.1.list → After (word_after op n) marks grants (counted v.sem) × IsLawfulCount n
  on-sum gain loss op does b stage keeps tight knows some_read few is = let l = small in let f = mine-at sees id v loc.mine n q marks grants loc.kept own has (Counted b) only stage in let w = f.0 in let h = f.2 in let s = (some-length q).2 in
      let fm = part-least early_in sees id v loc.mine in let field = loc.kept.count.field in let n' : ℕ = word_after op n in let g : ℕ = gains v.sem q in
      let balance : gain + losses v.sem (bit b) ≡ loss + g = is ∙ ap (λ (z : List Waiter). loss + gains v.sem z) (loc.list knows) in
      let least : losses v.sem (bit b) ≤ n = omega (arith, w, h, fm, field) in let most : n + g < 2 ^ 64 = omega (arith, l, few, s) in
      let moved = does n (omega (arith, balance, least)) (omega (arith, balance, most)) in let sum : n' + losses v.sem (bit b) ≡ n + g = omega (arith, moved, balance) in (
        (
          sem-sums sees id v loc.mine n n' own q marks grants b loc.kept only has stage keeps tight (omega (arith, sum)),
          hands-sums id n n' q marks grants sees v b loc.kept loc.mine only stage some_read (omega (arith, sum, w, h, s)) (omega (arith, sum)),
        ),
        loc.lawful,
      )

  -- a grant word is cleared
  pub on-grant : (t : ℕ) (ts : List ℕ) → v.sem.stage ≡ Granting → v.sem.rest ≡ t ∷ ts → v.sem.bias ≡ Clear → t < MAX_TASKS → After n marks (set grants t 0) (granted v.sem)
  on-grant t ts stage rest clear few = let wide = loc.grants_wide in let is : tail v.sem.rest ≡ ts = ap tail rest in let kept = sem-grants sees id v loc.mine n t own ts q marks grants loc.kept only has stage rest (reads-once t few) (omega (arith, few, wide)) in
      let hands = hands-grants id n t ts (granting_on ts) q marks grants sees v loc.kept loc.mine stage rest (rests-whole ts) (marks-none ts) (reads-once t few) (omega (arith, few, wide)) in
      subst (λ (z : List ℕ). After n marks (set grants t 0) (record v.sem { rest = z; stage = granting_on z })) (sym is) (go ts kept hands)
    where
      rests-whole : (ts : List ℕ) (x : ℕ) → granting_weight (granting_on ts) (here x ts) ≡ here x ts
      rests-whole [] x = refl
      rests-whole (y ∷ ts) x = refl

      marks-none : (ts : List ℕ) → marking (granting_on ts) ≡ 0
      marks-none [] = refl
      marks-none (y ∷ ts) = refl

      go : (ts : List ℕ) → SemKept n q marks (set grants t 0) (set sees id (batched v ts Granting)) → KeepsHandoff id n q marks grants sees n marks (set grants t 0) (set sees id (batched v ts (granting_on ts))) → After n marks (set grants t 0) (record v.sem { rest = ts; stage = granting_on ts })
      go (x ∷ ts) kept hands = (kept, hands)
      go [] kept hands = let w : SemPart = batched v [] Granting in let us : List SemPart = set sees id w in let mine = set-mine sees id v w loc.mine in let B = total-set busy_of sees id v w loc.mine in let o = only in let single = single-of v own has (loc.kept.each id v loc.mine) in let h = (held-most v.held).1 in
          let b0 : busy_of v ≡ 1 = ap busy_weight stage in let c : early_of v + late_of v + reserve_of v ≡ 0 = ap (λ (z : Bias). early_weight z + late_weight z + reserve_weight z) clear in
          let done = sem-done us id w mine n q marks (set grants t 0) kept own has (omega (arith, B, o, b0)) refl refl (omega (arith, single, h, c)) in (subst (SemKept n q marks (set grants t 0)) (twice sees id w (staged w Rest)) done, hands)

  -- a reader that is to queue stores 1 in its own grant word
  pub on-arm : v.sem.stage ≡ Rest → v.sem.wait ≡ Apart → own < MAX_TASKS → After n marks (set grants own 1) (armed v.sem)
  on-arm stage apart few = let wide = loc.grants_wide in let u : SemPart = with_hand v (armed v.sem) in let goes : PassGoes n n q marks grants v u = turns v.sem.bias Rest Armed stage (λ m. refl) refl refl (inl refl) in let grants' : List ℕ = set grants own 1 in
      let alone : total (reads_at own) sees ≡ 0 = only-one (reads_at own) (named_in own) (λ x. reads-name own x.task x.sem.wait) sees id v loc.mine (ap (is_number own) has ∙ is_number-here own) (loc.named own few) ∙ (reads-at-w v own has Apart apart own) in (
        sem-arms sees id v loc.mine n q marks grants loc.kept own has only stage alone (omega (arith, few, wide)),
        hands-still id n q marks grants sees n marks grants' (set sees id u) (omega arith) (λ t. let a = reads-apart grants t sees in let b = reads-apart grants' t (set sees id u) in let c = total-same (shared_at t) sees id v u loc.mine refl in let d = total-same (granted_at grants' t) sees id v u loc.mine refl in
            let e = unread-at grants own 1 sees alone t in let f = total-set (granting_at t) sees id v u loc.mine in let g : granting_at t v ≡ 0 = ap (λ (z : Stage). granting_weight z (here t v.sem.rest)) stage in omega (arith, a, b, c, d, e, f, g)) (unasked-same n marks)
            (λ t more none. absurd (stored t more none)) (of-pass id n q marks grants sees v u loc.mine (BatchGoes q grants') (inl refl)) (of-pass id n q marks grants sees v u loc.mine (MarksNext q marks) goes.next) (of-pass id n q marks grants sees v u loc.mine (ComesToMark n n) goes.to_mark) (of-pass id n q marks grants sees v u loc.mine (KeepsFound n) goes.found),
      )
    where
      stored : (t : ℕ) → 0 < get_or grants t 0 → get_or (set grants own 1) t 0 ≡ 0 → ⊥
      stored t more none = dite (ℕ_discrete t own)
          (λ is. let wide = loc.grants_wide in let e : get_or (set grants own 1) t 0 ≡ 1 = ap (λ (z : ℕ). get_or (set grants own 1) z 0) is ∙ get_or-set_same grants own 1 0 (omega (arith, few, wide)) in omega (arith, e, none))
          (λ not. let e = get_or-set_other grants own t 1 0 not in omega (arith, e, more, none))
