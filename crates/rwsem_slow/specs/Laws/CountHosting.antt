-- The rule of a semaphore hosts a count.
use Rattle.std.proofs.Common.{◌≡◌, ◌≢◌, ℕ, zero, suc, ◌%◌, ◌<◌, ◌≤◌, inl, inr, List, [], ◌∷◌, length, map, set, Option, Some, None, sym, refl, ap, ◌∙◌, subst, arith, get_or-set_same}
use mathlib.Core.Option.{some}
use lib.ListN.{get_elem?}
use Rattle.atomic_table.proofs.Lists.{at_map}
use Rattle.word_bits.specs.LockWords.{IsLawfulCount, counted}
use Rattle.word_bits.specs.Objects.{Obj}
use Rattle.word_bits.specs.Histories.{Plan}
use Rattle.lock_core.specs.declared.layout.TheConstants.{LOCK_WORDS}
use Rattle.lock_core.specs.Layout.{site}
use Rattle.lock_core.specs.Views.{SpinHolds, hand_of, is_number}
use Rattle.lock_core.specs.Sites.{SiteKept}
use Rattle.lock_core.specs.Totals.{total}
use Rattle.lock_core.proofs.HandLaws.{is_number-else, number-or-not}
use Rattle.lock_core.specs.Spins.{holds_in}
use Rattle.rwsem_count.specs.Counts.{CountKept, CountMove, CountPart, HandStep, based, count_part, part, shared_weight}
use Rattle.rwsem_wake.specs.SemParts.{SemPart, busy_of, busy_weight, granted_at, granted_weight, granting_weight, here, named_weight, part_of, reads_of, reads_weight}
use Rattle.rwsem_wake.specs.GrantSemaphores.{SemKept, SemPartOk, more_of}
use Rattle.rwsem_wake.specs.Handoffs.{KeepsHandoff, Unasked, granting_at, reads_as}
use Rattle.rwsem_wake.proofs.HandoffSteps.{PassGoes, hands-free, hands-reads, hands-step, own-comes}
use Rattle.rwsem_wake.proofs.Lines.{lines-else}
use Rattle.rwsem_wake.proofs.WakeLaws.{held-most, ok-of, sem-counts, transit-most}
use Rattle.rwsem_wake.specs.RwSemViews.{V, count_at, seen}
use Rattle.rwsem_slow.specs.RwSems.{any_count, bias_of, biased, count_in, grants_at, grants_in, marks_at, marks_in, may_count, more_in, wake_words, RwSemKept, Kept as IsKept}
use Rattle.rwsem_slow.specs.WakesGo.{WakesGo, wake_stands}
use Rattle.rwsem_slow.specs.Laws.WakesGo.{count-goes}
use Rattle.rwsem_slow.specs.Laws.DutyRule.{Duties, duties-counted}
use Rattle.rwsem_slow.specs.Laws.RwSem.{Go as Going, SemWords, Tries, sem_words, sem-lawful, sem-only, sem-turns}
use Rattle.rwsem_slow.specs.Types.{Hand, Held, No, Shared, Alone, Waiter, Stay, Bias, SemHand}

pub bias-back : (v : V) (h : Hand) (b : Bias) → bias_of (biased v h b) ≡ b
bias-back v h b = refl

same-parts : (vs : List V) → map part_of (map seen vs) ≡ map (count_part bias_of) vs
same-parts [] = refl
same-parts (v ∷ vs) = ap (λ (z : List CountPart). count_part bias_of v ∷ z) (same-parts vs)

map-set : (ps : List SemPart) (id : ℕ) (u : SemPart) → map part_of (set ps id u) ≡ set (map part_of ps) id (part_of u)
map-set [] id u = refl
map-set (p ∷ ps) zero u = refl
map-set (p ∷ ps) (suc id) u = ap (λ (z : List CountPart). part_of p ∷ z) (map-set ps id u)

-- a step on the count that leaves WAITERS and HANDOFF, of a pass that waits as before
module _ (ps : List SemPart) (id : ℕ) (v u : SemPart) (at : get_elem? ps id ≡ some v) (n m : ℕ) (q : List Waiter) (marks grants : List ℕ) (r : SemKept n q marks grants ps)
    (task : u.task ≡ v.task) (wait : u.sem.wait ≡ v.sem.wait) (rest : u.sem.rest ≡ v.sem.rest) (stage : u.sem.stage ≡ v.sem.stage) (move : CountMove n m (part_of v) (part_of u)) where
  counts-kept : CountKept m (more_of grants ps) (set (map part_of ps) id (part_of u)) → SemPartOk u → SemKept m q marks grants (set ps id u)
  counts-kept count ok = let f = move.flags in sem-counts ps id v at u n m q marks grants r task wait rest stage (omega (arith, f)) (omega (arith, f))
      (subst (CountKept m (more_of grants ps)) (sym (map-set ps id u)) count) ok

  -- it keeps to a handoff
  counts-hands : (own : ℕ) → v.task ≡ Some own → v.sem.rest ≡ [] → KeepsHandoff id n q marks grants ps m marks grants (set ps id u)
  counts-hands own has none_under = elim (native.Mathlib.Decide.dec_le (m % 2) (n % 2)) [
    | no more ↦ hands-free id n q marks grants ps v u at m (inl (move.writer (omega (arith, more)) (omega (arith, more)))) move.lone unasked
        (own-comes id n q marks grants ps v u at own has none_under elsewhere) goes
    | yes low ↦ by-hold u.held refl low
  ]
    where
      unasked : Unasked n marks m marks
      unasked = (let f = move.flags in omega (arith, f), λ t. omega arith)

      granted : (t : ℕ) → granted_at grants t u ≡ granted_at grants t v
      granted t = λ i. named_weight t (task i) (granted_weight grants (task i) (wait i))

      granting : (t : ℕ) → granting_at t u ≡ granting_at t v
      granting t = λ i. granting_weight (stage i) (here t (rest i))

      -- its shared hold may end
      goes : PassGoes n m q marks grants v u
      goes = record {
        ends = λ t less. let a = granted t in let b = granting t in shared-at t v.task v.held (omega (arith, a, b, less));
        batch = inl rest;
        next = λ e. inl (stage ∙ e);
        to_mark =
            λ e. inl (sym stage ∙ e);
        found = move.bias;
      }
        where
          shared-at : (t : ℕ) (task : Option ℕ) (held : Held) → 0 < named_weight t task (shared_weight held) → (task ≡ Some t) × (held ≡ Shared)
          shared-at t task No more = absurd (omega (arith, more))
          shared-at t task Alone more = absurd (omega (arith, more))
          shared-at t None Shared more = absurd (omega (arith, more))
          shared-at t (Some own) Shared more = elim (native.Mathlib.Decide.ℕ_discrete t own)
              [ yes is ↦ (ap (λ (x : ℕ). Some x) (sym is), refl) | no other ↦ let z = is_number-else t own (λ e. other (sym e)) in absurd (omega (arith, z, more)) ]

      no-more : (t : ℕ) → shared_weight u.held ≤ shared_weight v.held → reads_as grants t u ≤ reads_as grants t v
      no-more t l = let a = granted t in let b = granting t in let c = names (shared_weight u.held) (shared_weight v.held) l in omega (arith, a, b, c)
        where
          names : (x y : ℕ) → x ≤ y → named_weight t u.task x ≤ named_weight t v.task y
          names zero y l = omega arith
          names (suc x) zero l = absurd (omega (arith, l))
          names (suc x) (suc y) l = let e : named_weight t u.task (suc x) ≡ named_weight t v.task (suc y) = λ i. named_weight t (task i) 1 in omega (arith, e)

      elsewhere : (t : ℕ) → t ≢ own → reads_as grants t u ≤ reads_as grants t v
      elsewhere t not = let a = granted t in let b = granting t in let c = nobody (shared_weight u.held) in omega (arith, a, b, c)
        where
          nobody : (x : ℕ) → named_weight t u.task x ≡ 0
          nobody zero = refl
          nobody (suc x) = ap (is_number t) (task ∙ has) ∙ is_number-else t own (λ e. not (sym e))

      shares : m % 2 ≤ n % 2 → u.held ≡ Shared → KeepsHandoff id n q marks grants ps m marks grants (set ps id u)
      shares low e = elim (move.reader e) [
        | inl was ↦ hands-step id n q marks grants ps v u at m marks low
            (λ t. no-more t (let a : shared_weight u.held ≡ shared_weight v.held = ap shared_weight (e ∙ sym was) in omega (arith, a))) unasked goes
        | inr more ↦ elim more [
          | inl none ↦ hands-free id n q marks grants ps v u at m (inl none) move.lone unasked (own-comes id n q marks grants ps v u at own has none_under elsewhere) goes
          | inr may ↦ hands-reads id n q marks grants ps v u at m own low has none_under may elsewhere unasked goes
        ]
      ]

      by-hold : (x : Held) → u.held ≡ x → m % 2 ≤ n % 2 → KeepsHandoff id n q marks grants ps m marks grants (set ps id u)
      by-hold No e low = hands-step id n q marks grants ps v u at m marks low (λ t. no-more t (let a : shared_weight u.held ≡ 0 = ap shared_weight e in omega (arith, a))) unasked goes
      by-hold Alone e low = hands-step id n q marks grants ps v u at m marks low (λ t. no-more t (let a : shared_weight u.held ≡ 0 = ap shared_weight e in omega (arith, a))) unasked goes
      by-hold Shared e low = shares low e

module _ {Call : Type 0} (o : Obj Call) (size : ℕ) where
  abbrev Kept : Plan → List ℕ → List V → Type 0
  Kept = IsKept o size

  abbrev Queue : Plan → List ℕ → List V → List Waiter → Type 0
  Queue = RwSemKept o size

  pub sem-count : (k : Plan) (ws : List ℕ) (vs : List V) → Kept k ws vs → CountKept (count_in ws) (more_in k ws vs) (map (count_part bias_of) vs) × IsLawfulCount (count_in ws)
      × any_count (count_in ws)
  sem-count k ws vs (q, r) = (subst (CountKept (count_in ws) (more_in k ws vs)) (same-parts vs) r.sem.count, sem-lawful o size k ws vs q r, tt)

  pub sem-words : (k : Plan) (ws : List ℕ) (vs : List V) (q : List Waiter) → Queue k ws vs q → SemKept (count_in ws) q (marks_in ws) (grants_in ws) (map seen vs) × IsLawfulCount (count_in ws)
      × (LOCK_WORDS ≤ length ws)
  sem-words k ws vs q r = (r.sem, sem-lawful o size k ws vs q r, (let w = r.wide in omega (arith, w)))

  pub sem-alone : (k : Plan) (ws : List ℕ) (vs : List V) (q : List Waiter) (id : ℕ) (v : V) → Queue k ws vs q → get_elem? vs id ≡ some v → SpinHolds v.spin
      → total busy_of (map seen vs) ≡ busy_weight v.ext.sem.stage
  sem-alone k ws vs q id v r at has = sem-only o size k ws vs q r id v at has

  pub sem-counted : (k : Plan) (ws : List ℕ) (vs : List V) (id n : ℕ) (v : V) (h : Hand) (b : Bias) → Kept k ws vs → get_elem? vs id ≡ some v → HandStep v.hand h n → Tries o size ws v h
      → may_count v (part h b) → CountMove (count_in ws) n (count_part bias_of v) (part h b) → CountKept n (more_in k ws vs) (set (map (count_part bias_of) vs) id (part h b))
      → SiteKept o counted size k (site k ws) (set (map hand_of vs) id h) → Going o size k id ws vs (set ws count_at n) (set vs id (based biased v h b))
  sem-counted k ws vs id n v h b (q, r) at step tries may move count there = let s : SemHand = record v.ext.sem { bias = b } in let u : SemPart = record { task = h.task; held = h.held; sem = s } in
      let ps : List SemPart = map seen vs in let mine = at_map seen vs id v at in let wide = r.wide in
      let word : count_in (set ws count_at n) ≡ n = get_or-set_same ws count_at n 0 (omega (arith, wide)) in let marks = lines-else marks_at ws count_at n (λ t l e. omega (arith, e)) in
      let grants = lines-else grants_at ws count_at n (λ t l e. omega (arith, e)) in
      let words : sem_words (set ws count_at n) ≡ (n, marks_in ws, grants_in ws) = λ i. (word i, marks i, grants i) in let none : reads_of u ≡ 0 = ap reads_weight may.0 in let light = may.1 in
      let clear = may.2 in
      let ok : SemPartOk u = number-or-not h.task (λ out. absurd (step.numbered (sym step.task ∙ out))) (λ t has. ok-of u t has ((r.sem.each id (seen v) mine).rest) (let s = (held-most h.held).1 in
      omega (arith, none, light, s)) (omega (arith, clear)) (omega (arith, none, light)) (let l = transit-most b in omega (arith, light, l))) in
      let kept = counts-kept ps id (seen v) u mine (count_in ws) n q (marks_in ws) (grants_in ws) r.sem step.task refl refl refl move
      (subst (λ (z : List CountPart). CountKept n (more_in k ws vs) (set z id (part h b))) (sym (same-parts vs)) count) ok in
      let hands = number-or-not v.hand.task (λ out. absurd (step.numbered out))
      (λ t has. counts-hands ps id (seen v) u mine (count_in ws) n q (marks_in ws) (grants_in ws) r.sem step.task refl refl refl move t has may.3) in
      sem-turns o size k ws vs q id count_at n v h s (biased v h b).wake r at (omega arith) (omega arith)
      (λ l. absurd (omega (arith, l))) (r.locked id v at) (subst (HandStep v.hand h) (sym word) step) tries
      (subst (λ (z : SemWords). SemKept z.0 q z.1 z.2 (set ps id u)) (sym words) kept)
      (subst (λ (z : SemWords). KeepsHandoff id (count_in ws) q (marks_in ws) (grants_in ws) ps z.0 z.1 z.2 (set ps id u)) (sym words) hands)
      (subst (λ (z : List ℕ). Duties (wake_words ws) z q (set vs id (based biased v h b))) (sym grants) (number-or-not v.hand.task (λ out. absurd (step.numbered out)) (λ own has.
      duties-counted (wake_words ws) (grants_in ws) (marks_in ws) (count_in ws) n q vs id v (r.duty, r.staged) at r.sem h b kept may step.task own has (let f = move.flags in omega (arith, f))
      step.left)))
      (subst (λ (z : ℕ). WakesGo (count_in ws) z q Stay (grants_in ws) (wake_words ws) (wake_words ws) (holds_in v.spin) (seen v) u (wake_stands v.ext.wake) (wake_stands (biased v h b).wake))
      (sym word) (count-goes (count_in ws) n q (grants_in ws) (wake_words ws) (holds_in v.spin) (seen v) u v.ext.wake h.freed step.left may.5 may.6)) there
