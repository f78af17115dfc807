-- The rule that is kept implies what is stated.
use Rattle.std.proofs.Common.{◌≡◌, ◌≢◌, ◌∙◌, ℕ, zero, suc, ◌+◌, ◌<◌, ◌⊎◌, inl, inr, List, [], ◌∷◌, length, map, get_or, Option, Some, None, sym, refl, ap, subst, arith}
use Rattle.std.proofs.lemmas.List.{length-map}
use mathlib.Core.Option.{some, some-injective}
use mathlib.Core.Logic.{dite}
use native.Mathlib.Decide.{ℕ_discrete}
use lib.ListN.{get_elem?}
use Rattle.atomic_table.proofs.Lists.{at_map}
use Rattle.word_bits.specs.declared.TheConstants.{MAX_TASKS}
use Rattle.word_bits.specs.Objects.{Obj}
use Rattle.word_bits.specs.Histories.{Plan}
use Rattle.lock_core.specs.Layout.{site}
use Rattle.lock_core.specs.Laws.Locked.{move-steps}
use Rattle.lock_core.specs.Locked.{IsGone, IsSiteStep, SamePass}
use Rattle.lock_core.specs.Pasts.{Instant, marks_of, moment, Moves, Paced, Ran}
use Rattle.lock_core.specs.ViewParts.{at_unmap}
use Rattle.lock_core.specs.Totals.{total, total-at, total-two}
use Rattle.lock_core.specs.Views.{hand_of, is_number}
use Rattle.lock_core.proofs.HandLaws.{is_number-here}
use Rattle.lock_core.proofs.RowLaws.{none-some, same-some}
use Rattle.lock_core.proofs.Stating.{kept-states}
use Rattle.percpu_rwsem.specs.PhaseSteps.{PhaseGoes, Words}
use Rattle.percpu_rwsem.specs.Phases.{PhasePart, PartOk, phase_part, inside_of, code_of, blocks_of, inside_weight, code_weight, blocks_weight, held_by}
use Rattle.percpu_rwsem.specs.Laws.Phase.{held-all, held-some, no-alone, no-shared, shared-alone, shared-reads, alone-blocks, blocks-codes, only-code, some-of, inside-named}
use Rattle.percpu_rwsem.specs.PercpuRuled.{V, PercpuKept, PercpuMoves, block_at, count_at, kept_phase, never, words_in}
use Rattle.percpu_rwsem.specs.PercpuStated.{phase_in, seen_in, IsInside, IsBlocking, IsPassAt, CountStates, empty, full, BlockStates, free, taken, IsPercpuSite, IsPercpuStep, phase_marks}
use Rattle.percpu_rwsem.specs.Types.{Hand, No, Shared, Marks, Moment, Phase, Idle, Added, Back, Reads, Blocks}
use Rattle.percpu_rwsem.proofs.Stepping.{count-bit, part-ok}

abbrev marks : V → Marks
marks = marks_of kept_phase

abbrev phase_of : Phase → ℕ
phase_of w = phase_in (record { numbers = kept_phase w })

-- a phase of this phase
blocks-is : (w : Phase) → phase_of w ≡ 4 → (n : ℕ) × (w ≡ Blocks n)
blocks-is Idle is = absurd (omega (arith, is))
blocks-is Added is = absurd (omega (arith, is))
blocks-is Back is = absurd (omega (arith, is))
blocks-is Reads is = absurd (omega (arith, is))
blocks-is (Blocks n) is = (n, refl)

phase-inside : (t : ℕ) (task : Option ℕ) (w : Phase) → (phase_of w ≡ 1) ⊎ (phase_of w ≡ 2) → inside_weight t task w ≡ is_number t task
phase-inside t task Idle is = absurd (elim is [ inl e ↦ omega (arith, e) | inr e ↦ omega (arith, e) ])
phase-inside t task Added is = refl
phase-inside t task Back is = refl
phase-inside t task Reads is = absurd (elim is [ inl e ↦ omega (arith, e) | inr e ↦ omega (arith, e) ])
phase-inside t task (Blocks n) is = absurd (elim is [ inl e ↦ omega (arith, e) | inr e ↦ omega (arith, e) ])

-- a pass at this place
viewed : (vs : List V) (i : ℕ) (h : Hand) (m : Marks) → IsPassAt (map hand_of vs) (map marks vs) i h m → (v : V) × (get_elem? vs i ≡ some v) × (v.hand ≡ h) × (marks v ≡ m)
viewed vs i h m at = let a = at_unmap hand_of vs i h at.0 in (a.0, a.1, a.2, some-injective (marks a.0) m (sym (at_map marks vs i a.0 a.1) ∙ at.1))

placed : (vs : List V) (i : ℕ) (v : V) → get_elem? vs i ≡ some v → IsPassAt (map hand_of vs) (map marks vs) i v.hand (marks v)
placed vs i v at = (at_map hand_of vs i v at, at_map marks vs i v at)

module _ {Call : Type 0} (o : Obj Call) (size : ℕ) (k : Plan) (ws : List ℕ) (vs : List V) (r : PercpuKept o size k ws vs) where
  abbrev hs : List Hand
  hs = map hand_of vs

  abbrev ms : List Marks
  ms = map marks vs

  abbrev ps : List PhasePart
  ps = map phase_part vs

  inside-weighs : (t i : ℕ) (v : V) → get_elem? vs i ≡ some v → v.hand.task ≡ Some t → IsInside v.hand (marks v) → inside_of t (phase_part v) ≡ 1
  inside-weighs t i v at has inside = let named = ap (is_number t) has ∙ is_number-here t in elim inside [
    | inl shares ↦ ap (inside_weight t v.hand.task) (shared-reads (length k) (phase_part v) (part-ok o size k ws vs r i v at) shares) ∙ named
    | inr e ↦ phase-inside t v.hand.task v.ext e ∙ named
  ]

  weighs-inside : (t i : ℕ) (v : V) → get_elem? vs i ≡ some v → 0 < inside_of t (phase_part v) → IsInside v.hand (marks v)
  weighs-inside t i v at has = let ok = part-ok o size k ws vs r i v at in go v.ext refl ok
    where
      go : (w : Phase) → v.ext ≡ w → PartOk (length k) (phase_part v) → IsInside v.hand (marks v)
      go Idle is ok = let e : inside_of t (phase_part v) ≡ 0 = ap (inside_weight t v.hand.task) is in absurd (omega (arith, e, has))
      go Added is ok = inr (inl (ap phase_of is))
      go Back is ok = inr (inr (ap phase_of is))
      go Reads is ok = inl (ok.holds ∙ ap (held_by (length k)) is)
      go (Blocks n) is ok = let e : inside_of t (phase_part v) ≡ 0 = ap (inside_weight t v.hand.task) is in absurd (omega (arith, e, has))

  -- who has something in a count has its number
  number-is : (t : ℕ) (task : Option ℕ) → 0 < is_number t task → task ≡ Some t
  number-is t None l = absurd (omega (arith, l))
  number-is t (Some u) l = dite (ℕ_discrete u t) (λ e. ap Some e) (λ not. let z = Rattle.lock_core.proofs.HandLaws.is_number-else t u not in absurd (omega (arith, l, z)))

  count-states : (t : ℕ) → t < length k → CountStates (get_or ws (count_at t) 0) t hs ms
  count-states t inside = let small = r.site_holds.laid.small.tasks in let l : t < MAX_TASKS = omega (arith, inside, small) in let sum = r.phases.counts t l in let few = count-bit o size k ws vs t r l in dite (ℕ_discrete (get_or ws (count_at t) 0) 0)
      (λ none_in. empty none_in (λ i h m at has is. let x = viewed vs i h m at in let w = inside-weighs t i x.0 x.1 (ap (λ (z : Hand). z.task) x.2 ∙ has) (moved i h m at is x.0 x.2 x.3) in let least = total-at (inside_of t) ps i (phase_part x.0) (at_map phase_part vs i x.0 x.1) in absurd (omega (arith, sum, none_in, w, least))))
      (λ some_in. let s = some-of (inside_of t) ps (pos (total (inside_of t) ps) (λ z. some_in (sum ∙ z))) in let x = at_unmap phase_part vs s.0 s.1 s.2 in let has : 0 < inside_of t (phase_part x.0) = subst (λ (z : PhasePart). 0 < inside_of t z) (sym x.2) s.3 in
      full (omega (arith, few, some_in)) s.0 x.0.hand (marks x.0) (placed vs s.0 x.0 x.1) (number-is t x.0.hand.task (let a = inside-named t (phase_part x.0) in omega (arith, a, has))) (weighs-inside t s.0 x.0 x.1 has))
    where
      pos : (n : ℕ) → n ≢ 0 → 0 < n
      pos zero not = absurd (not refl)
      pos (suc n) not = omega arith

      moved : (i : ℕ) (h : Hand) (m : Marks) → IsPassAt hs ms i h m → IsInside h m → (v : V) → v.hand ≡ h → marks v ≡ m → IsInside v.hand (marks v)
      moved i h m at is v hand mark = subst (λ (z : Hand × Marks). IsInside z.0 z.1) (λ j. (sym hand j, sym mark j)) is

  blocking-is : (v : V) (m : Marks) → marks v ≡ m → IsBlocking m → (n : ℕ) × (v.ext ≡ Blocks n) × (seen_in m ≡ n)
  blocking-is v m mark is = let b = blocks-is v.ext (ap phase_in mark ∙ is) in (b.0, b.1, ap seen_in (sym mark) ∙ ap (λ (w : Phase). seen_in (record { numbers = kept_phase w })) b.1)

  block-states : BlockStates (get_or ws block_at 0) hs ms
  block-states = let code = r.phases.code in elim (native.Mathlib.Decide.dec_le (total blocks_of ps) 0) [
    | yes none_blocks ↦
        let z = Rattle.percpu_rwsem.specs.Laws.Phase.no-codes ps none_blocks in free (omega (arith, z, code)) (λ i h m at is. let x = viewed vs i h m at in let b = blocking-is x.0 m x.3 is in let e : blocks_of (phase_part x.0) ≡ 1 = ap blocks_weight b.1 in let least = total-at blocks_of ps i (phase_part x.0) (at_map phase_part vs i x.0 x.1) in absurd (omega (arith, e, least, none_blocks)))
    | no some_blocks ↦ let s = some-of blocks_of ps (omega (arith, some_blocks)) in let x = at_unmap phase_part vs s.0 s.1 s.2 in let has : 0 < blocks_of (phase_part x.0) = subst (λ (z : PhasePart). 0 < blocks_of z) (sym x.2) s.3 in one s.0 x.0 x.1 has x.0.ext refl x.0.hand.task refl
  ]
    where
      one : (i : ℕ) (v : V) → get_elem? vs i ≡ some v → 0 < blocks_of (phase_part v) → (w : Phase) → v.ext ≡ w → (task : Option ℕ) → v.hand.task ≡ task → BlockStates (get_or ws block_at 0) hs ms
      one i v at has Idle is task named = absurd (let e : blocks_of (phase_part v) ≡ 0 = ap blocks_weight is in omega (arith, e, has))
      one i v at has Added is task named = absurd (let e : blocks_of (phase_part v) ≡ 0 = ap blocks_weight is in omega (arith, e, has))
      one i v at has Back is task named = absurd (let e : blocks_of (phase_part v) ≡ 0 = ap blocks_weight is in omega (arith, e, has))
      one i v at has Reads is task named = absurd (let e : blocks_of (phase_part v) ≡ 0 = ap blocks_weight is in omega (arith, e, has))
      one i v at has (Blocks n) is None named = absurd (let e : blocks_of (phase_part v) ≡ 0 = ap blocks_weight ((part-ok o size k ws vs r i v at).numberless named) in omega (arith, e, has))
      one i v at has (Blocks n) is (Some t) named = let b : blocks_of (phase_part v) ≡ 1 = ap blocks_weight is in let mine = at_map phase_part vs i v at in let only = only-code ps i (phase_part v) mine b r.phases.one in let c : code_of (phase_part v) ≡ t + 1 = (λ j. code_weight (named j) (is j)) in let code = r.phases.code in
          taken i v.hand (marks v) (placed vs i v at) (ap phase_of is) t named (omega (arith, code, only, c)) (λ j g n' other at' is'. let y = viewed vs j g n' at' in let d = blocking-is y.0 n' y.3 is' in let e : blocks_of (phase_part y.0) ≡ 1 = ap blocks_weight d.1 in let two = total-two blocks_of ps i j (phase_part v) (phase_part y.0) mine (at_map phase_part vs j y.0 y.1) (λ z. other (sym z)) in let most = r.phases.one in absurd (omega (arith, b, e, two, most)))

  pub rule-states : IsPercpuSite o size k ws hs ms
  rule-states = record {
    is_site = kept-states o never size k (site k ws) hs r.site_holds;
    phases = record {
      counts = count-states;
      blocked = block-states;
      drained = λ i j h g m n at at' is t has seen shares. let x = viewed vs i h m at in let y = viewed vs j g n at' in let b = blocking-is x.0 m x.3 is in let reads = shared-reads (length k) (phase_part y.0) (part-ok o size k ws vs r j y.0 y.1) (ap (λ (z : Hand). z.held) y.2 ∙ shares) in let least = r.phases.drained i j (phase_part x.0) (phase_part y.0) (at_map phase_part vs i x.0 x.1) (at_map phase_part vs j y.0 y.1) b.0 b.1 reads t (ap (λ (z : Hand). z.task) y.2 ∙ has) in let same = b.2 in omega (arith, least, seen, same);
      all = λ i h m at is seen. let x = viewed vs i h m at in let b = blocking-is x.0 m x.3 is in sym (ap (λ (z : Hand). z.held) x.2) ∙ ((part-ok o size k ws vs r i x.0 x.1).holds ∙ (ap (held_by (length k)) b.1 ∙ held-all (length k) b.0 (sym b.2 ∙ seen)));
      alone = λ i h m at is. let x = viewed vs i h m at in let b = alone-blocks (length k) (phase_part x.0) (part-ok o size k ws vs r i x.0 x.1) (ap (λ (z : Hand). z.held) x.2 ∙ is) in (ap phase_in (sym x.3) ∙ ap phase_of b, ap seen_in (sym x.3) ∙ ap (λ (w : Phase). seen_in (record { numbers = kept_phase w })) b);
    };
  }

-- each step of a run is one of the semaphore's, as its moments tell
module _ {Call : Type 0} (o : Obj Call) (size : ℕ) (k : Plan) where
  abbrev Step : Instant Phase → Instant Phase → Type 0
  Step = Moves (PercpuKept o size k) (PercpuMoves k)

  abbrev show : Instant Phase → Moment
  show = moment kept_phase

  percpu-step : (x y : Instant Phase) → Step x y → IsPercpuStep k (show x) (show y)
  percpu-step x y m = let v = m.3.site.before in let u = m.3.site.after in record {
    by = move-steps kept_phase k block_at x y (m.0, m.3.site, m.4);
    before = v.ext;
    after = u.ext;
    was = at_map marks x.views m.0 v m.3.site.at;
    is = at_map marks y.views m.0 u m.3.site.at';
    goes = m.3.goes;
    held = (m.1.phases.each m.0 (phase_part v) (at_map phase_part x.views m.0 v m.3.site.at)).holds;
    holds = (m.2.phases.each m.0 (phase_part u) (at_map phase_part y.views m.0 u m.3.site.at')).holds;
    task = m.3.task;
    others = λ j a b other at at'. let c = at_unmap marks x.views j a at in let d = at_unmap marks y.views j b at' in sym d.2 ∙ (ap phase_marks (m.3.others j c.0 d.0 other c.1 d.1) ∙ c.2);
    new = λ j a out at. let c = at_unmap marks y.views j a at in sym c.2 ∙ ap phase_marks (m.3.new j c.0 (omega (arith, out, length-map x.views marks)) c.1);
  }

  all-steps : (run : List (Instant Phase)) → Paced Step run → Paced (IsPercpuStep k) (map show run)
  all-steps [] p = tt
  all-steps (y ∷ []) p = (tt, tt)
  all-steps (y ∷ x ∷ run) p = (percpu-step x y p.0, all-steps (x ∷ run) p.1)

  pub percpu-steps : (begun : Moment) (past : List Moment) → Ran kept_phase begun Step past → Paced (IsPercpuStep k) past
  percpu-steps begun past r = subst (Paced (IsPercpuStep k)) (sym r.1) (all-steps r.0 r.3)

-- a step that changes how often a pass has stepped is that pass's
module _ (k : Plan) (at : ℕ) (x y : Moment) (s : IsSiteStep k at x y) (seat had : ℕ) (h g : Hand) (there : get_elem? x.hands seat ≡ some h) (there' : get_elem? y.hands seat ≡ some g) (had_steps : get_elem? x.steps seat ≡ some had) (has_steps : get_elem? y.steps seat ≡ some (had + 1)) where
  not-same : SamePass seat x y → ⊥
  not-same same = let e : had + 1 ≡ had = some-injective (had + 1) had (sym has_steps ∙ (same.steps ∙ had_steps)) in absurd (omega (arith, e))

  not-gone : IsGone seat h x y → ⊥
  not-gone gone = let e : had + 1 ≡ 0 = some-injective (had + 1) 0 (sym has_steps ∙ gone.steps) in absurd (omega (arith, e))

  pub own-seat : seat ≡ s.id
  own-seat = dite (ℕ_discrete seat s.id) (λ same. same) (λ other. absurd (by_plan other g.plan refl))
    where
      by_plan : seat ≢ s.id → (plan : Option Plan) → g.plan ≡ plan → ⊥
      by_plan other None bare = elim (s.spends seat h g other there there' bare) [ inl same ↦ not-same same | inr gone ↦ not-gone gone ]
      by_plan other (Some p) live = not-same (s.others seat h g other there there' (λ bare. none-some p (sym bare ∙ live)))

-- who holds shared, and nothing behind a step of its own, leaves its count at 0
shared-goes : (tasks : ℕ) (task : Option ℕ) (w w' : Words) (p q : Phase) (own : ℕ) → task ≡ Some own → held_by tasks p ≡ Shared → held_by tasks q ≡ No → PhaseGoes task w w' p q → w'.count own ≡ 0
shared-goes tasks task w w' Idle q own named shares out goes = no-shared shares
shared-goes tasks task w w' Added q own named shares out goes = no-shared shares
shared-goes tasks task w w' Back q own named shares out goes = no-shared shares
shared-goes tasks task w w' Reads Idle own named shares out goes = ap (λ (t : ℕ). w'.count t) (same-some own goes.0 (sym named ∙ goes.1)) ∙ goes.2.is
shared-goes tasks task w w' Reads Added own named shares out goes = absurd goes
shared-goes tasks task w w' Reads Back own named shares out goes = absurd goes
shared-goes tasks task w w' Reads Reads own named shares out goes = no-shared (sym out)
shared-goes tasks task w w' Reads (Blocks n) own named shares out goes = absurd goes
shared-goes tasks task w w' (Blocks n) q own named shares out goes = dite (ℕ_discrete n tasks) (λ all. shared-alone (sym shares ∙ held-all tasks n all)) (λ not. no-shared (sym (held-some tasks n not) ∙ shares))

idle-out : (tasks : ℕ) (p : Phase) {P : Type 0} → p ≡ Idle → held_by tasks p ≡ Shared → P
idle-out tasks p idle shares = no-shared (sym (ap (held_by tasks) idle) ∙ shares)

pub count-left : (k : Plan) (x y : Moment) (seat had own : ℕ) (h g : Hand) → IsPercpuStep k x y → get_elem? x.hands seat ≡ some h → get_elem? y.hands seat ≡ some g → get_elem? x.steps seat ≡ some had → get_elem? y.steps seat ≡ some (had + 1) → h.held ≡ Shared → g.held ≡ No → g.task ≡ Some own
    → get_or y.words (count_at own) 0 ≡ 0
count-left k x y seat had own h g s there there' had_steps has_steps shares out named = let here : seat ≡ s.by.id = own-seat k block_at x y s.by seat had h g there there' had_steps has_steps in
    let was : h ≡ s.by.before = some-injective h s.by.before (sym there ∙ (ap (get_elem? x.hands) here ∙ s.by.at)) in let is : g ≡ s.by.after = some-injective g s.by.after (sym there' ∙ (ap (get_elem? y.hands) here ∙ s.by.at')) in
    let held : held_by (length k) s.before ≡ Shared = sym s.held ∙ (sym (ap (λ (z : Hand). z.held) was) ∙ shares) in let task : s.by.after.task ≡ Some own = sym (ap (λ (z : Hand). z.task) is) ∙ named in
    shared-goes (length k) s.by.before.task (words_in x.words) (words_in y.words) s.before s.after own
    (elim s.task [ inl same ↦ sym same ∙ task | inr idle ↦ idle-out (length k) s.before idle.0 held ])
    held
    (sym s.holds ∙ (sym (ap (λ (z : Hand). z.held) is) ∙ out))
    s.goes
