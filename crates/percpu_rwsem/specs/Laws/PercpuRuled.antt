-- The laws of the rule of a table with a count for each task and a block word.
use Rattle.std.proofs.Common.{◌≡◌, ◌≢◌, ℕ, zero, suc, ◌+◌, ◌<◌, ◌≤◌, ◌⊎◌, inl, inr, ⊎_elim, Option, List, [], ◌∷◌, ◌++◌, length, map, get_or, set, None, sym, refl, ap, ◌∙◌, subst, arith, length-set}
use Rattle.std.proofs.Common.{get_or-set_other}
use Rattle.std.proofs.lemmas.List.{drop-set-lt}
use mathlib.Core.Option.{some, some-injective, some-ne-none}
use mathlib.Core.Logic.{dite}
use native.Mathlib.Decide.{ℕ_discrete}
use lib.ListN.{get_elem?}
use Rattle.atomic_table.proofs.Lists.{at_map, at_longer, at_snoc, set_else}
use Rattle.word_bits.specs.declared.TheConstants.{MAX_TASKS}
use Rattle.word_bits.specs.Objects.{Obj}
use Rattle.word_bits.specs.Histories.{Plan}
use Rattle.lock_core.specs.declared.layout.TheConstants.{LOCK_WORDS}
use Rattle.lock_core.specs.Layout.{SiteWords, fresh, site, lay, width}
use Rattle.lock_core.specs.Views.{hand_of, seated, ticked, first, split_off, merged, spent, HoldsNothing}
use Rattle.lock_core.specs.Sites.{HandGoes, KeepsSaw, SiteKept}
use Rattle.lock_core.specs.Moves.{Goes, KeepsHold, SiteMove}
use Rattle.lock_core.specs.Laws.Move.{set-moves, hold-moved}
use Rattle.lock_core.specs.ViewParts.{keep_part, set_part, set-there, snoc_part}
use Rattle.percpu_rwsem.specs.Phases.{PhasePart, PhasesKept, phase_part, part}
use Rattle.percpu_rwsem.specs.Laws.Phase.{stranger_part, phases-stay, phases-strangers, phases-open}
use Rattle.percpu_rwsem.specs.PhaseSteps.{PhaseGoes, SameWords, Words}
use Rattle.percpu_rwsem.specs.PercpuRuled.{V, KeepsTask, NewAreIdle, OthersStay, PercpuKept, PercpuMoves, Phases, block_at, count_at, never, words_in}
use Rattle.percpu_rwsem.specs.Types.{Hand, SpinHand, Phase, Idle, Added, Back, Reads, Blocks}

abbrev Rests : V → Type 0
Rests v = v.ext ≡ Idle

abbrev parts : List V → List PhasePart
parts vs = map phase_part vs

-- words that say the same of the semaphore
pub same-phases : (k : Plan) (ws us : List ℕ) (ps : List PhasePart) → get_or us block_at 0 ≡ get_or ws block_at 0 → ((t : ℕ) → t < MAX_TASKS → get_or us (count_at t) 0 ≡ get_or ws (count_at t) 0)
    → Phases k ws ps → Phases k us ps
same-phases k ws us ps block counts r = record {
  counts = λ t l. counts t l ∙ r.counts t l;
  code = block ∙ r.code;
  one = r.one;
  each = r.each;
  drained = r.drained;
}

-- a step that leaves the phase and the words
pub phase-stays : (task : Option ℕ) (w w' : Words) (e : Phase) → SameWords w w' → PhaseGoes task w w' e e
phase-stays task w w' Idle same = same
phase-stays task w w' Added same = same
phase-stays task w w' Back same = same
phase-stays task w w' Reads same = same
phase-stays task w w' (Blocks n) same = (same, inl refl)

-- a step on the site's words leaves those of the semaphore
site-words : (ws : List ℕ) (i n : ℕ) → SameWords (words_in ws) (words_in (set ws (LOCK_WORDS + i) n))
site-words ws i n = (get_or-set_other ws (LOCK_WORDS + i) block_at n 0 (λ e. omega (arith, e)), λ t l. get_or-set_other ws (LOCK_WORDS + i) (count_at t) n 0 (λ e. omega (arith, e, l)))

beyond : {P : Type 0} (vs : List V) (j : ℕ) (u : V) → length vs ≤ j → get_elem? vs j ≡ some u → P
beyond [] j u out there = absurd (some-ne-none u (sym there))
beyond (v ∷ vs) zero u out there = absurd (omega (arith, out))
beyond (v ∷ vs) (suc j) u out there = beyond vs j u (omega (arith, out)) there

same-place : (vs : List V) (j : ℕ) (v u : V) → get_elem? vs j ≡ some v → get_elem? vs j ≡ some u → u ≡ v
same-place vs j v u here there = some-injective u v (sym there ∙ here)

-- a step of one view
others-set : (vs : List V) (id : ℕ) (w : V) → OthersStay id vs (set vs id w)
others-set vs id w j v u other here there = ap (λ (z : V). z.ext) (same-place (set vs id w) j v u (set_else vs id j w other ∙ here) there)

new-set : (vs : List V) (id : ℕ) (w : V) → NewAreIdle vs (set vs id w)
new-set vs id w j u out there = beyond (set vs id w) j u (omega (arith, out, length-set vs id w)) there

-- what the pass's own views tell
percpu-moves : (k : Plan) (id : ℕ) (ws us : List ℕ) (vs vs' : List V) (v u : V) → SiteMove id (get_or ws block_at 0) (site k ws) vs (site k us) vs' → get_elem? vs id ≡ some v
    → get_elem? vs' id ≡ some u → PhaseGoes v.hand.task (words_in ws) (words_in us) v.ext u.ext → KeepsTask v u → OthersStay id vs vs' → NewAreIdle vs vs'
    → PercpuMoves k id ws vs us vs'
percpu-moves k id ws us vs vs' v u m at at' goes task others new = let b : v ≡ m.before = same-place vs id m.before v m.at at in let a : u ≡ m.after = same-place vs' id m.after u m.at' at' in record {
  site = m;
  goes = subst (λ (z : V × V). PhaseGoes z.0.hand.task (words_in ws) (words_in us) z.0.ext z.1.ext) (λ i. (b i, a i)) goes;
  task = subst (λ (z : V × V). KeepsTask z.0 z.1) (λ i. (b i, a i)) task;
  others = others;
  new = new;
}

-- the laws of the moves

pub sites-moves : (k : Plan) (ws : List ℕ) (vs : List V) (id i n : ℕ) (v : V) (h : Hand) (s : SpinHand) → get_elem? vs id ≡ some v → (h.task ≡ v.hand.task) ⊎ (v.ext ≡ Idle)
    → SiteMove id (get_or ws block_at 0) (site k ws) vs (site k (set ws (LOCK_WORDS + i) n)) (set vs id (seated v h s))
    → PercpuMoves k id ws vs (set ws (LOCK_WORDS + i) n) (set vs id (seated v h s))
sites-moves k ws vs id i n v h s at task step = let w : V = seated v h s in percpu-moves k id ws (set ws (LOCK_WORDS + i) n) vs (set vs id w) v w step at (set-there vs id v w at)
    (phase-stays v.hand.task (words_in ws) (words_in (set ws (LOCK_WORDS + i) n)) v.ext (site-words ws i n)) (⊎_elim (λ (e : h.task ≡ v.hand.task). inl e) (λ (e : v.ext ≡ Idle). inr (e, e)) task)
    (others-set vs id w) (new-set vs id w)

pub splits-moves : (k : Plan) (ws : List ℕ) (vs : List V) (id : ℕ) (v : V) → get_elem? vs id ≡ some v
    → SiteMove id (get_or ws block_at 0) (site k ws) vs (site k ws) (set vs id (ticked v) ++ split_off Idle v ∷ []) → PercpuMoves k id ws vs ws (set vs id (ticked v) ++ split_off Idle v ∷ [])
splits-moves k ws vs id v at step = let x : V = split_off Idle v in let us : List V = set vs id (ticked v) in
    percpu-moves k id ws ws vs (us ++ x ∷ []) v (ticked v) step at (at_longer us (x ∷ []) id (ticked v) (set-there vs id v (ticked v) at))
    (phase-stays v.hand.task (words_in ws) (words_in ws) v.ext (refl, λ t l. refl))
    (inl refl)
    (λ j a b other here there. ap (λ (z : V). z.ext) (same-place (us ++ x ∷ []) j a b (at_longer us (x ∷ []) j a (set_else vs id j (ticked v) other ∙ here)) there))
    (λ j b out there. ⊎_elim (λ (old : get_elem? us j ≡ some b). new-set vs id (ticked v) j b out old) (λ (e : x ≡ b). ap (λ (z : V). z.ext) (sym e)) (at_snoc us x b j there))

pub joins-moves : (k : Plan) (ws : List ℕ) (vs : List V) (id other : ℕ) (v w : V) → get_elem? vs id ≡ some v → other ≢ id → get_elem? vs other ≡ some w → w.ext ≡ Idle
    → SiteMove id (get_or ws block_at 0) (site k ws) vs (site k ws) (set (set vs id (merged v w)) other (spent Idle)) → PercpuMoves k id ws vs ws (set (set vs id (merged v w)) other (spent Idle))
joins-moves k ws vs id other v w at apart at' idle step = let x : V = spent Idle in let u : V = merged v w in let us : List V = set vs id u in
    percpu-moves k id ws ws vs (set us other x) v u step at (set_else us other id x (λ e. apart (sym e)) ∙ set-there vs id v u at)
    (phase-stays v.hand.task (words_in ws) (words_in ws) v.ext (refl, λ t l. refl))
    (inl refl)
    (λ j a b not here there. dite (ℕ_discrete j other)
    (λ (same : j ≡ other). ap (λ (z : V). z.ext) (same-place (set us other x) j x b (ap (get_elem? (set us other x)) same ∙ set-there us other w x (set_else vs id other u apart ∙ at')) there)
    ∙ sym (ap (λ (z : V). z.ext) (same-place vs j w a (ap (get_elem? vs) same ∙ at') here) ∙ idle))
    (λ apart_it. ap (λ (z : V). z.ext) (same-place (set us other x) j a b (set_else us other j x apart_it ∙ (set_else vs id j u not ∙ here)) there)))
    (λ j b out there. beyond (set us other x) j b (omega (arith, out, length-set us other x, length-set vs id u)) there)

module _ {Call : Type 0} (o : Obj Call) (size : ℕ) where
  abbrev Kept : Plan → List ℕ → List V → Type 0
  Kept = PercpuKept o size

  abbrev Site : Plan → List ℕ → List Hand → Type 0
  Site k ws hs = SiteKept o never size k (site k ws) hs

  pub rule-site : (k : Plan) (ws : List ℕ) (vs : List V) → Kept k ws vs → Site k ws (map hand_of vs)
  rule-site k ws vs r = r.site_holds

  -- a pass gets a number, or gives it back, where it has nothing in the words
  task-stays : (k : Plan) (ws : List ℕ) (vs : List V) (id : ℕ) (v : V) (h : Hand) → Kept k ws vs → get_elem? vs id ≡ some v → KeepsHold Rests v h → (h.task ≡ v.hand.task) ⊎ (v.ext ≡ Idle)
  task-stays k ws vs id v h r at same = elim same.1 [
    | inl e ↦ inl e
    | inr u ↦ elim u [
      | inl out ↦ inr ((r.phases.each id (phase_part v) (at_map phase_part vs id v at)).numberless out)
      | inr q ↦ inr q.1
    ]
  ]

  pub rule-sites : (k : Plan) (ws : List ℕ) (vs : List V) (id i n : ℕ) (v : V) (h : Hand) (s : SpinHand) → Kept k ws vs → get_elem? vs id ≡ some v → KeepsHold Rests v h
      → Site k (set ws (LOCK_WORDS + i) n) (set (map hand_of vs) id h)
      → Kept k (set ws (LOCK_WORDS + i) n) (set vs id (seated v h s))
  rule-sites k ws vs id i n v h s r at same there = let w : V = seated v h s in let us : List ℕ = set ws (LOCK_WORDS + i) n in let mine = at_map phase_part vs id v at in
      let task = task-stays k ws vs id v h r at same in record {
        wide = length-set ws (LOCK_WORDS + i) n ∙ r.wide;
        site_holds = set_part hand_of (Site k us) vs id w there;
        phases = same-phases k ws us (parts (set vs id w)) (get_or-set_other ws (LOCK_WORDS + i) block_at n 0 (λ e. omega (arith, e)))
            (λ t l. get_or-set_other ws (LOCK_WORDS + i) (count_at t) n 0 (λ e. omega (arith, e, l)))
            (set_part phase_part (Phases k ws) vs id w (phases-stay (length k) (get_or ws block_at 0)
            (λ t. get_or ws (count_at t) 0) (parts vs) id (phase_part v) (phase_part w) r.phases mine same.0 refl task));
      }

  pub rule-sites-moves : (k : Plan) (ws : List ℕ) (vs : List V) (id i n : ℕ) (v : V) (h : Hand) (s : SpinHand) → Kept k ws vs → get_elem? vs id ≡ some v → KeepsHold Rests v h
      → SiteMove id (get_or ws block_at 0) (site k ws) vs (site k (set ws (LOCK_WORDS + i) n)) (set vs id (seated v h s))
      → PercpuMoves k id ws vs (set ws (LOCK_WORDS + i) n) (set vs id (seated v h s))
  rule-sites-moves k ws vs id i n v h s r at same step = sites-moves k ws vs id i n v h s at (task-stays k ws vs id v h r at same) step

  pub rule-opens : (k : Plan) → length (fresh k) ≡ width k → ((i : ℕ) → i < LOCK_WORDS → get_or (fresh k) i 0 ≡ 0) → Site k (fresh k) (map hand_of (first {E = Phase} k Idle ∷ []))
      → Kept k (fresh k) (first k Idle ∷ [])
  rule-opens k wide zeros there = record {
    wide = wide;
    site_holds = there;
    phases = subst (λ (z : ℕ). PhasesKept (length k) z (λ t. get_or (fresh k) (count_at t) 0) (stranger_part ∷ [])) (sym (zeros block_at (omega arith)))
        (phases-open (length k) (λ t. get_or (fresh k) (count_at t) 0) (λ t l. zeros (count_at t) (omega (arith, l))));
  }

  pub rule-splits : (k : Plan) (ws : List ℕ) (vs : List V) (id : ℕ) (v : V) → Kept k ws vs → get_elem? vs id ≡ some v → Site k ws (map hand_of (set vs id (ticked v) ++ split_off Idle v ∷ []))
      → Kept k ws (set vs id (ticked v) ++ split_off Idle v ∷ [])
  rule-splits k ws vs id v r at there = let us : List V = set vs id (ticked v) in record {
    wide = r.wide;
    site_holds = there;
    phases = snoc_part phase_part (Phases k ws) us (split_off Idle v) (phases-strangers (length k) (get_or ws block_at 0)
        (λ t. get_or ws (count_at t) 0) (parts us) (keep_part phase_part (Phases k ws) vs id v (ticked v) at refl r.phases));
  }

  pub rule-joins : (k : Plan) (ws : List ℕ) (vs : List V) (id other : ℕ) (v w : V) → Kept k ws vs → get_elem? vs id ≡ some v → other ≢ id → get_elem? vs other ≡ some w → HoldsNothing w × Rests w
      × (w.hand.task ≡ None)
      → Site k ws (map hand_of (set (set vs id (merged v w)) other (spent Idle))) → Kept k ws (set (set vs id (merged v w)) other (spent Idle))
  rule-joins k ws vs id other v w r at apart at' free there = let u : V = merged v w in let us : List V = set vs id u in record {
    wide = r.wide;
    site_holds = there;
    phases = set_part phase_part (Phases k ws) us other (spent Idle)
        (phases-stay (length k) (get_or ws block_at 0) (λ t. get_or ws (count_at t) 0) (parts us) other (phase_part w) (phase_part (spent Idle))
        (keep_part phase_part (Phases k ws) vs id v u at refl r.phases) (at_map phase_part us other w (set_else vs id other u apart ∙ at')) (sym free.0.0) (sym free.1) (inr free.1));
  }

  -- a step on the words of the semaphore leaves the site's words
  pub rule-goes : (k : Plan) (ws us : List ℕ) (vs : List V) (id : ℕ) (v : V) (h : Hand) (e : Phase) → Kept k ws vs → get_elem? vs id ≡ some v → length us ≡ length ws → site k us ≡ site k ws
      → HandGoes v.hand h → KeepsSaw v.hand h → Site k ws (set (map hand_of vs) id h) → Phases k us (set (parts vs) id (part h e)) → h.task ≡ v.hand.task
      → PhaseGoes v.hand.task (words_in ws) (words_in us) v.ext e
      → Goes (Kept k) (PercpuMoves k) id ws vs us (set vs id (record v { hand = h; steps = v.steps + 1; ext = e }))
  rule-goes k ws us vs id v h e r at long same goes saw there phases task step = let w : V = record v { hand = h; steps = v.steps + 1; ext = e } in (
    record {
      wide = long ∙ r.wide;
      site_holds = subst (λ (z : SiteWords). SiteKept o never size k z (map hand_of (set vs id w))) (sym same) (set_part hand_of (Site k ws) vs id w there);
      phases = set_part phase_part (Phases k us) vs id w phases;
    },
    percpu-moves k id ws us vs (set vs id w) v w (subst (λ (z : SiteWords). SiteMove id (get_or ws block_at 0) (site k ws) vs z (set vs id w)) (sym same)
        (set-moves id (site k ws) (site k ws) vs v w at (hold-moved (site k ws) v h e goes (inl saw)))) at (set-there vs id v w at) step (inl task) (others-set vs id w) (new-set vs id w),
  )

  -- one word of a lock is changed
  pub rule-puts : (k : Plan) (ws : List ℕ) (vs : List V) (id place n : ℕ) (v : V) (h : Hand) (e : Phase) → place < LOCK_WORDS → Kept k ws vs → get_elem? vs id ≡ some v → HandGoes v.hand h
      → KeepsSaw v.hand h → Site k ws (set (map hand_of vs) id h) → Phases k (set ws place n) (set (parts vs) id (part h e)) → h.task ≡ v.hand.task
      → PhaseGoes v.hand.task (words_in ws) (words_in (set ws place n)) v.ext e
      → Goes (Kept k) (PercpuMoves k) id ws vs (set ws place n) (set vs id (record v { hand = h; steps = v.steps + 1; ext = e }))
  rule-puts k ws vs id place n v h e inside r at goes saw there phases task step =
      rule-goes k ws (set ws place n) vs id v h e r at (length-set ws place n) (ap (lay k) (drop-set-lt LOCK_WORDS ws place n inside)) goes saw there phases task step
