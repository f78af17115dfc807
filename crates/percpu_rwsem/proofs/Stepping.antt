-- The steps on the words of the semaphore keep its rule.
use Rattle.std.proofs.Common.{◌≡◌, ◌≢◌, ◌∙◌, ℕ, ◌+◌, ◌<◌, ◌≤◌, inl, inr, false, List, [], ◌∷◌, length, map, take, get_or, set, Option, Some, None, sym, refl, ap, subst, arith, zero, suc, get_or-set_same, get_or-set_other}
use mathlib.Core.Option.{some, none, some-injective, some-ne-none}
use mathlib.Core.Logic.{dite}
use native.Mathlib.Decide.{ℕ_discrete}
use lib.ListN.{get_elem?}
use lib.Seq.{set-get_or}
use Rattle.atomic_table.specs.Table.{Me, step, keeps}
use Rattle.atomic_table.proofs.Lists.{at_map, set_again}
use Rattle.word_bits.specs.declared.TheConstants.{MAX_TASKS}
use Rattle.word_bits.specs.OwnerWord.{task_code}
use Rattle.word_bits.specs.Objects.{Obj}
use Rattle.word_bits.specs.Histories.{Plan}
use Rattle.lock_core.specs.declared.layout.TheConstants.{LOCK_WORDS}
use Rattle.lock_core.specs.Layout.{site}
use Rattle.lock_core.specs.Ops.{word_after}
use Rattle.lock_core.specs.Views.{hand_of, held_of, alone_of, named_of, is_number, ticked, took, held_weight, alone_weight}
use Rattle.lock_core.specs.Holding.{Learns, released}
use Rattle.lock_core.specs.Totals.{total, total-at, total-two}
use Rattle.lock_core.specs.ViewParts.{Each, at_unmap}
use Rattle.lock_core.specs.Sites.{SiteKept, HandGoes, KeepsSaw, HasPlan}
use Rattle.lock_core.specs.Moves.{Lets}
use Rattle.lock_core.specs.Laws.Move.{hand-stays, saw-stays}
use Rattle.lock_core.proofs.HandLaws.{is_number-here, is_number-else}
use Rattle.lock_core.proofs.RowLaws.{none-some}
use Rattle.lock_core.proofs.HoldSteps.{none-alone, quiet-state, site-takes, site-frees}
use Rattle.percpu_rwsem.specs.Phases.{PhasePart, PartOk, part, phase_part, inside_of, code_of, blocks_of, inside_weight, code_weight, blocks_weight}
use Rattle.percpu_rwsem.specs.PhaseSteps.{BlockGoes, CountGoes, PhaseGoes}
use Rattle.percpu_rwsem.specs.Laws.Phase.{no-shared, no-alone, held-all, held-some, shared-reads, alone-blocks, blocks-codes, only-code, some-of, inside-named, phases-step}
use Rattle.percpu_rwsem.specs.PercpuRuled.{V, PercpuKept, PercpuMoves, Phases, block_at, count_at, never, words_in}
use Rattle.percpu_rwsem.specs.Laws.PercpuRuled.{phase-stays, rule-goes, rule-puts}
use Rattle.percpu_rwsem.specs.Types.{Op, Load, Store, Add, Sub, Exchange, Hand, Held, No, Shared, Alone, Rest, Phase, Idle, Added, Back, Reads, Blocks}
use Rattle.percpu_rwsem.specs.PercpuPlays as play

-- a live view's plan is the table's
its-plan : (k p : Plan) (plan : Option Plan) → HasPlan k plan → plan ≡ Some p → k ≡ p
its-plan k p plan has is = sym (subst (HasPlan k) is has)

-- a pass that has this phase and another has none
abbrev seen_in : Phase → ℕ
seen_in Idle = 0
seen_in Added = 0
seen_in Back = 0
seen_in Reads = 0
seen_in (Blocks n) = n

abbrev reads_weight : Phase → ℕ
reads_weight Idle = 0
reads_weight Added = 0
reads_weight Back = 0
reads_weight Reads = 1
reads_weight (Blocks n) = 0

no-reads : (w : Phase) {P : Type 0} → reads_weight w ≡ 0 → w ≡ Reads → P
no-reads w zeroes is = let e : reads_weight w ≡ 1 = ap reads_weight is in absurd (omega (arith, e, zeroes))

no-blocks : (w : Phase) (n : ℕ) {P : Type 0} → blocks_weight w ≡ 0 → w ≡ Blocks n → P
no-blocks w n zeroes is = let e : blocks_weight w ≡ 1 = ap blocks_weight is in absurd (omega (arith, e, zeroes))

-- a pass with another number has nothing in a task's count
inside-else : (u t : ℕ) (p : PhasePart) → u ≢ t → p.task ≡ Some t → inside_of u p ≡ 0
inside-else u t p other has = let a = inside-named u p in let b : is_number u p.task ≡ 0 = ap (is_number u) has ∙ is_number-else u t (λ e. other (sym e)) in omega (arith, a, b)

-- what a pass with this number and phase has in its count
inside-own : (t : ℕ) (p : PhasePart) (w : Phase) → p.task ≡ Some t → p.phase ≡ w → inside_of t p ≡ inside_weight t (Some t) w
inside-own t p w has is = λ i. inside_weight t (has i) (is i)

-- a step on a task's count, by the pass that has its number
put-counts : (ws : List ℕ) (t n : ℕ) (p p' : PhasePart) → count_at t < length ws → p.task ≡ Some t → p'.task ≡ Some t → n + inside_of t p ≡ get_or ws (count_at t) 0 + inside_of t p' → (u : ℕ) → get_or (set ws (count_at t) n) (count_at u) 0 + inside_of u p ≡ get_or ws (count_at u) 0 + inside_of u p'
put-counts ws t n p p' within has has' sum u = dite (ℕ_discrete u t)
    (λ is. subst (λ (z : ℕ). get_or (set ws (count_at t) n) (count_at z) 0 + inside_of z p ≡ get_or ws (count_at z) 0 + inside_of z p') (sym is) (let e = get_or-set_same ws (count_at t) n 0 within in omega (arith, e, sum)))
    (λ not. let e = get_or-set_other ws (count_at t) (count_at u) n 0 (λ z. not (omega (arith, z))) in let a = inside-else u t p not has in let b = inside-else u t p' not has' in omega (arith, e, a, b))

-- the count of a task is put
put-count : (ws : List ℕ) (t n n' m : ℕ) → count_at t < length ws → get_or ws (count_at t) 0 ≡ n → m ≡ n' → CountGoes t n n' (words_in ws) (words_in (set ws (count_at t) m))
put-count ws t n n' m within was is = record {
  was = was;
  is = get_or-set_same ws (count_at t) m 0 within ∙ is;
  others = λ u l not. get_or-set_other ws (count_at t) (count_at u) m 0 (λ z. not (omega (arith, z)));
  block = get_or-set_other ws (count_at t) block_at m 0 (λ e. omega (arith, e));
}

-- the block word is put
put-block : (ws : List ℕ) (n n' m : ℕ) → block_at < length ws → get_or ws block_at 0 ≡ n → m ≡ n' → BlockGoes n n' (words_in ws) (words_in (set ws block_at m))
put-block ws n n' m within was is = record {
  was = was;
  is = get_or-set_same ws block_at m 0 within ∙ is;
  counts = λ u l. get_or-set_other ws block_at (count_at u) m 0 (λ z. omega (arith, z));
}

zero-sum : (hs : List Hand) → Each (λ h. h.held ≡ No) hs → total held_of hs ≡ 0
zero-sum [] each = refl
zero-sum (h ∷ hs) each = let a = zero-sum hs (λ j g at. each (suc j) g at) in let b : held_of h ≡ 0 = ap held_weight (each zero h refl) in omega (arith, a, b)

alone-code : (tasks : ℕ) (p : PhasePart) → PartOk tasks p → alone_weight p.held ≤ blocks_of p
alone-code tasks p ok = go p.held refl
  where
    go : (x : Held) → p.held ≡ x → alone_weight x ≤ blocks_of p
    go No is = omega arith
    go Shared is = omega arith
    go Alone is = let e : blocks_of p ≡ 1 = ap blocks_weight (alone-blocks tasks p ok is) in omega (arith, e)

pub held-cases : (x : Held) {P : Type 0} → (x ≡ No → P) → (x ≡ Shared → P) → (x ≡ Alone → P) → P
held-cases No a b c = a refl
held-cases Shared a b c = b refl
held-cases Alone a b c = c refl

module _ {Call : Type 0} (o : Obj Call) (size : ℕ) (k : Plan) where
  abbrev M : Type 0
  M = Me (Unit {0}) V

  abbrev Kept : List ℕ → List V → Type 0
  Kept = PercpuKept o size k

  abbrev Site : List ℕ → List Hand → Type 0
  Site ws hs = SiteKept o never size k (site k ws) hs

  abbrev parts : List V → List PhasePart
  parts vs = map phase_part vs

  abbrev hands : List V → List Hand
  hands vs = map hand_of vs

  abbrev May : ℕ → ℕ → M → ℕ → Op → (ℕ → M → Type 0) → Type 0
  May = Lets Kept (PercpuMoves k)

  -- what a step comes to: a hand and a phase
  abbrev Comes : (ws us : List ℕ) (vs : List V) (id : ℕ) (v : V) → (V → Type 0) → Type 0
  Comes ws us vs id v tells = (h : Hand) × (e : Phase) × HandGoes v.hand h × KeepsSaw v.hand h × Site ws (set (hands vs) id h) × Phases k us (set (parts vs) id (part h e)) × (h.task ≡ v.hand.task) × PhaseGoes v.hand.task (words_in ws) (words_in us) v.ext e × tells (play.phased v h e)

  -- a step that may change a word
  acts : (slots id place : ℕ) (me : M) (op : Op) (tells : ℕ → M → Type 0) → place < LOCK_WORDS
      → ((ws : List ℕ) (vs : List V) → Kept ws vs → get_elem? vs id ≡ some me.0 → get_or ws place 0 < 18446744073709551616 → Comes ws (set ws place (word_after op (get_or ws place 0))) vs id me.0 (λ u. tells (get_or ws place 0) (u, me.1)))
      → May slots id me place op tells
  acts slots id place me op tells inside comes s r _ at small = let ws = s.words in let vs = s.views in let t = comes ws vs r at small in
      (play.phased me.0 t.0 t.1, keeps, tt, rule-puts o size k ws vs id place (word_after op (get_or ws place 0)) me.0 t.0 t.1 inside r at t.2 t.3 t.4 t.5 t.6 t.7, refl, t.8)

  -- a load
  looks : (slots id place : ℕ) (me : M) (tells : ℕ → M → Type 0) → place < LOCK_WORDS
      → ((ws : List ℕ) (vs : List V) → Kept ws vs → get_elem? vs id ≡ some me.0 → Comes ws ws vs id me.0 (λ u. tells (get_or ws place 0) (u, me.1)))
      → May slots id me place Load tells
  looks slots id place me tells inside comes = acts slots id place me Load tells inside (λ ws vs r at small. subst (λ (us : List ℕ). Comes ws us vs id me.0 (λ u. tells (get_or ws place 0) (u, me.1))) (sym (set-get_or ws place 0)) (comes ws vs r at))

  -- the hand stays
  same-hand : (ws : List ℕ) (vs : List V) (id : ℕ) (v : V) → Kept ws vs → get_elem? vs id ≡ some v → Site ws (set (hands vs) id v.hand)
  same-hand ws vs id v r at = subst (Site ws) (sym (set_again (hands vs) id v.hand (at_map hand_of vs id v at))) r.site_holds

  same-phases : (ws : List ℕ) (vs : List V) (id : ℕ) (v : V) → Kept ws vs → get_elem? vs id ≡ some v → Phases k ws (set (parts vs) id (part v.hand v.ext))
  same-phases ws vs id v r at = subst (Phases k ws) (sym (set_again (parts vs) id (phase_part v) (at_map phase_part vs id v at))) r.phases

  -- a load after which all is as it was
  ticks : (ws : List ℕ) (vs : List V) (id : ℕ) (v : V) (tells : V → Type 0) → Kept ws vs → get_elem? vs id ≡ some v → tells (ticked v) → Comes ws ws vs id v tells
  ticks ws vs id v tells r at told = (v.hand, v.ext, hand-stays v.hand, saw-stays v.hand, same-hand ws vs id v r at, same-phases ws vs id v r at, refl, phase-stays v.hand.task (words_in ws) (words_in ws) v.ext (refl, λ t l. refl), told)

  inside-count : (t : ℕ) → t < MAX_TASKS → count_at t < LOCK_WORDS
  inside-count t l = omega (arith, l)

  wide-enough : (ws : List ℕ) (vs : List V) (place : ℕ) → Kept ws vs → place < LOCK_WORDS → place < length ws
  wide-enough ws vs place r l = let w = r.wide in omega (arith, w, l)

  -- a pass's number is that of a task
  pub its-task : (ws : List ℕ) (vs : List V) (id t : ℕ) (v : V) → Kept ws vs → get_elem? vs id ≡ some v → v.hand.task ≡ Some t → (t < length k) × (t < MAX_TASKS)
  its-task ws vs id t v r at has = let m = ((r.site_holds.each id v.hand (at_map hand_of vs id v at)).mine t has).0 in let s = r.site_holds.laid.small.tasks in (m, omega (arith, m, s))

  -- no number is taken twice
  insides : (t : ℕ) (vs : List V) → total (inside_of t) (parts vs) ≤ total (named_of t) (hands vs)
  insides t [] = omega arith
  insides t (v ∷ vs) = let a = insides t vs in let b = inside-named t (phase_part v) in omega (arith, a, b)

  pub count-bit : (ws : List ℕ) (vs : List V) (t : ℕ) → Kept ws vs → t < MAX_TASKS → get_or ws (count_at t) 0 ≤ 1
  count-bit ws vs t r l = let a = insides t vs in let b = (r.site_holds.balances.named t l).1 in let c = r.phases.counts t l in omega (arith, a, b, c)

  -- a task whose pass has nothing in its count has the count 0
  insides-but : (t : ℕ) (vs : List V) (id : ℕ) (v : V) → get_elem? vs id ≡ some v → total (inside_of t) (parts vs) + named_of t v.hand ≤ total (named_of t) (hands vs) + inside_of t (phase_part v)
  insides-but t [] id v at = absurd (some-ne-none v (sym at))
  insides-but t (w ∷ vs) zero v at = let same = some-injective w v at in let a : inside_of t (phase_part w) ≡ inside_of t (phase_part v) = ap (λ (z : V). inside_of t (phase_part z)) same in let b : named_of t w.hand ≡ named_of t v.hand = ap (λ (z : V). named_of t z.hand) same in let c = insides t vs in omega (arith, a, b, c)
  insides-but t (w ∷ vs) (suc id) v at = let a = insides-but t vs id v at in let b = inside-named t (phase_part w) in omega (arith, a, b)

  uncounted : (ws : List ℕ) (vs : List V) (id t : ℕ) (v : V) → Kept ws vs → t < MAX_TASKS → get_elem? vs id ≡ some v → v.hand.task ≡ Some t → inside_of t (phase_part v) ≡ 0 → get_or ws (count_at t) 0 ≡ 0
  uncounted ws vs id t v r l at has nothing = let a = insides-but t vs id v at in let b = (r.site_holds.balances.named t l).1 in let c = r.phases.counts t l in let d : named_of t v.hand ≡ 1 = ap (is_number t) has ∙ is_number-here t in omega (arith, a, b, c, d, nothing)

  one-named : (ws : List ℕ) (vs : List V) (t i j : ℕ) (v w : V) {P : Type 0} → Kept ws vs → t < MAX_TASKS → get_elem? vs i ≡ some v → get_elem? vs j ≡ some w → i ≢ j → 0 < is_number t v.hand.task → 0 < is_number t w.hand.task → P
  one-named ws vs t i j v w r l ati atj other a b = let two = total-two (named_of t) (hands vs) i j v.hand w.hand (at_map hand_of vs i v ati) (at_map hand_of vs j w atj) other in let one = (r.site_holds.balances.named t l).1 in absurd (omega (arith, two, one, a, b))

  has-number : (t : ℕ) (task : Option ℕ) → task ≡ Some t → 0 < is_number t task
  has-number t task has = let e : is_number t task ≡ 1 = ap (is_number t) has ∙ is_number-here t in omega (arith, e)

  pub part-ok : (ws : List ℕ) (vs : List V) → Kept ws vs → Each (λ v. PartOk (length k) (phase_part v)) vs
  part-ok ws vs r j v at = r.phases.each j (phase_part v) (at_map phase_part vs j v at)

  -- a block word that isn't 0 is the code of a task, whose pass blocks
  blocker : (ws : List ℕ) (vs : List V) → Kept ws vs → get_or ws block_at 0 ≢ 0 → (u j : ℕ) × (x : V) × (get_elem? vs j ≡ some x) × (x.hand.task ≡ Some u) × (get_or ws block_at 0 ≡ u + 1) × (blocks_of (phase_part x) ≡ 1)
  blocker ws vs r not = let ps : List PhasePart = parts vs in let code = r.phases.code in let s = some-of code_of ps (pos (total code_of ps) (λ z. not (code ∙ z))) in let x = at_unmap phase_part vs s.0 s.1 s.2 in
      found s.0 x.0 x.1 (subst (λ (z : PhasePart). 0 < code_of z) (sym x.2) s.3) x.0.ext refl
    where
      pos : (n : ℕ) → n ≢ 0 → 0 < n
      pos zero not = absurd (not refl)
      pos (suc n) not = omega arith

      found : (j : ℕ) (x : V) → get_elem? vs j ≡ some x → 0 < code_of (phase_part x) → (w : Phase) → x.ext ≡ w → (u i : ℕ) × (y : V) × (get_elem? vs i ≡ some y) × (y.hand.task ≡ Some u) × (get_or ws block_at 0 ≡ u + 1) × (blocks_of (phase_part y) ≡ 1)
      found j x atx has Idle phase = absurd (let e : code_of (phase_part x) ≡ 0 = ap (code_weight x.hand.task) phase in omega (arith, e, has))
      found j x atx has Added phase = absurd (let e : code_of (phase_part x) ≡ 0 = ap (code_weight x.hand.task) phase in omega (arith, e, has))
      found j x atx has Back phase = absurd (let e : code_of (phase_part x) ≡ 0 = ap (code_weight x.hand.task) phase in omega (arith, e, has))
      found j x atx has Reads phase = absurd (let e : code_of (phase_part x) ≡ 0 = ap (code_weight x.hand.task) phase in omega (arith, e, has))
      found j x atx has (Blocks n) phase = numbered x.hand.task refl
        where
          numbered : (task : Option ℕ) → x.hand.task ≡ task → (u i : ℕ) × (y : V) × (get_elem? vs i ≡ some y) × (y.hand.task ≡ Some u) × (get_or ws block_at 0 ≡ u + 1) × (blocks_of (phase_part y) ≡ 1)
          numbered None bare = no-blocks Idle n refl (sym ((part-ok ws vs r j x atx).numberless bare) ∙ phase)
          numbered (Some u) some_it = let blocks : blocks_of (phase_part x) ≡ 1 = ap blocks_weight phase in let only = only-code (parts vs) j (phase_part x) (at_map phase_part vs j x atx) blocks r.phases.one in let code : code_of (phase_part x) ≡ u + 1 = (λ i. code_weight (some_it i) (phase i)) in let block = r.phases.code in
              (u, j, x, atx, some_it, omega (arith, block, only, code), blocks)

  -- where this pass doesn't block, it is another task's
  names-other : (ws : List ℕ) (vs : List V) (id : ℕ) (v : V) → Kept ws vs → get_elem? vs id ≡ some v → blocks_of (phase_part v) ≡ 0 → get_or ws block_at 0 ≢ 0 → play.NamesOther k v.hand.task (get_or ws block_at 0)
  names-other ws vs id v r at idle not = let b = blocker ws vs r not in let small = its-task ws vs b.1 b.0 b.2 r b.3 b.4 in
      (b.0, b.5, small.0, λ mine. one-named ws vs b.0 id b.1 v b.2 r small.1 at b.3 (λ e. let same : blocks_of (phase_part v) ≡ blocks_of (phase_part b.2) = ap (λ (z : V). blocks_of (phase_part z)) (some-injective v b.2 (sym at ∙ (ap (get_elem? vs) e ∙ b.3))) in let one = b.6 in omega (arith, same, idle, one)) (has-number b.0 v.hand.task mine) (has-number b.0 b.2.hand.task b.4))

  tells-task : (ws : List ℕ) (vs : List V) (id : ℕ) (m : M) → Kept ws vs → get_elem? vs id ≡ some m.0 → get_or ws block_at 0 ≢ 0 → play.TellsTask m (get_or ws block_at 0)
  tells-task ws vs id m r at not = let ok = r.site_holds.each id m.0.hand (at_map hand_of vs id m.0 at) in let b = blocker ws vs r not in let small = its-task ws vs b.1 b.0 b.2 r b.3 b.4 in
      λ p plan. subst (λ (z : Plan). play.NamesTask z (get_or ws block_at 0)) (its-plan k p m.0.hand.plan ok.plan plan) (b.0, b.5, small.0)

  tells-other : (ws : List ℕ) (vs : List V) (id : ℕ) (m : M) → Kept ws vs → get_elem? vs id ≡ some m.0 → blocks_of (phase_part m.0) ≡ 0 → get_or ws block_at 0 ≢ 0 → play.TellsOther m (get_or ws block_at 0)
  tells-other ws vs id m r at idle not = let ok = r.site_holds.each id m.0.hand (at_map hand_of vs id m.0 at) in
      λ p plan. subst (λ (z : Plan). play.NamesOther z m.0.hand.task (get_or ws block_at 0)) (its-plan k p m.0.hand.plan ok.plan plan) (names-other ws vs id m.0 r at idle not)

  -- where the block word is 0, nobody holds alone
  none-blocks : (ws : List ℕ) (vs : List V) → Kept ws vs → get_or ws block_at 0 ≡ 0 → total blocks_of (parts vs) ≡ 0
  none-blocks ws vs r free = let a = blocks-codes (length k) (parts vs) r.phases.each in let b = r.phases.code in omega (arith, a, b, free)

  alones : (vs : List V) → Each (λ v. PartOk (length k) (phase_part v)) vs → total alone_of (hands vs) ≤ total blocks_of (parts vs)
  alones [] each = omega arith
  alones (v ∷ vs) each = let a = alones vs (λ j w at. each (suc j) w at) in let b = alone-code (length k) (phase_part v) (each zero v refl) in omega (arith, a, b)

  -- what it learns that takes a hold where nobody holds alone
  gets : (me : M) (ws : List ℕ) (vs : List V) (id : ℕ) (held : Held) (e : Phase) (r : Kept ws vs) → get_elem? vs id ≡ some me.0 → total alone_of (hands vs) ≡ 0 → play.Gets o held e me (play.phased me.0 (took me.0.hand held (take size (site k ws).guarded) r.site_holds.log) e, me.1)
  gets me ws vs id held e r at unheld = let v = me.0 in let s = r.site_holds in let known : List ℕ = take size (site k ws).guarded in let ok = s.each id v.hand (at_map hand_of vs id v at) in
      (known, s.log, (λ p plan. subst (λ (z : Plan). Learns o z v.hand known s.log) (its-plan k p v.hand.plan ok.plan plan) record { stored = quiet-state o never size k (site k ws) (hands vs) s unheld; within = s.tells.within; begins = ok.seen }), (refl, refl))

  -- a reader adds to its count
  pub adds : (slots id t : ℕ) (me : M) → t < MAX_TASKS → me.0.hand.task ≡ Some t → me.0.hand.held ≡ No → me.0.ext ≡ Idle → May slots id me (count_at t) (Add 1) (play.Goes Added (step slots (count_at t) 1 0 none) me)
  adds slots id t me small has out idle = let v = me.0 in let p : PhasePart = phase_part v in let p' : PhasePart = part v.hand Added in acts slots id (count_at t) me (Add 1) (play.Goes Added (step slots (count_at t) 1 0 none) me) (inside-count t small) (λ ws vs r at _. let n : ℕ = get_or ws (count_at t) 0 in let few = count-bit ws vs t r small in
      let was : inside_of t p ≡ 0 = inside-own t p Idle has idle in let is : inside_of t p' ≡ 1 = inside-own t p' Added has refl ∙ is_number-here t in let block = get_or-set_other ws (count_at t) block_at (word_after (Add 1) n) 0 (λ e. omega (arith, e)) in (
        v.hand,
        Added,
        hand-stays v.hand,
        saw-stays v.hand,
        same-hand ws vs id v r at,
        phases-step (length k) (get_or ws block_at 0) _ (λ u. get_or ws (count_at u) 0) _ (parts vs) id p p' r.phases (at_map phase_part vs id v at)
            (λ u l. put-counts ws t (word_after (Add 1) n) p p' (wide-enough ws vs (count_at t) r (inside-count t small)) has has (omega (arith, was, is, few)) u)
            (let e : code_of p ≡ 0 = ap (code_weight v.hand.task) idle in omega (arith, block, e))
            (inl (omega arith))
            record { holds = out; numberless = λ bare. none-some t (sym bare ∙ has); few = λ m e. no-blocks Added m refl e }
            (λ m e j q _ _ _ u _. no-blocks Added m refl e)
            (λ e. no-reads Added refl e),
        refl,
        subst (λ (z : Phase). PhaseGoes v.hand.task (words_in ws) (words_in (set ws (count_at t) (word_after (Add 1) n))) z Added) (sym idle)
            (let empty = uncounted ws vs id t v r small at has was in (t, has, put-count ws t 0 1 (word_after (Add 1) n) (wide-enough ws vs (count_at t) r (inside-count t small)) empty (omega (arith, empty)))),
        (refl, refl),
      ))

  -- it loads the block word, and holds where it finds 0
  pub looks-after : (slots id t : ℕ) (me : M) → me.0.hand.task ≡ Some t → me.0.hand.held ≡ No → me.0.ext ≡ Added → May slots id me block_at Load (play.Looked o (step slots block_at 0 0 none) me)
  looks-after slots id t me has out added = let v = me.0 in let p : PhasePart = phase_part v in looks slots id block_at me (play.Looked o (step slots block_at 0 0 none) me) (omega arith) (λ ws vs r at. let n : ℕ = get_or ws block_at 0 in let ps : List PhasePart = parts vs in let mine = at_map phase_part vs id v at in
      let unblocks : blocks_of p ≡ 0 = ap blocks_weight added in let code : code_of p ≡ 0 = ap (code_weight v.hand.task) added in let was : inside_of t p ≡ 1 = inside-own t p Added has added ∙ is_number-here t in dite (ℕ_discrete n 0)
      (λ free. let none = none-blocks ws vs r free in let a = alones vs (part-ok ws vs r) in let unheld : total alone_of (hands vs) ≡ 0 = omega (arith, a, none) in let g : Hand = took v.hand Shared (take size (site k ws).guarded) r.site_holds.log in let p' : PhasePart = part g Reads in (
        g,
        Reads,
        (record { misses = omega arith; freed = λ e. refl; takes = omega arith; comes = λ l. omega (arith, l) }, refl, refl),
        (refl, inl (refl, refl)),
        site-takes o never size k (site k ws) (hands vs) id t v.hand Shared r.site_holds (at_map hand_of vs id v at) out has (λ e. no-shared (sym e)) (λ l. absurd (omega (arith, l))) unheld,
        phases-step (length k) n n (λ u. get_or ws (count_at u) 0) (λ u. get_or ws (count_at u) 0) ps id p p' r.phases mine
            (λ u l. same-inside u (get_or ws (count_at u) 0) p' refl)
            (omega (arith, code))
            (inl (omega arith))
            record { holds = refl; numberless = λ bare. none-some t (sym bare ∙ has); few = λ m e. no-blocks Reads m refl e }
            (λ m e j q _ _ _ u _. no-blocks Reads m refl e)
            (λ e. inr none),
        refl,
        subst (λ (z : Phase). PhaseGoes v.hand.task (words_in ws) (words_in ws) z Reads) (sym added) ((refl, λ u l. refl), free),
        ((λ _. gets me ws vs id Shared Reads r at unheld), λ not. absurd (not free)),
      ))
      (λ not. let p' : PhasePart = part v.hand Back in (
        v.hand,
        Back,
        hand-stays v.hand,
        saw-stays v.hand,
        same-hand ws vs id v r at,
        phases-step (length k) n n (λ u. get_or ws (count_at u) 0) (λ u. get_or ws (count_at u) 0) ps id p p' r.phases mine
            (λ u l. same-inside u (get_or ws (count_at u) 0) p' refl)
            (omega (arith, code))
            (inl (omega arith))
            record { holds = out; numberless = λ bare. none-some t (sym bare ∙ has); few = λ m e. no-blocks Back m refl e }
            (λ m e j q _ _ _ u _. no-blocks Back m refl e)
            (λ e. no-reads Back refl e),
        refl,
        subst (λ (z : Phase). PhaseGoes v.hand.task (words_in ws) (words_in ws) z Back) (sym added) ((refl, λ u l. refl), not),
        ((λ is. absurd (not is)), λ _. (tells-other ws vs id me r at unblocks not, (refl, refl))),
      )))
    where
      added-inside : (u : ℕ) → inside_of u (phase_part me.0) ≡ is_number u me.0.hand.task
      added-inside u = ap (inside_weight u me.0.hand.task) added

      same-inside : (u n : ℕ) (p' : PhasePart) → inside_of u p' ≡ is_number u me.0.hand.task → n + inside_of u (phase_part me.0) ≡ n + inside_of u p'
      same-inside u n p' is = let a = added-inside u in omega (arith, a, is)

  -- it takes its addition back
  pub backs : (slots id t : ℕ) (me : M) → t < MAX_TASKS → me.0.hand.task ≡ Some t → me.0.hand.held ≡ No → me.0.ext ≡ Back → May slots id me (count_at t) (Sub 1) (play.Goes Idle (step slots (count_at t) 1 0 none) me)
  backs slots id t me small has out back = let v = me.0 in let p : PhasePart = phase_part v in let p' : PhasePart = part v.hand Idle in acts slots id (count_at t) me (Sub 1) (play.Goes Idle (step slots (count_at t) 1 0 none) me) (inside-count t small) (λ ws vs r at fits. let n : ℕ = get_or ws (count_at t) 0 in let mine = at_map phase_part vs id v at in
      let was : inside_of t p ≡ 1 = inside-own t p Back has back ∙ is_number-here t in let least = total-at (inside_of t) (parts vs) id p mine in let sum = r.phases.counts t small in let less : word_after (Sub 1) n + 1 ≡ n = omega (arith, was, least, sum, fits) in
      let block = get_or-set_other ws (count_at t) block_at (word_after (Sub 1) n) 0 (λ e. omega (arith, e)) in (
        v.hand,
        Idle,
        hand-stays v.hand,
        saw-stays v.hand,
        same-hand ws vs id v r at,
        phases-step (length k) (get_or ws block_at 0) _ (λ u. get_or ws (count_at u) 0) _ (parts vs) id p p' r.phases mine
            (λ u l. put-counts ws t (word_after (Sub 1) n) p p' (wide-enough ws vs (count_at t) r (inside-count t small)) has has (omega (arith, was, less)) u)
            (let e : code_of p ≡ 0 = ap (code_weight v.hand.task) back in omega (arith, block, e))
            (inl (omega arith))
            record { holds = out; numberless = λ _. refl; few = λ m e. no-blocks Idle m refl e }
            (λ m e j q _ _ _ u _. no-blocks Idle m refl e)
            (λ e. no-reads Idle refl e),
        refl,
        subst (λ (z : Phase). PhaseGoes v.hand.task (words_in ws) (words_in (set ws (count_at t) (word_after (Sub 1) n))) z Idle) (sym back)
            (let few = count-bit ws vs t r small in let one : n ≡ 1 = omega (arith, was, least, sum, few) in (t, has, put-count ws t 1 0 (word_after (Sub 1) n) (wide-enough ws vs (count_at t) r (inside-count t small)) one (omega (arith, less, one)))),
        (refl, refl),
      ))

  -- a reader ends its hold
  pub ends : (slots id t : ℕ) (me : M) → t < MAX_TASKS → me.0.hand.task ≡ Some t → me.0.hand.held ≡ Shared → me.0.ext ≡ Reads → me.0.hand.writes ≡ false → me.0.hand.stage ≡ Rest → May slots id me (count_at t) (Sub 1) (play.Ended (step slots (count_at t) 1 0 none) me)
  ends slots id t me small has shares reads quiet rest = let v = me.0 in let p : PhasePart = phase_part v in let g : Hand = released v.hand 0 in let p' : PhasePart = part g Idle in acts slots id (count_at t) me (Sub 1) (play.Ended (step slots (count_at t) 1 0 none) me) (inside-count t small) (λ ws vs r at fits. let n : ℕ = get_or ws (count_at t) 0 in let mine = at_map phase_part vs id v at in
      let was : inside_of t p ≡ 1 = inside-own t p Reads has reads ∙ is_number-here t in let least = total-at (inside_of t) (parts vs) id p mine in let sum = r.phases.counts t small in let less : word_after (Sub 1) n + 1 ≡ n = omega (arith, was, least, sum, fits) in
      let block = get_or-set_other ws (count_at t) block_at (word_after (Sub 1) n) 0 (λ e. omega (arith, e)) in (
        g,
        Idle,
        (record { misses = omega arith; freed = λ e. no-shared (e ∙ shares); takes = omega arith; comes = λ l. omega (arith, l) }, refl, refl),
        (refl, inl (refl, refl)),
        site-frees o never size k (site k ws) (hands vs) id 0 v.hand r.site_holds (at_map hand_of vs id v at) quiet rest,
        phases-step (length k) (get_or ws block_at 0) _ (λ u. get_or ws (count_at u) 0) _ (parts vs) id p p' r.phases mine
            (λ u l. put-counts ws t (word_after (Sub 1) n) p p' (wide-enough ws vs (count_at t) r (inside-count t small)) has has (omega (arith, was, less)) u)
            (let e : code_of p ≡ 0 = ap (code_weight v.hand.task) reads in omega (arith, block, e))
            (inl (omega arith))
            record { holds = refl; numberless = λ _. refl; few = λ m e. no-blocks Idle m refl e }
            (λ m e j q _ _ _ u _. no-blocks Idle m refl e)
            (λ e. no-reads Idle refl e),
        refl,
        subst (λ (z : Phase). PhaseGoes v.hand.task (words_in ws) (words_in (set ws (count_at t) (word_after (Sub 1) n))) z Idle) (sym reads)
            (let few = count-bit ws vs t r small in let one : n ≡ 1 = omega (arith, was, least, sum, few) in (t, has, put-count ws t 1 0 (word_after (Sub 1) n) (wide-enough ws vs (count_at t) r (inside-count t small)) one (omega (arith, less, one)))),
        (let few = count-bit ws vs t r small in omega (arith, was, least, sum, few), (refl, refl)),
      ))

  -- a pass loads the block word
  pub sees : (slots id : ℕ) (me : M) → May slots id me block_at Load (play.Seen (step slots block_at 0 0 none) me)
  sees slots id me = looks slots id block_at me (play.Seen (step slots block_at 0 0 none) me) (omega arith) (λ ws vs r at. ticks ws vs id me.0 (λ u. play.Seen (step slots block_at 0 0 none) me (get_or ws block_at 0) (u, me.1)) r at ((λ not. tells-task ws vs id me r at not), (refl, refl)))

  -- a pass blocks, where nobody does
  pub blocks : (slots id t : ℕ) (me : M) → me.0.hand.task ≡ Some t → me.0.hand.held ≡ No → me.0.ext ≡ Idle → May slots id me block_at (Exchange 0 (t + 1)) (play.Blocked (step slots block_at 0 (t + 1) none) me)
  blocks slots id t me has out idle = let v = me.0 in let p : PhasePart = phase_part v in let p' : PhasePart = part v.hand (Blocks 0) in let unblocks : blocks_of p ≡ 0 = ap blocks_weight idle in let code : code_of p ≡ 0 = ap (code_weight v.hand.task) idle in
      Rattle.lock_core.proofs.Steps.chooses Kept (PercpuMoves k) slots id block_at 0 (t + 1) me (play.Blocked (step slots block_at 0 (t + 1) none) me)
      (λ ws vs r at free. let none = none-blocks ws vs r free in let some_tasks = (its-task ws vs id t v r at has).0 in let wide = wide-enough ws vs block_at r (omega arith) in let word = get_or-set_same ws block_at (t + 1) 0 wide in (
        play.phased v v.hand (Blocks 0),
        refl,
        rule-puts o size k ws vs id block_at (t + 1) v v.hand (Blocks 0) (omega arith) r at (hand-stays v.hand) (saw-stays v.hand) (same-hand ws vs id v r at) (phases-step (length k) (get_or ws block_at 0) _ (λ u. get_or ws (count_at u) 0) _ (parts vs) id p p' r.phases (at_map phase_part vs id v at)
            (λ u l. let e = get_or-set_other ws block_at (count_at u) (t + 1) 0 (λ z. omega (arith, z)) in let was : inside_of u p ≡ 0 = ap (inside_weight u v.hand.task) idle in omega (arith, e, was))
            (let e : code_of p' ≡ t + 1 = ap (λ (z : Option ℕ). code_weight z (Blocks 0)) has in omega (arith, word, free, code, e))
            (inr none)
            record { holds = out ∙ sym (held-some (length k) 0 (λ e. omega (arith, e, some_tasks))); numberless = λ bare. none-some t (sym bare ∙ has); few = λ m e. let s : 0 ≡ m = ap seen_in e in omega (arith, s) }
            (λ m e j q _ _ _ u _. let s : 0 ≡ m = ap seen_in e in omega (arith, s))
            (λ e. no-reads (Blocks 0) refl e))
            refl
            (subst (λ (z : Phase). PhaseGoes v.hand.task (words_in ws) (words_in (set ws block_at (t + 1))) z (Blocks 0)) (sym idle) (t, has, put-block ws 0 (t + 1) (t + 1) wide free refl, refl)),
        ((λ _. (refl, refl)), λ not. absurd (not refl)),
      ))
      (λ ws vs r at not _. (
        ticked v,
        refl,
        rule-goes o size k ws ws vs id v v.hand v.ext r at refl refl (hand-stays v.hand) (saw-stays v.hand) (same-hand ws vs id v r at) (same-phases ws vs id v r at) refl (phase-stays v.hand.task (words_in ws) (words_in ws) v.ext (refl, λ u l. refl)),
        ((λ is. absurd (not is)), λ _. (tells-other ws vs id me r at unblocks not, (refl, refl))),
      ))

  -- behind a count that is seen zero no task up to its own holds shared
  drained-next : (ws : List ℕ) (vs : List V) (id s : ℕ) (v : V) → Kept ws vs → get_elem? vs id ≡ some v → s < MAX_TASKS → v.ext ≡ Blocks s → get_or ws (count_at s) 0 ≡ 0 → (j : ℕ) (q : PhasePart) → get_elem? (parts vs) j ≡ some q → q.phase ≡ Reads → (u : ℕ) → q.task ≡ Some u → s + 1 ≤ u
  drained-next ws vs id s v r at small phase free j q atq reads u has = let least = r.phases.drained id j (phase_part v) q (at_map phase_part vs id v at) atq s phase reads u has in dite (ℕ_discrete u s)
      (λ is. let one : inside_of s q ≡ 1 = inside-own s q Reads (has ∙ ap Some is) reads ∙ is_number-here s in let l = total-at (inside_of s) (parts vs) j q atq in let c = r.phases.counts s small in absurd (omega (arith, one, l, c, free)))
      (λ not. omega (arith, least, not))

  -- a pass that has seen all counts zero stands alone
  all-drained : (ws : List ℕ) (vs : List V) (id s : ℕ) (v : V) → Kept ws vs → get_elem? vs id ≡ some v → s < MAX_TASKS → v.ext ≡ Blocks s → v.hand.held ≡ No → get_or ws (count_at s) 0 ≡ 0 → s + 1 ≡ length k → total held_of (hands vs) ≡ 0
  all-drained ws vs id s v r at small phase out free all = zero-sum (hands vs) (λ j h atj. let x = at_unmap hand_of vs j h atj in sym (ap (λ (z : Hand). z.held) x.2) ∙ free-one j x.0 x.1)
    where
      free-one : (j : ℕ) (x : V) → get_elem? vs j ≡ some x → x.hand.held ≡ No
      free-one j x atx = held-cases x.hand.held (λ is. is) (λ shares. absurd (reader shares x.hand.task refl)) (λ alone. absurd (dite (ℕ_discrete j id) (λ e. let same : x ≡ v = some-injective x v (sym atx ∙ (ap (get_elem? vs) e ∙ at)) in no-alone (sym out ∙ (sym (ap (λ (z : V). z.hand.held) same) ∙ alone))) (λ e. writer alone e)))
        where
          ok : PartOk (length k) (phase_part x)
          ok = part-ok ws vs r j x atx

          reader : x.hand.held ≡ Shared → (task : Option ℕ) → x.hand.task ≡ task → ⊥
          reader shares None bare = let reads = shared-reads (length k) (phase_part x) ok shares in no-reads Idle refl (sym (ok.numberless bare) ∙ reads)
          reader shares (Some u) has = let reads = shared-reads (length k) (phase_part x) ok shares in let a = drained-next ws vs id s v r at small phase free j (phase_part x) (at_map phase_part vs j x atx) reads u has in let b = (its-task ws vs j u x r atx has).0 in omega (arith, a, b, all)

          writer : x.hand.held ≡ Alone → j ≢ id → ⊥
          writer alone other = let a : blocks_of (phase_part x) ≡ 1 = ap blocks_weight (alone-blocks (length k) (phase_part x) ok alone) in let b : blocks_of (phase_part v) ≡ 1 = ap blocks_weight phase in let two = total-two blocks_of (parts vs) id j (phase_part v) (phase_part x) (at_map phase_part vs id v at) (at_map phase_part vs j x atx) (λ e. other (sym e)) in let one = r.phases.one in omega (arith, a, b, two, one)

  -- a count that isn't zero is another task's
  drains-other : (ws : List ℕ) (vs : List V) (id s : ℕ) (v : V) → Kept ws vs → get_elem? vs id ≡ some v → s < MAX_TASKS → v.ext ≡ Blocks s → get_or ws (count_at s) 0 ≢ 0 → v.hand.task ≢ Some s
  drains-other ws vs id s v r at small phase not mine = let c = r.phases.counts s small in let x = some-of (inside_of s) (parts vs) (pos (total (inside_of s) (parts vs)) (λ z. not (c ∙ z))) in let y = at_unmap phase_part vs x.0 x.1 x.2 in let has = x.3 in
      one-named ws vs s id x.0 v y.0 r small at y.1
      (λ e. let same : phase_part v ≡ x.1 = ap phase_part (some-injective v y.0 (sym at ∙ (ap (get_elem? vs) e ∙ y.1))) ∙ y.2 in let a : inside_of s (phase_part v) ≡ inside_of s x.1 = ap (inside_of s) same in let b : inside_of s (phase_part v) ≡ 0 = ap (inside_weight s v.hand.task) phase in omega (arith, a, b, has))
      (has-number s v.hand.task mine)
      (let a = inside-named s x.1 in let b : is_number s y.0.hand.task ≡ is_number s x.1.task = ap (λ (z : PhasePart). is_number s z.task) y.2 in omega (arith, a, b, has))
    where
      pos : (n : ℕ) → n ≢ 0 → 0 < n
      pos zero not = absurd (not refl)
      pos (suc n) not = omega arith

  -- what is told of the pass's own phase and plan is told of each that is equal
  drained-tells : (me m' : M) (s : ℕ) → me.0.ext ≡ Blocks s → HasPlan k me.0.hand.plan → (s + 1 ≢ length k → m'.0 ≡ play.phased me.0 me.0.hand (Blocks (s + 1))) → (s + 1 ≡ length k → play.Gets o Alone (Blocks (s + 1)) me m') → m'.1 ≡ me.1
      → (t : ℕ) → me.0.ext ≡ Blocks t → (q : Plan) → me.0.hand.plan ≡ Some q → (t + 1 ≢ length q → (m'.0 ≡ play.phased me.0 me.0.hand (Blocks (t + 1))) × (m'.1 ≡ me.1)) × (t + 1 ≡ length q → play.Gets o Alone (Blocks (t + 1)) me m')
  drained-tells me m' s phase planned goes holds slots t is q plan = subst (λ (z : ℕ). (z + 1 ≢ length q → (m'.0 ≡ play.phased me.0 me.0.hand (Blocks (z + 1))) × (m'.1 ≡ me.1)) × (z + 1 ≡ length q → play.Gets o Alone (Blocks (z + 1)) me m')) (ap seen_in (sym phase ∙ is))
      (subst (λ (x : Plan). (s + 1 ≢ length x → (m'.0 ≡ play.phased me.0 me.0.hand (Blocks (s + 1))) × (m'.1 ≡ me.1)) × (s + 1 ≡ length x → play.Gets o Alone (Blocks (s + 1)) me m')) (its-plan k q me.0.hand.plan planned plan) ((λ not. (goes not, slots)), holds))

  -- a pass that blocks loads the next count
  pub drains : (slots id t s : ℕ) (me : M) → s < MAX_TASKS → s < length k → me.0.hand.task ≡ Some t → me.0.hand.held ≡ No → me.0.ext ≡ Blocks s → May slots id me (count_at s) Load (play.Drained o (step slots (count_at s) 0 0 none) me)
  drains slots id t s me small inside has out phase = let v = me.0 in let p : PhasePart = phase_part v in looks slots id (count_at s) me (play.Drained o (step slots (count_at s) 0 0 none) me) (inside-count s small) (λ ws vs r at. let n : ℕ = get_or ws (count_at s) 0 in let ps : List PhasePart = parts vs in let mine = at_map phase_part vs id v at in
      let planned = (r.site_holds.each id v.hand (at_map hand_of vs id v at)).plan in let code : code_of p ≡ task_code v.hand.task = ap (code_weight v.hand.task) phase in let blocking : blocks_of p ≡ 1 = ap blocks_weight phase in dite (ℕ_discrete n 0)
      (λ free. dite (ℕ_discrete (s + 1) (length k))
      (λ all. let unheld = all-drained ws vs id s v r at small phase out free all in let unalone = none-alone (hands vs) unheld in let g : Hand = took v.hand Alone (take size (site k ws).guarded) r.site_holds.log in let p' : PhasePart = part g (Blocks (s + 1)) in (
        g,
        Blocks (s + 1),
        (record { misses = omega arith; freed = λ e. refl; takes = omega arith; comes = λ l. omega (arith, l) }, refl, refl),
        (refl, inl (refl, refl)),
        site-takes o never size k (site k ws) (hands vs) id t v.hand Alone r.site_holds (at_map hand_of vs id v at) out has (λ e. no-alone (sym e)) (λ _. unheld) unalone,
        phases-step (length k) (get_or ws block_at 0) (get_or ws block_at 0) (λ u. get_or ws (count_at u) 0) (λ u. get_or ws (count_at u) 0) ps id p p' r.phases mine
            (λ u l. let e : inside_of u p ≡ 0 = ap (inside_weight u v.hand.task) phase in omega (arith, e))
            (omega (arith, code))
            (inl (omega (arith, blocking)))
            record { holds = sym (held-all (length k) (s + 1) all); numberless = λ bare. none-some t (sym bare ∙ has); few = λ m e. let z : s + 1 ≡ m = ap seen_in e in omega (arith, z, inside) }
            (λ m e j q _ atq reads u hasu. let z : s + 1 ≡ m = ap seen_in e in let l = drained-next ws vs id s v r at small phase free j q atq reads u hasu in omega (arith, z, l))
            (λ e. no-reads (Blocks (s + 1)) refl e),
        refl,
        subst (λ (z : Phase). PhaseGoes v.hand.task (words_in ws) (words_in ws) z (Blocks (s + 1))) (sym phase) ((refl, λ u l. refl), inr (refl, free)),
        ((λ _. drained-tells me (play.phased v g (Blocks (s + 1)), me.1) s phase planned (λ not. absurd (not all)) (λ _. gets me ws vs id Alone (Blocks (s + 1)) r at unalone) refl), λ not. absurd (not free)),
      ))
      (λ some_left. let p' : PhasePart = part v.hand (Blocks (s + 1)) in (
        v.hand,
        Blocks (s + 1),
        hand-stays v.hand,
        saw-stays v.hand,
        same-hand ws vs id v r at,
        phases-step (length k) (get_or ws block_at 0) (get_or ws block_at 0) (λ u. get_or ws (count_at u) 0) (λ u. get_or ws (count_at u) 0) ps id p p' r.phases mine
            (λ u l. let e : inside_of u p ≡ 0 = ap (inside_weight u v.hand.task) phase in omega (arith, e))
            (omega (arith, code))
            (inl (omega (arith, blocking)))
            record { holds = out ∙ sym (held-some (length k) (s + 1) some_left); numberless = λ bare. none-some t (sym bare ∙ has); few = λ m e. let z : s + 1 ≡ m = ap seen_in e in omega (arith, z, inside) }
            (λ m e j q _ atq reads u hasu. let z : s + 1 ≡ m = ap seen_in e in let l = drained-next ws vs id s v r at small phase free j q atq reads u hasu in omega (arith, z, l))
            (λ e. no-reads (Blocks (s + 1)) refl e),
        refl,
        subst (λ (z : Phase). PhaseGoes v.hand.task (words_in ws) (words_in ws) z (Blocks (s + 1))) (sym phase) ((refl, λ u l. refl), inr (refl, free)),
        ((λ _. drained-tells me (play.phased v v.hand (Blocks (s + 1)), me.1) s phase planned (λ _. refl) (λ all. absurd (some_left all)) refl), λ not. absurd (not free)),
      )))
      (λ not. ticks ws vs id v (λ u. play.Drained o (step slots (count_at s) 0 0 none) me n (u, me.1)) r at
      ((λ is. absurd (not is)), λ _. (let l = count-bit ws vs s r small in omega (arith, l, not), (λ t' is. let same : s ≡ t' = ap seen_in (sym phase ∙ is) in subst (λ (z : ℕ). v.hand.task ≢ Some z) same (drains-other ws vs id s v r at small phase not)), (refl, refl)))))

  -- the pass that blocks lets go
  pub unblocks : (slots id t s : ℕ) (me : M) → me.0.hand.task ≡ Some t → me.0.ext ≡ Blocks s → me.0.hand.held ≢ Shared → me.0.hand.writes ≡ false → me.0.hand.stage ≡ Rest → May slots id me block_at (Store 0) (play.Unblocked (step slots block_at 0 0 none) me)
  unblocks slots id t s me has phase unshared quiet rest = let v = me.0 in acts slots id block_at me (Store 0) (play.Unblocked (step slots block_at 0 0 none) me) (omega arith) (λ ws vs r at _. held-cases v.hand.held
      (λ is. let e : play.unheld v.hand ≡ v.hand = ap (play.unheld_by v.hand) is in (
        v.hand,
        Idle,
        hand-stays v.hand,
        saw-stays v.hand,
        same-hand ws vs id v r at,
        frees ws vs r at v.hand is,
        refl,
        lets-go ws vs r at,
        (ap (λ (h : Hand). play.phased v h Idle) (sym e), refl),
      ))
      (λ shares. absurd (unshared shares))
      (λ alone. let g : Hand = released v.hand 0 in let e : play.unheld v.hand ≡ g = ap (play.unheld_by v.hand) alone in (
        g,
        Idle,
        (record { misses = omega arith; freed = λ z. no-alone (z ∙ alone); takes = omega arith; comes = λ l. omega (arith, l) }, refl, refl),
        (refl, inl (refl, refl)),
        site-frees o never size k (site k ws) (hands vs) id 0 v.hand r.site_holds (at_map hand_of vs id v at) quiet rest,
        frees ws vs r at g refl,
        refl,
        lets-go ws vs r at,
        (ap (λ (h : Hand). play.phased v h Idle) (sym e), refl),
      )))
    where
      lets-go : (ws : List ℕ) (vs : List V) → Kept ws vs → get_elem? vs id ≡ some me.0 → PhaseGoes me.0.hand.task (words_in ws) (words_in (set ws block_at 0)) me.0.ext Idle
      lets-go ws vs r at = let v = me.0 in let p : PhasePart = phase_part v in let blocking : blocks_of p ≡ 1 = ap blocks_weight phase in let only = only-code (parts vs) id p (at_map phase_part vs id v at) blocking r.phases.one in let code : code_of p ≡ t + 1 = (λ i. code_weight (has i) (phase i)) in let block = r.phases.code in
          subst (λ (z : Phase). PhaseGoes v.hand.task (words_in ws) (words_in (set ws block_at 0)) z Idle) (sym phase) (t, has, put-block ws (t + 1) 0 0 (wide-enough ws vs block_at r (omega arith)) (omega (arith, block, only, code)) refl)

      frees : (ws : List ℕ) (vs : List V) → Kept ws vs → get_elem? vs id ≡ some me.0 → (g : Hand) → g.held ≡ No → Phases k (set ws block_at 0) (set (parts vs) id (part g Idle))
      frees ws vs r at g out = let v = me.0 in let p : PhasePart = phase_part v in let mine = at_map phase_part vs id v at in let blocking : blocks_of p ≡ 1 = ap blocks_weight phase in let only = only-code (parts vs) id p mine blocking r.phases.one in let block = r.phases.code in
          let word = get_or-set_same ws block_at 0 0 (wide-enough ws vs block_at r (omega arith)) in phases-step (length k) (get_or ws block_at 0) _ (λ u. get_or ws (count_at u) 0) _ (parts vs) id p (part g Idle) r.phases mine
          (λ u l. let e = get_or-set_other ws block_at (count_at u) 0 0 (λ z. omega (arith, z)) in let was : inside_of u p ≡ 0 = ap (inside_weight u v.hand.task) phase in omega (arith, e, was))
          (omega (arith, word, only, block))
          (inl (omega arith))
          record { holds = out; numberless = λ _. refl; few = λ m e. no-blocks Idle m refl e }
          (λ m e j q _ _ _ u _. no-blocks Idle m refl e)
          (λ e. no-reads Idle refl e)

  -- the same, whichever way the place or the code is written
  pub adds-at : (slots id at t : ℕ) (me : M) → at ≡ count_at t → t < MAX_TASKS → me.0.hand.task ≡ Some t → me.0.hand.held ≡ No → me.0.ext ≡ Idle → May slots id me at (Add 1) (play.Goes Added (step slots at 1 0 none) me)
  adds-at slots id at t me is small has out idle = subst (λ (z : ℕ). May slots id me z (Add 1) (play.Goes Added (step slots z 1 0 none) me)) (sym is) (adds slots id t me small has out idle)

  pub backs-at : (slots id at t : ℕ) (me : M) → at ≡ count_at t → t < MAX_TASKS → me.0.hand.task ≡ Some t → me.0.hand.held ≡ No → me.0.ext ≡ Back → May slots id me at (Sub 1) (play.Goes Idle (step slots at 1 0 none) me)
  backs-at slots id at t me is small has out back = subst (λ (z : ℕ). May slots id me z (Sub 1) (play.Goes Idle (step slots z 1 0 none) me)) (sym is) (backs slots id t me small has out back)

  pub ends-at : (slots id at t : ℕ) (me : M) → at ≡ count_at t → t < MAX_TASKS → me.0.hand.task ≡ Some t → me.0.hand.held ≡ Shared → me.0.ext ≡ Reads → me.0.hand.writes ≡ false → me.0.hand.stage ≡ Rest → May slots id me at (Sub 1) (play.Ended (step slots at 1 0 none) me)
  ends-at slots id at t me is small has shares reads quiet rest = subst (λ (z : ℕ). May slots id me z (Sub 1) (play.Ended (step slots z 1 0 none) me)) (sym is) (ends slots id t me small has shares reads quiet rest)

  pub drains-at : (slots id at t s : ℕ) (me : M) → at ≡ count_at s → s < MAX_TASKS → s < length k → me.0.hand.task ≡ Some t → me.0.hand.held ≡ No → me.0.ext ≡ Blocks s → May slots id me at Load (play.Drained o (step slots at 0 0 none) me)
  drains-at slots id at t s me is small inside has out phase = subst (λ (z : ℕ). May slots id me z Load (play.Drained o (step slots z 0 0 none) me)) (sym is) (drains slots id t s me small inside has out phase)

  pub blocks-to : (slots id t code : ℕ) (me : M) → code ≡ t + 1 → me.0.hand.task ≡ Some t → me.0.hand.held ≡ No → me.0.ext ≡ Idle → May slots id me block_at (Exchange 0 code) (play.Blocked (step slots block_at 0 code none) me)
  blocks-to slots id t code me is has out idle = subst (λ (z : ℕ). May slots id me block_at (Exchange 0 z) (play.Blocked (step slots block_at 0 z none) me)) (sym is) (blocks slots id t me has out idle)
