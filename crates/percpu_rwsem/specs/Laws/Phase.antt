-- What a step makes of the counts and the block word.
use Rattle.std.proofs.Common.{◌≡◌, ◌≢◌, ℕ, zero, suc, ◌+◌, ◌<◌, ◌≤◌, ◌⊎◌, inl, Bool, List, [], ◌∷◌, ◌++◌, set, Option, Some, None, if◌then◌else◌, sym, refl, ap, ◌∙◌, arith, ⊎_elim, eq-eqb, ne_eqb}
use mathlib.Core.Option.{some, some-injective, some-ne-none}
use mathlib.Core.Logic.{dite}
use native.Mathlib.Decide.{ℕ_discrete}
use lib.ListN.{get_elem?}
use Rattle.atomic_table.proofs.Lists.{at_set, at_snoc}
use Rattle.word_bits.specs.declared.TheConstants.{MAX_TASKS}
use Rattle.lock_core.specs.Views.{held_weight, alone_weight, is_number}
use Rattle.lock_core.specs.Totals.{total, total-set, total-snoc, total-at}
use Rattle.lock_core.specs.ViewParts.{Each, each-set, each-snoc}
use Rattle.percpu_rwsem.specs.Phases.{PhasePart, PartOk, PhasesKept, inside_of, code_of, blocks_of, inside_weight, code_weight, blocks_weight, held_by}
use Rattle.percpu_rwsem.specs.Types.{No, Shared, Alone, Phase, Idle, Added, Back, Reads, Blocks}

pub no-shared : {P : Type 0} → No ≡ Shared → P
no-shared e = let w : held_weight No ≡ held_weight Shared = ap held_weight e in absurd (omega (arith, w))

pub no-alone : {P : Type 0} → No ≡ Alone → P
no-alone e = let w : held_weight No ≡ held_weight Alone = ap held_weight e in absurd (omega (arith, w))

pub shared-alone : {P : Type 0} → Shared ≡ Alone → P
shared-alone e = let w : alone_weight Shared ≡ alone_weight Alone = ap alone_weight e in absurd (omega (arith, w))

-- a pass that has seen all counts holds alone, and one that has not holds nothing
pub held-all : (tasks n : ℕ) → n ≡ tasks → held_by tasks (Blocks n) ≡ Alone
held-all tasks n is = ap (λ (b : Bool). if b then Alone else No) (eq-eqb n tasks is)

pub held-some : (tasks n : ℕ) → n ≢ tasks → held_by tasks (Blocks n) ≡ No
held-some tasks n not = ap (λ (b : Bool). if b then Alone else No) (ne_eqb n tasks not)

-- who holds shared reads
pub shared-reads : (tasks : ℕ) (p : PhasePart) → PartOk tasks p → p.held ≡ Shared → p.phase ≡ Reads
shared-reads tasks p ok shares = go p.phase refl
  where
    go : (w : Phase) → p.phase ≡ w → p.phase ≡ Reads
    go Idle is = no-shared (sym (ap (held_by tasks) is) ∙ (sym ok.holds ∙ shares))
    go Added is = no-shared (sym (ap (held_by tasks) is) ∙ (sym ok.holds ∙ shares))
    go Back is = no-shared (sym (ap (held_by tasks) is) ∙ (sym ok.holds ∙ shares))
    go Reads is = is
    go (Blocks n) is = dite (ℕ_discrete n tasks)
        (λ all. shared-alone (sym shares ∙ (ok.holds ∙ (ap (held_by tasks) is ∙ held-all tasks n all))))
        (λ not. no-shared (sym (held-some tasks n not) ∙ (sym (ap (held_by tasks) is) ∙ (sym ok.holds ∙ shares))))

-- who holds alone blocks, and has seen all counts
pub alone-blocks : (tasks : ℕ) (p : PhasePart) → PartOk tasks p → p.held ≡ Alone → p.phase ≡ Blocks tasks
alone-blocks tasks p ok alone = go p.phase refl
  where
    go : (w : Phase) → p.phase ≡ w → p.phase ≡ Blocks tasks
    go Idle is = no-alone (sym (ap (held_by tasks) is) ∙ (sym ok.holds ∙ alone))
    go Added is = no-alone (sym (ap (held_by tasks) is) ∙ (sym ok.holds ∙ alone))
    go Back is = no-alone (sym (ap (held_by tasks) is) ∙ (sym ok.holds ∙ alone))
    go Reads is = shared-alone (sym (ap (held_by tasks) is) ∙ (sym ok.holds ∙ alone))
    go (Blocks n) is = dite (ℕ_discrete n tasks)
        (λ all. is ∙ ap Blocks all)
        (λ not. no-alone (sym (held-some tasks n not) ∙ (sym (ap (held_by tasks) is) ∙ (sym ok.holds ∙ alone))))

-- a pass that blocks has a number, so its code isn't 0
pub code-blocks : (tasks : ℕ) (p : PhasePart) → PartOk tasks p → blocks_of p ≤ code_of p
code-blocks tasks p ok = go p.phase refl p.task refl
  where
    go : (w : Phase) → p.phase ≡ w → (task : Option ℕ) → p.task ≡ task → blocks_weight w ≤ code_weight task w
    go Idle is task has = omega arith
    go Added is task has = omega arith
    go Back is task has = omega arith
    go Reads is task has = omega arith
    go (Blocks n) is None has = let w : blocks_weight (Blocks n) ≡ blocks_weight Idle = ap blocks_weight (sym is ∙ ok.numberless has) in absurd (omega (arith, w))
    go (Blocks n) is (Some t) has = omega arith

-- where a pass doesn't block, it has nothing in the block word
pub unblocked : (p : PhasePart) → blocks_of p ≡ 0 → code_of p ≡ 0
unblocked p none = go p.phase none
  where
    go : (w : Phase) → blocks_weight w ≡ 0 → code_weight p.task w ≡ 0
    go Idle l = refl
    go Added l = refl
    go Back l = refl
    go Reads l = refl
    go (Blocks n) l = absurd (omega (arith, l))

pub blocks-codes : (tasks : ℕ) (ps : List PhasePart) → Each (PartOk tasks) ps → total blocks_of ps ≤ total code_of ps
blocks-codes tasks [] each = omega arith
blocks-codes tasks (p ∷ ps) each = let a = code-blocks tasks p (each zero p refl) in let b = blocks-codes tasks ps (λ j q at. each (suc j) q at) in omega (arith, a, b)

pub no-codes : (ps : List PhasePart) → total blocks_of ps ≤ 0 → total code_of ps ≡ 0
no-codes [] none = refl
no-codes (p ∷ ps) none = let a = unblocked p (omega (arith, none)) in let b = no-codes ps (omega (arith, none)) in omega (arith, a, b)

-- where one blocks, the block word is its code
pub only-code : (ps : List PhasePart) (i : ℕ) (p : PhasePart) → get_elem? ps i ≡ some p → blocks_of p ≡ 1 → total blocks_of ps ≤ 1 → total code_of ps ≡ code_of p
only-code [] i p at blocks one = absurd (some-ne-none p (sym at))
only-code (q ∷ ps) zero p at blocks one = let same = some-injective q p at in let a : blocks_of q ≡ 1 = ap blocks_of same ∙ blocks in let b = no-codes ps (omega (arith, a, one)) in
    let c : code_of q ≡ code_of p = ap code_of same in omega (arith, b, c)
only-code (q ∷ ps) (suc i) p at blocks one = let d = total-at blocks_of ps i p at in let a = unblocked q (omega (arith, d, blocks, one)) in let b = only-code ps i p at blocks (omega (arith, one)) in
    omega (arith, a, b)

-- some pass has something in it
pub some-of : {V : Type 0} (f : V → ℕ) (vs : List V) → 0 < total f vs → (j : ℕ) × (v : V) × (get_elem? vs j ≡ some v) × (0 < f v)
some-of f [] l = absurd (omega (arith, l))
some-of f (v ∷ vs) l = elim (native.Mathlib.Decide.dec_le (f v) 0) [
  | yes none ↦ let r = some-of f vs (omega (arith, l, none)) in (suc r.0, r.1, r.2, r.3)
  | no has ↦ (zero, v, refl, omega (arith, has))
]

-- a pass that has something in a task's count has its number, and doesn't block
pub inside-named : (t : ℕ) (p : PhasePart) → inside_of t p ≤ is_number t p.task
inside-named t p = go p.phase
  where
    go : (w : Phase) → inside_weight t p.task w ≤ is_number t p.task
    go Idle = omega arith
    go Added = omega arith
    go Back = omega arith
    go Reads = omega arith
    go (Blocks n) = omega arith

pub reads-inside : (t : ℕ) (p : PhasePart) → p.phase ≡ Reads → inside_of t p ≡ is_number t p.task
reads-inside t p is = ap (inside_weight t p.task) is

-- a step of one pass, whose number stays
module _ (tasks block block' : ℕ) (count count' : ℕ → ℕ) (ps : List PhasePart) (id : ℕ) (p p' : PhasePart) (r : PhasesKept tasks block count ps) (at : get_elem? ps id ≡ some p) where
  pub phases-step : ((t : ℕ) → t < MAX_TASKS → count' t + inside_of t p ≡ count t + inside_of t p') → block' + code_of p ≡ block + code_of p' → (blocks_of p' ≤ blocks_of p) ⊎ (total blocks_of ps ≡ 0)
      → PartOk tasks p'
      → ((n : ℕ) → p'.phase ≡ Blocks n → (j : ℕ) (q : PhasePart) → j ≢ id → get_elem? ps j ≡ some q → q.phase ≡ Reads → (t : ℕ) → q.task ≡ Some t → n ≤ t)
      → (p'.phase ≡ Reads → (p.phase ≡ Reads) × (p'.task ≡ p.task) ⊎ (total blocks_of ps ≡ 0))
      → PhasesKept tasks block' count' (set ps id p')
  phases-step counts code one ok mine theirs = record {
    counts = λ t l. let a = total-set (inside_of t) ps id p p' at in let b = counts t l in let c = r.counts t l in omega (arith, a, b, c);
    code = let a = total-set code_of ps id p p' at in let c = r.code in omega (arith, a, code, c);
    one = let a = total-set blocks_of ps id p p' at in let o = r.one in
        ⊎_elim (λ (l : blocks_of p' ≤ blocks_of p). omega (arith, a, l, o)) (λ (z : total blocks_of ps ≡ 0). let m = most p'.phase in omega (arith, a, z, m)) one;
    each = each-set (PartOk tasks) (PartOk tasks) ps id p' ok (λ j q _ _ x. x) r.each;
    drained = λ i j x y ati atj n blocks reads t has. ⊎_elim
        (λ (e : (i ≡ id) × (p' ≡ x)). ⊎_elim
        (λ (f : (j ≡ id) × (p' ≡ y)). blocks-reads (sym blocks ∙ (ap (λ (z : PhasePart). z.phase) (sym e.1 ∙ f.1) ∙ reads)))
        (λ (f : (j ≢ id) × (get_elem? ps j ≡ some y)). mine n (ap (λ (z : PhasePart). z.phase) e.1 ∙ blocks) j y f.0 f.1 reads t has)
        (at_set ps id j p' y atj))
        (λ (e : (i ≢ id) × (get_elem? ps i ≡ some x)). ⊎_elim
        (λ (f : (j ≡ id) × (p' ≡ y)). ⊎_elim
        (λ (q : (p.phase ≡ Reads) × (p'.task ≡ p.task)). r.drained i id x p e.1 at n blocks q.0 t (sym q.1 ∙ (ap (λ (z : PhasePart). z.task) f.1 ∙ has)))
        (λ (z : total blocks_of ps ≡ 0). let l = total-at blocks_of ps i x e.1 in let w : blocks_of x ≡ 1 = ap blocks_weight blocks in absurd (omega (arith, l, w, z)))
        (theirs (ap (λ (z : PhasePart). z.phase) f.1 ∙ reads)))
        (λ (f : (j ≢ id) × (get_elem? ps j ≡ some y)). r.drained i j x y e.1 f.1 n blocks reads t has)
        (at_set ps id j p' y atj))
        (at_set ps id i p' x ati);
  }
    where
      most : (w : Phase) → blocks_weight w ≤ 1
      most Idle = omega arith
      most Added = omega arith
      most Back = omega arith
      most Reads = omega arith
      most (Blocks n) = omega arith

      blocks-reads : {n : ℕ} {P : Type 0} → Blocks n ≡ Reads → P
      blocks-reads {n} e = let w : blocks_weight (Blocks n) ≡ blocks_weight Reads = ap blocks_weight e in absurd (omega (arith, w))

-- a pass that goes on as it was
pub phases-stay : (tasks block : ℕ) (count : ℕ → ℕ) (ps : List PhasePart) (id : ℕ) (p p' : PhasePart) → PhasesKept tasks block count ps → get_elem? ps id ≡ some p → p'.held ≡ p.held
    → p'.phase ≡ p.phase → (p'.task ≡ p.task) ⊎ (p.phase ≡ Idle) → PhasesKept tasks block count (set ps id p')
phases-stay tasks block count ps id p p' r at held phase task = ⊎_elim
    (λ (same : p'.task ≡ p.task). phases-step tasks block block count count ps id p p' r at
    (λ t l. let e : inside_of t p' ≡ inside_of t p = (λ i. inside_weight t (same i) (phase i)) in omega (arith, e))
    (let e : code_of p' ≡ code_of p = (λ i. code_weight (same i) (phase i)) in omega (arith, e))
    (inl (let e : blocks_of p' ≡ blocks_of p = ap blocks_weight phase in omega (arith, e)))
    (let ok = r.each id p at in record {
      holds = held ∙ (ok.holds ∙ sym (ap (held_by tasks) phase));
      numberless = λ none. phase ∙ ok.numberless (sym same ∙ none);
      few =
          λ n is. ok.few n (sym phase ∙ is);
    })
    (λ n is j q _ atj reads t has. r.drained id j p q at atj n (sym phase ∙ is) reads t has)
    (λ reads. inl (sym phase ∙ reads, same)))
    (λ (idle : p.phase ≡ Idle). phases-step tasks block block count count ps id p p' r at
    (λ t l. let e : inside_of t p' ≡ 0 = ap (inside_weight t p'.task) (phase ∙ idle) in let f : inside_of t p ≡ 0 = ap (inside_weight t p.task) idle in omega (arith, e, f))
    (let e : code_of p' ≡ 0 = ap (code_weight p'.task) (phase ∙ idle) in let f : code_of p ≡ 0 = ap (code_weight p.task) idle in omega (arith, e, f))
    (inl (let e : blocks_of p' ≡ 0 = ap blocks_weight (phase ∙ idle) in omega (arith, e)))
    (let ok = r.each id p at in record {
      holds = held ∙ (ok.holds ∙ sym (ap (held_by tasks) phase));
      numberless = λ none. phase ∙ idle;
      few =
          λ n is. let w : blocks_weight Idle ≡ blocks_weight (Blocks n) = ap blocks_weight (sym (phase ∙ idle) ∙ is) in absurd (omega (arith, w));
    })
    (λ n is j q _ atj reads t has. let w : blocks_weight Idle ≡ blocks_weight (Blocks n) = ap blocks_weight (sym (phase ∙ idle) ∙ is) in absurd (omega (arith, w)))
    (λ reads. inl (sym phase ∙ reads, idle-reads (sym (phase ∙ idle) ∙ reads))))
    task
  where
    reads_weight : Phase → ℕ
    reads_weight Idle = 0
    reads_weight Added = 0
    reads_weight Back = 0
    reads_weight Reads = 1
    reads_weight (Blocks n) = 0

    idle-reads : {P : Type 0} → Idle ≡ Reads → P
    idle-reads e = let w : reads_weight Idle ≡ reads_weight Reads = ap reads_weight e in absurd (omega (arith, w))

-- a pass without a number, which has nothing in the words
abbrev pub stranger_part : PhasePart
stranger_part = record { task = None; held = No; phase = Idle }

pub stranger-ok : (tasks : ℕ) → PartOk tasks stranger_part
stranger-ok tasks = record { holds = refl; numberless = λ _. refl; few = λ n is. let w : blocks_weight Idle ≡ blocks_weight (Blocks n) = ap blocks_weight is in absurd (omega (arith, w)) }

pub phases-strangers : (tasks block : ℕ) (count : ℕ → ℕ) (ps : List PhasePart) → PhasesKept tasks block count ps → PhasesKept tasks block count (ps ++ stranger_part ∷ [])
phases-strangers tasks block count ps r = let g : PhasePart = stranger_part in record {
  counts = λ t l. let a = total-snoc (inside_of t) ps g in let c = r.counts t l in omega (arith, a, c);
  code = let a = total-snoc code_of ps g in let c = r.code in omega (arith, a, c);
  one = let a = total-snoc blocks_of ps g in let c = r.one in omega (arith, a, c);
  each = each-snoc (PartOk tasks) ps g (stranger-ok tasks) r.each;
  drained = λ i j p q ati atj n blocks reads t has. ⊎_elim
      (λ (e : get_elem? ps i ≡ some p). ⊎_elim
      (λ (f : get_elem? ps j ≡ some q). r.drained i j p q e f n blocks reads t has)
      (λ (f : g ≡ q). none-some t (ap (λ (z : PhasePart). z.task) f ∙ has))
      (at_snoc ps g q j atj))
      (λ (e : g ≡ p). let w : blocks_weight Idle ≡ blocks_weight (Blocks n) = ap blocks_weight (ap (λ (z : PhasePart). z.phase) e ∙ blocks) in absurd (omega (arith, w)))
      (at_snoc ps g p i ati);
}
  where
    none-some : (t : ℕ) {P : Type 0} → None ≡ Some t → P
    none-some t e = absurd cc

pub phases-open : (tasks : ℕ) (count : ℕ → ℕ) → ((t : ℕ) → t < MAX_TASKS → count t ≡ 0) → PhasesKept tasks 0 count (stranger_part ∷ [])
phases-open tasks count zeros = record {
  counts = λ t l. let z = zeros t l in omega (arith, z);
  code = omega arith;
  one = omega arith;
  each = each-snoc (PartOk tasks) [] stranger_part (stranger-ok tasks) (λ j h e. absurd (some-ne-none h (sym e)));
  drained = λ i j p q ati atj n blocks reads t has. ⊎_elim
      (λ (e : get_elem? [] i ≡ some p). absurd (some-ne-none p (sym e)))
      (λ (e : stranger_part ≡ p). let w : blocks_weight Idle ≡ blocks_weight (Blocks n) = ap blocks_weight (ap (λ (z : PhasePart). z.phase) e ∙ blocks) in absurd (omega (arith, w)))
      (at_snoc [] stranger_part p i ati);
}
