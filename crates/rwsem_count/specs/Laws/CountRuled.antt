-- The laws of the rule of a table with a count alone.
use Rattle.std.proofs.Common.{◌≡◌, ◌≢◌, ℕ, zero, suc, ◌+◌, ◌%◌, ◌/◌, ◌<◌, ◌≤◌, inl, inr, List, [], ◌∷◌, ◌++◌, length, map, get_or, set, Bool, true, false, Option, Some, None, sym, refl, ap, ◌∙◌}
use Rattle.std.proofs.Common.{subst, arith, length-set, get_or-set_same, get_or-set_other}
use Rattle.std.proofs.lemmas.List.{drop-set-lt}
use mathlib.Core.Option.{some, some-injective, some-ne-none}
use lib.ListN.{get_elem?}
use Rattle.atomic_table.proofs.Lists.{at_map, set_else}
use Rattle.word_bits.specs.declared.TheConstants.{MAX_TASKS}
use Rattle.word_bits.specs.LockWords.{IsLawfulCount, counted}
use Rattle.word_bits.specs.OwnerWord.{bit}
use Rattle.word_bits.specs.Objects.{Obj}
use Rattle.word_bits.specs.Histories.{Plan}
use Rattle.lock_core.specs.declared.layout.TheConstants.{LOCK_WORDS}
use Rattle.lock_core.specs.Layout.{SiteWords, fresh, site, lay, width}
use Rattle.lock_core.specs.Stores.{HasWord}
use Rattle.lock_core.specs.Views.{hand_of, handed, seated, ticked, first, split_off, merged, spent, is_number, named_of, held_weight, number_weight, alone_of, HoldsNothing}
use Rattle.lock_core.specs.Sites.{SiteKept}
use Rattle.lock_core.specs.Moves.{Goes, KeepsHold, SiteMove, TriesWhere}
use Rattle.lock_core.specs.Laws.Move.{set-moves, hold-moved, tries-go}
use Rattle.lock_core.specs.Pasts.{marks_of}
use Rattle.lock_core.specs.Totals.{total}
use Rattle.lock_core.specs.ViewParts.{Each, each-set, each-snoc, keep_part, set_part, snoc_part}
use Rattle.lock_core.proofs.Stating.{kept-states}
use Rattle.lock_core.proofs.HandLaws.{held-none}
use Rattle.rwsem_count.specs.Counts.{CountKept, CountMove, CountPart, HandStep, shared_weight, early_weight, late_weight, shared_in, alone_in, early_in, late_in, based, count_part, part}
use Rattle.rwsem_count.specs.Laws.Count.{count-stays, count-strangers, count-opens}
use Rattle.rwsem_count.specs.Laws.Numbers.{few-numbers}
use Rattle.rwsem_count.specs.CountStated.{kept_bias, shared_of, transit_of}
use Rattle.rwsem_count.specs.CountRuled.{V, same_bias, new_bias, IsPlain, bias_kind, IsLight, may_count, may_miss, count_at, CountRuleKept, CountMoves, IsCountSite}
use Rattle.rwsem_count.specs.Types.{Hand, Held, Marks, No, Shared, Alone, SpinHand, Bias, Clear, Transit, Reserve}

pub count-inside : count_at < LOCK_WORDS
count-inside = omega arith

pub count-there : (n : ℕ) → HasWord n count_at
count-there n = record {
  spin = λ _. omega arith;
  first = λ m. absurd (omega (arith, m));
  second = λ m. absurd (omega (arith, m));
  third = λ m. absurd (omega (arith, m));
  fourth =
      λ m. absurd (omega (arith, m));
}

abbrev parts : List V → List CountPart
parts vs = map (count_part same_bias) vs

abbrev Rests : V → Type 0
Rests v = v.ext ≡ Clear

-- what a pass adds to the reader field
abbrev load : V → ℕ
load v = shared_weight v.hand.held + (early_weight v.ext + late_weight v.ext)

biases-are : (b : Bias) → bias_kind b ≤ 1 → early_weight b + late_weight b ≡ bias_kind b
biases-are Clear l = omega arith
biases-are (Transit word) l = omega arith
biases-are (Reserve word) l = absurd (omega (arith, l))

shared-held : (h : Held) → shared_weight h ≤ held_weight h
shared-held No = omega arith
shared-held Shared = omega arith
shared-held Alone = omega arith

number-most : (t : Option ℕ) → number_weight t ≤ 1
number-most None = omega arith
number-most (Some t) = omega arith

some-number : (t : Option ℕ) → t ≢ None → 1 ≤ number_weight t
some-number None e = absurd (e refl)
some-number (Some t) e = omega arith

light-load : (v : V) → IsLight v → load v ≤ number_weight v.hand.task
light-load v l = let n = number-most v.hand.task in let b = biases-are v.ext (omega (arith, l, n)) in let s = shared-held v.hand.held in omega (arith, l, b, s)

module _ {Call : Type 0} (o : Obj Call) (size : ℕ) where
  abbrev Kept : Plan → List ℕ → List V → Type 0
  Kept = CountRuleKept o size

  abbrev Site : Plan → List ℕ → List Hand → Type 0
  Site k ws hs = SiteKept o counted size k (site k ws) hs

  pub rule-site : (k : Plan) (ws : List ℕ) (vs : List V) → Kept k ws vs → Site k ws (map hand_of vs)
  rule-site k ws vs r = r.site_holds

  -- no count has more readers than there are tasks
  pub rule-count : (k : Plan) (ws : List ℕ) (vs : List V) → Kept k ws vs → CountKept (get_or ws count_at 0) 0 (parts vs) × IsLawfulCount (get_or ws count_at 0) × IsPlain (get_or ws count_at 0)
  rule-count k ws vs r = (r.count, (r.count.low, (let f = r.count.field in let s = loads vs r.light in let n = numbers in omega arith)), r.plain)
    where
      loads : (vs : List V) → Each IsLight vs → total shared_in (parts vs) + (total early_in (parts vs) + total late_in (parts vs)) ≤ total (λ (v : V). number_weight v.hand.task) vs
      loads [] e = omega arith
      loads (v ∷ vs) e = let a = light-load v (e zero v refl) in let b = loads vs (λ j w at. e (suc j) w at) in omega arith

      same-names : (t : ℕ) (vs : List V) → total (named_of t) (map hand_of vs) ≡ total (λ (v : V). is_number t v.hand.task) vs
      same-names t [] = refl
      same-names t (v ∷ vs) = let e = same-names t vs in omega arith

      numbers : total (λ (v : V). number_weight v.hand.task) vs ≤ MAX_TASKS
      numbers = few-numbers (λ (v : V). v.hand.task) vs (λ t l. let a = (r.site_holds.balances.named t l).1 in let e = same-names t vs in omega arith)
          (λ j v at t has. let m = (r.site_holds.each j v.hand (at_map hand_of vs j v at)).mine t has in let l = m.0 in let s = r.site_holds.laid.small.tasks in omega arith)

  pub rule-sites : (k : Plan) (ws : List ℕ) (vs : List V) (id i n : ℕ) (v : V) (h : Hand) (s : SpinHand) → Kept k ws vs → get_elem? vs id ≡ some v → KeepsHold Rests v h
      → Site k (set ws (LOCK_WORDS + i) n) (set (map hand_of vs) id h)
      → Kept k (set ws (LOCK_WORDS + i) n) (set vs id (seated v h s))
  rule-sites k ws vs id i n v h s r at same there = let w : V = seated v h s in
      let word : get_or (set ws (LOCK_WORDS + i) n) count_at 0 ≡ get_or ws count_at 0 = get_or-set_other ws (LOCK_WORDS + i) count_at n 0 (λ e. omega arith) in
      let held : held_weight h.held ≡ held_weight v.hand.held = ap held_weight same.0 in let old = r.light id v at in
      let light : IsLight w = elim same.1 [
        | inl e ↦ let z : number_weight h.task ≡ number_weight v.hand.task = ap number_weight e in omega (arith, z, held, old)
        | inr x ↦ elim x [
          | inl out ↦ let z : number_weight v.hand.task ≡ 0 = ap number_weight out in omega (arith, z, held, old)
          | inr q ↦ let z : held_weight v.hand.held ≡ 0 = ap held_weight q.0.0 in let y : bias_kind v.ext ≡ 0 = ap bias_kind q.1 in omega (arith, z, y, held)
        ]
      ] in record {
        wide = length-set ws (LOCK_WORDS + i) n ∙ r.wide;
        site_holds = set_part hand_of (Site k (set ws (LOCK_WORDS + i) n)) vs id w there;
        count = subst (λ (z : ℕ). CountKept z 0 (parts (set vs id w))) (sym word)
            (set_part (count_part same_bias) (CountKept (get_or ws count_at 0) 0) vs id w
            (count-stays (get_or ws count_at 0) 0 (parts vs) id (count_part same_bias v) (count_part same_bias w) (at_map (count_part same_bias) vs id v at) r.count same.0 refl));
        plain = subst IsPlain (sym word) r.plain;
        light = each-set IsLight IsLight vs id w light (λ j x _ _ p. p) r.light;
      }

  pub rule-opens : (k : Plan) → length (fresh k) ≡ width k → ((i : ℕ) → i < LOCK_WORDS → get_or (fresh k) i 0 ≡ 0) → Site k (fresh k) (map hand_of (first {E = Bias} k Clear ∷ []))
      → Kept k (fresh k) (first k Clear ∷ [])
  rule-opens k wide zeros there = let free = zeros count_at (omega arith) in let v : V = first k Clear in record {
    wide = wide;
    site_holds = there;
    count = subst (λ (z : ℕ). CountKept z 0 (count_part same_bias v ∷ [])) (sym free) count-opens;
    plain = subst IsPlain (sym free) refl;
    light = each-snoc IsLight [] v (omega arith) (λ j w e. absurd (some-ne-none w (sym e)));
  }

  pub rule-splits : (k : Plan) (ws : List ℕ) (vs : List V) (id : ℕ) (v : V) → Kept k ws vs → get_elem? vs id ≡ some v → Site k ws (map hand_of (set vs id (ticked v) ++ split_off Clear v ∷ []))
      → Kept k ws (set vs id (ticked v) ++ split_off Clear v ∷ [])
  rule-splits k ws vs id v r at there = let us : List V = set vs id (ticked v) in let n : ℕ = get_or ws count_at 0 in record {
    wide = r.wide;
    site_holds = there;
    count = snoc_part (count_part same_bias) (CountKept n 0) us (split_off Clear v)
        (count-strangers n 0 (parts us) (keep_part (count_part same_bias) (CountKept n 0) vs id v (ticked v) at refl r.count));
    plain = r.plain;
    light = each-snoc IsLight us (split_off Clear v) (omega arith) (each-set IsLight IsLight vs id (ticked v) (r.light id v at) (λ j x _ _ p. p) r.light);
  }

  pub rule-joins : (k : Plan) (ws : List ℕ) (vs : List V) (id other : ℕ) (v w : V) → Kept k ws vs → get_elem? vs id ≡ some v → other ≢ id → get_elem? vs other ≡ some w → HoldsNothing w × Rests w
      × (w.hand.task ≡ None)
      → Site k ws (map hand_of (set (set vs id (merged v w)) other (spent Clear))) → Kept k ws (set (set vs id (merged v w)) other (spent Clear))
  rule-joins k ws vs id other v w r at apart at' free there = let u : V = merged v w in let us : List V = set vs id u in let n : ℕ = get_or ws count_at 0 in record {
    wide = r.wide;
    site_holds = there;
    count = set_part (count_part same_bias) (CountKept n 0) us other (spent Clear)
        (count-stays n 0 (parts us) other (count_part same_bias w) (count_part same_bias (spent Clear)) (at_map (count_part same_bias) us other w (set_else vs id other u apart ∙ at'))
        (keep_part (count_part same_bias) (CountKept n 0) vs id v u at refl r.count) (sym free.0.0) (sym free.1));
    plain = r.plain;
    light = each-set IsLight IsLight us other (spent Clear) (omega arith) (λ j x _ _ p. p) (each-set IsLight IsLight vs id u (r.light id v at) (λ j x _ _ p. p) r.light);
  }

  -- a step on the count leaves the site's words
  pub rule-counts : (k : Plan) (ws : List ℕ) (vs : List V) (id n : ℕ) (v : V) (h : Hand) (b : Bias) → Kept k ws vs → get_elem? vs id ≡ some v → HandStep v.hand h n
      → TriesWhere may_miss (get_or ws count_at 0) v h → may_count v (part h b) → CountMove (get_or ws count_at 0) n (count_part same_bias v) (part h b)
      → CountKept n 0 (set (parts vs) id (part h b)) → Site k ws (set (map hand_of vs) id h) → Goes (Kept k) (CountMoves k) id ws vs (set ws count_at n) (set vs id (based new_bias v h b))
  rule-counts k ws vs id n v h b r at step tries may move count there = let w : V = based new_bias v h b in let wide = r.wide in
      let same : site k (set ws count_at n) ≡ site k ws = ap (lay k) (drop-set-lt LOCK_WORDS ws count_at n (omega arith)) in
      let word : get_or (set ws count_at n) count_at 0 ≡ n = get_or-set_same ws count_at n 0 (omega (arith, wide)) in (
        record {
          wide = length-set ws count_at n ∙ wide;
          site_holds = subst (λ (z : SiteWords). SiteKept o counted size k z (map hand_of (set vs id w))) (sym same) (set_part hand_of (Site k ws) vs id w there);
          count = subst (λ (z : ℕ). CountKept z 0 (parts (set vs id w))) (sym word) (set_part (count_part same_bias) (CountKept n 0) vs id w count);
          plain = subst IsPlain (sym word) (move.flags ∙ r.plain);
          light = each-set IsLight IsLight vs id w (let l : 1 ≤ number_weight h.task = some-number h.task (λ e. step.numbered (sym step.task ∙ e)) in omega (arith, l, may)) (λ j x _ _ p. p) r.light;
        },
        subst (λ (z : SiteWords). SiteMove id (get_or ws count_at 0) (site k ws) vs z (set vs id w)) (sym same)
            (set-moves id (site k ws) (site k ws) vs v w at (hold-moved (site k ws) v h b step.goes (tries-go may_miss v h tries))),
      )

  pub rule-looks : (k : Plan) (ws : List ℕ) (vs : List V) (id n : ℕ) (v : V) (h : Hand) → Kept k ws vs → get_elem? vs id ≡ some v → HandStep v.hand h n → TriesWhere may_miss (get_or ws count_at 0) v h
      → h.held ≡ v.hand.held → Site k ws (set (map hand_of vs) id h) → Goes (Kept k) (CountMoves k) id ws vs ws (set vs id (handed v h))
  rule-looks k ws vs id n v h r at step tries held there = let w : V = handed v h in let word : ℕ = get_or ws count_at 0 in (
    record {
      wide = r.wide;
      site_holds = set_part hand_of (Site k ws) vs id w there;
      count = set_part (count_part same_bias) (CountKept word 0) vs id w
          (count-stays word 0 (parts vs) id (count_part same_bias v) (count_part same_bias w) (at_map (count_part same_bias) vs id v at) r.count held refl);
      plain = r.plain;
      light = each-set IsLight IsLight vs id w (let l = r.light id v at in let x : held_weight h.held ≡ held_weight v.hand.held = ap held_weight held in
          let y : number_weight h.task ≡ number_weight v.hand.task = ap number_weight step.task in omega (arith, l, x, y)) (λ j x _ _ p. p) r.light;
    },
    set-moves id (site k ws) (site k ws) vs v w at (hold-moved (site k ws) v h v.ext step.goes (tries-go may_miss v h tries)),
  )

  -- what is kept implies what is stated
  abbrev marks : V → Marks
  marks = marks_of kept_bias

  alones : (vs : List V) → total alone_in (parts vs) ≡ total alone_of (map hand_of vs)
  alones [] = refl
  alones (v ∷ vs) = let e = alones vs in omega arith

  transit-is : (b : Bias) → bias_kind b ≤ 1 → transit_of (record { numbers = kept_bias b }) ≡ early_weight b + late_weight b
  transit-is Clear l = omega arith
  transit-is (Transit word) l = omega arith
  transit-is (Reserve word) l = absurd (omega (arith, l))

  transits : (vs : List V) → Each IsLight vs → total shared_in (parts vs) + (total early_in (parts vs) + total late_in (parts vs)) ≡ total shared_of (map hand_of vs) + total transit_of (map marks vs)
  transits [] e = refl
  transits (v ∷ vs) e = let l = e zero v refl in let n = number-most v.hand.task in let t = transit-is v.ext (omega (arith, l, n)) in let r = transits vs (λ j w at. e (suc j) w at) in omega arith

  a-bit : (n : ℕ) → n < 2 → (b : Bool) × (bit b ≡ n)
  a-bit zero l = (false, refl)
  a-bit (suc zero) l = (true, refl)
  a-bit (suc (suc n)) l = absurd (omega (arith, l))

  view-at : {A : Type 0} (f : V → A) (vs : List V) (j : ℕ) (x : A) → get_elem? (map f vs) j ≡ some x → (v : V) × (get_elem? vs j ≡ some v) × (f v ≡ x)
  view-at f [] j x at = absurd (some-ne-none x (sym at))
  view-at f (v ∷ vs) zero x at = (v, refl, some-injective (f v) x at)
  view-at f (v ∷ vs) (suc j) x at = view-at f vs j x at

  in-transit : (vs : List V) → Each IsLight vs → (j : ℕ) (h : Hand) (m : Marks) → get_elem? (map hand_of vs) j ≡ some h → get_elem? (map marks vs) j ≡ some m → transit_of m ≡ 1 → (h.held ≡ No)
      × (h.task ≢ None)
  in-transit vs light j h m at at' is = let a = view-at hand_of vs j h at in let v = a.0 in let l = light j v a.1 in
      let mine : m ≡ marks v = some-injective m (marks v) (sym at' ∙ at_map marks vs j v a.1) in let n = number-most v.hand.task in
      let t = transit-is v.ext (omega (arith, l, n)) in let b = biases-are v.ext (omega (arith, l, n)) in let k : transit_of (marks v) ≡ 1 = ap transit_of (sym mine) ∙ is in (
        sym (ap (λ (g : Hand). g.held) a.2) ∙ held-none v.hand.held (omega (arith, l, n, t, b, k)),
        λ bare. let z : number_weight v.hand.task ≡ 0 = ap number_weight (ap (λ (g : Hand). g.task) a.2 ∙ bare) in omega (arith, l, z, t, b, k),
      )

  pub rule-states : (k : Plan) (ws : List ℕ) (vs : List V) → Kept k ws vs → IsCountSite o size k ws (map hand_of vs) (map marks vs)
  rule-states k ws vs r = let n : ℕ = get_or ws count_at 0 in let c = r.count in let low = c.low in let w = c.writer in let f = c.field in let plain = r.plain in
      let lawful = (rule-count k ws vs r).1 in let high = lawful.1 in let a = alones vs in let t = transits vs r.light in let b = a-bit (n % 2) (omega arith) in let is = b.1 in record {
        is_site = kept-states o counted size k (site k ws) (map hand_of vs) r.site_holds;
        count = record {
          count = record { writer = b.0; waiters = false; handoff = false; readers = n / 256; read_fail = false };
          is = omega (arith, is, low, plain);
          writer = is ∙ (w ∙ a);
          readers = omega (arith, f, t);
          waiters = refl;
          handoff = refl;
          no_fail = refl;
          small = omega (arith, low, high);
          apart = in-transit vs r.light;
        };
      }
