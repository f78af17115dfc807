-- The rule of a table with spin locks alone, and its laws.
use Rattle.std.proofs.Common.{◌≡◌, ◌≢◌, ℕ, ◌+◌, ◌*◌, ◌<◌, ◌≤◌, inl, inr, ⊎_elim, List, [], ◌∷◌, ◌++◌, length, map, get_or, set, sym, refl, ap, ◌∙◌, subst, arith, length-set}
use Rattle.std.proofs.lemmas.List.{drop-set-lt}
use mathlib.Core.Option.{some}
use lib.ListN.{get_elem?}
use Rattle.atomic_table.proofs.Lists.{at_map}
use Rattle.word_bits.specs.Histories.{Plan}
use Rattle.lock_core.specs.declared.layout.TheConstants.{LOCK_WORDS, SPIN_WORDS}
use Rattle.lock_core.specs.Nothings.{nothing, never}
use Rattle.lock_core.specs.LockHands.{RestsEverywhere}
use Rattle.lock_core.specs.Layout.{SiteWords, part, fresh, site, lay, width}
use Rattle.lock_core.specs.Views.{SpinStays, HoldsNothing, hand_of, spin_part, part_with, no_part, seated, ticked, first, split_off, merged, spent}
use Rattle.lock_core.specs.Sites.{SiteKept}
use Rattle.lock_core.specs.Spins.{SpinsKept, SpinGoes, SpinsMove, IsFew, spun}
use Rattle.lock_core.specs.Laws.Spin.{spins-rename, spins-come, spins-end, spins-open, rests-everywhere}
use Rattle.lock_core.specs.Moves.{Goes, KeepsHold, SiteMove}
use Rattle.lock_core.specs.Laws.Move.{set-moves, spin-moved}
use Rattle.lock_core.specs.ViewParts.{keep_part, set_part, snoc_part}
use Rattle.lock_core.specs.Regions.{wide-part, part-in, part-below, part-at}
use Rattle.lock_core.specs.Types.{View, Hand, SpinHand}

abbrev V : Type 0
V = View (Unit {0})

abbrev pub region : List ℕ → List ℕ
region ws = part 0 SPIN_WORDS ws

module _ (locks : ℕ) where
  pub record SpinTableKept (k : Plan) (ws : List ℕ) (vs : List V) : Type 0 where
    pub wide : length ws ≡ width k
    pub site_holds : SiteKept nothing never 0 k (site k ws) (map hand_of vs)
    pub spin : SpinsKept locks (region ws) (map spin_part vs)

  -- all that each step of a site does, and each of a spin lock
  pub record SpinTableMoves (k : Plan) (id : ℕ) (ws : List ℕ) (vs : List V) (us : List ℕ) (vs' : List V) : Type 0 where
    pub site : SiteMove id (get_or ws 0 0) (site k ws) vs (site k us) vs'
    pub spin : SpinsMove locks id (region ws) (map spin_part vs) (region us) (map spin_part vs')

  abbrev SpinTableGoes : Plan → ℕ → List ℕ → List V → List ℕ → List V → Type 0
  SpinTableGoes k = Goes (SpinTableKept k) (SpinTableMoves k)

  pub table-site : (k : Plan) (ws : List ℕ) (vs : List V) → SpinTableKept k ws vs → SiteKept nothing never 0 k (site k ws) (map hand_of vs)
  table-site k ws vs r = r.site_holds

  pub table-spin : (k : Plan) (ws : List ℕ) (vs : List V) → SpinTableKept k ws vs → SpinsKept locks (region ws) (map spin_part vs)
  table-spin k ws vs r = r.spin

  goes : (k : Plan) (id : ℕ) (ws us : List ℕ) (vs vs' : List V) → length us ≡ width k → SiteKept nothing never 0 k (site k us) (map hand_of vs')
      → SiteMove id (get_or ws 0 0) (site k ws) vs (site k us) vs' → SpinsMove locks id (region ws) (map spin_part vs) (region us) (map spin_part vs') → SpinTableGoes k id ws vs us vs'
  goes k id ws us vs vs' wide there move spin = (record { wide = wide; site_holds = there; spin = (spin.queues', spin.new) }, record { site = move; spin = spin })

  pub table-opens : locks ≤ 8 → (k : Plan) → length (fresh k) ≡ width k → ((i : ℕ) → i < LOCK_WORDS → get_or (fresh k) i 0 ≡ 0)
      → SiteKept nothing never 0 k (site k (fresh k)) (map hand_of (first {E = Unit {0}} k tt ∷ [])) → SpinTableKept k (fresh k) (first k tt ∷ [])
  table-opens most k wide zeros there = record {
    wide = wide;
    site_holds = there;
    spin =
        spins-open locks (region (fresh k)) (wide-part (fresh k) 0 SPIN_WORDS (omega (arith, wide)))
        (λ l which. let less : l < 8 = ⊎_elim (λ z. omega (arith, z)) (λ m. omega (arith, m, most)) which in let e : 0 + 8 * l ≡ 8 * l = omega arith in
        part-at (fresh k) 0 SPIN_WORDS (8 * l) (omega (arith, less)) ∙ (ap (λ (z : ℕ). get_or (fresh k) z 0) e ∙ zeros (8 * l) (omega (arith, less))));
  }

  pub table-splits : (k : Plan) (ws : List ℕ) (vs : List V) (id : ℕ) (v : V) → SpinTableKept k ws vs → get_elem? vs id ≡ some v
      → SiteKept nothing never 0 k (site k ws) (map hand_of (set vs id (ticked v) ++ split_off tt v ∷ []))
      → SiteMove id (get_or ws 0 0) (site k ws) vs (site k ws) (set vs id (ticked v) ++ split_off tt v ∷ []) → SpinTableGoes k id ws vs ws (set vs id (ticked v) ++ split_off tt v ∷ [])
  table-splits k ws vs id v r at there move = let us : List V = set vs id (ticked v) in goes k id ws ws vs (us ++ split_off tt v ∷ []) r.wide there move
      (snoc_part spin_part (SpinsMove locks id (region ws) (map spin_part vs) (region ws)) us (split_off tt v)
      (keep_part spin_part (λ ps. SpinsMove locks id (region ws) (map spin_part vs) (region ws) (ps ++ no_part ∷ [])) vs id v (ticked v) at refl
      (spins-come locks id (region ws) (map spin_part vs) r.spin)))

  -- a step on the spin words leaves the site's words
  pub table-spins : (k : Plan) (ws : List ℕ) (vs : List V) (id l i n : ℕ) (v : V) (s : SpinHand) → SpinTableKept k ws vs → get_elem? vs id ≡ some v → i < SPIN_WORDS → SpinGoes (v.steps + 1) l v.spin s
      → SpinsMove locks id (region ws) (map spin_part vs) (set (region ws) i n) (set (map spin_part vs) id (part_with v s))
      → SpinTableGoes k id ws vs (set ws (0 + i) n) (set vs id (spun v s))
  table-spins k ws vs id l i n v s r at within turn spin = let w : V = spun v s in let us : List ℕ = set ws (0 + i) n in
      let same : site k us ≡ site k ws = ap (lay k) (drop-set-lt LOCK_WORDS ws (0 + i) n (omega (arith, within))) in goes k id ws us vs (set vs id w) (length-set ws (0 + i) n ∙ r.wide)
      (subst (λ (z : SiteWords). SiteKept nothing never 0 k z (map hand_of (set vs id w))) (sym same) (keep_part hand_of (SiteKept nothing never 0 k (site k ws)) vs id v w at refl r.site_holds))
      (subst (λ (z : SiteWords). SiteMove id (get_or ws 0 0) (site k ws) vs z (set vs id w)) (sym same) (set-moves id (site k ws) (site k ws) vs v w at (spin-moved (site k ws) v l s turn)))
      (subst (λ (z : List ℕ). SpinsMove locks id (region ws) (map spin_part vs) z (map spin_part (set vs id w))) (sym (part-in ws 0 SPIN_WORDS i n within))
      (set_part spin_part (SpinsMove locks id (region ws) (map spin_part vs) (set (region ws) i n)) vs id w spin))

  -- a pass gives its number back, or is gathered, only where it is at none of the locks
  module _ (rests : V → Type 0) (out : (v : V) → IsFew locks (spin_part v) → HoldsNothing v × rests v → RestsEverywhere v.spin) where
    pub table-sites : (k : Plan) (ws : List ℕ) (vs : List V) (id i n : ℕ) (v : V) (h : Hand) (s : SpinHand) → SpinTableKept k ws vs → get_elem? vs id ≡ some v → KeepsHold rests v h
        → SpinStays v.spin s → SiteKept nothing never 0 k (site k (set ws (LOCK_WORDS + i) n)) (set (map hand_of vs) id h)
        → SiteMove id (get_or ws 0 0) (site k ws) vs (site k (set ws (LOCK_WORDS + i) n)) (set vs id (seated v h s)) → SpinTableGoes k id ws vs (set ws (LOCK_WORDS + i) n) (set vs id (seated v h s))
    table-sites k ws vs id i n v h s r at keeps stays there move = let w : V = seated v h s in let us : List ℕ = set ws (LOCK_WORDS + i) n in
        goes k id ws us vs (set vs id w) (length-set ws (LOCK_WORDS + i) n ∙ r.wide) (set_part hand_of (SiteKept nothing never 0 k (site k us)) vs id w there) move
        (subst (λ (z : List ℕ). SpinsMove locks id (region ws) (map spin_part vs) z (map spin_part (set vs id w))) (sym (part-below ws 0 SPIN_WORDS (LOCK_WORDS + i) n (omega arith)))
        (set_part spin_part (SpinsMove locks id (region ws) (map spin_part vs) (region ws)) vs id w
        (spins-rename locks id (region ws) (map spin_part vs) (spin_part v) h.task s r.spin (at_map spin_part vs id v at) stays
        (⊎_elim (λ a. inl a) (λ b. ⊎_elim (λ c. inr (inl c)) (λ t. inr (inr (out v (r.spin.1.few id (spin_part v) (at_map spin_part vs id v at)) t))) b) keeps.1))))

    pub table-joins : (k : Plan) (ws : List ℕ) (vs : List V) (id other : ℕ) (v w : V) → SpinTableKept k ws vs → get_elem? vs id ≡ some v → other ≢ id → get_elem? vs other ≡ some w → HoldsNothing w
        × rests w
        → SiteKept nothing never 0 k (site k ws) (map hand_of (set (set vs id (merged v w)) other (spent tt)))
        → SiteMove id (get_or ws 0 0) (site k ws) vs (site k ws) (set (set vs id (merged v w)) other (spent tt)) → SpinTableGoes k id ws vs ws (set (set vs id (merged v w)) other (spent tt))
    table-joins k ws vs id other v w r at apart at' free there move = let u : V = merged v w in let us : List V = set vs id u in goes k id ws ws vs (set us other (spent tt)) r.wide there move
        (set_part spin_part (SpinsMove locks id (region ws) (map spin_part vs) (region ws)) us other (spent tt)
        (keep_part spin_part (λ ps. SpinsMove locks id (region ws) (map spin_part vs) (region ws) (set ps other no_part)) vs id v u at refl
        (spins-end locks id (region ws) (map spin_part vs) other (spin_part w) r.spin (at_map spin_part vs other w at')
        (out w (r.spin.1.few other (spin_part w) (at_map spin_part vs other w at')) free))))

-- a pass that is at none of eight locks is
pub apart-out : (v : V) → IsFew 8 (spin_part v) → HoldsNothing v × RestsEverywhere v.spin → RestsEverywhere v.spin
apart-out v few t = t.1

-- with one lock, it is at none where it holds nothing
pub free-out : (v : V) → IsFew 1 (spin_part v) → HoldsNothing v × Unit {0} → RestsEverywhere v.spin
free-out v few t = rests-everywhere (spin_part v) few t.0.1

pub spins-inside : 0 + SPIN_WORDS ≤ LOCK_WORDS
spins-inside = omega arith

-- how many locks there may be
pub one-some : 1 ≤ 1
one-some = omega arith

pub one-eight : 1 ≤ 8
one-eight = omega arith

pub eight-most : 8 ≤ 8
eight-most = omega arith
