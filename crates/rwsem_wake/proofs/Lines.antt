-- Where a store goes among the words of tasks, and what a load finds.
use Rattle.std.proofs.Common.{◌≡◌, ◌≢◌, ℕ, zero, suc, ◌+◌, ◌<◌, ◌≤◌, List, ◌∷◌, length, get_or, set, sym, refl, ap, ◌∙◌, subst, arith, get_or-set_same, get_or-set_other}
use Rattle.word_bits.specs.declared.TheConstants.{MAX_TASKS}
use Rattle.rwsem_wake.specs.SemParts.{marks_sum}
use Rattle.rwsem_wake.specs.Lines.{line_place, gather, lines_in}

module _ (place : ℕ → ℕ) where
  pub length-gather : (n m : ℕ) (ws : List ℕ) → length (gather place n m ws) ≡ m
  length-gather n zero ws = refl
  length-gather n (suc m) ws = let e = length-gather (suc n) m ws in omega arith

  pub gather-at : (n m t : ℕ) (ws : List ℕ) → t < m → get_or (gather place n m ws) t 0 ≡ get_or ws (place (n + t)) 0
  gather-at n zero t ws l = absurd (omega arith)
  gather-at n (suc m) zero ws l = ap (λ (z : ℕ). get_or ws (place z) 0) (let e : n ≡ n + 0 = omega arith in e)
  gather-at n (suc m) (suc t) ws l = gather-at (suc n) m t ws (omega arith) ∙ ap (λ (z : ℕ). get_or ws (place z) 0) (let e : suc n + t ≡ n + suc t = omega arith in e)

  -- a word elsewhere changes
  pub gather-else : (n m i x : ℕ) (ws : List ℕ) → ((t : ℕ) → n ≤ t → t < n + m → place t ≢ i) → gather place n m (set ws i x) ≡ gather place n m ws
  gather-else n zero i x ws apart = refl
  gather-else n (suc m) i x ws apart = λ j. get_or-set_other ws i (place n) x 0 (apart n (omega arith) (omega arith)) j ∷ gather-else (suc n) m i x ws (λ t a b. apart t (omega arith) (omega arith)) j

  -- one of them changes
  pub gather-set : (n m t x : ℕ) (ws : List ℕ) → t < m → place (n + t) < length ws → ((u : ℕ) → u ≢ n + t → place u ≢ place (n + t)) → gather place n m (set ws (place (n + t)) x) ≡ set (gather place n m ws) t x
  gather-set n zero t x ws l inside apart = absurd (omega arith)
  gather-set n (suc m) zero x ws l inside apart = let e : n + 0 ≡ n = omega arith in λ j. ((ap (λ (z : ℕ). get_or (set ws (place (n + 0)) x) (place z) 0) (sym e) ∙ get_or-set_same ws (place (n + 0)) x 0 inside) j) ∷ gather-else (suc n) m (place (n + 0)) x ws (λ u a b. apart u (λ k. omega (arith, k, a))) j
  gather-set n (suc m) (suc t) x ws l inside apart = let e : n + suc t ≡ suc n + t = omega arith in λ j. get_or-set_other ws (place (n + suc t)) (place n) x 0 (apart n (λ k. omega (arith, k))) j ∷
      (ap (λ (z : ℕ). gather place (suc n) m (set ws (place z) x)) e ∙ gather-set (suc n) m t x ws (omega arith) (subst (λ (z : ℕ). place z < length ws) e inside) (λ u k z. apart u (λ y. k (y ∙ e)) (z ∙ ap place (sym e)))) j

-- of the words of all tasks
pub length-lines : (base : ℕ) (ws : List ℕ) → length (lines_in base ws) ≡ MAX_TASKS
unfolding lines_in
length-lines base ws = length-gather (line_place base) 0 MAX_TASKS ws

pub lines-at : (base : ℕ) (ws : List ℕ) (t : ℕ) → t < MAX_TASKS → get_or (lines_in base ws) t 0 ≡ get_or ws (line_place base t) 0
unfolding lines_in
lines-at base ws t l = gather-at (line_place base) 0 MAX_TASKS t ws l ∙ ap (λ (z : ℕ). get_or ws (line_place base z) 0) (let e : 0 + t ≡ t = omega arith in e)

pub lines-set : (base : ℕ) (ws : List ℕ) (t x : ℕ) → t < MAX_TASKS → line_place base t < length ws → lines_in base (set ws (line_place base t) x) ≡ set (lines_in base ws) t x
unfolding lines_in
lines-set base ws t x l wide = let same : 0 + t ≡ t = omega arith in subst (λ (z : ℕ). gather (line_place base) 0 MAX_TASKS (set ws (line_place base z) x) ≡ set (gather (line_place base) 0 MAX_TASKS ws) t x) same
    (gather-set (line_place base) 0 MAX_TASKS t x ws l (omega (arith, wide)) (λ u n e. n (omega (arith, e))))

pub lines-else : (base : ℕ) (ws : List ℕ) (i x : ℕ) → ((t : ℕ) → t < MAX_TASKS → line_place base t ≢ i) → lines_in base (set ws i x) ≡ lines_in base ws
unfolding lines_in
lines-else base ws i x apart = gather-else (line_place base) 0 MAX_TASKS i x ws (λ t a b. apart t (omega arith))

-- where all of them are 0, nobody is marked
pub lines-zero : (base : ℕ) (ws : List ℕ) → ((t : ℕ) → t < MAX_TASKS → get_or ws (line_place base t) 0 ≡ 0) → marks_sum (lines_in base ws) ≡ 0
unfolding lines_in
lines-zero base ws zeros = go 0 MAX_TASKS (λ t l. zeros t (omega arith))
  where
    go : (n m : ℕ) → ((t : ℕ) → t < n + m → get_or ws (line_place base t) 0 ≡ 0) → marks_sum (gather (line_place base) n m ws) ≡ 0
    go n zero z = refl
    go n (suc m) z = let a = z n (omega arith) in let b = go (suc n) m (λ t l. z t (omega arith)) in omega arith
