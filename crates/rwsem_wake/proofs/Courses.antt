-- What several steps make of a host's view.
use Rattle.std.proofs.Common.{◌≡◌, ◌≢◌, ◌∙◌, ℕ, zero, suc, ◌+◌, ◌*◌, ◌/◌, ◌%◌, ◌==◌, ◌<◌, ◌≤◌, Bool, List, [], ◌∷◌, length, if◌then◌else◌, sym, refl, ap, subst, arith, eq-eqb, ne_eqb}
use Rattle.lock_core.specs.Records.{bit}
use Rattle.wait_list.specs.Lists.{list_part}
use Rattle.rwsem_count.specs.Counts.{early_weight}
use Rattle.rwsem_wake.specs.SemParts.{some_of}
use Rattle.rwsem_wake.specs.Grants.{IsGranting, granting_on, still_granting, TurnsTo, OnlySem, gains, losses, looked, counted}
use Rattle.rwsem_wake.specs.Types.{View, Waiter, ListHand, SemHand, Counted, Granting}

-- a batch that isn't empty is to be granted
pub goes-granting : (batch : List ℕ) → 0 < length batch → Granting ≡ granting_on batch
goes-granting [] l = absurd (omega arith)
goes-granting (t ∷ ts) l = refl

module _ {E : Type 0} (with_sem : E → SemHand → E) where
  pub only-one-step : (v : View E) (s : SemHand) (u : View E) → TurnsTo with_sem v s u → OnlySem with_sem v s u
  only-one-step v s u e = subst (λ (z : View E). OnlySem with_sem v s z) (sym e) refl

  module _ (over : (e : E) (s r : SemHand) → with_sem (with_sem e s) r ≡ with_sem e r) where
    pub only-more : (v : View E) (s r : SemHand) (u w : View E) → OnlySem with_sem v s u → OnlySem with_sem u r w → OnlySem with_sem v r w
    only-more v s r u w e f = f ∙ (λ i. record (e i) { steps = w.steps; ext = (ap (λ (z : View E). with_sem z.ext r) e ∙ over v.ext s r) i })

  module _ (sem : E → SemHand) (back : (e : E) (s : SemHand) → sem (with_sem e s) ≡ s) where
    pub sem-after : (v : View E) (s : SemHand) (u : View E) → OnlySem with_sem v s u → sem u.ext ≡ s
    sem-after v s u e = ap (λ (z : View E). sem z.ext) e ∙ back v.ext s

  module _ (list : E → ListHand) (same : (e : E) (s : SemHand) → list (with_sem e s) ≡ list e) where
    pub list-after : (v : View E) (s : SemHand) (u : View E) → OnlySem with_sem v s u → list_part list u ≡ list_part list v
    list-after v s u e = ap (list_part list) e ∙ (λ i. (v.spin, same v.ext s i))

  module _ (sem : E → SemHand) (same : (e : E) → with_sem e (sem e) ≡ e) where
    -- none of a batch is granted yet
    pub starts-granting : (v : View E) (batch : List ℕ) → IsGranting (sem v.ext) batch → OnlySem with_sem v (still_granting (sem v.ext) batch) v
    starts-granting v batch g = let s = sem v.ext in let is : still_granting s batch ≡ s = λ i. record s { bias = sym g.clear i; rest = sym g.rest i; stage = sym g.stage i } in
        λ i. record v { ext = sym (ap (with_sem v.ext) is ∙ same v.ext) i }

-- what the sum of a batch is, as the code counts it
module _ (s : SemHand) (q : List Waiter) (word readers gain loss reserved empty : ℕ) (long : readers ≡ length s.rest) (own : reserved ≡ early_weight s.bias) (rest : empty + some_of q ≡ 1)
    (gain_is : gain ≡ 256 * readers) (loss_is : loss ≡ 256 * reserved + 4 * (word / 4 % 2) + 2 * empty) where
  pub sum-none : gain ≡ loss → looked s q word ≡ counted s
  sum-none e = ap (λ (z : Bool). if z then counted s else record s { stage = Counted (word / 4 % 2 == 1) }) (eq-eqb (losses s (word / 4 % 2)) (gains s q) (omega arith))

  pub sum-some : gain ≢ loss → looked s q word ≡ record s { stage = Counted (word / 4 % 2 == 1) }
  sum-some not = ap (λ (z : Bool). if z then counted s else record s { stage = Counted (word / 4 % 2 == 1) }) (ne_eqb (losses s (word / 4 % 2)) (gains s q) (λ e. not (omega arith)))

  bit-one : (n : ℕ) → n ≤ 1 → bit (n == 1) ≡ n
  bit-one zero l = refl
  bit-one (suc zero) l = refl
  bit-one (suc (suc n)) l = absurd (omega arith)

  pub sum-by : gain + losses s (bit (word / 4 % 2 == 1)) ≡ loss + gains s q
  sum-by = let b = bit-one (word / 4 % 2) (omega arith) in omega (arith, b, gain_is, loss_is, long, own, rest)
