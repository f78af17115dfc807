-- At most as many passes have a number as there are tasks.
use Rattle.std.proofs.Common.{◌≡◌, ℕ, zero, suc, ◌+◌, ◌<◌, ◌≤◌, List, [], ◌∷◌, Option, Some, None, refl, ap, ◌∙◌, arith}
use mathlib.Core.Logic.{dite}
use native.Mathlib.Decide.{ℕ_discrete}
use Rattle.word_bits.specs.declared.TheConstants.{MAX_TASKS}
use Rattle.lock_core.specs.Views.{is_number, number_weight}
use Rattle.lock_core.specs.Totals.{total}
use Rattle.lock_core.specs.ViewParts.{Each}
use Rattle.lock_core.proofs.HandLaws.{is_number-here}

total-both : {V : Type 0} (f g : V → ℕ) (vs : List V) → total (λ v. f v + g v) vs ≡ total f vs + total g vs
total-both f g [] = omega arith
total-both f g (v ∷ vs) = let a = total-both f g vs in omega arith

module _ {V : Type 0} (task : V → Option ℕ) where
  below : ℕ → V → ℕ
  below zero v = 0
  below (suc m) v = below m v + is_number m (task v)

  none-below : (vs : List V) → total (below 0) vs ≤ 0
  unfolding below
  none-below [] = omega arith
  none-below (v ∷ vs) = let a = none-below vs in omega arith

  below-most : (m : ℕ) (vs : List V) → ((t : ℕ) → t < m → total (λ (v : V). is_number t (task v)) vs ≤ 1) → total (below m) vs ≤ m
  unfolding below
  below-most zero vs each = none-below vs
  below-most (suc m) vs each = let a = below-most m vs (λ t l. each t (omega arith)) in let b = each m (omega arith) in let c = total-both (below m) (λ (v : V). is_number m (task v)) vs in omega arith

  below-here : (m t : ℕ) (v : V) → task v ≡ Some t → t < m → 1 ≤ below m v
  unfolding below
  below-here zero t v has l = absurd (omega arith)
  below-here (suc m) t v has l = dite (ℕ_discrete t m)
      (λ is. let e : is_number m (task v) ≡ 1 = ap (is_number m) has ∙ (ap (λ (z : ℕ). is_number m (Some z)) is ∙ is_number-here m) in omega arith)
      (λ not. let a = below-here m t v has (omega (arith, l, not)) in omega arith)

  one : (v : V) → ((t : ℕ) → task v ≡ Some t → t < MAX_TASKS) → number_weight (task v) ≤ below MAX_TASKS v
  one v s = go (task v) refl
    where
      go : (x : Option ℕ) → task v ≡ x → number_weight (task v) ≤ below MAX_TASKS v
      go None e = let z : number_weight (task v) ≡ 0 = ap number_weight e in omega (arith, z)
      go (Some t) e = let z : number_weight (task v) ≡ 1 = ap number_weight e in let l = below-here MAX_TASKS t v e (s t e) in omega (arith, z, l)

  all : (vs : List V) → Each (λ (v : V). (t : ℕ) → task v ≡ Some t → t < MAX_TASKS) vs → total (λ (v : V). number_weight (task v)) vs ≤ total (below MAX_TASKS) vs
  all [] e = omega arith
  all (v ∷ vs) e = let a = one v (e zero v refl) in let b = all vs (λ j w at. e (suc j) w at) in omega (arith, a, b)

  pub few-numbers : (vs : List V) → ((t : ℕ) → t < MAX_TASKS → total (λ (v : V). is_number t (task v)) vs ≤ 1) → Each (λ (v : V). (t : ℕ) → task v ≡ Some t → t < MAX_TASKS) vs
      → total (λ (v : V). number_weight (task v)) vs ≤ MAX_TASKS
  few-numbers vs each small = let a = below-most MAX_TASKS vs each in let b = all vs small in omega arith
