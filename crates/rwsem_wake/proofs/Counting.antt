-- The steps on the count, of the views of a semaphore.
use Rattle.std.proofs.Common.{◌≡◌, ℕ, ◌+◌, ◌/◌, ◌%◌, ◌<◌, ◌≤◌, ◌⊎◌, List, [], ◌∷◌, map, set, sym, refl, subst, arith}
use mathlib.Core.Option.{some}
use lib.ListN.{get_elem?}
use lib.Seq.{map-set}
use Rattle.atomic_table.proofs.Lists.{at_map}
use Rattle.lock_core.specs.Views.{alone_weight}
use Rattle.lock_core.specs.Totals.{total, total-at}
use Rattle.rwsem_count.specs.Counts.{CountPart, CountKept, shared_weight, early_weight, late_weight, shared_in, early_in, late_in}
use Rattle.rwsem_count.specs.Laws.Count.{Adds, part-adds}
use Rattle.rwsem_wake.specs.SemParts.{SemPart, part_of}
use Rattle.rwsem_wake.specs.Types.{Held, No, Shared, Alone, Bias, Clear, Transit, Reserve}
use Rattle.rwsem_count.specs.Laws.Count as laws

-- a sum over parts is a sum over the whole
pub total-map : {A B : Type 0} (f : B → ℕ) (g : A → B) (xs : List A) → total f (map g xs) ≡ total (λ x. f (g x)) xs
total-map f g [] = refl
total-map f g (x ∷ xs) = let e = total-map f g xs in omega arith

pub part-least : (f : CountPart → ℕ) (vs : List SemPart) (id : ℕ) (v : SemPart) → get_elem? vs id ≡ some v → f (part_of v) ≤ total f (map part_of vs)
part-least f vs id v at = total-at f (map part_of vs) id (part_of v) (at_map part_of vs id v at)

pub adds : (v : SemPart) (held : Held) (bias : Bias) → v.held ≡ held → v.sem.bias ≡ bias → Adds (part_of v) (alone_weight held) (shared_weight held) (early_weight bias) (late_weight bias)
adds v held bias h b = part-adds (part_of v) held bias h b

module _ (vs : List SemPart) (id : ℕ) (v u : SemPart) (at : get_elem? vs id ≡ some v) where
  there : get_elem? (map part_of vs) id ≡ some (part_of v)
  there = at_map part_of vs id v at

  whole : (n more : ℕ) → CountKept n more (set (map part_of vs) id (part_of u)) → CountKept n more (map part_of (set vs id u))
  whole n more r = subst (CountKept n more) (sym (map-set part_of vs id u)) r

  -- the general step, from what the view added before to what it adds after
  pub count-step : (n m more more' a s e l a' s' e' l' : ℕ) → CountKept n more (map part_of vs) → Adds (part_of v) a s e l → Adds (part_of u) a' s' e' l' → m % 256 < 8 → m % 2 + a ≡ n % 2 + a' → m / 256 + (more + s + e + l) ≡ n / 256 + (more' + s' + e' + l')
      → (0 < m % 2 → more' + (total shared_in (map part_of vs) + s') + (total early_in (map part_of vs) + e') ≡ s + e) → CountKept m more' (map part_of (set vs id u))
  count-step n m more more' a s e l a' s' e' l' r was is low writer field apart = whole m more' (laws.count-step (map part_of vs) id (part_of v) (part_of u) there n m more more' a s e l a' s' e' l' r was is low writer field apart)

  -- a waker reserves a bias
  pub count-reserves : (n more : ℕ) → CountKept n more (map part_of vs) → u.held ≡ v.held → v.sem.bias ≡ Clear → u.sem.bias ≡ Reserve n → CountKept (n + 256) more (map part_of (set vs id u))
  count-reserves n more r same clear biased = whole (n + 256) more (laws.count-reserves (map part_of vs) id (part_of v) (part_of u) there n more r same clear biased)

  -- a bias is taken back, whatever else of the flags changes
  pub count-back : (n m more : ℕ) → CountKept n more (map part_of vs) → m / 256 + 1 ≡ n / 256 → m % 256 < 8 → m % 2 ≡ n % 2 → u.held ≡ v.held → early_in (part_of v) + late_in (part_of v) ≡ 1 → u.sem.bias ≡ Clear → CountKept m more (map part_of (set vs id u))
  count-back n m more r less low writer same biased clear = whole m more (laws.count-backs (map part_of vs) id (part_of v) (part_of u) there n m more r less low writer same biased clear)

  -- a try in transit comes to hold by its bias
  pub count-keeps : (n m more : ℕ) → CountKept n more (map part_of vs) → (n % 2 ≡ 0) ⊎ (m % 2 ≡ 0) → v.held ≡ No → v.sem.bias ≡ Transit m → u.held ≡ Shared → u.sem.bias ≡ Clear → CountKept n more (map part_of (set vs id u))
  count-keeps n m more r sees out biased holds clear = whole n more (laws.count-keeps (map part_of vs) id (part_of v) (part_of u) there n m more r sees out biased holds clear)

  -- a writer takes
  pub count-writes : (n m more : ℕ) → CountKept n more (map part_of vs) → n / 256 ≡ 0 → n % 2 ≡ 0 → m % 2 ≡ 1 → m < 8 → v.held ≡ No → u.held ≡ Alone → u.sem.bias ≡ v.sem.bias → CountKept m more (map part_of (set vs id u))
  count-writes n m more r none free writer low out alone same = whole m more (laws.count-writes (map part_of vs) id (part_of v) (part_of u) there n m more r none free writer low out alone same)
