-- Who waits for a semaphore has a pass, and so is a task of the plan.
use Rattle.std.proofs.Common.{◌≡◌, ℕ, zero, suc, ◌==◌, ◌<◌, true, List, [], ◌∷◌, length, map, Option, Some, None, refl, ap, arith, ne_eqb}
use mathlib.Core.Option.{some}
use lib.ListN.{get_elem?}
use Rattle.atomic_table.proofs.Lists.{at_map}
use Rattle.word_bits.specs.Objects.{Obj}
use Rattle.word_bits.specs.Histories.{Plan}
use Rattle.lock_core.specs.Locked.{HasPass}
use Rattle.lock_core.specs.Records.{bit}
use Rattle.lock_core.specs.Totals.{total}
use Rattle.lock_core.specs.Views.{hand_of}
use Rattle.lock_core.proofs.HandLaws.{false-or-true, not-both}
use Rattle.wait_list.specs.Lists.{counted}
use Rattle.rwsem_wake.specs.SemParts.{SemPart, named_weight, reads_at, reads_weight, writes_at, writes_weight}
use Rattle.rwsem_wake.proofs.FirstReaders.{counted-is}
use Rattle.rwsem_wake.specs.RwSemViews.{V, seen}
use Rattle.rwsem_slow.specs.RwSems.{RwSemKept}
use Rattle.rwsem_slow.specs.Types.{Waiter}

-- whose weight in a total isn't 0
pub view-of : {X : Type 0} (part : V → X) (f : X → ℕ) (vs : List V) → 0 < total f (map part vs) → (j : ℕ) × (v : V) × (get_elem? vs j ≡ some v) × (0 < f (part v))
view-of part f [] more = absurd (omega (arith, more))
view-of part f (v ∷ vs) more = elim (native.Mathlib.Decide.dec_le (f (part v)) 0) [
  | yes none ↦ let s = view-of part f vs (omega (arith, more, none)) in (suc s.0, s.1, s.2, s.3)
  | no weighs ↦ (zero, v, refl, omega (arith, weighs))
]

pub named-is : (t : ℕ) (task : Option ℕ) (n : ℕ) → 0 < named_weight t task n → task ≡ Some t
named-is t task zero more = absurd (omega (arith, more))
named-is t None (suc n) more = absurd (omega (arith, more))
named-is t (Some u) (suc n) more = false-or-true (u == t) (λ same. ap Some (eqb-eq u t same)) (λ other. absurd (let b : bit (u == t) ≡ 0 = ap bit other in omega (arith, b, more)))
  where
    eqb-eq : (m n : ℕ) → (m == n) ≡ true → m ≡ n
    eqb-eq m n e = elim (native.Mathlib.Decide.ℕ_discrete m n) [ yes same ↦ same | no other ↦ not-both (m == n) (ne_eqb m n other) e ]

module _ {Call : Type 0} (o : Obj Call) (size : ℕ) (k : Plan) (ws : List ℕ) (vs : List V) (q : List Waiter) (r : RwSemKept o size k ws vs q) where
  abbrev ps : List SemPart
  ps = map seen vs

  -- who waits has a pass
  pub has-pass : (t : ℕ) → 0 < counted t q → HasPass (map hand_of vs) t
  has-pass t more = let c = counted-is t q in let a = r.sem.reads t in let b = r.sem.writes t in elim (native.Mathlib.Decide.dec_le 1 (total (reads_at t) ps)) [
    | yes reads ↦ let s = view-of seen (reads_at t) vs (omega (arith, reads)) in (s.0, s.1.hand, at_map hand_of vs s.0 s.1 s.2, named-is t s.1.hand.task (reads_weight s.1.ext.sem.wait) s.3)
    | no none ↦ let s = view-of seen (writes_at t) vs (omega (arith, none, a, b, c, more)) in
        (s.0, s.1.hand, at_map hand_of vs s.0 s.1 s.2, named-is t s.1.hand.task (writes_weight s.1.ext.sem.wait) s.3)
  ]

  pub few-waiters : (t : ℕ) → 0 < counted t q → t < length k
  few-waiters t more = let p = has-pass t more in ((r.site_holds.each p.0 p.1 p.2).mine t p.3).0
