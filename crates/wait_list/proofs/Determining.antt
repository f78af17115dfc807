-- The words and the passes determine the list.
use Rattle.std.proofs.Common.{◌≡◌, ◌∙◌, ℕ, zero, suc, ◌<◌, true, List, [], ◌∷◌, refl, sym, ap, arith}
use mathlib.Core.Option.{some}
use lib.ListN.{get_elem?}
use Rattle.lock_core.specs.Records.{bit}
use Rattle.lock_core.specs.Totals.{total}
use Rattle.lock_core.proofs.HandLaws.{false-or-true}
use Rattle.wait_list.specs.Lists.{ListKept, Part, changes_of}
use Rattle.wait_list.specs.Types.{Waiter}
use Rattle.wait_list.proofs.Walks.{walks-one}

part-of : (ps : List Part) → 0 < total changes_of ps → (j : ℕ) × (p : Part) × (get_elem? ps j ≡ some p) × (0 < changes_of p)
part-of [] more = absurd (omega (arith, more))
part-of (p ∷ ps) more = elim (native.Mathlib.Decide.dec_le (changes_of p) 0) [
  | yes none ↦ let s = part-of ps (omega (arith, more, none)) in (suc s.0, s.1, s.2, s.3)
  | no weighs ↦ (zero, p, refl, omega (arith, weighs))
]

-- the words and the passes determine the list
pub kept-same : (words : List ℕ) (l m : List Waiter) (ps : List Part) → ListKept words l ps → ListKept words m ps → l ≡ m
kept-same words l m ps a b = elim (native.Mathlib.Decide.dec_le (total changes_of ps) 0) [
  | yes none ↦ let x = a.quiet (omega (arith, none)) in let y = b.quiet (omega (arith, none)) in
      walks-one words 0 l m x.walk y.walk
  | no some_change ↦ let s = part-of ps (omega (arith, some_change)) in let weighs = s.3 in
      let is : s.1.1.changes ≡ true = false-or-true s.1.1.changes (λ t. t) (λ f. absurd (let w : bit s.1.1.changes ≡ 0 = ap bit f in omega (arith, w, weighs))) in
      sym ((a.each s.0 s.1 s.2).knows ((a.each s.0 s.1 s.2).changes is).0).0 ∙ ((b.each s.0 s.1 s.2).knows ((b.each s.0 s.1 s.2).changes is).0).0
]
