-- The lines of a table's descriptors.
use Rattle.std.proofs.Common.{◌≡◌, ◌<◌, ◌≤◌, ℕ, ◌+◌, zero, suc, List, [], ◌++◌, refl, arith, Option, subst}
use Rattle.byte_streams.specs.Causes.{Fronts, IsOnItsWay}
use Rattle.fd_table.specs.Tables.{FdMap}
use Rattle.mm_report.specs.Text.{descriptor_text, descriptors_text}
use Rattle.mm_report.proofs.Remaining.{Remains, remains_added, remains_failed, remains_none}

-- the first of them, and those behind it
descriptors_more : (m : FdMap) (fd count : ℕ) → descriptors_text m fd (suc count) ≡ descriptor_text fd (m fd) ++ descriptors_text m (fd + 1) count
unfolding descriptors_text
descriptors_more m fd count = refl

descriptors_none : (m : FdMap) (fd : ℕ) → descriptors_text m fd 0 ≡ []
unfolding descriptors_text
descriptors_none m fd = refl

-- what is left of a table's lines
abbrev pub Left : FdMap → (fd : ℕ) → (old new : Option (List ℕ)) → (before now : List ℕ) → Type 0
Left m fd old new before now = (count : ℕ) × (count + fd ≡ 64) × Remains old new before now (descriptors_text m fd count) (descriptors_text m 0 64)

pub left_added : (m : FdMap) (fd : ℕ) (a b c : Option (List ℕ)) (w0 w1 w2 : List ℕ) → fd < 64 → Left m fd a b w0 w1 → IsOnItsWay b c w2 (w1 ++ descriptor_text fd (m fd)) → Left m (fd + 1) a c w0 w2
left_added m fd a b c w0 w1 w2 within (zero, sum, r) q = absurd (omega arith)
left_added m fd a b c w0 w1 w2 within (suc count, sum, r) q = (
  count,
  omega arith,
  remains_added a b c w0 w1 w2 (descriptor_text fd (m fd)) (descriptors_text m (fd + 1) count) (descriptors_text m 0 64) (subst (λ t. Remains a b w0 w1 t (descriptors_text m 0 64)) (descriptors_more m fd count) r) q,
)

pub left_failed : (m : FdMap) (fd : ℕ) (a b c : Option (List ℕ)) (w0 w1 : List ℕ) → fd < 64 → Left m fd a b w0 w1 → Fronts b c (w1 ++ descriptor_text fd (m fd)) → Fronts a c (w0 ++ descriptors_text m 0 64)
left_failed m fd a b c w0 w1 within (zero, sum, r) q = absurd (omega arith)
left_failed m fd a b c w0 w1 within (suc count, sum, r) q =
    remains_failed a b c w0 w1 (descriptor_text fd (m fd)) (descriptors_text m (fd + 1) count) (descriptors_text m 0 64) (subst (λ t. Remains a b w0 w1 t (descriptors_text m 0 64)) (descriptors_more m fd count) r) q

pub left_done : (m : FdMap) (fd : ℕ) (a b : Option (List ℕ)) (w0 w1 : List ℕ) → 64 ≤ fd → Left m fd a b w0 w1 → IsOnItsWay a b w1 (w0 ++ descriptors_text m 0 64)
left_done m fd a b w0 w1 past (zero, sum, r) = remains_none a b w0 w1 (descriptors_text m 0 64) (subst (λ t. Remains a b w0 w1 t (descriptors_text m 0 64)) (descriptors_none m fd) r)
left_done m fd a b w0 w1 past (suc count, sum, r) = absurd (omega arith)
