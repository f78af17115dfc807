-- A count with a writer is left to nobody: its release wakes.
use Rattle.std.proofs.Common.{◌≡◌, ℕ, ◌/◌, ◌%◌, ◌==◌, ◌&&◌, Bool, false, ap, arith, ne_eqb}
use Rattle.rwsem_wake.specs.Duties.{is_left}

pub written-left : (word : ℕ) → word % 2 ≡ 1 → is_left word ≡ false
written-left word writer = ap (λ (b : Bool). b && (word / 256 == 0)) (ne_eqb (word % 2) 0 (λ z. omega (arith, z, writer)))
