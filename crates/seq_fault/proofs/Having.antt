-- Every table has the sequence word.
use Rattle.std.proofs.Common.{◌≡◌, ℕ, ◌+◌, ◌≤◌, subst, arith}
use Rattle.word_bits.specs.declared.TheConstants.{MAX_TASKS}
use Rattle.lock_core.specs.Stores.{HasWord, row_at}
use Rattle.lock_core.proofs.Having.{has-row}
use Rattle.seq_fault.specs.SeqRuled.{seq_at}

pub has-sequence : (n : ℕ) → n ≤ MAX_TASKS → HasWord n seq_at
has-sequence n few = let e : row_at 0 + 0 ≡ seq_at = omega arith in subst (λ (i : ℕ). HasWord n i) e (has-row n 0 0 few (omega arith) (omega arith))
