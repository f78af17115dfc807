-- Every table has the block word, and the counts of its own tasks.
use Rattle.std.proofs.Common.{◌≡◌, ℕ, ◌+◌, ◌*◌, ◌<◌, ◌≤◌, subst, arith}
use Rattle.word_bits.specs.declared.TheConstants.{MAX_TASKS}
use Rattle.lock_core.specs.Stores.{HasWord, row_at}
use Rattle.lock_core.proofs.Having.{has-row}
use Rattle.percpu_rwsem.specs.PercpuRuled.{block_at, count_at}

pub has-block : (n : ℕ) → n ≤ MAX_TASKS → HasWord n block_at
has-block n few = let e : row_at 0 + 0 ≡ block_at = omega arith in subst (λ (i : ℕ). HasWord n i) e (has-row n 0 0 few (omega arith) (omega arith))

pub has-count : (n t at : ℕ) → n ≤ MAX_TASKS → t < n → at ≡ count_at t → HasWord n at
has-count n t at few l is = let e : row_at 0 + (8 + 8 * t) ≡ at = omega (arith, is) in subst (λ (i : ℕ). HasWord n i) e (has-row n 0 (8 + 8 * t) few (omega arith) (omega (arith, l)))
