-- A table has the words of the tasks of its plan.
use Rattle.std.proofs.Common.{◌≡◌, ℕ, ◌+◌, ◌*◌, ◌<◌, ◌≤◌, subst, arith}
use Rattle.word_bits.specs.declared.TheConstants.{MAX_TASKS}
use Rattle.lock_core.specs.Stores.{HasWord, row_at}
use Rattle.lock_core.proofs.Having.{has-row}

-- that of one of them in a row whose first line is that of the first task
pub has-line : (n r t base at : ℕ) → n ≤ MAX_TASKS → r < 4 → t < n → base ≡ row_at r → at ≡ base → HasWord n (at + 8 * t)
has-line n r t base at few which l is same = subst (HasWord n) (omega (arith, is, same)) (has-row n r (8 * t) few which (omega (arith, l)))
