-- A function, and the words of a spin queue, with another value at one place.
use Rattle.std.proofs.Common.{◌≡◌, ℕ, ◌<◌, Bool, if◌then◌else◌, List, length, set, sym, refl, ap, subst, arith, eq-eqb, ne_eqb, get_or-set_same, get_or-set_other}
use Rattle.word_bits.specs.declared.TheConstants.{MAX_TASKS}
use Rattle.lock_core.specs.declared.layout.TheConstants.{LOCK_WORDS}
use Rattle.osq_nodes.specs.OsqKept.{Sets, QueueKept, RowKept, with_at}
use Rattle.osq_nodes.specs.Types.{Place}
use Rattle.osq_nodes.specs.Words.{next_at, prev_at, locked_at, tail_in, next_in, prev_in, locked_in}

pub with_at-sets : {A : Type 0} (f : ℕ → A) (i : ℕ) (v : A) → Sets f (with_at f i v) i v
with_at-sets {A} f i v = (ap (λ (b : Bool). if b then v else f i) (eq-eqb i i refl), λ u n. ap (λ (b : Bool). if b then v else f u) (ne_eqb u i n))

module _ (size : ℕ) (row : List ℕ) (place : ℕ → Place) (q : List ℕ) (x n : ℕ) (long : length row ≡ LOCK_WORDS) (small : x < MAX_TASKS) where
  pub sets-next : Sets (next_in row) (next_in (set row (next_at x) n)) x n
  sets-next = (get_or-set_same row (next_at x) n 0 (omega arith), λ u m. get_or-set_other row (next_at x) (next_at u) n 0 (λ e. m (omega arith)))

  pub sets-prev : Sets (prev_in row) (prev_in (set row (prev_at x) n)) x n
  sets-prev = (get_or-set_same row (prev_at x) n 0 (omega arith), λ u m. get_or-set_other row (prev_at x) (prev_at u) n 0 (λ e. m (omega arith)))

  pub sets-locked : Sets (locked_in row) (locked_in (set row (locked_at x) n)) x n
  sets-locked = (get_or-set_same row (locked_at x) n 0 (omega arith), λ u m. get_or-set_other row (locked_at x) (locked_at u) n 0 (λ e. m (omega arith)))

  -- a store in one word of a node leaves the other words
  pub wrote-next : QueueKept size (tail_in row) (next_in (set row (next_at x) n)) (prev_in row) (locked_in row) place q → RowKept size (set row (next_at x) n) place q
  wrote-next = subst (λ (z : ℕ × (ℕ → ℕ) × (ℕ → ℕ)). QueueKept size z.0 (next_in (set row (next_at x) n)) z.1 z.2 place q)
      (λ i. (sym (get_or-set_other row (next_at x) 0 n 0 (λ e. omega arith)) i, λ u. sym (get_or-set_other row (next_at x) (prev_at u) n 0 (λ e. omega arith)) i, λ u. sym (get_or-set_other row (next_at x) (locked_at u) n 0 (λ e. omega arith)) i))

  pub wrote-prev : QueueKept size (tail_in row) (next_in row) (prev_in (set row (prev_at x) n)) (locked_in row) place q → RowKept size (set row (prev_at x) n) place q
  wrote-prev = subst (λ (z : ℕ × (ℕ → ℕ) × (ℕ → ℕ)). QueueKept size z.0 z.1 (prev_in (set row (prev_at x) n)) z.2 place q)
      (λ i. (sym (get_or-set_other row (prev_at x) 0 n 0 (λ e. omega arith)) i, λ u. sym (get_or-set_other row (prev_at x) (next_at u) n 0 (λ e. omega arith)) i, λ u. sym (get_or-set_other row (prev_at x) (locked_at u) n 0 (λ e. omega arith)) i))

  pub wrote-locked : QueueKept size (tail_in row) (next_in row) (prev_in row) (locked_in (set row (locked_at x) n)) place q → RowKept size (set row (locked_at x) n) place q
  wrote-locked = subst (λ (z : ℕ × (ℕ → ℕ) × (ℕ → ℕ)). QueueKept size z.0 z.1 z.2 (locked_in (set row (locked_at x) n)) place q)
      (λ i. (sym (get_or-set_other row (locked_at x) 0 n 0 (λ e. omega arith)) i, λ u. sym (get_or-set_other row (locked_at x) (next_at u) n 0 (λ e. omega arith)) i, λ u. sym (get_or-set_other row (locked_at x) (prev_at u) n 0 (λ e. omega arith)) i))

pub wrote-tail : (size : ℕ) (row : List ℕ) (place : ℕ → Place) (q : List ℕ) (n : ℕ) → length row ≡ LOCK_WORDS → QueueKept size n (next_in row) (prev_in row) (locked_in row) place q → RowKept size (set row 0 n) place q
wrote-tail size row place q n long = subst (λ (z : ℕ × (ℕ → ℕ) × (ℕ → ℕ) × (ℕ → ℕ)). QueueKept size z.0 z.1 z.2 z.3 place q)
    (λ i. (sym (get_or-set_same row 0 n 0 (omega arith)) i, λ u. sym (get_or-set_other row 0 (next_at u) n 0 (λ e. omega arith)) i, λ u. sym (get_or-set_other row 0 (prev_at u) n 0 (λ e. omega arith)) i, λ u. sym (get_or-set_other row 0 (locked_at u) n 0 (λ e. omega arith)) i))
