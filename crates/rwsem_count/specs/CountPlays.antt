-- What a step on a count tells its pass.
use Rattle.std.specs.Prelude.{◌≡◌, ◌≢◌, ℕ, ◌+◌, ◌/◌, ◌%◌, ◌≤◌, List, Some}
use Rattle.word_bits.specs.LockWords.{IsLawfulCount}
use Rattle.word_bits.specs.Objects.{Obj}
use Rattle.word_bits.specs.Histories.{Plan}
use Rattle.atomic_table.specs.Table.{Step}
use Rattle.lock_core.specs.SitePlays.{Sat, Turns}
use Rattle.lock_core.specs.Views.{handed, ticked, took}
use Rattle.lock_core.specs.Holding.{Learns, missed}
use Rattle.rwsem_count.specs.Counts.{based}
use Rattle.rwsem_count.specs.CountWordSteps.{IsReadFree}
use Rattle.rwsem_count.specs.Types.{Entry, View, Hand, Held, Shared, Alone, Bias, Clear, Transit}

module _ {E : Type 0} where
  -- a reader's try saw this word, and left it
  abbrev pub SeenBy : Sat E → ℕ → Sat E → Type 0
  SeenBy m n m' = IsLawfulCount n × (IsReadFree n → Turns m (ticked m.0) m') × ((IsReadFree n → ⊥) → Turns m (handed m.0 (missed m.0.hand n (m.0.steps + 1))) m')

  -- the load of such a try
  abbrev pub Looked : Step (Unit {0}) → Sat E → ℕ → Sat E → Type 0
  Looked st m n m' = SeenBy m n m'

module _ {E : Type 0} (counted : View E → Hand → Bias → E) where
  -- it holds in this way, and has learnt what the lock guards
  abbrev pub Gets : {Call : Type 0} → Obj Call → Held → Sat E → Sat E → Type 0
  Gets o held m m' = (known : List ℕ) × (log : List Entry) × ((k : Plan) → m.0.hand.plan ≡ Some k → Learns o k m.0.hand known log) × Turns m (based counted m.0 (took m.0.hand held known log) Clear) m'

  -- a reader's bias is added
  abbrev pub ReadAdded : {Call : Type 0} → Obj Call → Step (Unit {0}) → Sat E → ℕ → Sat E → Type 0
  ReadAdded o st m n m' = IsLawfulCount n × (IsReadFree (n + 256) → Gets o Shared m m') × ((IsReadFree (n + 256) → ⊥) → Turns m (based counted m.0 (missed m.0.hand n (m.0.steps + 1)) (Transit n)) m')

  -- the exchange of a reader's try
  abbrev pub ReadTaken : {Call : Type 0} → Obj Call → Step (Unit {0}) → Sat E → ℕ → Sat E → Type 0
  ReadTaken o st m n m' = (n ≡ st.first → Gets o Shared m m') × (n ≢ st.first → SeenBy m n m')

  -- a compare-exchange from 0 to 1
  abbrev pub WriteTaken : {Call : Type 0} → Obj Call → Step (Unit {0}) → Sat E → ℕ → Sat E → Type 0
  WriteTaken o st m n m' = (n ≡ 0 → Gets o Alone m m') × (n ≢ 0 → IsLawfulCount n × Turns m (handed m.0 (missed m.0.hand n (m.0.steps + 1))) m')

  -- A step that leaves this of the count, which had as much as it takes, gives the pass this hand, and leaves it no bias. All flags but the writer's stay.
  abbrev pub Leaves : (may_be : ℕ → Type 0) (less : ℕ) (left : ℕ → ℕ) → (Hand → ℕ → Hand) → Step (Unit {0}) → Sat E → ℕ → Sat E → Type 0
  Leaves may_be less left h st m n m' = IsLawfulCount n × may_be n × (less ≤ n) × (left n / 2 % 128 ≡ n / 2 % 128) × Turns m (based counted m.0 (h m.0.hand (left n)) Clear) m'
