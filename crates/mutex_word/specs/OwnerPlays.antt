-- What a step on the owner word tells its pass.
use Rattle.std.specs.Prelude.{◌≡◌, ◌≢◌, ℕ, ◌+◌, ◌/◌, ◌<◌, Bool, List, Some, ◌*◌}
use Rattle.word_bits.specs.declared.TheConstants.{MAX_TASKS}
use Rattle.word_bits.specs.Objects.{Obj}
use Rattle.word_bits.specs.Histories.{Plan}
use Rattle.atomic_table.specs.Table.{Step}
use Rattle.lock_core.specs.SitePlays.{Sat, Turns}
use Rattle.lock_core.specs.Views.{handed, ticked, took}
use Rattle.mutex_word.specs.Holders.{turns}
use Rattle.mutex_word.specs.OwnerTries.{IsFail, IsLawful, IsMine, missing}
use Rattle.mutex_word.specs.Types.{Entry, Turn, Take, Ask, Free, Fail, View, Alone}
use Rattle.lock_core.specs.Holding.{Learns, missed, released}

module _ {E : Type 0} (turned : Turn → View E → E) where
  -- a compare-exchange from 0 to the own code
  abbrev pub Tried : {Call : Type 0} → (ℕ → Type 0) → Obj Call → Step (Unit {0}) → Sat E → ℕ → Sat E → Type 0
  Tried may_be o st m n m' =
      (n ≡ 0 → (known : List ℕ) × (log : List Entry) × ((k : Plan) → m.0.hand.plan ≡ Some k → Learns o k m.0.hand known log) × Turns m (turns turned Take m.0 (took m.0.hand Alone known log)) m')
      × (n ≢ 0 → (n < 8 * MAX_TASKS + 8) × may_be n × Turns m (handed m.0 (missed m.0.hand n (m.0.steps + 1))) m')

  -- a compare-exchange of the own code
  abbrev pub Freed : (ℕ → Type 0) → Step (Unit {0}) → Sat E → ℕ → Sat E → Type 0
  Freed may_be st m n m' =
      (n ≡ st.first → Turns m (turns turned Free m.0 (released m.0.hand st.second)) m')
      × (n ≢ st.first → may_be n × (n / 8 ≡ st.first / 8) × Turns m (ticked m.0) m')

  -- a step that changes flags alone
  abbrev pub Flagged : Turn → Step (Unit {0}) → Sat E → ℕ → Sat E → Type 0
  Flagged t st m n m' = Turns m (turns turned t m.0 m.0.hand) m'

  -- a try saw this word, and left it
  abbrev pub SeenBy : (asks counts : Bool) → Sat E → ℕ → Sat E → Type 0
  SeenBy asks counts m n m' =
      IsLawful n
      × (IsFail asks m.0.hand.task n → Turns m (turns turned Fail m.0 (missing counts m.0.hand n (m.0.steps + 1))) m')
      × ((IsFail asks m.0.hand.task n → ⊥) → Turns m (ticked m.0) m')

  -- the load of a try
  abbrev pub Looked : (asks counts : Bool) → Step (Unit {0}) → Sat E → ℕ → Sat E → Type 0
  Looked asks counts st m n m' = SeenBy asks counts m n m'

  -- a try's exchange that takes
  abbrev pub TookBy : {Call : Type 0} → Obj Call → (asks counts : Bool) → Step (Unit {0}) → Sat E → ℕ → Sat E → Type 0
  TookBy o asks counts st m n m' =
      (n ≡ st.first → (known : List ℕ) × (log : List Entry) × ((k : Plan) → m.0.hand.plan ≡ Some k → Learns o k m.0.hand known log)
      × Turns m (turns turned Take m.0 (took m.0.hand Alone known log)) m')
      × (n ≢ st.first → SeenBy asks counts m n m')

  -- a try's exchange that asks
  abbrev pub AskedBy : (asks counts : Bool) → Step (Unit {0}) → Sat E → ℕ → Sat E → Type 0
  AskedBy asks counts st m n m' = (n ≡ st.first → Turns m (turns turned Ask m.0 m.0.hand) m') × (n ≢ st.first → SeenBy asks counts m n m')

  -- an exchange that ends a hold
  abbrev pub LeftBy : Turn → Step (Unit {0}) → Sat E → ℕ → Sat E → Type 0
  LeftBy t st m n m' = (n ≡ st.first → Turns m (turns turned t m.0 (released m.0.hand st.second)) m') × (n ≢ st.first → IsMine m.0.hand.task n × Turns m (ticked m.0) m')

module _ {E : Type 0} where
  -- a load by a pass that holds
  abbrev pub Mine : Step (Unit {0}) → Sat E → ℕ → Sat E → Type 0
  Mine st m n m' = IsMine m.0.hand.task n × Turns m (ticked m.0) m'
