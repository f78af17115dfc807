-- The count's own facts, over how each pass holds and which bias it has added.
use Rattle.std.specs.Prelude.{◌≡◌, ◌≢◌, ℕ, ◌+◌, ◌-◌, ◌/◌, ◌%◌, ◌<◌, ◌⊎◌, List, None}
use Rattle.rwsem_count.specs.Types.{View, Hand, Held, No, Shared, Alone, Bias, Clear, Transit, Reserve}
use Rattle.lock_core.specs.Views.{alone_weight}
use Rattle.lock_core.specs.Sites.{HandGoes}
use Rattle.lock_core.specs.Totals.{total}

-- what the count has of a pass
pub record CountPart : Type 0 where
  pub held : Held
  pub bias : Bias

-- weights of a pass, which are added up over all of them

abbrev pub shared_weight : Held → ℕ
shared_weight No = 0
shared_weight Shared = 1
shared_weight Alone = 0

-- a bias that was added when there was no writer: none comes until it is taken back
abbrev pub early_weight : Bias → ℕ
early_weight Clear = 0
early_weight (Transit word) = 1 - word % 2
early_weight (Reserve word) = 1 - word % 2

-- one that was added under a writer
abbrev pub late_weight : Bias → ℕ
late_weight Clear = 0
late_weight (Transit word) = word % 2
late_weight (Reserve word) = word % 2

abbrev pub shared_in : CountPart → ℕ
shared_in p = shared_weight p.held

abbrev pub alone_in : CountPart → ℕ
alone_in p = alone_weight p.held

abbrev pub early_in : CountPart → ℕ
early_in p = early_weight p.bias

abbrev pub late_in : CountPart → ℕ
late_in p = late_weight p.bias

-- The writer bit is set exactly where a pass holds alone. The reader field counts the passes that hold shared, the biases, and `more` readers of which other words and views tell. Under a writer there
-- is neither a reader nor a bias that was added before it.
pub record CountKept (word more : ℕ) (ps : List CountPart) : Type 0 where
  pub low : word % 256 < 8
  pub writer : word % 2 ≡ total alone_in ps
  pub field : word / 256 ≡ more + total shared_in ps + (total early_in ps + total late_in ps)
  pub apart : 0 < word % 2 → more + total shared_in ps + total early_in ps ≡ 0

-- a step leaves the bias of its pass, ends it, or adds one, which keeps the count that the step found
abbrev pub BiasGoes : ℕ → Bias → Bias → Type 0
BiasGoes n b c = (c ≡ b) ⊎ (c ≡ Clear) ⊎ ((b ≡ Clear) × ((c ≡ Transit n) ⊎ (c ≡ Reserve n)))

-- Which steps of a pass may change the count so. WAITERS and HANDOFF stay. A writer comes only where nobody is counted and HANDOFF is clear. A reader comes where it is clear, by a bias whose addition
-- saw it clear, or by a downgrade. A bias keeps the count that its addition found.
pub record CountMove (n m : ℕ) (v u : CountPart) : Type 0 where
  pub flags : m / 2 % 128 ≡ n / 2 % 128
  pub writer : n % 2 ≡ 0 → m % 2 ≡ 1 → n / 4 % 2 ≡ 0
  pub lone : n % 2 ≡ 0 → m % 2 ≡ 1 → n / 256 ≡ 0
  pub reader : u.held ≡ Shared → (v.held ≡ Shared) ⊎ (n / 4 % 2 ≡ 0) ⊎ ((word : ℕ) × (v.bias ≡ Transit word) × (word / 4 % 2 ≡ 0)) ⊎ (v.held ≡ Alone)
  pub bias : BiasGoes n v.bias u.bias

-- What a step that leaves this count makes of a hand. The pass has a number and keeps it, no count of it falls, and where it ends or downgrades a hold it keeps the word that it left.
pub record HandStep (h g : Hand) (word : ℕ) : Type 0 where
  pub numbered : h.task ≢ None
  pub task : g.task ≡ h.task
  pub goes : HandGoes h g
  pub left : h.held ≢ No → g.held ≢ h.held → g.freed ≡ word

abbrev pub part : Hand → Bias → CountPart
part h b = record { held = h.held; bias = b }

module _ {E : Type 0} (bias : E → Bias) where
  abbrev pub count_part : View E → CountPart
  count_part v = part v.hand (bias v.ext)

module _ {E : Type 0} (counted : View E → Hand → Bias → E) where
  -- a step that gives a pass this hand and this bias
  abbrev pub based : View E → Hand → Bias → View E
  based v h b = record v { hand = h; steps = v.steps + 1; ext = counted v h b }
