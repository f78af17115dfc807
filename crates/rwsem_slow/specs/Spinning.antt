-- What a writer tries that stands in no list, and what its tries leave of its pass.
use Rattle.std.specs.Prelude.{◌≡◌, ◌≢◌, ℕ, ◌+◌, ◌/◌, ◌%◌, ◌^◌, ◌≤◌, ◌⊎◌, false}
use Rattle.atomic_table.specs.Table.{Step}
use Rattle.word_bits.specs.LockWords.{IsLawfulCount}
use Rattle.word_bits.specs.Objects.{Obj}
use Rattle.lock_core.specs.Holding.{missed}
use Rattle.lock_core.specs.Kinds.{semaphore}
use Rattle.lock_core.specs.Locking.{Sees}
use Rattle.lock_core.specs.SitePlays.{Sat, Turns}
use Rattle.lock_core.specs.Shown.{Shown}
use Rattle.lock_core.specs.Views.{handed, ticked}
use Rattle.rwsem_count.specs.CountPlays.{Gets}
use Rattle.rwsem_count.specs.CountTries.{MissesCount, at_step}
use Rattle.rwsem_wake.specs.RwSemViews.{V, count_at}
use Rattle.rwsem_slow.specs.RwSems.{biased}
use Rattle.rwsem_slow.specs.Types.{Alone, RwSemHand}

-- nobody holds, and no handoff is asked for: a writer may take this count without a place in the list
abbrev pub IsUnlocked : ℕ → Type 0
IsUnlocked word = (word % 2 ≡ 0) × (word % 2 ^ 63 / 256 ≡ 0) × (word / 4 % 2 ≡ 0)

-- a try saw this word, and left it
abbrev pub SeenUnqueued : Sat RwSemHand → ℕ → Sat RwSemHand → Type 0
SeenUnqueued m n m' = IsLawfulCount n × (IsUnlocked n → Turns m (ticked m.0) m') × ((IsUnlocked n → ⊥) → Turns m (handed m.0 (missed m.0.hand n (m.0.steps + 1))) m')

-- the load of such a try
abbrev pub LookedUnqueued : Step (Unit {0}) → Sat RwSemHand → ℕ → Sat RwSemHand → Type 0
LookedUnqueued st m n m' = SeenUnqueued m n m'

-- its exchange
abbrev pub TakenUnqueued : {Call : Type 0} → Obj Call → Step (Unit {0}) → Sat RwSemHand → ℕ → Sat RwSemHand → Type 0
TakenUnqueued o st m n m' = (n ≡ st.first → Gets biased o Alone m m') × (n ≢ st.first → SeenUnqueued m n m')

-- a try saw this word, at which it failed or not
pub record SawUnqueued (v : V) (word : ℕ) (u : V) : Type 0 where
  pub step : ℕ
  pub later : v.steps ≤ step
  pub lawful : IsLawfulCount word
  pub on : IsUnlocked word → u ≡ ticked (at_step v step)
  pub fails : (IsUnlocked word → ⊥) → MissesCount (at_step v step) word u

-- how it stands in line, beside its misses: it has neither taken the wait lock nor appended itself, has set no wake word, and has not fallen asleep
pub record StandsSame (v u : V) : Type 0 where
  pub spin : u.spin ≡ v.spin
  pub entries : u.spin.entries ≡ v.spin.entries
  pub fronts : u.fronts ≡ v.fronts
  pub appends : u.ext.appends ≡ v.ext.appends
  pub wakes : u.ext.wake.wakes ≡ v.ext.wake.wakes
  pub dozes : u.ext.wake.dozes ≡ v.ext.wake.dozes

-- a step of it, which is the last that the pass keeps, saw a count that a writer can't have
abbrev pub SeesShut : Shown → Shown → Type 0
SeesShut v u = (word : ℕ) × Sees semaphore false count_at word v u

-- so it did, or it tried nothing: what the pass keeps is as it was
abbrev pub SawIfTried : Shown → Shown → Type 0
SawIfTried v u = (u.hand.saw ≡ v.hand.saw) ⊎ SeesShut v u
