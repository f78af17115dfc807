-- What a step tells its pass, of a table with a sequence word.
use Rattle.std.specs.Prelude.{◌≡◌, ◌≢◌, ◌≤◌, ◌⊎◌, ℕ, ◌+◌, ◌-◌, ◌%◌, true, false, List, length, slice_index, Some}
use Rattle.atomic_table.specs.Table.{Step}
use Rattle.word_bits.specs.Objects.{Obj}
use Rattle.word_bits.specs.Histories.{Plan}
use Rattle.lock_core.specs.declared.layout.TheConstants.{LOCK_WORDS}
use Rattle.lock_core.specs.Holding.{Learns, released}
use Rattle.lock_core.specs.Plans.{calls_in}
use Rattle.lock_core.specs.SitePlays.{Sat, Turns}
use Rattle.lock_core.specs.Views.{handed, ticked, took}
use Rattle.seq_fault.specs.SeqRuled.{V}
use Rattle.seq_fault.specs.Types.{Entry, Hand, Alone, Glance, Watch, Off, On}

-- a step after which the pass knows this beyond
abbrev pub turned : V → Hand → Watch → V
turned v h e = record v { hand = h; steps = v.steps + 1; ext = e }

abbrev pub glance : ℕ → List ℕ → List Entry → Glance
glance word known log = record { word = word; stale = false; known = known; log = log }

-- a load came when the sequence word was another
abbrev pub staled : Glance → Glance
staled g = record g { stale = true }

-- it has seen the log of that moment
abbrev pub saw_log : Hand → Glance → Hand
saw_log h g = record h { seen = g.log }

-- a load that changes nothing
abbrev pub Looked : Step (Unit {0}) → Sat Watch → ℕ → Sat Watch → Type 0
Looked st m n m' = Turns m (ticked m.0) m'

-- a compare-exchange of an even word for the next odd one
abbrev pub Entered : {Call : Type 0} → Obj Call → Step (Unit {0}) → Sat Watch → ℕ → Sat Watch → Type 0
Entered o st m n m' =
    (n ≡ st.first → (known : List ℕ) × (log : List Entry) × ((k : Plan) → m.0.hand.plan ≡ Some k → Learns o k m.0.hand known log) × Turns m (handed m.0 (took m.0.hand Alone known log)) m')
    × (n ≢ st.first → Turns m (ticked m.0) m')

-- an addition of 1 by the pass that holds
abbrev pub Left : Step (Unit {0}) → Sat Watch → ℕ → Sat Watch → Type 0
Left st m n m' = Turns m (handed m.0 (released m.0.hand 0)) m'

-- a load of the sequence word, from which on the pass watches where it is even
abbrev pub Watched : {Call : Type 0} → Obj Call → Step (Unit {0}) → Sat Watch → ℕ → Sat Watch → Type 0
Watched o st m n m' =
    (n % 2 ≡ 0 → (known : List ℕ) × (log : List Entry) × ((k : Plan) → m.0.hand.plan ≡ Some k → Learns o k m.0.hand known log) × Turns m (turned m.0 m.0.hand (On (glance n known log))) m')
    × (n % 2 ≢ 0 → Turns m (ticked m.0) m')

-- the sequence word was still the same, and so this was so of what the load found, or it was another
abbrev pub Since : (Glance → Type 0) → Sat Watch → Sat Watch → Type 0
Since so m m' = (g : Glance) → m.0.ext ≡ On g → (so g × Turns m (ticked m.0) m') ⊎ Turns m (turned m.0 m.0.hand (On (staled g))) m'

-- a load of a guarded word
abbrev pub Peeked : Step (Unit {0}) → Sat Watch → ℕ → Sat Watch → Type 0
Peeked st m n m' = Since (λ g. n ≡ slice_index g.known (st.word - LOCK_WORDS)) m m'

-- a load of the log's length
abbrev pub Measured : Step (Unit {0}) → Sat Watch → ℕ → Sat Watch → Type 0
Measured st m n m' = ((k : Plan) → m.0.hand.plan ≡ Some k → n ≤ calls_in k) × Since (λ g. n ≡ length g.log) m m'

-- the second load of the sequence word
abbrev pub Confirmed : Step (Unit {0}) → Sat Watch → ℕ → Sat Watch → Type 0
Confirmed st m n m' = (g : Glance) → m.0.ext ≡ On g → (n ≡ g.word → (g.stale ≡ false) × ((k : Plan) → m.0.hand.plan ≡ Some k → length g.log ≤ calls_in k)
    × Turns m (turned m.0 (saw_log m.0.hand g) Off) m') × (n ≢ g.word → Turns m (turned m.0 m.0.hand Off) m')

-- what a load of a guarded word at this place told a pass that watched from this moment on
abbrev pub IsTold : (n at : ℕ) → Glance → V → V → Type 0
IsTold n at g v u = ((n ≡ slice_index g.known at) × (u ≡ ticked v)) ⊎ (u ≡ turned v v.hand (On (staled g)))
