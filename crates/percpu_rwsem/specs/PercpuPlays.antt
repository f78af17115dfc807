-- What a step on the words of a per-CPU semaphore tells its pass.
use Rattle.std.specs.Prelude.{◌≡◌, ◌≢◌, ℕ, ◌+◌, ◌<◌, List, length, Option, Some}
use Rattle.atomic_table.specs.Table.{Step}
use Rattle.word_bits.specs.Objects.{Obj}
use Rattle.word_bits.specs.Histories.{Plan}
use Rattle.lock_core.specs.Holding.{Learns, released}
use Rattle.lock_core.specs.SitePlays.{Sat, Turns}
use Rattle.lock_core.specs.Views.{ticked, took}
use Rattle.percpu_rwsem.specs.PercpuRuled.{V}
use Rattle.percpu_rwsem.specs.Types.{Entry, Hand, Held, No, Shared, Alone, Phase, Idle, Back, Reads, Blocks}

-- a step on a word of the semaphore
abbrev pub phased : V → Hand → Phase → V
phased v h e = record v { hand = h; steps = v.steps + 1; ext = e }

-- the word is the code of a task of the plan, other than this one
abbrev pub NamesOther : Plan → Option ℕ → ℕ → Type 0
NamesOther k task word = (u : ℕ) × (word ≡ u + 1) × (u < length k) × (task ≢ Some u)

-- so it is for the task that the pass has the number of
abbrev pub TellsOther : Sat Phase → ℕ → Type 0
TellsOther m word = (k : Plan) → m.0.hand.plan ≡ Some k → NamesOther k m.0.hand.task word

-- the word is the code of a task of the plan
abbrev pub NamesTask : Plan → ℕ → Type 0
NamesTask k word = (u : ℕ) × (word ≡ u + 1) × (u < length k)

abbrev pub TellsTask : Sat Phase → ℕ → Type 0
TellsTask m word = (k : Plan) → m.0.hand.plan ≡ Some k → NamesTask k word

-- it has gone on to this phase, and its hand is as it was
abbrev pub Goes : Phase → Step (Unit {0}) → Sat Phase → ℕ → Sat Phase → Type 0
Goes e st m n m' = Turns m (phased m.0 m.0.hand e) m'

-- it holds so, and has learnt what the semaphore guards
abbrev pub Gets : {Call : Type 0} → Obj Call → Held → Phase → Sat Phase → Sat Phase → Type 0
Gets o held e m m' = (known : List ℕ) × (log : List Entry) × ((k : Plan) → m.0.hand.plan ≡ Some k → Learns o k m.0.hand known log) × Turns m (phased m.0 (took m.0.hand held known log) e) m'

-- a load of the block word after the addition
abbrev pub Looked : {Call : Type 0} → Obj Call → Step (Unit {0}) → Sat Phase → ℕ → Sat Phase → Type 0
Looked o st m n m' = (n ≡ 0 → Gets o Shared Reads m m') × (n ≢ 0 → TellsOther m n × Turns m (phased m.0 m.0.hand Back) m')

-- a subtraction that ends a shared hold; it finds the count at 1
abbrev pub Ended : Step (Unit {0}) → Sat Phase → ℕ → Sat Phase → Type 0
Ended st m n m' = (n ≡ 1) × Turns m (phased m.0 (released m.0.hand 0) Idle) m'

-- a load of the block word that changes nothing
abbrev pub Seen : Step (Unit {0}) → Sat Phase → ℕ → Sat Phase → Type 0
Seen st m n m' = (n ≢ 0 → TellsTask m n) × Turns m (ticked m.0) m'

-- the exchange of the block word from 0 to the own code
abbrev pub Blocked : Step (Unit {0}) → Sat Phase → ℕ → Sat Phase → Type 0
Blocked st m n m' = (n ≡ 0 → Turns m (phased m.0 m.0.hand (Blocks 0)) m') × (n ≢ 0 → TellsOther m n × Turns m (ticked m.0) m')

-- The load of the next count by a pass that blocks and has seen t counts zero. It goes on where it finds 0, and holds alone after the last. Another task's count it is where it finds 1.
abbrev pub Drained : {Call : Type 0} → Obj Call → Step (Unit {0}) → Sat Phase → ℕ → Sat Phase → Type 0
Drained o st m n m' =
    (n ≡ 0 → (t : ℕ) → m.0.ext ≡ Blocks t → (k : Plan) → m.0.hand.plan ≡ Some k → (t + 1 ≢ length k → Turns m (phased m.0 m.0.hand (Blocks (t + 1))) m')
    × (t + 1 ≡ length k → Gets o Alone (Blocks (t + 1)) m m'))
    × (n ≢ 0 → (n ≡ 1) × ((t : ℕ) → m.0.ext ≡ Blocks t → m.0.hand.task ≢ Some t) × Turns m (ticked m.0) m')

-- who held alone holds nothing now
abbrev pub unheld_by : Hand → Held → Hand
unheld_by h No = h
unheld_by h Shared = h
unheld_by h Alone = released h 0

abbrev pub unheld : Hand → Hand
unheld h = unheld_by h h.held

-- a store of 0 in the block word by the pass that blocks
abbrev pub Unblocked : Step (Unit {0}) → Sat Phase → ℕ → Sat Phase → Type 0
Unblocked st m n m' = Turns m (phased m.0 (unheld m.0.hand) Idle) m'

-- it holds in this way, and has learnt what the semaphore guards
abbrev pub TakesPhase : {Call : Type 0} → Obj Call → Plan → Held → Phase → V → V → Type 0
TakesPhase o k held e v u = (known : List ℕ) × (log : List Entry) × Learns o k v.hand known log × (u ≡ phased v (took v.hand held known log) e)
