-- The rule of a spin queue by itself: its words by task, and where each task is. It implies what is stated of the queue, and each step keeps it.
use Rattle.std.specs.Prelude.{◌≡◌, ◌≢◌, ℕ, suc, ◌<◌, ◌==◌, if◌then◌else◌, List}
use Rattle.lock_core.specs.NodeLists.{Has, IsFirst, Precedes, IsOnce, last_from}
use Rattle.osq_nodes.specs.Words.{tail_in, next_in, prev_in, locked_in}
use Rattle.osq_nodes.specs.OsqPlaces.{Owes}
use Rattle.osq_nodes.specs.Types.{Place, Out, Cleared, Swapped, Linking, Waiting, Unlinked, Splicing, Relinking, Head, Granting}

-- of a task that stands directly behind x: it stands there by what it knows or by its `prev`, and isn't granted
abbrev pub IsBehind : ℕ → Place → ℕ → ℕ → Type 0
IsBehind x Out prev locked = ⊥
IsBehind x Cleared prev locked = ⊥
IsBehind x (Swapped p) prev locked = (p ≡ x) × (locked ≡ 0)
IsBehind x (Linking p) prev locked = (prev ≡ suc x) × (locked ≡ 0)
IsBehind x Waiting prev locked = (prev ≡ suc x) × (locked ≡ 0)
IsBehind x (Unlinked p) prev locked = (prev ≡ suc x) × (locked ≡ 0)
IsBehind x (Splicing p n) prev locked = (prev ≡ suc x) × (locked ≡ 0)
IsBehind x (Relinking p n) prev locked = ⊥
IsBehind x Head prev locked = ⊥
IsBehind x (Granting n) prev locked = ⊥

-- of the first: it is the head, or granted
abbrev pub IsHead : Place → ℕ → Type 0
IsHead Out locked = ⊥
IsHead Cleared locked = ⊥
IsHead (Swapped p) locked = ⊥
IsHead (Linking p) locked = ⊥
IsHead Waiting locked = locked ≡ 1
IsHead (Unlinked p) locked = ⊥
IsHead (Splicing p n) locked = ⊥
IsHead (Relinking p n) locked = ⊥
IsHead Head locked = Unit {0}
IsHead (Granting n) locked = Unit {0}

-- the word is the code of a task
abbrev pub IsCode : ℕ → ℕ → Type 0
IsCode size word = (p : ℕ) × (word ≡ suc p) × (p < size)

module _ (size : ℕ) (q : List ℕ) (debtor : ℕ → ℕ) where
  -- the link from x to y is there, and d owes it
  abbrev pub Owed : ℕ → ℕ → ℕ → Type 0
  Owed x y d = Precedes q x y × (debtor x ≡ suc d)

  -- what is so of a task at its place
  abbrev pub IsAt : ℕ → Place → ℕ → ℕ → Type 0
  IsAt t Out prev locked = ¬ Has q t
  IsAt t Cleared prev locked = (¬ Has q t) × (locked ≡ 0)
  IsAt t (Swapped p) prev locked = Owed p t t
  IsAt t (Linking p) prev locked = Owed p t t
  IsAt t Waiting prev locked = Has q t × IsCode size prev
  IsAt t (Unlinked p) prev locked = Owed p t t
  IsAt t (Splicing p n) prev locked = Owed p t t × Owed t n t
  IsAt t (Relinking p n) prev locked = (¬ Has q t) × Owed p n t
  IsAt t Head prev locked = IsFirst q t
  IsAt t (Granting n) prev locked = IsFirst q t × Owed t n t

-- f' is f but for its value at i
abbrev pub Sets : {A : Type 0} → (ℕ → A) → (ℕ → A) → ℕ → A → Type 0
Sets f f' i v = (f' i ≡ v) × ((u : ℕ) → u ≢ i → f' u ≡ f u)

-- f with another value at i
abbrev pub with_at : {A : Type 0} → (ℕ → A) → ℕ → A → ℕ → A
with_at f i v u = if u == i then v else f u

pub record QueueKept (size tail : ℕ) (next prev locked : ℕ → ℕ) (place : ℕ → Place) (queue : List ℕ) : Type 0 where
  -- the code of the one task that owes the link behind a task, 0 where it is there
  pub debtor : ℕ → ℕ
  pub once : IsOnce queue
  pub ends : tail ≡ last_from 0 queue
  pub inside : (t : ℕ) → Has queue t → t < size
  pub links : (x y : ℕ) → next x ≡ suc y → Precedes queue x y × (debtor x ≡ 0)
  pub owed : (x y : ℕ) → Precedes queue x y → next x ≡ 0 → (d : ℕ) × (debtor x ≡ suc d) × Owes d (place d) x y
  pub behind : (x y : ℕ) → Precedes queue x y → IsBehind x (place y) (prev y) (locked y)
  pub head : (t : ℕ) → IsFirst queue t → IsHead (place t) (locked t)
  pub each : (t : ℕ) → IsAt size queue debtor t (place t) (prev t) (locked t)

-- the same of the words of a table's locks
abbrev pub RowKept : ℕ → List ℕ → (ℕ → Place) → List ℕ → Type 0
RowKept size row place queue = QueueKept size (tail_in row) (next_in row) (prev_in row) (locked_in row) place queue
