-- What the words and the views of a spin queue's table state, at each moment and of each step.
use Rattle.std.specs.Prelude.{◌≡◌, ℕ, suc, ◌==◌, ◌⊎◌, ◌<◌, ◌≤◌, MatchBool, List, [], ◌∷◌, ◌++◌, reverse, slice_set, if◌then◌else◌, Option, None, Some}
use Rattle.lock_core.specs.Totals.{total}
use Rattle.lock_core.specs.Views.{named_of}
use Rattle.lock_core.specs.NodeLists.{Has, IsFirst, Precedes, IsOnce, without}
use Rattle.osq_nodes.specs.Words.{code_in, row_of, tail_at, prev_at, locked_at, tail_in, next_in, prev_in, locked_in}
use Rattle.osq_nodes.specs.OsqPlaces.{back_of, IsHeadNode, is_queued, Owes, waits_at, place_in}
use Rattle.osq_nodes.specs.Types.{Hand, Marks, Moment, Place, Out, Cleared, Splicing, Head, Granting}

module _ (prev locked : ℕ → ℕ) (place : ℕ → Place) where
  -- the walk from a code, each time to the node that the last one stands behind, up to the first head node
  abbrev pub IsWalk : ℕ → List ℕ → Type 0
  IsWalk c [] = c ≡ 0
  IsWalk c (x ∷ []) = (c ≡ suc x) × IsHeadNode (place x) (locked x)
  IsWalk c (x ∷ y ∷ r) = (c ≡ suc x) × (¬ IsHeadNode (place x) (locked x)) × IsWalk (back_of (place x) (prev x)) (y ∷ r)

-- the queue: that walk from the tail, read the other way round
pub record IsQueue (tail : ℕ) (prev locked : ℕ → ℕ) (place : ℕ → Place) (queue : List ℕ) : Type 0 where
  pub walk : IsWalk prev locked place tail (reverse queue)
  pub once : IsOnce queue

-- A link that is there is that of neighbours, and nobody owes it. One that is 0 is owed by exactly one task. Whoever owes one, as each task does that has exchanged the tail and not linked yet, owes
-- one that is 0, of neighbours.
pub record AreLinked (next : ℕ → ℕ) (place : ℕ → Place) (queue : List ℕ) : Type 0 where
  pub there : (x y : ℕ) → next x ≡ suc y → Precedes queue x y × ((d : ℕ) → Owes d (place d) x y → ⊥)
  pub owed : (x y : ℕ) → Precedes queue x y → next x ≡ 0 → (d : ℕ) × Owes d (place d) x y × ((e : ℕ) → Owes e (place e) x y → e ≡ d)
  pub owes : (d x y : ℕ) → Owes d (place d) x y → Precedes queue x y × (next x ≡ 0)

-- where each task is, as the passes say: one whose number nobody has is out
abbrev pub seat_place : ℕ → Option ℕ → Place → Place → Place
seat_place t None place others = others
seat_place t (Some u) place others = if u == t then place else others

abbrev pub places : List Hand → List Marks → ℕ → Place
places [] ms t = Out
places (h ∷ hs) [] t = Out
places (h ∷ hs) (m ∷ ms) t = seat_place t h.task (place_in m.numbers) (places hs ms t)

abbrev pub places_at : Moment → ℕ → Place
places_at m = places m.hands m.marks

-- the words of the locks at a moment
abbrev pub row_at : Moment → List ℕ
row_at m = row_of m.words

-- the queue at a moment
abbrev pub IsQueueAt : Moment → List ℕ → Type 0
IsQueueAt m queue = IsQueue (tail_in (row_at m)) (prev_in (row_at m)) (locked_in (row_at m)) (places_at m) queue

-- what is so of a spin queue for so many tasks at a moment
pub record IsSpinQueue (tasks : ℕ) (m : Moment) : Type 0 where
  pub queue : List ℕ
  pub is_queue : IsQueueAt m queue
  -- no other list is the queue
  pub only : (other : List ℕ) → IsQueueAt m other → other ≡ queue
  -- it is empty exactly where the tail is 0
  pub empty : (queue ≡ [] → tail_in (row_at m) ≡ 0) × (tail_in (row_at m) ≡ 0 → queue ≡ [])
  pub inside : (t : ℕ) → Has queue t → t < tasks
  pub linked : AreLinked (next_in (row_at m)) (places_at m) queue
  -- the first found no tail, or was told that it is the head
  pub first : (t : ℕ) → IsFirst queue t → IsHeadNode (places_at m t) (locked_in (row_at m) t)
  -- whoever was told that it is the head stands first, and a task stands in the queue exactly where its place says so
  pub head : (t : ℕ) → places_at m t ≡ Head → IsFirst queue t
  pub stands : (t : ℕ) → MatchBool (is_queued (places_at m t)) (Has queue t) (¬ Has queue t)
  -- no two passes have one task's number
  pub named : (t : ℕ) → total (named_of t) m.hands ≤ 1

-- The three steps by which a task leaves: the exchange of the tail from its code to that of its predecessor, or to 0; its store of the predecessor's code in the `prev` of its successor; the head's
-- store of 1 in the `locked` of its successor.

abbrev pub LeavesByTail : List ℕ → List ℕ → (ℕ → Place) → ℕ → Type 0
LeavesByTail row row' place t = (prev : Option ℕ) × (place t ≡ waits_at prev) × (tail_in row ≡ suc t) × (row' ≡ slice_set row tail_at (code_in prev))

abbrev pub LeavesByPrev : List ℕ → List ℕ → (ℕ → Place) → ℕ → Type 0
LeavesByPrev row row' place t = (p : ℕ) × (n : ℕ) × (place t ≡ Splicing p n) × (row' ≡ slice_set row (prev_at n) (suc p))

abbrev pub LeavesByGrant : List ℕ → List ℕ → (ℕ → Place) → ℕ → Type 0
LeavesByGrant row row' place t = (n : ℕ) × (place t ≡ Granting n) × (row' ≡ slice_set row (locked_at n) 1)

-- nobody but the task owes the links before and behind it, and they are 0
abbrev pub OwnsLinks : (ℕ → ℕ) → (ℕ → Place) → List ℕ → ℕ → Type 0
OwnsLinks next place queue t = (x y : ℕ) → Precedes queue x y → (x ≡ t) ⊎ (y ≡ t) → (next x ≡ 0) × ((d : ℕ) → Owes d (place d) x y → d ≡ t)

-- a tail swap appends its task
pub record Appends (row row' : List ℕ) (place : ℕ → Place) (queue queue' : List ℕ) : Type 0 where
  pub task : ℕ
  pub cleared : place task ≡ Cleared
  pub swap : row' ≡ slice_set row tail_at (suc task)
  pub new : queue' ≡ queue ++ task ∷ []

-- one leaves that nobody else owes a link, and the others stay in order
pub record Removes (row row' : List ℕ) (place : ℕ → Place) (queue queue' : List ℕ) : Type 0 where
  pub task : ℕ
  pub there : Has queue task
  pub free : OwnsLinks (next_in row) place queue task
  pub leaves : LeavesByTail row row' place task ⊎ LeavesByPrev row row' place task ⊎ LeavesByGrant row row' place task
  pub new : queue' ≡ without task queue

-- what a step does to the queue
abbrev pub Changes : List ℕ → List ℕ → (ℕ → Place) → List ℕ → List ℕ → Type 0
Changes row row' place queue queue' = (queue' ≡ queue) ⊎ Appends row row' place queue queue' ⊎ Removes row row' place queue queue'

pub record QueueStep (m m' : Moment) : Type 0 where
  pub queue : List ℕ
  pub queue' : List ℕ
  pub before : IsQueueAt m queue
  pub after : IsQueueAt m' queue'
  pub changes : Changes (row_at m) (row_at m') (places_at m) queue queue'

-- the last of these moments, which stands first, has this queue, and it has come to be from an empty one by such changes
abbrev pub HasBecome : List Moment → List ℕ → Type 0
HasBecome [] queue = ⊥
HasBecome (m ∷ []) queue = IsQueueAt m queue × (queue ≡ [])
HasBecome (m ∷ before ∷ past) queue = IsQueueAt m queue × ((old : List ℕ) × HasBecome (before ∷ past) old × Changes (row_at before) (row_at m) (places_at before) old queue)
