-- A list of waiters, and its words: head and tail, and behind them a line for each task with `next` and `prev`.
use Rattle.std.specs.Prelude.{Option, Some, None, IsTrue, ◌↔◌, ◌≡◌, ℕ, ◌+◌, ◌*◌, ◌%◌, ◌<◌, ◌≤◌, ◌==◌, ◌⊎◌, Bool, true, false, List, [], ◌∷◌, ◌++◌, length, slice_index, slice_set, if◌then◌else◌}
use Rattle.wait_list.specs.Types.{SpinHand, View, Moment, Waiter, Change, Stay, Enter, Leave, ListHand}
use Rattle.lock_core.specs.Records.{bit}
use Rattle.lock_core.specs.Totals.{total}
use Rattle.lock_core.specs.Spins.{holds_in}
use Rattle.lock_core.specs.Pasts.{FoundAt}
use Rattle.word_bits.specs.declared.TheConstants.{MAX_TASKS}
use Rattle.word_bits.specs.Histories.{Plan}
use Rattle.wait_list.specs.declared.words.TheConstants.{LIST_WORDS}
use mathlib.Core.Option.{some}
use lib.ListN.{get_elem?}
use Rattle.lock_core.specs.ViewParts.{Each}

abbrev pub first_code : List Waiter → ℕ
first_code [] = 0
first_code (w ∷ ws) = w.task + 1

-- the code of a waiter's task
abbrev pub waiter_code : Option Waiter → ℕ
waiter_code None = 0
waiter_code (Some w) = w.task + 1

-- who waits first
abbrev pub first_of : List Waiter → Option Waiter
first_of [] = None
first_of (w ∷ ws) = Some w

-- who waits behind a task
abbrev pub next_of : ℕ → List Waiter → Option Waiter
next_of t [] = None
next_of t (w ∷ ws) = if w.task == t then first_of ws else next_of t ws

-- the list without a task
abbrev pub without : ℕ → List Waiter → List Waiter
without t [] = []
without t (w ∷ ws) = if w.task == t then ws else w ∷ without t ws

-- how often the task stands in it
abbrev pub counted : ℕ → List Waiter → ℕ
counted t [] = 0
counted t (w ∷ ws) = bit (w.task == t) + counted t ws

abbrev pub changed : Change → List Waiter → List Waiter
changed Stay l = l
changed (Enter w) l = l ++ w ∷ []
changed (Leave t) l = without t l

abbrev pub AreTasks : List Waiter → Type 0
AreTasks [] = Unit {0}
AreTasks (w ∷ ws) = (w.task < MAX_TASKS) × AreTasks ws

-- tasks, none twice
pub record IsList (l : List Waiter) : Type 0 where
  pub small : AreTasks l
  pub once : (t : ℕ) → counted t l ≤ 1

-- each is one of so many tasks
abbrev pub AreAmong : ℕ → List Waiter → Type 0
AreAmong n l = (t : ℕ) → 0 < counted t l → t < n

-- the place of the `next` of the waiter of this code; that of the head, for 0
abbrev pub next_place : ℕ → ℕ
next_place c = 8 * c

-- the place of its `prev`; that of the tail, for 0
abbrev pub prev_place : ℕ → ℕ
prev_place c = 8 * c + 1

-- the code of the last waiter, or this code where nobody waits
abbrev pub last_code : ℕ → List Waiter → ℕ
last_code c [] = c
last_code c (w ∷ ws) = last_code (w.task + 1) ws

-- The walk: the `next` of this code names the first of the list, or nobody. Its `prev` is twice this code, and 1 more for a writer; the walk goes on from it.
abbrev pub Walks : List ℕ → ℕ → List Waiter → Type 0
Walks words c [] = slice_index words (next_place c) ≡ 0
Walks words c (w ∷ ws) = (slice_index words (next_place c) ≡ w.task + 1) × (slice_index words (prev_place (w.task + 1)) ≡ 2 * c + bit w.writer) × Walks words (w.task + 1) ws

-- The words are those of the list: it is the walk from the head, the tail names its last, and each `next` is a code or 0.
pub record Lists (words : List ℕ) (l : List Waiter) : Type 0 where
  pub walk : Walks words 0 l
  pub tail : slice_index words (prev_place 0) ≡ last_code 0 l
  pub codes : (c : ℕ) → c ≤ MAX_TASKS → slice_index words (next_place c) ≤ MAX_TASKS

-- what concerns the list of a view
abbrev pub Part : Type 0
Part = SpinHand × ListHand

abbrev pub changes_of : Part → ℕ
changes_of p = bit p.1.changes

abbrev pub takes_of : Part → ℕ
takes_of p = holds_in p.0

abbrev pub no_list : ListHand
no_list = record { list = []; words = []; since = 0; changes = false; leaver = 0 }

-- while the words change, the head is that of the list, or 0, or names the waiter that leaves
abbrev pub IsNear : List ℕ → List Waiter → ℕ → Type 0
IsNear words l leaver = (slice_index words 0 ≡ first_code l) ⊎ (slice_index words 0 ≡ 0) ⊎ (slice_index words 0 ≡ leaver)

-- it knows the list since it took the spin lock
abbrev pub Knows : Part → Type 0
Knows p = (holds_in p.0 ≡ 1) × (p.1.since ≡ p.0.entries)

pub record PartOk (words : List ℕ) (l : List Waiter) (p : Part) : Type 0 where
  pub past : p.1.since ≤ p.0.entries
  pub knows : Knows p → (p.1.list ≡ l) × (p.1.words ≡ words)
  pub changes : p.1.changes ≡ true → Knows p × IsNear words l p.1.leaver

pub record ListKept (words : List ℕ) (l : List Waiter) (ps : List Part) : Type 0 where
  pub wide : length words ≡ LIST_WORDS
  pub sound : IsList l
  pub quiet : total changes_of ps ≡ 0 → Lists words l
  pub each : Each (PartOk words l) ps

-- the words that it knows are those of the list that it knows
abbrev pub HasWords : ListHand → Type 0
HasWords b = Lists b.words b.list

-- a change that leaves a list of tasks, none twice
abbrev pub Allowed : Change → List Waiter → Type 0
Allowed Stay l = Unit {0}
Allowed (Enter w) l = (w.task < MAX_TASKS) × (counted w.task l ≡ 0)
Allowed (Leave t) l = 0 < counted t l

-- who makes the change: a pass with the spin lock
abbrev pub HasLock : ℕ → List Part → Type 0
HasLock id ps = (p : Part) × (get_elem? ps id ≡ some p) × (holds_in p.0 ≡ 1)

abbrev pub MadeBy : Change → ℕ → List Part → Type 0
MadeBy Stay id ps = Unit {0}
MadeBy (Enter w) id ps = HasLock id ps
MadeBy (Leave t) id ps = HasLock id ps

-- what a step of the pass of this number does to the list: nothing, or it appends one waiter, or removes one
pub record ListMoves (id : ℕ) (words : List ℕ) (ps : List Part) (words' : List ℕ) (ps' : List Part) : Type 0 where
  pub list : List Waiter
  pub list' : List Waiter
  pub old : ListKept words list ps
  pub new : ListKept words' list' ps'
  pub change : Change
  pub allowed : Allowed change list
  pub made : MadeBy change id ps
  pub is : list' ≡ changed change list

module _ {E : Type 0} where
  abbrev pub list_part : (E → ListHand) → View E → Part
  list_part list v = (v.spin, list v.ext)

  -- what its view knows of the list
  abbrev pub hand_at : (E → ListHand) → View E → ListHand
  hand_at list v = list v.ext

  -- it isn't between the store at which the list changes and the last one
  abbrev pub IsStill : (E → ListHand) → View E → Type 0
  IsStill list v = (list v.ext).changes ≡ false

  -- it knows the list, and the task is in it
  abbrev pub KnowsWaiter : (E → ListHand) → ℕ → View E → Type 0
  KnowsWaiter list t v = Knows (list_part list v) × (0 < counted t (list v.ext).list)

  -- the code is 0, or that of a waiter of the list that it knows
  abbrev pub KnowsCode : (E → ListHand) → ℕ → View E → Type 0
  KnowsCode list code v = (t : ℕ) → code ≡ t + 1 → KnowsWaiter list t v

  -- each is a task of the pass's plan
  abbrev pub ArePlanned : View E → List Waiter → Type 0
  ArePlanned v l = (k : Plan) → v.hand.plan ≡ Some k → AreAmong (length k) l

  -- the host lets it make the change at every list that it may find
  abbrev pub AllowsChange : (E → ListHand) → (Change → View E → List Waiter → Type 0) → Change → View E → Type 0
  AllowsChange list may_change c v = (l : List Waiter) → (Knows (list_part list v) → l ≡ (list v.ext).list) → may_change c v l

  -- the host lets it make the change at the list that it knows
  abbrev pub AllowsKnown : (E → ListHand) → (Change → View E → List Waiter → Type 0) → Change → View E → Type 0
  AllowsKnown list may_change c v = may_change c v (list v.ext).list

  -- the host lets it make the changes that it let it make
  abbrev pub AllowsStill : (Change → View E → List Waiter → Type 0) → View E → View E → Type 0
  AllowsStill may_change v u = (c : Change) (l : List Waiter) → may_change c v l → may_change c u l

  -- it has only made steps
  abbrev pub only_steps : View E → View E → Type 0
  only_steps v u = u ≡ record v { steps = u.steps }

  -- a step on the list
  abbrev pub listed : (Change → View E → ListHand → E) → Change → View E → ListHand → View E
  listed with_list c v b = record v { steps = v.steps + 1; ext = with_list c v b }

  -- a load of the head
  abbrev pub sighted : (View E → ℕ → E) → View E → ℕ → View E
  sighted saw_first v n = record v { steps = v.steps + 1; ext = saw_first v n }

-- whose code the head may still be
abbrev pub LeaverGoes : Change → ℕ → ℕ → Type 0
LeaverGoes Stay old new = (new ≡ old) ⊎ (new ≡ 0)
LeaverGoes (Enter w) old new = new ≡ 0
LeaverGoes (Leave t) old new = new ≡ t + 1

-- What a load under the spin lock tells: it knows the list from then on, and stays by what it knew.
pub record Learnt (p : Part) (b : ListHand) : Type 0 where
  pub knows : Knows (p.0, b)
  pub same : Knows p → b ≡ p.1
  pub changes : b.changes ≡ p.1.changes
  pub leaver : LeaverGoes Stay p.1.leaver b.leaver
  pub wide : length b.words ≡ LIST_WORDS
  pub sound : IsList b.list
  pub lists : b.changes ≡ false → Lists b.words b.list

-- a pass that knows the list may store a word, and knows this then
pub record MayStore (p : Part) (i n : ℕ) (c : Change) (b : ListHand) : Type 0 where
  pub knows : Knows p
  pub since : b.since ≡ p.1.since
  pub list : b.list ≡ changed c p.1.list
  pub words : b.words ≡ slice_set p.1.words i n
  pub leaver : LeaverGoes c p.1.leaver b.leaver
  pub near : b.changes ≡ true → IsNear b.words b.list b.leaver
  pub done : b.changes ≡ false → Lists b.words b.list

-- the task's own words are those of the last of the list once it is appended
abbrev pub IsPrepared : List ℕ → Waiter → Type 0
IsPrepared words w = (slice_index words (next_place (w.task + 1)) ≡ 0) × (slice_index words (prev_place (w.task + 1)) ≡ 2 * slice_index words (prev_place 0) + bit w.writer)

-- of a pass that begins to append, or to remove, by a store of this word
abbrev pub entering : ListHand → Waiter → ℕ → ℕ → ListHand
entering b w at n = record b { list = b.list ++ w ∷ []; words = slice_set b.words at n; changes = true; leaver = 0 }

abbrev pub leaving : ListHand → ℕ → ℕ → ℕ → ListHand
leaving b t at n = record b { list = without t b.list; words = slice_set b.words at n; changes = true; leaver = t + 1 }

-- that goes on, and ends
abbrev pub going_on : ListHand → ℕ → ℕ → ListHand
going_on b at n = record b { words = slice_set b.words at n }

abbrev pub ending : ListHand → ℕ → ℕ → ListHand
ending b at n = record b { words = slice_set b.words at n; changes = false; leaver = 0 }

-- the first of these that the change asks for
abbrev pub begun : Change → ListHand → ℕ → ℕ → ListHand
begun Stay b at n = going_on b at n
begun (Enter w) b at n = entering b w at n
begun (Leave t) b at n = leaving b t at n

module _ {E : Type 0} (list : E → ListHand) (with_list : Change → View E → ListHand → E) where
  -- the waiter is the last
  pub record Appends (v : View E) (w : Waiter) (u : View E) : Type 0 where
    pub was : List Waiter
    pub hand : ListHand
    pub before : Knows (list_part list v) → was ≡ (list v.ext).list
    pub sound : IsList was
    pub few : ArePlanned v was
    pub fresh : counted w.task was ≡ 0
    pub now : hand.list ≡ was ++ w ∷ []
    pub since : hand.since ≡ v.spin.entries
    pub still : hand.changes ≡ false
    pub wide : length hand.words ≡ LIST_WORDS
    pub is : Lists hand.words hand.list
    pub view : u ≡ record v { steps = u.steps; ext = with_list (Enter w) v hand }

module _ {E : Type 0} where
  -- what the host allows at this list is lawful
  abbrev pub IsLawful : (Change → View E → List Waiter → Type 0) → View E → List Waiter → Type 0
  IsLawful may_change v l = (c : Change) → may_change c v l → Allowed c l

  -- it has learnt what this word is, and that each waiter is a task of the plan
  abbrev pub LearntWord : (E → ListHand) → (Change → View E → ListHand → E) → (Change → View E → List Waiter → Type 0) → View E → ℕ → ℕ → View E → Type 0
  LearntWord list with_list may_change v at n u = (b : ListHand) × Learnt (list_part list v) b × (n ≡ slice_index b.words at) × (u ≡ listed with_list Stay v b) × IsLawful may_change v b.list
      × ArePlanned v b.list

-- whom the `next` of this code names, and that waiter's kind
abbrev pub IsBehind : List ℕ → ℕ → Option Waiter → Type 0
IsBehind words c None = slice_index words (next_place c) ≡ 0
IsBehind words c (Some w) = (slice_index words (next_place c) ≡ w.task + 1) × (slice_index words (prev_place (w.task + 1)) % 2 ≡ bit w.writer)

-- what the `prev` of the waiter of this code must be once this one stands before it; the tail, for 0
abbrev pub prev_with : List ℕ → ℕ → ℕ → ℕ
prev_with words next prev = if next == 0 then prev else 2 * prev + slice_index words (prev_place next) % 2

module _ {E : Type 0} (list : E → ListHand) (with_list : Change → View E → ListHand → E) where
  -- it knows the list, and who stands behind the waiter of the code
  pub record FindsBehind (v : View E) (code : ℕ) (next : Option Waiter) (u : View E) : Type 0 where
    pub hand : ListHand
    pub learnt : Learnt (list_part list v) hand
    pub few : ArePlanned v hand.list
    pub is : IsBehind hand.words code next
    pub view : u ≡ record v { steps = u.steps; ext = with_list Stay v hand }

module _ {E : Type 0} (list : E → ListHand) (with_list : Change → View E → ListHand → E) where
  -- the list is without the task
  pub record Removes (v : View E) (t : ℕ) (u : View E) : Type 0 where
    pub was : List Waiter
    pub hand : ListHand
    pub before : Knows (list_part list v) → was ≡ (list v.ext).list
    pub sound : IsList was
    pub few : ArePlanned v was
    pub there : 0 < counted t was
    pub now : hand.list ≡ without t was
    pub since : hand.since ≡ v.spin.entries
    pub still : hand.changes ≡ false
    pub gone : hand.leaver ≡ 0
    pub is : Lists hand.words hand.list
    pub view : u ≡ record v { steps = u.steps; ext = with_list (Leave t) v hand }

  -- it knows the list, and who is first in it
  pub record FindsFirst (v : View E) (first : Option Waiter) (u : View E) : Type 0 where
    pub hand : ListHand
    pub learnt : Learnt (list_part list v) hand
    pub few : ArePlanned v hand.list
    pub is : first ≡ first_of hand.list
    pub view : u ≡ record v { steps = u.steps; ext = with_list Stay v hand }

  -- it knows the list, and who stands in it behind the task
  pub record FindsNext (v : View E) (t : ℕ) (next : Option Waiter) (u : View E) : Type 0 where
    pub hand : ListHand
    pub learnt : Learnt (list_part list v) hand
    pub few : ArePlanned v hand.list
    pub is : 0 < counted t hand.list → next ≡ next_of t hand.list
    pub view : u ≡ record v { steps = u.steps; ext = with_list Stay v hand }

module _ {E : Type 0} (saw_first : View E → ℕ → E) where
  -- it saw the head, and says whether that was its task's code
  pub record TellsFirst (place : ℕ) (v : View E) (task : Option ℕ) (first : Bool) (u : View E) (past : List Moment) : Type 0 where
    pub word : ℕ
    pub view : u ≡ sighted saw_first v word
    pub found : FoundAt place word past
    pub tells : (t : ℕ) → task ≡ Some t → IsTrue first ↔ (word ≡ t + 1)
