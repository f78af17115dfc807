-- Words that a lock keeps, and what its passes may do with them.
use Rattle.std.specs.Prelude.{◌≡◌, ◌≢◌, ◌==◌, ◌⊎◌, ℕ, Bool, true, false, List, [], ◌∷◌, length, replicate, Option, Some, None, IsSome, if◌then◌else◌}
use Rattle.kept_words.specs.Types.{CallWords, Entry, Good, Hand, Held, No, Shared, Alone, Moment}
use Rattle.word_bits.specs.LockWords.{Unavailable}
use Rattle.word_bits.specs.Histories.{Plan}
use Rattle.word_bits.specs.Objects.{Obj}
use Rattle.lock_core.specs.Shown.{Shown}
use Rattle.lock_core.specs.SitePasses.{IsChange, Numbered}
use Rattle.lock_core.specs.Views.{next_entry}

-- the one call that a plan has: it opens the words, which are its caller's first ones from then on
abbrev pub opening : CallWords
opening = record { a = 0; b = 0 }

abbrev pub opens : CallWords → Option (Unit {0})
opens w = if w.b == 0 then Some tt else None

-- so many words, of which this is so once they are open, while nobody writes
abbrev pub kept : ℕ → (List ℕ → Type 0) → Obj (Unit {0})
kept size keeps = record {
  State = Bool;
  IsState = λ _. Unit {0};
  empty = false;
  IsCall = λ _. Unit {0};
  call_of = opens;
  reads = λ _. false;
  meaning = λ _ _. (true, Good);
  stores = λ _. [];
  Represents = λ begun ws. (length ws ≡ size) × (begun ≡ true → keeps ws);
}

-- the first of the tasks opens; there are so many others
abbrev pub opening_plan : ℕ → Plan
opening_plan others = (opening ∷ []) ∷ replicate others []

abbrev pub opening_entry : Entry
opening_entry = record { task = 0; call = 0 }

-- how a task holds the words, and the words as it knows them: while it holds, they are those that the lock guards
pub record Hold : Type 0 where
  pub how : Held
  pub words : List ℕ

abbrev pub hold_of : Hand → Hold
hold_of h = record { how = h.held; words = h.known }

-- words under a lock, as one task has them: its hold, and the moments of the lock's table up to its last step, the last one first
pub record TaskView : Type 0 where
  pub hold : Hold
  pub past : List Moment

abbrev pub task_view : Shown → TaskView
task_view v = record { hold = hold_of v.hand; past = v.past }

-- it holds them alone, and this is so of them
abbrev pub HoldsAlone : (List ℕ → Type 0) → Hold → Type 0
HoldsAlone P h = (h.how ≡ Alone) × P h.words

-- it holds them, alone or beside others, and this is so of them
abbrev pub Holds : (List ℕ → Type 0) → Hold → Type 0
Holds P h = (h.how ≢ No) × P h.words

-- it holds them beside others, and this is so of them
abbrev pub HoldsShared : (List ℕ → Type 0) → Hold → Type 0
HoldsShared P h = (h.how ≡ Shared) × P h.words

module _ {L P : Type 0} (Sits : L → P → Type 0) (calls_on : L → Plan) (view : P → Shown) where
  -- the pass is one of the lock's, whose tasks have no other call than the opening, which the pass has seen
  pub record IsOurs (lock : L) (pass : P) : Type 0 where
    pub sits : Sits lock pass
    pub others : ℕ
    pub planned : calls_on lock ≡ opening_plan others
    pub begun : (view pass).hand.seen ≡ opening_entry ∷ []

  -- it has a number too, has neither sent nor consumed a signal, and knows so many words while it holds
  pub record IsTask (size : ℕ) (lock : L) (pass : P) : Type 0 where
    pub own : IsOurs lock pass
    pub numbered : IsSome (view pass).hand.task
    pub wide : (view pass).hand.held ≢ No → length (view pass).hand.known ≡ size
    pub sent : (view pass).hand.sent ≡ None
    pub consumed : (view pass).hand.consumed ≡ 0

-- it has written words, and all else that a call of its task needs is as it was
pub record OnlyWrites (h g : Hand) : Type 0 where
  pub task : g.task ≡ h.task
  pub held : g.held ≡ h.held
  pub done : g.done ≡ h.done
  pub sent : g.sent ≡ h.sent
  pub consumed : g.consumed ≡ h.consumed

-- What the opening asks of an object and of a plan. These words are as many as those that represent a state. The first task's call may be recorded once they stand there. Who takes that task's number
-- is to make the call, or has seen it.
pub record Opens {Call : Type 0} (o : Obj Call) (unavailable : Unavailable) (k : Plan) (words : List ℕ) : Type 0 where
  pub wide : (s : o.State) (ws : List ℕ) → o.Represents s ws → length ws ≡ length words
  pub may : (h : Hand) → h.task ≡ Some 0 → h.done ≡ 0 → h.known ≡ words → IsChange o k h (next_entry h) Good
  pub first : (h g : Hand) → Numbered o unavailable k h 0 g → h.seen ≡ [] → (g.done ≡ 0) ⊎ (g.seen ≡ opening_entry ∷ [])
