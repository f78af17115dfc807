-- A pass between two tasks.
use Rattle.std.specs.Prelude.{◌≡◌, ℕ, ◌<◌, List, [], All, length, slice_index_or, None}
use Rattle.word_bits.specs.declared.rec.Rec.{Rec}
use Rattle.word_bits.specs.LockWords.{Unavailable}
use Rattle.word_bits.specs.Objects.{Obj}
use Rattle.word_bits.specs.Histories.{Plan}
use Rattle.lock_core.specs.Records.{row}
use Rattle.lock_core.specs.Shown.{Shown}
use Rattle.guarded.specs.Gathering.{HasDone}

-- it has no number, and has seen nothing
pub record IsFresh (v : Shown) : Type 0 where
  pub numberless : v.hand.task ≡ None
  pub unseen : v.hand.seen ≡ []

-- each of the passes, which have a CPU each, is the lock's and fresh
abbrev pub AreFresh : {P C : Type 0} → (sits : P → Type 0) → (view : P → Shown) → List (P × C) → Type 0
AreFresh {P} {C} sits view members = All (λ m. sits m.0 × IsFresh (view m.0)) members

-- it has no number any more, and knows the records of all calls of the task
pub record HasDoneItsCalls {Call : Type 0} (o : Obj Call) (unavailable : Unavailable) (k : Plan) (t : ℕ) (v : Shown) : Type 0 where
  pub numberless : v.hand.task ≡ None
  pub made : List Rec
  pub all : length made ≡ length (row k t)
  pub done : HasDone o unavailable k v.hand t made

-- the pass is the lock's and has done all calls of the task
pub record PassHasDone {Call P : Type 0} (o : Obj Call) (unavailable : Unavailable) (k : Plan) (sits : P → Type 0) (view : P → Shown) (t : ℕ) (pass : P) : Type 0 where
  pub own : sits pass
  pub calls : HasDoneItsCalls o unavailable k t (view pass)

-- the passes, which have a CPU each, are ready, by what that means of a pass
abbrev pub AreReady : {P C : Type 0} → (ready : P → Type 0) → List (P × C) → Type 0
AreReady ready members = All (λ m. ready m.0) members

-- so many passes are there, and each has done the calls of the task of its place, by what that means of a pass
abbrev pub EachHasDone : {P C : Type 0} → (has_done : ℕ → P → Type 0) → (many : ℕ) → List (P × C) → Type 0
EachHasDone {P} {C} has_done many members = (length members ≡ many) × ((t : ℕ) (m : P × C) → t < many → has_done t (slice_index_or members t m).0)

-- so many passes are there, and each has done all calls of the task of its place
abbrev pub MembersHaveDone : {Call P C : Type 0} → Obj Call → Unavailable → Plan → (sits : P → Type 0) → (view : P → Shown) → (many : ℕ) → List (P × C) → Type 0
MembersHaveDone o unavailable k sits view many members = EachHasDone (PassHasDone o unavailable k sits view) many members
