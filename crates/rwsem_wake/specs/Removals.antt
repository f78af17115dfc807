-- A waker removes its batch from the list, one waiter after another.
use Rattle.std.specs.Prelude.{◌≡◌, ℕ, ◌+◌, ◌<◌, ◌≤◌, ◌⊎◌, true, false, List, [], ◌∷◌, ◌++◌, length, drop}
use Rattle.wait_list.specs.Lists.{IsList, Knows, first_code, list_part, without}
use Rattle.rwsem_wake.specs.RwSemViews.{V, MayPick, list_of}
use Rattle.rwsem_wake.specs.Types.{Waiter, Removing, SemWake}

-- these are the first readers of the list, in order
abbrev pub AreHeads : List ℕ → List Waiter → Type 0
AreHeads [] q = Unit {0}
AreHeads (t ∷ ts) [] = ⊥
AreHeads (t ∷ ts) (w ∷ q) = ((w.writer ≡ false) × (w.task ≡ t) × AreHeads ts q) ⊎ ((w.writer ≡ true) × AreHeads (t ∷ ts) q)

-- the list without them
abbrev pub without_all : List ℕ → List Waiter → List Waiter
without_all [] q = q
without_all (t ∷ ts) q = without_all ts (without t q)

-- the list begins with the first of them
abbrev pub BeginsWith : List ℕ → List Waiter → Type 0
BeginsWith [] q = Unit {0}
BeginsWith (t ∷ ts) q = first_code q ≡ t + 1

-- a pass under the wait lock that knows the list, and isn't between the store at which the list changes and the last one
pub record KnowsList (v : V) : Type 0 where
  pub knows : Knows (list_part list_of v)
  pub still : v.ext.list.changes ≡ false
  pub sound : IsList v.ext.list.list

-- all but its steps and what it knows of the list and the semaphore is as before
pub record StaysBeside (v u : V) : Type 0 where
  pub later : v.steps ≤ u.steps
  pub hand : u.hand ≡ v.hand
  pub spin : u.spin ≡ v.spin
  pub fronts : u.fronts ≡ v.fronts
  pub appends : u.ext.appends ≡ v.ext.appends
  pub wait : u.ext.sem.wait ≡ v.ext.sem.wait

-- it has chosen these tasks too, and may have looked by that
abbrev pub Chose : List ℕ → SemWake → SemWake → Type 0
Chose tasks b c = c ≡ record b { owing = c.owing; chosen = b.chosen ++ tasks }

-- from the first view on the pass has removed so many of a batch
pub record HasRemoved (v : V) (batch : List ℕ) (i : ℕ) (u : V) : Type 0 where
  pub beside : StaysBeside v u
  pub bias : u.ext.sem.bias ≡ v.ext.sem.bias
  pub list : KnowsList u
  pub may : MayPick u.ext.sem
  pub begun : 0 < length u.ext.sem.rest → u.ext.sem.stage ≡ Removing
  pub rest : u.ext.sem.rest ++ drop i batch ≡ batch
  pub heads : AreHeads (drop i batch) u.ext.list.list
  pub begins : u.ext.sem.rest ≡ [] → BeginsWith (drop i batch) u.ext.list.list
  pub chose : Chose u.ext.sem.rest v.ext.wake u.ext.wake
  pub clear : 0 < length u.ext.sem.rest → u.ext.wake.owing ≡ false
  pub are : without_all (drop i batch) u.ext.list.list ≡ without_all batch v.ext.list.list

-- it has removed the batch
pub record RemovesAll (v : V) (batch : List ℕ) (u : V) : Type 0 where
  pub beside : StaysBeside v u
  pub bias : u.ext.sem.bias ≡ v.ext.sem.bias
  pub list : KnowsList u
  pub rest : u.ext.sem.rest ≡ batch
  pub stage : 0 < length batch → u.ext.sem.stage ≡ Removing
  pub chose : Chose batch v.ext.wake u.ext.wake
  pub clear : 0 < length batch → u.ext.wake.owing ≡ false
  pub are : u.ext.list.list ≡ without_all batch v.ext.list.list

-- of this list so many are read, of which this waiter is the last
abbrev pub IsAlong : List Waiter → List Waiter → Waiter → Type 0
IsAlong known read last = (pre : List Waiter) × (post : List Waiter) × (read ≡ pre ++ last ∷ []) × (known ≡ pre ++ last ∷ post)
