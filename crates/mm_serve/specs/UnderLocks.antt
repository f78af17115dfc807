-- Spaces under locks of one kind and tables under locks of another: what is known of an object and of its pass, by what the trait of locks tells of the two kinds.
use Rattle.word_bits.specs.Histories.{Plan}
use Rattle.std.specs.Prelude.{ℕ, List}
use Rattle.vma_map.specs.Spaces.{space}
use Rattle.fd_table.specs.Tables.{table}
use Rattle.sleep_lock.specs.LockMembers.{LockMembers}
use Rattle.guarded.specs.GuardedHandles.{lock_of}
use Rattle.mm_serve.specs.declared.space_or_table.SpaceOrTable.{SpaceOrTable}
use Rattle.mm_serve.specs.declared.space_or_table.SpaceOrTablePass.{SpaceOrTablePass}
use Rattle.mm_serve.specs.MachinePasts.{KnowsPast}
use Rattle.mm_serve.specs.MachineQueues.{HasLookedBack}
use Rattle.mm_serve.specs.TaskServing.{IsIdle}
use Rattle.mm_serve.specs.MachineSites.{Matches, calls_of, hand_of, past_of, spun_of}
use Rattle.mm_serve.specs.Types.{Hand, Moment, Guarded}

-- a space or a table, each under its lock
abbrev pub LockedObject : (A S R X P E C T F G Y Q H D : Type 0) → Type 0
LockedObject A S R X P E C T F G Y Q H D = SpaceOrTable (Guarded A S R X P E C) (Guarded T F G Y Q H D)

module _ {A P T Q : Type 0} (spaces : LockMembers A P) (tables : LockMembers T Q) where
  -- what a pass knows, by what its lock shows of it
  abbrev pub hand_under : SpaceOrTablePass P Q → Hand
  hand_under = hand_of spaces.view tables.view

  -- the moments that it goes back to, likewise
  abbrev pub past_under : SpaceOrTablePass P Q → List Moment
  past_under = past_of spaces.view tables.view

  -- those of the lock's spin queue, likewise
  abbrev pub spun_under : SpaceOrTablePass P Q → List Moment
  spun_under = spun_of spaces.spun tables.spun

module _ {A S R X P E C T F G Y Q H D : Type 0} (spaces : LockMembers A P) (tables : LockMembers T Q) where
  -- the calls that the tasks are to make on the object, by its lock
  abbrev pub calls_under : LockedObject A S R X P E C T F G Y Q H D → Plan
  calls_under = calls_of (λ s. spaces.calls_on (lock_of s)) (λ s. tables.calls_on (lock_of s))

  -- the pass is one of the object's lock; it has no task's number, and owes nothing
  abbrev pub IsIdleUnder : LockedObject A S R X P E C T F G Y Q H D → SpaceOrTablePass P Q → Type 0
  IsIdleUnder = Matches (λ s p. spaces.sits (lock_of s) p × IsIdle (spaces.view p).hand) (λ s p. tables.sits (lock_of s) p × IsIdle (tables.view p).hand)

  -- the pass knows what was so of the object's table at each moment so far: what every lock tells, and what this kind of lock tells of its own. It also knows what the lock tells of its spin queue, up
  -- to the pass's last step there.
  abbrev pub KnowsPastUnder : LockedObject A S R X P E C T F G Y Q H D → SpaceOrTablePass P Q → Type 0
  KnowsPastUnder =
      Matches
      (λ s p. KnowsPast space spaces.kind 257 spaces.word_at spaces.waits spaces.tells spaces.opened (spaces.calls_on (lock_of s)) (spaces.view p)
      × spaces.tells_queue (spaces.calls_on (lock_of s)) (spaces.view p) (spaces.spun p))
      (λ s p. KnowsPast table tables.kind 64 tables.word_at tables.waits tables.tells tables.opened (tables.calls_on (lock_of s)) (tables.view p)
      × tables.tells_queue (tables.calls_on (lock_of s)) (tables.view p) (tables.spun p))

  -- The pass has the task's number, and by its own last step all the task's calls were recorded. It knows what the lock tells of its spin queue, up to its own last step there.
  abbrev pub HasLookedBackUnder : LockedObject A S R X P E C T F G Y Q H D → SpaceOrTablePass P Q → ℕ → Type 0
  HasLookedBackUnder site pass task =
      Matches
      (λ s p. HasLookedBack space spaces.kind (spaces.sits (lock_of s) p) spaces.tells_queue (spaces.calls_on (lock_of s)) (spaces.view p) (spaces.spun p) task)
      (λ s p. HasLookedBack table tables.kind (tables.sits (lock_of s) p) tables.tells_queue (tables.calls_on (lock_of s)) (tables.view p) (tables.spun p) task)
      site pass
