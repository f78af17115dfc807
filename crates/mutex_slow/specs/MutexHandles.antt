-- What a clause reads of a mutex and of a pass of it.
use Rattle.std.specs.Prelude.{◌≡◌, ℕ, ◌+◌, ◌≤◌, Bool, List, None}
use Rattle.word_bits.specs.LockWords.{owned}
use Rattle.word_bits.specs.Objects.{Obj}
use Rattle.word_bits.specs.Histories.{Plan}
use Rattle.lock_core.specs.SiteHandles as inner
use Rattle.lock_core.specs.Kinds.{mutex as kind}
use Rattle.lock_core.specs.Locking.{Misses, Takes}
use Rattle.lock_core.specs.Pasts.{opening}
use Rattle.lock_core.specs.Shown as callers
use Rattle.lock_core.specs.Shown.{Shown, shown}
use Rattle.lock_core.specs.Views.{SpinRests}
use Rattle.osq_nodes.specs.OsqHandles as queue
use Rattle.mutex_slow.specs.declared.calls.Mutex.{Mutex}
use Rattle.mutex_slow.specs.declared.calls.MutexPass.{MutexPass}
use Rattle.mutex_slow.specs.Mutexes.{OwesNoWake, idle, owner_at, standing}
use Rattle.mutex_slow.specs.MutexPlaces.{IsOutside, line_of}
use Rattle.mutex_slow.specs.Types.{Hand, Alone, Moment, Out}

-- a new table of this plan
abbrev pub newest : Plan → Moment
newest k = opening standing k idle

module _ {O C : Type 0} where
  -- the calls that the mutex's tasks make
  abbrev pub plan_of : Mutex O C → Plan
  plan_of mutex = inner.plan_of mutex.site

  -- what callers of any lock see of a pass
  abbrev pub shown_of : MutexPass O C → Shown
  shown_of pass = record (shown line_of (queue.fronts_in pass.queue) (inner.view_of pass.pass) (inner.past_of pass.pass)) { swaps = queue.swaps_in pass.queue; tally = pass.tally }

  abbrev pub hand_in : MutexPass O C → Hand
  hand_in pass = inner.hand_in pass.pass

  -- the moments of its spin queue up to the pass's last step on that, the last one first
  abbrev pub spun_of : MutexPass O C → List Moment
  spun_of pass = queue.past_of pass.queue

  -- they go on
  abbrev pub SpunGoesOn : MutexPass O C → MutexPass O C → Type 0
  SpunGoesOn old new = queue.KeepsPast old.queue new.queue

  -- it holds alone
  abbrev pub TakesAlone : {Call : Type 0} → Obj Call → Mutex O C → MutexPass O C → MutexPass O C → Type 0
  TakesAlone o mutex old new = Takes o (plan_of mutex) Alone (shown_of old) (shown_of new)

  -- how many wake words it has set, and how often its task has fallen asleep
  abbrev pub wakes_in : MutexPass O C → ℕ
  wakes_in pass = pass.wakes

  abbrev pub dozes_in : MutexPass O C → ℕ
  dozes_in pass = pass.dozes

  -- it has neither set a wake word nor fallen asleep
  pub record KeepsWakes (old new : MutexPass O C) : Type 0 where
    pub wakes : wakes_in new ≡ wakes_in old
    pub dozes : dozes_in new ≡ dozes_in old

  -- it has taken the wait lock once at most
  abbrev pub EntersOnce : MutexPass O C → MutexPass O C → Type 0
  EntersOnce old new = (shown_of new).spin.entries ≤ (shown_of old).spin.entries + 1

  -- its try, of a call that reads or changes, failed at this word
  abbrev pub MissesAt : MutexPass O C → ℕ → MutexPass O C → Type 0
  MissesAt old word new = (reads : Bool) → Misses kind reads owner_at word (shown_of old) (shown_of new)

  -- so it did where the word names a task
  abbrev pub MissesIfShut : MutexPass O C → ℕ → MutexPass O C → Type 0
  MissesIfShut old word new = (reads : Bool) → owned reads word → Misses kind reads owner_at word (shown_of old) (shown_of new)

  -- how often it was the head of the spin queue is as it was, and how often it missed
  abbrev pub KeepsFronts : MutexPass O C → MutexPass O C → Type 0
  KeepsFronts old new = (shown_of new).fronts ≡ (shown_of old).fronts

  abbrev pub KeepsMisses : MutexPass O C → MutexPass O C → Type 0
  KeepsMisses old new = (hand_in new).misses ≡ (hand_in old).misses

  -- the pass is one of the mutex's, and no call on it is under way
  pub record SitsAt (mutex : Mutex O C) (pass : MutexPass O C) : Type 0 where
    pub sits : inner.SitsAt mutex.site pass.pass
    pub unspun : SpinRests (inner.view_of pass.pass).spin
    pub outside : IsOutside (inner.view_of pass.pass)
    pub clear : OwesNoWake (inner.view_of pass.pass)
    pub woke : pass.wakes ≡ (inner.view_of pass.pass).ext.wake.wakes
    pub dozed : pass.dozes ≡ (inner.view_of pass.pass).ext.wake.dozes
    pub queued : queue.SitsAt mutex.osq pass.queue
    pub off : queue.place_in pass.queue ≡ Out
    pub same : queue.task_in pass.queue ≡ inner.task_in pass.pass

  -- a pass between two tasks
  pub record IsIdle (mutex : Mutex O C) (pass : MutexPass O C) : Type 0 where
    pub own : SitsAt mutex pass
    pub numberless : (hand_in pass).task ≡ None

  -- the pass is one of the mutex's as before, and its past goes on
  abbrev pub StepsOn : Mutex O C → MutexPass O C → MutexPass O C → Type 0
  StepsOn lock old new = callers.StepsOn SitsAt shown_of lock old new
