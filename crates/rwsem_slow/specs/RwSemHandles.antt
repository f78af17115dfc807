-- What a clause reads of a semaphore and of a pass of it.
use Rattle.std.specs.Prelude.{◌≡◌, ℕ, List}
use Rattle.word_bits.specs.Histories.{Plan}
use Rattle.word_bits.specs.Objects.{Obj}
use Rattle.lock_core.specs.Locking.{Takes}
use Rattle.lock_core.specs.SiteHandles as inner
use Rattle.lock_core.specs.Pasts.{opening}
use Rattle.lock_core.specs.Shown as callers
use Rattle.lock_core.specs.Shown.{Shown, shown}
use Rattle.lock_core.specs.Views.{SpinRests}
use Rattle.osq_nodes.specs.OsqHandles as queue
use Rattle.rwsem_slow.specs.declared.calls.RwSem.{RwSem}
use Rattle.rwsem_slow.specs.declared.calls.RwPass.{RwPass}
use Rattle.rwsem_slow.specs.RwSems.{idle, standing}
use Rattle.rwsem_slow.specs.Types.{Hand, Shared, Alone, Moment, Out}
use Rattle.rwsem_wake.specs.RwSemPlaces.{AreCounts, IsOutside, line_of}

-- a new table of this plan
abbrev pub newest : Plan → Moment
newest k = opening standing k idle

module _ {O C : Type 0} where
  -- the calls that the semaphore's tasks make
  abbrev pub plan_of : RwSem O C → Plan
  plan_of sem = inner.plan_of sem.site

  -- what callers of any lock see of a pass
  abbrev pub shown_of : RwPass O C → Shown
  shown_of pass = record (shown line_of (queue.fronts_in pass.queue) (inner.view_of pass.pass) (inner.past_of pass.pass)) { swaps = queue.swaps_in pass.queue; tally = pass.tally }

  abbrev pub hand_in : RwPass O C → Hand
  hand_in pass = inner.hand_in pass.pass

  -- the moments of its spin queue up to the pass's last step on that, the last one first
  abbrev pub spun_of : RwPass O C → List Moment
  spun_of pass = queue.past_of pass.queue

  -- they go on
  abbrev pub SpunGoesOn : RwPass O C → RwPass O C → Type 0
  SpunGoesOn old new = queue.KeepsPast old.queue new.queue

  -- it holds alone, and shared
  abbrev pub TakesAlone : {Call : Type 0} → Obj Call → RwSem O C → RwPass O C → RwPass O C → Type 0
  TakesAlone o sem old new = Takes o (plan_of sem) Alone (shown_of old) (shown_of new)

  abbrev pub TakesShared : {Call : Type 0} → Obj Call → RwSem O C → RwPass O C → RwPass O C → Type 0
  TakesShared o sem old new = Takes o (plan_of sem) Shared (shown_of old) (shown_of new)

  -- how often it was the head of the spin queue is as it was, and how often it missed
  abbrev pub KeepsFronts : RwPass O C → RwPass O C → Type 0
  KeepsFronts old new = (shown_of new).fronts ≡ (shown_of old).fronts

  abbrev pub KeepsMisses : RwPass O C → RwPass O C → Type 0
  KeepsMisses old new = (hand_in new).misses ≡ (hand_in old).misses

  -- how many wake words it has set, and how often its task has fallen asleep
  abbrev pub wakes_in : RwPass O C → ℕ
  wakes_in pass = pass.counts.wakes

  abbrev pub dozes_in : RwPass O C → ℕ
  dozes_in pass = pass.counts.dozes

  -- it has neither set a wake word nor fallen asleep
  pub record KeepsWakes (old new : RwPass O C) : Type 0 where
    pub wakes : wakes_in new ≡ wakes_in old
    pub dozes : dozes_in new ≡ dozes_in old

  -- the pass is one of the semaphore's, and no call on it is under way
  pub record SitsAt (sem : RwSem O C) (pass : RwPass O C) : Type 0 where
    pub sits : inner.SitsAt sem.site pass.pass
    pub unspun : SpinRests (inner.view_of pass.pass).spin
    pub outside : IsOutside (inner.view_of pass.pass)
    pub counts : AreCounts pass.counts (inner.view_of pass.pass)
    pub queued : queue.SitsAt sem.osq pass.queue
    pub off : queue.place_in pass.queue ≡ Out
    pub same : queue.task_in pass.queue ≡ inner.task_in pass.pass

  -- the pass is one of the semaphore's as before, and its past goes on
  abbrev pub StepsOn : RwSem O C → RwPass O C → RwPass O C → Type 0
  StepsOn lock old new = callers.StepsOn SitsAt shown_of lock old new
