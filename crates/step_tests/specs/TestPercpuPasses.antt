-- Passes of a per-CPU semaphore between two calls of their tasks, and between two tasks.
use Rattle.std.specs.Prelude.{◌≡◌, ℕ, ◌<◌, false, length, None, Some, slice_get}
use Rattle.word_bits.specs.declared.call.CallWords.{CallWords}
use Rattle.word_bits.specs.Objects.{Obj}
use Rattle.word_bits.specs.Histories.{Plan}
use Rattle.lock_core.specs.declared.view.Held.{Held}
use Rattle.lock_core.specs.Locking.{IsStored}
use Rattle.lock_core.specs.Records.{row}
use Rattle.lock_core.specs.Views.{OwesNoSignal, SpinRests}
use Rattle.percpu_rwsem.specs.declared.pass.PercpuPass.{PercpuPass}
use Rattle.percpu_rwsem.specs.declared.site.PercpuRwSem.{PercpuRwSem}
use Rattle.percpu_rwsem.specs.PercpuHandles.{blocks_in, hand_in, held_in, plan_of, task_in, view_of, SitsAt}

-- the first calls of the task, so many, are all this one
abbrev pub Repeats : Plan → (task count : ℕ) → CallWords → Type 0
Repeats k task count words = (c : ℕ) → c < count → slice_get (row k task) c ≡ Some words

module _ {O C : Type 0} where
  -- it has no number, and so it holds nothing; it doesn't block
  pub record IsIdle (lock : PercpuRwSem O C) (pass : PercpuPass O C) : Type 0 where
    pub own : SitsAt lock pass
    pub numberless : task_in pass ≡ None
    pub apart : blocks_in pass ≡ false
    pub unspun : SpinRests (view_of pass).spin

  -- it is idle, and the plan's task of this number makes this call, so many times at least
  pub record MayMake (task rounds : ℕ) (words : CallWords) (lock : PercpuRwSem O C) (pass : PercpuPass O C) : Type 0 where
    pub idle : IsIdle lock pass
    pub there : task < length (plan_of lock)
    pub calls : Repeats (plan_of lock) task rounds words

  -- it has this task's number, holds in this way, has no change of the guarded words under way, and has recorded all its signals
  pub record IsAt (task : ℕ) (held : Held) (lock : PercpuRwSem O C) (pass : PercpuPass O C) : Type 0 where
    pub own : SitsAt lock pass
    pub mine : task_in pass ≡ Some task
    pub holds : held_in pass ≡ held
    pub unspun : SpinRests (view_of pass).spin
    pub quiet : (hand_in pass).writes ≡ false
    pub owes : OwesNoSignal (hand_in pass)

-- the guarded words that it knows are the state after the log that it knows
abbrev pub KnowsState : {O C Call : Type 0} → Obj Call → PercpuRwSem O C → PercpuPass O C → Type 0
KnowsState o lock pass = IsStored o (plan_of lock) (hand_in pass)
