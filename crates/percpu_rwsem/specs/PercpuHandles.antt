-- What a clause reads of a per-CPU semaphore, and of a pass of it.
use Rattle.std.specs.Prelude.{◌≡◌, ℕ, ◌+◌, ◌*◌, ◌<◌, ◌≤◌, Bool, List, length, Option, Some, None, is_some}
use Rattle.cpu_task.specs.CpuCounting.{slept}
use Rattle.word_bits.specs.LockWords.{Unavailable}
use Rattle.word_bits.specs.Objects.{Obj}
use Rattle.word_bits.specs.Histories.{Plan}
use Rattle.lock_core.specs.SiteHandles as inner
use Rattle.lock_core.specs.Pasts.{FoundAtStep, GoesOn, IsOwnStep}
use Rattle.lock_core.specs.Shown as callers
use Rattle.lock_core.specs.Shown.{Shown, no_line, shown}
use Rattle.percpu_rwsem.specs.declared.pass.PercpuPass.{PercpuPass}
use Rattle.percpu_rwsem.specs.declared.site.PercpuRwSem.{PercpuRwSem}
use Rattle.percpu_rwsem.specs.PercpuPlays.{TakesPhase}
use Rattle.percpu_rwsem.specs.PercpuRuled.{V, count_at}
use Rattle.percpu_rwsem.specs.Phases.{PartOk, phase_part}
use Rattle.percpu_rwsem.specs.Types.{Hand, Held, No, Shared, Alone, Moment, Past, Phase, Idle, Reads, Blocks}

-- the phase of a pass that has seen so many counts zero, or doesn't block, and holds so
abbrev pub phase_by : Option ℕ → Held → Phase
phase_by (Some n) held = Blocks n
phase_by None No = Idle
phase_by None Shared = Reads
phase_by None Alone = Idle

-- what is so of a pass between two calls, of so many tasks
pub record Phased (tasks : ℕ) (seen : Option ℕ) (v : V) : Type 0 where
  pub phase : v.ext ≡ phase_by seen v.hand.held
  pub part : PartOk tasks (phase_part v)

-- There were some tries to read, of three steps each, and as many sleeps, and these more steps. When it slept isn't said.
abbrev pub SleepsEachTry : (more steps steps' sleeps sleeps' : ℕ) → Type 0
SleepsEachTry more steps steps' sleeps sleeps' = (tries : ℕ) × (steps' ≡ steps + (3 * tries + more)) × (sleeps' ≡ slept tries sleeps)

-- the pass made so many steps, and one more for each time that the CPU slept
abbrev pub SleepsBehind : (more steps steps' sleeps sleeps' : ℕ) → Type 0
SleepsBehind more steps steps' sleeps sleeps' = (turns : ℕ) × (steps' ≡ steps + (turns + more)) × (sleeps' ≡ slept turns sleeps)

-- A pass of this view found the counts from the first up to the next 0, in the order of their tasks, each at a step of its own since.
abbrev pub FindsZeros : (first next : ℕ) → V → (old new : List Moment) → Type 0
FindsZeros first next v old new = (t step : ℕ) → first ≤ t → t < next → step + first ≡ v.steps + (t + 1) → FoundAtStep v.hand.task step (count_at t) 0 old new

module _ {O C : Type 0} where
  -- the calls that the semaphore's tasks make
  abbrev pub plan_of : PercpuRwSem O C → Plan
  plan_of site = inner.plan_of site.site

  -- what a pass knows
  abbrev pub view_of : PercpuPass O C → V
  view_of pass = inner.view_of pass.pass

  -- the part of it that concerns the site's own words
  abbrev pub hand_in : PercpuPass O C → Hand
  hand_in pass = inner.hand_in pass.pass

  -- the moments of the table up to the pass's last step, the last one first
  abbrev pub past_of : PercpuPass O C → List Moment
  past_of pass = inner.past_of pass.pass

  -- those of the passes that it took in since its last step
  abbrev pub joined_by : PercpuPass O C → List Past
  joined_by pass = inner.joined_by pass.pass

  abbrev pub task_in : PercpuPass O C → Option ℕ
  task_in pass = inner.task_in pass.pass

  abbrev pub held_in : PercpuPass O C → Held
  held_in pass = inner.held_in pass.pass

  abbrev pub front_in : PercpuPass O C → ℕ
  front_in pass = inner.front_in pass.pass

  -- how many counts it has seen zero, while it blocks
  abbrev pub seen_in : PercpuPass O C → Option ℕ
  seen_in pass = pass.seen

  -- it blocks new readers
  abbrev pub blocks_in : PercpuPass O C → Bool
  blocks_in pass = is_some pass.seen

  -- what callers of any lock see of a pass: nobody stands in line
  abbrev pub shown_of : PercpuPass O C → Shown
  shown_of pass = shown (λ x. no_line) (view_of pass).fronts (view_of pass) (past_of pass)

  -- the pass is one of the semaphore's, and says of itself what its view does
  pub record SitsAt (site : PercpuRwSem O C) (pass : PercpuPass O C) : Type 0 where
    pub seat : inner.SitsAt site.site pass.pass
    pub phased : Phased (length (plan_of site)) (seen_in pass) (view_of pass)

  -- its past goes on
  abbrev pub KeepsPast : PercpuPass O C → PercpuPass O C → Type 0
  KeepsPast old new = inner.KeepsPast old.pass new.pass

  -- the last moment of its past is that of its own last step
  abbrev pub IsLatest : PercpuPass O C → Type 0
  IsLatest pass = inner.IsLatest pass.pass

  -- what the pass becomes that takes the task's number
  abbrev pub TakesNumber : {Call : Type 0} → Obj Call → Unavailable → PercpuRwSem O C → ℕ → PercpuPass O C → PercpuPass O C → Type 0
  TakesNumber o unavailable site task old new = inner.TakesNumber o unavailable site.site task old.pass new.pass

  -- it looked at each count once from the first that it hadn't seen zero up to that of this number, and made no other step
  abbrev pub LooksUpTo : ℕ → PercpuPass O C → PercpuPass O C → Type 0
  LooksUpTo end old new = (first : ℕ) → seen_in old ≡ Some first → (first < end) × ((view_of new).steps + first ≡ (view_of old).steps + end)

  -- it found those below this number 0
  abbrev pub FindsZerosUpTo : ℕ → PercpuPass O C → PercpuPass O C → Type 0
  FindsZerosUpTo next old new = (first : ℕ) → seen_in old ≡ Some first → FindsZeros first next (view_of old) (past_of old) (past_of new)

  -- one of its steps since left it this view
  abbrev pub CameTo : V → PercpuPass O C → PercpuPass O C → Type 0
  CameTo v old new = (past : List Moment) × IsOwnStep v past × GoesOn (past_of old) past × GoesOn past (past_of new)

  -- its step of this number found this number at this place
  abbrev pub FindsAtStep : (step at n : ℕ) → PercpuPass O C → PercpuPass O C → Type 0
  FindsAtStep step at n old new = FoundAtStep (hand_in old).task step at n (past_of old) (past_of new)

  -- the pass is one of the semaphore's as before, and its past goes on
  abbrev pub StepsOn : PercpuRwSem O C → PercpuPass O C → PercpuPass O C → Type 0
  StepsOn lock old new = callers.StepsOn SitsAt shown_of lock old new

-- the view after so many steps, with this hand and phase
abbrev pub after : ℕ → V → Hand → Phase → V
after n v h e = record v { hand = h; steps = v.steps + n; ext = e }

-- the view after some steps, in this phase
abbrev pub StepsTo : Phase → V → V → Type 0
StepsTo e v u = (s : ℕ) × (v.steps ≤ s) × (u ≡ record v { steps = s; ext = e })

-- it holds in this way after some steps, and has learnt what the semaphore guards
abbrev pub TakesSince : {Call : Type 0} → Obj Call → Plan → Held → Phase → V → V → Type 0
TakesSince o k held e v u = (s : ℕ) × (v.steps ≤ s) × TakesPhase o k held e (record v { steps = s }) u
