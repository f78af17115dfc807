-- Where a pass stands in a call on a mutex, and what callers of any lock see of it.
use Rattle.std.specs.Prelude.{◌≡◌, ◌≢◌, ℕ, ◌+◌, ◌<◌, ◌≤◌, ◌/◌, ◌%◌, ◌⊎◌, true, false, Option, Some, None}
use Rattle.word_bits.specs.OwnerWord.{task_code}
use Rattle.cpu_task.specs.CpuCounting.{one_more, Rises, SleepsInTurns}
use Rattle.lock_core.specs.SiteHandles.{plan_of, view_of, hand_in, past_of}
use Rattle.word_bits.specs.Objects.{Obj}
use Rattle.lock_core.specs.Pasts.{FoundSince}
use Rattle.lock_core.specs.Shown.{Shown, FindsAtStep, shown}
use Rattle.lock_core.specs.Locking.{Takes}
use Rattle.wait_list.specs.Lists.{waiter_code}
use Rattle.lock_core.specs.Holding.{released}
use Rattle.mutex_word.specs.OwnerTries.{FindsUnasked, IsOpen}
use Rattle.wake_duty.specs.DutyWakes.{waits}
use Rattle.mutex_slow.specs.Mutexes.{V, HasChosen, OwesNoWake, list_at, owner_at}
use Rattle.mutex_slow.specs.MutexStated.{HasWaitLock}
use Rattle.mutex_slow.specs.Types.{Line, Pass, Site, Held, No, Alone, How, Fast, Spun, Slept, Waiter, MutexHand, Rest, Owing, Tried}

-- how a pass has stood in line
abbrev pub line_of : MutexHand → Line
line_of e = record { appends = e.appends }

-- its task isn't in the list, and it is between no two steps that belong together
pub record IsOutside (v : V) : Type 0 where
  pub out : v.ext.queued ≡ false
  pub rests : v.ext.point ≡ Rest
  pub still : v.ext.list.changes ≡ false
  pub gone : v.ext.list.leaver ≡ 0
  pub unseen : v.ext.first ≡ false

-- the same, but its task is in the list; it has no wake to do
pub record IsInLine (v : V) : Type 0 where
  pub queued : v.ext.queued ≡ true
  pub rests : v.ext.point ≡ Rest
  pub still : v.ext.list.changes ≡ false
  pub clear : OwesNoWake v
  pub waits : waits v.ext.wake.wait_state ≡ 1

-- its task is in the list, and a try failed since it last took the wait lock
pub record HasFailed (v : V) : Type 0 where
  pub failed : v.ext.failed ≡ v.spin.entries
  pub tried : v.ext.wake.wait_state ≡ Tried v.spin.entries

-- it ended its hold with the flag of the waiters, and has chosen nobody
pub record OwesWake (v : V) : Type 0 where
  pub owing : v.ext.wake.duty ≡ Owing
  pub flag : v.hand.freed % 2 ≡ 1

-- the task of a waiter, where there is one
abbrev pub task_of : Option Waiter → Option ℕ
task_of None = None
task_of (Some w) = Some w.task

-- it has a wake to do: of this task, whose wake word it is to set, or of none
abbrev pub IsToWake : V → Option ℕ → Type 0
IsToWake v None = OwesNoWake v
IsToWake v (Some t) = HasChosen v.ext t

module _ {R O C : Type 0} where
  -- a pass of the site, as callers of any lock see it
  abbrev pub seen_of : Pass R O MutexHand C → Shown
  seen_of pass = shown line_of (view_of pass).fronts (view_of pass) (past_of pass)

  -- it holds alone
  abbrev pub TakesAlone : {Call : Type 0} → Obj Call → Site R O MutexHand C → Pass R O MutexHand C → Pass R O MutexHand C → Type 0
  TakesAlone o site old new = Takes o (plan_of site) Alone (seen_of old) (seen_of new)

  -- the part of its view that concerns the site's own words is as it was
  abbrev pub KeepsHand : Pass R O MutexHand C → Pass R O MutexHand C → Type 0
  KeepsHand old new = hand_in new ≡ hand_in old

  -- no failed try was counted
  abbrev pub KeepsMisses : Pass R O MutexHand C → Pass R O MutexHand C → Type 0
  KeepsMisses old new = (hand_in new).misses ≡ (hand_in old).misses

  -- it has not been the head of a spin queue, nor appended itself
  abbrev pub KeepsFronts : Pass R O MutexHand C → Pass R O MutexHand C → Type 0
  KeepsFronts old new = (view_of new).fronts ≡ (view_of old).fronts

  abbrev pub KeepsAppends : Pass R O MutexHand C → Pass R O MutexHand C → Type 0
  KeepsAppends old new = (view_of new).ext.appends ≡ (view_of old).ext.appends

-- how it stands in line, beside its misses: it has neither taken the wait lock nor appended itself
pub record StandsSame (v u : V) : Type 0 where
  pub spin : u.spin ≡ v.spin
  pub entries : u.spin.entries ≡ v.spin.entries
  pub fronts : u.fronts ≡ v.fronts
  pub appends : u.ext.appends ≡ v.ext.appends

-- it has neither set a wake word nor fallen asleep
pub record KeepsWakes (v u : V) : Type 0 where
  pub wakes : u.ext.wake.wakes ≡ v.ext.wake.wakes
  pub dozes : u.ext.wake.dozes ≡ v.ext.wake.dozes

-- it has set no wake word
abbrev pub SetsNoWord : V → V → Type 0
SetsNoWord v u = u.ext.wake.wakes ≡ v.ext.wake.wakes

-- how often it has fallen asleep
abbrev pub dozes_of : V → ℕ
dozes_of v = v.ext.wake.dozes

-- a count of wakes, after a wake of this task, where there is one
abbrev pub wakes_after : Option ℕ → ℕ → ℕ
wakes_after None wakes = wakes
wakes_after (Some t) wakes = one_more wakes

-- it has set one wake word where this names a task, and else none; and it has not fallen asleep
pub record Wakes (target : Option ℕ) (v u : V) : Type 0 where
  pub wakes : u.ext.wake.wakes ≡ wakes_after target v.ext.wake.wakes
  pub dozes : dozes_of u ≡ dozes_of v

-- it holds nothing, and has left a word
abbrev pub IsFreed : V → V → Type 0
IsFreed v u = u.hand ≡ released v.hand u.hand.freed

-- a step of the call found an owner word that a try of the task takes, and left the pass holding
abbrev pub TakesOpen : Shown → Shown → Type 0
TakesOpen v u = (step n : ℕ) × (v.steps < step) × (step ≤ u.steps) × ((f : FindsAtStep step owner_at n v u) × (f.by.hand.held ≡ Alone)) × IsOpen v.hand.task n

-- the call's step of this number found this owner word, which has the task's code, and left the pass with this hold
abbrev pub FindsOwnCode : (step n : ℕ) → Held → Shown → Shown → Type 0
FindsOwnCode step n held v u = (v.steps < step) × (step ≤ u.steps) × ((f : FindsAtStep step owner_at n v u) × (f.by.hand.held ≡ held)) × (n / 8 ≡ task_code v.hand.task)

-- so it found the owner word with these flags; none of its steps before that, but for the first, found a handoff asked for
abbrev pub DecidesAt : (step flags : ℕ) → Held → Shown → Shown → Type 0
DecidesAt step flags held v u = ((n : ℕ) × FindsOwnCode step n held v u × (n % 8 ≡ flags)) × FindsUnasked v.hand.task owner_at (v.steps + 1) step v.past u.past

-- the step that ended the hold found no handoff asked for, and left the flags alone; where it left none, the call ended with that step, and didn't go through the wait lock
abbrev pub EndsUnasked : Shown → Shown → Type 0
EndsUnasked v u = (u.hand.freed < 2) × (u.hand.freed ≡ 0 → u.spin.entries ≡ v.spin.entries) × ((step : ℕ) × (u.hand.freed ≡ 0 → u.steps ≡ step) × DecidesAt step u.hand.freed No v u)

-- the call's step of this number found a handoff asked for, and the pass still held
abbrev pub FindsAsked : ℕ → Shown → Shown → Type 0
FindsAsked step v u = (flags : ℕ) × (2 ≤ flags) × (flags < 4) × DecidesAt step flags Alone v u

-- a word that picks this waiter, or names nobody
abbrev pub Names : Option Waiter → ℕ → Type 0
Names None word = word < 2
Names (Some w) word = (word / 8 ≡ w.task + 1) × (4 ≤ word % 8)

-- A step behind the one of this number found the list's head, which has the code of this waiter or 0. A later one found the task's code in the owner word and ended the hold, and the pass had the wait
-- lock then. The word that the pass left names the waiter.
abbrev pub NamesFirst : ℕ → Option Waiter → Shown → Shown → Type 0
NamesFirst begun first v u = ((step n looked : ℕ) × (own : FindsOwnCode step n No v u) × HasWaitLock own.2.0.by.seat own.2.0.by.now × (looked < step)
    × FoundSince v.hand.task begun looked list_at (waiter_code first) v.past u.past) × Names first u.hand.freed

-- it found a handoff asked for; then it took the wait lock; and then it found the first waiter, and named it, or nobody where none waited
abbrev pub EndsAsked : Shown → Shown → Type 0
EndsAsked v u = (v.spin.entries < u.spin.entries) × ((step : ℕ) × FindsAsked step v u × (step < u.spin.took)) × ((first : Option Waiter) × NamesFirst u.spin.took first v u)

-- a call that ended its hold: Where it left no flag, it set no wake word. Where it left one, it had taken the wait lock since it began. A step since then found the list's head, which has the code of
-- this task or 0. The call set one wake word where there is such a task, and none where there isn't.
abbrev pub WakesFirst : (before after : ℕ) → Shown → Shown → Type 0
WakesFirst before after v u = (u.hand.freed ≡ 0 → after ≡ before)
    × (u.hand.freed ≢ 0 → (v.steps < u.spin.took) × ((first : Option ℕ) × FoundSince v.hand.task u.spin.took u.steps list_at (task_code first) v.past u.past × (after ≡ wakes_after first before)))

-- how a call that releases ends its hold
abbrev pub EndsHold : Shown → Shown → Type 0
EndsHold v u = EndsUnasked v u ⊎ EndsAsked v u

-- how a call got the mutex that came to the wait lock
abbrev pub GotInLine : How → Shown → Shown → Type 0
GotInLine Fast v u = ⊥
GotInLine Spun v u = u.line ≡ v.line
GotInLine Slept v u = u.line.appends ≡ v.line.appends + 1

-- of a call that went through the wait lock, after one more failed try at most
pub record WentInLine (v u : Shown) : Type 0 where
  pub entries : v.spin.entries < u.spin.entries
  pub fronts : u.fronts ≡ v.fronts
  pub few : u.hand.misses ≤ v.hand.misses + 1

-- what a call that had appended itself counted on its CPU: it took the wait lock once, and once more behind each turn in which it slept or was woken before; before, the CPU had answered that it needs
-- rescheduling
abbrev pub CountsInLine : (sleeps sleeps' rescheds rescheds' : ℕ) → Shown → Shown → Type 0
CountsInLine sleeps sleeps' rescheds rescheds' v u = SleepsInTurns (v.spin.entries + 1) u.spin.entries sleeps sleeps' × (rescheds ≤ rescheds') × Rises rescheds rescheds'

-- the same, by how it got the mutex; without having been the head of the spin queue it tried under the wait lock only once the CPU needed rescheduling
abbrev pub CountsBy : How → (sleeps sleeps' rescheds rescheds' : ℕ) → Shown → Shown → Type 0
CountsBy Fast sleeps sleeps' rescheds rescheds' v u = (sleeps' ≡ sleeps) × (rescheds' ≡ rescheds)
CountsBy Spun sleeps sleeps' rescheds rescheds' v u = (sleeps' ≡ sleeps) × (rescheds ≤ rescheds') × (u.fronts ≡ v.fronts → Rises rescheds rescheds')
CountsBy Slept sleeps sleeps' rescheds rescheds' v u = CountsInLine sleeps sleeps' rescheds rescheds' v u
