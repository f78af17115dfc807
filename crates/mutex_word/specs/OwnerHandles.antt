-- What a clause reads of a site with an owner word.
use Rattle.std.specs.Prelude.{ℕ, List, Option}
use Rattle.word_bits.specs.LockWords.{Unavailable}
use Rattle.word_bits.specs.Objects.{Obj}
use Rattle.word_bits.specs.Histories.{Plan}
use Rattle.mutex_word.specs.Types.{Hand, Held, Moment, Past, View}
use Rattle.lock_core.specs.SiteHandles as inner
use Rattle.lock_core.specs.Shown as callers
use Rattle.lock_core.specs.Shown.{Shown, no_line, shown}
use Rattle.mutex_word.specs.declared.site.OwnerPass.{OwnerPass}
use Rattle.mutex_word.specs.declared.site.OwnerSite.{OwnerSite}

module _ {O C : Type 0} where
  -- the calls that the site's tasks make
  abbrev pub plan_of : OwnerSite O C → Plan
  plan_of site = inner.plan_of site.site

  -- what a pass knows
  abbrev pub view_of : OwnerPass O C → View (Unit {0})
  view_of pass = inner.view_of pass.pass

  -- the part of it that concerns the site's own words
  abbrev pub hand_in : OwnerPass O C → Hand
  hand_in pass = inner.hand_in pass.pass

  -- the moments of the table up to the pass's last step, the last one first
  abbrev pub past_of : OwnerPass O C → List Moment
  past_of pass = inner.past_of pass.pass

  -- those of the passes that it took in since its last step
  abbrev pub joined_by : OwnerPass O C → List Past
  joined_by pass = inner.joined_by pass.pass

  -- what the pass says of itself
  abbrev pub task_in : OwnerPass O C → Option ℕ
  task_in pass = inner.task_in pass.pass

  abbrev pub held_in : OwnerPass O C → Held
  held_in pass = inner.held_in pass.pass

  abbrev pub front_in : OwnerPass O C → ℕ
  front_in pass = inner.front_in pass.pass

  -- its past goes on
  abbrev pub KeepsPast : OwnerPass O C → OwnerPass O C → Type 0
  KeepsPast old new = inner.KeepsPast old.pass new.pass

  -- the last moment of its past is that of its own last step
  abbrev pub IsLatest : OwnerPass O C → Type 0
  IsLatest pass = inner.IsLatest pass.pass

  -- what the pass becomes that takes the task's number
  abbrev pub TakesNumber : {Call : Type 0} → Obj Call → Unavailable → OwnerSite O C → ℕ → OwnerPass O C → OwnerPass O C → Type 0
  TakesNumber o unavailable site task old new = inner.TakesNumber o unavailable site.site task old.pass new.pass

  -- the pass is one of the site's
  abbrev pub SitsAt : OwnerSite O C → OwnerPass O C → Type 0
  SitsAt site pass = inner.SitsAt site.site pass.pass

  -- what callers of any lock see of a pass: nobody stands in line
  abbrev pub shown_of : OwnerPass O C → Shown
  shown_of pass = shown (λ x. no_line) (view_of pass).fronts (view_of pass) (past_of pass)

  -- the pass is one of the site's as before, and its past goes on
  abbrev pub StepsOn : OwnerSite O C → OwnerPass O C → OwnerPass O C → Type 0
  StepsOn lock old new = callers.StepsOn SitsAt shown_of lock old new
