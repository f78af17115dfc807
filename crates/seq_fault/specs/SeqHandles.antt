-- What a clause reads of a site with a sequence word, and of a pass of it.
use Rattle.std.specs.Prelude.{◌≡◌, ℕ, ◌+◌, List, Option}
use Rattle.word_bits.specs.LockWords.{Unavailable}
use Rattle.word_bits.specs.Objects.{Obj}
use Rattle.word_bits.specs.Histories.{Plan}
use Rattle.lock_core.specs.SiteHandles as inner
use Rattle.lock_core.specs.Shown as callers
use Rattle.lock_core.specs.Shown.{Shown, no_line, shown}
use Rattle.seq_fault.specs.declared.site.SeqPass.{SeqPass}
use Rattle.seq_fault.specs.declared.site.SeqSite.{SeqSite}
use Rattle.seq_fault.specs.SeqRuled.{V}
use Rattle.seq_fault.specs.SeqSteps as single
use Rattle.seq_fault.specs.SeqSteps.{AtOneWord}
use Rattle.seq_fault.specs.Types.{Hand, Held, Moment, Past}

module _ {O C : Type 0} where
  -- the calls that the site's tasks make
  abbrev pub plan_of : SeqSite O C → Plan
  plan_of site = inner.plan_of site.site

  -- what a pass knows
  abbrev pub view_of : SeqPass O C → V
  view_of pass = inner.view_of pass.pass

  -- the part of it that concerns the site's own words
  abbrev pub hand_in : SeqPass O C → Hand
  hand_in pass = inner.hand_in pass.pass

  -- the moments of the table up to the pass's last step, the last one first
  abbrev pub past_of : SeqPass O C → List Moment
  past_of pass = inner.past_of pass.pass

  -- those of the passes that it took in since its last step
  abbrev pub joined_by : SeqPass O C → List Past
  joined_by pass = inner.joined_by pass.pass

  abbrev pub task_in : SeqPass O C → Option ℕ
  task_in pass = inner.task_in pass.pass

  abbrev pub held_in : SeqPass O C → Held
  held_in pass = inner.held_in pass.pass

  abbrev pub done_in : SeqPass O C → ℕ
  done_in pass = inner.done_in pass.pass

  abbrev pub front_in : SeqPass O C → ℕ
  front_in pass = inner.front_in pass.pass

  -- what callers of any lock see of a pass: nobody stands in line
  abbrev pub shown_of : SeqPass O C → Shown
  shown_of pass = shown (λ x. no_line) (view_of pass).fronts (view_of pass) (past_of pass)

  -- the pass is one of the site's
  abbrev pub SitsAt : SeqSite O C → SeqPass O C → Type 0
  SitsAt site pass = inner.SitsAt site.site pass.pass

  -- its past goes on
  abbrev pub KeepsPast : SeqPass O C → SeqPass O C → Type 0
  KeepsPast old new = inner.KeepsPast old.pass new.pass

  -- the last moment of its past is that of its own last step
  abbrev pub IsLatest : SeqPass O C → Type 0
  IsLatest pass = inner.IsLatest pass.pass

  -- it says the same of itself
  abbrev pub SaysSame : SeqPass O C → SeqPass O C → Type 0
  SaysSame old new = inner.SaysSame old.pass new.pass

  -- what the pass becomes that takes the task's number
  abbrev pub TakesNumber : {Call : Type 0} → Obj Call → Unavailable → SeqSite O C → ℕ → SeqPass O C → SeqPass O C → Type 0
  TakesNumber o unavailable site task old new = inner.TakesNumber o unavailable site.site task old.pass new.pass

  -- the pass's step of this number, counted from the old one on, found this number at this place
  abbrev pub FindsAtStep : (count at n : ℕ) → SeqPass O C → SeqPass O C → Type 0
  FindsAtStep count at n old new = single.FindsAtStep count at n old.pass new.pass

  -- Behind so many steps it found the length of what it has seen of the log, between two loads of one even sequence word.
  abbrev pub ReadsAtOneWord : (ahead : ℕ) → SeqPass O C → SeqPass O C → Type 0
  ReadsAtOneWord ahead old new = AtOneWord ahead (front_in new) (view_of old) (view_of new) (past_of old) (past_of new)

  -- the pass is one of the site's as before, and its past goes on
  abbrev pub StepsOn : SeqSite O C → SeqPass O C → SeqPass O C → Type 0
  StepsOn lock old new = callers.StepsOn SitsAt shown_of lock old new
