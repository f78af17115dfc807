-- What a clause reads of a site with a count, and of a pass of it.
use Rattle.std.specs.Prelude.{◌≡◌, ℕ, Bool, List, Option}
use Rattle.word_bits.specs.OwnerWord.{bit}
use Rattle.word_bits.specs.LockWords.{Unavailable}
use Rattle.word_bits.specs.Objects.{Obj}
use Rattle.word_bits.specs.Histories.{Plan}
use Rattle.lock_core.specs.SiteHandles as inner
use Rattle.lock_core.specs.Shown as callers
use Rattle.lock_core.specs.Shown.{Shown, no_line, shown}
use Rattle.rwsem_count.specs.declared.pass.CountPass.{CountPass}
use Rattle.rwsem_count.specs.declared.site.CountSite.{CountSite}
use Rattle.rwsem_count.specs.CountRuled.{V, IsLight, bias_kind}
use Rattle.rwsem_count.specs.Types.{Hand, Held, Moment, Past}

module _ {O C : Type 0} where
  -- the calls that the site's tasks make
  abbrev pub plan_of : CountSite O C → Plan
  plan_of site = inner.plan_of site.site

  -- what a pass knows
  abbrev pub view_of : CountPass O C → V
  view_of pass = inner.view_of pass.pass

  -- the part of it that concerns the site's own words
  abbrev pub hand_in : CountPass O C → Hand
  hand_in pass = inner.hand_in pass.pass

  -- the moments of the table up to the pass's last step, the last one first
  abbrev pub past_of : CountPass O C → List Moment
  past_of pass = inner.past_of pass.pass

  -- those of the passes that it took in since its last step
  abbrev pub joined_by : CountPass O C → List Past
  joined_by pass = inner.joined_by pass.pass

  abbrev pub task_in : CountPass O C → Option ℕ
  task_in pass = inner.task_in pass.pass

  abbrev pub held_in : CountPass O C → Held
  held_in pass = inner.held_in pass.pass

  abbrev pub front_in : CountPass O C → ℕ
  front_in pass = inner.front_in pass.pass

  -- it says of itself that it is in transit: its try has added a bias, and neither holds by it nor has taken it back
  abbrev pub transit_in : CountPass O C → Bool
  transit_in pass = pass.transit

  -- what callers of any lock see of a pass: nobody stands in line
  abbrev pub shown_of : CountPass O C → Shown
  shown_of pass = shown (λ x. no_line) (view_of pass).fronts (view_of pass) (past_of pass)

  -- the pass is one of the site's, and says of itself what its view does; where its try is in transit it has a number, and holds nothing
  pub record SitsAt (site : CountSite O C) (pass : CountPass O C) : Type 0 where
    pub seat : inner.SitsAt site.site pass.pass
    pub noted : bias_kind (view_of pass).ext ≡ bit (transit_in pass)
    pub light : IsLight (view_of pass)

  -- its past goes on
  abbrev pub KeepsPast : CountPass O C → CountPass O C → Type 0
  KeepsPast old new = inner.KeepsPast old.pass new.pass

  -- the last moment of its past is that of its own last step
  abbrev pub IsLatest : CountPass O C → Type 0
  IsLatest pass = inner.IsLatest pass.pass

  -- what the pass becomes that takes the task's number
  abbrev pub TakesNumber : {Call : Type 0} → Obj Call → Unavailable → CountSite O C → ℕ → CountPass O C → CountPass O C → Type 0
  TakesNumber o unavailable site task old new = inner.TakesNumber o unavailable site.site task old.pass new.pass

  -- the pass is one of the site's as before, and its past goes on
  abbrev pub StepsOn : CountSite O C → CountPass O C → CountPass O C → Type 0
  StepsOn lock old new = callers.StepsOn SitsAt shown_of lock old new
