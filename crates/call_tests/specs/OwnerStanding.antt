-- How a pass stands between two calls of its task, and between two tasks.
use Rattle.std.specs.Prelude.{◌≡◌, None}
use Rattle.lock_core.specs.SiteHandles as inner
use Rattle.lock_core.specs.Views.{SpinRests}
use Rattle.mutex_word.specs.declared.site.OwnerPass.{OwnerPass}
use Rattle.mutex_word.specs.declared.site.OwnerSite.{OwnerSite}
use Rattle.mutex_word.specs.OwnerHandles.{hand_in, task_in, view_of, SitsAt}

module _ {O C : Type 0} where
  -- it says the same of itself
  abbrev pub SaysSame : OwnerPass O C → OwnerPass O C → Type 0
  SaysSame old new = inner.SaysSame old.pass new.pass

  -- each signal that it sent or consumed is recorded
  pub record OwesNothing (pass : OwnerPass O C) : Type 0 where
    pub sent : (hand_in pass).sent ≡ None
    pub consumed : (hand_in pass).consumed ≡ 0

  -- as many signals as before aren't
  pub record OwesSame (old new : OwnerPass O C) : Type 0 where
    pub sent : (hand_in new).sent ≡ (hand_in old).sent
    pub consumed : (hand_in new).consumed ≡ (hand_in old).consumed

  -- what it has to do with the spin lock is as before
  abbrev pub SameSpin : OwnerPass O C → OwnerPass O C → Type 0
  SameSpin old new = (view_of new).spin ≡ (view_of old).spin

  -- it is one of the site's, has no number, and so holds nothing and owes nothing; nor has it the spin lock
  pub record Idles (site : OwnerSite O C) (pass : OwnerPass O C) : Type 0 where
    pub own : SitsAt site pass
    pub numberless : task_in pass ≡ None
    pub unspun : SpinRests (view_of pass).spin
