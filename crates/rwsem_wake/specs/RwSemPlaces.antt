-- Where a pass stands in a call on a semaphore, and what callers of any lock see of it.
use Rattle.std.specs.Prelude.{◌≡◌, ℕ, false, []}
use Rattle.lock_core.specs.SiteHandles.{view_of, past_of}
use Rattle.lock_core.specs.Shown.{Shown, shown}
use Rattle.rwsem_wake.specs.SemParts.{apart_hand}
use Rattle.rwsem_wake.specs.declared.woken.WakeCounts.{WakeCounts}
use Rattle.rwsem_wake.specs.RwSemViews.{V, IsDone}
use Rattle.rwsem_wake.specs.Types.{Line, Pass, Absent, RwSemHand}

-- how a pass has stood in line
abbrev pub line_of : RwSemHand → Line
line_of e = record { appends = e.appends }

-- it waits for nothing, has no bias in the count, and is between no two steps that belong together; it has no wake to do
pub record IsOutside (v : V) : Type 0 where
  pub apart : v.ext.sem ≡ apart_hand
  pub still : v.ext.list.changes ≡ false
  pub done : IsDone v.ext.wake

-- the same, but it may owe a wake
pub record MayOwe (v : V) : Type 0 where
  pub apart : v.ext.sem ≡ apart_hand
  pub still : v.ext.list.changes ≡ false
  pub none : v.ext.wake.chosen ≡ []
  pub absent : v.ext.wake.wait_state ≡ Absent

-- how often it has fallen asleep
abbrev pub dozes_of : V → ℕ
dozes_of v = v.ext.wake.dozes

-- the counts are what the pass knows: how many wake words it has set, and how often it has fallen asleep
pub record AreCounts (counts : WakeCounts) (v : V) : Type 0 where
  pub wakes : counts.wakes ≡ v.ext.wake.wakes
  pub dozes : counts.dozes ≡ v.ext.wake.dozes

module _ {R O C : Type 0} where
  -- a pass of the site, as callers of any lock see it
  abbrev pub seen_of : Pass R O RwSemHand C → Shown
  seen_of pass = shown line_of (view_of pass).fronts (view_of pass) (past_of pass)
