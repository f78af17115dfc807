-- What a pass of a lock shows that has a pass of a site.
use Rattle.std.proofs.Common.{◌≡◌, ap}
use Rattle.lock_core.specs.declared.pass.Pass.{Pass}
use Rattle.lock_core.specs.SiteHandles.{view_of, hand_in, past_of}
use Rattle.lock_core.specs.Shown.{Shown}

module _ {R O E C : Type 0} where
  -- it shows what the pass of the site knows
  pub record IsFace (pass : Pass R O E C) (v : Shown) : Type 0 where
    pub hand : v.hand ≡ hand_in pass
    pub spin : v.spin ≡ (view_of pass).spin
    pub steps : v.steps ≡ (view_of pass).steps
    pub past : v.past ≡ past_of pass

  -- so it does after a call that left its place in line, and what it counted
  pub record Follows (pass : Pass R O E C) (v u : Shown) : Type 0 where
    pub face : IsFace pass u
    pub fronts : u.fronts ≡ v.fronts
    pub line : u.line ≡ v.line
    pub swaps : u.swaps ≡ v.swaps
    pub tally : u.tally ≡ v.tally

  -- the pass of the site has the number that it had, holds as it did, and has the word that its last hold left
  abbrev pub KeepsHold : Pass R O E C → Pass R O E C → Type 0
  KeepsHold old new = ((hand_in new).task ≡ (hand_in old).task) × ((hand_in new).held ≡ (hand_in old).held) × ((hand_in new).freed ≡ (hand_in old).freed)

-- a lock's pass with one pass of the site or with an equal one is the same
pub same-put : {P W : Type 0} (put : W → P) (w v : W) → w ≡ v → put w ≡ put v
same-put put w v same = ap put same
