-- What a pass knows that has looked back.
use Rattle.std.specs.Prelude.{ℕ, List, [], ◌∷◌}
use Rattle.word_bits.specs.Objects.{Obj}
use Rattle.word_bits.specs.Histories.{Plan}
use Rattle.mm_serve.specs.Types.{Moment}
use Rattle.lock_core.specs.Kinds.{Kind}
use Rattle.lock_core.specs.Locked.{IsLockedThen, IsSiteStep}
use Rattle.lock_core.specs.Linear.{IsLinearizable}
use Rattle.lock_core.specs.Pasts.{EachMoment, Paced, Tail}
use Rattle.lock_core.specs.Shown.{Shown, IsLatestStep}
use Rattle.lock_core.specs.SiteStated.{IsNew}

-- At each moment so far, from the one on that the lock names as opened, the facts of every site were so. At each of them the lock's word stated who held and whether there were tasks that the lock
-- names as waiting. Each step so far did to the site's words what every step does, and each call took effect at one step. That first moment is one of a new table, and what the lock tells of its own
-- is so now.
pub record KnowsPast {Call : Type 0} (o : Obj Call) (kind : Kind) (size : ℕ) (word_at : ℕ) (waits : Plan → Moment → List ℕ → Type 0) (tells : Plan → Shown → Type 0) (opened : Plan → Moment) (k : Plan)
    (u : Shown) : Type 0 where
  pub last : IsLatestStep u
  pub new : IsNew o size k (opened k)
  pub begins : Tail (opened k ∷ []) u.past
  pub always : EachMoment (IsLockedThen o kind size k word_at waits) u.past
  pub moves : Paced (IsSiteStep k word_at) u.past
  -- each call took effect at the one step that stored its record
  pub linear : IsLinearizable o size k u.past
  pub told : tells k u
