-- What definitions above the locks read of a kind of lock.
use Rattle.std.specs.Prelude.{ℕ, List}
use Rattle.word_bits.specs.Histories.{Plan}
use Rattle.lock_core.specs.declared.view.Moment.{Moment}
use Rattle.lock_core.specs.Kinds.{Kind}
use Rattle.lock_core.specs.Shown.{Shown}

-- of locks L with passes P: the calls on a lock, what a pass shows, which passes are a lock's own, and the moments of its spin queue; what the lock's word tells and where it stands, a new table, and
-- which tasks wait; what the lock tells of its own and of its spin queue
pub record LockMembers (L P : Type 0) : Type 1 where
  pub calls_on : L → Plan
  pub view : P → Shown
  pub sits : L → P → Type 0
  pub spun : P → List Moment
  pub kind : Kind
  pub word_at : ℕ
  pub opened : Plan → Moment
  pub waits : Plan → Moment → List ℕ → Type 0
  pub tells : Plan → Shown → Type 0
  pub tells_queue : Plan → Shown → List Moment → Type 0

-- they are these
abbrev pub members : {L P : Type 0} → (L → Plan) → (P → Shown) → (L → P → Type 0) → (P → List Moment) → Kind → ℕ → (Plan → Moment) → (Plan → Moment → List ℕ → Type 0) → (Plan → Shown → Type 0)
    → (Plan → Shown → List Moment → Type 0) → LockMembers L P
members calls_on view sits spun kind word_at opened waits tells tells_queue = record {
  calls_on = calls_on;
  view = view;
  sits = sits;
  spun = spun;
  kind = kind;
  word_at = word_at;
  opened = opened;
  waits = waits;
  tells = tells;
  tells_queue = tells_queue;
}
