-- The rule of a table with an owner word alone.
use Rattle.std.specs.Prelude.{◌≡◌, ℕ, ◌%◌, List, [], length, map, slice_index}
use Rattle.word_bits.specs.LockWords.{owned}
use Rattle.word_bits.specs.Objects.{Obj}
use Rattle.word_bits.specs.Histories.{Plan}
use Rattle.lock_core.specs.declared.layout.TheConstants.{SPIN_ROOM}
use Rattle.lock_core.specs.Layout.{site, width}
use Rattle.lock_core.specs.Views.{hand_of}
use Rattle.lock_core.specs.Sites.{SiteKept}
use Rattle.lock_core.specs.Moves.{SiteMove}
use Rattle.lock_core.specs.Pasts.{opening}
use Rattle.lock_core.specs.SiteStated.{IsSite}
use Rattle.mutex_word.specs.Holders.{OwnKept, IsTurn, StatesHolder}
use Rattle.mutex_word.specs.Types.{Turn, View, Hand, Moment}

-- the place of the owner word, behind the room of the spin locks
abbrev pub owner_at : ℕ
owner_at = SPIN_ROOM

-- nothing sets a flag
abbrev pub IsPlain : ℕ → Type 0
IsPlain word = word % 8 ≡ 0

abbrev pub V : Type 0
V = View (Unit {0})

module _ {Call : Type 0} (o : Obj Call) (size : ℕ) where
  -- the facts of a site, and the owner word states who holds
  pub record IsOwnerSite (k : Plan) (ws : List ℕ) (hs : List Hand) : Type 0 where
    pub is_site : IsSite o owned size k (site k ws) hs
    pub owner : StatesHolder (slice_index ws owner_at) hs

  -- so they were at this moment
  abbrev pub IsOwnerSiteThen : Plan → Moment → Type 0
  IsOwnerSiteThen k m = IsOwnerSite k m.words m.hands

  pub record OwnerKept (k : Plan) (ws : List ℕ) (vs : List V) : Type 0 where
    pub wide : length ws ≡ width k
    pub site_holds : SiteKept o owned size k (site k ws) (map hand_of vs)
    pub own : OwnKept (slice_index ws owner_at) (map hand_of vs)
    pub plain : IsPlain (slice_index ws owner_at)

-- all that each step of a site does
abbrev pub OwnerMoves : Plan → ℕ → List ℕ → List V → List ℕ → List V → Type 0
OwnerMoves k id ws vs us vs' = SiteMove id (slice_index ws owner_at) (site k ws) vs (site k us) vs'

-- a step may leave a word without flags
abbrev pub leaves_plain : Turn → V → ℕ → ℕ → Type 0
leaves_plain t v old new = IsPlain new × IsTurn t old new

abbrev pub unturned : Turn → V → Unit {0}
unturned t v = tt

-- a moment keeps nothing beyond
abbrev pub unmarked : Unit {0} → List ℕ
unmarked x = []

-- a new table
abbrev pub newest : Plan → Moment
newest k = opening unmarked k tt
