-- The rule of a table with a sequence word.
use Rattle.std.specs.Prelude.{◌≡◌, ◌≢◌, ◌⊎◌, ℕ, ◌+◌, ◌%◌, ◌<◌, true, List, [], length, map, slice_index}
use Rattle.word_bits.specs.LockWords.{Unavailable}
use Rattle.word_bits.specs.Objects.{Obj}
use Rattle.word_bits.specs.Histories.{Plan}
use Rattle.seq_fault.specs.Types.{View, Shared, Moment, Watch, Off}
use Rattle.lock_core.specs.declared.layout.TheConstants.{SPIN_ROOM}
use Rattle.lock_core.specs.Layout.{site, width}
use Rattle.lock_core.specs.Views.{hand_of, alone_of}
use Rattle.lock_core.specs.Sites.{SiteKept}
use Rattle.lock_core.specs.Moves.{SiteMoveWhere}
use Rattle.lock_core.specs.ViewParts.{Each}
use Rattle.lock_core.specs.Pasts.{opening}
use Rattle.lock_core.specs.Totals.{total}
use Rattle.seq_fault.specs.Watches.{WatchOk}

-- the place of the sequence word
abbrev pub seq_at : ℕ
seq_at = SPIN_ROOM

abbrev pub V : Type 0
V = View Watch

-- no call is told that it can't have the lock
abbrev pub never : Unavailable
never reads word = ⊥

abbrev pub unmarked : Watch → List ℕ
unmarked x = []

module _ {Call : Type 0} (o : Obj Call) (size : ℕ) where
  pub record SeqKept (k : Plan) (ws : List ℕ) (vs : List V) : Type 0 where
    pub wide : length ws ≡ width k
    pub site_holds : SiteKept o never size k (site k ws) (map hand_of vs)
    -- odd where a pass holds
    pub parity : slice_index ws seq_at % 2 ≡ total alone_of (map hand_of vs)
    -- it never wraps
    pub few : slice_index ws seq_at < 18446744073709551615
    pub apart : Each (λ v. v.hand.held ≢ Shared) vs
    pub watches : Each (λ v. WatchOk o size k (slice_index ws seq_at) (site k ws) v.ext) vs

-- The sequence word stays with who holds, or rises by one.
abbrev pub SeqStep : (ws us : List ℕ) (vs vs' : List V) → Type 0
SeqStep ws us vs vs' = ((slice_index us seq_at ≡ slice_index ws seq_at) × (total alone_of (map hand_of vs') ≡ total alone_of (map hand_of vs))) ⊎ (slice_index us seq_at ≡ slice_index ws seq_at + 1)

-- all that each step of a site does where calls may read without a hold, and what it does to the sequence word
abbrev pub SeqMoves : Plan → ℕ → List ℕ → List V → List ℕ → List V → Type 0
SeqMoves k id ws vs us vs' = SiteMoveWhere true id (slice_index ws seq_at) (site k ws) vs (site k us) vs' × SeqStep ws us vs vs'

-- a new table
abbrev pub newest : Plan → Moment
newest k = opening unmarked k Off
