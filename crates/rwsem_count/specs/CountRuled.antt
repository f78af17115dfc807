-- The rule of a table with a count alone, of which nothing sets a flag.
use Rattle.std.specs.Prelude.{◌≡◌, ℕ, ◌+◌, ◌/◌, ◌%◌, ◌≤◌, List, length, map, slice_index}
use Rattle.word_bits.specs.LockWords.{counted}
use Rattle.word_bits.specs.Objects.{Obj}
use Rattle.word_bits.specs.Histories.{Plan}
use Rattle.lock_core.specs.declared.layout.TheConstants.{SPIN_ROOM}
use Rattle.lock_core.specs.Layout.{site, width}
use Rattle.lock_core.specs.Views.{hand_of, held_weight, number_weight}
use Rattle.lock_core.specs.Sites.{SiteKept}
use Rattle.lock_core.specs.Moves.{SiteMove}
use Rattle.lock_core.specs.ViewParts.{Each}
use Rattle.lock_core.specs.Pasts.{opening}
use Rattle.lock_core.specs.SiteStated.{IsSite}
use Rattle.rwsem_count.specs.Counts.{CountKept, CountPart, count_part}
use Rattle.rwsem_count.specs.CountStated.{StatesCount, kept_bias}
use Rattle.rwsem_count.specs.Types.{View, Hand, Marks, Moment, Bias, Clear, Transit, Reserve}

-- the place of the count, behind the room of the spin locks
abbrev pub count_at : ℕ
count_at = SPIN_ROOM

abbrev pub V : Type 0
V = View Bias

abbrev pub same_bias : Bias → Bias
same_bias b = b

abbrev pub new_bias : V → Hand → Bias → Bias
new_bias v h b = b

-- neither WAITERS nor HANDOFF is set
abbrev pub IsPlain : ℕ → Type 0
IsPlain word = word / 2 % 128 ≡ 0

-- none, that of a try, and a waker's
abbrev pub bias_kind : Bias → ℕ
bias_kind Clear = 0
bias_kind (Transit word) = 1
bias_kind (Reserve word) = 2

-- a pass with a number holds, or its try is in transit; one without does neither
abbrev pub IsLight : V → Type 0
IsLight v = held_weight v.hand.held + bias_kind v.ext ≤ number_weight v.hand.task

abbrev pub may_count : V → CountPart → Type 0
may_count v p = held_weight p.held + bias_kind p.bias ≤ 1

-- a try fails of a pass alone whose bias isn't in the count
abbrev pub may_miss : V → Type 0
may_miss v = v.ext ≡ Clear

module _ {Call : Type 0} (o : Obj Call) (size : ℕ) where
  -- the facts of a site, and the count states who holds and whose bias is in it
  pub record IsCountSite (k : Plan) (ws : List ℕ) (hs : List Hand) (ms : List Marks) : Type 0 where
    pub is_site : IsSite o counted size k (site k ws) hs
    pub count : StatesCount (slice_index ws count_at) hs ms

  -- so they were at this moment
  abbrev pub IsCountSiteThen : Plan → Moment → Type 0
  IsCountSiteThen k m = IsCountSite k m.words m.hands m.marks

  pub record CountRuleKept (k : Plan) (ws : List ℕ) (vs : List V) : Type 0 where
    pub wide : length ws ≡ width k
    pub site_holds : SiteKept o counted size k (site k ws) (map hand_of vs)
    pub count : CountKept (slice_index ws count_at) 0 (map (count_part same_bias) vs)
    pub plain : IsPlain (slice_index ws count_at)
    pub light : Each IsLight vs

-- all that each step of a site does
abbrev pub CountMoves : Plan → ℕ → List ℕ → List V → List ℕ → List V → Type 0
CountMoves k id ws vs us vs' = SiteMove id (slice_index ws count_at) (site k ws) vs (site k us) vs'

-- a new table
abbrev pub newest : Plan → Moment
newest k = opening kept_bias k Clear
