-- What the sequence word says at each moment.
use Rattle.std.specs.Prelude.{◌≡◌, ◌≢◌, ℕ, ◌+◌, ◌-◌, ◌*◌, ◌%◌, ◌≤◌, List, [], ◌∷◌, take, slice_get, slice_index, Some}
use Rattle.word_bits.specs.Objects.{Obj}
use Rattle.word_bits.specs.Histories.{Plan, state_after}
use Rattle.lock_core.specs.Layout.{site}
use Rattle.lock_core.specs.ViewParts.{Each}
use Rattle.lock_core.specs.Sites.{SameObject}
use Rattle.lock_core.specs.SiteStated.{IsSite}
use Rattle.lock_core.specs.Totals.{total}
use Rattle.lock_core.specs.Views.{alone_of}
use Rattle.seq_fault.specs.SeqRuled.{never, seq_at}
use Rattle.seq_fault.specs.Types.{Hand, Shared, Moment}

abbrev pub seq_of : Moment → ℕ
seq_of m = slice_index m.words seq_at

module _ {Call : Type 0} (o : Obj Call) (size : ℕ) where
  -- The facts of a site; the sequence word is odd exactly where a pass holds alone, and no pass holds in another way.
  pub record IsSeqSite (k : Plan) (ws : List ℕ) (hs : List Hand) : Type 0 where
    pub is_site : IsSite o never size k (site k ws) hs
    pub odd : slice_index ws seq_at % 2 ≡ total alone_of hs
    pub apart : Each (λ h. h.held ≢ Shared) hs
    -- where it is even, the guarded words represent the state after the log
    pub quiet : slice_index ws seq_at % 2 ≡ 0 → o.Represents (state_after o k is_site.log) (take size (site k ws).guarded)

  -- so they were at this moment
  abbrev pub IsSeqSiteThen : Plan → Moment → Type 0
  IsSeqSiteThen k m = IsSeqSite k m.words m.hands

-- how many passes hold alone
abbrev pub holders : Moment → ℕ
holders m = total alone_of m.hands

-- how often a pass has come to hold alone, up to the last of these moments, which stands first
abbrev pub enters : List Moment → ℕ
enters [] = 0
enters (m ∷ []) = 0
enters (m ∷ n ∷ past) = (holders m - holders n) + enters (n ∷ past)

-- at each moment the word is twice the number of enters up to it, less one while a pass holds
abbrev pub CountsEnters : List Moment → Type 0
CountsEnters [] = Unit {0}
CountsEnters (m ∷ past) = (seq_of m + holders m ≡ 2 * enters (m ∷ past)) × CountsEnters past

-- At two moments the word is the same even one. Then no guarded word and no word of the log differs between the earlier one and any moment up to the later one.
abbrev pub StaysAtOneWord : Plan → List Moment → Type 0
StaysAtOneWord k past = (later between earlier : ℕ) (m p n : Moment) → slice_get past later ≡ Some m → slice_get past between ≡ Some p → slice_get past earlier ≡ Some n → later ≤ between
    → between ≤ earlier
    → seq_of m ≡ seq_of n → seq_of n % 2 ≡ 0 → SameObject (site k n.words) (site k p.words)
