-- In what order the calls on an object stand.
use Rattle.std.specs.Prelude.{◌≡◌, ℕ, ◌+◌, ◌≤◌, List, [], ◌∷◌, drop, slice_get, slice_index, Some}
use Rattle.word_bits.specs.RecWord.{IsRec, rec_word}
use Rattle.word_bits.specs.Objects.{Obj, IsObjectReply}
use Rattle.word_bits.specs.Histories.{Plan, changes}
use Rattle.lock_core.specs.Plans.{start}
use Rattle.lock_core.specs.Layout.{site}
use Rattle.lock_core.specs.Linear.{IsLinearizable}
use Rattle.lock_core.specs.Pasts.{Tail}
use Rattle.lock_core.specs.Records.{bit, row}
use Rattle.lock_core.specs.SiteStated.{IsNew}
use Rattle.lock_core.specs.Types.{CallWords, Rec, Moment}

-- the word of a call's record
abbrev pub record_in : Plan → Moment → (task call : ℕ) → ℕ
record_in k m t c = slice_index (site k m.words).recs (start k t + c)

-- a call of the plan has this record at the moment, and held: it replied otherwise than busy, EINTR or sent
pub record IsServed (k : Plan) (m : Moment) (t c : ℕ) (w : CallWords) (r : Rec) : Type 0 where
  pub planned : slice_get (row k t) c ≡ Some w
  pub recorded : record_in k m t c ≡ rec_word r
  pub fits : IsRec r
  pub served : IsObjectReply r.reply

-- In a linearizable history, of two calls that held, the one that was recorded while the other wasn't stands no later than that one, and before it if it changes the object.
abbrev pub PlacesFollowLinearizationPoints : {Call : Type 0} → (o : Obj Call) → (size : ℕ) → Type 0
PlacesFollowLinearizationPoints o size = (k : Plan) (new : Moment) (past : List Moment) → IsLinearizable o size k past → IsNew o size k new → Tail (new ∷ []) past
    → (n : ℕ) (early late : Moment) (before until : List Moment) → past ≡ late ∷ until → drop n past ≡ early ∷ before
    → (t c u d : ℕ) (v w : CallWords) (q r : Rec) → IsServed k early t c v q → record_in k early u d ≡ 0 → IsServed k late u d w r → q.k + bit (changes o v) ≤ r.k
