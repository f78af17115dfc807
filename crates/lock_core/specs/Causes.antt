-- That a call which replies busy, interrupted or sent has its cause at a step of a pass with its task's number, behind the task's record before it on the object and not behind its own.
use Rattle.std.specs.Prelude.{◌≡◌, ℕ, ◌+◌, ◌<◌, ◌≤◌, Bool, List, ◌∷◌, length, slice_get, slice_index, Some}
use Rattle.word_bits.specs.declared.TheConstants.{MAX_TASKS}
use mathlib.Core.Option.{some}
use lib.ListN.{get_elem?}
use Rattle.word_bits.specs.Calls.{signal_of}
use Rattle.word_bits.specs.RecWord.{IsRec, rec_word}
use Rattle.word_bits.specs.LockWords.{Unavailable}
use Rattle.word_bits.specs.Objects.{Obj}
use Rattle.word_bits.specs.Histories.{Plan}
use Rattle.lock_core.specs.Layout.{site}
use Rattle.lock_core.specs.Locked.{IsSiteStepWhere}
use Rattle.lock_core.specs.Orders.{record_in}
use Rattle.lock_core.specs.Pasts.{BeganWith, EachMoment, Paced, Tail}
use Rattle.lock_core.specs.Records.{row}
use Rattle.lock_core.specs.Sites.{consumed_at, sent_at}
use Rattle.lock_core.specs.SiteStated.{IsNew, IsSiteThen}
use Rattle.lock_core.specs.Types.{CallWords, Rec, Reply, Busy, Intr, Sent, Hand, No, Moment}

-- A step of this past, from the first moment to the second, that was made while this call was the task's next on the object: the pass that made it had the task's number, and had recorded just so many
-- of the task's calls. It has this hand before and this one after. Of calls on other objects this says nothing.
pub record IsStepDuring (past : List Moment) (task call : ℕ) (x y : Moment) (h g : Hand) : Type 0 where
  pub rest : List Moment
  pub is : Tail (y ∷ x ∷ rest) past
  pub pass : ℕ
  pub before : get_elem? x.hands pass ≡ some h
  pub after : get_elem? y.hands pass ≡ some g
  pub had : ℕ
  pub had_steps : get_elem? x.steps pass ≡ some had
  pub has_steps : get_elem? y.steps pass ≡ some (had + 1)
  pub named : h.task ≡ Some task
  pub done : h.done ≡ call

-- While the call was its task's next, its pass tried in vain: it held nothing, counted the failed try, and the lock's word, which stands at this place, was this one.
abbrev pub FailedTryDuring : (word_at : ℕ) → List Moment → (task call word : ℕ) → Type 0
FailedTryDuring word_at past task call word = (x : Moment) × (y : Moment) × (h : Hand) × (g : Hand) × IsStepDuring past task call x y h g × (h.held ≡ No) × (g.misses ≡ h.misses + 1)
    × (slice_index x.words word_at ≡ word)

-- While the call was its task's next, its pass raised this word of the tasks' lines.
abbrev pub RaisedDuring : Plan → List Moment → (task call place : ℕ) → Type 0
RaisedDuring k past task call place = (x : Moment) × (y : Moment) × (h : Hand) × (g : Hand) × IsStepDuring past task call x y h g
    × (slice_index (site k x.words).lines place < slice_index (site k y.words).lines place)

-- the call is of the plan, and has this record at the moment
pub record IsRecordedThen (k : Plan) (m : Moment) (t c : ℕ) (r : Rec) : Type 0 where
  pub planned : c < length (row k t)
  pub fits : IsRec r
  pub recorded : record_in k m t c ≡ rec_word r

-- What a call that replied so had as its cause in this past. Busy: a try of it failed, which saw the word that it replies. Interrupted: it consumed a signal to its task, and a try of it failed. Sent:
-- it is a signal, and sent one to its target.
pub record HasCause (k : Plan) (word_at : ℕ) (past : List Moment) (t c : ℕ) (reply : Reply) : Type 0 where
  pub busy : (word : ℕ) → reply ≡ Busy word → FailedTryDuring word_at past t c word
  pub interrupted : reply ≡ Intr → RaisedDuring k past t c (consumed_at t)
  pub tried : reply ≡ Intr → (word : ℕ) × FailedTryDuring word_at past t c word
  pub sent : reply ≡ Sent → (w : CallWords) × (target : ℕ) × (slice_get (row k t) c ≡ Some w) × (signal_of w ≡ Some target) × (target < MAX_TASKS → RaisedDuring k past t c (sent_at target))

-- In the past of a table that goes back to its opening, each call that is recorded by now has its cause. `unheld` says whether calls may read without a hold.
abbrev pub CallsHaveCauses : {Call : Type 0} → Obj Call → Unavailable → (size word_at : ℕ) → Type 0
CallsHaveCauses o unavailable size word_at =
    (unheld : Bool) (k : Plan) (new now : Moment) (before : List Moment) → length k ≤ MAX_TASKS
    → EachMoment (IsSiteThen o unavailable size k) (now ∷ before) → Paced (IsSiteStepWhere unheld k word_at) (now ∷ before)
    → IsNew o size k new → BeganWith new (now ∷ before)
    → (t c : ℕ) (r : Rec) → IsRecordedThen k now t c r → HasCause k word_at (now ∷ before) t c r.reply
