-- Linearization points: each recorded call takes effect at one step, at which a pass with its task's number stores its record. Beside the table goes an abstract state, which only these steps change.
use Rattle.std.specs.Prelude.{◌≡◌, ◌≢◌, ℕ, ◌+◌, ◌⊎◌, not, false, List, [], ◌∷◌, length, map, take, slice_get, slice_index, slice_set, Some}
use mathlib.Core.Option.{some}
use lib.ListN.{get_elem?}
use Rattle.word_bits.specs.EntryWord.{IsEntry, entry_word}
use Rattle.word_bits.specs.RecWord.{IsRec, rec_word}
use Rattle.word_bits.specs.Objects.{Obj}
use Rattle.word_bits.specs.Histories.{Plan, state_after}
use Rattle.lock_core.specs.Plans.{start}
use Rattle.lock_core.specs.Layout.{SiteWords, site}
use Rattle.lock_core.specs.Records.{bit, row}
use Rattle.lock_core.specs.Totals.{total}
use Rattle.lock_core.specs.Types.{CallWords, Entry, Rec, Reply, Busy, Intr, Sent, Hand, No, Alone, Moment}
use Rattle.lock_core.specs.Views.{owed_of}
use Rattle.lock_core.specs.ViewParts.{Each}

module _ {Call : Type 0} (o : Obj Call) where
  -- A pass with this hand holds, alone if its call may change the object, and the call, with these words and this record, looks at the object or changes it. Before, so many changing calls had taken
  -- effect, and the object was in this state; the call stands behind just these. Its reply and the object's next state are what the call means on that state.
  pub record AppliesCall (h : Hand) (w : CallWords) (r : Rec) (n : ℕ) (s : o.State) (n' : ℕ) (s' : o.State) : Type 0 where
    pub call : Call
    pub is : o.call_of w ≡ Some call
    pub holds : h.held ≢ No
    pub alone : o.reads call ≡ false → h.held ≡ Alone
    pub place : r.k ≡ n
    pub reply : r.reply ≡ (o.meaning s call).1
    pub state : s' ≡ (o.meaning s call).0
    pub counts : n' ≡ n + bit (not (o.reads call))

  -- what a call does that is recorded with this reply: busy, EINTR and sent are allowed in any state, and leave it
  abbrev pub TakesEffect : Hand → CallWords → Rec → Reply → (n : ℕ) → o.State → (n' : ℕ) → o.State → Type 0
  TakesEffect h w r (Busy word) n s n' s' = (n' ≡ n) × (s' ≡ s)
  TakesEffect h w r Intr n s n' s' = (n' ≡ n) × (s' ≡ s)
  TakesEffect h w r Sent n s n' s' = (n' ≡ n) × (s' ≡ s)
  TakesEffect h w r reply n s n' s' = AppliesCall h w r n s n' s'

  -- The step is the linearization point of a call: one of the passes makes it, with this hand, it stores the record of the next call of that pass's task, which had none, and the call takes effect.
  pub record IsLinearizationPoint (k : Plan) (w w' : SiteWords) (hs : List Hand) (steps steps' : List ℕ) (n : ℕ) (s : o.State) (n' : ℕ) (s' : o.State) : Type 0 where
    pub id : ℕ
    pub hand : Hand
    pub at : get_elem? hs id ≡ some hand
    pub had : ℕ
    pub had_steps : get_elem? steps id ≡ some had
    pub has_steps : get_elem? steps' id ≡ some (had + 1)
    pub task : ℕ
    pub named : hand.task ≡ Some task
    pub words : CallWords
    pub planned : slice_get (row k task) hand.done ≡ Some words
    pub rec : Rec
    pub fits : IsRec rec
    pub empty : slice_index w.recs (start k task + hand.done) ≡ 0
    pub stored : w'.recs ≡ slice_set w.recs (start k task + hand.done) (rec_word rec)
    pub effect : TakesEffect hand words rec rec.reply n s n' s'

  -- one step: it stores no record and leaves the object, or it stores the record of a call, which takes effect
  abbrev pub IsSimulationStep : Plan → SiteWords → SiteWords → List Hand → (steps steps' : List ℕ) → (n : ℕ) → o.State → (n' : ℕ) → o.State → Type 0
  IsSimulationStep k w w' hs steps steps' n s n' s' = ((w'.recs ≡ w.recs) × (n' ≡ n) × (s' ≡ s)) ⊎ IsLinearizationPoint k w w' hs steps steps' n s n' s'

  -- What the abstract state is of a table: so many changing calls have taken effect as the log has entries whose records no pass owes, and the state is that after these. Where no pass writes or owes
  -- a record, the guarded words represent it.
  pub record RepresentsAbstractState (size : ℕ) (k : Plan) (w : SiteWords) (hs : List Hand) (n : ℕ) (s : o.State) : Type 0 where
    pub log : List Entry
    pub entries : (w.len ≡ length log) × (take (length log) w.entries ≡ map entry_word log)
    pub count : n + total owed_of hs ≡ length log
    pub fits : (j : ℕ) (e : Entry) → slice_get (take n log) j ≡ Some e → IsEntry e
    pub state : s ≡ state_after o k (take n log)
    pub stored : Each (λ h. (h.writes ≡ false) × (owed_of h ≡ 0)) hs → o.Represents s (take size w.guarded)

  -- At the last of these moments, which go back to a new table, so many changing calls had taken effect, each at one step, and they leave this state. At first none had, and the object is empty.
  abbrev pub LinearizesTo : (size : ℕ) → Plan → List Moment → (n : ℕ) → o.State → Type 0
  LinearizesTo size k [] n s = ⊥
  LinearizesTo size k (m ∷ []) n s = RepresentsAbstractState size k (site k m.words) m.hands n s × (n ≡ 0) × (s ≡ o.empty)
  LinearizesTo size k (y ∷ x ∷ past) n' s' = RepresentsAbstractState size k (site k y.words) y.hands n' s'
      × ((n : ℕ) × (s : o.State) × IsSimulationStep k (site k x.words) (site k y.words) x.hands x.steps y.steps n s n' s' × LinearizesTo size k (x ∷ past) n s)

  -- In these moments each call that was recorded since the first of them has its linearization point at the step that stored its record. Of calls without a record this says nothing.
  abbrev pub IsLinearizable : (size : ℕ) → Plan → List Moment → Type 0
  IsLinearizable size k past = (n : ℕ) × (s : o.State) × LinearizesTo size k past n s

-- this list of entries, each of which its word tells, is what the words of the log say
pub record IsLogOf (w : SiteWords) (log : List Entry) : Type 0 where
  pub many : w.len ≡ length log
  pub entries : take (length log) w.entries ≡ map entry_word log
  pub fits : (j : ℕ) (e : Entry) → slice_get log j ≡ Some e → IsEntry e

-- In a linearizable history, wherever no pass owes a record, as many changing calls have taken effect as the log has entries, and the abstract state is that after the whole log.
abbrev pub StateIsThatAfterLog : {Call : Type 0} → (o : Obj Call) → (size : ℕ) → Type 0
StateIsThatAfterLog o size = (k : Plan) (now : Moment) (past : List Moment) (n : ℕ) (s : o.State) → LinearizesTo o size k (now ∷ past) n s → Each (λ h. owed_of h ≡ 0) now.hands
    → (log : List Entry) → IsLogOf (site k now.words) log → (n ≡ length log) × (s ≡ state_after o k log)
