-- What the rule of every site says of its words and views, whatever its lock is.
use Rattle.std.specs.Prelude.{◌≡◌, ◌≢◌, ℕ, ◌+◌, ◌<◌, ◌≤◌, ◌⊎◌, Bool, true, false, List, [], ◌∷◌, length, take, map, slice_get, slice_index, replicate, Some, None}
use Rattle.word_bits.specs.declared.TheConstants.{MAX_TASKS}
use mathlib.Core.Option.{some}
use lib.ListN.{get_elem?}
use Rattle.word_bits.specs.EntryWord.{entry_word}
use Rattle.word_bits.specs.LockWords.{Unavailable}
use Rattle.word_bits.specs.Objects.{Obj}
use Rattle.word_bits.specs.Histories.{Plan, Records, state_after}
use Rattle.lock_core.specs.declared.layout.TheConstants.{LOCK_WORDS}
use Rattle.lock_core.specs.Plans.{calls_in, call_words}
use Rattle.lock_core.specs.Layout.{SiteWords, site}
use Rattle.lock_core.specs.Records.{row, rec_words, sends, intrs, IsLoggedAt, AreNext}
use Rattle.lock_core.specs.Views.{stranger, no_spin, named_of, sent_of, consumed_of, Knows}
use Rattle.lock_core.specs.Sites.{HasPlan, taken_at, sent_at, consumed_at}
use Rattle.lock_core.specs.Moves.{SiteMoveWhere}
use Rattle.lock_core.specs.Pasts.{ChangesOneWord, Instant}
use Rattle.lock_core.specs.Totals.{total}
use Rattle.lock_core.specs.Types.{Entry, Rec, Hand, Saw, No, Alone, Logged, Moment}
use Rattle.lock_core.specs.ViewParts.{Each}

-- the pass's next step records the entry, which is the log's last one
pub record Owes (h : Hand) (e : Entry) : Type 0 where
  pub task : h.task ≡ Some e.task
  pub call : h.done ≡ e.call
  pub alone : h.held ≡ Alone
  pub stage : h.stage ≡ Logged e

module _ {Call : Type 0} (o : Obj Call) (unavailable : Unavailable) (size : ℕ) (k : Plan) where
  pub record IsSite (w : SiteWords) (hs : List Hand) : Type 0 where
    -- the log's entries and the records of the calls, task by task
    pub log : List Entry
    pub told : Records
    -- the constant words are the plan, and so is that of every live view
    pub plan : w.calls ≡ call_words k
    pub plans : Each (λ h. HasPlan k h.plan) hs
    -- a number is taken exactly where one view has it
    pub numbers : (t : ℕ) → t < MAX_TASKS → (slice_index w.lines (taken_at t) ≡ total (named_of t) hs) × (total (named_of t) hs ≤ 1)
    -- who has a number has that of a task of the plan, and counts each of the task's records as done; who has none holds nothing and owes no signal
    pub tasks : Each (λ h. (t : ℕ) → h.task ≡ Some t → t < length k) hs
    pub done : Each (λ h. (t : ℕ) → h.task ≡ Some t → h.done ≡ length (row told t)) hs
    pub nameless : Each (λ h. h.task ≡ None → (h.held ≡ No) × (h.sent ≡ None) × (h.consumed ≡ 0)) hs
    -- whenever no view writes, the guarded words represent the state after the log; who writes holds alone, and no other view holds
    pub guarded : Each (λ h. h.writes ≡ false) hs → o.Represents (state_after o k log) (take size w.guarded)
    pub writers : Each (λ h. h.writes ≡ true → h.held ≡ Alone) hs
    pub apart : (i j : ℕ) (g h : Hand) → get_elem? hs i ≡ some g → get_elem? hs j ≡ some h → i ≢ j → g.writes ≡ true → h.held ≡ No
    -- who holds alone has no other beside it
    pub alone : (i j : ℕ) (g h : Hand) → get_elem? hs i ≡ some g → get_elem? hs j ≡ some h → i ≢ j → g.held ≡ Alone → h.held ≡ No
    -- who holds knows the guarded words and the log
    pub known : Each (λ h. h.held ≢ No → (h.known ≡ take size w.guarded) × (h.log ≡ log)) hs
    -- what each pass has seen begins the log
    pub entries : (w.len ≡ length log) × (take (length log) w.entries ≡ map entry_word log)
    pub seen : Each (λ h. take (length h.seen) log ≡ h.seen) hs
    -- what each pass knows of records, which it made or gathered, stands among them
    pub knows : Each (λ h. (e : Entry) (r : Rec) → Knows h e r → slice_get (row told e.task) e.call ≡ Some r) hs
    -- each record says what its call replied at its place; each entry has its record, or a view is about to store it
    pub records : w.recs ≡ rec_words k told
    pub legal : (t : ℕ) → AreNext o unavailable k log t 0 0 (row k t) (row told t)
    pub logged : (j : ℕ) (e : Entry) → slice_get log j ≡ Some e → IsLoggedAt o k told e j ⊎ ((i : ℕ) × (h : Hand) × (get_elem? hs i ≡ some h) × Owes h e)
    -- signals add up
    pub sent : (t : ℕ) → t < MAX_TASKS → slice_index w.lines (sent_at t) ≡ sends t k told + total (sent_of t) hs
    pub consumed : (t : ℕ) → t < MAX_TASKS → slice_index w.lines (consumed_at t) ≡ intrs (row told t) + total (consumed_of t) hs
    pub pending : (t : ℕ) → t < MAX_TASKS → slice_index w.lines (consumed_at t) ≤ slice_index w.lines (sent_at t)
    -- a word that a failed try saw fits a record
    pub saw : Each (λ h. (x : Saw) → h.saw ≡ Some x → x.word < 4194304) hs

  -- so they were at this moment
  abbrev pub IsSiteThen : Moment → Type 0
  IsSiteThen m = IsSite (site k m.words) m.hands

-- one of the table's moments came of the other by such a step, which changed no word but one; the lock's word stands at this place, and `unheld` says whether calls may read without a hold
abbrev pub IsSiteMoveWhere : {E : Type 0} → (unheld : Bool) → Plan → (word_at : ℕ) → Instant E → Instant E → Type 0
IsSiteMoveWhere unheld k word_at x y = (id : ℕ) × SiteMoveWhere unheld id (slice_index x.words word_at) (site k x.words) x.views (site k y.words) y.views × ChangesOneWord x.words y.words

-- the same where every call that looks at the object holds
abbrev pub IsSiteMove : {E : Type 0} → Plan → (word_at : ℕ) → Instant E → Instant E → Type 0
IsSiteMove k word_at x y = IsSiteMoveWhere false k word_at x y

-- a new table: all lock words are free, no number is taken, the guarded words represent the empty state, nothing is logged or recorded, and one pass is there, which has no number
pub record IsNew {Call : Type 0} (o : Obj Call) (size : ℕ) (k : Plan) (m : Moment) : Type 0 where
  pub free : (i : ℕ) → i < LOCK_WORDS → slice_index m.words i ≡ 0
  pub lines : (i : ℕ) → slice_index (site k m.words).lines i ≡ 0
  pub stored : o.Represents o.empty (take size (site k m.words).guarded)
  pub logged : (site k m.words).len ≡ 0
  pub recorded : (site k m.words).recs ≡ replicate {A = ℕ} (calls_in k) 0
  pub hands : m.hands ≡ stranger (Some k) [] ∷ []
  pub spins : m.spins ≡ no_spin ∷ []
