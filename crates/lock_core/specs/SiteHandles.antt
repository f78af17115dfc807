-- What a clause reads of a site and of a pass.
use Rattle.std.specs.Prelude.{◌≡◌, ℕ, ◌+◌, ◌<◌, ◌≤◌, Bool, List, Option, Some, slice_index, slice_set}
use mathlib.Core.Option.{none, some}
use lib.ListN.{get_elem?}
use Rattle.atomic_table.specs.Table.{Step, step}
use Rattle.word_bits.specs.LockWords.{Unavailable}
use Rattle.word_bits.specs.Objects.{Obj}
use Rattle.word_bits.specs.Histories.{Plan}
use Rattle.lock_core.specs.declared.pass.Pass.{Pass}
use Rattle.lock_core.specs.declared.site.Site.{Site}
use Rattle.lock_core.specs.Sites.{SiteKept, SiteStep, sent_place, consumed_place}
use Rattle.lock_core.specs.Ops.{first_of, second_of}
use Rattle.lock_core.specs.Moves.{Lets, KeepsHold}
use Rattle.lock_core.specs.Pasts.{unseen, GoesOn, FoundSince, IsOwnStep}
use Rattle.lock_core.specs.SitePlays.{Sat}
use Rattle.lock_core.specs.SitePasses.{Sits, IsChange, IsReading, IsSeenReading, IsSignal, MayNote, MayRecord, HearsOfNone, Numbered}
use Rattle.lock_core.specs.Views.{next_entry}
use Rattle.lock_core.specs.Layout.{lay}
use Rattle.lock_core.specs.declared.pass.Nesting.{Nesting}
use Rattle.lock_core.specs.Nestings.{Tells, SameFlags, SameFlagsBeside, notes_held, notes_wait, no_nesting}
use Rattle.lock_core.specs.LockHands.{depth_of}
use Rattle.lock_core.specs.Types.{CallWords, Entry, Rec, Reply, View, Hand, Held, Moment, Past, Op, Interrupted}

module _ {R O E C : Type 0} where
  -- the calls that the site's tasks make
  abbrev pub plan_of : Site R O E C → Plan
  plan_of site = site.table.shared.key

  -- what a pass knows
  abbrev pub view_of : Pass R O E C → View E
  view_of pass = pass.seat.me.0.view

  -- the part of it that concerns the site's own words
  abbrev pub hand_in : Pass R O E C → Hand
  hand_in pass = pass.seat.me.0.view.hand

  -- the moments of the table up to the pass's last step, the last one first
  abbrev pub past_of : Pass R O E C → List Moment
  past_of pass = pass.seat.me.0.past

  -- those of the passes that it took in since its last step
  abbrev pub joined_by : Pass R O E C → List Past
  joined_by pass = pass.seat.me.0.joined

  -- the pass is one of the site's, and says of itself what its view does
  abbrev pub SitsAt : Site R O E C → Pass R O E C → Type 0
  SitsAt site pass = Sits site.table.shared.key site.table.shared.table_id pass.seat.table_id pass.seat.me pass.face

  -- the pass is one of the site's
  abbrev pub IsOneOf : Site R O E C → Pass R O E C → Type 0
  IsOneOf site pass = pass.seat.table_id ≡ site.table.shared.table_id

  -- the same seat of the same table
  abbrev pub IsSameSeat : Pass R O E C → Pass R O E C → Type 0
  IsSameSeat old new = (new.seat.table_id ≡ old.seat.table_id) × (new.seat.id ≡ old.seat.id)

  -- the last moment of its past is that of its own last step
  abbrev pub IsLatest : Pass R O E C → Type 0
  IsLatest pass = IsOwnStep (view_of pass) (past_of pass)

  -- beside that, with the same slots in hand, its past goes on, up to its own last step, and it notes the same of the spin locks
  abbrev pub KeepsSeat : Pass R O E C → Pass R O E C → Type 0
  KeepsSeat old new = (new.seat.table_id ≡ old.seat.table_id) × (new.seat.id ≡ old.seat.id) × (new.seat.me.1 ≡ old.seat.me.1) × GoesOn (past_of old) (past_of new) × IsLatest new
      × (new.nest ≡ old.nest)

  -- what the pass says of itself
  abbrev pub task_in : Pass R O E C → Option ℕ
  task_in pass = pass.face.task

  abbrev pub held_in : Pass R O E C → Held
  held_in pass = pass.face.held

  abbrev pub done_in : Pass R O E C → ℕ
  done_in pass = pass.face.done

  abbrev pub front_in : Pass R O E C → ℕ
  front_in pass = pass.face.front

  -- it says the same of itself
  abbrev pub SaysSame : Pass R O E C → Pass R O E C → Type 0
  SaysSame old new = new.face ≡ old.face

  -- it says that it holds so, and all else is as it was
  pub record NotesHold (how : Held) (old new : Pass R O E C) : Type 0 where
    pub seat : new.seat ≡ old.seat
    pub face : new.face ≡ record old.face { held = how }
    pub nest : new.nest ≡ old.nest

  -- it says that it has seen so many entries, and all else is as it was
  pub record NotesFront (front : ℕ) (old new : Pass R O E C) : Type 0 where
    pub seat : new.seat ≡ old.seat
    pub face : new.face ≡ record old.face { front = front }
    pub nest : new.nest ≡ old.nest

  -- what it notes of itself at the spin locks
  abbrev pub nest_in : Pass R O E C → Nesting
  nest_in pass = pass.nest

  -- it notes as many nodes as it uses
  abbrev pub IsDepthTold : Pass R O E C → Type 0
  IsDepthTold pass = pass.nest.depth ≡ depth_of (view_of pass).spin

  -- it notes of each spin lock whether it holds it and whether it waits for it, and how many nodes it uses
  abbrev pub IsNestTold : Pass R O E C → Type 0
  IsNestTold pass = Tells pass.nest (view_of pass).spin

  -- it notes the same
  abbrev pub KeepsNest : Pass R O E C → Pass R O E C → Type 0
  KeepsNest old new = new.nest ≡ old.nest

  -- it notes so many nodes, and all else is as it was
  pub record NotesDepth (depth : ℕ) (old new : Pass R O E C) : Type 0 where
    pub seat : new.seat ≡ old.seat
    pub face : new.face ≡ old.face
    pub depth_noted : new.nest.depth ≡ depth
    pub flags : SameFlags old.nest new.nest

  -- it notes so of this lock, and all else is as it was
  pub record NotesLock (l : ℕ) (holds waits : Bool) (old new : Pass R O E C) : Type 0 where
    pub seat : new.seat ≡ old.seat
    pub face : new.face ≡ old.face
    pub depth : new.nest.depth ≡ old.nest.depth
    pub held : notes_held l new.nest ≡ holds
    pub waited : notes_wait l new.nest ≡ waits
    pub flags : SameFlagsBeside l old.nest new.nest

  -- it notes that it is at no lock, and all else is as it was
  pub record NotesNone (old new : Pass R O E C) : Type 0 where
    pub seat : new.seat ≡ old.seat
    pub face : new.face ≡ old.face
    pub noted : new.nest ≡ no_nesting

  -- its past goes on
  abbrev pub KeepsPast : Pass R O E C → Pass R O E C → Type 0
  KeepsPast old new = GoesOn (past_of old) (past_of new)

  -- it is one of the site's, and its past goes on. The past ends at its own last step, which may lie before the call.
  pub record StepsAt (site : Site R O E C) (old new : Pass R O E C) : Type 0 where
    pub own : SitsAt site new
    pub goes_on : KeepsPast old new
    pub last : IsLatest new

  -- it is one of the site's, and keeps its number. Its past goes on, and its count of steps doesn't fall: it may have made none.
  pub record MovesOn (site : Site R O E C) (old new : Pass R O E C) : Type 0 where
    pub own : SitsAt site new
    pub task : task_in new ≡ task_in old
    pub goes_on : KeepsPast old new
    pub steps : (view_of old).steps ≤ (view_of new).steps

  -- the word had this number at one of the steps that the pass made since
  abbrev pub Finds : ℕ → ℕ → Pass R O E C → Pass R O E C → Type 0
  Finds at n old new = FoundSince (hand_in old).task (view_of old).steps (view_of new).steps at n (past_of old) (past_of new)

  -- steps since found these numbers of signals sent to the task, and consumed by it
  pub record SawSignals (t : ℕ) (why : Interrupted) (old new : Pass R O E C) : Type 0 where
    pub sent : Finds (sent_place t) why.sent old new
    pub taken : Finds (consumed_place t) why.taken old new

  -- the same of signals to the pass's task
  abbrev pub SawOwnSignals : Interrupted → Pass R O E C → Pass R O E C → Type 0
  SawOwnSignals why old new = (t : ℕ) → task_in old ≡ Some t → SawSignals t why old new

  -- two steps since found that no signal to its task was pending
  abbrev pub SawNonePending : Pass R O E C → Pass R O E C → Type 0
  SawNonePending old new = (why : Interrupted) × HearsOfNone why (view_of old) (view_of new) × SawOwnSignals why old new

  -- a call of its task that isn't done has no record, and so the word 0
  abbrev pub UndoneIsZero : Pass R O E C → (task call word : ℕ) → Type 0
  UndoneIsZero pass task call word = task_in pass ≡ Some task → done_in pass ≤ call → word ≡ 0

  -- the pass may record a call so, and has then seen these entries
  abbrev pub MayStoreRecord : {Call : Type 0} → Obj Call → Unavailable → (unheld : Bool) → Site R O E C → Pass R O E C → Entry → Rec → List Entry → Type 0
  MayStoreRecord o unavailable unheld site pass e r seen = (words : CallWords) × MayRecord o unavailable unheld (plan_of site) (hand_in pass) e words r seen

  -- its task's next call changes the object, and this is its reply
  abbrev pub IsNextChange : {Call : Type 0} → Obj Call → Site R O E C → Pass R O E C → Reply → Type 0
  IsNextChange o site pass reply = IsChange o (plan_of site) (hand_in pass) (next_entry (hand_in pass)) reply

  -- its task's next call reads, and this is its reply
  abbrev pub IsNextReading : {Call : Type 0} → Obj Call → Site R O E C → Pass R O E C → Reply → Type 0
  IsNextReading o site pass reply = IsReading o (plan_of site) (hand_in pass) (next_entry (hand_in pass)) reply

  -- its task's next call reads, and this is its reply on the state after what the pass has seen of the log
  abbrev pub IsNextSeenReading : {Call : Type 0} → Obj Call → Site R O E C → Pass R O E C → Reply → Type 0
  IsNextSeenReading o site pass reply = IsSeenReading o (plan_of site) (hand_in pass) (next_entry (hand_in pass)) reply

  -- the pass may note its task's next call with this reply
  abbrev pub MayNoteNext : {Call : Type 0} → Obj Call → Unavailable → Site R O E C → Pass R O E C → Reply → Type 0
  MayNoteNext o unavailable site pass reply = MayNote o unavailable (plan_of site) (hand_in pass) (next_entry (hand_in pass)) reply

  -- its task's next call is a signal to this task
  abbrev pub IsNextSignal : Site R O E C → Pass R O E C → ℕ → Type 0
  IsNextSignal site pass target = IsSignal (plan_of site) (next_entry (hand_in pass)) target

  -- what the pass becomes that takes the task's number
  abbrev pub TakesNumber : {Call : Type 0} → Obj Call → Unavailable → Site R O E C → ℕ → Pass R O E C → Pass R O E C → Type 0
  TakesNumber o unavailable site task old new = Numbered o unavailable (plan_of site) (hand_in old) task (hand_in new)

  -- its seat, with the view
  abbrev pub seat_in : Pass R O E C → Sat E
  seat_in pass = unseen pass.seat.me

  -- the operation on a word of the table, as the table tells it
  abbrev pub step_at : Site R O E C → ℕ → Op → Step (Unit {0})
  step_at site word op = step site.table.shared.table_id.slots word (first_of op) (second_of op) none

  -- whatever the table is, the pass may do the operation on the word, and `then` holds of what it finds
  abbrev pub MayStep : (Plan → List ℕ → List (View E) → Type 0) → (Plan → ℕ → List ℕ → List (View E) → List ℕ → List (View E) → Type 0)
      → Site R O E C → Pass R O E C → ℕ → Op → (ℕ → Sat E → Type 0) → Type 0
  MayStep holds moves site pass word op then = Lets (holds (plan_of site)) (moves (plan_of site)) site.table.shared.table_id.slots pass.seat.id (seat_in pass) word op then

  -- what the steps on the site's words ask, of the site's own facts
  module _ {Call : Type 0} (o : Obj Call) (unavailable : Unavailable) (unheld : Bool) (size : ℕ) (site : Site R O E C) (pass : Pass R O E C) (at : ℕ) where
    abbrev Kept : List ℕ → List Hand → Type 0
    Kept s hs = SiteKept o unavailable size (plan_of site) (lay (plan_of site) s) hs

    abbrev After : List ℕ → List Hand → ℕ → Hand → Type 0
    After s hs new g = Kept (slice_set s at new) (slice_set hs pass.seat.id g)
        × SiteStep unheld ((view_of pass).steps + 1) (lay (plan_of site) s) (lay (plan_of site) (slice_set s at new)) (hand_in pass) g

    -- whatever the words and the hands are, a load finds what this says
    abbrev pub MayFind : (Hand → ℕ → ℕ → Type 0) → Type 0
    MayFind tells = (s : List ℕ) (hs : List Hand) → Kept s hs → get_elem? hs pass.seat.id ≡ some (hand_in pass) → tells (hand_in pass) at (slice_index s at)

    -- a store of this number may leave this hand
    abbrev pub MayPut : ℕ → Hand → Type 0
    MayPut new g = (s : List ℕ) (hs : List Hand) → Kept s hs → get_elem? hs pass.seat.id ≡ some (hand_in pass) → After s hs new g

    -- so may an addition, which fits
    abbrev pub MayAdd : ℕ → Hand → Type 0
    MayAdd by g = (s : List ℕ) (hs : List Hand) → Kept s hs → get_elem? hs pass.seat.id ≡ some (hand_in pass) → (slice_index s at + by < 18446744073709551616)
        × Kept (slice_set s at (slice_index s at + by)) (slice_set hs pass.seat.id g)
        × SiteStep unheld ((view_of pass).steps + 1) (lay (plan_of site) s) (lay (plan_of site) (slice_set s at (slice_index s at + by))) (hand_in pass) g

    -- where the word is 0, a store of 1 may leave such a hand
    abbrev pub MayTake : (Hand → Type 0) → (View E → Type 0) → Type 0
    MayTake becomes rests = (s : List ℕ) (hs : List Hand) → Kept s hs → get_elem? hs pass.seat.id ≡ some (hand_in pass) → slice_index s at ≡ 0 → (g : Hand) × becomes g
        × KeepsHold rests (view_of pass) g × Kept (slice_set s at 1) (slice_set hs pass.seat.id g)
        × SiteStep unheld ((view_of pass).steps + 1) (lay (plan_of site) s) (lay (plan_of site) (slice_set s at 1)) (hand_in pass) g
