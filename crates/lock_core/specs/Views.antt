-- Views, and what each kind of step makes of them.
use Rattle.std.specs.Prelude.{◌≤◌, ◌≡◌, ◌⊎◌, ℕ, zero, suc, ◌+◌, ◌-◌, ◌==◌, true, false, List, [], ◌∷◌, ◌++◌, length, slice_get, slice_set, leb, Option, Some, None, if◌then◌else◌, ◌/◌, ◌%◌, ◌^◌}
use Rattle.std.specs.Option.{option_map_or}
use Rattle.word_bits.specs.Histories.{Plan}
use Rattle.lock_core.specs.Records.{bit}
use Rattle.lock_core.specs.Types.{Entry, Rec, Reply, Busy, Intr, Sent, View, Hand, SpinHand, Frame, Out, Holding, Heard, Told, Held, No, Shared, Alone, Stage, Rest, Entered, Logged}

-- a pass that has no number, holds nothing and has seen these entries
abbrev pub stranger : Option Plan → List Entry → Hand
stranger plan seen = record {
  plan = plan;
  task = None;
  held = No;
  known = [];
  log = [];
  seen = seen;
  done = 0;
  records = [];
  writes = false;
  stage = Rest;
  sent = None;
  consumed = 0;
  heard = None;
  last = 0;
  saw = None;
  misses = 0;
  takes = 0;
  freed = 0;
}

-- at no spin lock
abbrev pub no_frame : Frame
no_frame = record { point = Out; code = 0; found = 0; next = 0 }

abbrev pub no_spin : SpinHand
no_spin = record { frame = no_frame; saw = None; entries = 0; took = 0; from = Out; nest = [] }

-- it has nothing to do with the spin lock
abbrev pub SpinRests : SpinHand → Type 0
SpinRests s = s.frame.point ≡ Out

abbrev pub SpinHolds : SpinHand → Type 0
SpinHolds s = s.frame.point ≡ Holding

-- what it saw of the spin word is forgotten
abbrev pub forgot : SpinHand → SpinHand
forgot s = record s { saw = None }

-- it is as before, or has forgotten what it saw of the spin word
abbrev pub SpinStays : SpinHand → SpinHand → Type 0
SpinStays s g = (g ≡ s) ⊎ (g ≡ forgot s)

-- what the spin lock's own facts see of a view
pub record SpinPart : Type 0 where
  pub task : Option ℕ
  pub spin : SpinHand

-- of a pass without a number
abbrev pub no_part : SpinPart
no_part = record { task = None; spin = no_spin }

-- of two beginnings of one log the longer
abbrev pub longer : List Entry → List Entry → List Entry
longer xs ys = if leb (length xs) (length ys) then ys else xs

-- a task's records, from the call of this number on
abbrev pub told_from : ℕ → ℕ → List Rec → List Told
told_from t call [] = []
told_from t call (r ∷ rs) = record { entry = record { task = t; call = call }; rec = r } ∷ told_from t (call + 1) rs

-- It takes the number, with the task's records; what it saw is forgotten.
abbrev pub became : Hand → ℕ → List Rec → List Entry → Hand
became h t rs seen = record h { task = Some t; done = length rs; seen = seen; records = told_from t 0 rs ++ h.records; saw = None; heard = None }

-- It gives its number back; what it saw is forgotten.
abbrev pub gave_up : Hand → Hand
gave_up h = record h { task = None; saw = None; heard = None }

abbrev pub gathered : Hand → Hand → Hand
gathered h g = record h { seen = longer h.seen g.seen; records = h.records ++ g.records }

abbrev pub wrote : Hand → ℕ → ℕ → Hand
wrote h at value = record h { writes = true; known = slice_set h.known at value }

-- It writes no more.
abbrev pub quieted : Hand → Hand
quieted h = record h { writes = false }

-- The next entry is stored behind the log.
abbrev pub entered : Hand → Entry → Hand
entered h e = record h { stage = Entered e }

-- The log has the entry: the guarded words now represent the state after it.
abbrev pub logged : Hand → Entry → Hand
logged h e = record h { stage = Logged e; writes = false; log = h.log ++ e ∷ [] }

-- The record is stored, at the step of this number.
abbrev pub recorded : Hand → ℕ → Entry → Rec → List Entry → Hand
recorded h step e r seen = record h { stage = Rest; done = h.done + 1; seen = seen; records = record { entry = e; rec = r } ∷ h.records; last = step }

-- what a record with this reply leaves of the signals that aren't recorded
abbrev pub sent_after : Option ℕ → Reply → Option ℕ
sent_after sent Sent = None
sent_after sent reply = sent

abbrev pub consumed_after : ℕ → Reply → ℕ
consumed_after n Intr = n - 1
consumed_after n reply = n

abbrev pub settled : Hand → Reply → Hand
settled h reply = record h { sent = sent_after h.sent reply; consumed = consumed_after h.consumed reply }

-- each signal that it sent or consumed is recorded
abbrev pub OwesNoSignal : Hand → Type 0
OwesNoSignal h = (h.sent ≡ None) × (h.consumed ≡ 0)

-- such a record leaves no signal unrecorded
abbrev pub Unsent : Hand → Reply → Type 0
Unsent h reply = OwesNoSignal (settled h reply)

-- the next call of the pass's task
abbrev pub next_entry : Hand → Entry
next_entry h = record { task = option_map_or (λ t. t) h.task 0; call = h.done }

-- It sent a signal to this task, which isn't recorded.
abbrev pub sending : Hand → ℕ → Hand
sending h t = record h { sent = Some t }

-- It loaded how many signals were sent to its task.
abbrev pub hearing : Hand → Heard → Hand
hearing h p = record h { heard = Some p }

-- It consumed one, which isn't recorded.
abbrev pub consuming : Hand → Hand
consuming h = record h { consumed = h.consumed + 1; heard = None }

-- the entry of a word
abbrev pub entry_of : ℕ → Entry
entry_of n = record { task = n / 2 ^ 18; call = n % 2 ^ 18 }

-- the entry that a commit is about
abbrev pub entry_in : Stage → Entry
entry_in Rest = record { task = 0; call = 0 }
entry_in (Entered e) = e
entry_in (Logged e) = e

-- A commit: the log has the entry and its record, at the step of this number.
abbrev pub committed : Hand → ℕ → Entry → Reply → Hand
committed h step e reply = recorded (logged h e) step e (record { k = length h.log; reply = reply }) (h.log ++ e ∷ [])

-- A call that isn't logged stands where the log ends, or where the pass saw it end if it never held.
abbrev pub note_seen : Hand → Reply → List Entry
note_seen h (Busy word) = h.seen
note_seen h Intr = h.seen
note_seen h Sent = h.seen
note_seen h reply = h.log

-- how many steps that takes: a pass that holds loads the log's length first
abbrev pub note_steps : Reply → ℕ
note_steps (Busy word) = 1
note_steps Intr = 1
note_steps Sent = 1
note_steps reply = 2

abbrev pub noted : Hand → ℕ → Entry → Reply → Hand
noted h step e reply = recorded (settled h reply) step e (record { k = length (note_seen h reply); reply = reply }) (note_seen h reply)

-- It takes the lock, once more, and learns the guarded words and the log.
abbrev pub took : Hand → Held → List ℕ → List Entry → Hand
took h held known log = record h { held = held; known = known; log = log; takes = h.takes + 1 }

abbrev pub let_go : Hand → Hand
let_go h = record h { held = No; known = []; log = [] }

-- the pass knows this record
abbrev pub Knows : Hand → Entry → Rec → Type 0
Knows h e r = (i : ℕ) × (slice_get h.records i ≡ Some (record { entry = e; rec = r }))

-- the pass knows these records of a task's first calls
abbrev pub KnowsFirst : Hand → ℕ → List Rec → Type 0
KnowsFirst h t rs = (c : ℕ) (r : Rec) → slice_get rs c ≡ Some r → Knows h (record { task = t; call = c }) r

abbrev pub front : Hand → ℕ
front h = length h.seen

-- weights of a hand, which are added up over all views

abbrev pub held_weight : Held → ℕ
held_weight No = 0
held_weight Shared = 1
held_weight Alone = 1

abbrev pub alone_weight : Held → ℕ
alone_weight No = 0
alone_weight Shared = 0
alone_weight Alone = 1

-- how strongly a pass holds that holds so: not at all, beside others, or alone
abbrev pub strength : Held → ℕ
strength No = 0
strength Shared = 1
strength Alone = 2

abbrev pub owed_weight : Stage → ℕ
owed_weight Rest = 0
owed_weight (Entered e) = 0
owed_weight (Logged e) = 1

abbrev pub is_number : ℕ → Option ℕ → ℕ
is_number t None = 0
is_number t (Some u) = bit (u == t)

-- 1 if it has a number
abbrev pub number_weight : Option ℕ → ℕ
number_weight None = 0
number_weight (Some t) = 1

-- signals that were consumed by the task's pass
abbrev pub consumed_weight : ℕ → Option ℕ → ℕ → ℕ
consumed_weight t task zero = 0
consumed_weight t task (suc n) = consumed_weight t task n + is_number t task

abbrev pub held_of : Hand → ℕ
held_of h = held_weight h.held

abbrev pub alone_of : Hand → ℕ
alone_of h = alone_weight h.held

abbrev pub writes_of : Hand → ℕ
writes_of h = bit h.writes

abbrev pub owed_of : Hand → ℕ
owed_of h = owed_weight h.stage

abbrev pub named_of : ℕ → Hand → ℕ
named_of t h = is_number t h.task

abbrev pub sent_of : ℕ → Hand → ℕ
sent_of t h = is_number t h.sent

abbrev pub consumed_of : ℕ → Hand → ℕ
consumed_of t h = consumed_weight t h.task h.consumed

module _ {E : Type 0} where
  abbrev pub hand_of : View E → Hand
  hand_of v = v.hand

  abbrev pub spin_of : View E → SpinHand
  spin_of v = v.spin

  -- the part of a view with this spin hand
  abbrev pub part_with : View E → SpinHand → SpinPart
  part_with v s = record { task = v.hand.task; spin = s }

  abbrev pub spin_part : View E → SpinPart
  spin_part v = part_with v v.spin

  -- a step that changes the hand alone
  abbrev pub handed : View E → Hand → View E
  handed v h = record v { hand = h; steps = v.steps + 1 }

  -- a step on the site's words, which may forget what the pass saw of the spin word
  abbrev pub seated : View E → Hand → SpinHand → View E
  seated v h s = record v { hand = h; spin = s; steps = v.steps + 1 }

  -- a step that takes a number
  abbrev pub with_number : View E → Hand → View E
  with_number v h = seated v h (forgot v.spin)

  -- a step that stores a record, of a pass that has this hand before it
  abbrev pub with_record : View E → Hand → Entry → Rec → List Entry → View E
  with_record v h e r seen = handed v (recorded h (v.steps + 1) e r seen)

  -- a step that changes nothing
  abbrev pub ticked : View E → View E
  ticked v = record v { steps = v.steps + 1 }

  abbrev pub newcomer : Option Plan → List Entry → E → View E
  newcomer plan seen ext = record { hand = stranger plan seen; spin = no_spin; steps = 0; fronts = 0; ext = ext }

  -- of the pass that opens the table
  abbrev pub first : Plan → E → View E
  first plan ext = newcomer (Some plan) [] ext

  -- of a pass that was split from one with this view
  abbrev pub split_off : E → View E → View E
  split_off ext v = newcomer v.hand.plan v.hand.seen ext

  -- of a pass that was gathered
  abbrev pub spent : E → View E
  spent ext = newcomer None [] ext

  abbrev pub merged : View E → View E → View E
  merged v w = handed v (gathered v.hand w.hand)

  -- it holds nothing, neither the lock nor the spin lock, and is at no point of the spin lock
  abbrev pub HoldsNothing : View E → Type 0
  HoldsNothing v = (v.hand.held ≡ No) × SpinRests v.spin

  -- all but the hand is as it was, after some steps
  abbrev pub Beside : View E → View E → Type 0
  Beside v u = (u.spin ≡ v.spin) × (u.fronts ≡ v.fronts) × (u.ext ≡ v.ext) × (v.steps ≤ u.steps)

  -- the same, but what it saw of the spin word is forgotten
  abbrev pub BesideForgetting : View E → View E → Type 0
  BesideForgetting v u = Beside (record v { spin = forgot v.spin }) u

  -- the record of the next call of its task, which changed the object, in four steps
  abbrev pub after_commit : View E → Reply → View E
  after_commit v reply = record v { hand = committed v.hand (v.steps + 4) (next_entry v.hand) reply; steps = v.steps + 4 }

  -- that of its next call, which changed nothing
  abbrev pub after_note : View E → Reply → View E
  after_note v reply = record v { hand = noted v.hand (v.steps + note_steps reply) (next_entry v.hand) reply; steps = v.steps + note_steps reply }

  -- that of its next call, which read, in two steps
  abbrev pub after_read : View E → Reply → View E
  after_read v reply = record v { hand = recorded v.hand (v.steps + 2) (next_entry v.hand) (record { k = length v.hand.log; reply = reply }) v.hand.log; steps = v.steps + 2 }

  -- that of its next call, which read what the pass has seen of the log, in one step
  abbrev pub after_seen : View E → Reply → View E
  after_seen v reply = with_record v v.hand (next_entry v.hand) (record { k = length v.hand.seen; reply = reply }) v.hand.seen
