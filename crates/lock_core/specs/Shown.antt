-- What callers of any lock see of a pass.
use Rattle.std.specs.Prelude.{◌≡◌, ℕ, ◌<◌, ◌≤◌, true, length, List, Option, slice_get, Some, None, IsSome}
use mathlib.Core.Option.{some}
use lib.ListN.{get_elem?}
use Rattle.word_bits.specs.Histories.{Plan}
use Rattle.lock_core.specs.Plans.{calls_in}
use Rattle.lock_core.specs.Records.{row}
use Rattle.lock_core.specs.Views.{SpinRests, no_spin, stranger, next_entry}
use Rattle.lock_core.specs.Pasts.{GoesOn, IsStepBy, FoundAtStep, FoundSince}
use Rattle.lock_core.specs.Tallies.{no_tally}
use Rattle.lock_core.specs.Types.{CallWords, Entry, View, Line, Hand, SpinHand, Moment, Held, No, Alone, Tally}

-- a pass, whatever its lock is
pub record Shown : Type 0 where
  pub hand : Hand
  pub spin : SpinHand
  -- how many steps it has made, and how often it has been the head of its lock's spin queue
  pub steps : ℕ
  pub fronts : ℕ
  -- how it has stood in line
  pub line : Line
  -- the moments of the table up to its last step, the last one first
  pub past : List Moment
  -- how often it has entered the spin queue, and what it has counted of its calls that waited
  pub swaps : ℕ
  pub tally : Tally

abbrev pub no_line : Line
no_line = record { appends = 0 }

-- What a pass with this view and past shows, whose lock tells so how it has stood in line, and how often it was the head of a spin queue of the lock's own. Of that queue, and of calls that wait,
-- nothing else is counted.
abbrev pub shown : {E : Type 0} → (E → Line) → ℕ → View E → List Moment → Shown
shown line fronts v past = record { hand = v.hand; spin = v.spin; steps = v.steps; fronts = fronts; line = line v.ext; past = past; swaps = 0; tally = no_tally }

-- of a pass without a number, which has seen these entries and this past
abbrev pub shown_new : Option Plan → List Entry → List Moment → Shown
shown_new plan seen past = record { hand = stranger plan seen; spin = no_spin; steps = 0; fronts = 0; line = no_line; past = past; swaps = 0; tally = no_tally }

-- of a pass that was split off
abbrev pub shown_split : Shown → Shown
shown_split v = shown_new v.hand.plan v.hand.seen v.past

-- its past goes on
abbrev pub PastGoesOn : Shown → Shown → Type 0
PastGoesOn v u = GoesOn v.past u.past

-- of a lock and its passes: the pass is one of the lock's as before, and its past goes on
pub record StepsOn {L P : Type 0} (Sits : L → P → Type 0) (shown_of : P → Shown) (lock : L) (old new : P) : Type 0 where
  pub own : Sits lock new
  pub goes_on : PastGoesOn (shown_of old) (shown_of new)

-- at this step, which the pass made since, the word had this number
abbrev pub FindsAtStep : (step at n : ℕ) → Shown → Shown → Type 0
FindsAtStep step at n v u = FoundAtStep v.hand.task step at n v.past u.past

-- so it was at one of the steps that the pass made since
abbrev pub FindsSince : (at n : ℕ) → Shown → Shown → Type 0
FindsSince at n v u = FoundSince v.hand.task v.steps u.steps at n v.past u.past

-- the call's step of this number left the pass with this hold
abbrev pub LeavesHold : (step : ℕ) → Held → Shown → Shown → Type 0
LeavesHold step held v u = (past : List Moment) × (by : IsStepBy v.hand.task step past) × (by.hand.held ≡ held) × GoesOn v.past past × GoesOn past u.past

-- the last moment of its past is that of its own last step, which left its seat so
pub record IsLatestStep (v : Shown) : Type 0 where
  pub step : IsStepBy v.hand.task v.steps v.past
  pub hand : step.hand ≡ v.hand
  pub spin : get_elem? step.now.spins step.seat ≡ some v.spin

-- it is one of a site with this plan, and no call of the lock is under way
pub record Stands (k : Plan) (v : Shown) : Type 0 where
  pub plan : v.hand.plan ≡ Some k
  pub unspun : SpinRests v.spin
  pub writer : v.hand.writes ≡ true → v.hand.held ≡ Alone
  pub nameless : v.hand.task ≡ None → (v.hand.held ≡ No) × (v.hand.sent ≡ None) × (v.hand.consumed ≡ 0)
  pub planned : (t : ℕ) → v.hand.task ≡ Some t → (t < length k) × (v.hand.done ≤ length (row k t))
  pub latest : v.hand.last ≤ v.steps
  pub short : length v.hand.log ≤ calls_in k
  pub shorter : length v.hand.seen ≤ calls_in k

-- no count of a pass falls
pub record NoCountFalls (v u : Shown) : Type 0 where
  pub steps : v.steps ≤ u.steps
  pub misses : v.hand.misses ≤ u.hand.misses
  pub entries : v.spin.entries ≤ u.spin.entries
  pub fronts : v.fronts ≤ u.fronts
  pub appends : v.line.appends ≤ u.line.appends

-- beside the hand, its counts are as they were, after some steps
abbrev pub AllButHand : Shown → Shown → Type 0
AllButHand v u = (u.spin.entries ≡ v.spin.entries) × (u.fronts ≡ v.fronts) × (u.line ≡ v.line) × (v.steps ≤ u.steps) × (u.swaps ≡ v.swaps) × (u.tally ≡ v.tally)

-- the pass has a number, and these are the words of its task's next call
abbrev pub IsNextCall : Plan → Hand → CallWords → Type 0
IsNextCall k h words = IsSome h.task × (slice_get (row k (next_entry h).task) h.done ≡ Some words)
