-- What a clause reads of a spin queue and of a pass.
use Rattle.std.specs.Prelude.{◌≡◌, ◌≢◌, ◌<◌, ℕ, suc, Bool, true, false, List, Option, Some, length}
use mathlib.Core.Option.{some}
use lib.ListN.{get_elem?}
use Rattle.lock_core.specs.SiteHandles as inner
use Rattle.lock_core.specs.Pasts.{FoundAt, FoundAtStep}
use Rattle.osq_nodes.specs.declared.pass.OsqPass.{OsqPass}
use Rattle.osq_nodes.specs.declared.queue.Osq.{Osq}
use Rattle.osq_nodes.specs.OsqPasses.{OnQueue}
use Rattle.osq_nodes.specs.OsqPlaces as Marked
use Rattle.osq_nodes.specs.OsqStated.{places_at}
use Rattle.osq_nodes.specs.OsqRuled.{V}
use Rattle.osq_nodes.specs.Types.{Marks, Moment, Place}
use Rattle.osq_nodes.specs.Words.{tail_at, next_at}

-- for how many tasks the queue is
abbrev pub tasks_of : Osq → ℕ
tasks_of osq = length (inner.plan_of osq.site)

-- what a pass knows, and the parts of it

abbrev pub view_of : OsqPass → V
view_of pass = inner.view_of pass.pass

abbrev pub task_in : OsqPass → Option ℕ
task_in pass = inner.task_in pass.pass

abbrev pub place_in : OsqPass → Place
place_in pass = (view_of pass).ext.place

abbrev pub swaps_in : OsqPass → ℕ
swaps_in pass = (view_of pass).ext.swaps

abbrev pub found_in : OsqPass → ℕ
found_in pass = (view_of pass).ext.found

abbrev pub fronts_in : OsqPass → ℕ
fronts_in pass = (view_of pass).fronts

abbrev pub steps_in : OsqPass → ℕ
steps_in pass = (view_of pass).steps

-- the moments of the table up to the pass's last step, the last one first
abbrev pub past_of : OsqPass → List Moment
past_of pass = inner.past_of pass.pass

-- the pass is one of the queue's
abbrev pub SitsAt : Osq → OsqPass → Type 0
SitsAt osq pass = OnQueue (inner.plan_of osq.site) osq.site.table.shared.table_id pass.pass.seat.table_id pass.pass.seat.me pass.pass.face

-- its number stays, and all that has to do with it
abbrev pub KeepsNumber : OsqPass → OsqPass → Type 0
KeepsNumber old new = inner.SaysSame old.pass new.pass × (inner.hand_in new.pass ≡ inner.hand_in old.pass)

-- so does its node, with what it counts
abbrev pub KeepsNode : OsqPass → OsqPass → Type 0
KeepsNode old new = ((view_of new).ext ≡ (view_of old).ext) × (fronts_in new ≡ fronts_in old)

-- its past goes on
abbrev pub KeepsPast : OsqPass → OsqPass → Type 0
KeepsPast old new = inner.KeepsPast old.pass new.pass

-- the last moment of its past is that of its own last step
abbrev pub IsLatest : OsqPass → Type 0
IsLatest pass = inner.IsLatest pass.pass

-- it is one of the queue's, and keeps its number. Its past goes on, and ends at its own last step, which may lie before the call.
pub record StepsAt (osq : Osq) (old new : OsqPass) : Type 0 where
  pub own : SitsAt osq new
  pub number : KeepsNumber old new
  pub goes_on : KeepsPast old new
  pub last : IsLatest new

-- a step of the pass that has the task's number, after its first so many, found this number at the place
abbrev pub FoundBy : Option ℕ → (begun : ℕ) → ℕ → ℕ → List Moment → List Moment → Type 0
FoundBy task begun place n old new = (step : ℕ) × (begun < step) × FoundAtStep task step place n old new

-- a step that it made since found another code in the tail than its own
abbrev pub SawOther : OsqPass → OsqPass → Type 0
SawOther old new = (word : ℕ) × FoundBy (task_in old) (steps_in old) tail_at word (past_of old) (past_of new) × ((t : ℕ) → task_in old ≡ Some t → word ≢ suc t)

-- a step that it made since found this in the tail, as it says of its tail swap
abbrev pub SawTail : OsqPass → OsqPass → Type 0
SawTail old new = FoundBy (task_in old) (steps_in old) tail_at (found_in new) (past_of old) (past_of new)

-- at its last step the pass found this number at the place, or, where the answer is false, another one
abbrev pub FoundThere : Bool → ℕ → ℕ → OsqPass → Type 0
FoundThere true place n pass = FoundAt place n (past_of pass)
FoundThere false place n pass = (word : ℕ) × FoundAt place word (past_of pass) × (word ≢ n)

-- so of its own code in the tail
abbrev pub FoundOwn : Bool → ℕ → OsqPass → Type 0
FoundOwn so task pass = FoundThere so tail_at (suc task) pass

-- there it found a code in its own `next`, or, where the answer is false, 0
abbrev pub FoundNext : Bool → ℕ → OsqPass → Type 0
FoundNext true task pass = (next : ℕ) × FoundAt (next_at task) (suc next) (past_of pass)
FoundNext false task pass = FoundAt (next_at task) 0 (past_of pass)

-- The last moment of its past, which is that of its own last step, says of the pass what the pass does: at the seat of that step stand its hand, its place, its swaps and what the last one found; and
-- its task is at that place.
pub record StatesOwn (pass : OsqPass) : Type 0 where
  pub own : IsLatest pass
  pub node : Marks
  pub node_is : get_elem? own.now.marks own.seat ≡ some node
  pub place : Marked.place_in node.numbers ≡ place_in pass
  pub swaps : Marked.swaps_in node.numbers ≡ swaps_in pass
  pub found : Marked.found_in node.numbers ≡ found_in pass
  pub task : (t : ℕ) → task_in pass ≡ Some t → places_at own.now t ≡ place_in pass
