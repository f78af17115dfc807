-- The rule of a spin queue's table.
use Rattle.std.specs.Prelude.{◌≡◌, ℕ, ◌+◌, ◌<◌, ◌≤◌, Bool, true, false, if◌then◌else◌, List, [], length, map, replicate, slice_index, slice_set, Some, None}
use mathlib.Core.Option.{some}
use lib.ListN.{get_elem?}
use Rattle.word_bits.specs.declared.TheConstants.{MAX_TASKS}
use Rattle.word_bits.specs.Histories.{Plan}
use Rattle.lock_core.specs.declared.layout.TheConstants.{LOCK_WORDS}
use Rattle.lock_core.specs.Nothings.{never, nothing}
use Rattle.lock_core.specs.Ops.{word_after, told_by}
use Rattle.lock_core.specs.Layout.{site, width}
use Rattle.lock_core.specs.Views.{hand_of, named_of}
use Rattle.lock_core.specs.Sites.{SiteKept}
use Rattle.lock_core.specs.Moves.{SiteMove}
use Rattle.lock_core.specs.Pasts.{ChangesOneWord, Instant, instant, moment, opening}
use Rattle.lock_core.specs.Totals.{total}
use Rattle.lock_core.specs.ViewParts.{Each}
use Rattle.osq_nodes.specs.Words.{row_of, tail_in}
use Rattle.osq_nodes.specs.OsqPlaces.{is_swap, is_coming_first, node_marks}
use Rattle.osq_nodes.specs.OsqStated.{Changes, QueueStep}
use Rattle.osq_nodes.specs.OsqKept.{RowKept, with_at}
use Rattle.osq_nodes.specs.Types.{View, Moment, Op, Place, Out, Node}

abbrev pub V : Type 0
V = View Node

-- what a pass without a number knows
abbrev pub idle : Node
idle = record { place = Out; swaps = 0; found = 0 }

-- A table at a moment, and a new one for so many tasks. None has calls.

abbrev pub table_at : List ℕ → List V → Moment
table_at ws vs = moment node_marks (instant ws vs)

abbrev pub no_calls : ℕ → Plan
no_calls tasks = replicate tasks []

abbrev pub newest : ℕ → Moment
newest tasks = opening node_marks (no_calls tasks) idle

-- where each task is, as the views say: a task whose number nobody has is out
pub record Seated (place : ℕ → Place) (vs : List V) : Type 0 where
  pub mine : Each (λ (v : V). (t : ℕ) → v.hand.task ≡ Some t → place t ≡ v.ext.place) vs
  pub free : (t : ℕ) → total (named_of t) (map hand_of vs) ≡ 0 → place t ≡ Out
  pub nameless : Each (λ (v : V). v.hand.task ≡ None → v.ext.place ≡ Out) vs

-- the rule: the site's own, and that of a queue over the words of the locks and where each task is
pub record OsqKept (k : Plan) (ws : List ℕ) (vs : List V) : Type 0 where
  pub wide : length ws ≡ width k
  pub site_holds : SiteKept nothing never 0 k (site k ws) (map hand_of vs)
  pub place : ℕ → Place
  pub queue : List ℕ
  pub seated : Seated place vs
  pub kept : RowKept (length k) (row_of ws) place queue

-- what a step from one place to another makes of what a pass knows of its node: a swap of the tail counts, and found this
abbrev pub node_after : Place → Node → Place → ℕ → Node
node_after from x p found = record { place = p; swaps = if is_swap from p then x.swaps + 1 else x.swaps; found = if is_swap from p then found else x.found }

-- and of how often it has been the head
abbrev pub fronts_after : Place → Place → ℕ → ℕ
fronts_after from p n = if is_coming_first from p then n + 1 else n

abbrev pub stepped : Place → V → Place → ℕ → V
stepped from v p found = record v { steps = v.steps + 1; fronts = fronts_after from p v.fronts; ext = node_after from v.ext p found }

-- What each step does to the pass that makes it: it counts its swaps of the tail, with what the last one found, and how often it has come to be the head.
pub record NodeStep (tail id : ℕ) (vs vs' : List V) : Type 0 where
  pub before : V
  pub after : V
  pub at : get_elem? vs id ≡ some before
  pub at' : get_elem? vs' id ≡ some after
  pub node : after.ext ≡ node_after before.ext.place before.ext after.ext.place tail
  pub fronts : after.fronts ≡ fronts_after before.ext.place after.ext.place before.fronts

-- what each step does, to the site, to its own pass and to the queue
pub record OsqMoves (k : Plan) (id : ℕ) (ws : List ℕ) (vs : List V) (us : List ℕ) (vs' : List V) : Type 0 where
  pub site : SiteMove id (slice_index ws 0) (site k ws) vs (site k us) vs'
  pub node : NodeStep (tail_in (row_of ws)) id vs vs'
  pub queue : QueueStep (table_at ws vs) (table_at us vs')

-- one of the table's instants came of the other by such a step, which changed no word but one
abbrev pub IsOsqMove : ℕ → Instant Node → Instant Node → Type 0
IsOsqMove tasks x y = (id : ℕ) × OsqMoves (no_calls tasks) id x.words x.views y.words y.views × ChangesOneWord x.words y.words

-- where a step is a swap of the tail, it found the tail
abbrev pub FindsTail : Bool → ℕ → ℕ → Type 0
FindsTail true found tail = found ≡ tail
FindsTail false found tail = Unit {0}

-- What an operation does by the queue's own rule: the task t is at the place P. Whatever the word is, the task goes on to a place by what it is told, and the rule goes on with one of the changes.
abbrev pub Local : ℕ → ℕ → Place → ℕ → Op → (ℕ → Place) → (ℕ → Type 0) → Type 0
Local size t P at op to tells = (row : List ℕ) (place : ℕ → Place) (q : List ℕ) → length row ≡ LOCK_WORDS → t < size → size ≤ MAX_TASKS → RowKept size row place q → place t ≡ P
    → let n : ℕ = slice_index row at in let told : ℕ = told_by op n in let row' : List ℕ = slice_set row at (word_after op n) in
    (q' : List ℕ) × RowKept size row' (with_at place t (to told)) q' × Changes row row' place q q' × FindsTail (is_swap P (to told)) told (tail_in row) × tells told
