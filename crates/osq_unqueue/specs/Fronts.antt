-- What the tasks of a lock know of the spin queue on which they wait for it.
use Rattle.std.specs.Prelude.{◌≡◌, ℕ, List, Option, Some}
use mathlib.Core.Option.{some}
use lib.ListN.{get_elem?}
use Rattle.lock_core.specs.declared.view.Marks.{Marks}
use Rattle.lock_core.specs.declared.view.Moment.{Moment}
use Rattle.lock_core.specs.Pasts.{IsStepBy}
use Rattle.osq_nodes.specs.declared.node.Place.TheVariants.{Out, Head}
use Rattle.osq_nodes.specs.OsqPlaces.{swaps_in}
use Rattle.osq_nodes.specs.OsqStated.{places_at}

-- one task at most is the head of the queue
abbrev pub HasOneHead : Moment → Type 0
HasOneHead m = (t u : ℕ) → places_at m t ≡ Head → places_at m u ≡ Head → t ≡ u

-- The last of these moments of the queue is that of a step of the pass with this number. At the seat of that step it had entered the queue and been its head so often. The task of that number isn't in
-- the queue.
pub record IsOutOfQueue (task : Option ℕ) (fronts swaps : ℕ) (past : List Moment) : Type 0 where
  pub step : ℕ
  pub own : IsStepBy task step past
  pub fronts_are : get_elem? own.now.fronts own.seat ≡ some fronts
  pub node : Marks
  pub node_is : get_elem? own.now.marks own.seat ≡ some node
  pub swaps_are : swaps_in node.numbers ≡ swaps
  pub out : (t : ℕ) → task ≡ Some t → places_at own.now t ≡ Out
