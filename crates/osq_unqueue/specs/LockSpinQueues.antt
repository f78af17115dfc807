-- What a lock with a spin queue tells of that queue.
use Rattle.std.specs.Prelude.{ℕ, List, length}
use Rattle.word_bits.specs.Histories.{Plan}
use Rattle.lock_core.specs.declared.view.Moment.{Moment}
use Rattle.lock_core.specs.Pasts.{BeganWith, EachMoment, Ran}
use Rattle.lock_core.specs.Shown.{Shown}
use Rattle.osq_nodes.specs.OsqPlaces.{node_marks}
use Rattle.osq_nodes.specs.OsqRuled.{IsOsqMove, newest}
use Rattle.osq_nodes.specs.OsqStated.{HasBecome, IsSpinQueue}
use Rattle.osq_unqueue.specs.Fronts.{HasOneHead, IsOutOfQueue}

-- What a pass knows that has looked back at the queue. At each of its moments so far, from the empty queue on, it knows who stood in it and in which order, and that one task at most was its head. It
-- knows which tasks stand in it now. The queue has come to be by tasks' own appends and by removals that keep the others in order alone. It knows what each step counted. Its own task isn't in the
-- queue, and has entered it and been its head as often as the pass says.
pub record KnowsSpinQueue (k : Plan) (v : Shown) (spun : List Moment) : Type 0 where
  pub begins : BeganWith (newest (length k)) spun
  pub always : EachMoment (IsSpinQueue (length k)) spun
  pub fronts : EachMoment HasOneHead spun
  pub queue : List ℕ
  pub become : HasBecome spun queue
  pub counts : Ran node_marks (newest (length k)) (IsOsqMove (length k)) spun
  pub out : IsOutOfQueue v.hand.task v.fronts v.swaps spun
