-- What a look at a spin queue tells of its fronts, and of who looks.
use Rattle.std.proofs.Common.{◌≡◌, ◌∙◌, ℕ, List, [], ◌∷◌, Option, sym}
use Rattle.lock_core.specs.declared.view.Moment.{Moment}
use Rattle.lock_core.specs.SiteHandles as inner
use Rattle.lock_core.specs.NodeLists.{IsFirst}
use Rattle.lock_core.specs.Pasts.{EachMoment}
use Rattle.lock_core.specs.Laws.SiteRun.{step-by}
use Rattle.osq_nodes.specs.declared.node.Place.TheVariants.{Out}
use Rattle.osq_nodes.specs.declared.pass.OsqPass.{OsqPass}
use Rattle.osq_nodes.specs.declared.queue.Osq.{Osq}
use Rattle.osq_nodes.specs.OsqHandles.{fronts_in, past_of, place_in, swaps_in, view_of, SitsAt, StatesOwn}
use Rattle.osq_nodes.specs.OsqStated.{IsSpinQueue}
use Rattle.osq_unqueue.specs.Fronts.{HasOneHead, IsOutOfQueue}

first-once : (queue : List ℕ) (t u : ℕ) → IsFirst queue t → IsFirst queue u → t ≡ u
first-once [] t u first other = absurd first
first-once (x ∷ queue) t u first other = sym first ∙ other

one-head : (tasks : ℕ) (m : Moment) → IsSpinQueue tasks m → HasOneHead m
one-head tasks m is t u head other = first-once is.queue t u (is.head t head) (is.head u other)

pub each-head : (tasks : ℕ) (past : List Moment) → EachMoment (IsSpinQueue tasks) past → EachMoment HasOneHead past
each-head tasks [] e = tt
each-head tasks (m ∷ past) e = (one-head tasks m e.0, each-head tasks past e.1)

-- a pass that has looked, whose hand has this number, and which isn't in the queue
pub out-of-queue : (osq : Osq) (pass : OsqPass) (task : Option ℕ) → SitsAt osq pass → StatesOwn pass → (inner.hand_in pass.pass).task ≡ task → place_in pass ≡ Out → IsOutOfQueue task (fronts_in pass) (swaps_in pass) (past_of pass)
out-of-queue osq pass task sits mine said off = record {
  step = (view_of pass).steps;
  own = step-by (view_of pass) task (past_of pass) said mine.own;
  fronts_are = mine.own.fronts;
  node = mine.node;
  node_is = mine.node_is;
  swaps_are = mine.swaps;
  out = λ t is. mine.task t (sits.sits.task ∙ (said ∙ is)) ∙ off;
}
