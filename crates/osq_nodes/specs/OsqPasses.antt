-- A pass of a spin queue with its seat. Its hand is that of a pass that has no more than a number.
use Rattle.std.specs.Prelude.{◌≡◌, None}
use Rattle.word_bits.specs.Histories.{Plan}
use Rattle.atomic_table.specs.Table.{Me}
use Rattle.atomic_table.specs.Seated.{TableId}
use Rattle.osq_nodes.specs.Types.{Seen, Face, Node}
use Rattle.lock_core.specs.SitePasses.{Sits}
use Rattle.lock_core.specs.Views.{HoldsNothing}

pub record OnQueue (k : Plan) (table seat : TableId) (me : Me (Unit {0}) (Seen Node)) (face : Face) : Type 0 where
  pub sits : Sits k table seat me face
  pub holds : HoldsNothing me.0.view
  pub sent : me.0.view.hand.sent ≡ None
  pub consumed : me.0.view.hand.consumed ≡ 0
