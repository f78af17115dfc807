use Rattle.std.proofs.Common.{◌∙◌, subst, sym}
use Rattle.word_bits.specs.OwnerWord.{task_code}
use Rattle.wait_list.specs.Lists.{IsStill, sighted}
use Rattle.rwsem_wake.specs.Types.{ListHand, RwSemHand}
use Rattle.lock_core.proofs.Sitting.{some-number}
use Rattle.rwsem_wake.proofs.FirstLooks.{looks-by}
use Rattle.rwsem_wake.proofs.wake.choose.Goals as goal

pub first_task-requires-clause-still : goal.first_task-requires-clause-still
first_task-requires-clause-still g c = subst (λ (l : RwSemHand → ListHand). IsStill l c.args.pass.now.seat.me.0.view) (sym g.met.H.WakeHost.list_parts.0) c.requires.list.still

pub returns-clause-looks : goal.returns-clause-looks
returns-clause-looks g c = let own = some-number c.args.pass.now.face.task c.requires.numbered in looks-by c.args.pass.now.seat.me.0.view c.first_task.new.pass.seat.me.0.view own.0 (task_code c.first_task.result) c.requires.list c.requires.rests (sym c.requires.own.task ∙ own.1) (c.first_task.ensures.kept ∙ (λ i. sighted (g.met.H.WakeHost.list_parts.2 i) c.args.pass.now.seat.me.0.view (task_code c.first_task.result)))
