use Rattle.std.proofs.Common.{◌<◌, ◌≡◌, length, refl, arith, Some}
use Rattle.std.specs.Prelude.{slice_get}
use Rattle.std.specs.Global.{Vec}
use Rattle.std.proofs.lemmas.List.{length-map}
use Rattle.std.proofs.lemmas.Option.{slice_get_read}
use Rattle.task_script.specs.declared.script.Line.{Line}
use Rattle.task_script.proofs.Mapped.{at_place, mapped_same}
use Rattle.task_script.proofs.script.Script.links.Goals as goal

pub returns : goal.returns
returns c = λ lines is.
    let tasks = c.self.inside.tasks.items in
    let links = c.self.inside.links.items in
    let items = λ (v : Vec Line). v.items in
    let linked = c.self.invariant.linked in
    let within : c.args.task < length tasks = rw (length-map) at (rw (← c.self.view_is) at c.requires) in
    let here = at_place tasks c.args.task within in
    let at : slice_get links c.args.task ≡ Some c.index.result.now = slice_get_read links (length links) c.args.task c.index.result.now refl (omega (arith, linked.each)) c.index.ensures in
    rw (mapped_same items tasks c.args.task here.0 lines here.1 (rw (← c.self.view_is) at is), c.as_slice.ensures.value) (linked.linked c.args.task here.0 c.index.result.now here.1 at)
