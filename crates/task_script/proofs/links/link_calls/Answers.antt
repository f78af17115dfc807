use Rattle.std.proofs.Common.{◌≡◌, length, length-append, refl, arith, Some}
use Rattle.std.specs.Prelude.{slice_get}
use Rattle.std.proofs.lemmas.Option.{slice_get_within, slice_get_read}
use Rattle.task_script.specs.Links.{HasLinks}
use Rattle.task_script.proofs.Linking.{tasks_more}
use Rattle.task_script.proofs.links.link_calls.Goals as goal

pub loop-lines-preserved : goal.loop-lines-preserved
loop-lines-preserved c =
    let tasks = c.args.tasks.now in
    let links = c.loop-lines.links.items in
    let inv = c.loop-lines.invariant in
    let here : slice_get tasks (length links) ≡ Some c.lines-item.result = rw inv.each (slice_get_read tasks (length tasks) c.loop-lines.lines-index c.lines-item.result refl c.loop-lines-test.true c.lines-item.is) in
    let has : HasLinks c.lines-item.result.items c.in_ok-next_calls.field-0.items = rw (← c.deref.ensures.value) c.in_ok-next_calls.ensures.linked in record {
      each = rw c.in_ok-push.ensures.items (simp (length-append, inv.each) refl);
      linked = λ task lines next below is found.
          tasks_more tasks links c.lines-item.result c.in_ok-next_calls.field-0 here has (rw inv.each inv.linked) task lines next (omega (arith, inv.each, below)) is (rw c.in_ok-push.ensures.items at found);
    }

pub returns : goal.returns
returns c = record {
  linked = record {
    each = let all = c.loop-lines.auto.lines-index-end in omega (arith, c.loop-lines-test.false, c.loop-lines.invariant.each);
    linked = λ task lines next at is. c.loop-lines.invariant.linked task lines next (let within = slice_get_within c.loop-lines.links.items task next is in omega (arith, c.loop-lines.invariant.each)) at is;
  };
}
