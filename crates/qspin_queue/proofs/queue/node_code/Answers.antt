use Rattle.std.proofs.Common.{sym, ◌∙◌, arith}
use Rattle.qspin_queue.proofs.queue.node_code.Goals as goal

pub returns : goal.returns
returns g c = let named = sym c.task.ensures ∙ c.in-Some.is in let p = c.requires.own.planned c.in-Some.task named in let s = c.args.site.now.small.tasks in let l = p.0 in let depth = c.depth.ensures in let room = c.requires.room in record {
  task = c.in-Some.task;
  index = c.depth.result;
  named = sym c.requires.own.task ∙ named;
  is = (let a = c.from.ensures in let b = c.from-2.ensures in omega (arith, a, b));
  depth = depth;
  small = omega (arith, s, l);
  four = omega (arith, depth, room);
}
