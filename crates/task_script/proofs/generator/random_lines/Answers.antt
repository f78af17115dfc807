use Rattle.task_script.specs.Generated.{random_lines}
use Rattle.task_script.proofs.Random.{lines_more, lines_all}
use Rattle.task_script.proofs.generator.random_lines.Goals as goal

pub loop-preserved : goal.loop-preserved
loop-preserved c =
    rw (c.in_ok-push.ensures.items, c.random_line.ensures, c.next_random-x.ensures)
    (lines_more c.args.task c.loop.x c.args.count c.loop.counter c.loop.lines.items (random_lines c.args.task c.args.seed c.args.count) c.loop-test.true c.loop.invariant)

pub returns : goal.returns
returns c = lines_all c.args.task c.loop.x c.args.count c.loop.counter c.loop.lines.items (random_lines c.args.task c.args.seed c.args.count) c.loop-test.false c.loop.invariant
