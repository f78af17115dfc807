use Rattle.std.proofs.Common.{◌≡◌, true, [], get_or, arith}
use Rattle.std.proofs.lemmas.Bool.{eq-eqb}
use Rattle.std.proofs.lemmas.List.Sums.{count_by_more_yes}
use Rattle.task_script.specs.Scripts.{is_on}
use Rattle.mm_report.specs.Types.{Line}
use Rattle.mm_report.proofs.Linked.{next_place}
use Rattle.mm_report.proofs.task_calls.TaskCalls.count_on.Goals as goal

abbrev any_line : Line
any_line = record { object = 0; words = [] }

pub loop-number-preserved-then-self-number : goal.loop-number-preserved-then-self-number
loop-number-preserved-then-self-number c =
    let lines = c.args.self.now.lines.now in
    let n = c.loop-number.number in
    let link = next_place c.args.object lines c.args.self.now.links.now n any_line c.requires.linked c.loop-number-test.true c.if-self-number.true in
    let on : is_on c.args.object (get_or lines n any_line) ≡ true = eq-eqb (get_or lines n any_line).object c.args.object c.if-self-number.true in record {
      within = link.within;
      counted = omega (arith, link.before, c.loop-number.invariant.counted, count_by_more_yes (is_on c.args.object) lines n any_line c.loop-number-test.true on);
    }
