-- One more call is counted, and at the end all are.
use Rattle.std.proofs.Common.{◌≡◌, ◌+◌, ◌<◌, ◌∙◌, List, length, get_or, [], sym, subst, arith}
use Rattle.std.proofs.lemmas.Grind.{common_steps}
use Rattle.std.proofs.lemmas.List.{length-set, take_all}
use Rattle.std.proofs.lemmas.Option.{same_Some}
use Rattle.mm_report.specs.Results.{AddsCalls}
use Rattle.mm_report.specs.Types.{Line}
use Rattle.mm_report.proofs.Tallies.{one_more_call}
use Rattle.mm_report.proofs.results.count_task.Goals as goal

abbrev no_line : Line
no_line = record { object = 0; words = [] }

pub loop-line-init : goal.loop-line-init
loop-line-init c = record {
  counted = λ object below. omega arith;
  all = c.told-counts;
}

pub loop-line-preserved : goal.loop-line-preserved
loop-line-preserved c =
    let i = c.loop-line.line-index in
    let lines = c.calls-line-items.result.now in
    let now = c.loop-line.counts in
    let on : (get_or lines i no_line).object < length c.args.script.now.objects = c.calls-line-items.ensures.on_objects i no_line c.loop-line-test.true in
    let few = c.requires.few in
    let count : c.in_ok-counts.field-0 ≡ get_or now (get_or lines i no_line).object 0 + 1 = grind (arith, common_steps) in record {
      counted = one_more_call lines i no_line c.args.counts.now now c.in_ok-counts.field-0 c.loop-line-test.true c.loop-line.invariant.all (omega arith) count c.loop-line.invariant.counted;
      all = length-set now (get_or lines i no_line).object _ ∙ c.loop-line.invariant.all;
    }

pub returns : goal.returns
returns c = record {
  counted = λ lines at.
      let own = same_Some lines c.calls-line-items.result.now (sym at ∙ c.calls-line-items.ensures.calls) in
      subst (λ (ls : List Line). AddsCalls ls c.args.counts.now c.loop-line.counts) (take_all c.loop-line.line-index c.calls-line-items.result.now c.loop-line-test.false ∙ sym own) c.loop-line.invariant.counted;
}
