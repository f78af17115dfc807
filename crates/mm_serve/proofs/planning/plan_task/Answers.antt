use Rattle.std.proofs.Common.{◌≡◌, ◌∙◌, ◌+◌, ◌<◌, [], ap, arith, get_or, length, rules, subst, sym}
use Rattle.std.proofs.Math.ListN.{length-set}
use Rattle.word_bits.specs.Histories.{Plan}
use Rattle.lock_core.specs.Plans.{appended}
use Rattle.mm_serve.specs.Types.{Line}
use Rattle.mm_serve.proofs.Filling.{adds-more, still-room, still-task}
use Rattle.mm_serve.proofs.planning.plan_task.Goals as goal

abbrev no_line : Line
no_line = record { object = 0; words = [] }

pub loop-line-preserved : goal.loop-line-preserved
loop-line-preserved c =
    let i = c.loop-line.line-index in
    let lines = c.args.lines.now in
    let plans = c.loop-line.plans.items in
    let olds = c.args.plans.now.items in
    let inv = c.loop-line.invariant in
    let task = c.args.task in
    let p = c.index_mut.result.now in
    let new = c.push.new.self in
    let left = c.in_ok-left.left in
    let inside = c.loop-line-test.true in
    let object = c.requires.objects i no_line inside in
    let below : (get_or lines i no_line).object < length plans = omega (arith, object, inv.0) in
    let is = c.index_mut.ensures.value in
    let now = c.in_ok-push.ensures.ok ∙ ap (appended p task) c.call.ensures in
    let there : task < length p = subst (λ (q : Plan). task < length q) (sym is) (inv.1 (get_or lines i no_line).object p below) in
    let less : left + 1 ≡ c.loop-line.room = search rules in (
      length-set plans (get_or lines i no_line).object new ∙ inv.0,
      still-task task i c.loop-line.room left lines no_line olds plans p new inside below is now there inv.1,
      still-room task i c.loop-line.room left lines no_line olds plans p new inside below is now there less inv.2,
      adds-more task i c.loop-line.room left lines no_line olds plans p new inside below is now inv.3,
    )
