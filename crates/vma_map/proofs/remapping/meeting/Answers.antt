-- The areas that end before the range stand in front of those that begin behind it.
use Rattle.std.proofs.Common.{◌<◌, ◌≤◌, List, length, take, drop, sym, ap, subst, arith}
use Rattle.std.specs.List.{AllByRecursion}
use Rattle.word_bits.specs.declared.area.Area.{Area}
use Rattle.vma_map.proofs.ChangeLemmas.{behind-met, ended-begun, ended-starts}
use Rattle.vma_map.proofs.remapping.meeting.Goals as goal

pub count_begun_from-requires-clause-front : goal.count_begun_from-requires-clause-front
count_begun_from-requires-clause-front g c =
    let areas = g.S.AreaStore.areas c.args.place.now c.args.hand.now in
    let space = g.met.S.AreaStore.in_order c.args.place.now c.args.hand.now c.requires.has in
    let begun = ended-starts areas c.count_ended-at.result c.args.start c.args.end space.runs c.requires.some c.count_ended-at.ensures.ended in
    subst (λ (xs : List Area). AllByRecursion (λ (a : Area). a.start ≤ c.args.end) (take c.count_ended-at.result xs)) (sym c.count_ended-at.ensures.same) begun

pub overflow_sub-result : goal.overflow_sub-result
overflow_sub-result g c =
    let areas = g.S.AreaStore.areas c.args.place.now c.args.hand.now in
    let space = g.met.S.AreaStore.in_order c.args.place.now c.args.hand.now c.requires.has in
    let behind = subst (λ (xs : List Area). AllByRecursion (λ (a : Area). c.args.end < a.start) (drop c.count_begun_from.result xs)) c.count_ended-at.ensures.same c.count_begun_from.ensures.others in
    ended-begun areas c.count_ended-at.result c.count_begun_from.result c.args.start c.args.end space.runs c.requires.some c.count_ended-at.ensures.within c.count_ended-at.ensures.ended behind

pub returns-clause-within : goal.returns-clause-within
returns-clause-within g c =
    let within = c.count_begun_from.ensures.within in
    let same = ap length c.count_ended-at.ensures.same in
    let at = c.count_ended-at.ensures.within in
    omega (arith, within, same, at)

pub returns-clause-behind : goal.returns-clause-behind
returns-clause-behind g c =
    let areas = g.S.AreaStore.areas c.args.place.now c.args.hand.now in
    let space = g.met.S.AreaStore.in_order c.args.place.now c.args.hand.now c.requires.has in
    let behind = subst (λ (xs : List Area). AllByRecursion (λ (a : Area). c.args.end < a.start) (drop c.count_begun_from.result xs)) c.count_ended-at.ensures.same c.count_begun_from.ensures.others in
    behind-met areas c.count_ended-at.result c.count_begun_from.result c.args.start c.args.end space.runs c.requires.some c.count_ended-at.ensures.within c.count_ended-at.ensures.ended behind
