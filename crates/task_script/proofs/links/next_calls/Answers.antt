use Rattle.std.proofs.Common.{◌≡◌, ◌<◌, ◌-◌, ◌+◌, length, get_or, [], ◌∙◌, arith, Some, sym, subst}
use Rattle.std.specs.Prelude.{slice_get}
use Rattle.std.proofs.lemmas.List.{length-replicate, length-set, get_or-replicate}
use Rattle.std.proofs.lemmas.Option.{slice_get-get_or, slice_get_within}
use Rattle.task_script.specs.declared.script.Line.{Line}
use Rattle.task_script.specs.Links.{IsFirstOn}
use Rattle.task_script.proofs.Linking.{first_at_end, firsts_more, links_more}
use Rattle.task_script.proofs.links.next_calls.Goals as goal

abbrev any_line : Line
any_line = record { object = 0; words = [] }

pub loop-number-init : goal.loop-number-init
loop-number-init c =
    let end = length c.args.lines.now in record {
      within = omega arith;
      each = omega (arith, c.in_ok-next.ensures.len, c.in_ok-next.next.ok);
      objects = length-replicate 32 end;
      first = λ object below. subst (λ n. IsFirstOn c.args.lines.now object end n) (sym (get_or-replicate 32 object end 0 below)) (first_at_end c.args.lines.now object);
      linked = λ n line from at. let within = slice_get_within c.args.lines.now n line at in absurd (omega arith);
    }

pub loop-number-preserved : goal.loop-number-preserved
loop-number-preserved c =
    let lines = c.args.lines.now in
    let inv = c.loop-number.invariant in
    let n = c.loop-number.number - 1 in
    let low = inv.within in
    let later : n + 1 ≡ c.loop-number.number = omega (arith, c.loop-number-test.true) in
    let within : n < length lines = omega (arith, c.loop-number-test.true) in
    let l = get_or lines n any_line in
    let at : slice_get lines n ≡ Some l = slice_get-get_or lines n any_line within in
    let few : l.object < length c.loop-number.first = let on = c.requires.on_objects n any_line within in omega (arith, inv.objects, on) in record {
      within = omega arith;
      each = length-set c.loop-number.next.items n _ ∙ inv.each;
      objects = length-set c.loop-number.first l.object n ∙ inv.objects;
      first = λ object below. firsts_more lines c.loop-number.first n l at few (rw later inv.first) object (rw (← length-set c.loop-number.first l.object n) below);
      linked = links_more lines c.loop-number.next.items n (get_or c.loop-number.first l.object 0) l at (omega (arith, inv.each)) (rw later (inv.first l.object few)) (rw later inv.linked);
    }

pub returns : goal.returns
returns c = record {
  linked = record {
    each = c.loop-number.invariant.each;
    linked = λ n line at. c.loop-number.invariant.linked n line (let none = c.loop-number-test.false in omega arith) at;
  };
}
