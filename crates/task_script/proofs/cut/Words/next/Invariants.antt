use Rattle.std.proofs.Common.{◌≡◌, ◌+◌, not, filter, length}
use Rattle.std.specs.Option.{option_map_or}
use Rattle.task_script.specs.Cuts.{is_blank, is_empty}
use Rattle.task_script.specs.LineParts.{IsPlainLeft, parts_of}
use Rattle.task_script.proofs.cut.Words.next.Given as goal

abbrev pub invariant-loop-self : goal.invariant-loop-self
invariant-loop-self l = record {
  words : filter (λ v. not (is_empty v)) (parts_of is_blank l.self-inside.rest) ≡ l.fn.self;
  plain : IsPlainLeft l.self-inside.rest;
}

abbrev pub decreases-loop-self : goal.decreases-loop-self
decreases-loop-self l = option_map_or (λ rest. length rest.now + 1) l.self-inside.rest 0
