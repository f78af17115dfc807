use Rattle.std.proofs.Common.{◌≡◌, ◌<◌, ◌^◌, drop}
use Rattle.std.specs.Char.{is_ascii_digit}
use Rattle.std.specs.List.{list_all}
use Rattle.task_script.specs.Tokens.{value_after}
use Rattle.task_script.proofs.token.number_of.Given as goal

abbrev pub invariant-loop-digit : goal.invariant-loop-digit
invariant-loop-digit l = record {
  value : value_after l.value (drop l.digit-index l.word) ≡ value_after 0 l.word;
  digits : list_all is_ascii_digit (drop l.digit-index l.word) ≡ list_all is_ascii_digit l.word;
  fits : l.value < 10 ^ l.digit-index;
}
