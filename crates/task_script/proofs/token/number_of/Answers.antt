use Rattle.std.proofs.Common.{arith, sym, ◌∙◌}
use Rattle.task_script.proofs.Numbers.{number_too_long}
use Rattle.task_script.proofs.token.number_of.Goals as goal

pub returns-then-word-gt-MOST_DIGITS : goal.returns-then-word-gt-MOST_DIGITS
returns-then-word-gt-MOST_DIGITS c = number_too_long c.args.word.now (sym c.has_leading_zero.ensures ∙ c.if-has_leading_zero.false) (omega arith)
