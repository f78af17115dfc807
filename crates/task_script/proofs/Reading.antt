-- What a reader's answer says of the script.
use Rattle.std.proofs.Common.{◌≡◌, ℕ, ◌≤◌, false, List, length, nat_lt, refl, arith}
use Rattle.std.proofs.lemmas.Bool.Decides.{nat_tests}
use Rattle.task_script.specs.Cuts.{lines}
use Rattle.task_script.specs.Scripts.{nothing}
use Rattle.task_script.specs.Grammar.{lines_after, script_of}

-- a text that isn't too long is read by lines
pub short_script : (text : List ℕ) → length text ≤ 1048576 → script_of text ≡ lines_after 1 nothing (lines text)
short_script text short = let fits : nat_lt 1048576 (length text) ≡ false = grind (arith, nat_tests) in rw fits refl
