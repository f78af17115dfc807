-- What is returned is what the meaning of the words says, which is exact.
use Rattle.std.proofs.Common.{◌≡◌, Option, Some, subst, arith}
use Rattle.std.proofs.lemmas.Grind.{common_steps}
use Rattle.word_bits.specs.declared.call.CallWords.{CallWords}
use Rattle.word_bits.specs.Packed.{IsFound}
use Rattle.fd_table.specs.declared.call.TableCall.{TableCall}
use Rattle.fd_table.specs.declared.call.TableCall.TheVariants.{Open, Close, Dup, Dup2, Get}
use Rattle.fd_table.specs.Tables.{IsCallOf, call_of}
use Rattle.fd_table.specs.Laws.TableCall.{call_of-exact}
use Rattle.fd_table.proofs.call.TableCall.call_of.Goals as goal

-- what equals the meaning of the words is exact
exact_as : (w : CallWords) (result : Option TableCall) → call_of w ≡ result → IsFound (IsCallOf w) result
exact_as w result e = subst (IsFound (IsCallOf w)) e (call_of-exact w)

pub returns-in_ok-ok-in-Open-eq0-clause-exact : goal.returns-in_ok-ok-in-Open-eq0-clause-exact
returns-in_ok-ok-in-Open-eq0-clause-exact c =
    exact_as c.args.words (Some (Open c.in_ok-ok-in-Open-eq0.field-0)) (grind (arith, common_steps))

pub returns-in-Close-eq0-clause-exact : goal.returns-in-Close-eq0-clause-exact
returns-in-Close-eq0-clause-exact c =
    exact_as c.args.words (Some (Close c.first-first.result)) (grind (arith, common_steps))

pub returns-in-Dup-eq0-clause-exact : goal.returns-in-Dup-eq0-clause-exact
returns-in-Dup-eq0-clause-exact c =
    exact_as c.args.words (Some (Dup c.first-first.result)) (grind (arith, common_steps))

pub returns-in-Dup2-default-clause-exact : goal.returns-in-Dup2-default-clause-exact
returns-in-Dup2-default-clause-exact c =
    exact_as c.args.words (Some (Dup2 c.first-first.result c.second.result)) (grind (arith, common_steps))

pub returns-in-Get-eq0-clause-exact : goal.returns-in-Get-eq0-clause-exact
returns-in-Get-eq0-clause-exact c =
    exact_as c.args.words (Some (Get c.first-first.result)) (grind (arith, common_steps))
