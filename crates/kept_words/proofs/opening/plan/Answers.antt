use Rattle.std.proofs.Common.{◌∙◌, ap, arith}
use Rattle.lock_core.specs.Plans.{appended, calls_in}
use Rattle.lock_core.proofs.Planning.{calls_in-empty}
use Rattle.kept_words.specs.Keeping.{opening}
use Rattle.kept_words.specs.Laws.Keeping.{planned-so}
use Rattle.kept_words.proofs.opening.plan.Goals as goal

pub push-requires-clause-room : goal.push-requires-clause-room
push-requires-clause-room c = let e = ap calls_in c.in_ok-plan.ensures in let n = calls_in-empty c.args.tasks in omega (arith, e, n)

pub returns : goal.returns
returns c = c.in_ok-push.ensures.ok ∙ (ap (λ k. appended k 0 opening) c.in_ok-plan.ensures ∙ planned-so c.args.tasks c.requires.some)
