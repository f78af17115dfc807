use Rattle.std.proofs.Common.{◌∙◌, ◌-◌, ap, length, arith}
use Rattle.mutex_slow.specs.MutexHandles.{plan_of}
use Rattle.kept_words.specs.declared.mutex.SharedMutex.{SharedMutex}
use Rattle.kept_words.specs.Laws.Keeping.{kept-opens, plan-length, plan-so}
use Rattle.kept_words.proofs.mutex.KeptMutex.open.Goals as goal

pub open-requires : goal.open-requires
open-requires g c = plan-so g.I.Invariant.WORDS g.I.Invariant.keeps (c.args.tasks - 1) c.in_ok-plan.plan c.in_ok-plan.ensures

pub open_words-requires-clause-own : goal.open_words-requires-clause-own
open_words-requires-clause-own g c = record {
  own = c.in_ok-mutex.ensures.own;
  planned = plan-so g.I.Invariant.WORDS g.I.Invariant.keeps (c.args.tasks - 1) (plan_of c.in_ok-mutex.mutex) (c.in_ok-mutex.ensures.plan ∙ c.in_ok-plan.ensures);
}

pub open_words-requires-clause-opens : goal.open_words-requires-clause-opens
open_words-requires-clause-opens g c = kept-opens g.I.Invariant.WORDS g.I.Invariant.keeps _ (c.args.tasks - 1) (plan_of c.in_ok-mutex.mutex) c.args.words.now (c.in_ok-mutex.ensures.plan ∙ c.in_ok-plan.ensures) c.requires.wide c.requires.keeps

pub split_all-requires-clause-few : goal.split_all-requires-clause-few
split_all-requires-clause-few g c =
    let same = ap (λ (s : SharedMutex _ _). length (plan_of s.mutex)) c.in_ok-shared.ensures.ok in
    let all = plan-length c.args.tasks (plan_of c.in_ok-mutex.mutex) c.requires.some (c.in_ok-mutex.ensures.plan ∙ c.in_ok-plan.ensures) in
    let others = c.in_ok-others.ensures in
    let some = c.requires.some in
    omega (arith, same, all, others, some)
