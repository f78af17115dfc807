-- One more area follows exactly where it leaves a gap or has another protection.
use Rattle.std.proofs.Common.{sym, arith}
use Rattle.std.proofs.lemmas.Bool.Decides.{nat_tests}
use Rattle.vma_map.proofs.WordLemmas.{follows-push, push-follows}
use Rattle.vma_map.proofs.words.can_follow.Goals as goal

pub returns-then-last-area : goal.returns-then-last-area
returns-then-last-area c =
    (λ _. follows-push _ _ c.args.area (sym c.in-Some.ensures.value) c.requires.runs c.requires.is (record { ascend = omega arith; differ = λ touch _. absurd (omega arith) }), λ _. grind (arith, nat_tests))

pub returns-then-last-area-2 : goal.returns-then-last-area-2
returns-then-last-area-2 c = (
  λ other. follows-push _ _ c.args.area (sym c.in-Some.ensures.value) c.requires.runs c.requires.is (record { ascend = omega arith; differ = λ _ same. absurd (grind (arith, nat_tests)) }),
  λ runs. let follows = push-follows _ _ c.args.area (sym c.in-Some.ensures.value) runs in let differ = follows.differ c.if-last-area-2.true in grind (arith, nat_tests),
)

pub returns-else-last-area-2 : goal.returns-else-last-area-2
returns-else-last-area-2 c = (
  λ touch. absurd (grind (arith, nat_tests)),
  λ runs. let follows = push-follows _ _ c.args.area (sym c.in-Some.ensures.value) runs in let ascend = follows.ascend in absurd (omega arith),
)
