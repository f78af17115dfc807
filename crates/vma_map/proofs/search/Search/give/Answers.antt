-- The first word counts the areas. The area of another word begins at the page or before it, or behind it; half of those that are left stay.
use Rattle.std.proofs.Common.{◌≡◌, ◌≢◌, ℕ, ◌-◌, ◌<◌, ◌≤◌, Option, IfSome, length, take, drop, slice_index, ap, subst, sym, ◌∙◌, arith}
use Rattle.std.specs.List.{AllByRecursion}
use Rattle.std.proofs.lemmas.Bool.Decides.{nat_tests}
use Rattle.std.proofs.lemmas.List.{drop_all}
use Rattle.word_bits.specs.declared.area.Area.{Area}
use Rattle.vma_map.specs.Bisections.{middle_of}
use Rattle.vma_map.proofs.Ascending.{parted-low, parted-high}
use Rattle.vma_map.proofs.Narrowing.{halves, number-first, wanted-first, wanted-left, wanted-middle}
use Rattle.vma_map.proofs.search.Search.give.Goals as goal

pub returns-then-not-self-clause-agrees : goal.returns-then-not-self-clause-agrees
returns-then-not-self-clause-agrees c = λ words at agrees areas is same _.
    let s = c.args.self.now in
    let first : s.asked ≡ 0 = let e = c.if-not-self.true in let n = s.number in grind (arith, nat_tests) in
    let value = subst (λ (o : Option ℕ). IfSome o (λ i. slice_index words i ≡ c.args.word)) (wanted-first s.asked s.begun.low s.begun.high first) at in
    let number = number-first areas words same in
    let few = is.few in
    let most = c.new-self.ensures.most ∙ c.number_in.ensures.number (omega (arith, value, number, few)) in
    let least = c.new-self.ensures.least in
    let all : length areas ≤ c.new-self.result.high = omega (arith, most, value, number) in
    record {
      parted = (subst (λ (n : ℕ). AllByRecursion (λ (a : Area). a.start ≤ s.page) (take n areas)) (sym least) tt, subst (AllByRecursion (λ (a : Area). s.page < a.start)) (sym (drop_all c.new-self.result.high areas all)) tt);
      within = omega (arith, most, value, number);
      last = λ some. absurd (some least);
    }

pub invariant_of-self-then-word-from : goal.invariant_of-self-then-word-from
invariant_of-self-then-word-from c =
    let s = c.args.self.now in
    let later : s.asked ≢ 0 = let e = c.if-not-self.false in let n = s.number in λ z. grind (arith, nat_tests) in
    let left = wanted-left s.asked s.begun.low s.begun.high later c.requires.wants in
    let less = halves s.asked (s.begun.high - s.begun.low) s.few (omega (arith, left)) s.narrow in
    let few = less.0 in
    let half = less.1 in
    let within = s.within in
    let least = c.passes.ensures.least in
    let most = c.passes.ensures.most in
    record { few = omega (arith, few); number = (let n = s.number in grind (arith, nat_tests)); within = omega (arith, most, within); narrow = omega (arith, left, least, most, half) }

pub returns-then-word-from-clause-agrees : goal.returns-then-word-from-clause-agrees
returns-then-word-from-clause-agrees c = λ words at agrees areas is same _.
    let s = c.args.self.now in
    let later : s.asked ≢ 0 = let e = c.if-not-self.false in let n = s.number in λ z. grind (arith, nat_tests) in
    let left = wanted-left s.asked s.begun.low s.begun.high later c.requires.wants in
    let r = agrees areas is same later in
    let within = r.within in
    let value = sym (subst (λ (o : Option ℕ). IfSome o (λ i. slice_index words i ≡ c.args.word)) (wanted-middle s.asked s.begun.low s.begun.high later left) at) in
    let least = c.passes.ensures.least in
    let most = c.passes.ensures.most in
    let parted = parted-low areas words s.page (middle_of s.begun) c.args.word s.begun.low s.begun.high is.runs same (omega (arith, left, within)) value (omega (arith, c.if-word-from.true, c.from.ensures)) r.parted in
    record {
      parted = (subst (λ (n : ℕ). AllByRecursion (λ (a : Area). a.start ≤ s.page) (take n areas)) (sym least) parted.0, subst (λ (n : ℕ). AllByRecursion (λ (a : Area). s.page < a.start) (drop n areas)) (sym most) parted.1);
      within = omega (arith, most, within);
      last = λ _. value ∙ ap (slice_index words) (sym least);
    }

pub invariant_of-self-else-word-from : goal.invariant_of-self-else-word-from
invariant_of-self-else-word-from c =
    let s = c.args.self.now in
    let later : s.asked ≢ 0 = let e = c.if-not-self.false in let n = s.number in λ z. grind (arith, nat_tests) in
    let left = wanted-left s.asked s.begun.low s.begun.high later c.requires.wants in
    let less = halves s.asked (s.begun.high - s.begun.low) s.few (omega (arith, left)) s.narrow in
    let few = less.0 in
    let half = less.1 in
    let within = s.within in
    let least = c.fails.ensures.least in
    let most = c.fails.ensures.most in
    record { few = omega (arith, few); number = (let n = s.number in grind (arith, nat_tests)); within = omega (arith, left, most, within); narrow = omega (arith, left, least, most, half) }

pub returns-else-word-from-clause-agrees : goal.returns-else-word-from-clause-agrees
returns-else-word-from-clause-agrees c = λ words at agrees areas is same _.
    let s = c.args.self.now in
    let later : s.asked ≢ 0 = let e = c.if-not-self.false in let n = s.number in λ z. grind (arith, nat_tests) in
    let left = wanted-left s.asked s.begun.low s.begun.high later c.requires.wants in
    let r = agrees areas is same later in
    let within = r.within in
    let value = sym (subst (λ (o : Option ℕ). IfSome o (λ i. slice_index words i ≡ c.args.word)) (wanted-middle s.asked s.begun.low s.begun.high later left) at) in
    let least = c.fails.ensures.least in
    let most = c.fails.ensures.most in
    let parted = parted-high areas words s.page (middle_of s.begun) c.args.word s.begun.low s.begun.high is.runs same (omega (arith, left, within)) value (omega (arith, c.if-word-from.false, c.from.ensures)) r.parted in
    record {
      parted = (subst (λ (n : ℕ). AllByRecursion (λ (a : Area). a.start ≤ s.page) (take n areas)) (sym least) parted.0, subst (λ (n : ℕ). AllByRecursion (λ (a : Area). s.page < a.start) (drop n areas)) (sym most) parted.1);
      within = omega (arith, most, left, within);
      last = λ some. r.last (λ e. some (least ∙ e)) ∙ ap (slice_index words) (sym least);
    }
