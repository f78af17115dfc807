use Rattle.std.proofs.Common.{◌≡◌, ◌∙◌, ℕ, ◌+◌, ◌*◌, ◌/◌, ◌%◌, ◌==◌, length, sym, refl, ap, subst, arith}
use Rattle.lock_core.specs.Records.{bit}
use Rattle.wait_list.specs.Lists.{Part}
use Rattle.rwsem_count.specs.Counts.{early_weight, late_weight, shared_weight}
use Rattle.wait_list.proofs.Appending.{byte-bit}
use Rattle.rwsem_wake.specs.SemParts.{some_of, transit_weight}
use Rattle.rwsem_wake.specs.Grants.{OnlySem, TurnsTo, counted, gains, looked, losses}
use Rattle.rwsem_wake.specs.Types.{Held, View, Bias, SemHand, Counted}
use Rattle.rwsem_wake.proofs.Courses.{only-one-step, only-more, sem-after, list-after, sum-some, sum-by}
use Rattle.rwsem_wake.proofs.Flags.{flag-bit}
use Rattle.rwsem_wake.proofs.grants.count_batch.Goals as goal

pub add_sum-requires-clause-keeps : goal.add_sum-requires-clause-keeps
add_sum-requires-clause-keeps g c = let with_sem = g.H.GrantHost.with_sem in let v = c.args.pass.now.seat.me.0.view in let s = g.H.GrantHost.sem v.ext in let q = (g.H.ListHost.list v.ext).list in let u = c.look_count.new.pass.seat.me.0.view in let n = c.look_count.result in let n1 = byte-bit c.args.reserved in let n2 = byte-bit c.args.empty in let flag = c.has_handoff-handoff.result in
    let handoff : c.from-2.result ≡ n / 4 % 2 = c.from-2.ensures ∙ ((byte-bit flag).0 ∙ flag-bit flag (n / 4) c.has_handoff-handoff.ensures) in
    let own = c.from.ensures ∙ n1.0 ∙ c.requires.reserved in let rest : c.from-3.result + some_of q ≡ 1 = ap (λ (z : ℕ). z + some_of q) (c.from-3.ensures ∙ n2.0) ∙ c.requires.empty in let gain = 256 * c.args.readers in let loss = 256 * c.from.result + 4 * c.from-2.result + 2 * c.from-3.result in let loses = ap (λ (z : ℕ). 256 * c.from.result + 4 * z + 2 * c.from-3.result) handoff in
    let t = record s { stage = Counted (n / 4 % 2 == 1) } in let is : looked s q n ≡ t = sum-some s q n c.args.readers gain loss c.from.result c.from-3.result c.requires.readers own rest refl loses c.if-gain-loss.true in
    let first = only-one-step with_sem v t u (subst (λ (z : SemHand). TurnsTo with_sem v z u) is c.look_count.ensures.kept) in let after = sem-after with_sem g.H.GrantHost.sem g.H.GrantHost.sem_back v t u first in
    let bias = ap (λ (z : SemHand). z.bias) after in let hand = ap (λ (z : View _). z.hand.held) c.look_count.ensures.kept in
    (ap (λ (h : Held). shared_weight h + early_weight (g.H.GrantHost.sem u.ext).bias) hand ∙ (ap (λ (b : Bias). shared_weight v.hand.held + early_weight b) bias ∙ c.requires.keeps.0), ap late_weight bias ∙ c.requires.keeps.1, ap transit_weight bias ∙ c.requires.keeps.2)

pub add_sum-requires-clause-sum : goal.add_sum-requires-clause-sum
add_sum-requires-clause-sum g c = let with_sem = g.H.GrantHost.with_sem in let v = c.args.pass.now.seat.me.0.view in let s = g.H.GrantHost.sem v.ext in let q = (g.H.ListHost.list v.ext).list in let u = c.look_count.new.pass.seat.me.0.view in let n = c.look_count.result in let n1 = byte-bit c.args.reserved in let n2 = byte-bit c.args.empty in let flag = c.has_handoff-handoff.result in
    let handoff : c.from-2.result ≡ n / 4 % 2 = c.from-2.ensures ∙ ((byte-bit flag).0 ∙ flag-bit flag (n / 4) c.has_handoff-handoff.ensures) in
    let own = c.from.ensures ∙ n1.0 ∙ c.requires.reserved in let rest : c.from-3.result + some_of q ≡ 1 = ap (λ (z : ℕ). z + some_of q) (c.from-3.ensures ∙ n2.0) ∙ c.requires.empty in let gain = 256 * c.args.readers in let loss = 256 * c.from.result + 4 * c.from-2.result + 2 * c.from-3.result in let loses = ap (λ (z : ℕ). 256 * c.from.result + 4 * z + 2 * c.from-3.result) handoff in
    let t = record s { stage = Counted (n / 4 % 2 == 1) } in let is : looked s q n ≡ t = sum-some s q n c.args.readers gain loss c.from.result c.from-3.result c.requires.readers own rest refl loses c.if-gain-loss.true in
    let first = only-one-step with_sem v t u (subst (λ (z : SemHand). TurnsTo with_sem v z u) is c.look_count.ensures.kept) in let after = sem-after with_sem g.H.GrantHost.sem g.H.GrantHost.sem_back v t u first in
    let known = list-after with_sem g.H.ListHost.list g.met.H.GrantHost.sem_list v t u first in let few = c.requires.few in let long = c.requires.readers in record {
      handoff = n / 4 % 2 == 1;
      stage = ap (λ (z : SemHand). z.stage) after;
      some = let e = ap (λ (z : SemHand). length z.rest) after in let more = c.requires.some in omega (arith, e, more, long);
      few = let e = ap (λ (z : SemHand). length z.rest) after in omega (arith, e, few, long);
      is = subst (λ (z : SemHand). gain + losses z (bit (n / 4 % 2 == 1)) ≡ loss + gains z (g.H.ListHost.list u.ext).list) (sym after)
          (subst (λ (z : Part). gain + losses s (bit (n / 4 % 2 == 1)) ≡ loss + gains s z.1.list) (sym known) (sum-by s q n c.args.readers gain loss c.from.result c.from-3.result c.requires.readers own rest refl loses));
    }

pub returns-then-gain-loss-clause-kept : goal.returns-then-gain-loss-clause-kept
returns-then-gain-loss-clause-kept g c = let with_sem = g.H.GrantHost.with_sem in let v = c.args.pass.now.seat.me.0.view in let s = g.H.GrantHost.sem v.ext in let q = (g.H.ListHost.list v.ext).list in let u = c.look_count.new.pass.seat.me.0.view in let n = c.look_count.result in let n1 = byte-bit c.args.reserved in let n2 = byte-bit c.args.empty in let flag = c.has_handoff-handoff.result in
    let handoff : c.from-2.result ≡ n / 4 % 2 = c.from-2.ensures ∙ ((byte-bit flag).0 ∙ flag-bit flag (n / 4) c.has_handoff-handoff.ensures) in
    let own = c.from.ensures ∙ n1.0 ∙ c.requires.reserved in let rest : c.from-3.result + some_of q ≡ 1 = ap (λ (z : ℕ). z + some_of q) (c.from-3.ensures ∙ n2.0) ∙ c.requires.empty in let gain = 256 * c.args.readers in let loss = 256 * c.from.result + 4 * c.from-2.result + 2 * c.from-3.result in let loses = ap (λ (z : ℕ). 256 * c.from.result + 4 * z + 2 * c.from-3.result) handoff in
    let t = record s { stage = Counted (n / 4 % 2 == 1) } in let is : looked s q n ≡ t = sum-some s q n c.args.readers gain loss c.from.result c.from-3.result c.requires.readers own rest refl loses c.if-gain-loss.true in
    let first = only-one-step with_sem v t u (subst (λ (z : SemHand). TurnsTo with_sem v z u) is c.look_count.ensures.kept) in let after = sem-after with_sem g.H.GrantHost.sem g.H.GrantHost.sem_back v t u first in let w = c.add_sum.new.pass.seat.me.0.view in
    only-more with_sem g.H.GrantHost.sem_over v t (counted s) u w first (subst (λ (z : SemHand). OnlySem with_sem u (counted z) w) after (only-one-step with_sem u (counted (g.H.GrantHost.sem u.ext)) w c.add_sum.ensures.kept))
