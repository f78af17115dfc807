use Rattle.std.proofs.Common.{sym, refl, subst}
use Rattle.rwsem_wake.specs.Grants.{IsGranting, OnlySem, all_granted, counted, summing}
use Rattle.rwsem_wake.specs.Types.{SemHand}
use Rattle.rwsem_wake.proofs.Courses.{only-more, sem-after, goes-granting}
use Rattle.rwsem_wake.proofs.grants.grant_removed.Goals as goal

pub grant_all-requires-clause-granting : goal.grant_all-requires-clause-granting
grant_all-requires-clause-granting g c = let with_sem = g.H.GrantHost.with_sem in let sem = g.H.GrantHost.sem in let v = c.args.pass.now.seat.me.0.view in let s = sem v.ext in let u1 = c.clear_first.new.pass.seat.me.0.view in let u2 = c.count_batch.new.pass.seat.me.0.view in
    let after1 = sem-after with_sem sem g.H.GrantHost.sem_back v (summing s) u1 c.clear_first.ensures.kept in
    let both = only-more with_sem g.H.GrantHost.sem_over v (summing s) (counted s) u1 u2 c.clear_first.ensures.kept (subst (λ (z : SemHand). OnlySem with_sem u1 (counted z) u2) after1 c.count_batch.ensures.kept) in
    let after2 = sem-after with_sem sem g.H.GrantHost.sem_back v (counted s) u2 both in
    subst (λ (z : SemHand). IsGranting z c.args.batch.now) (sym after2) record { stage = goes-granting c.args.batch.now c.requires.removed.some; clear = refl; rest = c.requires.removed.rest }

pub returns-clause-kept : goal.returns-clause-kept
returns-clause-kept g c = let with_sem = g.H.GrantHost.with_sem in let sem = g.H.GrantHost.sem in let v = c.args.pass.now.seat.me.0.view in let s = sem v.ext in let u1 = c.clear_first.new.pass.seat.me.0.view in let u2 = c.count_batch.new.pass.seat.me.0.view in
    let after1 = sem-after with_sem sem g.H.GrantHost.sem_back v (summing s) u1 c.clear_first.ensures.kept in
    let both = only-more with_sem g.H.GrantHost.sem_over v (summing s) (counted s) u1 u2 c.clear_first.ensures.kept (subst (λ (z : SemHand). OnlySem with_sem u1 (counted z) u2) after1 c.count_batch.ensures.kept) in
    let after2 = sem-after with_sem sem g.H.GrantHost.sem_back v (counted s) u2 both in let u3 = c.grant_all.new.pass.seat.me.0.view in
    only-more with_sem g.H.GrantHost.sem_over v (counted s) (all_granted s) u2 u3 both (subst (λ (z : SemHand). OnlySem with_sem u2 (all_granted z) u3) after2 c.grant_all.ensures.kept)
