use Rattle.std.proofs.Common.{◌/◌, ◌%◌, ◌==◌, sym, ap, subst}
use Rattle.rwsem_wake.specs.Grants.{HasMarked, OnlySem, marked, unreserved, saw_handoff}
use Rattle.rwsem_wake.specs.Types.{Bias, SemHand, Marked}
use Rattle.rwsem_wake.proofs.Courses.{only-one-step, only-more, sem-after}
use Rattle.rwsem_wake.proofs.Flags.{flag-is}
use Rattle.rwsem_wake.proofs.grants.back_out.Goals as goal

pub mark_first-requires-clause-written : goal.mark_first-requires-clause-written
mark_first-requires-clause-written g c = (c.args.seen, c.requires.reserved, c.requires.written)

pub ask_handoff-requires-clause-marked : goal.ask_handoff-requires-clause-marked
ask_handoff-requires-clause-marked g c = let with_sem = g.H.GrantHost.with_sem in let v = c.args.pass.now.seat.me.0.view in let s = g.H.GrantHost.sem v.ext in let u = c.mark_first.new.pass.seat.me.0.view in
    let after = sem-after with_sem g.H.GrantHost.sem g.H.GrantHost.sem_back v (marked s) u (only-one-step with_sem v (marked s) u c.mark_first.ensures.kept) in
    subst (HasMarked (g.H.GrantHost.sem u.ext)) (sym (flag-is c.has_handoff.result (c.args.seen / 4) c.has_handoff.ensures)) (subst (λ (z : SemHand). HasMarked z (c.args.seen / 4 % 2 == 1)) (sym after) record { word = c.args.seen; written = c.requires.written; bias = c.requires.reserved.0; stage = ap (λ (b : Bias). Marked (saw_handoff b)) c.requires.reserved.0 })

pub returns-then-overdue-clause-kept : goal.returns-then-overdue-clause-kept
returns-then-overdue-clause-kept g c = let with_sem = g.H.GrantHost.with_sem in let v = c.args.pass.now.seat.me.0.view in let s = g.H.GrantHost.sem v.ext in let u = c.mark_first.new.pass.seat.me.0.view in let w = c.ask_handoff.new.pass.seat.me.0.view in
    let first = only-one-step with_sem v (marked s) u c.mark_first.ensures.kept in let after = sem-after with_sem g.H.GrantHost.sem g.H.GrantHost.sem_back v (marked s) u first in
    only-more with_sem g.H.GrantHost.sem_over v (marked s) (unreserved s) u w first (subst (λ (z : SemHand). OnlySem with_sem u (unreserved z) w) after (only-one-step with_sem u (unreserved (g.H.GrantHost.sem u.ext)) w c.ask_handoff.ensures.kept))
