use Rattle.std.proofs.Common.{arith, ℕ, ◌+◌, ◌*◌, ap, ◌∙◌}
use Rattle.wait_list.proofs.Removing.{knows2, last-may, leaves-host, leaves-knows, leaves-lists, next-few, next-small, prev-few, prev-small, removes}
use Rattle.wait_list.proofs.Waiters.{task-of}
use Rattle.wait_list.proofs.list.remove.Goals as goal

pub prev_after-back-requires-clause-codes : goal.prev_after-back-requires-clause-codes
prev_after-back-requires-clause-codes g c = let n = next-few g.H.ListHost.list g.H.ListHost.with_list g.H.ListHost.may_change g.H.ListHost.list_back g.H.ListHost.list_over g.H.ListHost.list_again g.H.ListHost.may_on c.args.pass.now.seat.me.0.view c.word-next.new.pass.seat.me.0.view c.args.task c.word-next.result c.next_at.result (c.next_at.ensures ∙ ap (λ (n : ℕ). 8 * n) (ap (λ (n : ℕ). n + 1) c.from-code.ensures)) c.word-next.ensures.told c.requires.still (task-of _ _ c.args.site.now.small.tasks c.requires.task) c.requires.host c.args.site.now.table.shared.key c.requires.own.plan in let m = prev-few g.H.ListHost.list g.H.ListHost.with_list g.H.ListHost.may_change g.H.ListHost.list_back g.H.ListHost.list_over g.H.ListHost.list_again g.H.ListHost.may_on c.args.pass.now.seat.me.0.view c.word-next.new.pass.seat.me.0.view c.args.task c.word-next.result c.next_at.result (c.next_at.ensures ∙ ap (λ (n : ℕ). 8 * n) (ap (λ (n : ℕ). n + 1) c.from-code.ensures)) c.word-next.ensures.told c.requires.still (task-of _ _ c.args.site.now.small.tasks c.requires.task) c.requires.host c.word-prev.new.pass.seat.me.0.view c.word-prev.result c.prev_at.result (c.prev_at.ensures ∙ ap (λ (n : ℕ). 8 * n + 1) (ap (λ (n : ℕ). n + 1) c.from-code.ensures)) c.word-prev.ensures.told c.args.site.now.table.shared.key c.requires.own.plan in (n, m)

pub prev_after-back-requires-clause-knows : goal.prev_after-back-requires-clause-knows
prev_after-back-requires-clause-knows g c = knows2 g.H.ListHost.list g.H.ListHost.with_list g.H.ListHost.may_change g.H.ListHost.list_back g.H.ListHost.list_over g.H.ListHost.list_again g.H.ListHost.may_on c.args.pass.now.seat.me.0.view c.word-next.new.pass.seat.me.0.view c.args.task c.word-next.result c.next_at.result (c.next_at.ensures ∙ ap (λ (n : ℕ). 8 * n) (ap (λ (n : ℕ). n + 1) c.from-code.ensures)) c.word-next.ensures.told c.requires.still (task-of _ _ c.args.site.now.small.tasks c.requires.task) c.requires.host c.word-prev.new.pass.seat.me.0.view c.word-prev.result c.prev_at.result (c.prev_at.ensures ∙ ap (λ (n : ℕ). 8 * n + 1) (ap (λ (n : ℕ). n + 1) c.from-code.ensures)) c.word-prev.ensures.told

pub prev_at-requires-2 : goal.prev_at-requires-2
prev_at-requires-2 g c = next-small g.H.ListHost.list g.H.ListHost.with_list g.H.ListHost.may_change g.H.ListHost.list_back g.H.ListHost.list_over g.H.ListHost.list_again g.H.ListHost.may_on c.args.pass.now.seat.me.0.view c.word-next.new.pass.seat.me.0.view c.args.task c.word-next.result c.next_at.result (c.next_at.ensures ∙ ap (λ (n : ℕ). 8 * n) (ap (λ (n : ℕ). n + 1) c.from-code.ensures)) c.word-next.ensures.told c.requires.still (task-of _ _ c.args.site.now.small.tasks c.requires.task) c.requires.host

pub leave-requires-clause-inside : goal.leave-requires-clause-inside
leave-requires-clause-inside g c = let n = next-few g.H.ListHost.list g.H.ListHost.with_list g.H.ListHost.may_change g.H.ListHost.list_back g.H.ListHost.list_over g.H.ListHost.list_again g.H.ListHost.may_on c.args.pass.now.seat.me.0.view c.word-next.new.pass.seat.me.0.view c.args.task c.word-next.result c.next_at.result (c.next_at.ensures ∙ ap (λ (n : ℕ). 8 * n) (ap (λ (n : ℕ). n + 1) c.from-code.ensures)) c.word-next.ensures.told c.requires.still (task-of _ _ c.args.site.now.small.tasks c.requires.task) c.requires.host c.args.site.now.table.shared.key c.requires.own.plan in let e = c.prev_at-2.ensures in (omega (arith, e), omega (arith, n, e))

pub leave-requires-clause-knows : goal.leave-requires-clause-knows
leave-requires-clause-knows g c = leaves-knows g.H.ListHost.list g.H.ListHost.with_list g.H.ListHost.may_change g.H.ListHost.list_back g.H.ListHost.list_over g.H.ListHost.list_again g.H.ListHost.may_on c.args.pass.now.seat.me.0.view c.word-next.new.pass.seat.me.0.view c.args.task c.word-next.result c.next_at.result (c.next_at.ensures ∙ ap (λ (n : ℕ). 8 * n) (ap (λ (n : ℕ). n + 1) c.from-code.ensures)) c.word-next.ensures.told c.requires.still (task-of _ _ c.args.site.now.small.tasks c.requires.task) c.requires.host c.word-prev.new.pass.seat.me.0.view c.word-prev.result c.prev_at.result (c.prev_at.ensures ∙ ap (λ (n : ℕ). 8 * n + 1) (ap (λ (n : ℕ). n + 1) c.from-code.ensures)) c.word-prev.ensures.told c.prev_after-back.new.pass.seat.me.0.view c.prev_after-back.result c.prev_after-back.ensures.word c.prev_after-back.ensures.kept c.prev_after-back.ensures.host

pub leave-requires-clause-lists : goal.leave-requires-clause-lists
leave-requires-clause-lists g c = leaves-lists g.H.ListHost.list g.H.ListHost.with_list g.H.ListHost.may_change g.H.ListHost.list_back g.H.ListHost.list_over g.H.ListHost.list_again g.H.ListHost.may_on c.args.pass.now.seat.me.0.view c.word-next.new.pass.seat.me.0.view c.args.task c.word-next.result c.next_at.result (c.next_at.ensures ∙ ap (λ (n : ℕ). 8 * n) (ap (λ (n : ℕ). n + 1) c.from-code.ensures)) c.word-next.ensures.told c.requires.still (task-of _ _ c.args.site.now.small.tasks c.requires.task) c.requires.host c.word-prev.new.pass.seat.me.0.view c.word-prev.result c.prev_at.result (c.prev_at.ensures ∙ ap (λ (n : ℕ). 8 * n + 1) (ap (λ (n : ℕ). n + 1) c.from-code.ensures)) c.word-prev.ensures.told c.prev_after-back.new.pass.seat.me.0.view c.prev_after-back.result c.prev_after-back.ensures.word c.prev_after-back.ensures.kept c.prev_after-back.ensures.host

pub leave-requires-clause-host : goal.leave-requires-clause-host
leave-requires-clause-host g c = leaves-host g.H.ListHost.list g.H.ListHost.with_list g.H.ListHost.may_change g.H.ListHost.list_back g.H.ListHost.list_over g.H.ListHost.list_again g.H.ListHost.may_on c.args.pass.now.seat.me.0.view c.word-next.new.pass.seat.me.0.view c.args.task c.word-next.result c.next_at.result (c.next_at.ensures ∙ ap (λ (n : ℕ). 8 * n) (ap (λ (n : ℕ). n + 1) c.from-code.ensures)) c.word-next.ensures.told c.requires.still (task-of _ _ c.args.site.now.small.tasks c.requires.task) c.requires.host c.word-prev.new.pass.seat.me.0.view c.word-prev.result c.prev_at.result (c.prev_at.ensures ∙ ap (λ (n : ℕ). 8 * n + 1) (ap (λ (n : ℕ). n + 1) c.from-code.ensures)) c.word-prev.ensures.told c.prev_after-back.new.pass.seat.me.0.view c.prev_after-back.result c.prev_after-back.ensures.word c.prev_after-back.ensures.kept c.prev_after-back.ensures.host

pub next_at-requires-2 : goal.next_at-requires-2
next_at-requires-2 g c = prev-small g.H.ListHost.list g.H.ListHost.with_list g.H.ListHost.may_change g.H.ListHost.list_back g.H.ListHost.list_over g.H.ListHost.list_again g.H.ListHost.may_on c.args.pass.now.seat.me.0.view c.word-next.new.pass.seat.me.0.view c.args.task c.word-next.result c.next_at.result (c.next_at.ensures ∙ ap (λ (n : ℕ). 8 * n) (ap (λ (n : ℕ). n + 1) c.from-code.ensures)) c.word-next.ensures.told c.requires.still (task-of _ _ c.args.site.now.small.tasks c.requires.task) c.requires.host c.word-prev.new.pass.seat.me.0.view c.word-prev.result c.prev_at.result (c.prev_at.ensures ∙ ap (λ (n : ℕ). 8 * n + 1) (ap (λ (n : ℕ). n + 1) c.from-code.ensures)) c.word-prev.ensures.told

pub close-requires-clause-inside : goal.close-requires-clause-inside
close-requires-clause-inside g c = let m = prev-few g.H.ListHost.list g.H.ListHost.with_list g.H.ListHost.may_change g.H.ListHost.list_back g.H.ListHost.list_over g.H.ListHost.list_again g.H.ListHost.may_on c.args.pass.now.seat.me.0.view c.word-next.new.pass.seat.me.0.view c.args.task c.word-next.result c.next_at.result (c.next_at.ensures ∙ ap (λ (n : ℕ). 8 * n) (ap (λ (n : ℕ). n + 1) c.from-code.ensures)) c.word-next.ensures.told c.requires.still (task-of _ _ c.args.site.now.small.tasks c.requires.task) c.requires.host c.word-prev.new.pass.seat.me.0.view c.word-prev.result c.prev_at.result (c.prev_at.ensures ∙ ap (λ (n : ℕ). 8 * n + 1) (ap (λ (n : ℕ). n + 1) c.from-code.ensures)) c.word-prev.ensures.told c.args.site.now.table.shared.key c.requires.own.plan in let e = c.next_at-2.ensures in omega (arith, m, e)

pub close-requires-clause-may : goal.close-requires-clause-may
close-requires-clause-may g c = last-may g.H.ListHost.list g.H.ListHost.with_list g.H.ListHost.may_change g.H.ListHost.list_back g.H.ListHost.list_over g.H.ListHost.list_again g.H.ListHost.may_on c.args.pass.now.seat.me.0.view c.word-next.new.pass.seat.me.0.view c.args.task c.word-next.result c.next_at.result (c.next_at.ensures ∙ ap (λ (n : ℕ). 8 * n) (ap (λ (n : ℕ). n + 1) c.from-code.ensures)) c.word-next.ensures.told c.requires.still (task-of _ _ c.args.site.now.small.tasks c.requires.task) c.requires.host c.word-prev.new.pass.seat.me.0.view c.word-prev.result c.prev_at.result (c.prev_at.ensures ∙ ap (λ (n : ℕ). 8 * n + 1) (ap (λ (n : ℕ). n + 1) c.from-code.ensures)) c.word-prev.ensures.told c.prev_after-back.new.pass.seat.me.0.view c.prev_after-back.result c.prev_after-back.ensures.word c.prev_after-back.ensures.kept c.prev_after-back.ensures.host c.leave.new.pass.seat.me.0.view c.prev_at-2.result c.prev_at-2.ensures c.leave.ensures.kept c.next_at-2.result c.next_at-2.ensures

pub returns-clause-kept : goal.returns-clause-kept
returns-clause-kept g c = removes g.H.ListHost.list g.H.ListHost.with_list g.H.ListHost.may_change g.H.ListHost.list_back g.H.ListHost.list_over g.H.ListHost.list_again g.H.ListHost.may_on c.args.pass.now.seat.me.0.view c.word-next.new.pass.seat.me.0.view c.args.task c.word-next.result c.next_at.result (c.next_at.ensures ∙ ap (λ (n : ℕ). 8 * n) (ap (λ (n : ℕ). n + 1) c.from-code.ensures)) c.word-next.ensures.told c.requires.still (task-of _ _ c.args.site.now.small.tasks c.requires.task) c.requires.host c.word-prev.new.pass.seat.me.0.view c.word-prev.result c.prev_at.result (c.prev_at.ensures ∙ ap (λ (n : ℕ). 8 * n + 1) (ap (λ (n : ℕ). n + 1) c.from-code.ensures)) c.word-prev.ensures.told c.prev_after-back.new.pass.seat.me.0.view c.prev_after-back.result c.prev_after-back.ensures.word c.prev_after-back.ensures.kept c.prev_after-back.ensures.host c.leave.new.pass.seat.me.0.view c.prev_at-2.result c.prev_at-2.ensures c.leave.ensures.kept c.close.new.pass.seat.me.0.view c.next_at-2.result c.next_at-2.ensures c.close.ensures.kept
