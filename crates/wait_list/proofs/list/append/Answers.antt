use Rattle.std.proofs.Common.{arith, ℕ, ◌+◌, ◌*◌, ap, ◌∙◌}
use Rattle.wait_list.proofs.Appending.{appends, byte-bit, enters-host, enters-knows, enters-lists, enters-prepared, link-may, next-may, prev-may, still1, still2, tail-few, tail-small}
use Rattle.wait_list.proofs.Waiters.{task-of}
use Rattle.wait_list.proofs.list.append.Goals as goal

pub overflow_mul-prev : goal.overflow_mul-prev
overflow_mul-prev g c = let t = tail-small g.H.ListHost.list g.H.ListHost.with_list g.H.ListHost.may_change g.H.ListHost.list_back g.H.ListHost.list_over g.H.ListHost.list_again g.H.ListHost.may_on c.args.pass.now.seat.me.0.view c.word-tail.new.pass.seat.me.0.view c.args.waiter c.word-tail.result 0 c.word-tail.ensures.told c.requires.still (task-of _ _ c.args.site.now.small.tasks c.requires.task) c.requires.host in omega (arith, t)

pub overflow_add-prev : goal.overflow_add-prev
overflow_add-prev g c = let t = tail-small g.H.ListHost.list g.H.ListHost.with_list g.H.ListHost.may_change g.H.ListHost.list_back g.H.ListHost.list_over g.H.ListHost.list_again g.H.ListHost.may_on c.args.pass.now.seat.me.0.view c.word-tail.new.pass.seat.me.0.view c.args.waiter c.word-tail.result 0 c.word-tail.ensures.told c.requires.still (task-of _ _ c.args.site.now.small.tasks c.requires.task) c.requires.host in let e = byte-bit c.args.waiter.writer in let f = e.0 in let b = e.1 in let m = c.from.ensures in omega (arith, t, b, f, m)

pub prepare-requires-clause-may : goal.prepare-requires-clause-may
prepare-requires-clause-may g c = next-may g.H.ListHost.list g.H.ListHost.with_list g.H.ListHost.may_change g.H.ListHost.list_back g.H.ListHost.list_over g.H.ListHost.list_again g.H.ListHost.may_on c.args.pass.now.seat.me.0.view c.word-tail.new.pass.seat.me.0.view c.args.waiter c.word-tail.result 0 c.word-tail.ensures.told c.requires.still (task-of _ _ c.args.site.now.small.tasks c.requires.task) c.requires.host c.next_at.result (c.next_at.ensures ∙ ap (λ (n : ℕ). 8 * n) (ap (λ (n : ℕ). n + 1) c.from-code.ensures))

pub prepare-requires-clause-still : goal.prepare-requires-clause-still
prepare-requires-clause-still g c = still1 g.H.ListHost.list g.H.ListHost.with_list g.H.ListHost.may_change g.H.ListHost.list_back g.H.ListHost.list_over g.H.ListHost.list_again g.H.ListHost.may_on c.args.pass.now.seat.me.0.view c.word-tail.new.pass.seat.me.0.view c.args.waiter c.word-tail.result 0 c.word-tail.ensures.told c.requires.still (task-of _ _ c.args.site.now.small.tasks c.requires.task) c.requires.host

pub prepare-requires-2-clause-still : goal.prepare-requires-2-clause-still
prepare-requires-2-clause-still g c = still2 g.H.ListHost.list g.H.ListHost.with_list g.H.ListHost.may_change g.H.ListHost.list_back g.H.ListHost.list_over g.H.ListHost.list_again g.H.ListHost.may_on c.args.pass.now.seat.me.0.view c.word-tail.new.pass.seat.me.0.view c.args.waiter c.word-tail.result (2 * c.word-tail.result + c.from.result) c.word-tail.ensures.told c.requires.still (task-of _ _ c.args.site.now.small.tasks c.requires.task) c.requires.host c.prepare.new.pass.seat.me.0.view c.next_at.result (c.next_at.ensures ∙ ap (λ (n : ℕ). 8 * n) (ap (λ (n : ℕ). n + 1) c.from-code.ensures)) c.prepare.ensures.kept

pub prepare-requires-2-clause-may : goal.prepare-requires-2-clause-may
prepare-requires-2-clause-may g c = prev-may g.H.ListHost.list g.H.ListHost.with_list g.H.ListHost.may_change g.H.ListHost.list_back g.H.ListHost.list_over g.H.ListHost.list_again g.H.ListHost.may_on c.args.pass.now.seat.me.0.view c.word-tail.new.pass.seat.me.0.view c.args.waiter c.word-tail.result (2 * c.word-tail.result + c.from.result) c.word-tail.ensures.told c.requires.still (task-of _ _ c.args.site.now.small.tasks c.requires.task) c.requires.host c.prepare.new.pass.seat.me.0.view c.next_at.result (c.next_at.ensures ∙ ap (λ (n : ℕ). 8 * n) (ap (λ (n : ℕ). n + 1) c.from-code.ensures)) c.prepare.ensures.kept c.prev_at.result (c.prev_at.ensures ∙ ap (λ (n : ℕ). 8 * n + 1) (ap (λ (n : ℕ). n + 1) c.from-code.ensures))

pub enter-requires-clause-knows : goal.enter-requires-clause-knows
enter-requires-clause-knows g c = enters-knows g.H.ListHost.list g.H.ListHost.with_list g.H.ListHost.may_change g.H.ListHost.list_back g.H.ListHost.list_over g.H.ListHost.list_again g.H.ListHost.may_on c.args.pass.now.seat.me.0.view c.word-tail.new.pass.seat.me.0.view c.args.waiter c.word-tail.result (2 * c.word-tail.result + c.from.result) c.word-tail.ensures.told c.requires.still (task-of _ _ c.args.site.now.small.tasks c.requires.task) c.requires.host c.prepare.new.pass.seat.me.0.view c.next_at.result (c.next_at.ensures ∙ ap (λ (n : ℕ). 8 * n) (ap (λ (n : ℕ). n + 1) c.from-code.ensures)) c.prepare.ensures.kept c.prepare-2.new.pass.seat.me.0.view c.prev_at.result (c.prev_at.ensures ∙ ap (λ (n : ℕ). 8 * n + 1) (ap (λ (n : ℕ). n + 1) c.from-code.ensures)) (let e = byte-bit c.args.waiter.writer in ap (λ (z : ℕ). 2 * c.word-tail.result + z) (c.from.ensures ∙ e.0)) c.prepare-2.ensures.kept

pub enter-requires-clause-lists : goal.enter-requires-clause-lists
enter-requires-clause-lists g c = enters-lists g.H.ListHost.list g.H.ListHost.with_list g.H.ListHost.may_change g.H.ListHost.list_back g.H.ListHost.list_over g.H.ListHost.list_again g.H.ListHost.may_on c.args.pass.now.seat.me.0.view c.word-tail.new.pass.seat.me.0.view c.args.waiter c.word-tail.result (2 * c.word-tail.result + c.from.result) c.word-tail.ensures.told c.requires.still (task-of _ _ c.args.site.now.small.tasks c.requires.task) c.requires.host c.prepare.new.pass.seat.me.0.view c.next_at.result (c.next_at.ensures ∙ ap (λ (n : ℕ). 8 * n) (ap (λ (n : ℕ). n + 1) c.from-code.ensures)) c.prepare.ensures.kept c.prepare-2.new.pass.seat.me.0.view c.prev_at.result (c.prev_at.ensures ∙ ap (λ (n : ℕ). 8 * n + 1) (ap (λ (n : ℕ). n + 1) c.from-code.ensures)) (let e = byte-bit c.args.waiter.writer in ap (λ (z : ℕ). 2 * c.word-tail.result + z) (c.from.ensures ∙ e.0)) c.prepare-2.ensures.kept

pub enter-requires-clause-prepared : goal.enter-requires-clause-prepared
enter-requires-clause-prepared g c = enters-prepared g.H.ListHost.list g.H.ListHost.with_list g.H.ListHost.may_change g.H.ListHost.list_back g.H.ListHost.list_over g.H.ListHost.list_again g.H.ListHost.may_on c.args.pass.now.seat.me.0.view c.word-tail.new.pass.seat.me.0.view c.args.waiter c.word-tail.result (2 * c.word-tail.result + c.from.result) c.word-tail.ensures.told c.requires.still (task-of _ _ c.args.site.now.small.tasks c.requires.task) c.requires.host c.prepare.new.pass.seat.me.0.view c.next_at.result (c.next_at.ensures ∙ ap (λ (n : ℕ). 8 * n) (ap (λ (n : ℕ). n + 1) c.from-code.ensures)) c.prepare.ensures.kept c.prepare-2.new.pass.seat.me.0.view c.prev_at.result (c.prev_at.ensures ∙ ap (λ (n : ℕ). 8 * n + 1) (ap (λ (n : ℕ). n + 1) c.from-code.ensures)) (let e = byte-bit c.args.waiter.writer in ap (λ (z : ℕ). 2 * c.word-tail.result + z) (c.from.ensures ∙ e.0)) c.prepare-2.ensures.kept

pub enter-requires-clause-host : goal.enter-requires-clause-host
enter-requires-clause-host g c = enters-host g.H.ListHost.list g.H.ListHost.with_list g.H.ListHost.may_change g.H.ListHost.list_back g.H.ListHost.list_over g.H.ListHost.list_again g.H.ListHost.may_on c.args.pass.now.seat.me.0.view c.word-tail.new.pass.seat.me.0.view c.args.waiter c.word-tail.result (2 * c.word-tail.result + c.from.result) c.word-tail.ensures.told c.requires.still (task-of _ _ c.args.site.now.small.tasks c.requires.task) c.requires.host c.prepare.new.pass.seat.me.0.view c.next_at.result (c.next_at.ensures ∙ ap (λ (n : ℕ). 8 * n) (ap (λ (n : ℕ). n + 1) c.from-code.ensures)) c.prepare.ensures.kept c.prepare-2.new.pass.seat.me.0.view c.prev_at.result (c.prev_at.ensures ∙ ap (λ (n : ℕ). 8 * n + 1) (ap (λ (n : ℕ). n + 1) c.from-code.ensures)) (let e = byte-bit c.args.waiter.writer in ap (λ (z : ℕ). 2 * c.word-tail.result + z) (c.from.ensures ∙ e.0)) c.prepare-2.ensures.kept

pub next_at-requires-2 : goal.next_at-requires-2
next_at-requires-2 g c = tail-small g.H.ListHost.list g.H.ListHost.with_list g.H.ListHost.may_change g.H.ListHost.list_back g.H.ListHost.list_over g.H.ListHost.list_again g.H.ListHost.may_on c.args.pass.now.seat.me.0.view c.word-tail.new.pass.seat.me.0.view c.args.waiter c.word-tail.result (2 * c.word-tail.result + c.from.result) c.word-tail.ensures.told c.requires.still (task-of _ _ c.args.site.now.small.tasks c.requires.task) c.requires.host

pub close-requires-clause-inside : goal.close-requires-clause-inside
close-requires-clause-inside g c = let t = tail-few g.H.ListHost.list g.H.ListHost.with_list g.H.ListHost.may_change g.H.ListHost.list_back g.H.ListHost.list_over g.H.ListHost.list_again g.H.ListHost.may_on c.args.pass.now.seat.me.0.view c.word-tail.new.pass.seat.me.0.view c.args.waiter c.word-tail.result 0 c.word-tail.ensures.told c.requires.still (task-of _ _ c.args.site.now.small.tasks c.requires.task) c.requires.host c.args.site.now.table.shared.key c.requires.own.plan in let e = c.next_at-2.ensures in omega (arith, t, e)

pub close-requires-clause-may : goal.close-requires-clause-may
close-requires-clause-may g c = link-may g.H.ListHost.list g.H.ListHost.with_list g.H.ListHost.may_change g.H.ListHost.list_back g.H.ListHost.list_over g.H.ListHost.list_again g.H.ListHost.may_on c.args.pass.now.seat.me.0.view c.word-tail.new.pass.seat.me.0.view c.args.waiter c.word-tail.result (2 * c.word-tail.result + c.from.result) c.word-tail.ensures.told c.requires.still (task-of _ _ c.args.site.now.small.tasks c.requires.task) c.requires.host c.prepare.new.pass.seat.me.0.view c.next_at.result (c.next_at.ensures ∙ ap (λ (n : ℕ). 8 * n) (ap (λ (n : ℕ). n + 1) c.from-code.ensures)) c.prepare.ensures.kept c.prepare-2.new.pass.seat.me.0.view c.prev_at.result (c.prev_at.ensures ∙ ap (λ (n : ℕ). 8 * n + 1) (ap (λ (n : ℕ). n + 1) c.from-code.ensures)) (let e = byte-bit c.args.waiter.writer in ap (λ (z : ℕ). 2 * c.word-tail.result + z) (c.from.ensures ∙ e.0)) c.prepare-2.ensures.kept c.enter.new.pass.seat.me.0.view c.enter.ensures.kept c.next_at-2.result (c.from-code.result + 1) c.next_at-2.ensures (ap (λ (n : ℕ). n + 1) c.from-code.ensures)

pub returns-clause-kept : goal.returns-clause-kept
returns-clause-kept g c = appends g.H.ListHost.list g.H.ListHost.with_list g.H.ListHost.may_change g.H.ListHost.list_back g.H.ListHost.list_over g.H.ListHost.list_again g.H.ListHost.may_on c.args.pass.now.seat.me.0.view c.word-tail.new.pass.seat.me.0.view c.args.waiter c.word-tail.result (2 * c.word-tail.result + c.from.result) c.word-tail.ensures.told c.requires.still (task-of _ _ c.args.site.now.small.tasks c.requires.task) c.requires.host c.prepare.new.pass.seat.me.0.view c.next_at.result (c.next_at.ensures ∙ ap (λ (n : ℕ). 8 * n) (ap (λ (n : ℕ). n + 1) c.from-code.ensures)) c.prepare.ensures.kept c.prepare-2.new.pass.seat.me.0.view c.prev_at.result (c.prev_at.ensures ∙ ap (λ (n : ℕ). 8 * n + 1) (ap (λ (n : ℕ). n + 1) c.from-code.ensures)) (let e = byte-bit c.args.waiter.writer in ap (λ (z : ℕ). 2 * c.word-tail.result + z) (c.from.ensures ∙ e.0)) c.prepare-2.ensures.kept c.enter.new.pass.seat.me.0.view c.enter.ensures.kept c.close.new.pass.seat.me.0.view c.next_at-2.result (c.from-code.result + 1) c.next_at-2.ensures (ap (λ (n : ℕ). n + 1) c.from-code.ensures) c.close.ensures.kept
