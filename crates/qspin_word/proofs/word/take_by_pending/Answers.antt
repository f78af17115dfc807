use Rattle.std.proofs.Common.{ap, inl, inr, ◌+◌, ◌∙◌, arith, true, false}
use Rattle.qspin_word.specs.Types.{View, Taking}
use Rattle.lock_core.specs.Spins.{word_at}
use Rattle.qspin_word.proofs.Refusing.{keeps-seen, saw-pending, saw-tail}
use Rattle.qspin_word.proofs.Rivals.{first-rival}
use Rattle.qspin_word.proofs.Owning.{first-owns}
use Rattle.qspin_word.proofs.Passing.{owns-nodes, tail-point, tail-nodes, pending-from, pending-later, pending-nodes-all, pending-gained, owns-told, owns-noted}
use Rattle.qspin_word.proofs.Noting.{flags-eq, flags-then, waits-noted, noted-nodes, refused-told}
use Rattle.qspin_word.specs.Ways.{lock_hand_to}
use Rattle.qspin_word.proofs.Passing.{nodes-then}
use Rattle.qspin_word.proofs.word.take_by_pending.Goals as goal

pub clear_pending-requires-clause-point : goal.clear_pending-requires-clause-point
clear_pending-requires-clause-point g c = tail-point c.args.site.now c.args.lock c.fetch_set_pending-seen.result c.args.pass.now c.fetch_set_pending-seen.new.pass c.fetch_set_pending-seen.ensures.steps c.if-seen-lt-PENDING.false c.if-seen-eq0.true

pub returns-then-seen-eq0-clause-nodes : goal.returns-then-seen-eq0-clause-nodes
returns-then-seen-eq0-clause-nodes g c = tail-nodes c.args.site.now c.args.lock c.fetch_set_pending-seen.result c.args.pass.now c.fetch_set_pending-seen.new.pass c.fetch_set_pending-seen.ensures.steps c.clear_pending.new.pass c.if-seen-lt-PENDING.false c.if-seen-eq0.true c.requires.out c.clear_pending.ensures.steps c.requires.told.depth

pub returns-then-seen-eq0-clause-refused : goal.returns-then-seen-eq0-clause-refused
returns-then-seen-eq0-clause-refused g c = λ _. saw-tail c.args.lock c.args.pass.now.seat.me.0.view c.fetch_set_pending-seen.result c.if-seen-lt-PENDING.false c.fetch_set_pending-seen.new.pass.seat.me.0.view c.clear_pending.new.pass.seat.me.0.view
    c.fetch_set_pending-seen.ensures.steps.kept c.clear_pending.ensures.steps.kept c.if-seen-eq0.true c.requires.out

pub returns-else-seen-eq0-clause-refused : goal.returns-else-seen-eq0-clause-refused
returns-else-seen-eq0-clause-refused g c = λ _. saw-pending c.args.lock c.args.pass.now.seat.me.0.view c.fetch_set_pending-seen.result c.if-seen-lt-PENDING.false c.fetch_set_pending-seen.new.pass.seat.me.0.view c.fetch_set_pending-seen.ensures.steps.kept c.if-seen-eq0.false c.requires.out

pub returns-then-seen-eq0-clause-found : goal.returns-then-seen-eq0-clause-found
returns-then-seen-eq0-clause-found g c = λ _. let v = c.args.pass.now.seat.me.0 in let m = c.fetch_set_pending-seen.new.pass.seat.me.0 in let u = c.clear_pending.new.pass.seat.me.0 in let set = c.fetch_set_pending-seen.ensures.steps in let cleared = c.clear_pending.ensures.steps in
    let more = ap (λ (x : View _). x.steps) cleared.kept in first-rival c.args.lock (g.H.SpinHost.FIRST + word_at c.args.lock) v.view m.view u.view v.past m.past u.past c.fetch_set_pending-seen.result c.if-seen-lt-PENDING.false (ap (λ (x : View _). x.hand.task) set.kept) (ap (λ (x : View _). x.steps) set.kept) set.last c.fetch_set_pending-seen.ensures.found set.goes_on cleared.goes_on
    (keeps-seen c.args.lock v.view c.fetch_set_pending-seen.result c.if-seen-lt-PENDING.false m.view set.kept) (inr (tail-point c.args.site.now c.args.lock c.fetch_set_pending-seen.result c.args.pass.now c.fetch_set_pending-seen.new.pass set c.if-seen-lt-PENDING.false c.if-seen-eq0.true))
    (ap (λ (x : View _). x.spin.saw) cleared.kept ∙ keeps-seen c.args.lock v.view c.fetch_set_pending-seen.result c.if-seen-lt-PENDING.false m.view set.kept) (omega (arith, more))

pub returns-else-seen-eq0-clause-found : goal.returns-else-seen-eq0-clause-found
returns-else-seen-eq0-clause-found g c = λ _. let v = c.args.pass.now.seat.me.0 in let m = c.fetch_set_pending-seen.new.pass.seat.me.0 in let set = c.fetch_set_pending-seen.ensures.steps in
    first-rival c.args.lock (g.H.SpinHost.FIRST + word_at c.args.lock) v.view m.view m.view v.past m.past m.past c.fetch_set_pending-seen.result c.if-seen-lt-PENDING.false (ap (λ (x : View _). x.hand.task) set.kept) (ap (λ (x : View _). x.steps) set.kept) set.last c.fetch_set_pending-seen.ensures.found set.goes_on (λ p t. t)
    (keeps-seen c.args.lock v.view c.fetch_set_pending-seen.result c.if-seen-lt-PENDING.false m.view set.kept) (inl (saw-pending c.args.lock v.view c.fetch_set_pending-seen.result c.if-seen-lt-PENDING.false m.view set.kept c.if-seen-eq0.false c.requires.out).out)
    (keeps-seen c.args.lock v.view c.fetch_set_pending-seen.result c.if-seen-lt-PENDING.false m.view set.kept) (omega arith)

pub wait_unlocked-requires-clause-told : goal.wait_unlocked-requires-clause-told
wait_unlocked-requires-clause-told g c = owns-told c.args.site.now c.args.lock c.fetch_set_pending-seen.result c.args.pass.now c.fetch_set_pending-seen.new.pass c.fetch_set_pending-seen.ensures.steps c.note_lock.new.self c.note_lock.ensures c.if-seen-lt-PENDING.true c.requires.out c.requires.told

pub wait_unlocked-requires-clause-point : goal.wait_unlocked-requires-clause-point
wait_unlocked-requires-clause-point g c = owns-noted c.args.site.now c.args.lock c.fetch_set_pending-seen.result c.args.pass.now c.fetch_set_pending-seen.new.pass c.fetch_set_pending-seen.ensures.steps c.note_lock.new.self c.note_lock.ensures c.if-seen-lt-PENDING.true

pub returns-then-seen-lt-PENDING-clause-nodes : goal.returns-then-seen-lt-PENDING-clause-nodes
returns-then-seen-lt-PENDING-clause-nodes g c = pending-nodes-all c.args.site.now c.args.lock c.fetch_set_pending-seen.result c.args.pass.now c.fetch_set_pending-seen.new.pass c.fetch_set_pending-seen.ensures.steps g.I.Interrupt.silent c.wait_unlocked.new.pass c.clear_pending_set_locked.new.pass c.if-seen-lt-PENDING.true (waits-noted c.args.lock c.args.site.now g.I.Interrupt.silent (lock_hand_to Taking) c.fetch_set_pending-seen.new.pass c.note_lock.new.self c.wait_unlocked.new.pass false true c.note_lock.ensures c.wait_unlocked.ensures.waits) c.clear_pending_set_locked.ensures.steps c.requires.out c.requires.told.depth
    (nodes-then c.args.site.now c.fetch_set_pending-seen.new.pass c.note_lock.new.self c.wait_unlocked.new.pass (noted-nodes c.args.lock c.fetch_set_pending-seen.new.pass c.note_lock.new.self false true c.note_lock.ensures (owns-nodes c.args.site.now c.args.lock c.fetch_set_pending-seen.result c.args.pass.now c.fetch_set_pending-seen.new.pass c.fetch_set_pending-seen.ensures.steps c.if-seen-lt-PENDING.true c.requires.out c.requires.told.depth).told) c.wait_unlocked.ensures.nodes)

pub returns-then-seen-lt-PENDING-clause-gained : goal.returns-then-seen-lt-PENDING-clause-gained
returns-then-seen-lt-PENDING-clause-gained g c = λ _. pending-gained c.args.site.now c.args.lock c.fetch_set_pending-seen.result c.args.pass.now c.fetch_set_pending-seen.new.pass c.fetch_set_pending-seen.ensures.steps g.I.Interrupt.silent c.wait_unlocked.new.pass c.clear_pending_set_locked.new.pass c.if-seen-lt-PENDING.true (waits-noted c.args.lock c.args.site.now g.I.Interrupt.silent (lock_hand_to Taking) c.fetch_set_pending-seen.new.pass c.note_lock.new.self c.wait_unlocked.new.pass false true c.note_lock.ensures c.wait_unlocked.ensures.waits) c.clear_pending_set_locked.ensures.steps

pub returns-then-seen-lt-PENDING-clause-from : goal.returns-then-seen-lt-PENDING-clause-from
returns-then-seen-lt-PENDING-clause-from g c = λ _. pending-from c.args.site.now c.args.lock c.fetch_set_pending-seen.result c.args.pass.now c.fetch_set_pending-seen.new.pass c.fetch_set_pending-seen.ensures.steps g.I.Interrupt.silent c.wait_unlocked.new.pass c.clear_pending_set_locked.new.pass c.if-seen-lt-PENDING.true (waits-noted c.args.lock c.args.site.now g.I.Interrupt.silent (lock_hand_to Taking) c.fetch_set_pending-seen.new.pass c.note_lock.new.self c.wait_unlocked.new.pass false true c.note_lock.ensures c.wait_unlocked.ensures.waits) c.clear_pending_set_locked.ensures.steps

pub returns-then-seen-lt-PENDING-clause-later : goal.returns-then-seen-lt-PENDING-clause-later
returns-then-seen-lt-PENDING-clause-later g c = λ _. pending-later c.args.site.now c.args.lock c.fetch_set_pending-seen.result c.args.pass.now c.fetch_set_pending-seen.new.pass c.fetch_set_pending-seen.ensures.steps g.I.Interrupt.silent c.wait_unlocked.new.pass c.clear_pending_set_locked.new.pass c.if-seen-lt-PENDING.true (waits-noted c.args.lock c.args.site.now g.I.Interrupt.silent (lock_hand_to Taking) c.fetch_set_pending-seen.new.pass c.note_lock.new.self c.wait_unlocked.new.pass false true c.note_lock.ensures c.wait_unlocked.ensures.waits) c.clear_pending_set_locked.ensures.steps

pub returns-then-seen-lt-PENDING-clause-asked : goal.returns-then-seen-lt-PENDING-clause-asked
returns-then-seen-lt-PENDING-clause-asked g c = λ _. let v = c.args.pass.now.seat.me.0 in let m = c.fetch_set_pending-seen.new.pass.seat.me.0 in let u = c.clear_pending_set_locked.new.pass.seat.me.0 in let set = c.fetch_set_pending-seen.ensures.steps in
    let w = (waits-noted c.args.lock c.args.site.now g.I.Interrupt.silent (lock_hand_to Taking) c.fetch_set_pending-seen.new.pass c.note_lock.new.self c.wait_unlocked.new.pass false true c.note_lock.ensures c.wait_unlocked.ensures.waits) in
    first-owns c.args.lock (g.H.SpinHost.FIRST + word_at c.args.lock) v.view m.view v.past m.past u.past c.fetch_set_pending-seen.result c.if-seen-lt-PENDING.true set.kept set.last c.fetch_set_pending-seen.ensures.found set.goes_on
    (λ p t. c.clear_pending_set_locked.ensures.steps.goes_on p (w.goes_on p t))

pub returns-then-seen-eq0-clause-told : goal.returns-then-seen-eq0-clause-told
returns-then-seen-eq0-clause-told g c = λ _. let set = c.fetch_set_pending-seen.ensures.steps in let cleared = c.clear_pending.ensures.steps in let there = c.requires.there in let eight = g.H.SpinHost.spin_eight in let a = c.args.pass.now in let m = c.fetch_set_pending-seen.new.pass in let u = c.clear_pending.new.pass in
    refused-told c.args.lock a u (omega (arith, there, eight)) (flags-then a.nest m.nest u.nest (flags-eq a.nest m.nest set.nest) (flags-eq m.nest u.nest cleared.nest))
    (saw-tail c.args.lock a.seat.me.0.view c.fetch_set_pending-seen.result c.if-seen-lt-PENDING.false m.seat.me.0.view u.seat.me.0.view set.kept cleared.kept c.if-seen-eq0.true c.requires.out) c.requires.out
    (tail-nodes c.args.site.now c.args.lock c.fetch_set_pending-seen.result c.args.pass.now c.fetch_set_pending-seen.new.pass c.fetch_set_pending-seen.ensures.steps u c.if-seen-lt-PENDING.false c.if-seen-eq0.true c.requires.out cleared c.requires.told.depth).told c.requires.told
