use Rattle.std.proofs.Common.{◌∙◌, sym, subst, ap, arith}
use Rattle.rwsem_slow.specs.Types.{Interrupted, Hand, SemHand}
use Rattle.lock_core.specs.Locking.{SawPending}
use Rattle.lock_core.proofs.Within.{err-map, pending-within}
use Rattle.rwsem_count.specs.Counts.{shared_weight}
use Rattle.rwsem_wake.specs.RwSemPlaces.{seen_of}
use Rattle.rwsem_wake.specs.RwSemViews.{V, IsDone}
use Rattle.rwsem_slow.proofs.BiasHolds.{consumed-on, keeps-line-on, line-on, lock-on, shares-on, shares-takes, still-transit, waited-on}
use Rattle.rwsem_slow.proofs.reader.read_slowly.Goals as goal

pub wake_beside-requires-clause-outside : goal.wake_beside-requires-clause-outside
wake_beside-requires-clause-outside g c = let s = c.steal.ensures.took c.if-steal.true in let noted = c.note_reader.ensures.kept in record { apart = ap (λ (z : V). z.ext.sem) noted ∙ s.sem; still = ap (λ (z : V). z.ext.list.changes) noted ∙ s.still; done = subst IsDone (sym (ap (λ (z : V). z.ext.wake) noted)) s.done }

pub wake_beside-requires-clause-may : goal.wake_beside-requires-clause-may
wake_beside-requires-clause-may g c = let s = c.steal.ensures.took c.if-steal.true in let noted = c.note_reader.ensures.kept in (ap (λ (z : V). shared_weight z.hand.held) noted ∙ ap (λ (h : Hand). shared_weight h.held) s.hand, ap (λ (z : V). z.ext.sem.wait) noted ∙ ap (λ (x : SemHand). x.wait) s.sem)

pub returns-then-steal-clause-took : goal.returns-then-steal-clause-took
returns-then-steal-clause-took g c = let noted = c.note_reader.ensures.kept in let m = c.steal.new.pass.seat.me.0.view in let u = c.wake_beside.new.pass.seat.me.0 in
    shares-takes g.O.Object.object c.args.site.now.table.shared.key c.args.pass.now.seat.me.0.view m u.view c.args.pass.now.seat.me.0.past u.past (c.steal.ensures.took c.if-steal.true) (c.wake_beside.ensures.hand ∙ ap (λ (z : V). z.hand) noted)
    (keeps-line-on m c.note_reader.new.pass.seat.me.0.view u.view noted c.wake_beside.ensures.keeps) (sym c.requires.own.held ∙ c.requires.out) c.requires.own.writer

pub returns-then-steal-clause-line : goal.returns-then-steal-clause-line
returns-then-steal-clause-line g c = let noted = c.note_reader.ensures.kept in let m = c.steal.new.pass.seat.me.0.view in let u = c.wake_beside.new.pass.seat.me.0 in
    shares-on g.O.Object.object c.args.site.now.table.shared.key c.args.pass.now.seat.me.0.view m u.view c.args.pass.now.seat.me.0.past u.past (c.steal.ensures.took c.if-steal.true) (c.wake_beside.ensures.hand ∙ ap (λ (z : V). z.hand) noted)
    (keeps-line-on m c.note_reader.new.pass.seat.me.0.view u.view noted c.wake_beside.ensures.keeps) c.steal.new.pass.seat.me.0.past c.args.left (c.steal.ensures.let_in c.if-steal.true) (c.steal.ensures.held c.if-steal.true) (λ p t. c.wake_beside.ensures.on.goes_on p (c.note_reader.ensures.on.goes_on p t))

pub read_in_line-requires-clause-transit : goal.read_in_line-requires-clause-transit
read_in_line-requires-clause-transit g c = still-transit c.args.pass.now.seat.me.0.view c.steal.new.pass.seat.me.0.view (c.steal.ensures.missed c.if-steal.false) c.requires.transit

pub returns-clause-line : goal.returns-clause-line
returns-clause-line g c = line-on c.args.pass.now.seat.me.0.view c.steal.new.pass.seat.me.0.view c.read_in_line.new.pass.seat.me.0.view (c.steal.ensures.missed c.if-steal.false) c.args.pass.now.seat.me.0.past c.read_in_line.new.pass.seat.me.0.past c.args.left c.read_in_line.result c.read_in_line.ensures.lock c.read_in_line.ensures.how

pub returns-clause-lock : goal.returns-clause-lock
returns-clause-lock g c = lock-on c.args.pass.now.seat.me.0.view c.steal.new.pass.seat.me.0.view c.read_in_line.new.pass.seat.me.0.view (c.steal.ensures.missed c.if-steal.false) c.read_in_line.result c.read_in_line.ensures.lock

pub returns-clause-waited : goal.returns-clause-waited
returns-clause-waited g c = waited-on c.args.pass.now.seat.me.0.view c.steal.new.pass.seat.me.0.view c.read_in_line.new.pass.seat.me.0.view (c.steal.ensures.missed c.if-steal.false) c.read_in_line.result c.read_in_line.ensures.waited

pub returns-clause-consumed : goal.returns-clause-consumed
returns-clause-consumed g c = consumed-on c.args.pass.now.seat.me.0.view c.steal.new.pass.seat.me.0.view c.read_in_line.new.pass.seat.me.0.view (c.steal.ensures.missed c.if-steal.false) c.read_in_line.result c.read_in_line.ensures.consumed

pub returns-clause-pending : goal.returns-clause-pending
returns-clause-pending g c = let looks = c.steal.ensures.missed c.if-steal.false in let steps = ap (λ (z : V). z.steps) looks in
    err-map (λ (why : Interrupted). SawPending why (seen_of c.steal.new.pass) (seen_of c.read_in_line.new.pass)) (λ (why : Interrupted). SawPending why (seen_of c.args.pass.now) (seen_of c.read_in_line.new.pass)) c.read_in_line.result
    (λ why heard. pending-within (seen_of c.args.pass.now) (seen_of c.steal.new.pass) (seen_of c.read_in_line.new.pass) (seen_of c.read_in_line.new.pass) (ap (λ (z : V). z.hand.task) looks) (omega (arith, steps)) c.steal.ensures.goes_on heard (omega arith) (λ p t. t))
    c.read_in_line.ensures.pending
