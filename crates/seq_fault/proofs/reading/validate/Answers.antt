-- What follows where the second load of the sequence word found the word of the first.
use Rattle.std.proofs.Common.{◌∙◌, arith, ap, rules}
use Rattle.seq_fault.specs.SeqRuled.{V, seq_at}
use Rattle.seq_fault.proofs.Faulting.{finds, read-measured, confirmed, seen-reading, faulted, saw-front}
use Rattle.seq_fault.proofs.reading.validate.Goals as goal

pub confirm-requires-clause-watching : goal.confirm-requires-clause-watching
confirm-requires-clause-watching c = (c.requires.read.moment, c.requires.read.on)

pub confirm-requires-clause-measured : goal.confirm-requires-clause-measured
confirm-requires-clause-measured c = read-measured c.args.site.now.table.shared.key c.args.read.before c.args.read.front c.args.read.reply c.args.pass.now.seat.me.0.view c.requires.read

pub note_seen-requires-clause-recorded : goal.note_seen-requires-clause-recorded
note_seen-requires-clause-recorded c =
    let e = confirmed c.args.site.now.table.shared.key c.args.read.before c.args.read.front c.args.read.reply c.args.pass.now.seat.me.0.view c.requires.read c.confirm.new.pass.seat.me.0.view c.in_default.ensures.same in
    (ap (λ (z : V). z.hand.sent) e ∙ c.requires.recorded.0, ap (λ (z : V). z.hand.consumed) e ∙ c.requires.recorded.1)

pub note_seen-requires-clause-next : goal.note_seen-requires-clause-next
note_seen-requires-clause-next c = seen-reading c.args.site.now.table.shared.key c.args.read.before c.args.read.front c.args.read.reply c.args.pass.now.seat.me.0.view c.requires.read c.confirm.new.pass.seat.me.0.view c.in_default.ensures.same

pub returns-clause-on : goal.returns-clause-on
returns-clause-on c = record { own = search rules; goes_on = λ p t. c.note_seen.ensures.on.goes_on p (c.confirm.ensures.on.goes_on p t); last = search rules }

pub returns-clause-ok : goal.returns-clause-ok
returns-clause-ok c = faulted c.args.site.now.table.shared.key c.args.read.before c.args.read.front c.args.read.reply c.args.pass.now.seat.me.0.view c.requires.read c.confirm.new.pass.seat.me.0.view c.in_default.ensures.same c.note_seen.new.pass.seat.me.0.view c.note_seen.ensures.kept

pub returns-clause-front : goal.returns-clause-front
returns-clause-front c = c.note_seen.ensures.on.own.front ∙ saw-front c.args.site.now.table.shared.key c.args.read.before c.args.read.front c.args.read.reply c.args.pass.now.seat.me.0.view c.requires.read c.confirm.new.pass.seat.me.0.view c.in_default.ensures.same c.note_seen.new.pass.seat.me.0.view c.note_seen.ensures.kept

pub returns-clause-again : goal.returns-clause-again
returns-clause-again c =
    let u = c.args.pass.now.seat.me.0.view in
    let e = confirmed c.args.site.now.table.shared.key c.args.read.before c.args.read.front c.args.read.reply u c.requires.read c.confirm.new.pass.seat.me.0.view c.in_default.ensures.same in
    finds u c.confirm.new.pass.seat.me.0.view 1 seq_at c.args.read.before _ _ _ (ap (λ (z : V). z.hand.task) e) (ap (λ (z : V). z.steps) e) c.confirm.ensures.on.last c.in_default.ensures.again c.confirm.ensures.on.goes_on c.note_seen.ensures.on.goes_on

pub returns-clause-counted : goal.returns-clause-counted
returns-clause-counted c =
    let e = confirmed c.args.site.now.table.shared.key c.args.read.before c.args.read.front c.args.read.reply c.args.pass.now.seat.me.0.view c.requires.read c.confirm.new.pass.seat.me.0.view c.in_default.ensures.same in
    let one = ap (λ (z : V). z.steps) e in
    let two = ap (λ (z : V). z.steps) c.note_seen.ensures.kept in
    omega (arith, one, two)
