use Rattle.std.proofs.Common.{sym, ◌∙◌}
use Rattle.lock_core.specs.Kinds.{unavailable}
use Rattle.lock_core.specs.Locking.{held_by}
use Rattle.lock_core.specs.Views.{next_entry}
use Rattle.guarded.proofs.Recording.{performs-served, performs-refused, refused-note, refused-unsent}
use Rattle.guarded.proofs.Unavailable.{may-note-so}
use Rattle.guarded.proofs.Passing.{spun-goes-on}
use Rattle.guarded.proofs.guarded.Guarded.perform_known.Goals as goal

pub note-requires-clause-unsent : goal.note-requires-clause-unsent
note-requires-clause-unsent g c =
    refused-unsent g.L.SleepLock.kind g.L.SleepLock.word_at (g.L.SiteLock.view c.args.pass.now) (g.L.SiteLock.view c.enter.new.pass) c.reads-reads.result c.mode.result c.in-Err.reply (c.requires.sent, c.requires.consumed) c.in-Err.ensures.refused

pub note-requires-clause-may : goal.note-requires-clause-may
note-requires-clause-may g c =
    let next = c.requires.next in
    let h = (g.L.SiteLock.view c.enter.new.pass).hand in
    may-note-so g.O.Object.object (unavailable g.L.SleepLock.kind) _ g.met.L.SleepLock.shuts (g.L.SiteLock.calls_on c.args.self.now.lock) h (next_entry h) c.in-Err.reply
    (refused-note g.O.Object.object g.L.SleepLock.kind g.L.SleepLock.word_at (g.L.SiteLock.calls_on c.args.self.now.lock) (g.L.SiteLock.view c.args.pass.now) (g.L.SiteLock.view c.enter.new.pass) c.args.next.words c.args.next.call c.reads-reads.result c.mode.result c.in-Err.reply
    next.planned next.is c.reads-reads.ensures c.mode.ensures c.requires.consumed (g.met.L.SleepLock.stands c.args.self.now.lock c.args.pass.now c.requires.own).latest c.in-Err.ensures.refused)

pub returns-in-Err-clause-performs : goal.returns-in-Err-clause-performs
returns-in-Err-clause-performs g c =
    let v = g.L.SiteLock.view c.args.pass.now in
    let m = g.L.SiteLock.view c.enter.new.pass in
    let u = g.L.SiteLock.view c.note.new.pass in
    let next = c.requires.next in
    performs-refused g.O.Object.object g.L.SleepLock.kind g.L.SleepLock.word_at (g.L.SiteLock.calls_on c.args.self.now.lock) v m u c.args.next.words c.args.next.call c.reads-reads.result c.mode.result c.in-Err.reply
    next.planned next.is c.reads-reads.ensures c.mode.ensures c.requires.no_signal (c.requires.sent, c.requires.consumed) c.in-Err.ensures.refused c.enter.ensures.at_once c.in-Err.ensures.stood c.note.ensures.kept c.note.ensures.on.goes_on

pub returns-then-reads-clause-performs : goal.returns-then-reads-clause-performs
returns-then-reads-clause-performs g c =
    let v = g.L.SiteLock.view c.args.pass.now in
    let m = g.L.SiteLock.view c.enter.new.pass in
    let u = g.L.SiteLock.view c.serve_reading.new.pass in
    let next = c.requires.next in
    let got = c.in-Ok.ensures in
    performs-served g.O.Object.object g.L.SleepLock.kind g.L.SleepLock.word_at (g.L.SiteLock.calls_on c.args.self.now.lock) v m u c.args.next.words c.args.next.call c.reads-reads.result c.serve_reading.result (held_by g.L.SleepLock.kind c.reads-reads.result)
    next.planned next.is c.reads-reads.ensures c.requires.no_signal (c.requires.sent, c.requires.consumed) got.took (λ tries. c.enter.ensures.at_once (c.mode.ensures ∙ tries)) (λ waits. got.line (λ tries. waits (sym c.mode.ensures ∙ tries))) c.serve_reading.ensures.served c.serve_reading.ensures.on.goes_on
    got.counted

pub returns-else-reads-clause-performs : goal.returns-else-reads-clause-performs
returns-else-reads-clause-performs g c =
    let v = g.L.SiteLock.view c.args.pass.now in
    let m = g.L.SiteLock.view c.enter.new.pass in
    let u = g.L.SiteLock.view c.serve_change.new.pass in
    let next = c.requires.next in
    let got = c.in-Ok.ensures in
    performs-served g.O.Object.object g.L.SleepLock.kind g.L.SleepLock.word_at (g.L.SiteLock.calls_on c.args.self.now.lock) v m u c.args.next.words c.args.next.call c.reads-reads.result c.serve_change.result (held_by g.L.SleepLock.kind c.reads-reads.result)
    next.planned next.is c.reads-reads.ensures c.requires.no_signal (c.requires.sent, c.requires.consumed) got.took (λ tries. c.enter.ensures.at_once (c.mode.ensures ∙ tries)) (λ waits. got.line (λ tries. waits (sym c.mode.ensures ∙ tries))) c.serve_change.ensures.served c.serve_change.ensures.on.goes_on
    got.counted

pub returns-in-Err-clause-queue : goal.returns-in-Err-clause-queue
returns-in-Err-clause-queue g c = λ p t. spun-goes-on g.L.SleepLock.spun g.L.SiteLock.with_seat g.met.L.SleepLock.leaves c.enter.new.pass c.note.new.pass _ c.note.ensures.beside p (c.enter.ensures.queue p t)
