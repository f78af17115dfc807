use Rattle.std.proofs.Common.{sym, ◌∙◌}
use Rattle.word_bits.proofs.States.{IsLawful}
use Rattle.guarded.proofs.Recording.{serves-looked, reading-note, reading-unsent}
use Rattle.lock_core.specs.Laws.Locked.{shares-holds}
use Rattle.lock_core.specs.Kinds.{unavailable}
use Rattle.lock_core.specs.Views.{next_entry}
use Rattle.guarded.proofs.Serving.{is-object}
use Rattle.guarded.proofs.Unavailable.{may-note-so}
use Rattle.guarded.proofs.Passing.{spun-goes-on}
use Rattle.guarded.proofs.guarded.Guarded.serve_reading.Given as given
use Rattle.guarded.proofs.guarded.Guarded.serve_reading.Goals as goal

lawful : (g : given.Over) → IsLawful g.O.Object.object
lawful g = record {
  starts = g.met.O.Object.starts;
  called = g.met.O.Object.called;
  goes_on = g.met.O.Object.goes_on;
  replies = g.met.O.Object.replies;
}

pub note-requires-clause-may : goal.note-requires-clause-may
note-requires-clause-may g c =
    let o = g.O.Object.object in
    let k = g.L.SiteLock.calls_on c.args.self.now.lock in
    let v = g.L.SiteLock.view c.args.pass.now in
    let w = g.L.SiteLock.view c.look-reply.new.pass in
    let replies = c.look-reply.ensures.read c.requires.reads in
    may-note-so o (unavailable g.L.SleepLock.kind) _ g.met.L.SleepLock.shuts k w.hand (next_entry w.hand) c.look-reply.result
    (reading-note o g.L.SleepLock.kind k v.hand w.hand c.args.next.words c.args.next.call c.look-reply.result c.look-reply.ensures.kept.0 c.requires.next.planned c.requires.next.is c.requires.reads (λ none. shares-holds g.L.SleepLock.kind (sym c.requires.held ∙ none)) c.requires.stored (is-object o (lawful g) k v.hand.log c.args.next.words c.args.next.call c.requires.next.is c.look-reply.result replies) replies)

pub note-requires-clause-unsent : goal.note-requires-clause-unsent
note-requires-clause-unsent g c =
    let o = g.O.Object.object in
    let k = g.L.SiteLock.calls_on c.args.self.now.lock in
    let v = g.L.SiteLock.view c.args.pass.now in
    let w = g.L.SiteLock.view c.look-reply.new.pass in
    reading-unsent o g.L.SleepLock.kind k v.hand w.hand c.look-reply.result c.look-reply.ensures.kept.0 (is-object o (lawful g) k v.hand.log c.args.next.words c.args.next.call c.requires.next.is c.look-reply.result (c.look-reply.ensures.read c.requires.reads)) c.requires.recorded

pub returns-clause-served : goal.returns-clause-served
returns-clause-served g c =
    let o = g.O.Object.object in
    let k = g.L.SiteLock.calls_on c.args.self.now.lock in
    let v = g.L.SiteLock.view c.args.pass.now in
    let w = g.L.SiteLock.view c.look-reply.new.pass in
    let m = g.L.SiteLock.view c.note.new.pass in
    let u = g.L.SiteLock.view c.release_shared.new.pass in
    let replies = c.look-reply.ensures.read c.requires.reads in
    serves-looked o g.L.SleepLock.kind k v w m u c.args.next.words c.args.next.call c.look-reply.result c.requires.next.is c.requires.reads (is-object o (lawful g) k v.hand.log c.args.next.words c.args.next.call c.requires.next.is c.look-reply.result replies) replies
    c.look-reply.ensures.kept c.note.ensures.kept c.release_shared.ensures.released

pub returns-clause-queue : goal.returns-clause-queue
returns-clause-queue g c = λ p t. c.release_shared.ensures.queue p (spun-goes-on g.L.SleepLock.spun g.L.SiteLock.with_seat g.met.L.SleepLock.leaves c.look-reply.new.pass c.note.new.pass _ c.note.ensures.beside p (c.look-reply.ensures.queue p t))
