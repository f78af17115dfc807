use Rattle.std.proofs.Common.{sym, ◌∙◌, rules}
use Rattle.word_bits.proofs.States.{IsLawful}
use Rattle.guarded.proofs.Chained.{one-more}
use Rattle.guarded.proofs.Planned.{signal-there, is-either}
use Rattle.guarded.proofs.Recording.{performs-looked}
use Rattle.guarded.proofs.Passing.{spun-goes-on}
use Rattle.guarded.proofs.guarded.Guarded.perform.Given as given
use Rattle.guarded.proofs.guarded.Guarded.perform.Goals as goal

lawful : (g : given.Over) → IsLawful g.O.Object.object
lawful g = record {
  starts = g.met.O.Object.starts;
  called = g.met.O.Object.called;
  goes_on = g.met.O.Object.goes_on;
  replies = g.met.O.Object.replies;
}

pub returns-in-Some-default-clause-performs : goal.returns-in-Some-default-clause-performs
returns-in-Some-default-clause-performs g c =
    let v = g.L.SiteLock.view c.args.pass.now in
    let w = g.L.SiteLock.view c.call-words.new.pass in
    let u = g.L.SiteLock.view c.send.new.pass in
    performs-looked v w u c.call-words.ensures.kept c.call-words.ensures.on.goes_on g.O.Object.object g.L.SleepLock.kind g.L.SleepLock.word_at (g.L.SiteLock.calls_on c.args.self.now.lock) c.send.result c.send.ensures.performs

pub returns-in-Some-default-clause-one_more : goal.returns-in-Some-default-clause-one_more
returns-in-Some-default-clause-one_more g c = λ t count rs task done.
    let v = g.L.SiteLock.view c.args.pass.now in
    let u = g.L.SiteLock.view c.send.new.pass in
    let p = returns-in-Some-default-clause-performs g c in
    (p.rec, one-more g.O.Object.object (lawful g) g.L.SleepLock.kind g.L.SleepLock.word_at (g.L.SiteLock.calls_on c.args.self.now.lock) t count c.send.result rs v u task p done)

pub returns-in-None-Some-clause-performs : goal.returns-in-None-Some-clause-performs
returns-in-None-Some-clause-performs g c =
    let v = g.L.SiteLock.view c.args.pass.now in
    let w = g.L.SiteLock.view c.call-words.new.pass in
    let u = g.L.SiteLock.view c.perform_known.new.pass in
    performs-looked v w u c.call-words.ensures.kept c.call-words.ensures.on.goes_on g.O.Object.object g.L.SleepLock.kind g.L.SleepLock.word_at (g.L.SiteLock.calls_on c.args.self.now.lock) c.perform_known.result c.perform_known.ensures.performs

pub returns-in-None-Some-clause-one_more : goal.returns-in-None-Some-clause-one_more
returns-in-None-Some-clause-one_more g c = λ t count rs task done.
    let v = g.L.SiteLock.view c.args.pass.now in
    let u = g.L.SiteLock.view c.perform_known.new.pass in
    let p = returns-in-None-Some-clause-performs g c in
    (p.rec, one-more g.O.Object.object (lawful g) g.L.SleepLock.kind g.L.SleepLock.word_at (g.L.SiteLock.calls_on c.args.self.now.lock) t count c.perform_known.result rs v u task p done)

pub send-requires-clause-there : goal.send-requires-clause-there
send-requires-clause-there g c =
    let planned = c.call-words.ensures.planned (g.met.L.SleepLock.planned c.args.self.now.lock c.args.pass.now c.requires.own) in
    signal-there g.O.Object.object c.call-words.result planned g.met.O.Object.signals c.in-Some-default.target (sym c.signal.ensures ∙ c.in-Some-default.is-0)

pub send-requires-clause-next : goal.send-requires-clause-next
send-requires-clause-next g c = (c.call-words.result, search rules, sym c.signal.ensures ∙ c.in-Some-default.is-0)

pub unreachable-requires-in-None-None : goal.unreachable-requires-in-None-None
unreachable-requires-in-None-None g c =
    let planned = c.call-words.ensures.planned (g.met.L.SleepLock.planned c.args.self.now.lock c.args.pass.now c.requires.own) in
    is-either g.O.Object.object c.call-words.result planned (sym c.signal.ensures ∙ c.in-None-None.is-0) (sym c.call_of.ensures ∙ c.in-None-None.is-1)

pub returns-in-Some-default-clause-queue : goal.returns-in-Some-default-clause-queue
returns-in-Some-default-clause-queue g c = λ p t. c.send.ensures.queue p (spun-goes-on g.L.SleepLock.spun g.L.SiteLock.with_seat g.met.L.SleepLock.leaves c.args.pass.now c.call-words.new.pass _ c.call-words.ensures.beside p t)

pub returns-in-None-Some-clause-queue : goal.returns-in-None-Some-clause-queue
returns-in-None-Some-clause-queue g c = λ p t. c.perform_known.ensures.queue p (spun-goes-on g.L.SleepLock.spun g.L.SiteLock.with_seat g.met.L.SleepLock.leaves c.args.pass.now c.call-words.new.pass _ c.call-words.ensures.beside p t)
