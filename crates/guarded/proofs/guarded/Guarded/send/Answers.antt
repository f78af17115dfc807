use Rattle.guarded.proofs.Recording.{performs-sent}
use Rattle.guarded.proofs.guarded.Guarded.send.Goals as goal

pub returns-clause-performs : goal.returns-clause-performs
returns-clause-performs g c =
    let v = g.L.SiteLock.view c.args.pass.now in
    let w = g.L.SiteLock.view c.signal.new.pass in
    let u = g.L.SiteLock.view c.note.new.pass in
    performs-sent g.O.Object.object g.L.SleepLock.kind g.L.SleepLock.word_at (g.L.SiteLock.calls_on c.args.self.now.lock) v w u c.requires.next.0 c.args.target c.requires.next.1 c.requires.next.2 c.requires.out c.requires.consumed c.signal.ensures.kept.0 c.signal.ensures.kept.1 c.note.ensures.kept
