use Rattle.std.proofs.Common.{refl, sym, subst}
use Rattle.word_bits.specs.Histories.{state_after}
use Rattle.word_bits.proofs.States.{IsLawful, state_is_state}
use Rattle.lock_core.specs.Kinds.{wakes_alone}
use Rattle.guarded.specs.Performing.{Serves, no_word}
use Rattle.guarded.specs.Types.{Reply}
use Rattle.guarded.proofs.Recording.{serves-change}
use Rattle.guarded.proofs.Serving.{is-object, still-stored, state-changed}
use Rattle.guarded.proofs.guarded.Guarded.serve_change.Given as given
use Rattle.guarded.proofs.guarded.Guarded.serve_change.Goals as goal

lawful : (g : given.Over) → IsLawful g.O.Object.object
lawful g = record {
  starts = g.met.O.Object.starts;
  called = g.met.O.Object.called;
  goes_on = g.met.O.Object.goes_on;
  replies = g.met.O.Object.replies;
}

pub look_again-requires-clause-stored : goal.look_again-requires-clause-stored
look_again-requires-clause-stored g c =
    let v = g.L.SiteLock.view c.args.pass.now in
    let m = g.L.SiteLock.view c.change-reply.new.pass in
    let kept = c.change-reply.ensures.kept in
    still-stored g.O.Object.object (lawful g) (g.L.SiteLock.calls_on c.args.self.now.lock) v.hand.log c.args.next.words c.args.next.call c.requires.next.is v.hand m.hand kept.0 c.change-reply.result refl c.requires.next.planned kept.3.0 g.met.O.ValueObject.represents

pub look_again-requires-clause-done : goal.look_again-requires-clause-done
look_again-requires-clause-done g c =
    let o = g.O.Object.object in
    let k = g.L.SiteLock.calls_on c.args.self.now.lock in
    let v = g.L.SiteLock.view c.args.pass.now in
    let m = g.L.SiteLock.view c.change-reply.new.pass in
    let kept = c.change-reply.ensures.kept in (
      state_after o k v.hand.log,
      state_is_state o (lawful g) k v.hand.log,
      state-changed o (lawful g) k v.hand.log c.args.next.words c.args.next.call c.requires.next.is v.hand m.hand kept.0 c.change-reply.result refl c.requires.next.planned kept.3.0,
      c.change-reply.ensures.reply,
    )

pub returns-then-downgrades-clause-served : goal.returns-then-downgrades-clause-served
returns-then-downgrades-clause-served g c =
    let o = g.O.Object.object in
    let k = g.L.SiteLock.calls_on c.args.self.now.lock in
    let v = g.L.SiteLock.view c.args.pass.now in
    let m = g.L.SiteLock.view c.change-reply.new.pass in
    let u = g.L.SiteLock.view c.look_again.new.pass in
    subst (λ (r : Reply). Serves o g.L.SleepLock.kind k c.args.next.words r v u) (sym c.look_again.ensures.reply)
    (serves-change o g.L.SleepLock.kind k no_word v m u c.args.next.words c.args.next.call c.change-reply.result _ c.requires.next.is c.requires.changes
    (is-object o (lawful g) k v.hand.log c.args.next.words c.args.next.call c.requires.next.is c.change-reply.result c.change-reply.ensures.reply) c.change-reply.ensures.reply c.change-reply.ensures.kept c.look_again.ensures.released)

pub returns-else-downgrades-clause-served : goal.returns-else-downgrades-clause-served
returns-else-downgrades-clause-served g c =
    let o = g.O.Object.object in
    let k = g.L.SiteLock.calls_on c.args.self.now.lock in
    let v = g.L.SiteLock.view c.args.pass.now in
    let m = g.L.SiteLock.view c.change-reply.new.pass in
    let u = g.L.SiteLock.view c.release_alone.new.pass in
    serves-change o g.L.SleepLock.kind k (wakes_alone g.L.SleepLock.kind) v m u c.args.next.words c.args.next.call c.change-reply.result _ c.requires.next.is c.requires.changes
    (is-object o (lawful g) k v.hand.log c.args.next.words c.args.next.call c.requires.next.is c.change-reply.result c.change-reply.ensures.reply) c.change-reply.ensures.reply c.change-reply.ensures.kept c.release_alone.ensures.released
