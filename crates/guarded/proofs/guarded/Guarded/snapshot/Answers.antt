use Rattle.std.proofs.Common.{◌≡◌, arith, List, length, map, sym, ap, ◌∙◌, subst}
use Rattle.guarded.specs.Types.{Entry, Hand, Told}
use Rattle.word_bits.specs.EntryWord.{entry_word}
use Rattle.word_bits.specs.Snapshots.{Words}
use Rattle.word_bits.specs.Histories.{state_after}
use Rattle.word_bits.proofs.States.{IsLawful}
use Rattle.lock_core.specs.Chronicles.{Chronicles}
use Rattle.lock_core.specs.Kinds.{unavailable}
use Rattle.guarded.proofs.Copied.{held-alone, rows-wider}
use Rattle.guarded.proofs.Serving.{known-sized}
use Rattle.guarded.proofs.Legally.{words-same, is-history}
use Rattle.guarded.proofs.guarded.Guarded.snapshot.Given as given
use Rattle.guarded.proofs.guarded.Guarded.snapshot.Goals as goal

lawful : (g : given.Over) → IsLawful g.O.Object.object
lawful g = record {
  starts = g.met.O.Object.starts;
  called = g.met.O.Object.called;
  goes_on = g.met.O.Object.goes_on;
  replies = g.met.O.Object.replies;
}

pub copy_log-requires-clause-room : goal.copy_log-requires-clause-room
copy_log-requires-clause-room g c =
    let short = (g.met.L.SleepLock.stands c.args.self.now.lock c.recall.new.pass c.recall.ensures.on.own).short in
    let room = c.requires.log_room in omega (arith, short, room)

pub copy_state-requires-clause-sized : goal.copy_state-requires-clause-sized
copy_state-requires-clause-sized g c =
    let u = g.L.SiteLock.view c.alone.new.pass in
    let at = ap {A = Hand} (λ (h : Hand). length h.known) (c.copy_records.ensures.kept.0 ∙ (c.copy_log.ensures.kept.0 ∙ c.recall.ensures.kept.0)) in
    at ∙ known-sized g.O.Object.object (lawful g) (g.L.SiteLock.calls_on c.args.self.now.lock) u.hand c.alone.ensures.took.stored g.O.Object.WORDS g.met.O.ValueObject.exact g.met.O.ValueObject.sized

pub returns-clause-on : goal.returns-clause-on
returns-clause-on g c = record { own = c.release_alone.ensures.on.own; goes_on = λ p t. c.release_alone.ensures.on.goes_on p (c.recall-2.ensures.on.goes_on p (c.copy_state.ensures.on.goes_on p (c.copy_records.ensures.on.goes_on p (c.copy_log.ensures.on.goes_on p (c.recall.ensures.on.goes_on p (c.alone.ensures.on.goes_on p t)))))) }

pub returns-clause-queue : goal.returns-clause-queue
returns-clause-queue g c = λ p t.
    c.release_alone.ensures.queue p (c.recall-2.ensures.queue p (c.copy_state.ensures.queue p (c.copy_records.ensures.queue p (c.copy_log.ensures.queue p (c.recall.ensures.queue p (c.alone.ensures.queue p t))))))

pub returns-clause-copied : goal.returns-clause-copied
returns-clause-copied g c =
    let o = g.O.Object.object in
    let k = g.L.SiteLock.calls_on c.args.self.now.lock in
    let v = g.L.SiteLock.view c.args.pass.now in
    let m = g.L.SiteLock.view c.alone.new.pass in
    let first = g.L.SiteLock.view c.recall.new.pass in
    let logged = g.L.SiteLock.view c.copy_log.new.pass in
    let read = g.L.SiteLock.view c.copy_records.new.pass in
    let last = g.L.SiteLock.view c.recall-2.new.pass in
    let took = c.alone.ensures.took in
    let same : logged.hand ≡ m.hand = c.copy_log.ensures.kept.0 ∙ c.recall.ensures.kept.0 in
    let still : last.hand ≡ m.hand = c.recall-2.ensures.kept.0 ∙ (c.copy_state.ensures.kept.0 ∙ (c.copy_records.ensures.kept.0 ∙ same)) in
    let log = c.copy_log.ensures.copied in
    let recs = c.copy_records.ensures.copied in
    let state = c.copy_state.ensures.copied in
    let stored : c.copy_state.new.out.state ≡ m.hand.known = ap {A = Words} (λ w. w.state) state ∙ ap {A = Hand} (λ h. h.known) (c.copy_records.ensures.kept.0 ∙ same) in record {
      entries = m.hand.log;
      rows = recs.0;
      begins = took.begins;
      log_is = ap {A = Words} (λ w. w.log) state ∙ (ap {A = Words} (λ w. w.log) recs.2 ∙ (ap {A = Words} (λ w. w.log) log ∙ ap {A = Hand} (λ h. map entry_word h.log) c.recall.ensures.kept.0));
      state_is = stored ∙ g.met.O.ValueObject.exact (state_after o k m.hand.log) m.hand.known took.stored;
      recs_are = ap {A = Words} (λ w. w.recs) state ∙ ap {A = Words} (λ w. w.recs) recs.2;
      first = first.past;
      last = last.past;
      after = λ p t. c.recall.ensures.on.goes_on p (c.alone.ensures.on.goes_on p t);
      between = λ p t. c.recall-2.ensures.on.goes_on p (c.copy_state.ensures.on.goes_on p (c.copy_records.ensures.on.goes_on p (c.copy_log.ensures.on.goes_on p t)));
      goes_on = c.release_alone.ensures.on.goes_on;
      once = c.release_alone.ensures.released.0.takes ∙ (ap {A = Hand} (λ h. h.takes) still ∙ took.takes);
      begun = held-alone v m first c.copy_state.new.out.state c.recall.ensures.kept.0 took.keeps.task took.holds took.quiet took.takes took.keeps.records (sym stored) c.recall.ensures.last;
      ended = held-alone v m last c.copy_state.new.out.state still took.keeps.task took.holds took.quiet took.takes took.keeps.records (sym stored) c.recall-2.ensures.last;
      words = rows-wider k v.hand first.past logged.past read.past last.past (length k) recs.0 c.copy_log.ensures.on.goes_on (λ p t. c.recall-2.ensures.on.goes_on p (c.copy_state.ensures.on.goes_on p t))
          (words-same k logged.hand v.hand logged.past read.past (length k) recs.0 (sym (ap {A = Hand} (λ h. h.records) same ∙ took.keeps.records)) recs.1);
      chronicle = subst (λ (known : List Told). Chronicles o (unavailable g.L.SleepLock.kind) k known m.hand.log) (ap {A = Hand} (λ h. h.records) c.recall.ensures.kept.0 ∙ took.keeps.records)
          (subst (λ (entries : List Entry). Chronicles o (unavailable g.L.SleepLock.kind) k first.hand.records entries) (ap {A = Hand} (λ h. h.log) c.recall.ensures.kept.0) c.copy_log.ensures.history);
    }

pub returns-clause-legal : goal.returns-clause-legal
returns-clause-legal g c = is-history g.O.Object.object (unavailable g.L.SleepLock.kind) (g.L.SiteLock.calls_on c.args.self.now.lock) (g.L.SiteLock.view c.args.pass.now) (g.L.SiteLock.view c.release_alone.new.pass) _ (g.met.L.SleepLock.small c.args.self.now.lock) (returns-clause-copied g c)
