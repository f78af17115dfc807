-- The copy is in the state after the log, and the words that are written back store the next one.
use Rattle.std.proofs.Common.{◌≡◌, ◌∙◌, ◌+◌, ◌++◌, [], ◌∷◌, ℕ, Option, Some, None, length, ap, sym, subst}
use Rattle.std.specs.Prelude.{slice_get}
use Rattle.word_bits.specs.Histories.{state_after}
use Rattle.word_bits.proofs.States.{IsLawful, state_is_state}
use Rattle.lock_core.specs.Records.{row}
use Rattle.lock_core.proofs.Recording.{next-is}
use Rattle.seq_fault.specs.SeqRuled.{V}
use Rattle.seq_fault.specs.Types.{Entry, Hand}
use Rattle.seq_fault.proofs.writing.change.Given as given
use Rattle.seq_fault.proofs.writing.change.Goals as goal

laws : (g : given.Over) → IsLawful g.O.Object.object
laws g = record {
  starts = g.met.O.Object.starts;
  called = g.met.O.Object.called;
  goes_on = g.met.O.Object.goes_on;
  replies = g.met.O.Object.replies;
}

abbrev get : {X : Type 0} → X → Option X → X
get d None = d
get d (Some x) = x

pub load-requires-clause-sized : goal.load-requires-clause-sized
load-requires-clause-sized g c =
    let o = g.O.Object.object in
    let k = c.args.site.now.table.shared.key in
    let own = c.requires.own in
    let q = c.requires.next in
    let h = c.args.pass.now.seat.me.0.view.hand in
    let kept : c.call-words.new.pass.seat.me.0.view.hand ≡ h = ap (λ (v : V). v.hand) c.call-words.ensures.kept in
    let lawful = state_is_state o (laws g) k h.log in
    ap (λ (x : Hand). length x.known) kept ∙ (ap length (g.met.O.ValueObject.exact (state_after o k h.log) h.known c.requires.stored) ∙ g.met.O.ValueObject.sized (state_after o k h.log) lawful)

pub unreachable-requires-in_default-load : goal.unreachable-requires-in_default-load
unreachable-requires-in_default-load g c =
    let o = g.O.Object.object in
    let k = c.args.site.now.table.shared.key in
    let own = c.requires.own in
    let q = c.requires.next in
    let h = c.args.pass.now.seat.me.0.view.hand in
    let kept : c.call-words.new.pass.seat.me.0.view.hand ≡ h = ap (λ (v : V). v.hand) c.call-words.ensures.kept in
    let lawful = state_is_state o (laws g) k h.log in
    c.in_default-load.ensures.none (state_after o k h.log) lawful (sym (ap (λ (x : Hand). x.known) kept ∙ g.met.O.ValueObject.exact (state_after o k h.log) h.known c.requires.stored))

pub commit-requires-clause-next : goal.commit-requires-clause-next
commit-requires-clause-next g c =
    let o = g.O.Object.object in
    let k = c.args.site.now.table.shared.key in
    let own = c.requires.own in
    let q = c.requires.next in
    let h = c.args.pass.now.seat.me.0.view.hand in
    let kept : c.call-words.new.pass.seat.me.0.view.hand ≡ h = ap (λ (v : V). v.hand) c.call-words.ensures.kept in
    let lawful = state_is_state o (laws g) k h.log in
    let same = c.in-Some-load.ensures.hand ∙ kept in
    let w = c.store.new.pass.seat.me.0.view.hand in
    let call = c.in-Some-call_of.known in
    let task = sym own.task ∙ (sym c.task.ensures ∙ c.in-Some.is) in
    let done = sym own.done ∙ sym c.requires.call in
    let here = next-is h c.in-Some.task c.args.call task done in
    let there = next-is w c.in-Some.task c.args.call (c.store.ensures.kept.task ∙ (ap (λ (x : Hand). x.task) same ∙ task)) (c.store.ensures.kept.done ∙ (ap (λ (x : Hand). x.done) same ∙ done)) in
    let is = sym c.call_of.ensures ∙ c.in-Some-call_of.is in
    let words = ap (get q.words) (sym (subst (λ (e : Entry). slice_get (row k e.task) e.call ≡ Some q.words) here q.planned) ∙ c.call-words.ensures.words) in
    let known = ap (get q.call) (sym q.is ∙ (ap o.call_of words ∙ is)) in
    let state = g.met.O.ValueObject.apart (g.O.Object.state c.in-Some-load.value) (state_after o k h.log) c.in-Some-load.ensures.state lawful (c.in-Some-load.ensures.found ∙ (ap (λ (x : Hand). x.known) kept ∙ g.met.O.ValueObject.exact (state_after o k h.log) h.known c.requires.stored)) in
    let log = c.store.ensures.kept.log ∙ ap (λ (x : Hand). x.log) same in
    let reply = c.apply-reply.ensures.reply ∙ ap (λ s. (o.meaning s call).1) state in
    record {
      words = c.call-words.result;
      call = call;
      planned = subst (λ (e : Entry). slice_get (row k e.task) e.call ≡ Some c.call-words.result) (sym there) c.call-words.ensures.words;
      is = is;
      changes = ap o.reads (sym known) ∙ q.changes;
      stored = g.met.O.ValueObject.represents (o.meaning (state_after o k w.log) call).0 w.known (c.store.ensures.known ∙ (ap o.stores (c.apply-reply.ensures.next ∙ ap (λ s. (o.meaning s call).0) state) ∙ ap (λ l. o.stores ((o.meaning (state_after o k l) call).0)) (sym log)));
      replies = reply ∙ ap (λ l. (o.meaning (state_after o k l) call).1) (sym log);
    }

pub returns-clause-changed : goal.returns-clause-changed
returns-clause-changed g c =
    let o = g.O.Object.object in
    let k = c.args.site.now.table.shared.key in
    let own = c.requires.own in
    let q = c.requires.next in
    let h = c.args.pass.now.seat.me.0.view.hand in
    let kept : c.call-words.new.pass.seat.me.0.view.hand ≡ h = ap (λ (v : V). v.hand) c.call-words.ensures.kept in
    let lawful = state_is_state o (laws g) k h.log in
    let same = c.in-Some-load.ensures.hand ∙ kept in
    let w = c.store.new.pass.seat.me.0.view.hand in
    let call = c.in-Some-call_of.known in
    let task = sym own.task ∙ (sym c.task.ensures ∙ c.in-Some.is) in
    let done = sym own.done ∙ sym c.requires.call in
    let here = next-is h c.in-Some.task c.args.call task done in
    let there = next-is w c.in-Some.task c.args.call (c.store.ensures.kept.task ∙ (ap (λ (x : Hand). x.task) same ∙ task)) (c.store.ensures.kept.done ∙ (ap (λ (x : Hand). x.done) same ∙ done)) in
    let is = sym c.call_of.ensures ∙ c.in-Some-call_of.is in
    let words = ap (get q.words) (sym (subst (λ (e : Entry). slice_get (row k e.task) e.call ≡ Some q.words) here q.planned) ∙ c.call-words.ensures.words) in
    let known = ap (get q.call) (sym q.is ∙ (ap o.call_of words ∙ is)) in
    let state = g.met.O.ValueObject.apart (g.O.Object.state c.in-Some-load.value) (state_after o k h.log) c.in-Some-load.ensures.state lawful (c.in-Some-load.ensures.found ∙ (ap (λ (x : Hand). x.known) kept ∙ g.met.O.ValueObject.exact (state_after o k h.log) h.known c.requires.stored)) in
    let log = c.store.ensures.kept.log ∙ ap (λ (x : Hand). x.log) same in
    let reply = c.apply-reply.ensures.reply ∙ ap (λ s. (o.meaning s call).1) state in
    record {
      words = q.words;
      call = q.call;
      planned = q.planned;
      is = q.is;
      replies = reply ∙ ap (λ x. (o.meaning (state_after o k h.log) x).1) (sym known);
      seen = ap (λ (v : V). v.hand.seen) c.commit.ensures.kept ∙ (λ i. log i ++ (there ∙ sym here) i ∷ []);
      task = ap (λ (v : V). v.hand.task) c.commit.ensures.kept ∙ (c.store.ensures.kept.task ∙ ap (λ (x : Hand). x.task) same);
      done = ap (λ (v : V). v.hand.done) c.commit.ensures.kept ∙ ap (λ (n : ℕ). n + 1) (c.store.ensures.kept.done ∙ ap (λ (x : Hand). x.done) same);
      records = ap (λ (v : V). v.hand.records) c.commit.ensures.kept ∙ (λ i. record { entry = (there ∙ sym here) i; rec = record { k = length (log i); reply = c.apply-reply.result } } ∷ (c.store.ensures.kept.records ∙ ap (λ (x : Hand). x.records) same) i);
      owes = (ap (λ (v : V). v.hand.sent) c.commit.ensures.kept ∙ (c.store.ensures.kept.sent ∙ (ap (λ (x : Hand). x.sent) same ∙ c.requires.recorded.0)), ap (λ (v : V). v.hand.consumed) c.commit.ensures.kept ∙ (c.store.ensures.kept.consumed ∙ (ap (λ (x : Hand). x.consumed) same ∙ c.requires.recorded.1)));
    }
