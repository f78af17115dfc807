use Rattle.std.proofs.Common.{◌≡◌, length, Some, ap, sym, subst, ◌∙◌, arith}
use Rattle.std.specs.Prelude.{slice_get}
use Rattle.word_bits.specs.Histories.{state_after}
use Rattle.word_bits.proofs.States.{IsLawful, state_is_state}
use Rattle.lock_core.proofs.HandLaws.{alone-is-held}
use Rattle.lock_core.proofs.RecordLaws.{state-snoc}
use Rattle.lock_core.specs.Records.{row}
use Rattle.lock_core.specs.Views.{next_entry}
use Rattle.call_tests.proofs.OwnerPerforming.{may-note, loaded, stored-next}
use Rattle.call_tests.proofs.owner_calls.perform.Given as given
use Rattle.call_tests.proofs.owner_calls.perform.Goals as goal
use Rattle.call_tests.proofs.owner_calls.perform.Goals.{then-reads, else-reads}

lawful : (g : given.Over) → IsLawful g.O.Object.object
lawful g = record {
  starts = g.met.O.Object.starts;
  called = g.met.O.Object.called;
  goes_on = g.met.O.Object.goes_on;
  replies = g.met.O.Object.replies;
}

pub load-requires-clause-sized : goal.load-requires-clause-sized
load-requires-clause-sized g c =
    let h = c.args.pass.now.pass.seat.me.0.view.hand in
    let k = c.args.site.now.site.table.shared.key in
    ap (λ x. length x.known) c.next_call.ensures.hand ∙ ap length (g.met.O.ValueObject.exact (state_after g.O.Object.object k h.log) h.known c.requires.stored)
    ∙ g.met.O.ValueObject.sized (state_after g.O.Object.object k h.log) (state_is_state g.O.Object.object (lawful g) k h.log)

pub note-requires-clause-may : goal.note-requires-clause-may
note-requires-clause-may g c =
    let o = g.O.Object.object in
    let k = c.args.site.now.site.table.shared.key in
    let h = c.args.pass.now.pass.seat.me.0.view.hand in
    let hand = c.load.ensures.hand ∙ c.next_call.ensures.hand in
    let is = sym c.call_of.ensures ∙ c.in_ok-known.was in
    let call = c.in_ok-known.known in
    let found = c.in_ok-value.ensures in
    let state = loaded o (lawful g) g.met.O.ValueObject.apart g.met.O.ValueObject.exact k h (g.O.Object.state c.in_ok-value.value) c.requires.stored found.state (found.found ∙ ap (λ x. x.known) c.next_call.ensures.hand) in
    rw hand (may-note o _ k h _ c.apply-reply.result
    (rw c.apply-reply.ensures.reply (g.met.O.Object.replies (g.O.Object.state c.in_ok-value.value) call found.state (g.met.O.Object.called c.in_ok-next.next.words call is)))
    (record {
      words = c.in_ok-next.next.words;
      call = call;
      planned = c.in_ok-next.ensures.words.1;
      is = is;
      reads = sym c.reads.ensures ∙ c.if-reads.true;
      held = alone-is-held h.held (sym c.requires.own.held ∙ c.requires.held);
      stored = c.requires.stored;
      replies = c.apply-reply.ensures.reply ∙ ap (λ s. (o.meaning s call).1) state;
    }))

pub commit-requires-clause-change : goal.commit-requires-clause-change
commit-requires-clause-change g c =
    let o = g.O.Object.object in
    let k = c.args.site.now.site.table.shared.key in
    let h = c.args.pass.now.pass.seat.me.0.view.hand in
    let hand = c.load.ensures.hand ∙ c.next_call.ensures.hand in
    let log = c.store.ensures.log ∙ ap (λ x. x.log) hand in
    let is = sym c.call_of.ensures ∙ c.in_ok-known.was in
    let call = c.in_ok-known.known in
    let found = c.in_ok-value.ensures in
    let state = loaded o (lawful g) g.met.O.ValueObject.apart g.met.O.ValueObject.exact k h (g.O.Object.state c.in_ok-value.value) c.requires.stored found.state (found.found ∙ ap (λ x. x.known) c.next_call.ensures.hand) in
    record {
      words = c.in_ok-next.next.words;
      call = call;
      planned = subst (λ e. slice_get (row k e.task) e.call ≡ Some c.in_ok-next.next.words) (sym (stored-next c.args.site.now.site c.load.new.pass.pass c.store.new.pass.pass c.load.ensures.own c.store.ensures.own c.store.ensures.face ∙ ap next_entry hand)) c.in_ok-next.ensures.words.1;
      is = is;
      changes = sym c.reads.ensures ∙ c.if-reads.false;
      stored = g.met.O.ValueObject.represents (o.meaning (state_after o k c.store.new.pass.pass.seat.me.0.view.hand.log) call).0 c.store.new.pass.pass.seat.me.0.view.hand.known (c.store.ensures.known ∙ ap o.stores (c.apply-reply.ensures.next ∙ ap (λ s. (o.meaning s call).0) state) ∙ ap (λ l. o.stores (o.meaning (state_after o k l) call).0) (sym log));
      replies = c.apply-reply.ensures.reply ∙ ap (λ s. (o.meaning s call).1) state ∙ ap (λ l. (o.meaning (state_after o k l) call).1) (sym log);
    }

pub returns-clause-stored : goal.returns-clause-stored
returns-clause-stored g c =
    let o = g.O.Object.object in
    let k = c.args.site.now.site.table.shared.key in
    let h = c.args.pass.now.pass.seat.me.0.view.hand in
    let hand = c.load.ensures.hand ∙ c.next_call.ensures.hand in
    let is = sym c.call_of.ensures ∙ c.in_ok-known.was in
    let call = c.in_ok-known.known in
    let found = c.in_ok-value.ensures in
    let state = loaded o (lawful g) g.met.O.ValueObject.apart g.met.O.ValueObject.exact k h (g.O.Object.state c.in_ok-value.value) c.requires.stored found.state (found.found ∙ ap (λ x. x.known) c.next_call.ensures.hand) in
    elim c.if-reads.branch [
      | then-reads w ↦
          let now = ap (λ p. p.pass.seat.me.0.view.hand) w.pass-is ∙ ap (λ v. v.hand) w.note.ensures.seat in
          g.met.O.ValueObject.represents _ _ (ap (λ x. x.known) now ∙ ap (λ x. x.known) hand ∙ g.met.O.ValueObject.exact (state_after o k h.log) h.known c.requires.stored ∙ ap (λ l. o.stores (state_after o k l)) (sym (ap (λ x. x.log) now ∙ ap (λ x. x.log) hand)))
      | else-reads w ↦
          let now = ap (λ p. p.pass.seat.me.0.view.hand) w.pass-is ∙ ap (λ v. v.hand) w.commit.ensures.seat in
          let log = w.store.ensures.log ∙ ap (λ x. x.log) hand in
          let planned = subst (λ e. slice_get (row k e.task) e.call ≡ Some c.in_ok-next.next.words) (sym (stored-next c.args.site.now.site c.load.new.pass.pass w.store.new.pass.pass c.load.ensures.own w.store.ensures.own w.store.ensures.face ∙ ap next_entry hand)) c.in_ok-next.ensures.words.1 in
          g.met.O.ValueObject.represents _ _ (ap (λ x. x.known) now ∙ w.store.ensures.known ∙ ap o.stores (c.apply-reply.ensures.next ∙ ap (λ s. (o.meaning s call).0) state)
          ∙ ap (λ l. o.stores (o.meaning (state_after o k l) call).0) (sym log)
          ∙ ap o.stores (sym (state-snoc o k w.store.new.pass.pass.seat.me.0.view.hand.log (next_entry w.store.new.pass.pass.seat.me.0.view.hand) c.in_ok-next.next.words call planned is))
          ∙ ap (λ l. o.stores (state_after o k l)) (sym (ap (λ x. x.log) now)))
    ]
