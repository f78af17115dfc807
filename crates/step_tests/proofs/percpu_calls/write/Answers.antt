use Rattle.std.proofs.Common.{arith, ◌∙◌, IsSome, length, ap, refl, sym, subst}
use Rattle.word_bits.specs.Histories.{state_after}
use Rattle.word_bits.proofs.States.{IsLawful, state_is_state}
use Rattle.lock_core.specs.declared.view.Hand.{Hand}
use Rattle.lock_core.proofs.HandLaws.{no-alone}
use Rattle.step_tests.proofs.PercpuCalls.{loaded, next-call}
use Rattle.step_tests.proofs.percpu_calls.write.Given as given
use Rattle.step_tests.proofs.percpu_calls.write.Goals as goal

lawful : (g : given.Over) → IsLawful g.O.Object.object
lawful g = record {
  starts = g.met.O.Object.starts;
  called = g.met.O.Object.called;
  goes_on = g.met.O.Object.goes_on;
  replies = g.met.O.Object.replies;
}

pub load-requires-clause-sized : goal.load-requires-clause-sized
load-requires-clause-sized g c = let o = g.O.Object.object in let h = c.args.pass.now.pass.seat.me.0.view.hand in let k = c.args.lock.now.site.table.shared.key in
    ap length (g.met.O.ValueObject.exact (state_after o k h.log) h.known c.requires.knows) ∙ g.met.O.ValueObject.sized (state_after o k h.log) (state_is_state o (lawful g) k h.log)

pub load-requires-clause-held : goal.load-requires-clause-held
load-requires-clause-held g c = λ out. no-alone (sym out ∙ c.requires.at.holds)

pub store-requires-clause-held : goal.store-requires-clause-held
store-requires-clause-held g c = let own = c.requires.at.own.seat in c.load.ensures.own.seat.held ∙ (ap (λ (x : Hand). x.held) c.load.ensures.hand ∙ (sym own.held ∙ c.requires.at.holds))

pub store-requires-clause-sized : goal.store-requires-clause-sized
store-requires-clause-sized g c = let o = g.O.Object.object in let h = c.args.pass.now.pass.seat.me.0.view.hand in let k = c.args.lock.now.site.table.shared.key in
    ap (λ (x : Hand). length x.known) c.load.ensures.hand ∙ (ap length (g.met.O.ValueObject.exact (state_after o k h.log) h.known c.requires.knows) ∙ g.met.O.ValueObject.sized (state_after o k h.log) (state_is_state o (lawful g) k h.log))

pub commit-requires-clause-numbered : goal.commit-requires-clause-numbered
commit-requires-clause-numbered g c = let own = c.requires.at.own.seat in subst IsSome (sym (c.store.ensures.task ∙ (ap (λ (x : Hand). x.task) c.load.ensures.hand ∙ (sym own.task ∙ c.requires.at.mine)))) refl

pub commit-requires-clause-recorded : goal.commit-requires-clause-recorded
commit-requires-clause-recorded g c = let owes = c.requires.at.owes in let hand = c.load.ensures.hand in (c.store.ensures.sent ∙ (ap (λ (x : Hand). x.sent) hand ∙ owes.0), c.store.ensures.consumed ∙ (ap (λ (x : Hand). x.consumed) hand ∙ owes.1))

pub commit-requires-clause-change : goal.commit-requires-clause-change
commit-requires-clause-change g c = let o = g.O.Object.object in let k = c.args.lock.now.site.table.shared.key in let h = c.args.pass.now.pass.seat.me.0.view.hand in let own = c.requires.at.own.seat in
    let hand = c.load.ensures.hand in
    let task = c.store.ensures.task ∙ (ap (λ (x : Hand). x.task) hand ∙ (sym own.task ∙ c.requires.at.mine)) in
    let done = c.store.ensures.done ∙ (ap (λ (x : Hand). x.done) hand ∙ sym c.done-call.ensures) in
    let log = c.store.ensures.log ∙ ap (λ (x : Hand). x.log) hand in
    let is = sym c.call_of.ensures ∙ c.in_ok-known.was in
    let call = c.in_ok-known.known in
    let found = c.in_ok-value.ensures in
    let state = loaded o (lawful g) g.met.O.ValueObject.apart g.met.O.ValueObject.exact k h (g.O.Object.state c.in_ok-value.value) c.requires.knows found.state found.found in
    record {
      words = c.args.job.words;
      call = call;
      planned = next-call k c.store.new.pass.pass.seat.me.0.view.hand c.args.job.task c.done-call.result c.args.job.rounds c.args.job.words task done (let fits = c.if-call-job.false in omega (arith, fits)) c.requires.calls;
      is = is;
      changes = sym c.reads.ensures ∙ c.if-reads.false;
      stored = g.met.O.ValueObject.represents _ _ (c.store.ensures.known ∙ (ap o.stores (c.apply-reply.ensures.next ∙ ap (λ s. (o.meaning s call).0) state) ∙ ap (λ l. o.stores (o.meaning (state_after o k l) call).0) (sym log)));
      replies = c.apply-reply.ensures.reply ∙ (ap (λ s. (o.meaning s call).1) state ∙ ap (λ l. (o.meaning (state_after o k l) call).1) (sym log));
    }
