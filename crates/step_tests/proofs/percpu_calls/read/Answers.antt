use Rattle.std.proofs.Common.{arith, ◌∙◌, length, ap, sym}
use Rattle.word_bits.specs.Histories.{state_after}
use Rattle.word_bits.proofs.States.{IsLawful, state_is_state}
use Rattle.percpu_rwsem.specs.Laws.Phase.{no-shared}
use Rattle.step_tests.proofs.PercpuCalls.{loaded, may-note, next-call}
use Rattle.step_tests.proofs.percpu_calls.read.Given as given
use Rattle.step_tests.proofs.percpu_calls.read.Goals as goal

lawful : (g : given.Over) → IsLawful g.O.Object.object
lawful g = record {
  starts = g.met.O.Object.starts;
  called = g.met.O.Object.called;
  goes_on = g.met.O.Object.goes_on;
  replies = g.met.O.Object.replies;
}

pub load-requires-clause-sized : goal.load-requires-clause-sized
load-requires-clause-sized g c = let o = g.O.Object.object in let h = c.args.pass.now.pass.seat.me.0.view.hand in let k = c.args.lock.now.site.table.shared.key in
    ap length (g.met.O.ValueObject.exact (state_after o k h.log) h.known c.requires.knows) ∙ g.met.O.ValueObject.sized (state_after o k h.log) (state_is_state o (lawful g) k h.log)

pub load-requires-clause-held : goal.load-requires-clause-held
load-requires-clause-held g c = λ out. no-shared (sym out ∙ c.requires.at.holds)

pub note-requires-clause-may : goal.note-requires-clause-may
note-requires-clause-may g c = let o = g.O.Object.object in let k = c.args.lock.now.site.table.shared.key in let h = c.args.pass.now.pass.seat.me.0.view.hand in let own = c.requires.at.own.seat in
    let is = sym c.call_of.ensures ∙ c.in_ok-known.was in
    let call = c.in_ok-known.known in
    let found = c.in_ok-value.ensures in
    let state = loaded o (lawful g) g.met.O.ValueObject.apart g.met.O.ValueObject.exact k h (g.O.Object.state c.in_ok-value.value) c.requires.knows found.state found.found in
    rw c.load.ensures.hand (may-note o _ k h _ c.apply-reply.result
    (rw c.apply-reply.ensures.reply (g.met.O.Object.replies (g.O.Object.state c.in_ok-value.value) call found.state (g.met.O.Object.called c.args.job.words call is)))
    (record {
      words = c.args.job.words;
      call = call;
      planned = next-call k h c.args.job.task c.done-call.result c.args.job.rounds c.args.job.words (sym own.task ∙ c.requires.at.mine) (sym c.done-call.ensures) (let fits = c.if-call-job.false in omega (arith, fits)) c.requires.calls;
      is = is;
      reads = sym c.reads.ensures ∙ c.if-not-reads.false;
      held = λ out. no-shared (sym out ∙ (sym own.held ∙ c.requires.at.holds));
      stored = c.requires.knows;
      replies = c.apply-reply.ensures.reply ∙ ap (λ s. (o.meaning s call).1) state;
    }))
