use Rattle.std.proofs.Common.{◌+◌, refl, sym, ap, ◌∙◌, subst, arith, rules}
use Rattle.lock_core.specs.Spins.{word_at}
use Rattle.lock_core.specs.LockHands.{lock_hand_at, depth_of}
use Rattle.lock_core.specs.SiteHandles.{view_of}
use Rattle.qspin_word.specs.Ways.{LockGained}
use Rattle.qspin_word.proofs.Noting.{same-past}
use Rattle.qspin_word.proofs.Going.{takes-told}
use Rattle.qspin_queue.specs.SpinQueueHandles.{QueuesBehind}
use Rattle.qspin_queue.proofs.Entering.{fast-takes, fast-depth, fast-took, fast-from}
use Rattle.qspin_queue.proofs.Contending.{slow-past, slow-gained, slow-told, slow-depth, slow-took, slow-first, slow-from, slow-asked, slow-turn, slow-rival}
use Rattle.qspin_queue.proofs.queue.lock_with.Goals as goal

pub returns-then-seen-eq0-clause-on : goal.returns-then-seen-eq0-clause-on
returns-then-seen-eq0-clause-on g c = record { own = search rules; goes_on = λ p t. same-past c.exchange_free-seen.new.pass c.note.new.pass c.note.ensures.same p (c.exchange_free-seen.ensures.steps.goes_on p t); last = search rules }

pub returns-then-seen-eq0-clause-told : goal.returns-then-seen-eq0-clause-told
returns-then-seen-eq0-clause-told g c = λ many told. takes-told c.args.lock c.args.pass.now c.exchange_free-seen.new.pass c.note.new.pass c.exchange_free-seen.result c.requires.out c.args.site.now c.exchange_free-seen.ensures.steps (c.note.ensures.noted many) c.if-seen-eq0.true told

pub returns-then-seen-eq0-clause-gained : goal.returns-then-seen-eq0-clause-gained
returns-then-seen-eq0-clause-gained g c = subst (LockGained c.args.lock g.I.Interrupt.silent (view_of c.args.pass.now)) (sym (ap (λ s. s.me.0.view) c.note.ensures.same.seat)) (fast-takes c.args.site.now c.args.lock g.I.Interrupt.silent c.args.pass.now c.exchange_free-seen.new.pass c.requires.out c.exchange_free-seen.result c.exchange_free-seen.ensures.steps c.if-seen-eq0.true).gained

pub returns-then-seen-eq0-clause-nodes : goal.returns-then-seen-eq0-clause-nodes
returns-then-seen-eq0-clause-nodes g c = ap (λ s. depth_of s.me.0.view.spin) c.note.ensures.same.seat ∙ fast-depth c.args.site.now c.args.lock g.I.Interrupt.silent c.args.pass.now c.exchange_free-seen.new.pass c.requires.out c.exchange_free-seen.result c.exchange_free-seen.ensures.steps c.if-seen-eq0.true

pub returns-then-seen-eq0-clause-fast : goal.returns-then-seen-eq0-clause-fast
returns-then-seen-eq0-clause-fast g c = (λ _. ap (λ s. (lock_hand_at c.args.lock s.me.0.view.spin).took) c.note.ensures.same.seat ∙ fast-took c.args.site.now c.args.lock g.I.Interrupt.silent c.args.pass.now c.exchange_free-seen.new.pass c.requires.out c.exchange_free-seen.result c.exchange_free-seen.ensures.steps c.if-seen-eq0.true, λ _. refl)

pub returns-then-seen-eq0-clause-pending : goal.returns-then-seen-eq0-clause-pending
returns-then-seen-eq0-clause-pending g c = (λ e. absurd cc, λ e. absurd (fast-from c.args.site.now c.args.lock g.I.Interrupt.silent c.args.pass.now c.exchange_free-seen.new.pass c.requires.out c.exchange_free-seen.result c.exchange_free-seen.ensures.steps c.if-seen-eq0.true (sym (ap (λ s. (lock_hand_at c.args.lock s.me.0.view.spin).from) c.note.ensures.same.seat) ∙ e)))

pub returns-clause-on : goal.returns-clause-on
returns-clause-on g c = record {
  own = search rules;
  goes_on = slow-past c.args.site.now c.args.lock g.I.Interrupt.silent c.args.pass.now c.exchange_free-seen.new.pass c.begin_notes.new.pass c.contend-way.new.pass c.note_lock.new.self c.exchange_free-seen.result c.exchange_free-seen.ensures.steps c.if-seen-eq0.false c.begin_notes.ensures.same c.note_lock.ensures c.contend-way.ensures.on.goes_on;
  last = search rules;
}

pub returns-clause-told : goal.returns-clause-told
returns-clause-told g c = λ _ told. slow-told c.args.site.now c.args.lock g.I.Interrupt.silent c.args.pass.now c.exchange_free-seen.new.pass c.begin_notes.new.pass c.contend-way.new.pass c.note_lock.new.self c.exchange_free-seen.result c.exchange_free-seen.ensures.steps c.if-seen-eq0.false c.begin_notes.ensures.same c.note_lock.ensures c.contend-way.ensures.gained c.contend-way.ensures.flags c.contend-way.ensures.nodes c.begin_notes.ensures.told

pub returns-clause-gained : goal.returns-clause-gained
returns-clause-gained g c = slow-gained c.args.site.now c.args.lock g.I.Interrupt.silent c.args.pass.now c.exchange_free-seen.new.pass c.begin_notes.new.pass c.contend-way.new.pass c.note_lock.new.self c.exchange_free-seen.result c.exchange_free-seen.ensures.steps c.if-seen-eq0.false c.begin_notes.ensures.same c.note_lock.ensures c.contend-way.ensures.gained

pub returns-clause-nodes : goal.returns-clause-nodes
returns-clause-nodes g c = slow-depth c.args.site.now c.args.lock g.I.Interrupt.silent c.args.pass.now c.exchange_free-seen.new.pass c.begin_notes.new.pass c.contend-way.new.pass c.note_lock.new.self c.exchange_free-seen.result c.exchange_free-seen.ensures.steps c.if-seen-eq0.false c.begin_notes.ensures.same c.note_lock.ensures c.contend-way.ensures.gained c.contend-way.ensures.nodes

pub returns-clause-fast : goal.returns-clause-fast
returns-clause-fast g c = (λ e. absurd (c.contend-way.ensures.slow e), λ e. absurd (slow-took c.args.site.now c.args.lock g.I.Interrupt.silent c.args.pass.now c.exchange_free-seen.new.pass c.begin_notes.new.pass c.contend-way.new.pass c.note_lock.new.self c.exchange_free-seen.result c.exchange_free-seen.ensures.steps c.if-seen-eq0.false c.begin_notes.ensures.same c.note_lock.ensures c.contend-way.ensures.gained e))

pub returns-clause-pending : goal.returns-clause-pending
returns-clause-pending g c = let p = c.contend-way.ensures.pending in (λ e. slow-from c.args.site.now c.args.lock g.I.Interrupt.silent c.args.pass.now c.exchange_free-seen.new.pass c.begin_notes.new.pass c.contend-way.new.pass c.note_lock.new.self c.exchange_free-seen.result c.exchange_free-seen.ensures.steps c.if-seen-eq0.false c.begin_notes.ensures.same c.note_lock.ensures ∙ p.0 e, λ e. p.1 (sym (slow-from c.args.site.now c.args.lock g.I.Interrupt.silent c.args.pass.now c.exchange_free-seen.new.pass c.begin_notes.new.pass c.contend-way.new.pass c.note_lock.new.self c.exchange_free-seen.result c.exchange_free-seen.ensures.steps c.if-seen-eq0.false c.begin_notes.ensures.same c.note_lock.ensures) ∙ e))

pub returns-clause-asked : goal.returns-clause-asked
returns-clause-asked g c = λ e. slow-asked c.args.site.now c.args.lock g.I.Interrupt.silent c.args.pass.now c.exchange_free-seen.new.pass c.begin_notes.new.pass c.contend-way.new.pass c.note_lock.new.self c.exchange_free-seen.result c.exchange_free-seen.ensures.steps c.if-seen-eq0.false c.begin_notes.ensures.same c.note_lock.ensures (g.H.SpinHost.FIRST + word_at c.args.lock) (c.contend-way.ensures.asked e)

pub returns-clause-in_turn : goal.returns-clause-in_turn
returns-clause-in_turn g c = λ e. slow-turn c.args.site.now c.args.lock g.I.Interrupt.silent c.args.pass.now c.exchange_free-seen.new.pass c.begin_notes.new.pass c.contend-way.new.pass c.note_lock.new.self c.exchange_free-seen.result c.exchange_free-seen.ensures.steps c.if-seen-eq0.false c.begin_notes.ensures.same c.note_lock.ensures (c.contend-way.ensures.in_turn e)

pub returns-clause-queued : goal.returns-clause-queued
returns-clause-queued g c = λ e. let at = g.H.SpinHost.FIRST + word_at c.args.lock in elim (native.Mathlib.Decide.dec_le 256 c.exchange_free-seen.result) as (λ _. QueuesBehind c.args.lock g.I.Interrupt.silent at c.args.pass.now c.note_lock.new.self) [
  | yes high ↦ slow-first c.args.site.now c.args.lock g.I.Interrupt.silent c.args.pass.now c.exchange_free-seen.new.pass c.begin_notes.new.pass c.contend-way.new.pass c.note_lock.new.self c.exchange_free-seen.result c.exchange_free-seen.ensures.steps c.if-seen-eq0.false c.begin_notes.ensures.same c.note_lock.ensures c.contend-way.ensures.gained at c.requires.out c.exchange_free-seen.ensures.found c.contend-way.ensures.on.goes_on high (c.contend-way.ensures.saw e high) (c.contend-way.ensures.at_once e high)
  | no low ↦ slow-rival c.args.site.now c.args.lock g.I.Interrupt.silent c.args.pass.now c.exchange_free-seen.new.pass c.begin_notes.new.pass c.contend-way.new.pass c.note_lock.new.self c.exchange_free-seen.result c.exchange_free-seen.ensures.steps c.if-seen-eq0.false c.begin_notes.ensures.same c.note_lock.ensures at (c.contend-way.ensures.rival e (omega (arith, low)))
]
