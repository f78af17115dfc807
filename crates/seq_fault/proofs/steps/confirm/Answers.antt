use Rattle.std.proofs.Common.{ℕ, ◌∙◌, arith, ap, subst, sym, length}
use Rattle.lock_core.proofs.Sitting.{noted-on, sits-on}
use Rattle.lock_core.specs.Pasts.{FoundAt}
use Rattle.seq_fault.specs.SeqRuled.{V, seq_at}
use Rattle.seq_fault.specs.Types.{Face, Off}
use Rattle.seq_fault.proofs.Sitting.{sits-saw}
use Rattle.seq_fault.proofs.Having.{has-sequence}
use Rattle.seq_fault.proofs.Stepping.{confirms}
use Rattle.seq_fault.proofs.steps.confirm.Goals as goal

pub step-after-requires-clause-there : goal.step-after-requires-clause-there
step-after-requires-clause-there g c = has-sequence (length c.args.site.now.table.shared.key) c.args.site.now.small.tasks

pub step-after-requires-clause-lets : goal.step-after-requires-clause-lets
step-after-requires-clause-lets g c = confirms g.O.Object.object g.O.Object.WORDS c.args.site.now.table.shared.key _ _ _ c.requires.watching.0 c.requires.watching.1

pub returns-then-after-before-clause-on : goal.returns-then-after-before-clause-on
returns-then-after-before-clause-on g c = record {
  own = let at = c.requires.watching.1 in let m = c.requires.measured c.requires.watching.0 at in let told = c.step-after.ensures.told c.requires.watching.0 at in let turn = told.1 (λ e. c.if-after-before.true (e ∙ m.0)) in sits-on c.step-after.ensures.own.0 turn.1 (ap (λ v. v.hand) turn.0) (let n = ap (λ v. v.steps) turn.0 in omega (arith, n)) c.step-after.ensures.face c.requires.own;
  goes_on = c.step-after.ensures.goes_on;
  last = c.step-after.ensures.last;
}

pub returns-then-after-before-clause-kept : goal.returns-then-after-before-clause-kept
returns-then-after-before-clause-kept g c = let at = c.requires.watching.1 in let m = c.requires.measured c.requires.watching.0 at in let told = c.step-after.ensures.told c.requires.watching.0 at in (told.1 (λ e. c.if-after-before.true (e ∙ m.0))).0

pub set_front-requires : goal.set_front-requires
set_front-requires g c = let at = c.requires.watching.1 in let m = c.requires.measured c.requires.watching.0 at in let told = c.step-after.ensures.told c.requires.watching.0 at in let same = told.0 (c.if-after-before.false ∙ sym m.0) in ap (λ (v : V). length v.hand.seen) same.2.0 ∙ m.1 same.0

pub returns-clause-on : goal.returns-clause-on
returns-clause-on g c = let at = c.requires.watching.1 in let m = c.requires.measured c.requires.watching.0 at in let told = c.step-after.ensures.told c.requires.watching.0 at in let same = told.0 (c.if-after-before.false ∙ sym m.0) in let seat = c.set_front.ensures.seat in noted-on c.step-after.new.pass (sits-saw c.requires.watching.0 Off c.args.front (ap (λ s. s.me.0.view) seat ∙ same.2.0) (same.1 c.args.site.now.table.shared.key c.requires.own.plan) (m.1 same.0) (ap (λ s. s.table_id) seat ∙ c.step-after.ensures.own.0) (ap (λ s. s.me.1) seat ∙ same.2.1) (c.set_front.ensures.face ∙ ap (λ (f : Face). record f { front = c.args.front }) c.step-after.ensures.face) c.requires.own) c.step-after.ensures.goes_on c.step-after.ensures.last c.set_front.ensures.seat

pub returns-clause-same : goal.returns-clause-same
returns-clause-same g c = λ h at. let m = c.requires.measured h at in let same = c.step-after.ensures.told h at in let x = same.0 (c.if-after-before.false ∙ sym m.0) in (x.0, ap (λ s. s.me.0.view) c.set_front.ensures.seat ∙ x.2.0)

pub returns-clause-again : goal.returns-clause-again
returns-clause-again g c = subst (λ s. FoundAt seq_at c.args.before s.me.0.past) (sym c.set_front.ensures.seat) (subst (λ (n : ℕ). FoundAt seq_at n c.step-after.new.pass.seat.me.0.past) c.if-after-before.false c.step-after.ensures.found)
