use Rattle.std.proofs.Common.{◌≡◌, ◌+◌, ◌*◌, ℕ, refl, sym, ap, ◌∙◌, subst, arith}
use Rattle.lock_core.specs.Views.{handed, hearing}
use Rattle.lock_core.specs.SiteHandles.{SawSignals}
use Rattle.lock_core.specs.Laws.SiteRun.{found-at-step}
use Rattle.lock_core.specs.Types.{Hand, View}
use Rattle.lock_core.proofs.Sitting.{SameFace, sits-same}
use Rattle.lock_core.proofs.HandLaws.{same-number}
use Rattle.lock_core.proofs.Hearing.{hears-both}
use Rattle.lock_core.proofs.SignalWords.{taken-found}
use Rattle.lock_core.proofs.site.Site.pending.Goals as goal
use Rattle.lock_core.specs.declared.layout.TheConstants.{LINES_AT}

pub load_sent-sent-requires-clause-there : goal.load_sent-sent-requires-clause-there
load_sent-sent-requires-clause-there g c = let few = c.args.self.now.small.tasks in let p = (c.requires.own.planned c.in-Some.task c.in-Some.is).0 in omega (arith, few, p)

pub find-taken-requires-clause-inside : goal.find-taken-requires-clause-inside
find-taken-requires-clause-inside g c = let few = c.args.self.now.small.tasks in let p = (c.requires.own.planned c.in-Some.task c.in-Some.is).0 in omega (arith, few, p)

pub find-taken-requires-clause-told : goal.find-taken-requires-clause-told
find-taken-requires-clause-told g c = λ s hs r at. taken-found g.R.O.Object.object g.R.SiteRule.unavailable g.R.O.Object.WORDS c.args.self.now.table.shared.key s hs c.load_sent-sent.new.pass.seat.id (LINES_AT + (8 * c.in-Some.task + 2)) c.load_sent-sent.new.pass.seat.me.0.view.hand r at

pub returns-then-sent-taken-clause-on : goal.returns-then-sent-taken-clause-on
returns-then-sent-taken-clause-on g c = record {
  own = let heard = c.load_sent-sent.ensures.heard in let own = c.requires.own in let old = c.args.pass.now.seat.me.0.view.hand in
      let now : c.find-taken.new.pass.seat.me.0.view.hand ≡ hearing old heard.1.0 = ap (λ v. v.hand) c.find-taken.ensures.kept ∙ (ap (λ v. v.hand) heard.2 ∙ heard.1.2) in
      let later = ap (λ v. v.steps) c.find-taken.ensures.kept ∙ ap (λ v. v.steps + 1) heard.2 in
      sits-same (c.find-taken.ensures.own.0 ∙ c.load_sent-sent.ensures.own.0) (c.find-taken.ensures.own.2 ∙ c.load_sent-sent.ensures.own.2)
      (subst (SameFace old) (sym now) record { plan = refl; task = refl; held = refl; done = refl; seen = refl; stage = refl; log = refl; saw = refl; last = refl; writer = own.writer; nameless = own.nameless })
      (omega (arith, later)) (c.find-taken.ensures.face ∙ c.load_sent-sent.ensures.face) own;
  goes_on = λ p t. c.find-taken.ensures.own.3 p (c.load_sent-sent.ensures.own.3 p t);
  last = c.find-taken.ensures.own.4;
}

pub returns-clause-on : goal.returns-clause-on
returns-clause-on g c = record {
  own = let heard = c.load_sent-sent.ensures.heard in let own = c.requires.own in let old = c.args.pass.now.seat.me.0.view.hand in
      let now : c.find-taken.new.pass.seat.me.0.view.hand ≡ hearing old heard.1.0 = ap (λ v. v.hand) c.find-taken.ensures.kept ∙ (ap (λ v. v.hand) heard.2 ∙ heard.1.2) in
      let later = ap (λ v. v.steps) c.find-taken.ensures.kept ∙ ap (λ v. v.steps + 1) heard.2 in
      sits-same (c.find-taken.ensures.own.0 ∙ c.load_sent-sent.ensures.own.0) (c.find-taken.ensures.own.2 ∙ c.load_sent-sent.ensures.own.2)
      (subst (SameFace old) (sym now) record { plan = refl; task = refl; held = refl; done = refl; seen = refl; stage = refl; log = refl; saw = refl; last = refl; writer = own.writer; nameless = own.nameless })
      (omega (arith, later)) (c.find-taken.ensures.face ∙ c.load_sent-sent.ensures.face) own;
  goes_on = λ p t. c.find-taken.ensures.own.3 p (c.load_sent-sent.ensures.own.3 p t);
  last = c.find-taken.ensures.own.4;
}

pub returns-clause-heard : goal.returns-clause-heard
returns-clause-heard g c = let heard = c.load_sent-sent.ensures.heard in let v = c.args.pass.now.seat.me.0.view in
    let here : c.load_sent-sent.new.pass.seat.me.0.view ≡ handed v (hearing v.hand heard.1.0) = heard.2 ∙ ap (handed v) heard.1.2 in
    let taken : c.find-taken.result ≡ heard.1.0.taken = c.find-taken.ensures.told heard.1.0 c.in-Some.task (ap (λ (u : View _). u.hand.heard) here) (ap (λ (u : View _). u.hand.task) here ∙ (sym c.requires.own.task ∙ c.in-Some.is)) refl in
    let more = c.if-sent-taken.false in record {
      pending = omega (arith, more);
      now = hears-both v c.load_sent-sent.new.pass.seat.me.0.view c.find-taken.new.pass.seat.me.0.view c.load_sent-sent.result c.find-taken.result heard.1.0 heard.1.1 taken here c.find-taken.ensures.kept;
    }

pub returns-clause-saw : goal.returns-clause-saw
returns-clause-saw g c = λ t is. let same = same-number c.in-Some.task t (sym c.in-Some.is ∙ is) in let v = c.args.pass.now.seat.me.0.view in let heard = c.load_sent-sent.ensures.heard in let old = c.args.pass.now.seat.me.0.past in
    let first = c.load_sent-sent.new.pass.seat.me.0 in let next = c.find-taken.new.pass.seat.me.0 in
    let named : first.view.hand.task ≡ v.hand.task = ap (λ (u : View _). u.hand.task) heard.2 ∙ ap (λ (h : Hand). h.task) heard.1.2 in
    let one : first.view.steps ≡ v.steps + 1 = ap (λ (u : View _). u.steps) heard.2 in
    let more : next.view.steps ≡ first.view.steps + 1 = ap (λ (u : View _). u.steps) c.find-taken.ensures.kept in
    subst (λ (t : ℕ). SawSignals t record { sent = c.load_sent-sent.result; taken = c.find-taken.result } c.args.pass.now c.find-taken.new.pass) same record {
      sent = (
        first.view.steps,
        omega (arith, one),
        omega (arith, more),
        found-at-step first.view v.hand.task _ _ old first.past next.past named c.load_sent-sent.ensures.own.4 c.load_sent-sent.ensures.found c.load_sent-sent.ensures.own.3 c.find-taken.ensures.own.3,
      );
      taken = (
        next.view.steps,
        omega (arith, one, more),
        omega arith,
        found-at-step next.view v.hand.task _ _ old next.past next.past (ap (λ (u : View _). u.hand.task) c.find-taken.ensures.kept ∙ named) c.find-taken.ensures.own.4 c.find-taken.ensures.found (λ p q. c.find-taken.ensures.own.3 p (c.load_sent-sent.ensures.own.3 p q)) (λ p q. q),
      );
    }

pub returns-then-sent-taken-clause-none : goal.returns-then-sent-taken-clause-none
returns-then-sent-taken-clause-none g c = let heard = c.load_sent-sent.ensures.heard in let v = c.args.pass.now.seat.me.0.view in
    let here : c.load_sent-sent.new.pass.seat.me.0.view ≡ handed v (hearing v.hand heard.1.0) = heard.2 ∙ ap (handed v) heard.1.2 in
    let taken : c.find-taken.result ≡ heard.1.0.taken = c.find-taken.ensures.told heard.1.0 c.in-Some.task (ap (λ (u : View _). u.hand.heard) here) (ap (λ (u : View _). u.hand.task) here ∙ (sym c.requires.own.task ∙ c.in-Some.is)) refl in
    let none = c.if-sent-taken.true in (
      record { sent = c.load_sent-sent.result; taken = c.find-taken.result },
      record {
        none_pending = none;
        now = hears-both v c.load_sent-sent.new.pass.seat.me.0.view c.find-taken.new.pass.seat.me.0.view c.load_sent-sent.result c.find-taken.result heard.1.0 heard.1.1 taken here c.find-taken.ensures.kept;
      },
      λ t is. let same = same-number c.in-Some.task t (sym c.in-Some.is ∙ is) in let old = c.args.pass.now.seat.me.0.past in let first = c.load_sent-sent.new.pass.seat.me.0 in let next = c.find-taken.new.pass.seat.me.0 in
          let named : first.view.hand.task ≡ v.hand.task = ap (λ (u : View _). u.hand.task) heard.2 ∙ ap (λ (h : Hand). h.task) heard.1.2 in
          let one : first.view.steps ≡ v.steps + 1 = ap (λ (u : View _). u.steps) heard.2 in
          let more : next.view.steps ≡ first.view.steps + 1 = ap (λ (u : View _). u.steps) c.find-taken.ensures.kept in
          subst (λ (t : ℕ). SawSignals t record { sent = c.load_sent-sent.result; taken = c.find-taken.result } c.args.pass.now c.find-taken.new.pass) same record {
            sent = (
              first.view.steps,
              omega (arith, one),
              omega (arith, more),
              found-at-step first.view v.hand.task _ _ old first.past next.past named c.load_sent-sent.ensures.own.4 c.load_sent-sent.ensures.found c.load_sent-sent.ensures.own.3 c.find-taken.ensures.own.3,
            );
            taken = (
              next.view.steps,
              omega (arith, one, more),
              omega arith,
              found-at-step next.view v.hand.task _ _ old next.past next.past (ap (λ (u : View _). u.hand.task) c.find-taken.ensures.kept ∙ named) c.find-taken.ensures.own.4 c.find-taken.ensures.found (λ p q. c.find-taken.ensures.own.3 p (c.load_sent-sent.ensures.own.3 p q)) (λ p q. q),
            );
          },
    )
