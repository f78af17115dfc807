use Rattle.std.proofs.Common.{◌≡◌, ◌+◌, ◌*◌, refl, sym, ap, ◌∙◌, inl, subst, arith}
use Rattle.lock_core.specs.Views.{consuming}
use Rattle.lock_core.proofs.Sitting.{SameFace, sits-same}
use Rattle.lock_core.proofs.RowLaws.{none-some}
use Rattle.lock_core.proofs.SignalWords.{consumes-there}
use Rattle.lock_core.proofs.site.Site.consume_pending.Goals as goal
use Rattle.lock_core.specs.declared.layout.TheConstants.{LINES_AT}

pub put-requires-clause-inside : goal.put-requires-clause-inside
put-requires-clause-inside g c = let few = c.args.self.now.small.tasks in let p = (c.requires.own.planned c.in-Some.task c.in-Some.is).0 in omega (arith, few, p)

pub put-requires-clause-holds : goal.put-requires-clause-holds
put-requires-clause-holds g c = (refl, inl refl, (refl, inl (refl, refl)))

pub put-requires-clause-keeps : goal.put-requires-clause-keeps
put-requires-clause-keeps g c = λ s hs r at. let few = c.args.self.now.small.tasks in let l = (c.requires.own.planned c.in-Some.task c.in-Some.is).0 in let why = c.args.why in
    consumes-there g.R.O.Object.object g.R.SiteRule.unavailable g.R.O.Object.WORDS c.args.self.now.table.shared.key s hs c.args.pass.now.seat.id c.in-Some.task (LINES_AT + (8 * c.in-Some.task + 2)) why.taken c.args.pass.now.seat.me.0.view.hand (record { sent = why.sent; taken = why.taken })
    (sym c.requires.own.task ∙ c.in-Some.is) (omega (arith, few, l)) (omega arith) c.requires.heard.heard c.requires.heard.pending refl r at

pub returns-clause-on : goal.returns-clause-on
returns-clause-on g c = record {
  own = let own = c.requires.own in let old = c.args.pass.now.seat.me.0.view.hand in
      let now : c.put.new.pass.seat.me.0.view.hand ≡ consuming old = ap (λ v. v.hand) c.put.ensures.kept in
      let later = ap (λ v. v.steps) c.put.ensures.kept in
      sits-same c.put.ensures.own.0 c.put.ensures.own.2
      (subst (SameFace old) (sym now) record { plan = refl; task = refl; held = refl; done = refl; seen = refl; stage = refl; log = refl; saw = refl; last = refl; writer = own.writer; nameless = λ e. none-some c.in-Some.task (sym e ∙ (sym own.task ∙ c.in-Some.is)) })
      (omega (arith, later)) c.put.ensures.face own;
  goes_on = c.put.ensures.own.3;
  last = c.put.ensures.own.4;
}
