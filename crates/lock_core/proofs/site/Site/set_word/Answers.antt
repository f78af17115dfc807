use Rattle.std.proofs.Common.{arith, ◌≡◌, ap, sym, ◌∙◌}
use Rattle.lock_core.specs.Types.{Hand}
use Rattle.lock_core.specs.Views.{wrote}
use Rattle.lock_core.proofs.Sitting.{sits-same}
use Rattle.lock_core.proofs.WordLaws.{writes-there}
use Rattle.lock_core.proofs.site.Site.set_word.Goals as goal

pub put-requires-clause-keeps : goal.put-requires-clause-keeps
put-requires-clause-keeps g c = λ s hs r at. writes-there g.R.O.Object.object g.R.SiteRule.unavailable g.R.O.Object.WORDS c.args.self.now.table.shared.key s hs c.args.pass.now.seat.id c.args.at c.args.value c.args.pass.now.seat.me.0.view.hand g.met.R.O.Object.few_words r at (sym c.requires.own.held ∙ c.requires.held) c.requires.inside

pub returns-clause-on : goal.returns-clause-on
returns-clause-on g c = record {
  own = let h : c.put.new.pass.seat.me.0.view.hand ≡ wrote c.args.pass.now.seat.me.0.view.hand c.args.at c.args.value = ap (λ v. v.hand) c.put.ensures.kept in
      sits-same c.put.ensures.own.0 c.put.ensures.own.2 record {
        plan = ap (λ (z : Hand). z.plan) h;
        task = ap (λ (z : Hand). z.task) h;
        held = ap (λ (z : Hand). z.held) h;
        done = ap (λ (z : Hand). z.done) h;
        seen = ap (λ (z : Hand). z.seen) h;
        stage = ap (λ (z : Hand). z.stage) h;
        log = ap (λ (z : Hand). z.log) h;
        saw = ap (λ (z : Hand). z.saw) h;
        last = ap (λ (z : Hand). z.last) h;
        writer = λ _. ap (λ (z : Hand). z.held) h ∙ (sym c.requires.own.held ∙ c.requires.held);
        nameless = λ e. let n = c.requires.own.nameless (sym (ap (λ (z : Hand). z.task) h) ∙ e) in (ap (λ (z : Hand). z.held) h ∙ n.0, ap (λ (z : Hand). z.sent) h ∙ n.1, ap (λ (z : Hand). z.consumed) h ∙ n.2);
      } (let n = ap (λ v. v.steps) c.put.ensures.kept in omega (arith, n)) c.put.ensures.face c.requires.own;
  goes_on = c.put.ensures.own.3;
  last = c.put.ensures.own.4;
}
