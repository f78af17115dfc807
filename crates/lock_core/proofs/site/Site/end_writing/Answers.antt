use Rattle.std.proofs.Common.{◌≡◌, ℕ, length, inl, refl, sym, ap, subst, ◌∙◌, arith}
use Rattle.lock_core.specs.Stores.{IsStoredAt}
use Rattle.lock_core.specs.Layout.{lay}
use Rattle.lock_core.specs.Views.{quieted, handed}
use Rattle.lock_core.specs.SitePasses.{Quiets}
use Rattle.lock_core.specs.Types.{Hand}
use Rattle.lock_core.specs.declared.layout.TheConstants.{LOCK_WORDS}
use Rattle.lock_core.proofs.Sitting.{sits-same}
use Rattle.lock_core.proofs.SiteLaws.{heeds}
use Rattle.lock_core.proofs.Storing.{stored-site}
use Rattle.lock_core.proofs.WordSteps.{site-quiets}
use Rattle.lock_core.proofs.site.Site.end_writing.Goals as goal

pub step_stored-requires-clause-lets : goal.step_stored-requires-clause-lets
step_stored-requires-clause-lets g c = let k = c.args.self.now.table.shared.key in let R = g.R.SiteRule in let O = g.R.O.Object in let l = g.met.R.SiteRule in let h = c.args.pass.now.seat.me.0.view.hand in
    heeds O.object R.unavailable O.WORDS k R.rests (R.holds k) (R.moves k) R.word_at (l.site_kept k) (l.sites k) Quiets _ _ 0 _
    (λ s hs r at. (quieted h, refl, (refl, inl refl, (refl, inl (refl, refl))), site-quiets O.object R.unavailable O.WORDS k (lay k s) hs c.args.pass.now.seat.id h r at (sym c.requires.own.held ∙ c.requires.held) c.requires.stored, (record { misses = omega arith; freed = λ _. refl; takes = omega arith; comes = λ l. omega (arith, l) }, refl, refl)))

pub step_stored-requires-clause-there : goal.step_stored-requires-clause-there
step_stored-requires-clause-there g c = let n = length c.args.self.now.table.shared.key in subst (λ (z : ℕ). IsStoredAt n LOCK_WORDS z) (omega arith) (stored-site n 0 c.args.self.now.site_at c.args.self.now.small.tasks c.args.self.now.behind)

pub returns-clause-kept : goal.returns-clause-kept
returns-clause-kept g c = let t = c.step_stored.ensures.told in t.2.0 ∙ ap (λ (z : Hand). handed c.args.pass.now.seat.me.0.view z) t.1

pub returns-clause-on : goal.returns-clause-on
returns-clause-on g c = record {
  own = let t = c.step_stored.ensures.told in let v = c.args.pass.now.seat.me.0.view in let h : c.step_stored.new.pass.seat.me.0.view.hand ≡ quieted v.hand = ap (λ x. x.hand) t.2.0 ∙ t.1 in
      sits-same c.step_stored.ensures.own.0 t.2.1 record {
        plan = ap (λ (z : Hand). z.plan) h;
        task = ap (λ (z : Hand). z.task) h;
        held = ap (λ (z : Hand). z.held) h;
        done = ap (λ (z : Hand). z.done) h;
        seen = ap (λ (z : Hand). z.seen) h;
        stage = ap (λ (z : Hand). z.stage) h;
        log = ap (λ (z : Hand). z.log) h;
        saw = ap (λ (z : Hand). z.saw) h;
        last = ap (λ (z : Hand). z.last) h;
        writer = λ _. ap (λ (z : Hand). z.held) h ∙ (sym c.requires.own.held ∙ c.requires.held);
        nameless = λ e. let n = c.requires.own.nameless (sym (ap (λ (z : Hand). z.task) h) ∙ e) in (ap (λ (z : Hand). z.held) h ∙ n.0, ap (λ (z : Hand). z.sent) h ∙ n.1, ap (λ (z : Hand). z.consumed) h ∙ n.2);
      } (let n = ap (λ x. x.steps) t.2.0 in omega (arith, n)) c.step_stored.ensures.face c.requires.own;
  goes_on = c.step_stored.ensures.goes_on;
  last = c.step_stored.ensures.last;
}
