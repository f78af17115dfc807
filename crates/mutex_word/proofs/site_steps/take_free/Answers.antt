use Rattle.std.proofs.Common.{false, subst, sym, ap, refl, ◌∙◌, IsSome, length}
use Rattle.mutex_word.specs.Types.{Alone, Face, Take}
use Rattle.lock_core.proofs.HandLaws.{not-both}
use Rattle.mutex_word.proofs.Owning.{takes}
use Rattle.mutex_word.proofs.Sitting.{its-number, sits-missed}
use Rattle.lock_core.specs.Stores.{HasWord}
use Rattle.lock_core.proofs.Sitting.{noted-on, sits-took}
use Rattle.mutex_word.proofs.site_steps.take_free.Goals as goal

pub own_code-code-requires : goal.own_code-code-requires
own_code-code-requires g c = its-number c.args.site.now.small c.requires.own

pub step-found-requires-clause-there : goal.step-found-requires-clause-there
step-found-requires-clause-there g c = subst (HasWord (length c.args.site.now.table.shared.key)) (sym c.OWNER.ensures) (g.H.OwnerHost.own_there (length c.args.site.now.table.shared.key))

pub step-found-requires-clause-lets : goal.step-found-requires-clause-lets
step-found-requires-clause-lets g c = let k = c.args.site.now.table.shared.key in
    takes g.H.O.Object.object g.H.SiteRule.unavailable g.H.O.Object.WORDS k (g.H.SiteRule.holds k) (g.H.SiteRule.moves k) g.H.OwnerHost.OWNER g.H.OwnerHost.may_be g.H.OwnerHost.may_own g.H.OwnerHost.may_miss g.H.OwnerHost.turned (g.met.H.SiteRule.site_kept k) (g.met.H.OwnerHost.own_kept k) (g.met.H.OwnerHost.owns k) (g.met.H.OwnerHost.own_may k) (g.met.H.OwnerHost.own_looks k)
    _ _ _ _ c.args.pass.now.face.task _ c.OWNER.ensures c.own_code-code.ensures c.requires.own.task (λ none. not-both false refl (subst IsSome none c.requires.numbered)) (sym c.requires.own.held ∙ c.requires.out) c.requires.may c.requires.misses

pub returns-then-found-ne0-clause-on : goal.returns-then-found-ne0-clause-on
returns-then-found-ne0-clause-on g c = record {
  own = let told = c.step-found.ensures.told.1 c.if-found-ne0.true in
      sits-missed c.step-found.result
      c.step-found.ensures.own.0 told.2.1 told.2.0 told.0 c.step-found.ensures.face c.requires.own;
  goes_on = c.step-found.ensures.goes_on;
  last = c.step-found.ensures.last;
}

pub returns-clause-on : goal.returns-clause-on
returns-clause-on g c = let k = c.args.site.now.table.shared.key in let told = c.step-found.ensures.told.0 c.if-found-ne0.false in let seat = c.set_held.ensures.seat in noted-on c.step-found.new.pass (sits-took Alone told.0 told.1
    (g.H.OwnerHost.turned Take c.args.pass.now.seat.me.0.view) (ap (λ s. s.me.0.view) seat ∙ told.3.0) ((told.2 k c.requires.own.plan).within) c.requires.out c.requires.numbered (ap (λ s. s.table_id) seat ∙ c.step-found.ensures.own.0) (ap (λ s. s.me.1) seat ∙ told.3.1) (c.set_held.ensures.face ∙ ap (λ (f : Face). record f { held = Alone }) c.step-found.ensures.face) c.requires.own) c.step-found.ensures.goes_on c.step-found.ensures.last c.set_held.ensures.seat
