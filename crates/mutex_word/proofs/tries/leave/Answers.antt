use Rattle.std.proofs.Common.{arith, ap, sym, subst, Option, ℕ, ◌∙◌, length}
use Rattle.lock_core.proofs.Sitting.{noted-on, sits-on, sits-released, some-number}
use Rattle.mutex_word.specs.OwnerTries.{IsMine}
use Rattle.mutex_word.specs.Types.{Face, No}
use Rattle.mutex_word.proofs.Owning.{leaves}
use Rattle.lock_core.specs.Stores.{HasWord}
use Rattle.mutex_word.proofs.tries.leave.Goals as goal

pub step-found-requires-clause-there : goal.step-found-requires-clause-there
step-found-requires-clause-there g c = subst (HasWord (length c.args.site.now.table.shared.key)) (sym c.OWNER.ensures) (g.H.OwnerHost.own_there (length c.args.site.now.table.shared.key))

pub step-found-requires-clause-lets : goal.step-found-requires-clause-lets
step-found-requires-clause-lets g c = let k = c.args.site.now.table.shared.key in let t = some-number c.args.pass.now.face.task c.requires.numbered in leaves g.H.O.Object.object g.H.SiteRule.unavailable g.H.O.Object.WORDS k (g.H.SiteRule.holds k) (g.H.SiteRule.moves k) g.H.OwnerHost.OWNER g.H.OwnerHost.may_be g.H.OwnerHost.may_own g.H.OwnerHost.may_miss g.H.OwnerHost.turned (g.met.H.SiteRule.site_kept k) (g.met.H.OwnerHost.own_kept k) (g.met.H.OwnerHost.owns k) (g.met.H.OwnerHost.own_may k) (g.met.H.OwnerHost.own_looks k) _ _ _ t.0 _ _ g.L.EndKind.turn _ c.OWNER.ensures (sym c.requires.own.task ∙ t.1) (sym c.requires.own.held ∙ c.requires.held) c.requires.quiet c.requires.own.stage c.requires.left c.requires.may

pub returns-then-found-word-clause-on : goal.returns-then-found-word-clause-on
returns-then-found-word-clause-on g c = let told = c.step-found.ensures.told.0 c.if-found-word.true in let seat = c.set_held.ensures.seat in let k = c.args.site.now.table.shared.key in
    noted-on c.step-found.new.pass (sits-released c.args.new (g.H.OwnerHost.turned g.L.EndKind.turn c.args.pass.now.seat.me.0.view) (ap (λ s. s.me.0.view) seat ∙ told.0) c.requires.quiet (ap (λ s. s.table_id) seat ∙ c.step-found.ensures.own.0) (ap (λ s. s.me.1) seat ∙ told.1) (c.set_held.ensures.face ∙ ap (λ (f : Face). record f { held = No }) c.step-found.ensures.face) c.requires.own) c.step-found.ensures.goes_on c.step-found.ensures.last c.set_held.ensures.seat

pub returns-else-found-word-clause-on : goal.returns-else-found-word-clause-on
returns-else-found-word-clause-on g c = record {
  own = let turn = (c.step-found.ensures.told.1 c.if-found-word.false).1 in sits-on c.step-found.ensures.own.0 turn.1 (ap (λ v. v.hand) turn.0) (let n = ap (λ v. v.steps) turn.0 in omega (arith, n)) c.step-found.ensures.face c.requires.own;
  goes_on = c.step-found.ensures.goes_on;
  last = c.step-found.ensures.last;
}

pub returns-else-found-word-clause-mine : goal.returns-else-found-word-clause-mine
returns-else-found-word-clause-mine g c = λ not. subst (λ (t : Option ℕ). IsMine t c.step-found.result) (sym c.requires.own.task) (c.step-found.ensures.told.1 not).0
