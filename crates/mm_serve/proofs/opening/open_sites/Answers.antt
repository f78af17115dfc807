use Rattle.std.proofs.Common.{◌≡◌, ◌∙◌, ◌+◌, ◌++◌, ◌∷◌, ℕ, [], List, ap, arith, length, length-append, rules, subst, sym}
use Rattle.std.specs.Prelude.{slice_get}
use Rattle.task_script.specs.Scripts.{kinds_of}
use Rattle.mm_serve.specs.Workers.{EachOf}
use Rattle.mm_serve.proofs.Opens.{OpenedTo, all-opened, each-more, next-plan, one-less, opened-more, plan-for}
use Rattle.mm_serve.proofs.opening.open_sites.Goals as goal

pub open-requires : goal.open-requires
open-requires g c =
    let script = c.args.script.now in
    let inv = c.loop-plan.invariant in
    let yielded = c.loop-plan.yielded in
    let next = next-plan script c.args.plans.items yielded c.loop-plan.plan-iterator.rest.items c.next.new.self.rest.items c.in-Some.plan c.requires inv.4 c.in-Some.ensures.steps.0 in
    let n : c.len-object.result ≡ length c.loop-plan.sites.items = search rules in
    plan-for script (length yielded) c.is_space.result c.in-Some.plan c.objects.ensures.sound next.1 (ap (slice_get (kinds_of script)) (sym inv.2.many ∙ sym n) ∙ c.is_space.ensures) next.0

pub loop-plan-preserved : goal.loop-plan-preserved
loop-plan-preserved g c =
    let script = c.args.script.now in
    let inv = c.loop-plan.invariant in
    let yielded = c.loop-plan.yielded in
    let plan = c.in-Some.plan in
    let sites = c.loop-plan.sites.items in
    let passes = c.loop-plan.passes.items in
    let next = next-plan script c.args.plans.items yielded c.loop-plan.plan-iterator.rest.items c.next.new.self.rest.items plan c.requires inv.4 c.in-Some.ensures.steps.0 in
    let n : c.len-object.result ≡ length sites = search rules in
    let kind = ap (slice_get (kinds_of script)) (sym inv.2.many ∙ sym n) ∙ c.is_space.ensures in
    let opened = opened-more g.S.SharedObject.is_space g.S.SharedObject.calls_on script (length yielded) sites c.in_ok-site.site c.is_space.result inv.2 (c.in_ok-site.ensures.plan ∙ next.0) kind c.in_ok-site.ensures.kind in
    let each = each-more (λ k s p. g.S.SharedObject.idle s p × ((g.S.SharedObject.hand p).seen ≡ [])) sites passes c.in_ok-site.site c.in_ok-site.pass inv.3 (c.in_ok-site.ensures.own, c.in_ok-site.ensures.unseen) in
    let many : length yielded + 1 ≡ length (yielded ++ plan ∷ []) = let long = length-append yielded (plan ∷ []) in omega (arith, long) in (
      tt,
      tt,
      subst (λ (ss : List g.row.S.Denot). OpenedTo g.S.SharedObject.is_space g.S.SharedObject.calls_on script (length (yielded ++ plan ∷ [])) ss) (sym c.in_ok-push.ensures.items)
          (subst (λ (m : ℕ). OpenedTo g.S.SharedObject.is_space g.S.SharedObject.calls_on script m (sites ++ c.in_ok-site.site ∷ [])) many opened),
      subst (λ (ps : List g.row.S-Pass.Denot). EachOf (λ k s p. g.S.SharedObject.idle s p × ((g.S.SharedObject.hand p).seen ≡ [])) c.push.new.self.items ps) (sym c.in_ok-push-2.ensures.items)
          (subst (λ (ss : List g.row.S.Denot). EachOf (λ k s p. g.S.SharedObject.idle s p × ((g.S.SharedObject.hand p).seen ≡ [])) ss (passes ++ c.in_ok-site.pass ∷ [])) (sym c.in_ok-push.ensures.items) each),
      one-less c.args.plans.items yielded c.loop-plan.plan-iterator.rest.items c.next.new.self.rest.items plan inv.4 c.in-Some.ensures.steps.0,
    )

pub returns-clause-sites : goal.returns-clause-sites
returns-clause-sites g c =
    let inv = c.loop-plan.invariant in
    let yielded = c.loop-plan.yielded in
    let rest = c.loop-plan.plan-iterator.rest.items in
    let none : ◌≡◌ {A = ℕ} (length rest) 0 = search rules in
    let whole = sym (length-append yielded rest) ∙ ap length inv.4 in
    let many = c.requires.0 in
    all-opened g.S.SharedObject.is_space g.S.SharedObject.calls_on c.args.script.now (length yielded) c.loop-plan.sites.items (omega (arith, none, whole, many)) inv.2
