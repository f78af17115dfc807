use Rattle.std.proofs.Common.{arith, map, sym, ap, ◌∙◌, subst}
use Rattle.atomic_table.proofs.Lists.{at_map, set_else}
use Rattle.lock_core.specs.Pasts.{Tail, view_of, opening}
use Rattle.lock_core.specs.Laws.Move.{join-moves}
use Rattle.lock_core.proofs.Living.{lived-join}
use Rattle.lock_core.proofs.SiteLaws.{joins-kept}
use Rattle.lock_core.proofs.site.Site.gather.Goals as goal

pub join_seat-requires : goal.join_seat-requires
join_seat-requires g c = let k = c.args.self.now.table.shared.key in let w = c.args.self.now.wide in let R = g.R.SiteRule in let O = g.R.O.Object in let l = g.met.R.SiteRule in
    let out = sym c.requires.others_own.task ∙ c.requires.numberless in (
      c.requires.own.own,
      c.requires.others_own.own,
      c.requires.others_own.slots,
      omega (arith, w),
      λ s r at apart there. let here = at_map view_of s.views _ _ at in let other = at_map view_of s.views _ _ (sym (set_else s.views _ _ _ apart) ∙ there) in (
        r.0,
        r.1,
        lived-join R.marks (opening R.marks k R.idle) (R.holds k) (R.moves k) r.0 s.views _ _ _ _ _ _ at (sym (set_else s.views _ _ _ apart) ∙ there) r.2 (l.joins k r.0 (map view_of s.views) _ _ _ _ r.2.1 here apart other c.requires.rests (c.requires.other_rests.0, c.requires.other_rests.1, out)
            (joins-kept O.object R.unavailable O.WORDS k R.rests (R.holds k) (R.moves k) R.word_at (l.site_kept k) (l.sites k) R.idle r.0 (map view_of s.views) _ _ _ _ r.2.1 here apart other c.requires.rests.0.0 c.requires.other_rests.0.0 out) (join-moves _ _ _ (map view_of s.views) _ _ R.idle here apart other c.requires.other_rests.0 out)),
      ),
    )

pub returns-clause-goes_on : goal.returns-clause-goes_on
returns-clause-goes_on g c = λ p t. subst (Tail p) (sym (ap (λ m. m.0.past) c.join_seat.ensures.2)) t
