use Rattle.std.proofs.Common.{arith, map, sym, ap, subst}
use Rattle.atomic_table.proofs.Lists.{at_map}
use Rattle.lock_core.specs.Pasts.{Tail, view_of, opening}
use Rattle.lock_core.specs.Laws.Move.{split-moves}
use Rattle.lock_core.proofs.Living.{lived-split}
use Rattle.lock_core.proofs.SiteLaws.{splits-kept}
use Rattle.lock_core.proofs.site.Site.split.Goals as goal

pub split_seat-seat-requires : goal.split_seat-seat-requires
split_seat-seat-requires g c = let k = c.args.self.now.table.shared.key in let w = c.args.self.now.wide in let R = g.R.SiteRule in let O = g.R.O.Object in let l = g.met.R.SiteRule in (
  c.requires.own.own,
  omega (arith, w),
  λ s r at. let there = at_map view_of s.views _ _ at in (
    r.0,
    r.1,
    lived-split R.marks (opening R.marks k R.idle) (R.holds k) (R.moves k) r.0 s.views _ _ _ _ at r.2 (l.splits k r.0 (map view_of s.views) _ _ r.2.1 there
        (splits-kept O.object R.unavailable O.WORDS k R.rests (R.holds k) (R.moves k) R.word_at (l.site_kept k) (l.sites k) R.idle r.0 (map view_of s.views) _ _ r.2.1 there) (split-moves _ _ (map view_of s.views) _ R.idle there)),
  ),
)

pub returns-clause-goes_on : goal.returns-clause-goes_on
returns-clause-goes_on g c = λ p t. subst (Tail p) (sym (ap (λ m. m.0.past) c.split_seat-seat.ensures.2)) t

pub returns-clause-past : goal.returns-clause-past
returns-clause-past g c = ap (λ m. m.0.past) c.split_seat-seat.ensures.4
