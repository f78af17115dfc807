use Rattle.std.proofs.Common.{length, arith}
use Rattle.lock_core.proofs.SiteLaws.{adds}
use Rattle.lock_core.proofs.Storing.{stored-site}
use Rattle.lock_core.proofs.site.Site.add.Goals as goal

pub step_stored-requires : goal.step_stored-requires
step_stored-requires g c = let k = c.args.self.now.table.shared.key in let R = g.R.SiteRule in let O = g.R.O.Object in let l = g.met.R.SiteRule in let i = c.requires.inside in record {
  own = c.requires.own;
  inside = omega (arith, i);
  there = stored-site (length k) c.args.at c.args.self.now.site_at c.args.self.now.small.tasks c.args.self.now.behind;
  lets = adds O.object R.unavailable O.WORDS k R.rests (R.holds k) (R.moves k) R.word_at (l.site_kept k) (l.sites k) _ _ c.args.at c.args.by _ g.P.Puts.hand c.requires.holds c.requires.keeps;
}
