-- What a pass of a lock over a site shows to callers of any lock.
use Rattle.std.proofs.Common.{ℕ, ◌≤◌, length, ◌∙◌, subst}
use Rattle.lock_core.specs.declared.pass.Pass.{Pass}
use Rattle.lock_core.specs.declared.site.Site.{Site}
use Rattle.lock_core.specs.declared.view.Line.{Line}
use Rattle.lock_core.specs.SiteHandles.{past_of, plan_of, view_of, SitsAt}
use Rattle.lock_core.specs.Records.{row}
use Rattle.lock_core.specs.Shown.{Stands, shown}
use Rattle.lock_core.specs.Views.{SpinRests}
use Rattle.lock_core.specs.declared.tally.Tally.{Tally}

-- a pass of any site, however its lock counts and stands in line
pub site-stands : {R O E C : Type 0} (line : E → Line) (fronts swaps : ℕ) (tally : Tally) (site : Site R O E C) (pass : Pass R O E C) → SitsAt site pass → SpinRests (view_of pass).spin
    → Stands (plan_of site) (record (shown line fronts (view_of pass) (past_of pass)) { swaps = swaps; tally = tally })
site-stands line fronts swaps tally site pass at unspun = record {
  plan = at.plan;
  unspun = unspun;
  writer = at.writer;
  nameless = at.nameless;
  planned = λ t is. let p = at.planned t (at.task ∙ is) in (p.0, subst (λ (n : ℕ). n ≤ length (row (plan_of site) t)) at.done p.1);
  latest = at.latest;
  short = at.short;
  shorter = at.shorter;
}
