use Rattle.std.proofs.Common.{List, [], ◌∷◌, refl, sym, ap, ◌∙◌, subst}
use Rattle.word_bits.specs.Histories.{Plan}
use Rattle.lock_core.specs.Pasts.{opening}
use Rattle.lock_core.specs.Records.{IsPlan}
use Rattle.lock_core.specs.Nothings.{nothing}
use Rattle.lock_core.proofs.Planning.{empty-plan}
use Rattle.osq_nodes.specs.OsqPlaces.{node_marks}
use Rattle.osq_nodes.specs.OsqRuled.{idle}
use Rattle.osq_nodes.specs.OsqStated.{HasBecome}
use Rattle.osq_nodes.specs.Types.{Moment}
use Rattle.osq_nodes.proofs.Chaining.{newest-queue}
use Rattle.osq_nodes.proofs.queue.Osq.open.Goals as goal

pub open-requires : goal.open-requires
open-requires c = subst (IsPlan nothing) (sym c.in_ok-plan.ensures) (empty-plan nothing c.args.tasks)

pub returns-clause-empty : goal.returns-clause-empty
returns-clause-empty c = subst (λ (past : List Moment). HasBecome past []) (sym (c.in_ok-site.ensures.past ∙ ap (λ (k : Plan). opening node_marks k idle ∷ []) c.in_ok-plan.ensures)) (newest-queue c.args.tasks, refl)
