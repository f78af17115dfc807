use Rattle.std.proofs.Common.{◌∙◌, refl, arith}
use Rattle.mm_report.specs.Results.{empty_results}
use Rattle.mm_report.proofs.Reserved.{more_room}
use Rattle.mm_report.proofs.results.Results.new.Goals as goal

pub loop-object-preserved : goal.loop-object-preserved
loop-object-preserved c =
    rw c.in_ok-push.ensures.items (more_room c.args.script.now c.loop-object.object c.is_space.result c.loop-object.snapshots.items (empty_results c.args.script.now) c.in_ok-new.field-0 c.is_space.ensures
    (c.in_ok-new.ensures ∙ rw (c.in_ok-counts.ensures c.loop-object.object (omega (arith, c.objects-objects.ensures.few)), c.state_words-state.ensures) refl) c.loop-object.invariant)
