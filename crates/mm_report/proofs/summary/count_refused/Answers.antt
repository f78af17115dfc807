use Rattle.std.proofs.Common.{◌≡◌, ◌+◌, ◌≤◌, cond, ◌∙◌, arith, refl}
use Rattle.std.proofs.lemmas.Option.{slice_get-get_or}
use Rattle.mm_report.proofs.Counted.{refused_more}
use Rattle.mm_report.proofs.summary.count_refused.Goals as goal
use Rattle.mm_report.proofs.summary.count_refused.Goals.{then-is_refused, else-is_refused}

pub loop-word-preserved : goal.loop-word-preserved
loop-word-preserved c =
    let so_far = c.loop-word.invariant in
    let added : c.if-is_refused.refused ≡ c.loop-word.refused + cond c.is_refused.result 1 0 = elim c.if-is_refused.branch [
      | then-is_refused w ↦ w.refused-is ∙ rw w.if-is_refused.true refl
      | else-is_refused w ↦ w.refused-is ∙ rw w.if-is_refused.false (omega arith)
    ] in
    let few : c.if-is_refused.refused ≤ c.loop-word.word-index + 1 = elim c.if-is_refused.branch [
      | then-is_refused w ↦ omega (arith, w.refused-is, so_far.few)
      | else-is_refused w ↦ omega (arith, w.refused-is, so_far.few)
    ] in
    record {
      few = few;
      counted = λ records fit is.
          added ∙ refused_more records c.args.recs.now c.loop-word.word-index c.loop-word.refused _ c.is_refused.result (slice_get-get_or c.args.recs.now c.loop-word.word-index 0 c.loop-word-test.true) fit is c.is_refused.ensures (so_far.counted records fit is);
    }
