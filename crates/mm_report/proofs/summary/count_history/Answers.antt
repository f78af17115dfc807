use Rattle.std.proofs.Common.{◌≡◌, length, refl, sym, ap, ◌∙◌, subst}
use Rattle.std.specs.Prelude.{sum_by}
use Rattle.std.proofs.lemmas.List.{length-map}
use Rattle.word_bits.specs.Histories.{state_after}
use Rattle.fd_table.specs.Tables.{table}
use Rattle.mm_report.specs.Results.{IsLegalOn}
use Rattle.mm_report.specs.Summary.{left_after, refusals}
use Rattle.mm_report.proofs.Counted.{all_of, count_all, fit_all, refused_all, words_of_all}
use Rattle.mm_report.proofs.Legal.{table_left}
use Rattle.mm_report.proofs.summary.count_history.Goals as goal
use Rattle.mm_report.proofs.summary.count_history.Goals.{then-is_space, else-is_space}

pub returns : goal.returns
returns c = λ plan t tells legal.
    let calls : length c.recs.result.now ≡ sum_by length t.records = ap length (c.recs.ensures ∙ tells.recs) ∙ count_all t.records in
    let logged : length c.log.result.now ≡ length t.log = ap length (c.log.ensures ∙ tells.log) ∙ simp length-map in
    let refused : c.count_refused.result ≡ refusals t.records =
    c.count_refused.ensures (all_of t.records) (fit_all t.records tells.fit) (c.recs-2.ensures ∙ tells.recs ∙ words_of_all t.records) ∙ refused_all t.records in
    let left : c.if-is_space.left ≡ left_after c.args.is_space plan t.log = elim c.if-is_space.branch [
      | then-is_space w ↦
          let legal_here = subst (λ b. IsLegalOn b plan t c.args.snapshot.now.state) w.if-is_space.true legal in
          w.left-is ∙ w.count_areas-left.ensures _ _ (c.state-state.ensures ∙ legal_here.stored) ∙ ap (λ b. left_after b plan t.log) (sym w.if-is_space.true)
      | else-is_space w ↦
          let legal_here = subst (λ b. IsLegalOn b plan t c.args.snapshot.now.state) w.if-is_space.false legal in
          w.left-is ∙ w.count_open-left.ensures (state_after table plan t.log) (table_left plan t.log) (sym (c.state-state.ensures ∙ legal_here.stored)) ∙ ap (λ b. left_after b plan t.log) (sym w.if-is_space.false)
    ] in
    rw (calls, logged, refused, left) refl
