-- What legal results of an object tell.
use Rattle.std.proofs.Common.{◌≡◌, ℕ, ◌+◌, ◌*◌, List, length, ap, ◌∙◌}
use Rattle.std.specs.Prelude.{flat_map}
use Rattle.std.proofs.lemmas.List.{length-map}
use Rattle.word_bits.specs.LockWords.{Unavailable}
use Rattle.word_bits.specs.Snapshots.{Words}
use Rattle.word_bits.specs.Objects.{Obj}
use Rattle.word_bits.specs.Histories.{Plan, state_after}
use Rattle.word_bits.specs.Legal.{IsLegal, Tells}
use Rattle.word_bits.specs.PageMaps.{IsPageMap}
use Rattle.word_bits.proofs.States.{state_is_state}
use Rattle.vma_map.specs.Spaces.{space}
use Rattle.fd_table.specs.Tables.{table, IsFdMap}
use Rattle.task_script.specs.Scripts.{Listing, plan_of}
use Rattle.mm_report.specs.Results.{Told}
use Rattle.mm_report.specs.Text.{event_text, calls_text}
use Rattle.mm_report.specs.Merged.{merged, task_lists}
use Rattle.mm_report.specs.Cursors.{AreRead}
use Rattle.mm_report.specs.Types.{Entry}
use Rattle.mm_report.proofs.Lawful.{space_lawful, table_lawful}
use Rattle.mm_report.proofs.Ordered.{have_records, merged_legal}

-- what any log leaves of a space is a space
pub space_left : (plan : Plan) (log : List Entry) → IsPageMap (state_after space plan log)
space_left plan log = state_is_state space space_lawful plan log

-- what any log leaves of a table is a table
pub table_left : (plan : Plan) (log : List Entry) → IsFdMap (state_after table plan log)
table_left plan log = state_is_state table table_lawful plan log

-- the words of legal results are those of records, one for each call
pub legal_read : {Call : Type 0} (o : Obj Call) (u : Unavailable) (s : Listing) (object : ℕ) (t : Told) (words : Words) → Tells words t.records t.log → IsLegal o u (plan_of s object) t.records t.log words.state → AreRead s object words.recs t.records
legal_read o u s object t words tells legal = record { words = tells.recs; fit = tells.fit; each = have_records o u (plan_of s object) t.log object 0 s.tasks t.records legal.recorded }

-- merging them gives the calls in their order
pub legal_text : {Call : Type 0} (o : Obj Call) (u : Unavailable) (s : Listing) (object : ℕ) (t : Told) (words : Words) → Tells words t.records t.log → IsLegal o u (plan_of s object) t.records t.log words.state
    → flat_map (event_text s object) (merged o 0 (length words.log * 2 + 1) (task_lists 0 (plan_of s object) t.records)) ≡ calls_text o s object t
legal_text o u s object t words tells legal =
    let len : length words.log ≡ length t.log = ap length tells.log ∙ simp length-map in
    ap (λ n. flat_map (event_text s object) (merged o 0 (n * 2 + 1) (task_lists 0 (plan_of s object) t.records))) len
    ∙ ap (flat_map (event_text s object)) (merged_legal o u (plan_of s object) t.records t.log words.state legal)
