use Rattle.std.proofs.Common.{◌≡◌, ◌<◌, ℕ, ◌+◌, length, get_or, refl, sym, ap, ◌∙◌, arith, replicate, ◌⊎◌, inl, inr, List, Some}
use Rattle.std.specs.Prelude.{count_by}
use Rattle.std.proofs.Math.ListN.{set}
use Rattle.std.proofs.lemmas.Bool.{cases_eq}
use Rattle.std.proofs.lemmas.List.{length-set, get_or-set_other, get_or-replicate}
use Rattle.std.proofs.lemmas.Grind.{get_or-set_at}
use Rattle.task_script.specs.Scripts.{is_on}
use Rattle.mm_report.specs.declared.cursor.Cursor.{Cursor}
use Rattle.mm_report.specs.Cursors.{at_start, first_record, no_cursor}
use Rattle.mm_report.proofs.Reserved.{more_sum}
use Rattle.mm_report.proofs.cursor.first_cursors.Goals as goal

-- a cursor of a task that has no place yet
abbrev at_record : Cursor → ℕ → Cursor
at_record c rec = record { line = c.line; rec = rec; position = c.position }

-- at first no task has one
fresh : (task : ℕ) → task < 400 → get_or (replicate 400 at_start) task no_cursor ≡ at_start
fresh task within = get_or-replicate 400 task at_start no_cursor within

-- one more task has its place
set_more : (cursors : List Cursor) (i : ℕ) (first : ℕ → ℕ) (rec : ℕ) → i < length cursors → rec ≡ first i → get_or cursors i no_cursor ≡ at_start → ((task : ℕ) → task < i → get_or cursors task no_cursor ≡ record { line = 0; rec = first task; position = Some 0 })
    → (task : ℕ) → task < i + 1 → get_or (set cursors i (at_record (get_or cursors i no_cursor) rec)) task no_cursor ≡ record { line = 0; rec = first task; position = Some 0 }
set_more cursors i first rec within is fresh before task below = go (cases_eq task i)
  where
    go : (task ≡ i) ⊎ (task ≡ i → ⊥) → get_or (set cursors i (at_record (get_or cursors i no_cursor) rec)) task no_cursor ≡ record { line = 0; rec = first task; position = Some 0 }
    go (inl same) =
        get_or-set_at cursors i task (at_record (get_or cursors i no_cursor) rec) no_cursor same within
        ∙ ap (λ c. at_record c rec) fresh ∙ ap (λ r. record { line = 0; rec = r; position = Some 0 }) (is ∙ ap first (sym same))
    go (inr other) = get_or-set_other cursors i task (at_record (get_or cursors i no_cursor) rec) no_cursor other ∙ before task (omega arith)

pub loop-task-init : goal.loop-task-init
loop-task-init c = record {
  rec = refl;
  all = refl;
  set = λ task below. absurd (omega arith);
  unset = λ task above below. fresh task below;
}

pub loop-task-preserved : goal.loop-task-preserved
loop-task-preserved c =
    let i = c.loop-task.task in
    let inv = c.loop-task.invariant in
    let within : i < length c.loop-task.cursors = omega arith in
    let more = more_sum (count_by (is_on c.args.object)) c.args.script.now.tasks i c.calls_of.result.lines.now c.calls_of.ensures.calls in record {
      rec = omega (arith, more, inv.rec, c.count_on-rec.ensures);
      all = length-set c.loop-task.cursors i _ ∙ inv.all;
      set = set_more c.loop-task.cursors i (first_record c.args.script.now c.args.object) c.loop-task.rec within inv.rec (inv.unset i (omega arith) (omega arith)) inv.set;
      unset = λ task above below. get_or-set_other c.loop-task.cursors i task _ no_cursor (λ same. omega (arith, same)) ∙ inv.unset task (omega arith) below;
    }
