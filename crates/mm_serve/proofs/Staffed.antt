-- A history of a plan that has one task more than the script, where the script has none.
use Rattle.std.proofs.Common.{◌≡◌, ℕ, zero, suc, ◌+◌, Bool, true, false, List, [], ◌∷◌, length, map, slice_get, Option, None, refl, ap, ◌∙◌, arith, length-append}
use Rattle.std.specs.Prelude.{◌&&◌, count_by, filter, flat_map, fold, sum_by}
use Rattle.std.specs.Option.{option_and_then}
use Rattle.std.proofs.lemmas.List.{length-map}
use Rattle.std.proofs.lemmas.List.Sums.{sum_by-cons, length-filter}
use Rattle.word_bits.specs.LockWords.{Unavailable, counted, owned}
use Rattle.word_bits.specs.Objects.{Obj}
use Rattle.word_bits.specs.RecWord.{rec_word}
use Rattle.word_bits.specs.Snapshots.{Words}
use Rattle.word_bits.specs.EntryWord.{entry_eq}
use Rattle.word_bits.specs.Histories.{Plan, Records, at_entry, event_logs, events_from, next_state, logs}
use Rattle.word_bits.specs.Legal.{AreTaskRecords, AreRecords, Tells, seen_after}
use Rattle.vma_map.specs.Spaces.{space}
use Rattle.fd_table.specs.Tables.{table}
use Rattle.guarded.specs.ObjectCopying.{AreKnown, IsKnownHistory}
use Rattle.lock_core.specs.Plans.{calls_in}
use Rattle.lock_core.proofs.RowLaws.{none-some}
use Rattle.task_script.specs.Scripts.{Listing, call_words, is_on, plan_of}
use Rattle.mm_report.specs.Results.{Told, IsLegalOn, calls_on}
use Rattle.mm_serve.specs.MachineHistories.{IsKnownHistoryOn}
use Rattle.mm_serve.specs.Machines.{staffed}
use Rattle.mm_serve.specs.Types.{CallWords, Entry, Rec, Hand, Line}

-- a history of an object that the words tell, of which the pass knows each record
pub record Known (is_space : Bool) (k : Plan) (h : Hand) (w : Words) : Type 0 where
  pub told : Told
  pub tells : Tells w told.records told.log
  pub legal : IsLegalOn is_space k told w.state
  pub known : AreKnown h told.records

-- no call stands at any place of a plan of one task without calls
nothing-at : (e : Entry) → at_entry {X = CallWords} ([] ∷ []) e ≡ None
nothing-at e = go e.task
  where
    go : (t : ℕ) → option_and_then (λ (ws : List CallWords). slice_get ws e.call) (slice_get ([] ∷ []) t) ≡ None
    go zero = refl
    go (suc t) = refl

module _ {Call : Type 0} (o : Obj Call) (unavailable : Unavailable) where
  abbrev step : Plan → o.State → Entry → o.State
  step k s e = next_state o s (option_and_then o.call_of (at_entry k e))

  same-state : (log : List Entry) (s : o.State) → fold (step ([] ∷ [])) s log ≡ fold (step []) s log
  same-state [] s = refl
  same-state (e ∷ log) s = ap (λ (at : Option CallWords). fold (step ([] ∷ [])) (next_state o s (option_and_then o.call_of at)) log) (nothing-at e) ∙ same-state log s

  none-recorded : (told : Records) (log : List Entry) → AreRecords o unavailable ([] ∷ []) log 0 ([] ∷ []) told → told ≡ [] ∷ []
  none-recorded [] log are = absurd are
  none-recorded ([] ∷ []) log are = refl
  none-recorded ([] ∷ (rs ∷ told)) log are = absurd are.1
  none-recorded ((r ∷ rs) ∷ told) log are = absurd are.0

  unstaffed-of : (k : Plan) (h : Hand) (w : Words) → IsKnownHistory o unavailable (staffed k) h w → IsKnownHistory o unavailable k h w
  unstaffed-of (ws ∷ k) h w known = known
  unstaffed-of [] h w known =
      let told = known.0 in
      let log = known.1 in
      let tells = known.2 in
      let legal = known.3 in
      let none = none-recorded told log legal.recorded in (
        [],
        log,
        record { recs = tells.recs ∙ ap (flat_map (map rec_word)) none; fit = tt; log = tells.log; entered = tells.entered },
        record {
          recorded = tt;
          logged = λ e. legal.logged e ∙ ap (λ (rss : Records). count_by (λ v. event_logs o v && entry_eq e v.entry) (events_from 0 ([] ∷ []) rss)) none;
          interrupted = λ t rs at. none-some rs at;
          stored = legal.stored ∙ ap o.stores (same-state log o.empty);
        },
        λ t c r at. none-some r at,
      )

pub unstaffed : (is_space : Bool) (k : Plan) (h : Hand) (w : Words) → IsKnownHistoryOn is_space (staffed k) h w → Known is_space k h w
unstaffed true k h w known = let x = unstaffed-of space counted k h w known in record { told = record { records = x.0; log = x.1 }; tells = x.2; legal = x.3; known = x.4 }
unstaffed false k h w known = let x = unstaffed-of table owned k h w known in record { told = record { records = x.0; log = x.1 }; tells = x.2; legal = x.3; known = x.4 }

module _ {Call : Type 0} (o : Obj Call) (unavailable : Unavailable) (plan : Plan) (log : List Entry) where
  task-many : (t c seen : ℕ) (ws : List CallWords) (rs : List Rec) → AreTaskRecords o unavailable plan log t c seen ws rs → length rs ≡ length ws
  task-many t c seen [] [] are = refl
  task-many t c seen [] (r ∷ rs) are = absurd are
  task-many t c seen (w ∷ ws) [] are = absurd are
  task-many t c seen (w ∷ ws) (r ∷ rs) are = ap suc (task-many t (c + 1) (seen_after (logs o w r.reply) r) ws rs are.2)

  all-many : (t : ℕ) (wss : Plan) (rss : Records) → AreRecords o unavailable plan log t wss rss → length (flat_map (map rec_word) rss) ≡ calls_in wss
  all-many t [] [] are = refl
  all-many t [] (rs ∷ rss) are = absurd are
  all-many t (ws ∷ wss) [] are = absurd are
  all-many t (ws ∷ wss) (rs ∷ rss) are =
      let here = task-many t 0 0 ws rs are.0 in
      let rest = all-many (t + 1) wss rss are.1 in
      let both = length-append (map rec_word rs) (flat_map (map rec_word) rss) in
      let one : length (map rec_word rs) ≡ length rs = simp length-map in
      omega (arith, here, rest, both, one)

count-lines : (k : ℕ) (tasks : List (List Line)) → calls_in (map (λ ls. map call_words (filter (is_on k) ls)) tasks) ≡ sum_by (count_by (is_on k)) tasks
count-lines k [] = refl
count-lines k (ls ∷ lss) =
    let here : length (map call_words (filter (is_on k) ls)) ≡ count_by (is_on k) ls = simp (length-map, length-filter) in
    let rest = count-lines k lss in
    let sum = sum_by-cons (count_by (is_on k)) ls lss in
    omega (arith, here, rest, sum)

pub count-calls : (s : Listing) (k : ℕ) → calls_in (plan_of s k) ≡ calls_on s k
count-calls s k = count-lines k s.tasks

records-told : (is_space : Bool) (k : Plan) (w : Words) (t : Told) → Tells w t.records t.log → IsLegalOn is_space k t w.state → length w.recs ≡ calls_in k
records-told true k w t tells legal = ap length tells.recs ∙ all-many space counted k t.log 0 k t.records legal.recorded
records-told false k w t tells legal = ap length tells.recs ∙ all-many table owned k t.log 0 k t.records legal.recorded

-- a history has a record of each call of the script on the object
pub records-many : (is_space : Bool) (s : Listing) (object : ℕ) (h : Hand) (w : Words) → Known is_space (plan_of s object) h w → length w.recs ≡ calls_on s object
records-many is_space s object h w known = records-told is_space (plan_of s object) w known.told known.tells known.legal ∙ count-calls s object
