-- The cursors of all tasks, and what is left of the history.
use Rattle.std.proofs.Common.{◌≡◌, ℕ, ◌+◌, ◌-◌, ◌<◌, ◌≤◌, zero, suc, true, cond, List, [], ◌∷◌, ◌++◌, take, drop, map, get_or, length, refl, sym, ap, ◌∙◌, subst, arith, append_assoc, length-append, zero-add, add-zero, nat_lt, Option, Some, ◌⊎◌, inl, inr}
use Rattle.std.specs.Prelude.{flat_map, slice_get, filter, count_by, sum_by}
use Rattle.std.specs.List.{AllByRecursion}
use Rattle.std.proofs.lemmas.Option.{same_Some, slice_get-map, slice_get_within, slice_get-get_or}
use Rattle.std.proofs.Math.ListN.{set}
use Rattle.std.proofs.lemmas.Bool.{cases_eq}
use Rattle.std.proofs.lemmas.Bool.Decides.{nat_tests}
use Rattle.std.proofs.lemmas.List.{length-map, length-take, get_or-take, get_or-set_other}
use Rattle.std.proofs.lemmas.List.Sums.{sum_by-cons}
use Rattle.std.proofs.lemmas.Grind.{flat_map-append, get_or-set_at}
use Rattle.word_bits.specs.RecWord.{IsRec, rec_word}
use Rattle.word_bits.specs.Objects.{Obj}
use Rattle.word_bits.specs.Histories.{Plan, Records, Event, task_events}
use Rattle.byte_streams.specs.Causes.{Fronts, IsOnItsWay}
use Rattle.task_script.specs.Scripts.{Listing, call_words, is_on, plan_of}
use Rattle.byte_streams.proofs.Pieces.{flat_map_split}
use Rattle.mm_report.specs.declared.cursor.Cursor.{Cursor}
use Rattle.mm_report.specs.Text.{event_text}
use Rattle.mm_report.specs.Merged.{front, behind, merged, task_lists, NextFrom}
use Rattle.mm_report.specs.Cursors.{no_cursor, earliest, first_record, HasRecords, HaveRecords, AreRead, IsAt, AreAt, IsOneBelow}
use Rattle.mm_report.specs.Types.{CallWords, Rec, Line}
use Rattle.mm_report.proofs.Merging.{AreFrom, OthersFrom, merged_at_once}
use Rattle.mm_report.proofs.Remaining.{Remains, remains_all, remains_added, remains_failed, remains_none}

-- what holds of each holds at a place
all_at : {X : Type 0} (P : X → Type 0) (xs : List X) (i : ℕ) (x : X) → AllByRecursion P xs → slice_get xs i ≡ Some x → P x
all_at P [] i x all at = cc
all_at P (y ∷ xs) zero x all at = subst P (same_Some y x at) all.0
all_at P (y ∷ xs) (suc i) x all at = all_at P xs i x all.1 at

-- the records of a task, and how many stand before them
record HasPlace (object task : ℕ) (tasks : List (List Line)) (records : Records) (lines : List Line) : Type 0 where
  told : List Rec
  at : slice_get records task ≡ Some told
  each : length told ≡ count_by (is_on object) lines
  before : length (flat_map (map rec_word) (take task records)) ≡ sum_by (count_by (is_on object)) (take task tasks)

place_of : (object task : ℕ) (tasks : List (List Line)) (records : Records) (lines : List Line) → HaveRecords object tasks records → slice_get tasks task ≡ Some lines → HasPlace object task tasks records lines
place_of object task [] records lines have at = cc
place_of object task (ls ∷ tasks) [] lines have at = absurd have
place_of object zero (ls ∷ tasks) (rs ∷ rss) lines have at = record { told = rs; at = refl; each = have.0 ∙ ap (count_by (is_on object)) (same_Some ls lines at); before = refl }
place_of object (suc task) (ls ∷ tasks) (rs ∷ rss) lines have at =
    let rest = place_of object task tasks rss lines have.1 at in record {
      told = rest.told;
      at = rest.at;
      each = rest.each;
      before =
          let words : length (map rec_word rs) ≡ length rs = simp length-map in
          omega (arith, length-append (map rec_word rs) (flat_map (map rec_word) (take task rss)), words, have.0, rest.before, sum_by-cons (count_by (is_on object)) ls (take task tasks));
    }

-- of records that are read a task has its own
pub record IsTaskRead (s : Listing) (object task : ℕ) (recs : List ℕ) (records : Records) (lines : List Line) : Type 0 where
  pub told : List Rec
  pub at : slice_get records task ≡ Some told
  pub has : HasRecords object lines recs (first_record s object task) told

pub task_read : (s : Listing) (object task : ℕ) (recs : List ℕ) (records : Records) (lines : List Line) → AreRead s object recs records → slice_get s.tasks task ≡ Some lines → IsTaskRead s object task recs records lines
task_read s object task recs records lines read at =
    let place = place_of object task s.tasks records lines read.each at in record {
      told = place.told;
      at = place.at;
      has = record {
        fit = all_at (AllByRecursion IsRec) records task place.told read.fit place.at;
        each = place.each;
        others = flat_map (map rec_word) (take task records);
        more = flat_map (map rec_word) (drop (task + 1) records);
        starts = place.before;
        words = read.words ∙ sym (flat_map_split (map rec_word) records task place.told place.at) ∙ append_assoc (flat_map (map rec_word) (take task records)) (map rec_word place.told) (flat_map (map rec_word) (drop (task + 1) records));
      };
    }

pub task_has : (s : Listing) (object task : ℕ) (recs : List ℕ) (records : Records) (lines : List Line) (rs : List Rec) → AreRead s object recs records → slice_get s.tasks task ≡ Some lines → slice_get records task ≡ Some rs → HasRecords object lines recs (first_record s object task) rs
task_has s object task recs records lines rs read at-lines at-rs =
    let own = task_read s object task recs records lines read at-lines in
    subst (HasRecords object lines recs (first_record s object task)) (same_Some own.told rs (sym own.at ∙ at-rs)) own.has

-- one list of events a task
lists_length : (object task : ℕ) (tasks : List (List Line)) (records : Records) → HaveRecords object tasks records → length (task_lists task (map (λ ls. map call_words (filter (is_on object) ls)) tasks) records) ≡ length tasks
lists_length object task [] records have = refl
lists_length object task (ls ∷ tasks) [] have = absurd have
lists_length object task (ls ∷ tasks) (rs ∷ rss) have = ap suc (lists_length object (task + 1) tasks rss have.1)

list_at : (from task : ℕ) (plan : Plan) (records : Records) (ws : List CallWords) (rs : List Rec) → slice_get plan task ≡ Some ws → slice_get records task ≡ Some rs → slice_get (task_lists from plan records) task ≡ Some (task_events (from + task) 0 ws rs)
list_at from task [] records ws rs at-w at-r = cc
list_at from task (vs ∷ plan) [] ws rs at-w at-r = cc
list_at from zero (vs ∷ plan) (qs ∷ records) ws rs at-w at-r = rw (same_Some vs ws at-w, same_Some qs rs at-r, add-zero from) refl
list_at from (suc task) (vs ∷ plan) (qs ∷ records) ws rs at-w at-r =
    let later : from + 1 + task ≡ from + suc task = omega arith in
    list_at (from + 1) task plan records ws rs at-w at-r ∙ ap (λ t. Some (task_events t 0 ws rs)) later

module _ {Call : Type 0} (o : Obj Call) where
  -- every call stands at position 0 or behind it
  next_zero : (left : List Event) → NextFrom o 0 left
  next_zero [] = tt
  next_zero (v ∷ vs) = omega arith

  -- cursors before all lines have all calls left
  pub all_at_start : (s : Listing) (object : ℕ) (records : Records) (cursors : List Cursor) → ((task : ℕ) → task < length s.tasks → get_or cursors task no_cursor ≡ record { line = 0; rec = first_record s object task; position = Some 0 })
      → AreAt o s object records cursors (task_lists 0 (plan_of s object) records)
  all_at_start s object records cursors start task lines rs left at-lines at-rs at-left =
      let within = slice_get_within s.tasks task lines at-lines in
      let ws = map call_words (filter (is_on object) lines) in
      let at-ws : slice_get (plan_of s object) task ≡ Some ws = slice_get-map (λ ls. map call_words (filter (is_on object) ls)) s.tasks task ∙ rw at-lines refl in
      let is = same_Some left (task_events task 0 ws rs) (sym at-left ∙ list_at 0 task (plan_of s object) records ws rs at-ws at-rs ∙ ap (λ t. Some (task_events t 0 ws rs)) (zero-add task)) in
      subst (λ c. IsAt o object task lines (first_record s object task) rs c left) (sym (start task within)) (record {
        rec = sym (add-zero (first_record s object task));
        is = is;
        next = next_zero left;
      })

  -- the cursor of one task has gone on, those of the others stay
  pub one_further : (s : Listing) (object bound i : ℕ) (cursors : List Cursor) (new : Cursor) (task : ℕ) (lines : List Line) (rs : List Rec) (left : List Event) → i < length cursors
      → IsAt o object task lines (first_record s object task) rs (get_or cursors task no_cursor) (cond (nat_lt task i) (behind o bound left) left)
      → (task ≡ i → IsAt o object task lines (first_record s object task) rs new (behind o bound left))
      → IsAt o object task lines (first_record s object task) rs (get_or (set cursors i new) task no_cursor) (cond (nat_lt task (i + 1)) (behind o bound left) left)
  one_further s object bound i cursors new task lines rs left within was now = go (cases_eq task i)
    where
      go : (task ≡ i) ⊎ (task ≡ i → ⊥) → IsAt o object task lines (first_record s object task) rs (get_or (set cursors i new) task no_cursor) (cond (nat_lt task (i + 1)) (behind o bound left) left)
      go (inl same) =
          let test : nat_lt task (i + 1) ≡ true = grind (arith, nat_tests) in
          subst (λ b. IsAt o object task lines (first_record s object task) rs (get_or (set cursors i new) task no_cursor) (cond b (behind o bound left) left)) (sym test)
          (subst (λ c. IsAt o object task lines (first_record s object task) rs c (behind o bound left)) (sym (get_or-set_at cursors i task new no_cursor same within)) (now same))
      go (inr other) =
          let test : nat_lt task (i + 1) ≡ nat_lt task i = grind (arith, nat_tests) in
          subst (λ b. IsAt o object task lines (first_record s object task) rs (get_or (set cursors i new) task no_cursor) (cond b (behind o bound left) left)) (sym test)
          (subst (λ c. IsAt o object task lines (first_record s object task) rs c (cond (nat_lt task i) (behind o bound left) left)) (sym (get_or-set_other cursors i task new no_cursor other)) was)

  -- what is left of the history from a position on
  pub record HistoryLeft (s : Listing) (object : ℕ) (records : Records) (end position : ℕ) (cursors : List Cursor) (old new : Option (List ℕ)) (before now : List ℕ) : Type 0 where
    pub lefts : List (List Event)
    pub count : ℕ
    pub sum : count + position ≡ end
    pub at : AreAt o s object records cursors lefts
    pub each : length lefts ≡ length s.tasks
    pub text : Remains old new before now (flat_map (event_text s object) (merged o position count lefts)) (flat_map (event_text s object) (merged o 0 end (task_lists 0 (plan_of s object) records)))

  pub history_begins : (s : Listing) (object : ℕ) (recs : List ℕ) (records : Records) (end : ℕ) (cursors : List Cursor) (old : Option (List ℕ)) (before : List ℕ) → AreRead s object recs records
      → ((task : ℕ) → task < length s.tasks → get_or cursors task no_cursor ≡ record { line = 0; rec = first_record s object task; position = Some 0 }) → HistoryLeft s object records end 0 cursors old old before before
  history_begins s object recs records end cursors old before read start = record {
    lefts = task_lists 0 (plan_of s object) records;
    count = end;
    sum = add-zero end;
    at = all_at_start s object records cursors start;
    each = lists_length object 0 s.tasks records read.each;
    text = remains_all old before (flat_map (event_text s object) (merged o 0 end (task_lists 0 (plan_of s object) records)));
  }

  -- calls up to a position can be told task by task: it is the next one, or only one task has calls below it
  abbrev pub CanTell : (position bound : ℕ) → List (List Event) → Type 0
  CanTell position bound lefts = (bound ≡ position + 1) ⊎ ((one : ℕ) × OthersFrom o bound one lefts)

  -- the calls up to a position, and the others
  split_merged : (position bound count more : ℕ) (lefts : List (List Event)) → position < bound → count + position ≡ more + bound → CanTell position bound lefts → merged o position count lefts ≡ flat_map (front o bound) lefts ++ merged o bound more (map (behind o bound) lefts)
  split_merged position bound count more lefts further sum (inl next) =
      let n : count ≡ suc more = omega arith in
      ap (λ k. merged o position k lefts) n ∙ ap (λ b. flat_map (front o b) lefts ++ merged o b more (map (behind o b) lefts)) (sym next)
  split_merged position bound count more lefts further sum (inr (one, from)) =
      let n = bound - position - 1 in
      let b : bound ≡ position + suc n = omega arith in
      let k : count ≡ suc n + more = omega arith in
      ap (λ k. merged o position k lefts) k ∙ merged_at_once o n position one more lefts (subst (λ q. OthersFrom o q one lefts) b from) ∙ ap (λ q. flat_map (front o q) lefts ++ merged o q more (map (behind o q) lefts)) (sym b)

  -- a task whose calls stand behind a position has them behind an earlier one
  next_lower : (bound from : ℕ) (left : List Event) → bound ≤ from → NextFrom o from left → NextFrom o bound left
  next_lower bound from [] low next = tt
  next_lower bound from (v ∷ vs) low next = omega (arith, next)

  all_from : (bound : ℕ) (lefts : List (List Event)) → ((task : ℕ) (left : List Event) → slice_get lefts task ≡ Some left → NextFrom o bound left) → AreFrom o bound lefts
  all_from bound [] each = tt
  all_from bound (vs ∷ lefts) each = (each 0 vs refl, all_from bound lefts (λ task left at. each (suc task) left at))

  others_from : (bound one : ℕ) (lefts : List (List Event)) → ((task : ℕ) (left : List Event) → (task ≡ one → ⊥) → slice_get lefts task ≡ Some left → NextFrom o bound left) → OthersFrom o bound one lefts
  others_from bound one [] each = tt
  others_from bound zero (vs ∷ lefts) each = all_from bound lefts (λ task left at. each (suc task) left (λ same. omega (arith, same)) at)
  others_from bound (suc one) (vs ∷ lefts) each =
      (each 0 vs (λ same. omega (arith, same)) refl, others_from bound one lefts (λ task left other at. each (suc task) left (λ same. other (omega (arith, same))) at))

  -- the cursors tell what can be told
  pub can_tell : (s : Listing) (object : ℕ) (recs : List ℕ) (records : Records) (cursors : List Cursor) (lefts : List (List Event)) (position bound : ℕ) → AreRead s object recs records → length lefts ≡ length s.tasks → AreAt o s object records cursors lefts → length s.tasks ≤ length cursors
      → (bound ≡ position + 1) ⊎ IsOneBelow bound (take (length s.tasks) cursors) → CanTell position bound lefts
  can_tell s object recs records cursors lefts position bound read each at all (inl next) = inl next
  can_tell s object recs records cursors lefts position bound read each at all (inr (one, below)) = inr (one, others_from bound one lefts from)
    where
      from : (task : ℕ) (left : List Event) → (task ≡ one → ⊥) → slice_get lefts task ≡ Some left → NextFrom o bound left
      from task left other is =
          let within = slice_get_within lefts task left is in
          let lines = get_or s.tasks task [] in
          let at-lines : slice_get s.tasks task ≡ Some lines = slice_get-get_or s.tasks task [] (omega arith) in
          let own = task_read s object task recs records lines read at-lines in
          let here = at task lines own.told left at-lines own.at is in
          let low = below task other (simp length-take (omega arith)) in
          let same = get_or-take (length s.tasks) cursors task no_cursor (omega arith) in
          next_lower bound (earliest (get_or cursors task no_cursor).position) left (omega (arith, low, ap (λ (c : Cursor). earliest c.position) same)) here.next

  -- the text of the calls up to a position, and that of the others
  split_text : (s : Listing) (object position bound count more : ℕ) (lefts : List (List Event)) → position < bound → count + position ≡ more + bound → CanTell position bound lefts → flat_map (event_text s object) (merged o position count lefts)
      ≡ flat_map (event_text s object) (flat_map (front o bound) lefts) ++ flat_map (event_text s object) (merged o bound more (map (behind o bound) lefts))
  split_text s object position bound count more lefts further sum can =
      ap (flat_map (event_text s object)) (split_merged position bound count more lefts further sum can) ∙ flat_map-append (event_text s object) (flat_map (front o bound) lefts) (merged o bound more (map (behind o bound) lefts))

  module _ (s : Listing) (object : ℕ) (records : Records) (end position bound : ℕ) (cursors : List Cursor) (a b c : Option (List ℕ)) (w0 w1 : List ℕ) (h : HistoryLeft s object records end position cursors a b w0 w1) (further : position < bound) (within : bound ≤ end) (can : CanTell position bound h.lefts) where
    split : Remains a b w0 w1 (flat_map (event_text s object) (flat_map (front o bound) h.lefts) ++ flat_map (event_text s object) (merged o bound (end - bound) (map (behind o bound) h.lefts))) (flat_map (event_text s object) (merged o 0 end (task_lists 0 (plan_of s object) records)))
    split =
        let sum = h.sum in
        subst (λ t. Remains a b w0 w1 t (flat_map (event_text s object) (merged o 0 end (task_lists 0 (plan_of s object) records)))) (split_text s object position bound h.count (end - bound) h.lefts further (omega arith) can) h.text

    pub history_added : (later : List Cursor) (w2 : List ℕ) → IsOnItsWay b c w2 (w1 ++ flat_map (event_text s object) (flat_map (front o bound) h.lefts)) → AreAt o s object records later (map (behind o bound) h.lefts) → HistoryLeft s object records end bound later a c w0 w2
    history_added later w2 way at = record {
      lefts = map (behind o bound) h.lefts;
      count = end - bound;
      sum = omega arith;
      at = at;
      each = simp length-map h.each;
      text = remains_added a b c w0 w1 w2 (flat_map (event_text s object) (flat_map (front o bound) h.lefts)) (flat_map (event_text s object) (merged o bound (end - bound) (map (behind o bound) h.lefts))) (flat_map (event_text s object) (merged o 0 end (task_lists 0 (plan_of s object) records))) split way;
    }

    pub history_failed : Fronts b c (w1 ++ flat_map (event_text s object) (flat_map (front o bound) h.lefts)) → Fronts a c (w0 ++ flat_map (event_text s object) (merged o 0 end (task_lists 0 (plan_of s object) records)))
    history_failed way =
        remains_failed a b c w0 w1 (flat_map (event_text s object) (flat_map (front o bound) h.lefts)) (flat_map (event_text s object) (merged o bound (end - bound) (map (behind o bound) h.lefts))) (flat_map (event_text s object) (merged o 0 end (task_lists 0 (plan_of s object) records))) split way

  pub history_done : (s : Listing) (object : ℕ) (records : Records) (end position : ℕ) (cursors : List Cursor) (a b : Option (List ℕ)) (w0 w1 : List ℕ) → HistoryLeft s object records end position cursors a b w0 w1 → end ≤ position
      → IsOnItsWay a b w1 (w0 ++ flat_map (event_text s object) (merged o 0 end (task_lists 0 (plan_of s object) records)))
  history_done s object records end position cursors a b w0 w1 h past =
      let none : h.count ≡ 0 = omega (arith, h.sum) in
      remains_none a b w0 w1 (flat_map (event_text s object) (merged o 0 end (task_lists 0 (plan_of s object) records)))
      (subst (λ n. Remains a b w0 w1 (flat_map (event_text s object) (merged o position n h.lefts)) (flat_map (event_text s object) (merged o 0 end (task_lists 0 (plan_of s object) records)))) none h.text)

-- a text of texts
pub text_of_texts : {X Y : Type 0} (f : Y → List ℕ) (g : X → List Y) (xs : List X) → flat_map f (flat_map g xs) ≡ flat_map (λ x. flat_map f (g x)) xs
text_of_texts f g [] = refl
text_of_texts f g (x ∷ xs) = flat_map-append f (g x) (flat_map g xs) ∙ ap (λ t. flat_map f (g x) ++ t) (text_of_texts f g xs)
