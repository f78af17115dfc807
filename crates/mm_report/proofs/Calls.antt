-- The next call of a task, as its line and its record's word tell it.
use Rattle.std.proofs.Common.{◌≡◌, ℕ, ◌+◌, ◌<◌, ◌≤◌, zero, suc, Bool, true, false, cond, List, [], ◌∷◌, ◌++◌, drop, map, get_or, length, refl, sym, ap, ◌∙◌, subst, arith, Some}
use Rattle.std.specs.Prelude.{flat_map, slice_get, filter, count_by}
use Rattle.std.specs.List.{AllByRecursion}
use Rattle.std.proofs.lemmas.Option.{same_Some, slice_get-get_or}
use Rattle.std.proofs.lemmas.List.Sums.{count_by_more_yes, length-filter}
use Rattle.std.proofs.lemmas.List.{take_all, drop_all, length-map}
use Rattle.std.proofs.lemmas.Bool.{eq-eqb}
use Rattle.word_bits.specs.RecWord.{IsRec, rec_word}
use Rattle.word_bits.specs.Objects.{Obj}
use Rattle.word_bits.specs.Histories.{Event, task_events}
use Rattle.task_script.specs.Scripts.{Listing, call_words, is_on}
use Rattle.mm_report.specs.declared.cursor.Cursor.{Cursor}
use Rattle.mm_report.specs.Text.{event_line, event_text, task_event_text, task_lines}
use Rattle.mm_report.specs.Merged.{position, stands_below, front, behind, NextFrom}
use Rattle.mm_report.specs.Cursors.{HasRecords, IsAt, calls_before, events_of}
use Rattle.mm_report.specs.Types.{CallWords, Rec, Line}
use Rattle.mm_report.proofs.Merging.{front_yes, front_no, behind_yes, behind_no}
use Rattle.mm_report.proofs.Places.{IsCallAt, call_at, events_length}
use Rattle.mm_report.proofs.Reserved.{drop_at, lines_at}

module _ {Call : Type 0} (o : Obj Call) where
  -- the text of the calls at the front of those from a line on
  abbrev pub front_text : (object task bound n : ℕ) → List Line → List Rec → List ℕ
  front_text object task bound n lines rs = flat_map (task_event_text object lines) (front o bound (drop (calls_before object lines n) (events_of object task lines rs)))

  -- the calls from a line on that are behind the position
  abbrev pub rest_behind : (object task bound n : ℕ) → List Line → List Rec → List Event
  rest_behind object task bound n lines rs = behind o bound (drop (calls_before object lines n) (events_of object task lines rs))

  -- What the call in a line says of those that are left, where these are its words and its record.
  pub record IsNext (object task bound n : ℕ) (lines : List Line) (rs : List Rec) (w : CallWords) (r : Rec) : Type 0 where
    pub text : position o w r < bound → front_text object task bound n lines rs ≡ event_line task n w r.reply ++ front_text object task bound (n + 1) lines rs
    pub below : position o w r < bound → rest_behind object task bound n lines rs ≡ rest_behind object task bound (n + 1) lines rs
    pub none : bound ≤ position o w r → front_text object task bound n lines rs ≡ []
    pub above : bound ≤ position o w r → rest_behind object task bound n lines rs ≡ drop (calls_before object lines n) (events_of object task lines rs)
    pub from : NextFrom o (position o w r) (drop (calls_before object lines n) (events_of object task lines rs))

  next_call : (object task bound n at : ℕ) (lines : List Line) (rs : List Rec) (recs : List ℕ) (d : Line) → n < length lines → is_on object (get_or lines n d) ≡ true → (found : IsCallAt object task lines rs recs n at (get_or lines n d))
      → IsNext object task bound n lines rs (call_words (get_or lines n d)) found.told
  next_call object task bound n at lines rs recs d within passes found =
      let l = get_or lines n d in
      let vs = events_of object task lines rs in
      let k = calls_before object lines n in
      let v : Event = record { entry = record { task = task; call = k }; words = call_words l; told = found.told } in
      let split : drop k vs ≡ v ∷ drop (k + 1) vs = drop_at vs k v found.at in
      let more : calls_before object lines (n + 1) ≡ k + 1 = count_by_more_yes (is_on object) lines n d within passes in
      let line : task_event_text object lines v ≡ event_line task n (call_words l) found.told.reply = ap (λ number. event_line task number (call_words l) found.told.reply) found.number in record {
        text = λ low.
            ap (λ us. flat_map (task_event_text object lines) (front o bound us)) split ∙ ap (flat_map (task_event_text object lines)) (front_yes o bound v (drop (k + 1) vs) low)
            ∙ ap (λ t. t ++ flat_map (task_event_text object lines) (front o bound (drop (k + 1) vs))) line
            ∙ ap (λ j. event_line task n (call_words l) found.told.reply ++ flat_map (task_event_text object lines) (front o bound (drop j vs))) (sym more);
        below = λ low. ap (behind o bound) split ∙ behind_yes o bound v (drop (k + 1) vs) low ∙ ap (λ j. behind o bound (drop j vs)) (sym more);
        none = λ high. ap (λ us. flat_map (task_event_text object lines) (front o bound us)) split ∙ ap (flat_map (task_event_text object lines)) (front_no o bound v (drop (k + 1) vs) high);
        above = λ high. ap (behind o bound) split ∙ behind_no o bound v (drop (k + 1) vs) high ∙ sym split;
        from = subst (NextFrom o (position o (call_words l) found.told)) (sym split) (omega arith);
      }

  -- the record's word stands where the cursor says
  pub record_read : (object task n at : ℕ) (lines : List Line) (rs : List Rec) (recs : List ℕ) (first : ℕ) (d : Line) (start : Cursor) (left : List Event) → n < length lines → (get_or lines n d).object ≡ object → HasRecords object lines recs first rs
      → IsAt o object task lines first rs start left → at + calls_before object lines start.line ≡ start.rec + calls_before object lines n → IsCallAt object task lines rs recs n at (get_or lines n d)
  record_read object task n at lines rs recs first d start left within on has is moved =
      let before = is.rec in
      call_at object task lines rs recs first n at (get_or lines n d) (slice_get-get_or lines n d within) (eq-eqb (get_or lines n d).object object on) has (omega arith)

  -- so it is the next call
  pub next_read : (object task bound n at : ℕ) (lines : List Line) (rs : List Rec) (recs : List ℕ) (first : ℕ) (d : Line) (start : Cursor) (left : List Event) (w : CallWords) (r : Rec) → n < length lines → (get_or lines n d).object ≡ object → HasRecords object lines recs first rs
      → IsAt o object task lines first rs start left → at + calls_before object lines start.line ≡ start.rec + calls_before object lines n → w ≡ call_words (get_or lines n d) → ((q : Rec) → IsRec q → slice_get recs at ≡ Some (rec_word q) → Some r ≡ Some q)
      → IsNext object task bound n lines rs w r
  next_read object task bound n at lines rs recs first d start left w r within on has is moved words found =
      let read = record_read object task n at lines rs recs first d start left within on has is moved in
      let next = next_call object task bound n at lines rs recs d within (eq-eqb (get_or lines n d).object object on) read in
      let told = same_Some r read.told (found read.told read.fit read.read) in
      subst (λ q. IsNext object task bound n lines rs w q) (sym told) (subst (λ v. IsNext object task bound n lines rs v read.told) (sym words) next)

  -- from the end of the lines on no call is left
  pub no_more : (object task bound n : ℕ) (lines : List Line) (rs : List Rec) (recs : List ℕ) (first : ℕ) → length lines ≤ n → HasRecords object lines recs first rs → drop (calls_before object lines n) (events_of object task lines rs) ≡ []
  no_more object task bound n lines rs recs first past has =
      let ws = map call_words (filter (is_on object) lines) in
      let all : calls_before object lines n ≡ count_by (is_on object) lines = ap (count_by (is_on object)) (take_all n lines past) in
      let calls : length ws ≡ count_by (is_on object) lines = simp (length-map, length-filter) refl in
      drop_all (calls_before object lines n) (events_of object task lines rs) (omega (arith, events_length task 0 ws rs (has.each ∙ sym calls), all, calls))

  -- a task's calls are found in its own lines
  own_text : (s : Listing) (object task bound : ℕ) (lines : List Line) (vs : List Event) → task_lines s.tasks task ≡ lines → AllByRecursion (λ (v : Event). v.entry.task ≡ task) vs
      → flat_map (task_event_text object lines) (front o bound vs) ≡ flat_map (event_text s object) (front o bound vs)
  own_text s object task bound lines [] are own = refl
  own_text s object task bound lines (v ∷ vs) are own = go (stands_below o bound v) (own_text s object task bound lines vs are own.1)
    where
      first : task_event_text object lines v ≡ event_text s object v
      first = ap (λ ls. task_event_text object ls v) (sym are ∙ ap (task_lines s.tasks) (sym own.0))

      go : (test : Bool) → flat_map (task_event_text object lines) (front o bound vs) ≡ flat_map (event_text s object) (front o bound vs) → flat_map (task_event_text object lines) (cond test (v ∷ front o bound vs) []) ≡ flat_map (event_text s object) (cond test (v ∷ front o bound vs) [])
      go true rest = λ i. first i ++ rest i
      go false rest = refl

-- each event of a task is of that task
own_events : (task call : ℕ) (ws : List CallWords) (rs : List Rec) → AllByRecursion (λ (v : Event). v.entry.task ≡ task) (task_events task call ws rs)
own_events task call [] rs = tt
own_events task call (w ∷ ws) [] = tt
own_events task call (w ∷ ws) (r ∷ rs) = (refl, own_events task (call + 1) ws rs)

own_drop : (task n : ℕ) (vs : List Event) → AllByRecursion (λ (v : Event). v.entry.task ≡ task) vs → AllByRecursion (λ (v : Event). v.entry.task ≡ task) (drop n vs)
own_drop task zero vs own = own
own_drop task (suc n) [] own = tt
own_drop task (suc n) (v ∷ vs) own = own_drop task n vs own.1

-- so the text of those that are left is found there
pub left_text : {Call : Type 0} (o : Obj Call) (s : Listing) (object task bound first : ℕ) (lines : List Line) (rs : List Rec) (c : Cursor) (left : List Event) → slice_get s.tasks task ≡ Some lines → IsAt o object task lines first rs c left
    → flat_map (task_event_text object lines) (front o bound left) ≡ flat_map (event_text s object) (front o bound left)
left_text o s object task bound first lines rs c left at is =
    own_text o s object task bound lines left (lines_at s.tasks task lines at)
    (subst (AllByRecursion (λ (v : Event). v.entry.task ≡ task)) (sym is.is) (own_drop task (calls_before object lines c.line) (events_of object task lines rs) (own_events task 0 (map call_words (filter (is_on object) lines)) rs)))
