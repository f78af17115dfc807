-- The calls of a legal history stand in their order, and each entry of the log names the call that stands there.
use Rattle.std.proofs.Common.{◌≡◌, ℕ, ◌+◌, ◌*◌, ◌<◌, ◌≤◌, zero, suc, Bool, true, false, ◌&&◌, cond, List, [], ◌∷◌, ◌++◌, length, take, drop, map, refl, sym, ap, ◌∙◌, subst, arith, append_assoc, add-zero, ◌-◌, Some, ◌⊎◌, inl, inr, take-append-drop}
use Rattle.std.specs.Prelude.{filter, count_by, slice_get}
use Rattle.std.specs.List.{AllByRecursion}
use Rattle.std.proofs.lemmas.List.{length-map}
use Rattle.std.proofs.lemmas.List.Sums.{length-filter}
use Rattle.std.proofs.lemmas.Bool.{cases_lt, cases_Bool, and_left, eq-eqb, eqb-true, both_ways}
use Rattle.std.proofs.lemmas.Option.{same_Some}
use Rattle.word_bits.specs.EntryWord.{entry_eq}
use Rattle.word_bits.specs.LockWords.{Unavailable}
use Rattle.word_bits.specs.Objects.{Obj}
use Rattle.word_bits.specs.Histories.{Plan, Records, Event, task_events, events_from, changes, logs, event_logs, history}
use Rattle.word_bits.proofs.EventCounts.{entry_eq_self, entry_eq_same, count_yes, count_no, count_append, count_both, counted_at, counted_once}
use Rattle.word_bits.specs.Legal.{IsLegal, IsUnheldReply, IsRecord, AreTaskRecords, AreRecords, seen_after}
use Rattle.task_script.specs.Scripts.{call_words, is_on}
use Rattle.mm_report.specs.Merged.{task_lists, position, merged}
use Rattle.mm_report.specs.Cursors.{HaveRecords}
use Rattle.mm_report.specs.Types.{CallWords, Entry, Rec, Reply, Good, Num, Refused, MapErr, AccErr, Busy, Intr, Sent, Line}
use Rattle.mm_report.proofs.Merging.{stands_at, AreSorted, AreNamed, merged_history}
use Rattle.mm_report.proofs.Reserved.{drop_at}

-- a place of what is left is a place of all
at_drop : {X : Type 0} (l : List X) (i k : ℕ) → slice_get (drop i l) k ≡ slice_get l (k + i)
at_drop l zero k = rw (add-zero k) refl
at_drop [] (suc i) k = refl
at_drop (x ∷ l) (suc i) k =
    let later : k + suc i ≡ suc (k + i) = omega arith in
    rw later (at_drop l i k)

-- what stands at two places counts twice
counted_twice : (e : Entry) (log : List Entry) (i k : ℕ) → slice_get log i ≡ Some e → slice_get log k ≡ Some e → i < k → 2 ≤ count_by (entry_eq e) log
counted_twice e log i k at-i at-k before =
    let place : k - (i + 1) + (i + 1) ≡ k = omega arith in
    let later = counted_at e (drop (i + 1) log) (k - (i + 1)) (at_drop log (i + 1) (k - (i + 1)) ∙ ap (slice_get log) place ∙ at-k) in
    let split = ap (count_by (entry_eq e)) (sym (take-append-drop i log)) ∙ count_append (entry_eq e) (take i log) (drop i log) in
    let here = ap (count_by (entry_eq e)) (drop_at log i e at-i) ∙ count_yes (entry_eq e) e (drop (i + 1) log) (entry_eq_self e) in
    omega (arith, later, split, here)

-- so what counts once stands at one place
one_place : (e : Entry) (log : List Entry) (i k : ℕ) → slice_get log i ≡ Some e → slice_get log k ≡ Some e → count_by (entry_eq e) log ≤ 1 → i ≡ k
one_place e log i k at-i at-k once = go (cases_lt i k) (cases_lt k i)
  where
    go : (i < k) ⊎ (k ≤ i) → (k < i) ⊎ (i ≤ k) → i ≡ k
    go (inl before) q = absurd (omega (arith, counted_twice e log i k at-i at-k before))
    go (inr after) (inl before) = absurd (omega (arith, counted_twice e log k i at-k at-i before))
    go (inr after) (inr until) = omega arith

-- the element in the middle is one of all
pub all_middle : {X : Type 0} (P : X → Type 0) (xs : List X) (x : X) (ys : List X) → AllByRecursion P (xs ++ x ∷ ys) → P x
all_middle P [] x ys all = all.0
all_middle P (z ∷ xs) x ys all = all_middle P xs x ys all.1

-- what holds of each element where it stands holds of all
all_placed : {X : Type 0} (P : X → Type 0) (before xs : List X) → ((pre : List X) (x : X) (post : List X) → before ++ xs ≡ pre ++ x ∷ post → P x) → AllByRecursion P xs
all_placed P before [] holds = tt
all_placed P before (x ∷ xs) holds = (holds before x xs refl, all_placed P (before ++ x ∷ []) xs (λ pre y post is. holds pre y post (sym (append_assoc before (x ∷ []) xs) ∙ is)))

pub all_append : {X : Type 0} (P : X → Type 0) (xs ys : List X) → AllByRecursion P xs → AllByRecursion P ys → AllByRecursion P (xs ++ ys)
all_append P [] ys first rest = rest
all_append P (x ∷ xs) ys first rest = (first.0, all_append P xs ys first.1 rest)

-- ---- what the records of legal results say

module _ {Call : Type 0} (o : Obj Call) (u : Unavailable) where
  -- a call that only reads doesn't change the object
  changes_reads : (w : CallWords) (call : Call) → o.call_of w ≡ Some call → o.reads call ≡ true → changes o w ≡ false
  changes_reads w call is reads = rw (is, reads) refl

  -- a call that doesn't change it isn't logged
  logs_unchanging : (w : CallWords) (reply : Reply) → changes o w ≡ false → logs o w reply ≡ false
  logs_unchanging w Good is = is
  logs_unchanging w (Num n) is = is
  logs_unchanging w (Refused e) is = is
  logs_unchanging w MapErr is = is
  logs_unchanging w AccErr is = is
  logs_unchanging w (Busy word) is = refl
  logs_unchanging w Intr is = refl
  logs_unchanging w Sent is = refl

  -- nor is one that never held the lock
  logs_unheld : (w : CallWords) (reply : Reply) → IsUnheldReply o u w reply → logs o w reply ≡ false
  logs_unheld w Good is = absurd is
  logs_unheld w (Num n) is = absurd is
  logs_unheld w (Refused e) is = absurd is
  logs_unheld w MapErr is = absurd is
  logs_unheld w AccErr is = absurd is
  logs_unheld w (Busy word) is = refl
  logs_unheld w Intr is = refl
  logs_unheld w Sent is = refl

  -- a call that is logged stands in the log at its place
  pub logged_place : (plan : Plan) (log : List Entry) (seen : ℕ) (e : Entry) (w : CallWords) (r : Rec) → IsRecord o u plan log seen e w r → logs o w r.reply ≡ true → slice_get log r.k ≡ Some e
  logged_place plan log seen e w r (inl is) logged = is.place
  logged_place plan log seen e w r (inr (inl is)) logged =
      absurd (both_ways (logs o w r.reply) (logs_unchanging w r.reply (changes_reads w is.call is.is is.reads)) logged)
  logged_place plan log seen e w r (inr (inr is)) logged = absurd (both_ways (logs o w r.reply) (logs_unheld w r.reply is.reply) logged)

  -- an event that is logged stands in the log at its place
  abbrev IsPlaced : List Entry → Event → Type 0
  IsPlaced log v = event_logs o v ≡ true → slice_get log v.told.k ≡ Some v.entry

  placed_task : (plan : Plan) (log : List Entry) (task call seen : ℕ) (ws : List CallWords) (rs : List Rec) → AreTaskRecords o u plan log task call seen ws rs → AllByRecursion (IsPlaced log) (task_events task call ws rs)
  placed_task plan log task call seen [] rs legal = tt
  placed_task plan log task call seen (w ∷ ws) [] legal = tt
  placed_task plan log task call seen (w ∷ ws) (r ∷ rs) legal =
      (logged_place plan log seen (record { task = task; call = call }) w r legal.0, placed_task plan log task (call + 1) (seen_after (logs o w r.reply) r) ws rs legal.2)

  placed : (plan : Plan) (log : List Entry) (task : ℕ) (wss : Plan) (rss : Records) → AreRecords o u plan log task wss rss → AllByRecursion (IsPlaced log) (events_from task wss rss)
  placed plan log task [] rss legal = tt
  placed plan log task (ws ∷ wss) [] legal = tt
  placed plan log task (ws ∷ wss) (rs ∷ rss) legal =
      all_append (IsPlaced log) (task_events task 0 ws rs) (events_from (task + 1) wss rss) (placed_task plan log task 0 0 ws rs legal.0) (placed plan log (task + 1) wss rss legal.1)

  -- a task has seen at least what stands up to its last record
  seen_place : (logged : Bool) (r : Rec) → r.k * 2 + cond logged 1 0 ≤ seen_after logged r * 2
  seen_place true r = omega arith
  seen_place false r = omega arith

  sorted_task : (plan : Plan) (log : List Entry) (task call seen least : ℕ) (ws : List CallWords) (rs : List Rec) → AreTaskRecords o u plan log task call seen ws rs → least ≤ seen * 2 → AreSorted o least (task_events task call ws rs)
  sorted_task plan log task call seen least [] rs legal low = tt
  sorted_task plan log task call seen least (w ∷ ws) [] legal low = tt
  sorted_task plan log task call seen least (w ∷ ws) (r ∷ rs) legal low =
      let from = legal.1 in
      (omega arith, sorted_task plan log task (call + 1) (seen_after (logs o w r.reply) r) (position o w r) ws rs legal.2 (seen_place (logs o w r.reply) r))

  sorted : (plan : Plan) (log : List Entry) (task : ℕ) (wss : Plan) (rss : Records) → AreRecords o u plan log task wss rss → AllByRecursion (AreSorted o 0) (task_lists task wss rss)
  sorted plan log task [] rss legal = tt
  sorted plan log task (ws ∷ wss) [] legal = tt
  sorted plan log task (ws ∷ wss) (rs ∷ rss) legal = (sorted_task plan log task 0 0 0 ws rs legal.0 (omega arith), sorted plan log (task + 1) wss rss legal.1)

  -- as many records as calls
  records_length : (plan : Plan) (log : List Entry) (task call seen : ℕ) (ws : List CallWords) (rs : List Rec) → AreTaskRecords o u plan log task call seen ws rs → length rs ≡ length ws
  records_length plan log task call seen [] [] legal = refl
  records_length plan log task call seen [] (r ∷ rs) legal = absurd legal
  records_length plan log task call seen (w ∷ ws) [] legal = absurd legal
  records_length plan log task call seen (w ∷ ws) (r ∷ rs) legal = ap suc (records_length plan log task (call + 1) (seen_after (logs o w r.reply) r) ws rs legal.2)

  pub have_records : (plan : Plan) (log : List Entry) (object task : ℕ) (tasks : List (List Line)) (rss : Records) → AreRecords o u plan log task (map (λ ls. map call_words (filter (is_on object) ls)) tasks) rss → HaveRecords object tasks rss
  have_records plan log object task [] [] legal = tt
  have_records plan log object task [] (rs ∷ rss) legal = absurd legal
  have_records plan log object task (ls ∷ tasks) [] legal = absurd legal
  have_records plan log object task (ls ∷ tasks) (rs ∷ rss) legal = (
    records_length plan log task 0 0 (map call_words (filter (is_on object) ls)) rs legal.0 ∙ simp (length-map, length-filter),
    have_records plan log object (task + 1) tasks rss legal.1,
  )

-- where a call stands says whether it is logged, and at what place
odd_place : (logged : Bool) (j k : ℕ) → j * 2 + cond logged 1 0 ≡ k * 2 + 1 → (logged ≡ true) × (j ≡ k)
odd_place true j k same = (refl, omega arith)
odd_place false j k same = absurd (omega arith)

module _ {Call : Type 0} (o : Obj Call) (u : Unavailable) (plan : Plan) (records : Records) (log : List Entry) (state : List ℕ) (legal : IsLegal o u plan records log state) where
  -- an event whose entry is in the log is logged, at that place
  stands_as : (k : ℕ) (e : Entry) (pre : List Event) (v : Event) (post : List Event) → slice_get log k ≡ Some e → events_from 0 plan records ≡ pre ++ v ∷ post → entry_eq v.entry e ≡ true → stands_at o (k * 2 + 1) v ≡ true
  stands_as k e pre v post at is named = go (cases_Bool (event_logs o v))
    where
      here : v.entry ≡ e
      here = entry_eq_same v.entry e named

      test : entry_eq e v.entry ≡ true
      test = ap (entry_eq e) here ∙ entry_eq_self e

      once : count_by (λ x. entry_eq e x.entry) (events_from 0 plan records) ≤ 1
      once = counted_once e 0 plan records

      go : (event_logs o v ≡ true) ⊎ (event_logs o v ≡ false) → stands_at o (k * 2 + 1) v ≡ true
      go (inl logged) =
          let place = all_middle (IsPlaced o u log) pre v post (subst (AllByRecursion (IsPlaced o u log)) is (placed o u plan log 0 plan records legal.recorded)) logged ∙ ap Some here in
          let all = legal.logged e in
          let few = count_both (event_logs o) (λ x. entry_eq e x.entry) (events_from 0 plan records) in
          let same = one_place e log v.told.k k place at (omega (arith, all, few, once)) in
          eq-eqb (position o v.words v.told) (k * 2 + 1) (rw (logged, same) refl)
      go (inr un) =
          let all = legal.logged e ∙ ap (count_by (λ x. event_logs o x && entry_eq e x.entry)) is ∙ count_append (λ x. event_logs o x && entry_eq e x.entry) pre (v ∷ post) in
          let none = count_no (λ x. event_logs o x && entry_eq e x.entry) v post (and_left (event_logs o v) (entry_eq e v.entry) un) in
          let entries = ap (count_by (λ x. entry_eq e x.entry)) is ∙ count_append (λ x. entry_eq e x.entry) pre (v ∷ post) in
          let one = count_yes (λ x. entry_eq e x.entry) v post test in
          let few-pre = count_both (event_logs o) (λ x. entry_eq e x.entry) pre in
          let few-post = count_both (event_logs o) (λ x. entry_eq e x.entry) post in
          absurd (omega (arith, counted_at e log k at, all, none, entries, one, few-pre, few-post, once))

  -- an event that stands as an entry of the log has that entry
  named_by : (k : ℕ) (e : Entry) (pre : List Event) (v : Event) (post : List Event) → slice_get log k ≡ Some e → events_from 0 plan records ≡ pre ++ v ∷ post → stands_at o (k * 2 + 1) v ≡ true → entry_eq v.entry e ≡ true
  named_by k e pre v post at is stands =
      let parts = odd_place (event_logs o v) v.told.k k (eqb-true (position o v.words v.told) (k * 2 + 1) stands) in
      let place = all_middle (IsPlaced o u log) pre v post (subst (AllByRecursion (IsPlaced o u log)) is (placed o u plan log 0 plan records legal.recorded)) parts.0 in
      let same = same_Some e v.entry (sym at ∙ ap (slice_get log) (sym parts.1) ∙ place) in
      ap (λ d. entry_eq d e) (sym same) ∙ entry_eq_self e

  pub named : AreNamed o (events_from 0 plan records) log
  named k e at = all_placed (λ v. entry_eq v.entry e ≡ stands_at o (k * 2 + 1) v) [] (events_from 0 plan records) (λ pre v post is. go pre v post is (cases_Bool (entry_eq v.entry e)) (cases_Bool (stands_at o (k * 2 + 1) v)))
    where
      go : (pre : List Event) (v : Event) (post : List Event) → events_from 0 plan records ≡ pre ++ v ∷ post → (entry_eq v.entry e ≡ true) ⊎ (entry_eq v.entry e ≡ false) → (stands_at o (k * 2 + 1) v ≡ true) ⊎ (stands_at o (k * 2 + 1) v ≡ false)
          → entry_eq v.entry e ≡ stands_at o (k * 2 + 1) v
      go pre v post is (inl same) q = same ∙ sym (stands_as k e pre v post at is same)
      go pre v post is (inr other) (inl stands) = absurd (both_ways (entry_eq v.entry e) other (named_by k e pre v post at is stands))
      go pre v post is (inr other) (inr elsewhere) = other ∙ sym elsewhere

  -- merging the tasks of a legal history gives the history
  pub merged_legal : merged o 0 (length log * 2 + 1) (task_lists 0 plan records) ≡ history o plan records log
  merged_legal = merged_history o plan records log (sorted o u plan log 0 plan records legal.recorded) named
