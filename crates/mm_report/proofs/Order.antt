-- Of the calls of all tasks, those of one task stand in its order.
use Rattle.std.proofs.Common.{◌≡◌, ℕ, ◌+◌, ◌*◌, ◌<◌, ◌≤◌, zero, suc, true, false, List, [], ◌∷◌, ◌++◌, length, get_or, map, refl, sym, ap, ◌∙◌, subst, arith, add-zero, zero-add, append-nil, Some, ◌⊎◌, inl, inr}
use Rattle.std.specs.Prelude.{filter, flat_map, slice_get}
use Rattle.std.specs.List.{AllByRecursion}
use Rattle.std.proofs.lemmas.Bool.{cases_lt, cases_Bool, ne_eqb, eq-eqb}
use Rattle.std.proofs.lemmas.List.Elements.{filter-append}
use Rattle.word_bits.specs.LockWords.{Unavailable}
use Rattle.word_bits.specs.Objects.{Obj}
use Rattle.word_bits.specs.Histories.{Plan, Records, Event, task_events, logs}
use Rattle.word_bits.specs.Legal.{IsRecord, AreTaskRecords, AreRecords, seen_after}
use Rattle.mm_report.specs.Merged.{task_lists, position, front, behind, merged, NextFrom}
use Rattle.mm_report.specs.Orders.{is_of, KeepsOrder}
use Rattle.mm_report.specs.Types.{CallWords, Entry, Rec}
use Rattle.mm_report.proofs.Merging.{front_yes, front_no, behind_yes, behind_no}
use Rattle.mm_report.proofs.Ordered.{merged_legal, logged_place}

-- each call is one of the task
abbrev AllOf : ℕ → List Event → Type 0
AllOf task vs = AllByRecursion (λ v. v.entry.task ≡ task) vs

-- each list has the calls of a task, from this task on
abbrev AreOf : ℕ → List (List Event) → Type 0
AreOf task [] = Unit {0}
AreOf task (vs ∷ lists) = AllOf task vs × AreOf (task + 1) lists

all_kept : (task : ℕ) (vs : List Event) → AllOf task vs → filter (is_of task) vs ≡ vs
all_kept task [] all = refl
all_kept task (v ∷ vs) all = rw (eq-eqb v.entry.task task all.0) (ap (λ us. v ∷ us) (all_kept task vs all.1))

none_kept : (task other : ℕ) (vs : List Event) → AllOf other vs → (other ≡ task → ⊥) → filter (is_of task) vs ≡ []
none_kept task other [] all apart = refl
none_kept task other (v ∷ vs) all apart =
    let of : v.entry.task ≡ other = all.0 in
    rw (ne_eqb v.entry.task task (λ same. apart (sym of ∙ same))) (none_kept task other vs all.1 apart)

all_front : {Call : Type 0} (o : Obj Call) (bound task : ℕ) (vs : List Event) → AllOf task vs → AllOf task (front o bound vs)
all_front o bound task [] all = tt
all_front o bound task (v ∷ vs) all = go (all_front o bound task vs all.1) (cases_lt (position o v.words v.told) bound)
  where
    go : AllOf task (front o bound vs) → (position o v.words v.told < bound) ⊎ (bound ≤ position o v.words v.told) → AllOf task (front o bound (v ∷ vs))
    go rest (inl below) = subst (AllOf task) (sym (front_yes o bound v vs below)) (all.0, rest)
    go rest (inr from) = subst (AllOf task) (sym (front_no o bound v vs from)) tt

all_behind : {Call : Type 0} (o : Obj Call) (bound task : ℕ) (vs : List Event) → AllOf task vs → AllOf task (behind o bound vs)
all_behind o bound task [] all = tt
all_behind o bound task (v ∷ vs) all = go (all_behind o bound task vs all.1) (cases_lt (position o v.words v.told) bound)
  where
    go : AllOf task (behind o bound vs) → (position o v.words v.told < bound) ⊎ (bound ≤ position o v.words v.told) → AllOf task (behind o bound (v ∷ vs))
    go rest (inl below) = subst (AllOf task) (sym (behind_yes o bound v vs below)) rest
    go rest (inr from) = subst (AllOf task) (sym (behind_no o bound v vs from)) all

are_behind : {Call : Type 0} (o : Obj Call) (bound task : ℕ) (lists : List (List Event)) → AreOf task lists → AreOf task (map (behind o bound) lists)
are_behind o bound task [] are = tt
are_behind o bound task (vs ∷ lists) are = (all_behind o bound task vs are.0, are_behind o bound (task + 1) lists are.1)

-- what lists of later tasks tell has no call of this one
later_told : {Call : Type 0} (o : Obj Call) (bound task first : ℕ) (lists : List (List Event)) → task < first → AreOf first lists → filter (is_of task) (flat_map (front o bound) lists) ≡ []
later_told o bound task first [] low are = refl
later_told o bound task first (vs ∷ lists) low are =
    let here = none_kept task first (front o bound vs) (all_front o bound first vs are.0) (λ same. omega (arith, same)) in
    let rest = later_told o bound task (first + 1) lists (omega arith) are.1 in
    filter-append (is_of task) (front o bound vs) (flat_map (front o bound) lists) ∙ rw (here, rest) refl

-- of what all tasks tell, the calls of one are what it tells itself
one_told : {Call : Type 0} (o : Obj Call) (bound first i : ℕ) (lists : List (List Event)) → AreOf first lists → filter (is_of (first + i)) (flat_map (front o bound) lists) ≡ front o bound (get_or lists i [])
one_told o bound first i [] are = refl
one_told o bound first zero (vs ∷ lists) are =
    let here = all_kept (first + 0) (front o bound vs) (subst (λ t. AllOf t (front o bound vs)) (sym (add-zero first)) (all_front o bound first vs are.0)) in
    let rest = later_told o bound (first + 0) (first + 1) lists (omega arith) are.1 in
    filter-append (is_of (first + 0)) (front o bound vs) (flat_map (front o bound) lists) ∙ rw (here, rest) (append-nil (front o bound vs))
one_told o bound first (suc i) (vs ∷ lists) are =
    let here = none_kept (first + suc i) first (front o bound vs) (all_front o bound first vs are.0) (λ same. omega (arith, same)) in
    let next : first + suc i ≡ first + 1 + i = omega arith in
    let rest = ap (λ t. filter (is_of t) (flat_map (front o bound) lists)) next ∙ one_told o bound (first + 1) i lists are.1 in
    filter-append (is_of (first + suc i)) (front o bound vs) (flat_map (front o bound) lists) ∙ rw here rest

-- a task's first calls, and those behind them
front_and_behind : {Call : Type 0} (o : Obj Call) (bound : ℕ) (vs : List Event) → front o bound vs ++ behind o bound vs ≡ vs
front_and_behind o bound [] = refl
front_and_behind o bound (v ∷ vs) = go (front_and_behind o bound vs) (cases_lt (position o v.words v.told) bound)
  where
    go : front o bound vs ++ behind o bound vs ≡ vs → (position o v.words v.told < bound) ⊎ (bound ≤ position o v.words v.told) → front o bound (v ∷ vs) ++ behind o bound (v ∷ vs) ≡ v ∷ vs
    go rest (inl below) = rw (front_yes o bound v vs below, behind_yes o bound v vs below) (ap (λ us. v ∷ us) rest)
    go rest (inr from) = rw (front_no o bound v vs from, behind_no o bound v vs from) refl

-- each call stands below a position
abbrev pub AllBelow : {Call : Type 0} → Obj Call → ℕ → List Event → Type 0
AllBelow o bound vs = AllByRecursion (λ v. position o v.words v.told < bound) vs

below_behind : {Call : Type 0} (o : Obj Call) (p bound : ℕ) (vs : List Event) → AllBelow o bound vs → AllBelow o bound (behind o p vs)
below_behind o p bound [] all = tt
below_behind o p bound (v ∷ vs) all = go (below_behind o p bound vs all.1) (cases_lt (position o v.words v.told) p)
  where
    go : AllBelow o bound (behind o p vs) → (position o v.words v.told < p) ⊎ (p ≤ position o v.words v.told) → AllBelow o bound (behind o p (v ∷ vs))
    go rest (inl below) = subst (AllBelow o bound) (sym (behind_yes o p v vs below)) rest
    go rest (inr from) = subst (AllBelow o bound) (sym (behind_no o p v vs from)) all

next_behind : {Call : Type 0} (o : Obj Call) (p : ℕ) (vs : List Event) → NextFrom o p (behind o p vs)
next_behind o p [] = tt
next_behind o p (v ∷ vs) = go (next_behind o p vs) (cases_lt (position o v.words v.told) p)
  where
    go : NextFrom o p (behind o p vs) → (position o v.words v.told < p) ⊎ (p ≤ position o v.words v.told) → NextFrom o p (behind o p (v ∷ vs))
    go rest (inl below) = subst (NextFrom o p) (sym (behind_yes o p v vs below)) rest
    go rest (inr from) = subst (NextFrom o p) (sym (behind_no o p v vs from)) from

none_left : {Call : Type 0} (o : Obj Call) (p : ℕ) (vs : List Event) → NextFrom o p vs → AllBelow o p vs → vs ≡ []
none_left o p [] from below = refl
none_left o p (v ∷ vs) from below =
    let first = below.0 in
    absurd (omega (arith, from, first))

get_behind : {Call : Type 0} (o : Obj Call) (p i : ℕ) (lists : List (List Event)) → get_or (map (behind o p) lists) i [] ≡ behind o p (get_or lists i [])
get_behind o p i [] = refl
get_behind o p zero (vs ∷ lists) = refl
get_behind o p (suc i) (vs ∷ lists) = get_behind o p i lists

-- merging tells each task's calls in its order
merged_of : {Call : Type 0} (o : Obj Call) (p count i : ℕ) (lists : List (List Event)) → AreOf 0 lists → NextFrom o p (get_or lists i []) → AllBelow o (p + count) (get_or lists i [])
    → filter (is_of i) (merged o p count lists) ≡ get_or lists i []
merged_of o p zero i lists are from below = sym (none_left o p (get_or lists i []) from (subst (λ b. AllBelow o b (get_or lists i [])) (add-zero p) below))
merged_of o p (suc count) i lists are from below =
    let own = get_or lists i [] in
    let left = get_behind o (p + 1) i lists in
    let next : p + suc count ≡ p + 1 + count = omega arith in
    let index : 0 + i ≡ i = omega arith in
    let first : filter (is_of i) (flat_map (front o (p + 1)) lists) ≡ front o (p + 1) own = ap (λ t. filter (is_of t) (flat_map (front o (p + 1)) lists)) (sym index) ∙ one_told o (p + 1) 0 i lists are in
    let rest = merged_of o (p + 1) count i (map (behind o (p + 1)) lists) (are_behind o (p + 1) 0 lists are)
    (subst (NextFrom o (p + 1)) (sym left) (next_behind o (p + 1) own))
    (subst (AllBelow o (p + 1 + count)) (sym left) (below_behind o (p + 1) (p + 1 + count) own (subst (λ b. AllBelow o b own) next below))) ∙ left in
    filter-append (is_of i) (flat_map (front o (p + 1)) lists) (merged o (p + 1) count (map (behind o (p + 1)) lists))
    ∙ rw (first, rest) (front_and_behind o (p + 1) own)

-- ---- the calls of a script

no_records : (task call : ℕ) (ws : List CallWords) → task_events task call ws [] ≡ []
no_records task call [] = refl
no_records task call (w ∷ ws) = refl

events_of_task : (task call : ℕ) (ws : List CallWords) (rs : List Rec) → AllOf task (task_events task call ws rs)
events_of_task task call [] rs = tt
events_of_task task call (w ∷ ws) [] = tt
events_of_task task call (w ∷ ws) (r ∷ rs) = (refl, events_of_task task (call + 1) ws rs)

lists_of_tasks : (task : ℕ) (plan : Plan) (records : Records) → AreOf task (task_lists task plan records)
lists_of_tasks task [] records = tt
lists_of_tasks task (ws ∷ wss) [] = tt
lists_of_tasks task (ws ∷ wss) (rs ∷ rss) = (events_of_task task 0 ws rs, lists_of_tasks (task + 1) wss rss)

list_at : (first i : ℕ) (plan : Plan) (records : Records) → get_or (task_lists first plan records) i [] ≡ task_events (first + i) 0 (get_or plan i []) (get_or records i [])
list_at first i [] records = refl
list_at first i (ws ∷ wss) [] = sym (no_records (first + i) 0 (get_or (ws ∷ wss) i []))
list_at first zero (ws ∷ wss) (rs ∷ rss) = rw (add-zero first) refl
list_at first (suc i) (ws ∷ wss) (rs ∷ rss) =
    let next : first + 1 + i ≡ first + suc i = omega arith in
    list_at (first + 1) i wss rss ∙ ap (λ t. task_events t 0 (get_or wss i []) (get_or rss i [])) next

next_from_zero : {Call : Type 0} (o : Obj Call) (vs : List Event) → NextFrom o 0 vs
next_from_zero o [] = tt
next_from_zero o (v ∷ vs) = omega arith

-- an entry's place is within the log
within : (log : List Entry) (k : ℕ) (e : Entry) → slice_get log k ≡ Some e → k < length log
within [] k e at = cc
within (d ∷ log) zero e at = omega arith
within (d ∷ log) (suc k) e at = let less = within log k e at in omega (arith, less)

module _ {Call : Type 0} (o : Obj Call) (u : Unavailable) (plan : Plan) (log : List Entry) where
  -- a call stands no later than behind the last entry
  record_place : (seen : ℕ) (e : Entry) (w : CallWords) (r : Rec) → IsRecord o u plan log seen e w r → r.k ≤ length log
  record_place seen e w r (inl is) = let less = within log r.k e is.place in omega (arith, less)
  record_place seen e w r (inr (inl is)) = is.place
  record_place seen e w r (inr (inr is)) = is.within

  place_below : (seen : ℕ) (e : Entry) (w : CallWords) (r : Rec) → IsRecord o u plan log seen e w r → position o w r < length log * 2 + 1
  place_below seen e w r is = go (cases_Bool (logs o w r.reply))
    where
      go : (logs o w r.reply ≡ true) ⊎ (logs o w r.reply ≡ false) → position o w r < length log * 2 + 1
      go (inl logged) = let less = within log r.k e (logged_place o u plan log seen e w r is logged) in rw logged (omega (arith, less))
      go (inr unlogged) = let place = record_place seen e w r is in rw unlogged (omega (arith, place))

  pub task_below : (task call seen : ℕ) (ws : List CallWords) (rs : List Rec) → AreTaskRecords o u plan log task call seen ws rs → AllBelow o (length log * 2 + 1) (task_events task call ws rs)
  task_below task call seen [] rs legal = tt
  task_below task call seen (w ∷ ws) [] legal = tt
  task_below task call seen (w ∷ ws) (r ∷ rs) legal =
      (place_below seen (record { task = task; call = call }) w r legal.0, task_below task (call + 1) (seen_after (logs o w r.reply) r) ws rs legal.2)

  all_below : (task i : ℕ) (wss : Plan) (rss : Records) → AreRecords o u plan log task wss rss → AllBelow o (length log * 2 + 1) (get_or (task_lists task wss rss) i [])
  all_below task i [] rss legal = tt
  all_below task i (ws ∷ wss) [] legal = absurd legal
  all_below task zero (ws ∷ wss) (rs ∷ rss) legal = task_below task 0 0 ws rs legal.0
  all_below task (suc i) (ws ∷ wss) (rs ∷ rss) legal = all_below (task + 1) i wss rss legal.1

-- a legal history has each task's calls in its order
pub keeps_order : {Call : Type 0} (o : Obj Call) (u : Unavailable) → KeepsOrder o u
keeps_order o u plan records log state task legal =
    let lists = task_lists 0 plan records in
    let index : 0 + task ≡ task = omega arith in
    ap (filter (is_of task)) (sym (merged_legal o u plan records log state legal))
    ∙ merged_of o 0 (length log * 2 + 1) task lists (lists_of_tasks 0 plan records) (next_from_zero o (get_or lists task [])) (subst (λ b. AllBelow o b (get_or lists task [])) (sym (zero-add (length log * 2 + 1))) (all_below o u plan log 0 task plan records legal.recorded))
    ∙ list_at 0 task plan records
    ∙ ap (λ t. task_events t 0 (get_or plan task []) (get_or records task [])) index
