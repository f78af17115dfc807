-- Tasks whose calls stand in their order are merged into all calls, position by position.
use Rattle.std.proofs.Common.{◌≡◌, ℕ, ◌+◌, ◌*◌, ◌<◌, ◌≤◌, zero, suc, Bool, true, false, not, ◌&&◌, cond, List, [], ◌∷◌, ◌++◌, length, map, refl, sym, ap, subst, ◌∙◌, arith, nat_eq, Some, append-nil, append_assoc, zero-add, add-zero, ◌⊎◌, inl, inr}
use Rattle.std.specs.Prelude.{filter, flat_map, slice_get}
use Rattle.std.specs.List.{AllByRecursion}
use Rattle.std.proofs.lemmas.Bool.{cases_lt, cases_Bool, ne_eqb, eq-eqb, eqb-true, eqb-false}
use Rattle.std.proofs.lemmas.Bool.Decides.{nat_tests}
use Rattle.std.proofs.lemmas.List.Elements.{filter-append}
use Rattle.word_bits.specs.EntryWord.{entry_eq}
use Rattle.word_bits.specs.Objects.{Obj}
use Rattle.word_bits.specs.Histories.{Plan, Records, Event, events_from, event_logs, history_from, unlogged_at}
use Rattle.mm_report.specs.Merged.{task_lists, position, stands_below, front, behind, merged, NextFrom}
use Rattle.mm_report.specs.Types.{Entry}

-- tests that agree on each element keep the same
filter_same : {X : Type 0} (p q : X → Bool) (xs : List X) → AllByRecursion (λ x. p x ≡ q x) xs → filter p xs ≡ filter q xs
filter_same p q [] same = refl
filter_same p q (x ∷ xs) same = rw same.0 (ap (λ ys. cond (q x) (x ∷ ys) ys) (filter_same p q xs same.1))

-- what holds of everything holds of each element
pub all_of : {X : Type 0} (P : X → Type 0) (xs : List X) → ((x : X) → P x) → AllByRecursion P xs
all_of P [] holds = tt
all_of P (x ∷ xs) holds = (holds x, all_of P xs holds)

-- an entry's call and those in front of it have positions of their own
unlogged_test : (logged : Bool) (j k : ℕ) → (not logged && nat_eq j k) ≡ nat_eq (j * 2 + cond logged 1 0) (k * 2)
unlogged_test true j k = sym (ne_eqb (j * 2 + 1) (k * 2) (λ same. omega (arith, same)))
unlogged_test false j k = go (cases_Bool (nat_eq j k))
  where
    go : (nat_eq j k ≡ true) ⊎ (nat_eq j k ≡ false) → nat_eq j k ≡ nat_eq (j * 2 + 0) (k * 2)
    go (inl same) = let e = eqb-true j k same in same ∙ sym (eq-eqb (j * 2 + 0) (k * 2) (omega (arith, e)))
    go (inr other) = other ∙ sym (ne_eqb (j * 2 + 0) (k * 2) (λ same. eqb-false j k other (omega (arith, same))))

module _ {Call : Type 0} (o : Obj Call) where
  abbrev pub stands_at : ℕ → Event → Bool
  stands_at p v = nat_eq (position o v.words v.told) p

  -- no call stands before the one in front of it
  abbrev pub AreSorted : ℕ → List Event → Type 0
  AreSorted least [] = Unit {0}
  AreSorted least (v ∷ vs) = (least ≤ position o v.words v.told) × AreSorted (position o v.words v.told) vs

  pub front_yes : (bound : ℕ) (v : Event) (vs : List Event) → position o v.words v.told < bound → front o bound (v ∷ vs) ≡ v ∷ front o bound vs
  front_yes bound v vs below = let test : stands_below o bound v ≡ true = grind (arith, nat_tests) in rw test refl

  pub front_no : (bound : ℕ) (v : Event) (vs : List Event) → bound ≤ position o v.words v.told → front o bound (v ∷ vs) ≡ []
  front_no bound v vs above = let test : stands_below o bound v ≡ false = grind (arith, nat_tests) in rw test refl

  pub behind_yes : (bound : ℕ) (v : Event) (vs : List Event) → position o v.words v.told < bound → behind o bound (v ∷ vs) ≡ behind o bound vs
  behind_yes bound v vs below = let test : stands_below o bound v ≡ true = grind (arith, nat_tests) in rw test refl

  pub behind_no : (bound : ℕ) (v : Event) (vs : List Event) → bound ≤ position o v.words v.told → behind o bound (v ∷ vs) ≡ v ∷ vs
  behind_no bound v vs above = let test : stands_below o bound v ≡ false = grind (arith, nat_tests) in rw test refl

  kept_at : (p : ℕ) (v : Event) (vs : List Event) → position o v.words v.told ≡ p → filter (stands_at p) (v ∷ vs) ≡ v ∷ filter (stands_at p) vs
  kept_at p v vs same = rw (eq-eqb (position o v.words v.told) p same) refl

  left_out : (p : ℕ) (v : Event) (vs : List Event) → (position o v.words v.told ≡ p → ⊥) → filter (stands_at p) (v ∷ vs) ≡ filter (stands_at p) vs
  left_out p v vs other = rw (ne_eqb (position o v.words v.told) p other) refl

  -- none stands below the least
  none_below : (p least : ℕ) (vs : List Event) → AreSorted least vs → p < least → filter (stands_at p) vs ≡ []
  none_below p least [] sorted below = refl
  none_below p least (v ∷ vs) sorted below =
      let low = sorted.0 in
      left_out p v vs (λ same. omega (arith, same, low)) ∙ none_below p (position o v.words v.told) vs sorted.1 (omega (arith, low))

  -- where none stands below a position, those in front of the next one stand at it
  front_at : (p least : ℕ) (vs : List Event) → AreSorted least vs → p ≤ least → front o (p + 1) vs ≡ filter (stands_at p) vs
  front_at p least [] sorted low = refl
  front_at p least (v ∷ vs) sorted low = go (λ from. front_at p (position o v.words v.told) vs sorted.1 from) (cases_lt (position o v.words v.told) (p + 1))
    where
      go : (p ≤ position o v.words v.told → front o (p + 1) vs ≡ filter (stands_at p) vs) → (position o v.words v.told < p + 1) ⊎ (p + 1 ≤ position o v.words v.told) → front o (p + 1) (v ∷ vs) ≡ filter (stands_at p) (v ∷ vs)
      go rest (inl here) =
          let from = sorted.0 in
          front_yes (p + 1) v vs here ∙ ap (λ us. v ∷ us) (rest (omega (arith, from))) ∙ sym (kept_at p v vs (omega (arith, from)))
      go rest (inr later) = front_no (p + 1) v vs later ∙ sym (left_out p v vs (λ same. omega (arith, same)) ∙ none_below p (position o v.words v.told) vs sorted.1 (omega arith))

  -- behind those that stand below a position come those that stand at it
  pub front_behind : (p least : ℕ) (vs : List Event) → AreSorted least vs → front o (p + 1) (behind o p vs) ≡ filter (stands_at p) vs
  front_behind p least [] sorted = refl
  front_behind p least (v ∷ vs) sorted = go (front_behind p (position o v.words v.told) vs sorted.1) (cases_lt (position o v.words v.told) p)
    where
      go : front o (p + 1) (behind o p vs) ≡ filter (stands_at p) vs → (position o v.words v.told < p) ⊎ (p ≤ position o v.words v.told) → front o (p + 1) (behind o p (v ∷ vs)) ≡ filter (stands_at p) (v ∷ vs)
      go rest (inl below) = ap (front o (p + 1)) (behind_yes p v vs below) ∙ rest ∙ sym (left_out p v vs (λ same. omega (arith, same)))
      go rest (inr from) = ap (front o (p + 1)) (behind_no p v vs from) ∙ front_at p p (v ∷ vs) (from, sorted.1) (omega arith)

  -- what is behind one position and then behind the next
  behind_behind : (p q : ℕ) (vs : List Event) → p ≤ q → behind o q (behind o p vs) ≡ behind o q vs
  behind_behind p q [] low = refl
  behind_behind p q (v ∷ vs) low = go (behind_behind p q vs low) (cases_lt (position o v.words v.told) p)
    where
      go : behind o q (behind o p vs) ≡ behind o q vs → (position o v.words v.told < p) ⊎ (p ≤ position o v.words v.told) → behind o q (behind o p (v ∷ vs)) ≡ behind o q (v ∷ vs)
      go rest (inl below) = ap (behind o q) (behind_yes p v vs below) ∙ rest ∙ sym (behind_yes q v vs (omega arith))
      go rest (inr from) = ap (behind o q) (behind_no p v vs from)

  all_behind : (p : ℕ) (lists : List (List Event)) → map (behind o (p + 1)) (map (behind o p) lists) ≡ map (behind o (p + 1)) lists
  all_behind p [] = refl
  all_behind p (vs ∷ lists) = let first = behind_behind p (p + 1) vs (omega arith) in let rest = all_behind p lists in λ i. first i ∷ rest i

  -- everything stands behind position 0
  behind_zero : (vs : List Event) → behind o 0 vs ≡ vs
  behind_zero [] = refl
  behind_zero (v ∷ vs) = behind_no 0 v vs (omega arith)

  pub all_behind_zero : (lists : List (List Event)) → map (behind o 0) lists ≡ lists
  all_behind_zero [] = refl
  all_behind_zero (vs ∷ lists) = let first = behind_zero vs in let rest = all_behind_zero lists in λ i. first i ∷ rest i

  -- what all tasks tell at a position is what stands there
  told_at : (p task : ℕ) (plan : Plan) (records : Records) → AllByRecursion (AreSorted 0) (task_lists task plan records)
      → flat_map (front o (p + 1)) (map (behind o p) (task_lists task plan records)) ≡ filter (stands_at p) (events_from task plan records)
  told_at p task [] records sorted = refl
  told_at p task (ws ∷ wss) [] sorted = refl
  told_at p task (ws ∷ wss) (rs ∷ rss) sorted =
      let first = front_behind p 0 _ sorted.0 in
      let rest = told_at p (task + 1) wss rss sorted.1 in
      (λ i. first i ++ rest i) ∙ sym (filter-append (stands_at p) _ (events_from (task + 1) wss rss))

  -- the calls at so many positions from this one on
  abbrev pub at_positions : List Event → (p count : ℕ) → List Event
  at_positions events p zero = []
  at_positions events p (suc count) = filter (stands_at p) events ++ at_positions events (p + 1) count

  merged_at : (plan : Plan) (records : Records) (p count : ℕ) → AllByRecursion (AreSorted 0) (task_lists 0 plan records)
      → merged o p count (map (behind o p) (task_lists 0 plan records)) ≡ at_positions (events_from 0 plan records) p count
  merged_at plan records p zero sorted = refl
  merged_at plan records p (suc count) sorted =
      let first = told_at p 0 plan records sorted in
      let rest = ap (merged o (p + 1) count) (all_behind p (task_lists 0 plan records)) ∙ merged_at plan records (p + 1) count sorted in
      λ i. first i ++ rest i

  -- an entry names the call that stands as that entry
  abbrev pub AreNamed : List Event → List Entry → Type 0
  AreNamed events log = (k : ℕ) (e : Entry) → slice_get log k ≡ Some e → AllByRecursion (λ v. entry_eq v.entry e ≡ stands_at (k * 2 + 1) v) events

  unlogged_stand : (events : List Event) (k : ℕ) → unlogged_at o events k ≡ filter (stands_at (k * 2)) events
  unlogged_stand events k =
      filter_same (λ v. not (event_logs o v) && nat_eq v.told.k k) (stands_at (k * 2)) events
      (all_of (λ v. (not (event_logs o v) && nat_eq v.told.k k) ≡ stands_at (k * 2) v) events (λ v. unlogged_test (event_logs o v) v.told.k k))

  -- a history has its calls position by position
  pub stands_so : (events : List Event) (log : List Entry) (k : ℕ) (es : List Entry) → AreNamed events log → ((i : ℕ) → slice_get es i ≡ slice_get log (i + k)) → history_from o events k es ≡ at_positions events (k * 2) (length es * 2 + 1)
  stands_so events log k [] named are = unlogged_stand events k ∙ sym (append-nil (filter (stands_at (k * 2)) events))
  stands_so events log k (e ∷ es) named are =
      let unlogged = unlogged_stand events k in
      let entry = filter_same (λ v. entry_eq v.entry e) (stands_at (k * 2 + 1)) events (named k e (sym (are 0 ∙ ap (slice_get log) (zero-add k)))) in
      let next : k * 2 + 1 + 1 ≡ (k + 1) * 2 = omega arith in
      let rest = stands_so events log (k + 1) es named (λ i. let later : suc i + k ≡ i + (k + 1) = omega arith in are (suc i) ∙ ap (slice_get log) later) ∙ ap (λ p. at_positions events p (length es * 2 + 1)) (sym next) in
      let count : suc (length es) * 2 + 1 ≡ suc (suc (length es * 2 + 1)) = omega arith in
      (λ i. unlogged i ++ entry i ++ rest i)
      ∙ append_assoc (filter (stands_at (k * 2)) events) (filter (stands_at (k * 2 + 1)) events) (at_positions events (k * 2 + 1 + 1) (length es * 2 + 1))
      ∙ ap (at_positions events (k * 2)) (sym count)

  -- so merging tasks gives the history
  pub merged_history : (plan : Plan) (records : Records) (log : List Entry) → AllByRecursion (AreSorted 0) (task_lists 0 plan records) → AreNamed (events_from 0 plan records) log
      → merged o 0 (length log * 2 + 1) (task_lists 0 plan records) ≡ history_from o (events_from 0 plan records) 0 log
  merged_history plan records log sorted named =
      ap (merged o 0 (length log * 2 + 1)) (sym (all_behind_zero (task_lists 0 plan records)))
      ∙ merged_at plan records 0 (length log * 2 + 1) sorted
      ∙ sym (stands_so (events_from 0 plan records) log 0 log named (λ i. ap (slice_get log) (sym (add-zero i))))

  -- ---- positions below which only one task has calls

  -- each of the tasks has its calls from a position on
  abbrev pub AreFrom : ℕ → List (List Event) → Type 0
  AreFrom bound lefts = AllByRecursion (NextFrom o bound) lefts

  -- so does each but one
  abbrev pub OthersFrom : ℕ → ℕ → List (List Event) → Type 0
  OthersFrom bound one [] = Unit {0}
  OthersFrom bound zero (vs ∷ lefts) = AreFrom bound lefts
  OthersFrom bound (suc one) (vs ∷ lefts) = NextFrom o bound vs × OthersFrom bound one lefts

  -- where a task's next call stands no sooner than a position, none stands below it
  pub none_in_front : (bound from : ℕ) (left : List Event) → bound ≤ from → NextFrom o from left → front o bound left ≡ []
  none_in_front bound from [] low next = refl
  none_in_front bound from (v ∷ vs) low next = front_no bound v vs (omega (arith, next))

  pub all_left : (bound from : ℕ) (left : List Event) → bound ≤ from → NextFrom o from left → behind o bound left ≡ left
  all_left bound from [] low next = refl
  all_left bound from (v ∷ vs) low next = behind_no bound v vs (omega (arith, next))

  -- the calls in front of a position, and then those in front of a later one
  front_front : (p q : ℕ) (vs : List Event) → p ≤ q → front o p vs ++ front o q (behind o p vs) ≡ front o q vs
  front_front p q [] low = refl
  front_front p q (v ∷ vs) low = go (front_front p q vs low) (cases_lt (position o v.words v.told) p)
    where
      go : front o p vs ++ front o q (behind o p vs) ≡ front o q vs → (position o v.words v.told < p) ⊎ (p ≤ position o v.words v.told) → front o p (v ∷ vs) ++ front o q (behind o p (v ∷ vs)) ≡ front o q (v ∷ vs)
      go rest (inl below) = rw (front_yes p v vs below, behind_yes p v vs below, front_yes q v vs (omega arith)) (ap (λ us. v ∷ us) rest)
      go rest (inr from) = rw (front_no p v vs from, behind_no p v vs from) refl

  -- tasks whose calls all stand behind a later position tell nothing in front of it
  none_told : (p q : ℕ) (lefts : List (List Event)) → p ≤ q → AreFrom q lefts → flat_map (front o p) lefts ≡ []
  none_told p q [] low from = refl
  none_told p q (vs ∷ lefts) low from =
      let first = none_in_front p q vs low from.0 in
      let rest = none_told p q lefts low from.1 in
      λ i. first i ++ rest i

  all_stay : (p q : ℕ) (lefts : List (List Event)) → p ≤ q → AreFrom q lefts → map (behind o p) lefts ≡ lefts
  all_stay p q [] low from = refl
  all_stay p q (vs ∷ lefts) low from =
      let first = all_left p q vs low from.0 in
      let rest = all_stay p q lefts low from.1 in
      λ i. first i ∷ rest i

  -- one task's calls in front of a position and of a later one
  told_twice : (p q one : ℕ) (lefts : List (List Event)) → p ≤ q → OthersFrom q one lefts → flat_map (front o p) lefts ++ flat_map (front o q) (map (behind o p) lefts) ≡ flat_map (front o q) lefts
  told_twice p q one [] low from = refl
  told_twice p q zero (vs ∷ lefts) low from =
      let early = none_told p q lefts low from in
      let later = none_told q q lefts (omega arith) from in
      let stay = all_stay p q lefts low from in
      let both = front_front p q vs low in
      rw (stay, early, later) (rw (append-nil (front o p vs), append-nil (front o q (behind o p vs)), append-nil (front o q vs)) both)
  told_twice p q (suc one) (vs ∷ lefts) low from =
      let early = none_in_front p q vs low from.0 in
      let stay = all_left p q vs low from.0 in
      let later = none_in_front q q vs (omega arith) from.0 in
      rw (early, stay, later) (told_twice p q one lefts low from.1)

  others_stay : (p q one : ℕ) (lefts : List (List Event)) → p ≤ q → OthersFrom q one lefts → OthersFrom q one (map (behind o p) lefts)
  others_stay p q one [] low from = tt
  others_stay p q zero (vs ∷ lefts) low from = subst (AreFrom q) (sym (all_stay p q lefts low from)) from
  others_stay p q (suc one) (vs ∷ lefts) low from =
      (subst (NextFrom o q) (sym (all_left p q vs low from.0)) from.0, others_stay p q one lefts low from.1)

  all_behind_later : (p q : ℕ) (lists : List (List Event)) → p ≤ q → map (behind o q) (map (behind o p) lists) ≡ map (behind o q) lists
  all_behind_later p q [] low = refl
  all_behind_later p q (vs ∷ lists) low =
      let first = behind_behind p q vs low in
      let rest = all_behind_later p q lists low in
      λ i. first i ∷ rest i

  -- where only one task has calls below a position, they are told at once
  pub merged_at_once : (n p one count : ℕ) (lefts : List (List Event)) → OthersFrom (p + suc n) one lefts → merged o p (suc n + count) lefts ≡ flat_map (front o (p + suc n)) lefts ++ merged o (p + suc n) count (map (behind o (p + suc n)) lefts)
  merged_at_once zero p one count lefts from =
      let more : 1 + count ≡ suc count = omega arith in
      ap (λ n. merged o p n lefts) more
  merged_at_once (suc n) p one count lefts from =
      let more : suc (suc n) + count ≡ suc (suc n + count) = omega arith in
      let q : p + 1 + suc n ≡ p + suc (suc n) = omega arith in
      let from' = others_stay (p + 1) (p + suc (suc n)) one lefts (omega arith) from in
      let rest = merged_at_once n (p + 1) one count (map (behind o (p + 1)) lefts) (subst (λ b. OthersFrom b one (map (behind o (p + 1)) lefts)) (sym q) from') in
      let later = all_behind_later (p + 1) (p + suc (suc n)) lefts (omega arith) in
      let twice = told_twice (p + 1) (p + suc (suc n)) one lefts (omega arith) from in
      ap (λ k. merged o p k lefts) more
      ∙ ap (λ vs. flat_map (front o (p + 1)) lefts ++ vs) (rest ∙ ap (λ b. flat_map (front o b) (map (behind o (p + 1)) lefts) ++ merged o b count (map (behind o b) (map (behind o (p + 1)) lefts))) q)
      ∙ sym (append_assoc (flat_map (front o (p + 1)) lefts) (flat_map (front o (p + suc (suc n))) (map (behind o (p + 1)) lefts)) (merged o (p + suc (suc n)) count (map (behind o (p + suc (suc n))) (map (behind o (p + 1)) lefts))))
      ∙ ap (λ vs. vs ++ merged o (p + suc (suc n)) count (map (behind o (p + suc (suc n))) (map (behind o (p + 1)) lefts))) twice
      ∙ ap (λ ls. flat_map (front o (p + suc (suc n))) lefts ++ merged o (p + suc (suc n)) count ls) later
