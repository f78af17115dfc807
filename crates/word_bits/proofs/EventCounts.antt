-- Each entry is that of one event at most.
use Rattle.std.proofs.Common.{◌≡◌, ℕ, ◌+◌, ◌<◌, ◌≤◌, zero, suc, Bool, true, false, ◌&&◌, cond, List, [], ◌∷◌, ◌++◌, refl, ◌∙◌, arith, zero-add, Some, ◌⊎◌, inl, inr, nat_eq}
use Rattle.std.specs.Prelude.{count_by, slice_get}
use Rattle.std.proofs.lemmas.List.Sums.{sum_by-append, sum_by-cons}
use Rattle.std.proofs.lemmas.Bool.{cases_eq, cases_Bool, and_left, and_right, and_parts, ne_eqb, eqb-true}
use Rattle.std.proofs.lemmas.Bool.Decides.{nat_tests}
use Rattle.std.proofs.lemmas.Option.{same_Some}
use Rattle.word_bits.specs.declared.call.CallWords.{CallWords}
use Rattle.word_bits.specs.declared.entry.Entry.{Entry}
use Rattle.word_bits.specs.declared.rec.Rec.{Rec}
use Rattle.word_bits.specs.EntryWord.{entry_eq}
use Rattle.word_bits.specs.Histories.{Plan, Records, Event, task_events, events_from}

-- an entry is equal to itself
pub entry_eq_self : (e : Entry) → entry_eq e e ≡ true
entry_eq_self e = grind (arith, nat_tests)

-- and to no other
pub entry_eq_same : (d e : Entry) → entry_eq d e ≡ true → d ≡ e
entry_eq_same d e same =
    let parts = and_parts (nat_eq d.task e.task) (nat_eq d.call e.call) same in
    let task = eqb-true d.task e.task parts.0 in
    let call = eqb-true d.call e.call parts.1 in
    λ i. record { task = task i; call = call i }

-- the first element counts one, if it passes
pub count_cons : {X : Type 0} (p : X → Bool) (x : X) (xs : List X) → count_by p (x ∷ xs) ≡ cond (p x) 1 0 + count_by p xs
count_cons p x xs = sum_by-cons (λ y. cond (p y) 1 0) x xs

-- an element that passes counts one more
pub count_yes : {X : Type 0} (p : X → Bool) (x : X) (xs : List X) → p x ≡ true → count_by p (x ∷ xs) ≡ 1 + count_by p xs
count_yes p x xs passes = count_cons p x xs ∙ rw passes refl

-- one that fails counts nothing
pub count_no : {X : Type 0} (p : X → Bool) (x : X) (xs : List X) → p x ≡ false → count_by p (x ∷ xs) ≡ count_by p xs
count_no p x xs fails = count_cons p x xs ∙ rw fails (zero-add (count_by p xs))

-- both parts count
pub count_append : {X : Type 0} (p : X → Bool) (xs ys : List X) → count_by p (xs ++ ys) ≡ count_by p xs + count_by p ys
count_append p xs ys = sum_by-append (λ x. cond (p x) 1 0) xs ys

-- what passes both tests counts no more than what passes the second
pub count_both : {X : Type 0} (p q : X → Bool) (xs : List X) → count_by (λ x. p x && q x) xs ≤ count_by q xs
count_both p q [] = omega arith
count_both p q (x ∷ xs) = omega (arith, count_cons (λ y. p y && q y) x xs, count_cons q x xs, count_both p q xs, both (p x) (q x))
  where
    both : (a b : Bool) → cond (a && b) 1 0 ≤ cond b 1 0
    both true b = omega arith
    both false true = omega arith
    both false false = omega arith

-- what stands at a place is counted
pub counted_at : (e : Entry) (l : List Entry) (k : ℕ) → slice_get l k ≡ Some e → 1 ≤ count_by (entry_eq e) l
counted_at e [] k is = cc
counted_at e (d ∷ l) zero is = omega (arith, count_yes (entry_eq e) d l (rw (same_Some d e is) (entry_eq_self e)))
counted_at e (d ∷ l) (suc k) is = omega (arith, counted_at e l k is, count_cons (entry_eq e) d l)

-- the event of a call
abbrev pub event : (task call : ℕ) → CallWords → Rec → Event
event task call w r = record { entry = record { task = task; call = call }; words = w; told = r }

-- the entry of an earlier call is not among those of later ones
later_none : (e : Entry) (task call : ℕ) (ws : List CallWords) (rs : List Rec) → e.call < call → count_by (λ v. entry_eq e v.entry) (task_events task call ws rs) ≡ 0
later_none e task call [] rs low = refl
later_none e task call (w ∷ ws) [] low = refl
later_none e task call (w ∷ ws) (r ∷ rs) low =
    count_no (λ v. entry_eq e v.entry) (event task call w r) (task_events task (call + 1) ws rs) (and_right (nat_eq e.task task) (nat_eq e.call call) (ne_eqb e.call call (λ same. omega (arith, same))))
    ∙ later_none e task (call + 1) ws rs (omega arith)

-- nor is that of another task's call
other_none : (e : Entry) (task call : ℕ) (ws : List CallWords) (rs : List Rec) → (e.task ≡ task → ⊥) → count_by (λ v. entry_eq e v.entry) (task_events task call ws rs) ≡ 0
other_none e task call [] rs other = refl
other_none e task call (w ∷ ws) [] other = refl
other_none e task call (w ∷ ws) (r ∷ rs) other =
    count_no (λ v. entry_eq e v.entry) (event task call w r) (task_events task (call + 1) ws rs) (and_left (nat_eq e.task task) (nat_eq e.call call) (ne_eqb e.task task other))
    ∙ other_none e task (call + 1) ws rs other

-- in front of events without it, at most one has it
once_more : (e : Entry) (v : Event) (vs : List Event) → count_by (λ u. entry_eq e u.entry) vs ≤ 1 → (e.call ≡ v.entry.call → count_by (λ u. entry_eq e u.entry) vs ≡ 0) → count_by (λ u. entry_eq e u.entry) (v ∷ vs) ≤ 1
once_more e v vs once none = go (cases_Bool (entry_eq e v.entry))
  where
    go : (entry_eq e v.entry ≡ true) ⊎ (entry_eq e v.entry ≡ false) → count_by (λ u. entry_eq e u.entry) (v ∷ vs) ≤ 1
    go (inl same) =
        let here = eqb-true e.call v.entry.call (and_parts (nat_eq e.task v.entry.task) (nat_eq e.call v.entry.call) same).1 in
        omega (arith, count_yes (λ u. entry_eq e u.entry) v vs same, none here)
    go (inr other) = omega (arith, count_no (λ u. entry_eq e u.entry) v vs other, once)

once_task : (e : Entry) (task call : ℕ) (ws : List CallWords) (rs : List Rec) → count_by (λ v. entry_eq e v.entry) (task_events task call ws rs) ≤ 1
once_task e task call [] rs = omega arith
once_task e task call (w ∷ ws) [] = omega arith
once_task e task call (w ∷ ws) (r ∷ rs) =
    once_more e (event task call w r) (task_events task (call + 1) ws rs) (once_task e task (call + 1) ws rs) (λ here. later_none e task (call + 1) ws rs (omega (arith, here)))

earlier_none : (e : Entry) (task : ℕ) (plan : Plan) (records : Records) → e.task < task → count_by (λ v. entry_eq e v.entry) (events_from task plan records) ≡ 0
earlier_none e task [] records low = refl
earlier_none e task (ws ∷ wss) [] low = refl
earlier_none e task (ws ∷ wss) (rs ∷ rss) low =
    omega (arith, count_append (λ v. entry_eq e v.entry) (task_events task 0 ws rs) (events_from (task + 1) wss rss), other_none e task 0 ws rs (λ same. omega (arith, same)), earlier_none e (task + 1) wss rss (omega arith))

-- so each entry counts at most once
pub counted_once : (e : Entry) (task : ℕ) (plan : Plan) (records : Records) → count_by (λ v. entry_eq e v.entry) (events_from task plan records) ≤ 1
counted_once e task [] records = omega arith
counted_once e task (ws ∷ wss) [] = omega arith
counted_once e task (ws ∷ wss) (rs ∷ rss) = go (counted_once e (task + 1) wss rss) (cases_eq e.task task)
  where
    both : count_by (λ v. entry_eq e v.entry) (task_events task 0 ws rs ++ events_from (task + 1) wss rss) ≡ count_by (λ v. entry_eq e v.entry) (task_events task 0 ws rs) + count_by (λ v. entry_eq e v.entry) (events_from (task + 1) wss rss)
    both = count_append (λ v. entry_eq e v.entry) (task_events task 0 ws rs) (events_from (task + 1) wss rss)

    go : count_by (λ v. entry_eq e v.entry) (events_from (task + 1) wss rss) ≤ 1 → (e.task ≡ task) ⊎ (e.task ≡ task → ⊥) → count_by (λ v. entry_eq e v.entry) (task_events task 0 ws rs ++ events_from (task + 1) wss rss) ≤ 1
    go rest (inl same) = omega (arith, both, once_task e task 0 ws rs, earlier_none e (task + 1) wss rss (omega (arith, same)))
    go rest (inr other) = omega (arith, both, other_none e task 0 ws rs other, rest)
