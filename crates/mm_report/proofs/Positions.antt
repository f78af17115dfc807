-- In a legal history a call with a smaller position stands before.
use Rattle.std.proofs.Common.{◌≡◌, ℕ, ◌+◌, ◌*◌, ◌<◌, ◌≤◌, zero, suc, Bool, true, cond, List, [], ◌∷◌, ◌++◌, length, ap, ◌∙◌, sym, subst, arith, append_assoc, zero-add, add-zero, Some, ◌⊎◌, inl, inr}
use Rattle.std.specs.Prelude.{filter, slice_get}
use Rattle.std.proofs.lemmas.Bool.{cases_lt, eq-eqb}
use Rattle.std.proofs.lemmas.List.Elements.{filter-append}
use Rattle.std.proofs.lemmas.Option.{same_Some}
use Rattle.word_bits.specs.LockWords.{Unavailable}
use Rattle.word_bits.specs.Objects.{Obj}
use Rattle.word_bits.specs.Histories.{Plan, Records, Event, at_entry, task_events, events_from}
use Rattle.word_bits.specs.Legal.{AreRecords}
use Rattle.mm_report.specs.Merged.{position}
use Rattle.mm_report.specs.Orders.{Before, KeepsPositions}
use Rattle.mm_report.specs.Types.{CallWords, Entry, Rec}
use Rattle.mm_report.proofs.Merging.{stands_at, at_positions, stands_so}
use Rattle.mm_report.proofs.Ordered.{all_middle, all_append, named}
use Rattle.mm_report.proofs.Order.{AllBelow, task_below}

-- the element is one of the list
abbrev Among : {X : Type 0} → List X → X → Type 0
Among {X} xs x = (pre : List X) × (post : List X) × (xs ≡ pre ++ x ∷ post)

among_left : {X : Type 0} (xs ys : List X) (x : X) → Among xs x → Among (xs ++ ys) x
among_left xs ys x is = (is.0, is.1 ++ ys, ap (λ zs. zs ++ ys) is.2 ∙ append_assoc is.0 (x ∷ is.1) ys)

among_right : {X : Type 0} (xs ys : List X) (x : X) → Among ys x → Among (xs ++ ys) x
among_right xs ys x is = (xs ++ is.0, is.1, ap (λ zs. xs ++ zs) is.2 ∙ sym (append_assoc xs is.0 (x ∷ is.1)))

among_filter : {X : Type 0} (p : X → Bool) (xs : List X) (x : X) → p x ≡ true → Among xs x → Among (filter p xs) x
among_filter p xs x passes is =
    (filter p is.0, filter p is.1, ap (filter p) is.2 ∙ filter-append p is.0 (x ∷ is.1) ∙ ap (λ t. filter p is.0 ++ cond t (x ∷ filter p is.1) (filter p is.1)) passes)

-- ---- a call of the plan with its record is one of all events

task_event : (task call c n : ℕ) (ws : List CallWords) (rs : List Rec) (w : CallWords) (r : Rec) → call + c ≡ n → slice_get ws c ≡ Some w → slice_get rs c ≡ Some r → Among (task_events task call ws rs) (record { entry = record { task = task; call = n }; words = w; told = r })
task_event task call c n [] rs w r is planned recorded = absurd (cc)
task_event task call c n (x ∷ ws) [] w r is planned recorded = absurd (cc)
task_event task call zero n (x ∷ ws) (y ∷ rs) w r is planned recorded =
    let words = same_Some x w planned in
    let told = same_Some y r recorded in
    let number : call ≡ n = omega (arith, is) in
    ([], task_events task (call + 1) ws rs, λ i. record { entry = record { task = task; call = number i }; words = words i; told = told i } ∷ task_events task (call + 1) ws rs)
task_event task call (suc c) n (x ∷ ws) (y ∷ rs) w r is planned recorded =
    let rest = task_event task (call + 1) c n ws rs w r (omega (arith, is)) planned recorded in
    among_right (record { entry = record { task = task; call = call }; words = x; told = y } ∷ []) (task_events task (call + 1) ws rs) (record { entry = record { task = task; call = n }; words = w; told = r }) rest

event_among : (task i c n : ℕ) (plan : Plan) (records : Records) (w : CallWords) (r : Rec) → task + i ≡ n → at_entry plan (record { task = i; call = c }) ≡ Some w → at_entry records (record { task = i; call = c }) ≡ Some r
    → Among (events_from task plan records) (record { entry = record { task = n; call = c }; words = w; told = r })
event_among task i c n [] records w r is planned recorded = absurd (cc)
event_among task i c n (ws ∷ wss) [] w r is planned recorded = absurd (cc)
event_among task zero c n (ws ∷ wss) (rs ∷ rss) w r is planned recorded =
    let number : task ≡ n = omega (arith, is) in
    among_left (task_events task 0 ws rs) (events_from (task + 1) wss rss) (record { entry = record { task = n; call = c }; words = w; told = r })
    (subst (λ t. Among (task_events task 0 ws rs) (record { entry = record { task = t; call = c }; words = w; told = r })) number (task_event task 0 c c ws rs w r (zero-add c) planned recorded))
event_among task (suc i) c n (ws ∷ wss) (rs ∷ rss) w r is planned recorded =
    among_right (task_events task 0 ws rs) (events_from (task + 1) wss rss) (record { entry = record { task = n; call = c }; words = w; told = r }) (event_among (task + 1) i c n wss rss w r (omega (arith, is)) planned recorded)

-- ---- events at their positions

-- what stands before in a part stands before in all
before_right : (xs ys : List Event) (v u : Event) → Before ys v u → Before (xs ++ ys) v u
before_right xs ys v u b = record {
  earlier = xs ++ b.earlier;
  between = b.between;
  later = b.later;
  is = ap (λ zs. xs ++ zs) b.is ∙ sym (append_assoc xs (b.earlier ++ v ∷ b.between) (u ∷ b.later)) ∙ ap (λ zs. zs ++ u ∷ b.later) (sym (append_assoc xs b.earlier (v ∷ b.between)));
}

-- an event of the first part stands before one of the second
before_split : (xs ys : List Event) (v u : Event) → Among xs v → Among ys u → Before (xs ++ ys) v u
before_split xs ys v u a b = record {
  earlier = a.0;
  between = a.1 ++ b.0;
  later = b.1;
  is = (λ i. a.2 i ++ b.2 i) ∙ sym (append_assoc (a.0 ++ v ∷ a.1) b.0 (u ∷ b.1)) ∙ ap (λ zs. zs ++ u ∷ b.1) (append_assoc a.0 (v ∷ a.1) b.0);
}

module _ {Call : Type 0} (o : Obj Call) (events : List Event) where
  abbrev place : Event → ℕ
  place v = position o v.words v.told

  among_positions : (p count : ℕ) (v : Event) → Among events v → p ≤ place v → place v < p + count → Among (at_positions o events p count) v
  among_positions p zero v is from below = absurd (omega (arith, from, below))
  among_positions p (suc count) v is from below = go (λ later. among_positions (p + 1) count v is later (omega (arith, below))) (cases_lt p (place v))
    where
      go : (p + 1 ≤ place v → Among (at_positions o events (p + 1) count) v) → (p < place v) ⊎ (place v ≤ p) → Among (at_positions o events p (suc count)) v
      go rest (inl later) = among_right (filter (stands_at o p) events) (at_positions o events (p + 1) count) v (rest (omega (arith, later)))
      go rest (inr here) = among_left (filter (stands_at o p) events) (at_positions o events (p + 1) count) v (among_filter (stands_at o p) events v (eq-eqb (place v) p (omega (arith, from, here))) is)

  before_positions : (p count : ℕ) (v u : Event) → Among events v → Among events u → p ≤ place v → place v < place u → place u < p + count → Before (at_positions o events p count) v u
  before_positions p zero v u is are from less below = absurd (omega (arith, from, less, below))
  before_positions p (suc count) v u is are from less below = go (λ later. before_positions (p + 1) count v u is are later less (omega (arith, below))) (cases_lt p (place v))
    where
      go : (p + 1 ≤ place v → Before (at_positions o events (p + 1) count) v u) → (p < place v) ⊎ (place v ≤ p) → Before (at_positions o events p (suc count)) v u
      go rest (inl later) = before_right (filter (stands_at o p) events) (at_positions o events (p + 1) count) v u (rest (omega (arith, later)))
      go rest (inr here) =
          before_split (filter (stands_at o p) events) (at_positions o events (p + 1) count) v u (among_filter (stands_at o p) events v (eq-eqb (place v) p (omega (arith, from, here))) is)
          (among_positions (p + 1) count u are (omega (arith, from, less)) (omega (arith, below)))

-- each call of a legal history has a position up to that behind the whole log
events_below : {Call : Type 0} (o : Obj Call) (u : Unavailable) (plan : Plan) (log : List Entry) (task : ℕ) (wss : Plan) (rss : Records) → AreRecords o u plan log task wss rss → AllBelow o (length log * 2 + 1) (events_from task wss rss)
events_below o u plan log task [] rss legal = tt
events_below o u plan log task (ws ∷ wss) [] legal = tt
events_below o u plan log task (ws ∷ wss) (rs ∷ rss) legal =
    all_append (λ v. position o v.words v.told < length log * 2 + 1) (task_events task 0 ws rs) (events_from (task + 1) wss rss) (task_below o u plan log task 0 0 ws rs legal.0) (events_below o u plan log (task + 1) wss rss legal.1)

-- so a legal history has its calls in the order of their positions
pub keeps_positions : {Call : Type 0} (o : Obj Call) (u : Unavailable) → KeepsPositions o u
keeps_positions o u plan records log state v w legal first second less =
    let events = events_from 0 plan records in
    let is = event_among 0 v.entry.task v.entry.call v.entry.task plan records v.words v.told (zero-add v.entry.task) first.planned first.recorded in
    let are = event_among 0 w.entry.task w.entry.call w.entry.task plan records w.words w.told (zero-add w.entry.task) second.planned second.recorded in
    let below = all_middle (λ x. position o x.words x.told < length log * 2 + 1) are.0 w are.1 (subst (AllBelow o (length log * 2 + 1)) are.2 (events_below o u plan log 0 plan records legal.recorded)) in
    subst (λ es. Before es v w) (sym (stands_so o events log 0 log (named o u plan records log state legal) (λ i. ap (slice_get log) (sym (add-zero i)))))
    (before_positions o events 0 (length log * 2 + 1) v w is are (omega arith) less (omega (arith, below)))
