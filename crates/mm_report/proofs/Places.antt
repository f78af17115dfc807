-- What stands at a place of a filtered list, of a task's events and of their text.
use Rattle.std.proofs.Common.{◌≡◌, ℕ, ◌+◌, ◌<◌, Bool, true, false, cond, zero, suc, List, [], ◌∷◌, ◌++◌, length, take, map, ◌-◌, refl, sym, ap, ◌∙◌, add-zero, zero-add, nat_eq, arith, Some, subst}
use Rattle.std.specs.Prelude.{slice_get, filter, count_by}
use Rattle.std.proofs.lemmas.Option.{same_Some, slice_get-map, slice_get_within}
use Rattle.std.proofs.lemmas.List.Sums.{length-filter}
use Rattle.std.proofs.lemmas.Bool.Decides.{nat_tests}
use Rattle.word_bits.specs.Histories.{task_events}
use Rattle.task_script.specs.Scripts.{call_words, is_on}
use Rattle.word_bits.specs.RecWord.{IsRec, rec_word}
use Rattle.word_bits.proofs.EventCounts.{count_cons}
use Rattle.task_script.proofs.Mapped.{mapped_at}
use Rattle.mm_report.specs.Text.{number_of}
use Rattle.mm_report.specs.Cursors.{HasRecords, calls_before, events_of}
use Rattle.mm_report.specs.Types.{CallWords, Rec, Line}
use Rattle.task_script.proofs.Mapped.{at_place}

-- one more element in front, kept or dropped, moves a place
filter_step : {X : Type 0} (y x : X) (b : Bool) (n : ℕ) (fs : List X) → slice_get fs n ≡ Some x → slice_get (cond b (y ∷ fs) fs) (cond b 1 0 + n) ≡ Some x
filter_step y x true n fs h = let e : 1 + n ≡ suc n = omega arith in rw e h
filter_step y x false n fs h = rw (zero-add n) h

-- an element that passes stands in the filtered list behind those before it that pass
pub filter_at : {X : Type 0} (p : X → Bool) (xs : List X) (i : ℕ) (x : X) → slice_get xs i ≡ Some x → p x ≡ true → slice_get (filter p xs) (count_by p (take i xs)) ≡ Some x
filter_at p [] i x is passes = cc
filter_at p (y ∷ ys) zero x is passes = rw (same_Some y x is, passes) refl
filter_at p (y ∷ ys) (suc i) x is passes = rw (count_cons p y (take i ys)) (filter_step y x (p y) (count_by p (take i ys)) (filter p ys) (filter_at p ys i x is passes))

-- one more call in front, on the object or not, moves a number
number_step : (b : Bool) (n m : ℕ) (f : ℕ → ℕ) → f n ≡ m → cond b (cond (nat_eq (cond b 1 0 + n) 0) 0 (f (cond b 1 0 + n - 1) + 1)) (f (cond b 1 0 + n) + 1) ≡ suc m
number_step true n m f h =
    let later : nat_eq (1 + n) 0 ≡ false = grind (arith, nat_tests) in
    let e : 1 + n - 1 ≡ n = omega arith in
    rw (later, e, h) (omega arith)
number_step false n m f h = rw (zero-add n, h) (omega arith)

-- the number of a call among all calls of its task
pub number_at : (object : ℕ) (ls : List Line) (i : ℕ) (l : Line) → slice_get ls i ≡ Some l → is_on object l ≡ true → number_of object ls (count_by (is_on object) (take i ls)) ≡ i
number_at object [] i l is passes = cc
number_at object (m ∷ ms) zero l is passes = rw (same_Some m l is, passes) refl
number_at object (m ∷ ms) (suc i) l is passes =
    rw (count_cons (is_on object) m (take i ms)) (number_step (is_on object m) (count_by (is_on object) (take i ms)) i (number_of object ms) (number_at object ms i l is passes))

-- at each place stands the event of the call and the record there
pub event_at : (task call : ℕ) (ws : List CallWords) (rs : List Rec) (c : ℕ) (w : CallWords) (r : Rec) → slice_get ws c ≡ Some w → slice_get rs c ≡ Some r
    → slice_get (task_events task call ws rs) c ≡ Some (record { entry = record { task = task; call = call + c }; words = w; told = r })
event_at task call [] rs c w r iw ir = cc
event_at task call (v ∷ vs) [] c w r iw ir = cc
event_at task call (v ∷ vs) (q ∷ qs) zero w r iw ir = rw (same_Some v w iw, same_Some q r ir, add-zero call) refl
event_at task call (v ∷ vs) (q ∷ qs) (suc c) w r iw ir =
    let e : call + 1 + c ≡ call + suc c = omega arith in
    event_at task (call + 1) vs qs c w r iw ir ∙ ap (λ n. Some (record { entry = record { task = task; call = n }; words = w; told = r })) e

-- of as many records as calls all events are made
pub events_length : (task call : ℕ) (ws : List CallWords) (rs : List Rec) → length rs ≡ length ws → length (task_events task call ws rs) ≡ length ws
events_length task call [] rs same = refl
events_length task call (w ∷ ws) [] same = absurd (omega arith)
events_length task call (w ∷ ws) (r ∷ rs) same = ap suc (events_length task (call + 1) ws rs (omega arith))

-- what stands behind a list
behind_list : {X : Type 0} (xs ys : List X) (i : ℕ) → slice_get (xs ++ ys) (length xs + i) ≡ slice_get ys i
behind_list [] ys i = ap (slice_get ys) (zero-add i)
behind_list (x ∷ xs) ys i = let later : suc (length xs) + i ≡ suc (length xs + i) = omega arith in rw later (behind_list xs ys i)

-- what stands in the first of two lists
in_first : {X : Type 0} (xs ys : List X) (i : ℕ) (x : X) → slice_get xs i ≡ Some x → slice_get (xs ++ ys) i ≡ Some x
in_first [] ys i x is = cc
in_first (z ∷ xs) ys zero x is = is
in_first (z ∷ xs) ys (suc i) x is = in_first xs ys i x is

-- a call on the object as it stands among its task's, and its record as it stands among the words
pub record IsCallAt (object task : ℕ) (ls : List Line) (rs : List Rec) (recs : List ℕ) (n place : ℕ) (l : Line) : Type 0 where
  pub told : Rec
  pub fit : IsRec told
  pub read : slice_get recs place ≡ Some (rec_word told)
  pub at : slice_get (events_of object task ls rs) (calls_before object ls n) ≡ Some (record { entry = record { task = task; call = calls_before object ls n }; words = call_words l; told = told })
  pub number : number_of object ls (calls_before object ls n) ≡ n

pub call_at : (object task : ℕ) (ls : List Line) (rs : List Rec) (recs : List ℕ) (first n place : ℕ) (l : Line) → slice_get ls n ≡ Some l → is_on object l ≡ true → HasRecords object ls recs first rs → place ≡ first + calls_before object ls n
    → IsCallAt object task ls rs recs n place l
call_at object task ls rs recs first n place l at passes has is =
    let call = calls_before object ls n in
    let on = filter_at (is_on object) ls n l at passes in
    let within : call < length rs = omega (arith, slice_get_within (filter (is_on object) ls) call l on, length-filter (is_on object) ls, has.each) in
    let r = at_place rs call within in
    let m = mapped_at IsRec rec_word rs (map rec_word rs) call (rec_word r.0) has.fit refl (slice_get-map rec_word rs call ∙ rw r.1 refl) in
    let same = same_Some r.0 m.0 (sym r.1 ∙ m.1) in
    let w : slice_get (map call_words (filter (is_on object) ls)) call ≡ Some (call_words l) = slice_get-map call_words (filter (is_on object) ls) call ∙ rw on refl in
    let word : slice_get (map rec_word rs) call ≡ Some (rec_word r.0) = slice_get-map rec_word rs call ∙ rw r.1 refl in
    let there : length has.others + call ≡ place = omega (arith, has.starts, is) in
    let here = event_at task 0 (map call_words (filter (is_on object) ls)) rs call (call_words l) r.0 w r.1 in record {
      told = r.0;
      fit = subst IsRec (sym same) m.2;
      read = ap (λ ws. slice_get ws place) has.words ∙ ap (slice_get (has.others ++ (map rec_word rs ++ has.more))) (sym there) ∙ behind_list has.others (map rec_word rs ++ has.more) call ∙ in_first (map rec_word rs) has.more call (rec_word r.0) word;
      at = here ∙ ap (λ k. Some (record { entry = record { task = task; call = k }; words = call_words l; told = r.0 })) (zero-add call);
      number = number_at object ls n l at passes;
    }
