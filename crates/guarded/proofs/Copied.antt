-- Lists that are copied one by one.
use Rattle.std.proofs.Common.{◌≡◌, ◌≢◌, ⊎_elim, ℕ, zero, suc, ◌+◌, ◌<◌, List, [], ◌∷◌, ◌++◌, length, take, map, slice_get, slice_index, Some, false, refl, sym, ap, ◌∙◌, subst, arith, add-one, append_assoc, length-append}
use mathlib.Core.Logic.{dite}
use native.Mathlib.Decide.{ℕ_discrete}
use Rattle.std.proofs.lemmas.Grind.{common_steps}
use Rattle.std.proofs.lemmas.List.{map-append}
use Rattle.word_bits.specs.EntryWord.{entry_word}
use Rattle.word_bits.specs.RecWord.{IsRec, rec_word}
use Rattle.word_bits.specs.Snapshots.{Words}
use Rattle.word_bits.specs.Histories.{Plan}
use Rattle.lock_core.specs.Layout.{record_place}
use Rattle.lock_core.specs.Records.{row}
use Rattle.lock_core.specs.Views.{Knows}
use Rattle.lock_core.specs.Pasts.{FoundAt, GoesOn}
use Rattle.lock_core.specs.Shown.{Shown, IsLatestStep}
use Rattle.lock_core.proofs.RowLaws.{none-some, same-some, some-inside, get-there, get-longer, get-last, get-either}
use Rattle.guarded.specs.ObjectCopying.{AreTaskWords, AreRecWords, FoundBetween, HeldAlone, joined}
use Rattle.guarded.specs.Types.{Entry, Rec, Hand, Alone, Moment}

module _ {X : Type 0} where
  take-some : (xs : List X) (i : ℕ) (x : X) → slice_get xs i ≡ Some x → take (suc i) xs ≡ take i xs ++ x ∷ []
  take-some [] i x at = none-some x at
  take-some (y ∷ xs) zero x at = ap (λ z. z ∷ []) (same-some y x at)
  take-some (y ∷ xs) (suc i) x at = ap (λ zs. y ∷ zs) (take-some xs i x at)

  row-front : (xss : List (List X)) (xs : List X) (t : ℕ) → t < length xss → row (xss ++ xs ∷ []) t ≡ row xss t
  row-front [] xs t l = absurd (omega arith)
  row-front (ys ∷ xss) xs zero l = refl
  row-front (ys ∷ xss) xs (suc t) l = row-front xss xs t (omega arith)

  row-last : (xss : List (List X)) (xs : List X) → row (xss ++ xs ∷ []) (length xss) ≡ xs
  row-last [] xs = refl
  row-last (ys ∷ xss) xs = row-last xss xs

pub log-more : (log : List Entry) (at word : ℕ) → at < length log → ((e : Entry) → slice_get log at ≡ Some e → word ≡ entry_word e) → map entry_word (take at log) ++ word ∷ [] ≡ map entry_word (take (at + 1) log)
log-more log at word inside value = let there = get-there log at inside in
    ap (λ w. map entry_word (take at log) ++ w ∷ []) (value there.0 there.1) ∙ (sym (map-append entry_word (take at log) (there.0 ∷ [])) ∙ (ap (map entry_word) (sym (take-some log at there.0 there.1)) ∙ ap (λ n. map entry_word (take n log)) (sym (add-one at))))

joined-more : (rows : List (List ℕ)) (words : List ℕ) → joined (rows ++ words ∷ []) ≡ joined rows ++ words
joined-more [] words = grind (arith, common_steps)
joined-more (r ∷ rows) words = ap (λ z. r ++ z) (joined-more rows words) ∙ sym (append_assoc r (joined rows) words)

-- a word that the last step found
pub found-now : (at n : ℕ) (old new : List Moment) → GoesOn old new → FoundAt at n new → FoundBetween at n old new
found-now at n old new goes there = record { past = new; found = there; after = goes; goes_on = λ p t. t }

found-wider : (at n : ℕ) (before old new behind : List Moment) → GoesOn before old → GoesOn new behind → FoundBetween at n old new → FoundBetween at n before behind
found-wider at n before old new behind begun ended f = record { past = f.past; found = f.found; after = λ p t. f.after p (begun p t); goes_on = λ p t. ended p (f.goes_on p t) }

-- the last step of a pass whose hand is still the one with which it came to hold alone
pub held-alone : (v m u : Shown) (known : List ℕ) → u.hand ≡ m.hand → m.hand.task ≡ v.hand.task → m.hand.held ≡ Alone → m.hand.writes ≡ false → m.hand.takes ≡ v.hand.takes + 1 → m.hand.records ≡ v.hand.records → m.hand.known ≡ known → IsLatestStep u → HeldAlone v.hand.task (v.hand.takes + 1) v.hand.records m.hand.log known u.past
held-alone v m u known same task alone quiet takes records is last =
    let e : last.step.hand ≡ m.hand = last.hand ∙ same in record {
      step = u.steps;
      by = record {
        now = last.step.now;
        before = last.step.before;
        rest = last.step.rest;
        seat = last.step.seat;
        past_is = last.step.past_is;
        hand = last.step.hand;
        is = last.step.is;
        named = ap {A = Hand} (λ h. h.task) e ∙ task;
        steps = last.step.steps;
        had = last.step.had;
        had_steps = last.step.had_steps;
        counts = last.step.counts;
      };
      alone = ap {A = Hand} (λ h. h.held) e ∙ alone;
      quiet = ap {A = Hand} (λ h. h.writes) e ∙ quiet;
      takes_is = ap {A = Hand} (λ h. h.takes) e ∙ takes;
      records_are = ap {A = Hand} (λ h. h.records) e ∙ records;
      log_is = ap {A = Hand} (λ h. h.log) e;
      known_is = ap {A = Hand} (λ h. h.known) e ∙ is;
    }

-- the one word of a list
sole : (word w j : ℕ) → slice_get (word ∷ []) j ≡ Some w → (j ≡ 0) × (word ≡ w)
sole word w j at = let inside = some-inside (word ∷ []) j w at in let first : j ≡ 0 = omega (arith, inside) in (first, same-some word w (subst (λ n. slice_get (word ∷ []) n ≡ Some w) first at))

module _ (k : Plan) (h : Hand) where
  words-wider : (before old new behind : List Moment) (t count : ℕ) (words : List ℕ) → GoesOn before old → GoesOn new behind → AreTaskWords k h old new t count words → AreTaskWords k h before behind t count words
  words-wider before old new behind t count words begun ended are = record {
    many = are.many;
    known = are.known;
    made = are.made;
    found = λ c w at. found-wider (record_place k t c) w before old new behind begun ended (are.found c w at);
  }

  pub words-none : (old new : List Moment) (t : ℕ) → AreTaskWords k h old new t 0 []
  words-none old new t = record { many = refl; known = λ c r l. absurd (omega (arith, l)); made = λ c w at. none-some w at; found = λ c w at. none-some w at }

  pub words-more : (old mid new : List Moment) (t count word : ℕ) (words : List ℕ) → AreTaskWords k h old mid t count words → GoesOn mid new → ((r : Rec) → Knows h (record { task = t; call = count }) r → word ≡ rec_word r) → (word ≢ 0 → (r : Rec) × IsRec r × (word ≡ rec_word r)) → FoundBetween (record_place k t count) word old new → AreTaskWords k h old new t (count + 1) (words ++ word ∷ [])
  words-more old mid new t count word words are goes value made there = record {
    many = let l = length-append words (word ∷ []) in let m = are.many in omega (arith, l, m);
    known = λ c r l knows. dite (ℕ_discrete c count)
        (λ same. subst (λ n. slice_get (words ++ word ∷ []) n ≡ Some (rec_word r)) (sym same) (get-last words word count are.many ∙ ap Some (value r (subst (λ n. Knows h (record { task = t; call = n }) r) same knows))))
        (λ other. get-longer words (word ∷ []) c (rec_word r) (are.known c r (omega (arith, l, other)) knows));
    made = λ c w at some. ⊎_elim
        (λ (l : slice_get words c ≡ Some w). are.made c w l some)
        (λ (q : (j : ℕ) × (c ≡ length words + j) × (slice_get (word ∷ []) j ≡ Some w)). let is = sole word w q.0 q.2 in subst (λ n. (r : Rec) × IsRec r × (n ≡ rec_word r)) is.1 (made (λ z. some (sym is.1 ∙ z))))
        (get-either words (word ∷ []) c w at);
    found = λ c w at. ⊎_elim
        (λ (l : slice_get words c ≡ Some w). found-wider (record_place k t c) w old old mid new (λ p b. b) goes (are.found c w l))
        (λ (q : (j : ℕ) × (c ≡ length words + j) × (slice_get (word ∷ []) j ≡ Some w)). let is = sole word w q.0 q.2 in let first = is.0 in let m = are.many in let e = q.1 in
        let here : c ≡ count = omega (arith, first, m, e) in subst (λ n. FoundBetween (record_place k t n) w old new) (sym here) (subst (λ n. FoundBetween (record_place k t count) n old new) is.1 there))
        (get-either words (word ∷ []) c w at);
  }

  pub rows-none : (old new : List Moment) → AreRecWords k h old new 0 []
  rows-none old new = record { many = refl; each = λ t l. absurd (omega (arith, l)) }

  pub rows-more : (old mid new : List Moment) (count : ℕ) (rows : List (List ℕ)) (words : List ℕ) → AreRecWords k h old mid count rows → GoesOn old mid → GoesOn mid new → AreTaskWords k h mid new count (length (row k count)) words → AreRecWords k h old new (count + 1) (rows ++ words ∷ [])
  rows-more old mid new count rows words are begun goes task = let all = words-wider old mid new new count (length (row k count)) words begun (λ p b. b) task in record {
    many = let l = length-append rows (words ∷ []) in let m = are.many in omega (arith, l, m);
    each = λ t l. dite (ℕ_discrete t count)
        (λ same. subst (λ n. AreTaskWords k h old new n (length (row k n)) (row (rows ++ words ∷ []) n)) (sym same) (subst (λ ws. AreTaskWords k h old new count (length (row k count)) ws) (sym (ap (row (rows ++ words ∷ [])) (sym are.many) ∙ row-last rows words)) all))
        (λ other. subst (λ ws. AreTaskWords k h old new t (length (row k t)) ws) (sym (row-front rows words t (let m = are.many in omega (arith, l, m, other)))) (words-wider old old mid new t (length (row k t)) (row rows t) (λ p b. b) goes (are.each t (omega (arith, l, other)))));
  }

  pub rows-wider : (before old new behind : List Moment) (count : ℕ) (rows : List (List ℕ)) → GoesOn before old → GoesOn new behind → AreRecWords k h old new count rows → AreRecWords k h before behind count rows
  rows-wider before old new behind count rows begun ended are = record { many = are.many; each = λ t l. words-wider before old new behind t (length (row k t)) (row rows t) begun ended (are.each t l) }

pub joined-snoc : (rows : List (List ℕ)) (words xs : List ℕ) → xs ≡ joined rows → xs ++ words ≡ joined (rows ++ words ∷ [])
joined-snoc rows words xs is = ap (λ z. z ++ words) is ∙ sym (joined-more rows words)

pub log-pushed : (a b c : Words) (xs ys : List ℕ) (w : ℕ) → b ≡ record a { log = xs } → c ≡ record b { log = b.log ++ w ∷ [] } → xs ++ w ∷ [] ≡ ys → c ≡ record a { log = ys }
log-pushed a b c xs ys w before now is = now ∙ ((λ i. record (before i) { log = (before i).log ++ w ∷ [] }) ∙ (λ i. record a { log = is i }))

pub state-pushed : (a b c : Words) (known : List ℕ) (at word : ℕ) → at < length known → b ≡ record a { state = take at known } → c ≡ record b { state = b.state ++ word ∷ [] } → word ≡ slice_index known at → c ≡ record a { state = take (at + 1) known }
state-pushed a b c known at word inside before now is =
    let grown : take at known ++ word ∷ [] ≡ take (at + 1) known = grind (arith, common_steps) in
    now ∙ ((λ i. record (before i) { state = (before i).state ++ word ∷ [] }) ∙ (λ i. record a { state = grown i }))

pub recs-pushed : (a b c : Words) (xs ws ys : List ℕ) → b ≡ record a { recs = xs } → c ≡ record b { recs = b.recs ++ ws } → xs ++ ws ≡ ys → c ≡ record a { recs = ys }
recs-pushed a b c xs ws ys before now is = now ∙ ((λ i. record (before i) { recs = (before i).recs ++ ws }) ∙ (λ i. record a { recs = is i }))
