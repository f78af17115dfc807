-- The words of a new table are those of a site without entries and records.
use Rattle.std.proofs.Common.{◌≡◌, ℕ, zero, suc, ◌+◌, ◌-◌, ◌*◌, ◌<◌, ◌≤◌, List, [], ◌∷◌, ◌++◌, length, take, drop, get_or, replicate, Some, sym, refl, ap, ◌∙◌, subst, arith, length-append, take_all}
use Rattle.std.proofs.lemmas.List.{length-replicate}
use mathlib.Core.Option.{some-ne-none}
use Rattle.word_bits.specs.LockWords.{Unavailable}
use Rattle.word_bits.specs.Objects.{Obj}
use Rattle.word_bits.specs.Histories.{Plan, Records}
use Rattle.lock_core.specs.declared.layout.TheConstants.{LOCK_WORDS, ENTRIES_AT, LENGTH_AT, LINES_AT}
use Rattle.lock_core.specs.Plans.{calls_in, task_words, call_words, IsSmall}
use Rattle.lock_core.specs.Layout.{SiteWords, part, calls_at, width, lay, fresh, site}
use Rattle.lock_core.specs.Records.{row, task_recs, rec_words, sends, task_sends, intrs, IsPlan, AreNext}
use Rattle.lock_core.specs.Views.{stranger}
use Rattle.lock_core.specs.SiteStated.{IsNew}
use Rattle.lock_core.specs.Pasts.{opening}
use Rattle.lock_core.specs.Sites.{HeardOk, SiteKept, HandOk, taken_at, sent_at, consumed_at}
use Rattle.lock_core.specs.Types.{CallWords, Rec, Hand}
use Rattle.lock_core.specs.ViewParts.{each-snoc}
use Rattle.lock_core.proofs.RowLaws.{none-some, get-front}
use Rattle.lock_core.proofs.SeatSteps.{stranger-ok}
use Rattle.word_bits.specs.declared.TheConstants.{MAX_TASKS}

pub length-task_words : (ws : List CallWords) → length (task_words ws) ≡ 2 * length ws
length-task_words [] = refl
length-task_words (w ∷ ws) = let e = length-task_words ws in omega arith

pub length-call_words : (k : Plan) → length (call_words k) ≡ 2 * calls_in k
length-call_words [] = refl
length-call_words (ws ∷ wss) = let e = length-call_words wss in omega (arith, length-append (task_words ws) (call_words wss), length-task_words ws)

pub take-zeros : (b n : ℕ) (ys : List ℕ) → b ≤ n → take b (replicate {A = ℕ} n 0 ++ ys) ≡ replicate {A = ℕ} b 0
take-zeros zero n ys l = refl
take-zeros (suc b) zero ys l = absurd (omega arith)
take-zeros (suc b) (suc n) ys l = ap (λ (z : List ℕ). 0 ∷ z) (take-zeros b n ys (omega arith))

pub drop-zeros : (a n : ℕ) (ys : List ℕ) → a ≤ n → drop a (replicate {A = ℕ} n 0 ++ ys) ≡ replicate {A = ℕ} (n - a) 0 ++ ys
drop-zeros zero n ys l = let e : n ≡ n - 0 = omega arith in ap (λ (z : ℕ). replicate {A = ℕ} z 0 ++ ys) e
drop-zeros (suc a) zero ys l = absurd (omega arith)
drop-zeros (suc a) (suc n) ys l = let e : n - a ≡ suc n - suc a = omega arith in drop-zeros a n ys (omega arith) ∙ ap (λ (z : ℕ). replicate {A = ℕ} z 0 ++ ys) e

pub part-zeros : (a b n : ℕ) (ys : List ℕ) → a + b ≤ n → part a b (replicate {A = ℕ} n 0 ++ ys) ≡ replicate {A = ℕ} b 0
part-zeros a b n ys l = ap (take b) (drop-zeros a n ys (omega arith)) ∙ take-zeros b (n - a) ys (omega arith)

pub zero-at : (n i : ℕ) → get_or (replicate {A = ℕ} n 0) i 0 ≡ 0
zero-at zero i = refl
zero-at (suc n) zero = refl
zero-at (suc n) (suc i) = zero-at n i

pub zero-in : (n i : ℕ) (ys : List ℕ) → i < n → get_or (replicate {A = ℕ} n 0 ++ ys) i 0 ≡ 0
zero-in n i ys l = get-front (replicate {A = ℕ} n 0) ys i (omega (arith, length-replicate {A = ℕ} n 0)) ∙ zero-at n i

empty-row : (n t : ℕ) → row (replicate {A = List Rec} n []) t ≡ []
empty-row zero t = refl
empty-row (suc n) zero = refl
empty-row (suc n) (suc t) = empty-row n t

task_recs-empty : (ws : List CallWords) → task_recs ws [] ≡ replicate {A = ℕ} (length ws) 0
task_recs-empty [] = refl
task_recs-empty (w ∷ ws) = ap (λ (z : List ℕ). 0 ∷ z) (task_recs-empty ws) ∙ (let e : suc (length ws) ≡ length (w ∷ ws) = omega arith in ap (λ (z : ℕ). replicate {A = ℕ} z 0) e)

zeros-append : (a b : ℕ) → replicate {A = ℕ} a 0 ++ replicate {A = ℕ} b 0 ≡ replicate {A = ℕ} (a + b) 0
zeros-append a b = Rattle.std.proofs.lemmas.List.replicate-append-replicate a b 0

rec_words-empty : (k : Plan) → rec_words k (replicate {A = List Rec} (length k) []) ≡ replicate {A = ℕ} (calls_in k) 0
rec_words-empty [] = refl
rec_words-empty (ws ∷ wss) = let e : suc (length wss) ≡ length (ws ∷ wss) = omega arith in
    subst (λ (n : ℕ). rec_words (ws ∷ wss) (replicate {A = List Rec} n []) ≡ replicate {A = ℕ} (length ws + calls_in wss) 0) e
    ((λ i. task_recs-empty ws i ++ rec_words-empty wss i) ∙ zeros-append (length ws) (calls_in wss))

sends-empty : (t n : ℕ) (k : Plan) → sends t k (replicate {A = List Rec} n []) ≡ 0
sends-empty t n [] = refl
sends-empty t zero (ws ∷ wss) = refl
sends-empty t (suc n) (ws ∷ wss) = let e = sends-empty t n wss in let f = none ws in omega arith
  where
    none : (ws : List CallWords) → task_sends t ws [] ≡ 0
    none [] = refl
    none (w ∷ ws) = refl

calls_in-empty : (n : ℕ) → calls_in (replicate {A = List Rec} n []) ≡ 0
calls_in-empty zero = refl
calls_in-empty (suc n) = let e = calls_in-empty n in omega arith

pub fresh-site : (k : Plan) → drop LOCK_WORDS (fresh k) ≡ replicate {A = ℕ} (calls_at k) 0 ++ call_words k
fresh-site k = let e : (LOCK_WORDS + calls_at k) - LOCK_WORDS ≡ calls_at k = omega arith in
    drop-zeros LOCK_WORDS (LOCK_WORDS + calls_at k) (call_words k) (omega arith) ∙ ap (λ (z : ℕ). replicate {A = ℕ} z 0 ++ call_words k) e

pub length-fresh : (k : Plan) → length (fresh k) ≡ width k
length-fresh k = omega (arith, length-append (replicate {A = ℕ} (LOCK_WORDS + calls_at k) 0) (call_words k), length-replicate {A = ℕ} (LOCK_WORDS + calls_at k) 0, length-call_words k)

-- a lock's word is free at first
pub fresh-free : (k : Plan) (i : ℕ) → i < LOCK_WORDS → get_or (fresh k) i 0 ≡ 0
fresh-free k i l = zero-in (LOCK_WORDS + calls_at k) i (call_words k) (omega arith)

module _ {Call : Type 0} (o : Obj Call) (unavailable : Unavailable) (size : ℕ) (k : Plan) where
  opens : IsSmall k → IsPlan o k → size ≤ 257 → o.Represents o.empty (replicate size 0) → SiteKept o unavailable size k (lay k (replicate {A = ℕ} (calls_at k) 0 ++ call_words k)) (stranger (Some k) [] ∷ [])
  opens small planned fits zeros = let n : ℕ = calls_at k in let cs : List ℕ = call_words k in let s : List ℕ = replicate {A = ℕ} n 0 ++ cs in let w : SiteWords = lay k s in
      let told : Records = replicate {A = List Rec} (length k) [] in let h : Hand = stranger (Some k) [] in
      let guarded : w.guarded ≡ replicate {A = ℕ} LINES_AT 0 = take-zeros LINES_AT n cs (omega arith) in
      let lines : w.lines ≡ replicate {A = ℕ} (8 * MAX_TASKS) 0 = part-zeros LINES_AT (8 * MAX_TASKS) n cs (omega arith) in
      let entries : w.entries ≡ replicate {A = ℕ} (calls_in k) 0 = part-zeros ENTRIES_AT (calls_in k) n cs (omega arith) in
      let recs : w.recs ≡ replicate {A = ℕ} (calls_in k) 0 = part-zeros (ENTRIES_AT + calls_in k) (calls_in k) n cs (omega arith) in
      let none : n - calls_at k ≡ 0 = omega arith in
      let calls : w.calls ≡ cs = ap (take (2 * calls_in k)) (drop-zeros n n cs (omega arith) ∙ ap (λ (z : ℕ). replicate {A = ℕ} z 0 ++ cs) none) ∙ take_all (2 * calls_in k) cs (omega (arith, length-call_words k)) in
      let line : (i : ℕ) → get_or w.lines i 0 ≡ 0 = λ i. ap (λ (z : List ℕ). get_or z i 0) lines ∙ zero-at (8 * MAX_TASKS) i in record {
        log = [];
        told = told;
        laid = record {
          wide = omega (arith, length-append (replicate {A = ℕ} n 0) cs, length-replicate {A = ℕ} n 0, length-call_words k);
          calls = calls;
          planned = planned;
          small = small;
          guarded = ap length guarded ∙ length-replicate {A = ℕ} LINES_AT 0;
          lines = ap length lines ∙ length-replicate {A = ℕ} (8 * MAX_TASKS) 0;
          room = ap length entries ∙ length-replicate {A = ℕ} (calls_in k) 0;
        };
        tells = record {
          tasks = length-replicate {A = List Rec} (length k) [];
          within = omega arith;
          many = zero-in n LENGTH_AT cs (omega arith);
          entered = refl;
          filled = recs ∙ sym (rec_words-empty k);
          legal = λ t. subst (λ (rs : List Rec). AreNext o unavailable k [] t 0 0 (row k t) rs) (sym (empty-row (length k) t)) (none-next t (row k t));
        };
        balances = record {
          apart = λ l. absurd (omega (arith, l));
          quiet = λ _. subst (λ (z : List ℕ). o.Represents o.empty z) (sym (ap (take size) guarded ∙ take-front size (omega (arith, fits)))) zeros;
          recorded = λ j e there l. none-some e there;
          few = omega arith;
          named = λ t l. (line (taken_at t), omega arith);
          sent = λ t l. let a = line (sent_at t) in let b = sends-empty t (length k) k in omega arith;
          consumed = λ t l. let a = line (consumed_at t) in let b : intrs (row told t) ≡ 0 = ap intrs (empty-row (length k) t) in omega arith;
          pending = λ t l. let a = line (consumed_at t) in omega arith;
        };
        heard = each-snoc (HeardOk (lay k (replicate {A = ℕ} (calls_at k) 0 ++ call_words k)).lines) [] h (λ p t is. none-some p is) (λ j v e. absurd (some-ne-none v (sym e)));
        each = each-snoc (HandOk o unavailable size k w.guarded (get_or w.entries w.len 0) [] told) [] h (stranger-ok o unavailable size k w.guarded (get_or w.entries w.len 0) [] told (Some k) [] refl (omega arith) refl)
            (λ j v e. absurd (some-ne-none v (sym e)));
      }
    where
      take-front : (m : ℕ) → m ≤ LINES_AT → take m (replicate {A = ℕ} LINES_AT 0) ≡ replicate {A = ℕ} m 0
      take-front m l = ap (take m) (sym (mathlib.Core.List.append-nil (replicate {A = ℕ} LINES_AT 0))) ∙ take-zeros m LINES_AT [] l

      none-next : (t : ℕ) (ws : List CallWords) → AreNext o unavailable k [] t 0 0 ws []
      none-next t [] = tt
      none-next t (w ∷ ws) = tt

  -- the site's facts hold of a new table
  pub site-opens : IsSmall k → IsPlan o k → size ≤ 257 → o.Represents o.empty (replicate size 0) → SiteKept o unavailable size k (site k (fresh k)) (stranger (Some k) [] ∷ [])
  site-opens small planned fits zeros = subst (λ (s : List ℕ). SiteKept o unavailable size k (lay k s) (stranger (Some k) [] ∷ [])) (sym (fresh-site k)) (opens small planned fits zeros)

  -- such a table is new
  pub fresh-new : {E : Type 0} (marks : E → List ℕ) (idle : E) → size ≤ 257 → o.Represents o.empty (replicate size 0) → IsNew o size k (opening marks k idle)
  fresh-new marks idle fits zeros = let n : ℕ = calls_at k in let cs : List ℕ = call_words k in let there = fresh-site k in record {
    free = fresh-free k;
    lines = λ i. ap (λ (s : List ℕ). get_or (take (8 * MAX_TASKS) (drop LINES_AT s)) i 0) there ∙ (ap (λ (s : List ℕ). get_or s i 0) (part-zeros LINES_AT (8 * MAX_TASKS) n cs (omega arith)) ∙ zero-at (8 * MAX_TASKS) i);
    stored = subst (λ (z : List ℕ). o.Represents o.empty z) (sym (ap (λ (s : List ℕ). take size (take LINES_AT s)) there ∙ (ap (take size) (take-zeros LINES_AT n cs (omega arith)) ∙ front size (omega (arith, fits))))) zeros;
    logged = ap (λ (s : List ℕ). get_or s LENGTH_AT 0) there ∙ zero-in n LENGTH_AT cs (omega arith);
    recorded = ap (λ (s : List ℕ). take (calls_in k) (drop (ENTRIES_AT + calls_in k) s)) there ∙ part-zeros (ENTRIES_AT + calls_in k) (calls_in k) n cs (omega arith);
    hands = refl;
    spins = refl;
  }
    where
      front : (m : ℕ) → m ≤ LINES_AT → take m (replicate {A = ℕ} LINES_AT 0) ≡ replicate {A = ℕ} m 0
      front m l = ap (take m) (sym (mathlib.Core.List.append-nil (replicate {A = ℕ} LINES_AT 0))) ∙ take-zeros m LINES_AT [] l
