-- A holder's load may learn of all calls: no more calls were interrupted than signals are sent.
use Rattle.std.proofs.Common.{◌≡◌, ◌≢◌, ℕ, zero, suc, ◌+◌, ◌&&◌, ◌==◌, ◌<◌, ◌≤◌, Bool, true, false, List, [], ◌∷◌, length, slice_get, sum_by, count_by, cond, Option, Some, refl, sym, ap, ◌∙◌, subst, arith, eq-eqb}
use Rattle.std.proofs.lemmas.List.Sums.{sum_by-cons}
use Rattle.std.specs.Option.{option_map_or}
use mathlib.Core.Option.{some, some-injective}
use mathlib.Core.Logic.{dite}
use native.Mathlib.Decide.{ℕ_discrete}
use lib.ListN.{get_elem?}
use Rattle.word_bits.specs.LockWords.{Unavailable}
use Rattle.word_bits.specs.Objects.{Obj}
use Rattle.word_bits.specs.Histories.{Plan, Records}
use Rattle.word_bits.specs.Legal.{signals_to}
use Rattle.lock_core.specs.Layout.{SiteWords}
use Rattle.lock_core.specs.Records.{bit, row, is_sent, task_sends, sends, intrs, AreNext}
use Rattle.lock_core.specs.Views.{is_number, held_weight, alone_weight, owed_weight, held_of, alone_of, owed_of, named_of, sent_of}
use Rattle.lock_core.specs.Sites.{SiteKept}
use Rattle.lock_core.specs.Totals.{total, total-at, total-two}
use Rattle.lock_core.specs.Chronicles.{Chronicles}
use Rattle.lock_core.specs.Types.{CallWords, Entry, Rec, Hand, Held, No, Shared, Alone, Stage, Rest, Entered, Logged}
use Rattle.lock_core.proofs.RowLaws.{none-some, same-some, some-inside, row-task}
use Rattle.lock_core.proofs.Numbering.{next-short}
use Rattle.lock_core.proofs.HandLaws.{number-or-not, is_number-here, is_number-else}
use Rattle.lock_core.proofs.Signalling.{total-plus, total-below, number-most}
use Rattle.word_bits.specs.declared.TheConstants.{MAX_TASKS}

-- whether the call behind the recorded ones is a signal to the task
abbrev next_sends : ℕ → List CallWords → List Rec → Bool
next_sends t [] rs = false
next_sends t (w ∷ ws) [] = signals_to t w
next_sends t (w ∷ ws) (r ∷ rs) = next_sends t ws rs

abbrev pends : ℕ → Plan → Records → ℕ
pends t [] told = 0
pends t (ws ∷ wss) [] = 0
pends t (ws ∷ wss) (rs ∷ rss) = bit (next_sends t ws rs) + pends t wss rss

abbrev only : Bool → ℕ → ℕ
only true n = n
only false n = 0

-- what a hand counts for, by the task whose number it has
abbrev counts : ℕ → ℕ → Plan → Records → Hand → ℕ
counts t u [] told h = 0
counts t u (ws ∷ wss) [] h = 0
counts t u (ws ∷ wss) (rs ∷ rss) h = only (next_sends t ws rs) (named_of u h) + counts t (u + 1) wss rss h

total-only : (b : Bool) (u : ℕ) (hs : List Hand) → total (named_of u) hs ≤ 1 → total (λ h. only b (named_of u h)) hs ≤ bit b
total-only true u hs one = one
total-only false u hs one = none hs
  where
    none : (hs : List Hand) → total (λ h. only false (named_of u h)) hs ≤ 0
    none [] = omega arith
    none (h ∷ hs) = let r = none hs in omega (arith, r)

total-zero : (hs : List Hand) → total (λ (h : Hand). 0) hs ≤ 0
total-zero [] = omega arith
total-zero (h ∷ hs) = let r = total-zero hs in omega (arith, r)

total-counts : (t u : ℕ) (k : Plan) (told : Records) (hs : List Hand) → u + length k ≤ MAX_TASKS → ((v : ℕ) → v < MAX_TASKS → total (named_of v) hs ≤ 1) → total (counts t u k told) hs ≤ pends t k told
total-counts t u [] told hs few one = total-zero hs
total-counts t u (ws ∷ wss) [] hs few one = total-zero hs
total-counts t u (ws ∷ wss) (rs ∷ rss) hs few one = let a = total-plus (λ h. only (next_sends t ws rs) (named_of u h)) (counts t (u + 1) wss rss) hs in let b = total-only (next_sends t ws rs) u hs (one u (omega (arith, few))) in
    let c = total-counts t (u + 1) wss rss hs (omega (arith, few)) one in omega (arith, a, b, c)

-- where the next call is a signal to the task
next-is-sent : (t : ℕ) (ws : List CallWords) (rs : List Rec) (w : CallWords) → slice_get ws (length rs) ≡ Some w → next_sends t ws rs ≡ signals_to t w
next-is-sent t [] rs w is = none-some w is
next-is-sent t (x ∷ ws) [] w is = ap (signals_to t) (same-some x w is)
next-is-sent t (x ∷ ws) (r ∷ rs) w is = next-is-sent t ws rs w is

counted : (t u v : ℕ) (k : Plan) (told : Records) (h : Hand) → h.task ≡ Some (u + v) → v < length k → length told ≡ length k → next_sends t (row k v) (row told v) ≡ true → 1 ≤ counts t u k told h
counted t u v [] told h has inside same sends_it = absurd (omega (arith, inside))
counted t u v (ws ∷ wss) [] h has inside same sends_it = absurd (omega (arith, same))
counted t u zero (ws ∷ wss) (rs ∷ rss) h has inside same sends_it = let at : u + zero ≡ u = omega arith in let one : named_of u h ≡ 1 = ap (is_number u) (has ∙ ap Some at) ∙ is_number-here u in
    let here : only (next_sends t ws rs) (named_of u h) ≡ 1 = ap (λ (b : Bool). only b (named_of u h)) sends_it ∙ one in omega (arith, here)
counted t u (suc v) (ws ∷ wss) (rs ∷ rss) h has inside same sends_it = let at : u + suc v ≡ u + 1 + v = omega arith in let r = counted t (u + 1) v wss rss h (has ∙ ap Some at) (omega (arith, inside)) (omega (arith, same)) sends_it in omega (arith, r)

-- each call is counted once
bit-cond : (b : Bool) → cond b 1 0 ≡ bit b
bit-cond true = refl
bit-cond false = refl

count-cons : (p : CallWords → Bool) (x : CallWords) (xs : List CallWords) → count_by p (x ∷ xs) ≡ bit (p x) + count_by p xs
count-cons p x xs = sum_by-cons (λ y. cond (p y) 1 0) x xs ∙ ap (λ (z : ℕ). z + count_by p xs) (bit-cond (p x))

sent-and : (a b : Bool) → bit (a && b) ≤ bit b
sent-and true true = omega arith
sent-and true false = omega arith
sent-and false true = omega arith
sent-and false false = omega arith

row-counts : (t : ℕ) (ws : List CallWords) (rs : List Rec) → task_sends t ws rs + bit (next_sends t ws rs) ≤ count_by (signals_to t) ws
row-counts t [] rs = omega arith
row-counts t (w ∷ ws) [] = let c = count-cons (signals_to t) w ws in omega (arith, c)
row-counts t (w ∷ ws) (r ∷ rs) = let n = row-counts t ws rs in let c = count-cons (signals_to t) w ws in let m = sent-and (is_sent r.reply) (signals_to t w) in omega (arith, n, c, m)

all-counts : (t : ℕ) (k : Plan) (told : Records) → sends t k told + pends t k told ≤ sum_by (count_by (signals_to t)) k
all-counts t [] told = omega arith
all-counts t (ws ∷ wss) [] = omega arith
all-counts t (ws ∷ wss) (rs ∷ rss) = let a = row-counts t ws rs in let b = all-counts t wss rss in let c = sum_by-cons (count_by (signals_to t)) ws wss in omega (arith, a, b, c)

intrs-none : (rs : List Rec) → length rs ≡ 0 → intrs rs ≡ 0
intrs-none [] e = refl
intrs-none (r ∷ rs) e = absurd (omega (arith, e))

total-none : (vs : List Hand) → ((j : ℕ) (v : Hand) → get_elem? vs j ≡ some v → owed_of v ≡ 0) → total owed_of vs ≡ 0
total-none [] each = refl
total-none (v ∷ vs) each = let here = each 0 v refl in let rest = total-none vs (λ j w at. each (suc j) w at) in omega (arith, here, rest)

held-some : (x : Held) → x ≢ No → held_weight x ≡ 1
held-some No n = absurd (n refl)
held-some Shared n = refl
held-some Alone n = refl

module _ {Call : Type 0} (o : Obj Call) (unavailable : Unavailable) (size : ℕ) (k : Plan) (w : SiteWords) (hs : List Hand) (r : SiteKept o unavailable size k w hs) where
  unrecorded : (t : ℕ) → total (sent_of t) hs ≤ pends t k r.told
  unrecorded t = let few = r.laid.small.tasks in let tasks = r.tells.tasks in let b = total-counts t 0 k r.told hs (omega (arith, few)) (λ v l. (r.balances.named v l).1) in
      let a = total-below (sent_of t) (counts t 0 k r.told) hs (λ j h at. number-or-not h.sent
      (λ none. let z : sent_of t h ≡ 0 = ap (is_number t) none in omega (arith, z))
      (λ x is. dite (ℕ_discrete x t)
      (λ same. let q = (r.each j h at).signals x is in let mine = (r.each j h at).mine q.0 q.2 in let inside = mine.0 in let zero_at : q.0 ≡ 0 + q.0 = omega arith in
      let planned : slice_get (row k q.0) (length (row r.told q.0)) ≡ Some q.1 = ap (slice_get (row k q.0)) (sym mine.1) ∙ q.3 in
      let sends_it : signals_to t q.1 ≡ true = ap (λ (z : Option ℕ). option_map_or (λ y. y == t) z false) q.4 ∙ eq-eqb x t same in
      let c = counted t 0 q.0 k r.told h (q.2 ∙ ap Some zero_at) inside tasks (next-is-sent t (row k q.0) (row r.told q.0) q.1 planned ∙ sends_it) in let m = number-most t h.sent in omega (arith, c, m))
      (λ other. let z : sent_of t h ≡ 0 = ap (is_number t) is ∙ is_number-else t x other in omega (arith, z)))) in omega (arith, a, b)

  pub site-interrupts : (t : ℕ) → intrs (row r.told t) ≤ sum_by (count_by (signals_to t)) k
  site-interrupts t = elim (native.Mathlib.Decide.dec_le MAX_TASKS t) [
    | yes out ↦ let few = r.laid.small.tasks in let short = next-short o unavailable k r.log t 0 0 (row k t) (row r.told t) (r.tells.legal t) in
        elim (native.Mathlib.Decide.dec_le 1 (length (row k t))) [
          | yes some_it ↦ let l = row-task k t 0 (omega (arith, some_it)) in absurd (omega (arith, l, few, out))
          | no none ↦ let z = intrs-none (row r.told t) (omega (arith, none, short)) in omega (arith, z)
        ]
    | no within ↦ let l : t < MAX_TASKS = omega (arith, within) in let a = r.balances.consumed t l in let p = r.balances.pending t l in let s = r.balances.sent t l in let u = unrecorded t in let b = all-counts t k r.told in omega (arith, a, p, s, u, b)
  ]

module _ {Call : Type 0} (o : Obj Call) (unavailable : Unavailable) (size : ℕ) (k : Plan) (w : SiteWords) (hs : List Hand) (id : ℕ) (h : Hand) (r : SiteKept o unavailable size k w hs) (at : get_elem? hs id ≡ some h) (holds : h.held ≢ No) (rests : h.stage ≡ Rest) where
  -- while a pass holds and isn't in a commit, no pass owes the record of an entry
  none-owed : total owed_of hs ≡ 0
  none-owed = total-none hs (λ j g at'. go j g at' g.stage refl)
    where
      go : (j : ℕ) (g : Hand) → get_elem? hs j ≡ some g → (s : Stage) → g.stage ≡ s → owed_of g ≡ 0
      go j g at' Rest is = ap owed_weight is
      go j g at' (Entered e) is = ap owed_weight is
      go j g at' (Logged e) is = dite (ℕ_discrete j id)
          (λ same. let it : some g ≡ some h = sym at' ∙ (ap (get_elem? hs) same ∙ at) in ap owed_weight (ap {A = Hand} (λ x. x.stage) (some-injective g h it) ∙ rests))
          (λ other.
          let alone = ((r.each j g at').logged e is).0 in
          let a : alone_of g ≡ 1 = ap alone_weight alone in
          let b : held_of g ≡ 1 = ap held_weight alone in
          let c : held_of h ≡ 1 = held-some h.held holds in
          let d = total-at alone_of hs j g at' in
          let both = total-two held_of hs j id g h at' at other in
          let most = r.balances.apart (omega (arith, a, d)) in
          absurd (omega (arith, b, c, both, most)))

  pub site-chronicles : Chronicles o unavailable k h.records h.log
  site-chronicles =
      let same : h.log ≡ r.log = ((r.each id h at).known holds).1 in record {
        told = r.told;
        tasks = r.tells.tasks;
        legal = λ t. subst (λ (l : List Entry). AreNext o unavailable k l t 0 0 (row k t) (row r.told t)) (sym same) (r.tells.legal t);
        logged = λ j e here. let there : slice_get r.log j ≡ Some e = ap (λ (l : List Entry). slice_get l j) (sym same) ∙ here in
            let inside = some-inside r.log j e there in r.balances.recorded j e there (let none = none-owed in omega (arith, inside, none));
        interrupted = site-interrupts o unavailable size k w hs r;
        knows = (r.each id h at).knows;
      }
