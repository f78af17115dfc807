-- Plans of faults, and the share of a lock's rounds that a thread has.
use Rattle.std.proofs.Common.{◌≡◌, ◌≢◌, ℕ, zero, suc, ◌+◌, ◌*◌, ◌/◌, ◌<◌, ◌≤◌, List, [], ◌∷◌, ◌++◌, length, max, min, replicate, slice_get, Some, inl, inr, sym, refl, ap, ◌∙◌, subst, arith, append_assoc}
use Rattle.std.proofs.lemmas.Bool.{cases_lt}
use Rattle.std.proofs.lemmas.List.{append-nil, length-replicate, replicate_more}
use Rattle.std.proofs.Math.Nat.{mul-le-mul, mul-div-le}
use mathlib.Core.Logic.{dite}
use native.Mathlib.Decide.{ℕ_discrete}
use Rattle.word_bits.specs.declared.call.CallWords.{CallWords}
use Rattle.word_bits.specs.Histories.{Plan}
use Rattle.lock_core.specs.Plans.{appended, calls_in}
use Rattle.lock_core.specs.Records.{row, IsPlan, IsCallOrSignal}
use Rattle.lock_core.proofs.Planning.{calls_in-empty}
use Rattle.lock_core.proofs.RowLaws.{none-some, same-some, row-outside, row-appended, row-beside, length-appended, calls_in-appended}
use Rattle.vma_map.specs.Spaces.{space}
use Rattle.lock_bench.specs.FaultPlans.{HasFaults, MapsArea, fault_words, map_words}

pub get-replicate : (n : ℕ) (w : CallWords) (c : ℕ) → c < n → slice_get (replicate n w) c ≡ Some w
get-replicate zero w c l = absurd (omega arith)
get-replicate (suc n) w zero l = refl
get-replicate (suc n) w (suc c) l = get-replicate n w c (omega arith)

replicate-get : (n : ℕ) (w x : CallWords) (c : ℕ) → slice_get (replicate n w) c ≡ Some x → w ≡ x
replicate-get zero w x c e = none-some x e
replicate-get (suc n) w x zero e = same-some w x e
replicate-get (suc n) w x (suc c) e = replicate-get n w x c e

only-one : (w x : CallWords) (c : ℕ) → slice_get (w ∷ []) c ≡ Some x → w ≡ x
only-one w x zero e = same-some w x e
only-one w x (suc c) e = none-some x e

empty-row : (n t : ℕ) → row {X = CallWords} (replicate n []) t ≡ []
empty-row zero t = refl
empty-row (suc n) zero = refl
empty-row (suc n) (suc t) = empty-row n t

-- so many faults stand behind the calls that a task had
pub record HasPushed (k : Plan) (task n : ℕ) (u : Plan) : Type 0 where
  pub long : length u ≡ length k
  pub total : calls_in u ≡ calls_in k + n
  pub mine : row u task ≡ row k task ++ replicate n fault_words
  pub others : (t : ℕ) → t ≢ task → row u t ≡ row k t

pub none-pushed : (k : Plan) (task : ℕ) → HasPushed k task 0 k
none-pushed k task = record { long = refl; total = omega arith; mine = sym (append-nil (row k task)); others = λ t n. refl }

pub one-pushed : (k : Plan) (task n : ℕ) (u v : Plan) (w : CallWords) → task < length k → HasPushed k task n u → v ≡ appended u task w → w ≡ fault_words → HasPushed k task (n + 1) v
one-pushed k task n u v w there was more is = let long = was.long in let total = was.total in let inside : task < length u = omega (arith, there, long) in let one = ap (λ (z : Plan). calls_in z) more in record {
  long = ap (λ (z : Plan). length z) more ∙ (length-appended u task w ∙ long);
  total = omega (arith, total, one, calls_in-appended u task w inside);
  mine = ap (λ (z : Plan). row z task) more ∙ (row-appended u task w inside ∙ (ap (λ (ws : List CallWords). ws ++ w ∷ []) was.mine ∙ (append_assoc (row k task) (replicate n fault_words) (w ∷ [])
      ∙ (ap (λ (z : CallWords). row k task ++ (replicate n fault_words ++ z ∷ [])) is ∙ ap (λ (ws : List CallWords). row k task ++ ws) (replicate_more n fault_words)))));
  others = λ t n. ap (λ (z : Plan). row z t) more ∙ (row-beside u task t w n ∙ was.others t n);
}

-- the tasks below this number have their faults, and the one behind all of them maps the area
pub record HasFaultsBelow (tasks count task : ℕ) (k : Plan) : Type 0 where
  pub long : length k ≡ tasks + 1
  pub total : calls_in k ≡ task * count + 1
  pub maps : row k tasks ≡ map_words ∷ []
  pub full : (t : ℕ) → t < task → row k t ≡ replicate count fault_words
  pub empty : (t : ℕ) → task ≤ t → t < tasks → row k t ≡ []

pub no-faults : (tasks count : ℕ) (k u : Plan) (w : CallWords) → k ≡ replicate (tasks + 1) [] → u ≡ appended k tasks w → w ≡ map_words → HasFaultsBelow tasks count 0 u
no-faults tasks count k u w none more is = let long = ap (λ (z : Plan). length z) none ∙ length-replicate {A = List CallWords} (tasks + 1) [] in let inside : tasks < length k = omega (arith, long) in
    let one = ap (λ (z : Plan). calls_in z) more in let start = ap (λ (z : Plan). calls_in z) none in record {
      long = ap (λ (z : Plan). length z) more ∙ (length-appended k tasks w ∙ long);
      total = omega (arith, one, start, calls_in-appended k tasks w inside, calls_in-empty (tasks + 1));
      maps = ap (λ (z : Plan). row z tasks) more ∙ (row-appended k tasks w inside ∙ (ap (λ (z : Plan). row z tasks ++ w ∷ []) none ∙ (ap (λ (ws : List CallWords). ws ++ w ∷ []) (empty-row (tasks + 1) tasks) ∙ ap (λ (z : CallWords). z ∷ []) is)));
      full = λ t l. absurd (omega (arith, l));
      empty = λ t l m. ap (λ (z : Plan). row z t) more ∙ (row-beside k tasks t w (λ e. omega (arith, m, e)) ∙ (ap (λ (z : Plan). row z t) none ∙ empty-row (tasks + 1) t));
    }

pub more-faults : (tasks count task : ℕ) (k u : Plan) → task < tasks → HasFaultsBelow tasks count task k → HasPushed k task count u → HasFaultsBelow tasks count (task + 1) u
more-faults tasks count task k u less was did = let total = was.total in let more = did.total in record {
  long = did.long ∙ was.long;
  total = omega (arith, total, more);
  maps = did.others tasks (λ e. omega (arith, less, e)) ∙ was.maps;
  full = λ t l. dite (ℕ_discrete t task) (λ same. ap (row u) same ∙ (did.mine ∙ ap (λ (ws : List CallWords). ws ++ replicate count fault_words) (was.empty task (omega arith) less))) (λ other. did.others t other ∙ was.full t (omega (arith, l, other)));
  empty = λ t l m. did.others t (λ e. omega (arith, l, e)) ∙ was.empty t (omega (arith, l)) m;
}

pub no-calls : (n : ℕ) (k : Plan) → k ≡ replicate n [] → calls_in k ≡ 0
no-calls n k is = ap (λ (z : Plan). calls_in z) is ∙ calls_in-empty n

-- one task more has room for its faults
pub room-for-more : (tasks count task : ℕ) (k : Plan) → task < tasks → tasks * count ≤ 131071 → HasFaultsBelow tasks count task k → calls_in k + count ≤ 131072
room-for-more tasks count task k less room was = let total = was.total in let most = mul-le-mul {n₁ = task + 1} {m₁ = count} {n₂ = tasks} {m₂ = count} (omega (arith, less)) (omega arith) in omega (arith, total, most, room)

is-fault : IsCallOrSignal space fault_words
is-fault = inr refl

is-map : IsCallOrSignal space map_words
is-map = inr refl

pub are-calls : (tasks count : ℕ) (k : Plan) → HasFaultsBelow tasks count tasks k → IsPlan space k
are-calls tasks count k is t c w at = let long = is.long in dite (ℕ_discrete t tasks)
    (λ same. subst (IsCallOrSignal space) (only-one map_words w c (ap (λ (ws : List CallWords). slice_get ws c) (sym (ap (row k) same ∙ is.maps)) ∙ at)) is-map)
    (λ other. elim (cases_lt t tasks) [
      | inl less ↦ subst (IsCallOrSignal space) (replicate-get count fault_words w c (ap (λ (ws : List CallWords). slice_get ws c) (sym (is.full t less)) ∙ at)) is-fault
      | inr more ↦ none-some w (ap (λ (ws : List CallWords). slice_get ws c) (sym (row-outside k t (omega (arith, long, more, other)))) ∙ at)
    ])

pub maps-area : (tasks count : ℕ) (k : Plan) → HasFaultsBelow tasks count tasks k → MapsArea k tasks
maps-area tasks count k is = let long = is.long in (omega (arith, long), is.maps)

pub have-faults : (tasks count : ℕ) (k : Plan) → HasFaultsBelow tasks count tasks k → (t : ℕ) → t < tasks → HasFaults k t count
have-faults tasks count k is t l = let long = is.long in (omega (arith, l, long), is.full t l)

-- each of so many threads has room for its share
pub share-fits : (room threads most left here : ℕ) → most ≡ room / max threads 1 → here ≡ min left most → threads * here ≤ room
share-fits room threads most left here is least =
    let a = mul-le-mul {n₁ = threads} {m₁ = here} {n₂ = max threads 1} {m₂ = most} (omega arith) (omega (arith, least)) in
    let b = mul-div-le room (max threads 1) in
    let c = ap (λ (z : ℕ). max threads 1 * z) is in omega (arith, a, b, c)
