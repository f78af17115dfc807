-- Hands: their weights, and what stays of a hand while the log and the records grow.
use Rattle.std.proofs.Common.{◌≡◌, ◌≢◌, ℕ, ◌≤◌, Bool, true, false, leb, List, [], ◌∷◌, ◌++◌, length, set, Option, Some, None, sym, refl, ap, ◌∙◌, subst, arith, eq-eqb, ne_eqb, leb-true, leb-false, if◌then◌else◌, ◌+◌, suc}
use mathlib.Core.Option.{some}
use lib.ListN.{get_elem?}
use Rattle.word_bits.specs.Histories.{Plan}
use Rattle.lock_core.specs.Records.{bit}
use Rattle.lock_core.specs.Views.{stranger, longer, held_weight, alone_weight, owed_weight, is_number, consumed_weight, held_of, alone_of, writes_of, owed_of, named_of, sent_of, consumed_of}
use Rattle.lock_core.specs.Sites.{tally}
use Rattle.lock_core.specs.Totals.{total, total-same, total-snoc}
use Rattle.lock_core.specs.Types.{Entry, Hand, Held, No, Shared, Alone, Stage, Rest, Entered, Logged}
use Rattle.lock_core.proofs.RowLaws.{same-some}

pub alone-is-held : (x : Held) → x ≡ Alone → x ≢ No
alone-is-held x a n = let w : alone_weight Alone ≡ alone_weight No = ap alone_weight (sym a ∙ n) in omega (arith, w)

pub no-alone : {P : Type 0} → No ≡ Alone → P
no-alone eq = let w : alone_weight No ≡ alone_weight Alone = ap alone_weight eq in absurd (omega (arith, w))

pub rest-logged : (e : Entry) {P : Type 0} → Rest ≡ Logged e → P
rest-logged e eq = let w : owed_weight Rest ≡ owed_weight (Logged e) = ap owed_weight eq in absurd (omega (arith, w))

pub rest-entered : (e : Entry) {P : Type 0} → Rest ≡ Entered e → P
rest-entered e eq = absurd cc

pub held-none : (x : Held) → held_weight x ≤ 0 → x ≡ No
held-none No l = refl
held-none Shared l = absurd (omega (arith, l))
held-none Alone l = absurd (omega (arith, l))

pub not-both : (b : Bool) {P : Type 0} → b ≡ false → b ≡ true → P
not-both b f t = let w : bit true ≡ bit false = ap bit (sym t ∙ f) in absurd (omega (arith, w))

pub false-or-true : (b : Bool) {P : Type 0} → (b ≡ true → P) → (b ≡ false → P) → P
false-or-true true t f = t refl
false-or-true false t f = f refl

pub same-number : (t u : ℕ) → Some t ≡ Some u → t ≡ u
same-number t u e = same-some t u e

-- the hand has the number
pub is_number-here : (t : ℕ) → is_number t (Some t) ≡ 1
is_number-here t = ap bit (eq-eqb t t refl)

pub is_number-else : (t u : ℕ) → u ≢ t → is_number t (Some u) ≡ 0
is_number-else t u n = ap bit (ne_eqb u t n)

pub number-or-not : (x : Option ℕ) {P : Type 0} → (x ≡ None → P) → ((t : ℕ) → x ≡ Some t → P) → P
number-or-not None none one = none refl
number-or-not (Some t) none one = one t refl

pub stage-cases : (s : Stage) {P : Type 0} → (owed_weight s ≡ 0 → P) → ((e : Entry) → s ≡ Logged e → P) → P
stage-cases Rest rest owes = rest refl
stage-cases (Entered e) rest owes = rest refl
stage-cases (Logged e) rest owes = owes e refl

pub consumed-more : (u : ℕ) (task : Option ℕ) (n : ℕ) → consumed_weight u task (n + 1) ≡ consumed_weight u task n + is_number u task
consumed-more u task n = let e : suc n ≡ n + 1 = omega arith in subst (λ (z : ℕ). consumed_weight u task z ≡ consumed_weight u task n + is_number u task) e refl

-- a number that the hands add up to stays where one of them weighs as before
module _ (f : Hand → ℕ) (hs : List Hand) (id : ℕ) (h g : Hand) where
  pub sum-stays : (n m : ℕ) → get_elem? hs id ≡ some h → f g ≡ f h → n ≡ m + total f hs → n ≡ m + total f (set hs id g)
  sum-stays n m at same is = let c = total-same f hs id h g at same in omega (arith, c, is)

  pub one-stays : (n : ℕ) → get_elem? hs id ≡ some h → f g ≡ f h → (n ≡ total f hs) × (total f hs ≤ 1) → (n ≡ total f (set hs id g)) × (total f (set hs id g) ≤ 1)
  one-stays n at same is = let c = total-same f hs id h g at same in let a = is.0 in let b = is.1 in (omega (arith, c, a), omega (arith, c, b))

-- a hand that counts as much as another
pub record SameWeights (h g : Hand) : Type 0 where
  pub held : g.held ≡ h.held
  pub writes : g.writes ≡ h.writes
  pub owed : owed_of g ≡ owed_of h
  pub task : g.task ≡ h.task
  pub sent : g.sent ≡ h.sent
  pub consumed : g.consumed ≡ h.consumed

pub tally-same : (hs : List Hand) (id : ℕ) (h g : Hand) → get_elem? hs id ≡ some h → SameWeights h g → tally (set hs id g) ≡ tally hs
tally-same hs id h g at same = λ i. record {
  held = total-same held_of hs id h g at (ap held_weight same.held) i;
  alone = total-same alone_of hs id h g at (ap alone_weight same.held) i;
  writes = total-same writes_of hs id h g at (ap bit same.writes) i;
  owed = total-same owed_of hs id h g at same.owed i;
  named = λ t. total-same (named_of t) hs id h g at (ap (is_number t) same.task) i;
  sent = λ t. total-same (sent_of t) hs id h g at (ap (is_number t) same.sent) i;
  consumed = λ t. total-same (consumed_of t) hs id h g at (λ j. consumed_weight t (same.task j) (same.consumed j)) i;
}

-- a stranger counts nothing
pub tally-stranger : (hs : List Hand) (plan : Option Plan) (seen : List Entry) → tally (hs ++ stranger plan seen ∷ []) ≡ tally hs
tally-stranger hs plan seen = let g : Hand = stranger plan seen in
    let held : total held_of (hs ++ g ∷ []) ≡ total held_of hs = omega (arith, total-snoc held_of hs g) in
    let alone : total alone_of (hs ++ g ∷ []) ≡ total alone_of hs = omega (arith, total-snoc alone_of hs g) in
    let writes : total writes_of (hs ++ g ∷ []) ≡ total writes_of hs = omega (arith, total-snoc writes_of hs g) in
    let owed : total owed_of (hs ++ g ∷ []) ≡ total owed_of hs = omega (arith, total-snoc owed_of hs g) in
    let named : (t : ℕ) → total (named_of t) (hs ++ g ∷ []) ≡ total (named_of t) hs = λ t. omega (arith, total-snoc (named_of t) hs g) in
    let sent : (t : ℕ) → total (sent_of t) (hs ++ g ∷ []) ≡ total (sent_of t) hs = λ t. omega (arith, total-snoc (sent_of t) hs g) in
    let consumed : (t : ℕ) → total (consumed_of t) (hs ++ g ∷ []) ≡ total (consumed_of t) hs = λ t. omega (arith, total-snoc (consumed_of t) hs g) in
    λ i. record { held = held i; alone = alone i; writes = writes i; owed = owed i; named = λ t. named t i; sent = λ t. sent t i; consumed = λ t. consumed t i }

pub longer-is : (xs ys : List Entry) (P : List Entry → Type 0) → (length xs ≤ length ys → P ys) → (length ys ≤ length xs → P xs) → P (longer xs ys)
longer-is xs ys P more less = false-or-true (leb (length xs) (length ys))
    (λ t. subst (λ (b : Bool). P (if b then ys else xs)) (sym t) (more (leb-true (length xs) (length ys) t)))
    (λ f. subst (λ (b : Bool). P (if b then ys else xs)) (sym f) (let l = leb-false (length xs) (length ys) f in less (omega (arith, l))))

pub longer-both : (xs ys : List Entry) (P : List Entry → Type 0) → P xs → P ys → P (longer xs ys)
longer-both xs ys P p q = longer-is xs ys P (λ _. q) (λ _. p)

pub longer-left : (xs ys : List Entry) → length xs ≤ length (longer xs ys)
longer-left xs ys = longer-is xs ys (λ (zs : List Entry). length xs ≤ length zs) (λ l. l) (λ _. omega arith)

pub longer-right : (xs ys : List Entry) → length ys ≤ length (longer xs ys)
longer-right xs ys = longer-is xs ys (λ (zs : List Entry). length ys ≤ length zs) (λ _. omega arith) (λ l. l)

pub longer-least : (xs ys : List Entry) (n : ℕ) → length xs ≤ n → length ys ≤ n → length (longer xs ys) ≤ n
longer-least xs ys n a b = longer-is xs ys (λ (zs : List Entry). length zs ≤ n) (λ _. b) (λ _. a)
