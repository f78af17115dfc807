-- Each kind of step keeps the owner word's own facts.
use Rattle.std.proofs.Common.{◌≡◌, ◌≢◌, ℕ, zero, suc, ◌+◌, ◌*◌, ◌%◌, ◌<◌, ◌≤◌, ◌⊎◌, inl, inr, List, [], ◌∷◌, ◌++◌, set, Option, Some, None, sym, refl, ap, ◌∙◌, arith}
use mathlib.Core.Option.{some, some-injective, some-ne-none}
use lib.ListN.{get_elem?}
use Rattle.word_bits.specs.Histories.{Plan}
use Rattle.lock_core.specs.Views.{stranger, held_weight, held_of}
use Rattle.lock_core.specs.Totals.{total, total-set, total-same, total-snoc, total-at, total-two}
use Rattle.lock_core.specs.ViewParts.{Each, each-set, each-snoc}
use Rattle.lock_core.proofs.HandLaws.{held-none, number-or-not}
use Rattle.lock_core.proofs.WordSteps.{some-of}
use Rattle.mutex_word.specs.Holders.{own_word, held_code, code_of, OwnKept, StatesHolder}
use Rattle.mutex_word.specs.Types.{Entry, Hand, Held, No, Shared, Alone}
use Rattle.word_bits.specs.declared.TheConstants.{MAX_TASKS}

-- a pass without a number holds nothing
abbrev pub Named : List Hand → Type 0
Named = Each (λ h. h.task ≡ None → h.held ≡ No)

pub free-code : (x : Held) (task : Option ℕ) → x ≡ No → held_code x task ≡ 0
free-code x task free = ap (λ (z : Held). held_code z task) free

held-code : (x : Held) (task : Option ℕ) → (task ≡ None → x ≡ No) → held_weight x ≤ held_code x task
held-code No task named = omega arith
held-code Shared None named = let w : held_weight Shared ≡ held_weight No = ap held_weight (named refl) in absurd (omega (arith, w))
held-code Alone None named = let w : held_weight Alone ≡ held_weight No = ap held_weight (named refl) in absurd (omega (arith, w))
held-code Shared (Some t) named = omega arith
held-code Alone (Some t) named = omega arith

held-codes : (hs : List Hand) → Named hs → total held_of hs ≤ total code_of hs
held-codes [] named = omega arith
held-codes (h ∷ hs) named = let a : held_of h ≤ code_of h = held-code h.held h.task (named zero h refl) in let b = held-codes hs (λ j g at. named (suc j) g at) in omega arith

pub no-codes : (hs : List Hand) → total held_of hs ≤ 0 → total code_of hs ≡ 0
no-codes [] l = refl
no-codes (h ∷ hs) l = let a : code_of h ≡ 0 = free-code h.held h.task (held-none h.held (omega arith)) in let b = no-codes hs (omega arith) in omega arith

-- where one holds, the codes are its own
pub only-code : (hs : List Hand) (id : ℕ) (h : Hand) → get_elem? hs id ≡ some h → h.held ≡ Alone → total held_of hs ≤ 1 → total code_of hs ≡ code_of h
only-code [] id h at alone one = absurd (some-ne-none h (sym at))
only-code (x ∷ xs) zero h at alone one = let same = some-injective x h at in let a : held_of x ≡ 1 = ap held_of same ∙ ap held_weight alone in let b = no-codes xs (omega arith) in
    let c : code_of x ≡ code_of h = ap code_of same in omega arith
only-code (x ∷ xs) (suc id) h at alone one = let e : held_of h ≡ 1 = ap held_weight alone in let d = total-at held_of xs id h at in
    let a : code_of x ≡ 0 = free-code x.held x.task (held-none x.held (omega arith)) in
    let b = only-code xs id h at alone (omega arith) in omega arith

pub none-holds : (hs : List Hand) (word : ℕ) → OwnKept word hs → Named hs → word ≡ 0 → total held_of hs ≡ 0
none-holds hs word r named is = let a = held-codes hs named in let b = r.held (omega arith) in omega arith

-- a word without a task
pub no-holders : (hs : List Hand) (word : ℕ) → OwnKept word hs → Named hs → word < 8 → total held_of hs ≡ 0
no-holders hs word r named free = let a = held-codes hs named in let two = r.nobody free in let b = r.held (omega (arith, two)) in omega (arith, a, b, two)

pub alone-code : (h : Hand) (t : ℕ) → h.held ≡ Alone → h.task ≡ Some t → code_of h ≡ (t + 1) * 8
alone-code h t alone has = λ i. held_code (alone i) (has i)

-- the word of a pass that holds
pub held-word : (hs : List Hand) (id t word : ℕ) (h : Hand) → OwnKept word hs → get_elem? hs id ≡ some h → h.held ≡ Alone → h.task ≡ Some t → (word % 8 < 4) × (word ≡ (t + 1) * 8 + word % 8)
held-word hs id t word h r at alone has = let a : held_of h ≡ 1 = ap held_weight alone in let b = total-at held_of hs id h at in let p = r.picked in
    let low : word % 8 < 4 = elim (native.Mathlib.Decide.dec_le 4 (word % 8)) [ yes l ↦ let z = p (omega (arith, l)) in absurd (omega (arith, z, a, b)) | no l ↦ omega (arith, l) ] in
    let c = r.held low in let d = only-code hs id h at alone r.one in let e = alone-code h t alone has in (low, omega arith)

-- a free word becomes the code of a pass that takes
pub own-takes : (hs : List Hand) (id t word : ℕ) (h g : Hand) → OwnKept word hs → Named hs → get_elem? hs id ≡ some h → word ≡ 0 → t < MAX_TASKS → g.held ≡ Alone → g.task ≡ Some t
    → OwnKept (own_word (Some t)) (set hs id g)
own-takes hs id t word h g r named at is small alone has = let none = none-holds hs word r named is in let a = total-set held_of hs id h g at in let b = total-set code_of hs id h g at in
    let c = total-at held_of hs id h at in
    let d = total-at code_of hs id h at in let e = no-codes hs (omega arith) in let f : held_of g ≡ 1 = ap held_weight alone in let i = alone-code g t alone has in record {
      small = omega arith;
      nobody = λ l. omega arith;
      flags = omega arith;
      one = omega arith;
      alone = each-set (λ h. h.held ≢ No → h.held ≡ Alone) (λ h. h.held ≢ No → h.held ≡ Alone) hs id g (λ _. alone) (λ j v _ _ p. p) r.alone;
      held = λ l. omega arith;
      picked = λ l. absurd (omega arith);
    }

-- the word of a pass that holds becomes 0
pub own-frees : (hs : List Hand) (id word : ℕ) (h g : Hand) → OwnKept word hs → get_elem? hs id ≡ some h → h.held ≡ Alone → g.held ≡ No → OwnKept 0 (set hs id g)
own-frees hs id word h g r at alone free = let a = total-set held_of hs id h g at in let b = total-set code_of hs id h g at in let c = only-code hs id h at alone r.one in let d = r.one in
    let e : held_of h ≡ 1 = ap held_weight alone in let f : held_of g ≡ 0 = ap held_weight free in let i : code_of g ≡ 0 = free-code g.held g.task free in record {
      small = omega arith;
      nobody = λ l. omega arith;
      flags = omega arith;
      one = omega arith;
      alone = each-set (λ h. h.held ≢ No → h.held ≡ Alone) (λ h. h.held ≢ No → h.held ≡ Alone) hs id g (λ n. absurd (n free)) (λ j v _ _ p. p) r.alone;
      held = λ l. omega arith;
      picked = λ l. absurd (omega arith);
    }

-- a hand that holds as another does, and has its number if it holds
pub own-stays : (hs : List Hand) (id word : ℕ) (h g : Hand) → OwnKept word hs → get_elem? hs id ≡ some h → g.held ≡ h.held → (g.task ≡ h.task) ⊎ (h.held ≡ No) → OwnKept word (set hs id g)
own-stays hs id word h g r at same task = let a = total-same held_of hs id h g at (ap held_weight same) in
    let b = total-same code_of hs id h g at (elim task [ inl e ↦ (λ i. held_code (same i) (e i)) | inr free ↦ free-code g.held g.task (same ∙ free) ∙ sym (free-code h.held h.task free) ]) in record {
      small = r.small;
      nobody = r.nobody;
      flags = r.flags;
      one = let o = r.one in omega arith;
      alone = each-set (λ h. h.held ≢ No → h.held ≡ Alone) (λ h. h.held ≢ No → h.held ≡ Alone) hs id g (λ n. same ∙ r.alone id h at (λ z. n (same ∙ z))) (λ j v _ _ p. p) r.alone;
      held = λ l. let c = r.held l in omega arith;
      picked = λ l. let c = r.picked l in omega arith;
    }

pub own-strangers : (hs : List Hand) (word : ℕ) (plan : Option Plan) (seen : List Entry) → OwnKept word hs → OwnKept word (hs ++ stranger plan seen ∷ [])
own-strangers hs word plan seen r = let g : Hand = stranger plan seen in let a = total-snoc held_of hs g in let b = total-snoc code_of hs g in record {
  small = r.small;
  nobody = r.nobody;
  flags = r.flags;
  one = let o = r.one in omega arith;
  alone = each-snoc (λ h. h.held ≢ No → h.held ≡ Alone) hs g (λ n. absurd (n refl)) r.alone;
  held = λ l. let c = r.held l in omega arith;
  picked = λ l. let c = r.picked l in omega arith;
}

pub own-opens : (plan : Option Plan) (seen : List Entry) → OwnKept 0 (stranger plan seen ∷ [])
own-opens plan seen = record {
  small = omega arith;
  nobody = λ l. omega arith;
  flags = omega arith;
  one = omega arith;
  alone = each-snoc (λ h. h.held ≢ No → h.held ≡ Alone) [] (stranger plan seen) (λ n. absurd (n refl)) (λ j h e. absurd (some-ne-none h (sym e)));
  held = λ l. omega arith;
  picked = λ l. absurd (omega arith);
}

-- a word without flags states who holds
pub own-states : (hs : List Hand) (word : ℕ) → OwnKept word hs → Named hs → word % 8 ≡ 0 → StatesHolder word hs
own-states hs word r named plain = let held = r.held (omega arith) in elim (native.Mathlib.Decide.dec_le (total held_of hs) 0) [
  | yes none ↦ let a = no-codes hs none in record {
    holder = None;
    is = omega (arith, a, held, plain);
    holds = λ j h at. let l = total-at held_of hs j h at in held-none h.held (omega (arith, l, none));
  }
  | no some_hold ↦ let s = some-of held_of hs (omega (arith, some_hold)) in let weighs = s.3 in let one = r.one in
      let is_held : s.1.held ≢ No = λ n. (let w : held_of s.1 ≡ 0 = ap held_weight n in omega (arith, w, weighs)) in let alone = r.alone s.0 s.1 s.2 is_held in
      number-or-not s.1.task (λ out. absurd (is_held (named s.0 s.1 s.2 out))) (λ t has. let a = only-code hs s.0 s.1 s.2 alone one in let b = alone-code s.1 t alone has in record {
        holder = Some t;
        is = omega (arith, a, b, held, plain);
        holds = (s.0, s.1, s.2, alone, has, λ j g other at. let two = total-two held_of hs s.0 j s.1 g s.2 at (λ e. other (sym e)) in held-none g.held (omega (arith, two, weighs, one)));
      })
]
