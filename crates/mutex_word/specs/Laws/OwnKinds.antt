-- The other kinds of step on an owner word keep its own facts.
use Rattle.std.proofs.Common.{◌≡◌, ◌≢◌, ℕ, ◌+◌, ◌*◌, ◌/◌, ◌%◌, ◌<◌, ◌≤◌, ◌⊎◌, inl, List, set, Some, ap, ◌∙◌, arith, ⊎_elim}
use mathlib.Core.Option.{some}
use lib.ListN.{get_elem?}
use lib.Bits.{bit_and, bit_or}
use Rattle.std.proofs.lemmas.Nat.{or_shr, and_shr, and_mask, or_mod, and_mod, le_or_r, or_comm}
use Rattle.lock_core.specs.Views.{held_weight, held_of}
use Rattle.lock_core.specs.Totals.{total-set, total-at}
use Rattle.lock_core.specs.ViewParts.{each-set}
use Rattle.mutex_word.specs.Holders.{code_of, OwnKept}
use Rattle.mutex_word.specs.Laws.Own.{Named, no-holders, no-codes, only-code, free-code, alone-code, own-stays}
use Rattle.mutex_word.specs.Types.{Hand, No, Alone}
use Rattle.word_bits.specs.declared.TheConstants.{MAX_TASKS}

module _ (hs : List Hand) (id n : ℕ) (h g : Hand) (r : OwnKept n hs) (at : get_elem? hs id ≡ some h) where
  -- the facts of a word with other flags, where nobody picks or is picked and all hold as they did
  reflags : (m : ℕ) → g.held ≡ h.held → g.task ≡ h.task → m < 8 * MAX_TASKS + 8 → (m < 8 → m < 2) → m % 8 < 6 → (m % 8 < 4 → n % 8 < 4) → (4 ≤ m % 8 → 4 ≤ n % 8) → m / 8 ≡ n / 8
      → OwnKept m (set hs id g)
  reflags m held task small nobody flags low high code = let s = own-stays hs id n h g r at held (inl task) in record {
    small = small;
    nobody = nobody;
    flags = flags;
    one = s.one;
    alone = s.alone;
    held = λ l. let c = s.held (low l) in omega (arith, c, code);
    picked = λ l. s.picked (high l);
  }

  pub own-asks : g.held ≡ h.held → g.task ≡ h.task → n % 8 < 2 → 8 ≤ n → OwnKept (n + 2) (set hs id g)
  own-asks held task few big = let small = r.small in reflags (n + 2) held task (omega (arith, small, few)) (λ l. omega (arith, l, big)) (omega (arith, few)) (λ l. omega (arith, few))
      (λ l. omega (arith, l, few)) (omega (arith, few))

  pub own-flags : g.held ≡ h.held → g.task ≡ h.task → n % 2 ≡ 0 → OwnKept (n + 1) (set hs id g)
  own-flags held task even = let small = r.small in let nobody = r.nobody in let flags = r.flags in
      reflags (n + 1) held task (omega (arith, small, even)) (λ l. let z = nobody (omega (arith, l)) in omega (arith, z, even)) (omega (arith, flags, even)) (λ l. omega (arith, l))
      (λ l. omega (arith, l, even)) (omega (arith, even))

  pub own-clears : (m : ℕ) → g.held ≡ h.held → g.task ≡ h.task → n % 8 < 4 → m + n % 8 ≡ n → OwnKept m (set hs id g)
  own-clears m held task low is = let small = r.small in reflags m held task (omega (arith, small, is)) (λ l. omega (arith, l, is)) (omega (arith, is)) (λ l. low)
      (λ l. omega (arith, l, is)) (omega (arith, is))

  -- a word without a task is taken with its flag
  pub own-takes-free : (t : ℕ) → Named hs → n < 8 → t < MAX_TASKS → g.held ≡ Alone → g.task ≡ Some t → OwnKept (8 * (t + 1) + n) (set hs id g)
  own-takes-free t named free small alone has = let two = r.nobody free in let none = no-holders hs n r named free in let a = total-set held_of hs id h g at in
      let b = total-set code_of hs id h g at in let c = total-at held_of hs id h at in
      let d = total-at code_of hs id h at in let e = no-codes hs (omega (arith, none)) in let f : held_of g ≡ 1 = ap held_weight alone in let i = alone-code g t alone has in record {
        small = omega (arith, two, small);
        nobody = λ l. absurd (omega (arith, l));
        flags = omega (arith, two);
        one = omega (arith, none, a, c, f);
        alone = each-set (λ h. h.held ≢ No → h.held ≡ Alone) (λ h. h.held ≢ No → h.held ≡ Alone) hs id g (λ _. alone) (λ j v _ _ p. p) r.alone;
        held = λ l. omega (arith, two, b, d, e, i);
        picked = λ l. absurd (omega (arith, l, two));
      }

  -- the picked waiter takes
  pub own-takes-picked : (t m : ℕ) → 4 ≤ n % 8 → n / 8 ≡ t + 1 → m + 4 ≡ n → g.held ≡ Alone → g.task ≡ Some t → OwnKept m (set hs id g)
  own-takes-picked t m high mine is alone has = let flags = r.flags in let small = r.small in let none = r.picked high in let a = total-set held_of hs id h g at in
      let b = total-set code_of hs id h g at in let c = total-at held_of hs id h at in
      let d = total-at code_of hs id h at in let e = no-codes hs (omega (arith, none)) in let f : held_of g ≡ 1 = ap held_weight alone in let i = alone-code g t alone has in record {
        small = omega (arith, small, is);
        nobody = λ l. absurd (omega (arith, l, is, mine));
        flags = omega (arith, flags, high, is);
        one = omega (arith, none, a, c, f);
        alone = each-set (λ h. h.held ≢ No → h.held ≡ Alone) (λ h. h.held ≢ No → h.held ≡ Alone) hs id g (λ _. alone) (λ j v _ _ p. p) r.alone;
        held = λ l. omega (arith, b, d, e, i, flags, high, mine, is);
        picked = λ l. absurd (omega (arith, l, flags, high, is));
      }

  -- the holder releases to a word that names nobody, or picks the first waiter
  pub own-leaves : (m : ℕ) → h.held ≡ Alone → g.held ≡ No → (m < 2) ⊎ ((m < 8 * MAX_TASKS + 8) × (8 ≤ m) × (4 ≤ m % 8) × (m % 8 < 6)) → OwnKept m (set hs id g)
  own-leaves m alone free word = let a = total-set held_of hs id h g at in let b = total-set code_of hs id h g at in let c = only-code hs id h at alone r.one in let d = r.one in
      let e : held_of h ≡ 1 = ap held_weight alone in let f : held_of g ≡ 0 = ap held_weight free in let i : code_of g ≡ 0 = free-code g.held g.task free in
      let others = each-set (λ h. h.held ≢ No → h.held ≡ Alone) (λ h. h.held ≢ No → h.held ≡ Alone) hs id g (λ n. absurd (n free)) (λ j v _ _ p. p) r.alone in ⊎_elim
      (λ (few : m < 2). record {
        small = omega (arith, few);
        nobody = λ l. few;
        flags = omega (arith, few);
        one = omega (arith, a, d, e, f);
        alone = others;
        held =
            λ l. omega (arith, few, b, c, i);
        picked = λ l. absurd (omega (arith, l, few));
      })
      (λ (q : (m < 8 * MAX_TASKS + 8) × (8 ≤ m) × (4 ≤ m % 8) × (m % 8 < 6)). let big = q.1 in let high = q.2 in
      record {
        small = q.0;
        nobody = λ l. absurd (omega (arith, l, big));
        flags = q.3;
        one = omega (arith, a, d, e, f);
        alone = others;
        held = λ l. absurd (omega (arith, l, high));
        picked =
            λ l. omega (arith, a, d, e, f);
      })
      word

or-nothing : (n : ℕ) → bit_or n 0 ≡ n
or-nothing n = or_comm n 0

-- the flag of the waiters is set
pub or-one : (n : ℕ) → n % 2 ≡ 0 → bit_or n 1 ≡ n + 1
or-one n even = let a : bit_or n 1 / 2 ≡ n / 2 = or_shr n 1 1 ∙ (ap (bit_or (n / 2)) (omega arith) ∙ or-nothing (n / 2)) in let b : bit_or n 1 % 2 ≡ bit_or (n % 2) 1 = or_mod n 1 1 in
    let c : bit_or (n % 2) 1 ≡ 1 = ap (λ (z : ℕ). bit_or z 1) even in omega (arith, a, b, c, even)

pub or-odd : (n : ℕ) → n % 2 ≡ 1 → bit_or n 1 ≡ n
or-odd n odd = let a : bit_or n 1 / 2 ≡ n / 2 = or_shr n 1 1 ∙ (ap (bit_or (n / 2)) (omega arith) ∙ or-nothing (n / 2)) in let b : bit_or n 1 % 2 ≡ bit_or (n % 2) 1 = or_mod n 1 1 in
    let c : bit_or (n % 2) 1 ≡ 1 = ap (λ (z : ℕ). bit_or z 1) odd in omega (arith, a, b, c, odd)

-- the three flags are cleared
pub and-clears : (n : ℕ) → n < 18446744073709551616 → bit_and n 18446744073709551608 + n % 8 ≡ n
and-clears n small = let f : bit_and (n / 8) 2305843009213693951 ≡ (n / 8) % 2305843009213693952 = and_mask (n / 8) 61 in
    let a : bit_and n 18446744073709551608 / 8 ≡ n / 8 = and_shr n 18446744073709551608 3 ∙ (ap (bit_and (n / 8)) (omega arith) ∙ (f ∙ omega (arith, small))) in
    let b : bit_and n 18446744073709551608 % 8 ≡ bit_and (n % 8) 0 = and_mod n 18446744073709551608 3 in let c : bit_and (n % 8) 0 ≡ 0 = and-nothing (n % 8) in omega (arith, a, b, c)
  where
    and-nothing : (n : ℕ) → bit_and n 0 ≡ 0
    and-nothing n = Rattle.std.proofs.lemmas.Nat.and_comm n 0
