-- A call has one pair of words in each mode, and the words tell it.
use Rattle.std.proofs.Common.{◌≡◌, ℕ, ◌+◌, ◌*◌, ◌/◌, ◌%◌, ◌^◌, ◌<◌, ◌==◌, ◌&&◌, ◌||◌, Bool, true, false, cond, refl, zero, suc, Option, Some, None, sym, ap, subst, ◌∙◌, arith}
use Rattle.std.specs.Prelude.{nat_lt}
use Rattle.std.proofs.lemmas.Bool.{ltb-true}
use Rattle.std.proofs.lemmas.Bool.Decides.{nat_tests}
use Rattle.word_bits.specs.declared.call.CallWords.{CallWords}
use Rattle.word_bits.specs.declared.call.Mode.{Mode}
use Rattle.word_bits.proofs.Modes.{mode_number-lt, mode_at}
use Rattle.word_bits.specs.Calls.{words_of, with_third, mode_number}
use Rattle.word_bits.specs.Packed.{IsFound}
use Rattle.vma_map.specs.declared.call.SpaceCall.{SpaceCall}
use Rattle.vma_map.specs.declared.call.SpaceCall.TheVariants.{Map, MapAny, MapNew, Unmap, Protect, Populate, Fault, Remap}
use Rattle.vma_map.specs.Spaces.{IsCall, IsAccess, IsCallOf, call_if, call_with, remap_with, call_in, call_of, words_of_call}

-- the fields of packed words
call_of-words_of : (kind first second prot access mode : ℕ) → kind < 2 ^ 8 → first < 2 ^ 32 → prot < 2 ^ 8 → access < 2 ^ 8 → mode < 3
    → call_of (words_of kind first second prot access mode) ≡ call_in kind first second 0 prot access
call_of-words_of kind first second prot access mode k f p x m =
    let b = kind + prot * 2 ^ 8 + access * 2 ^ 16 + mode * 2 ^ 24 in
    let a = first + second * 2 ^ 32 in
    let e0 : b / 2 ^ 24 % 2 ^ 8 ≡ mode = omega arith in
    let e6 : b / 2 ^ 32 ≡ 0 = omega arith in
    let e1 : b % 2 ^ 8 ≡ kind = omega arith in
    let e2 : b / 2 ^ 8 % 2 ^ 8 ≡ prot = omega arith in
    let e3 : b / 2 ^ 16 % 2 ^ 8 ≡ access = omega arith in
    let e4 : a % 2 ^ 32 ≡ first = omega arith in
    let e5 : a / 2 ^ 32 ≡ second = omega arith in
    rw (e0, e1, e2, e3, e4, e5, e6) (grind (arith, nat_tests))

-- those of a remap
call_of-remap : (first second third mode : ℕ) → first < 2 ^ 32 → second < 2 ^ 32 → third < 2 ^ 32 → mode < 3
    → call_of (with_third (words_of 13 first second 0 0 mode) third) ≡ Some (Remap first second third)
call_of-remap first second third mode f s t m =
    let b = 13 + 0 * 2 ^ 8 + 0 * 2 ^ 16 + mode * 2 ^ 24 + third * 2 ^ 32 in
    let a = first + second * 2 ^ 32 in
    let e0 : b / 2 ^ 24 % 2 ^ 8 ≡ mode = omega arith in
    let e1 : b % 2 ^ 8 ≡ 13 = omega arith in
    let e2 : b / 2 ^ 8 % 2 ^ 8 ≡ 0 = omega arith in
    let e3 : b / 2 ^ 16 % 2 ^ 8 ≡ 0 = omega arith in
    let e4 : a % 2 ^ 32 ≡ first = omega arith in
    let e5 : a / 2 ^ 32 ≡ second = omega arith in
    let e6 : b / 2 ^ 32 ≡ third = omega arith in
    rw (e0, e1, e2, e3, e4, e5, e6) (grind (arith, nat_tests))

-- words that are packed from a valid call tell it
call_of-packed : (call : SpaceCall) (mode : Mode) → IsCall call → call_of (words_of_call call mode) ≡ Some call
call_of-packed (Map start len prot) mode h =
    call_of-words_of 1 start len prot 0 (mode_number mode) (omega arith) h.0 (omega arith) (omega arith) (mode_number-lt mode) ∙ grind (arith, nat_tests)
call_of-packed (MapAny len prot) mode h =
    call_of-words_of 2 len 0 prot 0 (mode_number mode) (omega arith) h.0 (omega arith) (omega arith) (mode_number-lt mode) ∙ grind (arith, nat_tests)
call_of-packed (MapNew start len prot) mode h =
    call_of-words_of 3 start len prot 0 (mode_number mode) (omega arith) h.0 (omega arith) (omega arith) (mode_number-lt mode) ∙ grind (arith, nat_tests)
call_of-packed (Unmap start len) mode h =
    call_of-words_of 4 start len 0 0 (mode_number mode) (omega arith) h.0 (omega arith) (omega arith) (mode_number-lt mode) ∙ grind (arith, nat_tests)
call_of-packed (Protect start len prot) mode h =
    call_of-words_of 5 start len prot 0 (mode_number mode) (omega arith) h.0 (omega arith) (omega arith) (mode_number-lt mode) ∙ grind (arith, nat_tests)
call_of-packed (Populate start len prot) mode h =
    call_of-words_of 6 start len prot 0 (mode_number mode) (omega arith) h.0 (omega arith) (omega arith) (mode_number-lt mode) ∙ grind (arith, nat_tests)
call_of-packed (Fault page access) mode h =
    let small : access < 2 ^ 8 = omega arith in
    call_of-words_of 7 page 0 0 access (mode_number mode) (omega arith) h.0 (omega arith) small (mode_number-lt mode) ∙ grind (arith, nat_tests)
call_of-packed (Remap start len to) mode h =
    call_of-remap start len to (mode_number mode) h.0 h.1 h.2 (mode_number-lt mode)

-- the words of the fields that were read are the words
words_of-fields : (w : CallWords) (mode : ℕ) → mode ≡ w.b / 2 ^ 24 % 2 ^ 8
    → with_third (words_of (w.b % 2 ^ 8) (w.a % 2 ^ 32) (w.a / 2 ^ 32) (w.b / 2 ^ 8 % 2 ^ 8) (w.b / 2 ^ 16 % 2 ^ 8) mode) (w.b / 2 ^ 32) ≡ w
words_of-fields w mode m =
    let a : w.a % 2 ^ 32 + w.a / 2 ^ 32 * 2 ^ 32 ≡ w.a = omega arith in
    let b : w.b % 2 ^ 8 + w.b / 2 ^ 8 % 2 ^ 8 * 2 ^ 8 + w.b / 2 ^ 16 % 2 ^ 8 * 2 ^ 16 + mode * 2 ^ 24 + w.b / 2 ^ 32 * 2 ^ 32 ≡ w.b = omega arith in
    λ i. record { a = a i; b = b i }

-- a valid call whose words are of this kind, with these numbers, protection and access
abbrev HasFields : (kind first second prot access : ℕ) → SpaceCall → Type 0
HasFields kind first second prot access call =
    IsCall call × ((mode : Mode) → words_of_call call mode ≡ words_of kind first second prot access (mode_number mode))

-- what holds of a call if its test does holds of the call that it tells
call_if-told : (test : Bool) (call told : SpaceCall) (P : SpaceCall → Type 0) → call_if test call ≡ Some told → (test ≡ true → P call) → P told
call_if-told true call told P e holds = let same : call ≡ told = cc in subst P same (holds refl)
call_if-told false call told P e holds = absurd cc

-- the test of a call with a protection and no access
abbrev with_prot : (second prot access : ℕ) → Bool
with_prot second prot access = nat_lt second (2 ^ 32) && nat_lt prot 8 && (access == 0)

-- what it says
with_prot-true : (second prot access : ℕ) → with_prot second prot access ≡ true → (second < 2 ^ 32) × (prot < 8) × (access ≡ 0)
with_prot-true second prot access e = grind (arith, nat_tests)

-- the test of a fault
fault-true : (second prot access : ℕ) → ((second == 0) && (prot == 0) && ((access == 1) || (access == 2) || (access == 4))) ≡ true → (second ≡ 0) × (prot ≡ 0) × IsAccess access
fault-true second prot access e = grind (arith, nat_tests)

-- a test of a protection and of a number that is 0
also_zero : (second prot access n : ℕ) → (with_prot second prot access && (n == 0)) ≡ true → (with_prot second prot access ≡ true) × (n ≡ 0)
also_zero second prot access n e = grind (arith, nat_tests)

-- a number that is no call's kind tells none
no_kind : (n first second prot access : ℕ) (told : SpaceCall) → call_with (n + 8) first second prot access ≡ Some told → ⊥
no_kind n first second prot access told e = grind (arith, nat_tests)

-- a call of a kind has the fields that tell it
call_with-sound : (kind first second prot access : ℕ) (told : SpaceCall) → first < 2 ^ 32 → call_with kind first second prot access ≡ Some told → HasFields kind first second prot access told
call_with-sound zero first second prot access told below e = absurd cc
call_with-sound (suc zero) first second prot access told below e =
    call_if-told (with_prot second prot access) (Map first second prot) told (HasFields 1 first second prot access) e
    (λ test. let t = with_prot-true second prot access test in ((below, t.0, t.1), λ mode. ap (λ x. words_of 1 first second prot x (mode_number mode)) (sym t.2)))
call_with-sound (suc (suc zero)) first second prot access told below e =
    call_if-told (with_prot second prot access && (second == 0)) (MapAny first prot) told (HasFields 2 first second prot access) e
    (λ test. let z = also_zero second prot access second test in let t = with_prot-true second prot access z.0 in ((below, t.1), λ mode. rw (z.1, t.2) refl))
call_with-sound (suc (suc (suc zero))) first second prot access told below e =
    call_if-told (with_prot second prot access) (MapNew first second prot) told (HasFields 3 first second prot access) e
    (λ test. let t = with_prot-true second prot access test in ((below, t.0, t.1), λ mode. ap (λ x. words_of 3 first second prot x (mode_number mode)) (sym t.2)))
call_with-sound (suc (suc (suc (suc zero)))) first second prot access told below e =
    call_if-told (with_prot second prot access && (prot == 0)) (Unmap first second) told (HasFields 4 first second prot access) e
    (λ test. let z = also_zero second prot access prot test in let t = with_prot-true second prot access z.0 in ((below, t.0), λ mode. rw (z.1, t.2) refl))
call_with-sound (suc (suc (suc (suc (suc zero))))) first second prot access told below e =
    call_if-told (with_prot second prot access) (Protect first second prot) told (HasFields 5 first second prot access) e
    (λ test. let t = with_prot-true second prot access test in ((below, t.0, t.1), λ mode. ap (λ x. words_of 5 first second prot x (mode_number mode)) (sym t.2)))
call_with-sound (suc (suc (suc (suc (suc (suc zero)))))) first second prot access told below e =
    call_if-told (with_prot second prot access) (Populate first second prot) told (HasFields 6 first second prot access) e
    (λ test. let t = with_prot-true second prot access test in ((below, t.0, t.1), λ mode. ap (λ x. words_of 6 first second prot x (mode_number mode)) (sym t.2)))
call_with-sound (suc (suc (suc (suc (suc (suc (suc zero))))))) first second prot access told below e =
    call_if-told ((second == 0) && (prot == 0) && ((access == 1) || (access == 2) || (access == 4))) (Fault first access) told (HasFields 7 first second prot access) e
    (λ test. let t = fault-true second prot access test in ((below, t.2), λ mode. rw (t.0, t.1) refl))
call_with-sound (suc (suc (suc (suc (suc (suc (suc (suc n)))))))) first second prot access told below e =
    let more : suc (suc (suc (suc (suc (suc (suc (suc n))))))) ≡ n + 8 = omega arith in
    absurd (no_kind n first second prot access told (rw more at e))

-- a call that is told only if a test holds
cond_some : (test : Bool) (o : Option SpaceCall) (call : SpaceCall) → cond test o None ≡ Some call → (test ≡ true) × (o ≡ Some call)
cond_some true o call e = (refl, e)
cond_some false o call e = absurd cc

-- the test of a remap
remap-true : (second third prot access : ℕ) → (nat_lt second (2 ^ 32) && nat_lt third (2 ^ 32) && (prot == 0) && (access == 0)) ≡ true → (second < 2 ^ 32) × (third < 2 ^ 32) × (prot ≡ 0)
    × (access ≡ 0)
remap-true second third prot access e = grind (arith, nat_tests)

-- numbers that are tested equal are so
is_same : (n m : ℕ) → (n == m) ≡ true → n ≡ m
is_same n m e = grind (arith, nat_tests)

-- a valid call with these fields, and this third number
abbrev HasAll : (kind first second third prot access : ℕ) → SpaceCall → Type 0
HasAll kind first second third prot access call =
    IsCall call × ((mode : Mode) → words_of_call call mode ≡ with_third (words_of kind first second prot access (mode_number mode)) third)

-- words with the third number 0 are those without one
no_third : (w : CallWords) (third : ℕ) → third ≡ 0 → w ≡ with_third w third
no_third w third none = let b : w.b ≡ w.b + third * 2 ^ 32 = omega (arith, none) in λ i. record { a = w.a; b = b i }

-- a call that is told has all that tells it
call_in-sound : (kind first second third prot access : ℕ) (told : SpaceCall) → first < 2 ^ 32 → call_in kind first second third prot access ≡ Some told
    → HasAll kind first second third prot access told
call_in-sound kind first second third prot access told below e = go (kind == 13) refl e
  where
    go : (test : Bool) → (kind == 13) ≡ test → cond test (remap_with first second third prot access) (cond (third == 0) (call_with kind first second prot access) None) ≡ Some told
        → HasAll kind first second third prot access told
    go true at is =
        call_if-told (nat_lt second (2 ^ 32) && nat_lt third (2 ^ 32) && (prot == 0) && (access == 0)) (Remap first second third) told (HasAll kind first second third prot access) is
        (λ test. let t = remap-true second third prot access test in ((below, t.0, t.1), λ mode. rw (is_same kind 13 at, t.2, t.3) refl))
    go false at is =
        let t = cond_some (third == 0) (call_with kind first second prot access) told is in
        let has = call_with-sound kind first second prot access told below t.1 in
        (has.0, λ mode. has.1 mode ∙ no_third (words_of kind first second prot access (mode_number mode)) third (is_same third 0 t.0))

-- a call is read from words of a mode
mode_test : (w : CallWords) (call : SpaceCall) → call_of w ≡ Some call → (w.b / 2 ^ 24 % 2 ^ 8 < 3)
    × (call_in (w.b % 2 ^ 8) (w.a % 2 ^ 32) (w.a / 2 ^ 32) (w.b / 2 ^ 32) (w.b / 2 ^ 8 % 2 ^ 8) (w.b / 2 ^ 16 % 2 ^ 8) ≡ Some call)
mode_test w call e =
    let t = cond_some (nat_lt (w.b / 2 ^ 24 % 2 ^ 8) 3) (call_in (w.b % 2 ^ 8) (w.a % 2 ^ 32) (w.a / 2 ^ 32) (w.b / 2 ^ 32) (w.b / 2 ^ 8 % 2 ^ 8) (w.b / 2 ^ 16 % 2 ^ 8)) call e in
    (ltb-true (w.b / 2 ^ 24 % 2 ^ 8) 3 t.0, t.1)

-- what is read is a valid call with these words
pub call_of-sound : (w : CallWords) (call : SpaceCall) → call_of w ≡ Some call → IsCallOf w call
call_of-sound w call e =
    let (below, is) = mode_test w call e in
    let has = call_in-sound _ _ _ _ _ _ call (omega arith) is in
    let m = mode_at (w.b / 2 ^ 24 % 2 ^ 8) below in
    (has.0, (m.0, has.1 m.0 ∙ words_of-fields w (mode_number m.0) m.1))

-- a valid call is read from its words
pub call_of-complete : (w : CallWords) (call : SpaceCall) → IsCallOf w call → call_of w ≡ Some call
call_of-complete w call (valid, (mode, is)) = ap call_of (sym is) ∙ call_of-packed call mode valid

-- the words of a call tell it, and words of no call tell none
pub call_of-exact : (w : CallWords) → IsFound (IsCallOf w) (call_of w)
call_of-exact w = go (call_of w) refl
  where
    go : (found : Option SpaceCall) → call_of w ≡ found → IsFound (IsCallOf w) found
    go None e = λ call is. let told = call_of-complete w call is in cc
    go (Some call) e = (call_of-sound w call e, λ other is. let told = call_of-complete w other is in cc)
