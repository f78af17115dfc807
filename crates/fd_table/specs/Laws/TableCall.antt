-- A call has one pair of words in each mode, and the words tell it.
use Rattle.std.proofs.Common.{◌≡◌, ℕ, ◌+◌, ◌*◌, ◌/◌, ◌%◌, ◌^◌, ◌<◌, refl, Option, Some, None, sym, ap, ◌∙◌, arith}
use Rattle.std.proofs.lemmas.Bool.Decides.{nat_tests}
use Rattle.word_bits.specs.declared.call.CallWords.{CallWords}
use Rattle.word_bits.specs.declared.call.Mode.{Mode}
use Rattle.word_bits.proofs.Modes.{mode_number-lt, mode_at}
use Rattle.word_bits.specs.Calls.{words_of, mode_number, kind_in, first_in, second_in, third_in, prot_in, access_in}
use Rattle.word_bits.specs.Packed.{IsFound}
use Rattle.fd_table.specs.declared.call.TableCall.{TableCall}
use Rattle.fd_table.specs.declared.call.TableCall.TheVariants.{Open, Close, Dup, Dup2, Get}
use Rattle.fd_table.specs.Tables.{IsCall, IsCallOf, call_with, call_of, words_of_call}

-- the fields of packed words
call_of-words_of : (kind first second mode : ℕ) → kind < 2 ^ 8 → first < 2 ^ 32 → mode < 3 → call_of (words_of kind first second 0 0 mode) ≡ call_with kind first second
call_of-words_of kind first second mode k f m =
    let b = kind + 0 * 2 ^ 8 + 0 * 2 ^ 16 + mode * 2 ^ 24 in
    let a = first + second * 2 ^ 32 in
    let e0 : b / 2 ^ 24 % 2 ^ 8 ≡ mode = omega arith in
    let e5 : b / 2 ^ 32 ≡ 0 = omega arith in
    let e1 : b % 2 ^ 8 ≡ kind = omega arith in
    let e2 : b / 2 ^ 8 % 2 ^ 8 ≡ 0 = omega arith in
    let e2' : b / 2 ^ 16 % 2 ^ 8 ≡ 0 = omega arith in
    let e3 : a % 2 ^ 32 ≡ first = omega arith in
    let e4 : a / 2 ^ 32 ≡ second = omega arith in
    rw (e0, e1, e2, e2', e3, e4, e5) (grind (arith, nat_tests))

-- words that are packed from a valid call tell it
call_of-packed : (call : TableCall) (mode : Mode) → IsCall call → call_of (words_of_call call mode) ≡ Some call
call_of-packed (Open file) mode h = call_of-words_of 8 file 0 (mode_number mode) (omega arith) (omega arith) (mode_number-lt mode) ∙ grind (arith, nat_tests)
call_of-packed (Close fd) mode h = call_of-words_of 9 fd 0 (mode_number mode) (omega arith) h (mode_number-lt mode)
call_of-packed (Dup fd) mode h = call_of-words_of 10 fd 0 (mode_number mode) (omega arith) h (mode_number-lt mode)
call_of-packed (Dup2 fd to) mode h = call_of-words_of 11 fd to (mode_number mode) (omega arith) h.0 (mode_number-lt mode) ∙ grind (arith, nat_tests)
call_of-packed (Get fd) mode h = call_of-words_of 12 fd 0 (mode_number mode) (omega arith) h (mode_number-lt mode)

-- what the tests of a call leave: its kind, its numbers, and that it is valid
abbrev Tested : (kind first second : ℕ) → TableCall → Type 0
Tested kind first second (Open file) = (kind ≡ 8) × (first ≡ file) × (second ≡ 0) × (first < 65536)
Tested kind first second (Close fd) = (kind ≡ 9) × (first ≡ fd) × (second ≡ 0)
Tested kind first second (Dup fd) = (kind ≡ 10) × (first ≡ fd) × (second ≡ 0)
Tested kind first second (Dup2 fd to) = (kind ≡ 11) × (first ≡ fd) × (second ≡ to) × (second < 2 ^ 32)
Tested kind first second (Get fd) = (kind ≡ 12) × (first ≡ fd) × (second ≡ 0)

-- the tests of each call
tests : (kind first second : ℕ) (call : TableCall) → call_with kind first second ≡ Some call → Tested kind first second call
tests kind first second (Open file) e = grind (arith, nat_tests)
tests kind first second (Close fd) e = grind (arith, nat_tests)
tests kind first second (Dup fd) e = grind (arith, nat_tests)
tests kind first second (Dup2 fd to) e = grind (arith, nat_tests)
tests kind first second (Get fd) e = grind (arith, nat_tests)

-- words of a mode with no protection, no access and no third number have no other bits
abbrev IsBare : CallWords → Type 0
IsBare w = (w.b / 2 ^ 24 < 3) × (w.b / 2 ^ 8 % 2 ^ 16 ≡ 0)

-- a call is read from such words
mode_test : (w : CallWords) (call : TableCall) → call_of w ≡ Some call → IsBare w × (call_with (kind_in w) (first_in w) (second_in w) ≡ Some call)
mode_test w call e =
    let t : (w.b / 2 ^ 24 % 2 ^ 8 < 3) × (prot_in w ≡ 0) × (access_in w ≡ 0) × (third_in w ≡ 0) × (call_with (kind_in w) (first_in w) (second_in w) ≡ Some call) = grind (arith, nat_tests) in
    let mode = t.0 in
    let prot = t.1 in
    let access = t.2 in
    let third = t.3 in
    ((omega (arith, mode, third), omega (arith, prot, access)), t.4)

-- the words of a call's kind and numbers are the words that were read
words_of-fields : (w : CallWords) (kind first second mode : ℕ) → w.b / 2 ^ 8 % 2 ^ 16 ≡ 0 → w.b % 2 ^ 8 ≡ kind → w.a % 2 ^ 32 ≡ first → w.a / 2 ^ 32 ≡ second → mode ≡ w.b / 2 ^ 24
    → words_of kind first second 0 0 mode ≡ w
words_of-fields w kind first second mode none k f s m =
    let a : first + second * 2 ^ 32 ≡ w.a = omega arith in
    let b : kind + 0 * 2 ^ 8 + 0 * 2 ^ 16 + mode * 2 ^ 24 ≡ w.b = omega arith in
    λ i. record { a = a i; b = b i }

-- what the tests leave is a valid call with these words
tested-sound : (w : CallWords) (call : TableCall) → w.b / 2 ^ 8 % 2 ^ 16 ≡ 0 → (m : (mode : Mode) × (mode_number mode ≡ w.b / 2 ^ 24)) → Tested (kind_in w) (first_in w) (second_in w) call
    → IsCallOf w call
tested-sound w (Open file) none m t = (omega arith, (m.0, words_of-fields w 8 file 0 (mode_number m.0) none t.0 t.1 t.2 m.1))
tested-sound w (Close fd) none m t = (omega arith, (m.0, words_of-fields w 9 fd 0 (mode_number m.0) none t.0 t.1 t.2 m.1))
tested-sound w (Dup fd) none m t = (omega arith, (m.0, words_of-fields w 10 fd 0 (mode_number m.0) none t.0 t.1 t.2 m.1))
tested-sound w (Dup2 fd to) none m t = ((omega arith, omega arith), (m.0, words_of-fields w 11 fd to (mode_number m.0) none t.0 t.1 t.2 m.1))
tested-sound w (Get fd) none m t = (omega arith, (m.0, words_of-fields w 12 fd 0 (mode_number m.0) none t.0 t.1 t.2 m.1))

-- what is read is a valid call with these words
pub call_of-sound : (w : CallWords) (call : TableCall) → call_of w ≡ Some call → IsCallOf w call
call_of-sound w call e =
    let (bare, is) = mode_test w call e in
    tested-sound w call bare.1 (mode_at (w.b / 2 ^ 24) bare.0) (tests _ _ _ call is)

-- a valid call is read from its words
pub call_of-complete : (w : CallWords) (call : TableCall) → IsCallOf w call → call_of w ≡ Some call
call_of-complete w call (valid, (mode, is)) = ap call_of (sym is) ∙ call_of-packed call mode valid

-- the words of a call tell it, and words of no call tell none
pub call_of-exact : (w : CallWords) → IsFound (IsCallOf w) (call_of w)
call_of-exact w = go (call_of w) refl
  where
    go : (found : Option TableCall) → call_of w ≡ found → IsFound (IsCallOf w) found
    go None e = λ call is. let told = call_of-complete w call is in cc
    go (Some call) e = (call_of-sound w call e, λ other is. let told = call_of-complete w other is in cc)
