-- What an access meets.
use Rattle.std.proofs.Common.{◌≡◌, ℕ, zero, suc, ◌*◌, ◌/◌, ◌%◌, ◌<◌, Some, inl, inr, sym, ◌∙◌, arith, bit_and}
use Rattle.std.proofs.lemmas.Nat.{and_mask}
use Rattle.std.proofs.lemmas.Nat.Bits.{and_high}
use Rattle.std.proofs.lemmas.Bool.Decides.{nat_tests}
use Rattle.word_bits.specs.declared.reply.Reply.TheVariants.{Good, AccErr}
use Rattle.vma_map.specs.Spaces.{IsAccess, access_reply}

-- the bit of an access
bit_and-access : (prot access : ℕ) → IsAccess access → bit_and prot access ≡ (prot / access % 2) * access
bit_and-access prot access (inl is) = rw is (and_high prot 1 0)
bit_and-access prot access (inr (inl is)) = rw is (and_high prot 1 1)
bit_and-access prot access (inr (inr is)) = rw is (and_high prot 1 2)

-- the bit that admits reading
pub read_bit : (prot : ℕ) → bit_and prot 1 ≡ prot % 2
read_bit prot = and_mask prot 1

-- an access is a bit
IsAccess-pos : (access : ℕ) → IsAccess access → 0 < access
IsAccess-pos access (inl is) = omega arith
IsAccess-pos access (inr (inl is)) = omega arith
IsAccess-pos access (inr (inr is)) = omega arith

-- a bit times a number is 0 where the bit is
bit_of-set : (bit n : ℕ) → bit < 2 → (bit * n ≡ 0 → ⊥) → bit ≡ 1
bit_of-set zero n small set = absurd (set (omega arith))
bit_of-set (suc bit) n small set = omega arith

-- and else the bit is 0
bit_of-clear : (bit n : ℕ) → 0 < n → bit * n ≡ 0 → bit ≡ 1 → ⊥
bit_of-clear bit n some clear is =
    let all : 1 * n ≡ 0 = rw is at clear in
    omega arith

-- where it is set, the access is good
pub access_reply-set : (prot access : ℕ) → IsAccess access → (bit_and prot access ≡ 0 → ⊥) → access_reply (Some prot) access ≡ Good
access_reply-set prot access is set =
    let bit = bit_and-access prot access is in
    let one = bit_of-set (prot / access % 2) access (omega arith) (λ e. set (bit ∙ e)) in
    grind (arith, nat_tests)

-- and else it is not
pub access_reply-clear : (prot access : ℕ) → IsAccess access → bit_and prot access ≡ 0 → access_reply (Some prot) access ≡ AccErr
access_reply-clear prot access is clear =
    let bit = bit_and-access prot access is in
    let not_one = bit_of-clear (prot / access % 2) access (IsAccess-pos access is) (sym bit ∙ clear) in
    grind (arith, nat_tests)
