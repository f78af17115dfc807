-- What a name is.
use Rattle.std.proofs.Common.{◌≡◌, ℕ, ◌<◌, ◌≤◌, true, is_none, ◌&&◌, List, [], ◌∷◌, length, arith, nat_le, get_or, zero, suc, lit<}
use Rattle.std.specs.Str.{IsUtf8}
use Rattle.std.proofs.lemmas.Bool.{and_parts}
use Rattle.std.proofs.lemmas.Bool.Decides.{nat_tests}
use Rattle.std.specs.List.{list_all}
use Rattle.std.proofs.lemmas.Str.{IsUtf8-from_ascii}
use Rattle.task_script.specs.Tokens.{is_name, has_name_bytes, is_name_byte, is_lower, keyword_of}

-- a byte of a name is one of ASCII
name_byte_small : (b : ℕ) → is_name_byte b ≡ true → b < 128
name_byte_small b is = grind (arith, nat_tests)

-- bytes of names are ASCII
ascii_bytes : (bs : List ℕ) (i : ℕ) → list_all is_name_byte bs ≡ true → get_or bs i 0 < 128
ascii_bytes [] i all = lit< tt
ascii_bytes (b ∷ bs) zero all = name_byte_small b (and_parts (is_name_byte b) (list_all is_name_byte bs) all).0
ascii_bytes (b ∷ bs) (suc i) all = ascii_bytes bs i (and_parts (is_name_byte b) (list_all is_name_byte bs) all).1

-- a name is a text
pub name_is_text : (word : List ℕ) → is_name word ≡ true → IsUtf8 word
name_is_text [] is = cc
name_is_text (b ∷ bs) is =
    let form = and_parts (is_lower b && nat_le (length bs) 15) (list_all is_name_byte bs) (and_parts (has_name_bytes (b ∷ bs)) (is_none (keyword_of (b ∷ bs))) is).0 in
    IsUtf8-from_ascii (b ∷ bs) (at (and_parts (is_lower b) (nat_le (length bs) 15) form.0).0 form.1)
  where
    at : is_lower b ≡ true → list_all is_name_byte bs ≡ true → (i : ℕ) → get_or (b ∷ bs) i 0 < 128
    at lower all zero = grind (arith, nat_tests)
    at lower all (suc i) = ascii_bytes bs i all

-- a name has 1 to 16 bytes
pub name_is_short : (word : List ℕ) → is_name word ≡ true → (0 < length word) × (length word ≤ 16)
name_is_short [] is = cc
name_is_short (b ∷ bs) is = grind (arith, nat_tests)
