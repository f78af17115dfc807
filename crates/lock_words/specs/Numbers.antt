-- Numbers as digits.
use Rattle.std.specs.Prelude.{ℕ, zero, suc, ◌+◌, ◌-◌, ◌/◌, ◌%◌, nat_lt, List, [], ◌∷◌, ◌++◌, codes, decimal, if◌then◌else◌}

-- 0 to 9, and a to f for 10 to 15
abbrev pub glyph : ℕ → ℕ
glyph d = if nat_lt d 10 then 48 + d else 97 + (d - 10)

-- so many hexadecimal digits at most, the lowest last
abbrev pub hex_digits : (most n : ℕ) → List ℕ
hex_digits zero n = []
hex_digits (suc k) n = (if nat_lt n 16 then [] else hex_digits k (n / 16)) ++ glyph (n % 16) ∷ []

abbrev pub hex_text : ℕ → List ℕ
hex_text n = codes "0x" ++ hex_digits 16 n

-- WORD 0xWORD
abbrev pub word_text : ℕ → List ℕ
word_text n = decimal n ++ codes " " ++ hex_text n
