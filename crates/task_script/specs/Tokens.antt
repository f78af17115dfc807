-- What a single word is.
use Rattle.std.specs.Prelude.{ℕ, ◌+◌, ◌-◌, ◌*◌, ◌^◌, ◌==◌, ◌||◌, ◌&&◌, nat_lt, nat_le, Bool, true, false, List, [], ◌∷◌, length, if◌then◌else◌, Option, Some, None, is_none, codes}
use Rattle.std.specs.Char.{is_ascii_digit}
use Rattle.std.specs.List.{list_all}
use Rattle.std.specs.Str.{bytes_eq}
use Rattle.task_script.specs.Types.{Keyword, Space, Table, Task}
use Rattle.task_script.specs.declared.token.Keyword.TheVariants.{Version, Int, Try}

abbrev pub is_lower : ℕ → Bool
is_lower b = nat_le 97 b && nat_le b 122

abbrev pub is_name_byte : ℕ → Bool
is_name_byte b = (is_lower b || is_ascii_digit b) || (b == 95)

-- the words that begin other lines, or that stand in front of a call
abbrev pub keyword_of : List ℕ → Option Keyword
keyword_of w =
    if bytes_eq w (codes "version") then Some Version
    else if bytes_eq w (codes "space") then Some Space
    else if bytes_eq w (codes "table") then Some Table
    else if bytes_eq w (codes "task") then Some Task
    else if bytes_eq w (codes "int") then Some Int
    else if bytes_eq w (codes "try") then Some Try
    else None

-- a lower-case letter, and then up to 15 lower-case letters, digits or _
abbrev pub has_name_bytes : List ℕ → Bool
has_name_bytes [] = false
has_name_bytes (b ∷ bs) = (is_lower b && nat_le (length bs) 15) && list_all is_name_byte bs

-- such a word, but no keyword
abbrev pub is_name : List ℕ → Bool
is_name w = has_name_bytes w && is_none (keyword_of w)

-- the number that the digits stand for, after others
abbrev pub value_after : ℕ → List ℕ → ℕ
value_after n [] = n
value_after n (d ∷ ds) = value_after (n * 10 + (d - 48)) ds

abbrev pub leads_zero : List ℕ → Bool
leads_zero [] = true
leads_zero (d ∷ []) = false
leads_zero (d ∷ e ∷ ds) = d == 48

-- 0, or digits that begin with 1 to 9, up to 2 ^ 32 - 1
abbrev pub number : List ℕ → Option ℕ
number ds =
    if leads_zero ds then None
    else if list_all is_ascii_digit ds && nat_lt (value_after 0 ds) (2 ^ 32) then Some (value_after 0 ds)
    else None

-- r, w or x
abbrev pub access : List ℕ → Option ℕ
access w =
    if bytes_eq w (codes "r") then Some 1
    else if bytes_eq w (codes "w") then Some 2
    else if bytes_eq w (codes "x") then Some 4
    else None

-- - stands for no bit, and the letter for its own
abbrev pub flag : (letter bit byte : ℕ) → Option ℕ
flag letter bit byte = if byte == 45 then Some 0 else if byte == letter then Some bit else None

-- the bits of three flags
abbrev pub all_flags : (read write execute : Option ℕ) → Option ℕ
all_flags (Some read) (Some write) (Some execute) = Some (read + write + execute)
all_flags read write execute = None

-- r or -, w or -, x or -: r 1, w 2, x 4
abbrev pub prot : List ℕ → Option ℕ
prot (r ∷ w ∷ x ∷ []) = all_flags (flag 114 1 r) (flag 119 2 w) (flag 120 4 x)
prot word = None
