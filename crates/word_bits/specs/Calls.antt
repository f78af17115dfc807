-- A call as two words.
use Rattle.std.specs.Prelude.{◌≡◌, ℕ, ◌+◌, ◌*◌, ◌/◌, ◌%◌, ◌^◌, ◌==◌, nat_lt, Bool, true, if◌then◌else◌, Option, Some, None}
use Rattle.word_bits.specs.declared.call.CallWords.{CallWords}
use Rattle.word_bits.specs.declared.call.Mode.{Mode}
use Rattle.word_bits.specs.declared.call.Mode.TheVariants.{Plain, Int, Try}

abbrev pub mode_number : Mode → ℕ
mode_number Plain = 0
mode_number Int = 1
mode_number Try = 2

-- the parts of a call's words
abbrev pub kind_in : CallWords → ℕ
kind_in w = w.b % 2 ^ 8

abbrev pub first_in : CallWords → ℕ
first_in w = w.a % 2 ^ 32

abbrev pub second_in : CallWords → ℕ
second_in w = w.a / 2 ^ 32

abbrev pub prot_in : CallWords → ℕ
prot_in w = w.b / 2 ^ 8 % 2 ^ 8

abbrev pub access_in : CallWords → ℕ
access_in w = w.b / 2 ^ 16 % 2 ^ 8

abbrev pub mode_in : CallWords → ℕ
mode_in w = w.b / 2 ^ 24 % 2 ^ 8

abbrev pub third_in : CallWords → ℕ
third_in w = w.b / 2 ^ 32

-- the words have one of the modes
abbrev pub has_mode : CallWords → Bool
has_mode w = nat_lt (mode_in w) 3

abbrev pub mode_of : CallWords → Mode
mode_of w = if mode_in w == 1 then Int else if mode_in w == 2 then Try else Plain

-- the words of a call: its kind, its two numbers, and its protection, access and mode
abbrev pub words_of : (kind first second prot access mode : ℕ) → CallWords
words_of kind first second prot access mode = record {
  a = first + second * 2 ^ 32;
  b = kind + prot * 2 ^ 8 + access * 2 ^ 16 + mode * 2 ^ 24;
}

-- these words, with a third number
abbrev pub with_third : CallWords → ℕ → CallWords
with_third w third = record { a = w.a; b = w.b + third * 2 ^ 32 }

-- words say this of each part of a call
pub record Says (w : CallWords) (kind first second prot access : ℕ) (mode : Mode) : Type 0 where
  pub has_kind : kind_in w ≡ kind
  pub has_first : first_in w ≡ first
  pub has_second : second_in w ≡ second
  pub has_prot : prot_in w ≡ prot
  pub has_access : access_in w ≡ access
  pub has_third : third_in w ≡ 0
  pub moded : has_mode w ≡ true
  pub mode_is : mode_of w ≡ mode

-- the task that a signal is sent to
abbrev pub signal_of : CallWords → Option ℕ
signal_of w = if kind_in w == 15 then Some (first_in w) else None
