-- The script that a number generates: eight tasks on one space, each on pages of its own.
use Rattle.std.specs.Prelude.{ℕ, ◌+◌, ◌*◌, ◌/◌, ◌%◌, ◌^◌, ◌==◌, nat_lt, zero, suc, true, List, [], ◌∷◌, map, if◌then◌else◌, codes}
use Rattle.std.specs.List.{range_with_len}
use Rattle.task_script.specs.declared.script.Line.{Line}
use Rattle.task_script.specs.Verbs.{call_words_of}
use Rattle.task_script.specs.Grammar.{line_of}
use Rattle.task_script.specs.Scripts.{Declared, Listing}
use Rattle.task_script.specs.Types.{CallWords, Plain, Map, Unmap, Protect, Fault, One}

-- the next number of a linear congruential generator
abbrev pub next_random : ℕ → ℕ
next_random x = (x * 1664525 + 1013904223) % 2 ^ 32

-- so many numbers behind this one
unfoldable pub randoms : (x count : ℕ) → List ℕ
randoms x zero = []
randoms x (suc count) = next_random x ∷ randoms (next_random x) count

-- r, w or x
abbrev pub random_access : ℕ → ℕ
random_access n = if n == 0 then 1 else if n == 1 then 2 else 4

-- a quarter of the calls map a range, half look at a page
abbrev pub random_call : (kind start len prot : ℕ) → CallWords
random_call kind start len prot =
    if nat_lt kind 2 then call_words_of Map Plain (record { first = start; second = len; third = 0; prot = prot; access = 0 })
    else if kind == 2 then call_words_of Unmap Plain (record { first = start; second = len; third = 0; prot = 0; access = 0 })
    else if kind == 3 then call_words_of Protect Plain (record { first = start; second = len; third = 0; prot = prot; access = 0 })
    else call_words_of Fault Plain (record { first = start; second = 0; third = 0; prot = 0; access = random_access (prot % 3) })

-- the call that a number makes of a task, on some of 31 pages of its own
abbrev pub random_line : (task x : ℕ) → Line
random_line task x = line_of 0 (random_call (x / 2 ^ 28 % 8) (task * 4096 + x / 2 ^ 8 % 24) (1 + x / 2 ^ 16 % 8) (x / 2 ^ 20 % 8))

-- so many calls of a task, from the numbers behind this one
abbrev pub random_lines : (task x count : ℕ) → List Line
random_lines task x count = map (random_line task) (randoms x count)

-- a task has 2000 calls
abbrev pub random_task : (number task : ℕ) → List Line
random_task number task = random_lines task ((number + task) % 2 ^ 32) 2000

abbrev pub the_space : Declared
the_space = record { name = codes "m"; is_space = true }

-- the script
abbrev pub generated : (number : ℕ) → Listing
generated number = record { version = One; objects = the_space ∷ []; tasks = map (random_task number) (range_with_len 0 8) }
