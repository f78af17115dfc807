-- The kinds of calls, and their numbers.
use Rattle.std.specs.Prelude.{ℕ, ◌==◌, if◌then◌else◌, Option, Some, None}
use Rattle.word_bits.specs.declared.kind.CallKind.{CallKind}
use Rattle.word_bits.specs.declared.kind.CallKind.TheVariants.{Map, MapAny, MapNew, Unmap, Protect, Populate, Fault, Open, Close, Dup, Dup2, Get, Remap, Signal}

-- the number of a kind in a call's words
abbrev pub kind_number : CallKind → ℕ
kind_number Map = 1
kind_number MapAny = 2
kind_number MapNew = 3
kind_number Unmap = 4
kind_number Protect = 5
kind_number Populate = 6
kind_number Fault = 7
kind_number Open = 8
kind_number Close = 9
kind_number Dup = 10
kind_number Dup2 = 11
kind_number Get = 12
kind_number Remap = 13
kind_number Signal = 15

-- the kind of a number
abbrev pub kind_of_number : ℕ → Option CallKind
kind_of_number number =
    if number == 1 then Some Map
    else if number == 2 then Some MapAny
    else if number == 3 then Some MapNew
    else if number == 4 then Some Unmap
    else if number == 5 then Some Protect
    else if number == 6 then Some Populate
    else if number == 7 then Some Fault
    else if number == 8 then Some Open
    else if number == 9 then Some Close
    else if number == 10 then Some Dup
    else if number == 11 then Some Dup2
    else if number == 12 then Some Get
    else if number == 13 then Some Remap
    else if number == 15 then Some Signal
    else None
