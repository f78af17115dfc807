-- The numbers of the kinds of calls.
use Rattle.std.proofs.Common.{◌≡◌, ◌<◌, refl, Some, arith}
use Rattle.word_bits.specs.declared.kind.CallKind.{CallKind}
use Rattle.word_bits.specs.declared.kind.CallKind.TheVariants.{Map, MapAny, MapNew, Unmap, Protect, Populate, Fault, Open, Close, Dup, Dup2, Get, Remap, Signal}
use Rattle.word_bits.specs.CallKinds.{kind_number, kind_of_number}

-- a kind's number is below 16
pub kind_number-lt : (kind : CallKind) → kind_number kind < 16
kind_number-lt Map = omega arith
kind_number-lt MapAny = omega arith
kind_number-lt MapNew = omega arith
kind_number-lt Unmap = omega arith
kind_number-lt Protect = omega arith
kind_number-lt Populate = omega arith
kind_number-lt Fault = omega arith
kind_number-lt Open = omega arith
kind_number-lt Close = omega arith
kind_number-lt Dup = omega arith
kind_number-lt Dup2 = omega arith
kind_number-lt Get = omega arith
kind_number-lt Remap = omega arith
kind_number-lt Signal = omega arith

-- it is the kind of its number
pub kind_of_number-kind_number : (kind : CallKind) → kind_of_number (kind_number kind) ≡ Some kind
kind_of_number-kind_number Map = refl
kind_of_number-kind_number MapAny = refl
kind_of_number-kind_number MapNew = refl
kind_of_number-kind_number Unmap = refl
kind_of_number-kind_number Protect = refl
kind_of_number-kind_number Populate = refl
kind_of_number-kind_number Fault = refl
kind_of_number-kind_number Open = refl
kind_of_number-kind_number Close = refl
kind_of_number-kind_number Dup = refl
kind_of_number-kind_number Dup2 = refl
kind_of_number-kind_number Get = refl
kind_of_number-kind_number Remap = refl
kind_of_number-kind_number Signal = refl
