-- The words of a signal.
use Rattle.std.proofs.Common.{◌≡◌, ℕ, ◌%◌, ◌^◌, Bool, true, false, cond, refl, Option, Some, None, arith}
use Rattle.std.proofs.lemmas.Bool.Decides.{nat_tests}
use Rattle.word_bits.specs.declared.call.CallWords.{CallWords}
use Rattle.word_bits.specs.Calls.{signal_of}

-- the kind in them
pub signal_kind : (w : CallWords) (task : ℕ) → signal_of w ≡ Some task → w.b % 2 ^ 8 ≡ 15
signal_kind w task is = grind (arith, nat_tests)

-- none, whatever a test says
pub none_either : {X : Type 0} (test : Bool) → cond {A = Option X} test None None ≡ None
none_either true = refl
none_either false = refl
