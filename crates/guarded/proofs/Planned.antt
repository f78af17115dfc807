-- What the words of a planned call are: those of a signal to a task, or of a call of the object.
use Rattle.std.proofs.Common.{◌≡◌, ℕ, ◌<◌, true, inl, inr, Some, None, sym, subst, ◌∙◌}
use Rattle.std.specs.Prelude.{Option, is_some}
use Rattle.guarded.specs.Types.{CallWords}
use Rattle.word_bits.specs.declared.TheConstants.{MAX_TASKS}
use Rattle.word_bits.specs.Calls.{signal_of}
use Rattle.word_bits.specs.Objects.{Obj}
use Rattle.lock_core.specs.Records.{IsCallOrSignal}
use Rattle.lock_core.proofs.RowLaws.{none-some, same-some}

no-none : {X : Type 0} {P : Type 0} (x : Option X) → is_some x ≡ true → x ≡ None → P
no-none x some none = let both = subst (λ y. is_some y ≡ true) none some in absurd (cc)

module _ {Call : Type 0} (o : Obj Call) (words : CallWords) (planned : IsCallOrSignal o words) where
  pub signal-there : ((w : CallWords) (t : ℕ) → signal_of w ≡ Some t → o.call_of w ≡ None) → (t : ℕ) → signal_of words ≡ Some t → t < MAX_TASKS
  signal-there signals t is = go planned where
    go : IsCallOrSignal o words → t < MAX_TASKS
    go (inl s) = subst (λ x. x < MAX_TASKS) (same-some s.1.0 t (sym s.1.1 ∙ is)) s.1.2
    go (inr s) = no-none (o.call_of words) s (signals words t is)

  pub is-either : {P : Type 0} → signal_of words ≡ None → o.call_of words ≡ None → P
  is-either {P} unsent uncalled = go planned where
    go : IsCallOrSignal o words → P
    go (inl s) = none-some s.1.0 (sym unsent ∙ s.1.1)
    go (inr s) = no-none (o.call_of words) s uncalled
