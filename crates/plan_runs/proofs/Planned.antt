-- Plans, call by call.
use Rattle.std.proofs.Common.{◌≡◌, ℕ, zero, suc, ◌+◌, ◌<◌, ⊎_elim, inr, List, [], ◌∷◌, length, replicate, slice_get, Some, IsSome, sym, refl, ap, ◌∙◌, subst, arith}
use mathlib.Core.Logic.{dite}
use native.Mathlib.Decide.{ℕ_discrete}
use Rattle.word_bits.specs.declared.call.CallWords.{CallWords}
use Rattle.word_bits.specs.Objects.{Obj}
use Rattle.word_bits.specs.Histories.{Plan}
use Rattle.lock_core.specs.Plans.{appended, calls_in}
use Rattle.lock_core.specs.Records.{row, IsPlan, IsCallOrSignal}
use Rattle.lock_core.proofs.RowLaws.{none-some, same-some, get-either, row-appended, row-beside}

only-one : (w x : CallWords) (j : ℕ) → slice_get (w ∷ []) j ≡ Some x → w ≡ x
only-one w x zero e = same-some w x e
only-one w x (suc j) e = none-some x e

module _ {Call : Type 0} (o : Obj Call) where
  pub plan-appended : (k : Plan) (t : ℕ) (w : CallWords) → t < length k → IsPlan o k → IsCallOrSignal o w → IsPlan o (appended k t w)
  plan-appended k t w inside plan is u c x at = dite (ℕ_discrete u t)
      (λ same. ⊎_elim (λ (l : slice_get (row k t) c ≡ Some x). plan t c x l) (λ (r : (j : ℕ) × (c ≡ length (row k t) + j) × (slice_get (w ∷ []) j ≡ Some x)). subst (IsCallOrSignal o) (only-one w x r.0 r.2) is)
      (get-either (row k t) (w ∷ []) c x (ap (λ (ws : List CallWords). slice_get ws c) (sym (row-appended k t w inside)) ∙ (ap (λ (v : ℕ). slice_get (row (appended k t w) v) c) (sym same) ∙ at))))
      (λ other. plan u c x (ap (λ (ws : List CallWords). slice_get ws c) (sym (row-beside k t u w other)) ∙ at))
