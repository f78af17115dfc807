-- Plans, call by call.
use Rattle.std.proofs.Common.{◌≡◌, ℕ, zero, suc, ◌+◌, ◌<◌, ⊎_elim, List, [], ◌∷◌, length, replicate, slice_get, Some, sym, refl, ap, ◌∙◌, subst, arith}
use mathlib.Core.Logic.{dite}
use native.Mathlib.Decide.{ℕ_discrete}
use Rattle.word_bits.specs.declared.call.CallWords.{CallWords}
use Rattle.word_bits.specs.Objects.{Obj}
use Rattle.word_bits.specs.Histories.{Plan}
use Rattle.lock_core.specs.Plans.{appended}
use Rattle.lock_core.specs.Records.{row, IsPlan, IsCallOrSignal}
use Rattle.lock_core.proofs.RowLaws.{none-some, same-some, get-either, get-last, get-longer, row-appended, row-beside}
use Rattle.step_tests.specs.TestPercpuPasses.{Repeats}

only-one : (w x : CallWords) (j : ℕ) → slice_get (w ∷ []) j ≡ Some x → w ≡ x
only-one w x zero e = same-some w x e
only-one w x (suc j) e = none-some x e

pub plan-appended : {Call : Type 0} (o : Obj Call) (k : Plan) (t : ℕ) (w : CallWords) → t < length k → IsPlan o k → IsCallOrSignal o w → IsPlan o (appended k t w)
plan-appended o k t w inside plan is u c x at = dite (ℕ_discrete u t)
    (λ same. ⊎_elim (λ (l : slice_get (row k t) c ≡ Some x). plan t c x l) (λ (r : (j : ℕ) × (c ≡ length (row k t) + j) × (slice_get (w ∷ []) j ≡ Some x)). subst (IsCallOrSignal o) (only-one w x r.0 r.2) is)
    (get-either (row k t) (w ∷ []) c x (ap (λ (ws : List CallWords). slice_get ws c) (sym (row-appended k t w inside)) ∙ (ap (λ (v : ℕ). slice_get (row (appended k t w) v) c) (sym same) ∙ at))))
    (λ other. plan u c x (ap (λ (ws : List CallWords). slice_get ws c) (sym (row-beside k t u w other)) ∙ at))

-- one call more of the same
pub repeats-appended : (k : Plan) (t n : ℕ) (w : CallWords) → t < length k → length (row k t) ≡ n → Repeats k t n w → Repeats (appended k t w) t (n + 1) w
repeats-appended k t n w inside many repeats c less = ap (λ (ws : List CallWords). slice_get ws c) (row-appended k t w inside) ∙ dite (ℕ_discrete c n)
    (λ last. get-last (row k t) w c (many ∙ sym last))
    (λ other. get-longer (row k t) (w ∷ []) c w (repeats c (omega (arith, less, other))))

-- what the task repeats it repeats while its calls stay
pub repeats-on : (k m : Plan) (t n : ℕ) (w : CallWords) → row m t ≡ row k t → Repeats k t n w → Repeats m t n w
repeats-on k m t n w same repeats c less = ap (λ (ws : List CallWords). slice_get ws c) same ∙ repeats c less

pub empty-rows : (n t : ℕ) → row {X = CallWords} (replicate n []) t ≡ []
empty-rows zero t = refl
empty-rows (suc n) zero = refl
empty-rows (suc n) (suc t) = empty-rows n t
