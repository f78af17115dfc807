-- What a pass knows that has gathered others.
use Rattle.std.proofs.Common.{◌≡◌, ℕ, suc, ◌<◌, ◌≤◌, sym, subst, arith}
use mathlib.Core.Logic.{dite}
use native.Mathlib.Decide.{ℕ_discrete}
use Rattle.word_bits.specs.LockWords.{Unavailable}
use Rattle.word_bits.specs.Objects.{Obj}
use Rattle.word_bits.specs.Histories.{Plan}
use Rattle.lock_core.specs.declared.view.Hand.{Hand}
use Rattle.guarded.specs.Gathering.{HasDoneAll, IsGathered, KeepsDone}

module _ {Call : Type 0} (o : Obj Call) (unavailable : Unavailable) where
  -- what a pass knows of the tasks from one on, once it has taken in the pass of the task before
  pub one-more : (k : Plan) (old new : Hand) (n u many : ℕ) → u ≡ suc n → KeepsDone o unavailable k old new → HasDoneAll o unavailable k new n → ((t : ℕ) → u ≤ t → t < many → HasDoneAll o unavailable k old t)
      → (t : ℕ) → n ≤ t → t < many → HasDoneAll o unavailable k new t
  one-more k old new n u many next keeps own so-far t from below = dite (ℕ_discrete t n)
      (λ same. subst (HasDoneAll o unavailable k new) (sym same) own)
      (λ other. let d = so-far t (omega (arith, next, from, other)) below in (d.0, keeps t d.0 d.1, d.2))

  -- who knows all that such a pass knew has gathered as much
  pub still-gathered : (k : Plan) (h u : Hand) → KeepsDone o unavailable k h u → IsGathered o unavailable k h → IsGathered o unavailable k u
  still-gathered k h u keeps g = record { made = g.made; all = g.all; done = λ t l. keeps t _ (g.done t l) }
