-- A reader's try goes on from word to word.
use Rattle.std.proofs.Common.{◌≡◌, ℕ, ◌+◌, subst, arith}
use Rattle.atomic_table.specs.Table.{Me}
use Rattle.rwsem_count.specs.CountWordSteps.{IsReadFree}
use Rattle.rwsem_count.specs.CountPlays.{SeenBy}
use Rattle.rwsem_count.specs.CountTries.{SawCount}
use Rattle.rwsem_count.specs.Types.{View}

module _ {E : Type 0} where
  -- what a step tells of the word that a try saw
  pub saw-word : (me me' : Me (Unit {0}) (View E)) (n : ℕ) → SeenBy me n me' → SawCount me.0 n me'.0
  saw-word me me' n told = record { step = me.0.steps; later = omega arith; lawful = told.0; on = λ free. (told.1 free).0; fails = λ shut. (told.2 shut).0 }

  -- one more look, after one at a word that let a reader in
  pub saw-again : (v w u : View E) (n m : ℕ) → SawCount v n w → IsReadFree n → SawCount w m u → SawCount v m u
  saw-again v w u n m saw free next = go w (saw.on free) next
    where
      go : (z : View E) → z ≡ record v { steps = saw.step + 1 } → SawCount z m u → SawCount v m u
      go z is x = let y : SawCount (record v { steps = saw.step + 1 }) m u = subst (λ (q : View E). SawCount q m u) is x in let a = saw.later in let b = y.later in record { step = y.step; later = omega (arith, a, b); lawful = y.lawful; on = y.on; fails = y.fails }
