-- What a step on a spin word asks and tells.
use Rattle.std.specs.Prelude.{◌≡◌, ℕ, ◌+◌, ◌<◌, ◌≤◌, ◌^◌, List, Some, slice_index, slice_set}
use mathlib.Core.Option.{some}
use lib.ListN.{get_elem?}
use Rattle.word_bits.specs.declared.TheConstants.{MAX_TASKS}
use Rattle.atomic_table.specs.Table.{Step}
use Rattle.qspin_word.specs.Types.{Op, View, SpinHand}
use Rattle.lock_core.specs.Ops.{word_after, told_by}
use Rattle.lock_core.specs.Views.{SpinPart, spin_part, part_with}
use Rattle.lock_core.specs.Spins.{SpinFacts, SpinGoes, SpinsMove, spun}
use Rattle.lock_core.specs.SitePlays.{Sat, Turns}

-- passes have the numbers of so many tasks, and no two the same one
pub record AreNumbered (tasks : ℕ) (ps : List SpinPart) : Type 0 where
  pub most : tasks ≤ MAX_TASKS
  pub few : (j : ℕ) (p : SpinPart) → get_elem? ps j ≡ some p → (t : ℕ) → p.task ≡ Some t → t < tasks
  pub apart : (i j : ℕ) (p r : SpinPart) (t : ℕ) → get_elem? ps i ≡ some p → get_elem? ps j ≡ some r → p.task ≡ Some t → r.task ≡ Some t → i ≡ j

module _ {E : Type 0} where
  -- whatever the words of so many spin locks are in a table for so many tasks, the pass may do the operation on the one at this place: it is a step at the lock of this number, after which the spin
  -- part is as this says of what was found, and so is what the step tells
  abbrev pub SpinAllows : (n tasks l id : ℕ) → View E → ℕ → Op → (ℕ → SpinHand) → (ℕ → Type 0) → Type 0
  SpinAllows n tasks l id v at op after tells = (w : List ℕ) (queues : ℕ → List ℕ) (ps : List SpinPart) → SpinFacts n w queues ps → AreNumbered tasks ps → get_elem? ps id ≡ some (spin_part v)
      → slice_index w at < 2 ^ 64
      → SpinsMove n id w ps (slice_set w at (word_after op (slice_index w at))) (slice_set ps id (part_with v (after (told_by op (slice_index w at)))))
      × SpinGoes (v.steps + 1) l v.spin (after (told_by op (slice_index w at)))
      × tells (told_by op (slice_index w at))

  -- the spin part of the view is as this says of what the step tells, and so is that
  abbrev pub SpunBy : (ℕ → SpinHand) → (ℕ → Type 0) → Step (Unit {0}) → Sat E → ℕ → Sat E → Type 0
  SpunBy after tells st m n m' = Turns m (spun m.0 (after n)) m' × tells n
