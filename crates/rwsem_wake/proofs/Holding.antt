-- A pass that a step made hold.
use Rattle.std.proofs.Common.{◌≡◌, ◌∙◌, ◌≤◌, ◌==◌, ℕ, Bool, true, false, Some, if◌then◌else◌, ap, arith}
use Rattle.atomic_table.specs.Table.{Me}
use Rattle.word_bits.specs.Objects.{Obj}
use Rattle.word_bits.specs.Histories.{Plan}
use Rattle.lock_core.specs.SpinFrames.{holds_at}
use Rattle.lock_core.specs.Spins.{holds_in}
use Rattle.lock_core.specs.Views.{SpinHolds, held_weight}
use Rattle.lock_core.specs.Pasts.{unseen}
use Rattle.rwsem_wake.specs.SemParts.{busy_weight}
use Rattle.rwsem_wake.specs.GrantQueues.{GetsSem, HoldsBy, heard}
use Rattle.rwsem_wake.specs.Types.{View, Seen, Held, No, Shared, Alone, SpinHand, SemWake, SemHand, Apart, Stage, Rest}
use Rattle.rwsem_wake.proofs.Sums.{busy-most}

module _ {E Call : Type 0} (with_sem : E → SemHand → E) (with_wake : E → SemWake → E) (o : Obj Call) (k : Plan) (held : Held) (s : SemHand) (b : SemWake) where
  pub holds-by : (me me' : Me (Unit {0}) (Seen E)) (u : View E) → me.0.view.hand.plan ≡ Some k → u ≡ me'.0.view → GetsSem with_sem with_wake o held s b (unseen me) (unseen me') → HoldsBy with_sem with_wake o k held s b me.0.view u
  holds-by me me' u plan is gets = (gets.0, gets.1, gets.2 k plan, is ∙ gets.3.0)

-- to hold isn't to hold nothing
pub shared-holds : Shared ≡ No → ⊥
shared-holds e = let w : held_weight Shared ≡ held_weight No = ap held_weight e in omega (arith, w)

pub alone-holds : Alone ≡ No → ⊥
alone-holds e = let w : held_weight Alone ≡ held_weight No = ap held_weight e in omega (arith, w)

-- who has the wait lock may be at any stage
pub busy-held : (s : SpinHand) (stage : Stage) → SpinHolds s → busy_weight stage ≤ holds_in s
busy-held s stage has = let b = busy-most stage in let one : holds_in s ≡ 1 = ap holds_at has in omega (arith, b, one)

-- who hears of its grant stays about nothing
pub heard-rests : (x : SpinHand) (s : SemHand) (word : ℕ) → s.stage ≡ Rest → busy_weight (heard s word).stage ≤ holds_in x
heard-rests x s word stage = go (word == 0)
  where
    none : busy_weight s.stage ≤ holds_in x
    none = let z = ap busy_weight stage in omega (arith, z)

    go : (b : Bool) → busy_weight (if b then record s { wait = Apart } else s).stage ≤ holds_in x
    go true = none
    go false = none
