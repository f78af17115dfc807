-- One call of a lock after another.
use Rattle.std.proofs.Common.{◌≡◌, ◌∙◌, List, sym, ap, subst, arith}
use Rattle.guarded.specs.Types.{Moment}
use Rattle.lock_core.specs.Pasts.{GoesOn}
use Rattle.lock_core.specs.Shown.{Shown, AllButHand}
use Rattle.lock_core.specs.Locking.{Looks}

pub beside-trans : (v u w : Shown) → AllButHand v u → AllButHand u w → AllButHand v w
beside-trans v u w a b = (b.0 ∙ a.0, b.1 ∙ a.1, b.2 ∙ a.2, (let x = a.3 in let y = b.3 in omega arith), b.4 ∙ a.4, b.5 ∙ a.5)

pub looks-trans : (v u w : Shown) → Looks v u → Looks u w → Looks v w
looks-trans v u w a b = (b.0 ∙ a.0, beside-trans v u w a.1 b.1)

-- a call of the site leaves the spin queue's past
pub spun-goes-on : {P S : Type 0} (spun : P → List Moment) (with_seat : P → S → P) → ((p : P) (w : S) → spun (with_seat p w) ≡ spun p) → (old new : P) (w : S) → new ≡ with_seat old w → GoesOn (spun old) (spun new)
spun-goes-on spun with_seat leaves old new w is = subst (λ (q : List Moment). GoesOn (spun old) q) (sym (ap spun is ∙ leaves old w)) (λ p t. t)
