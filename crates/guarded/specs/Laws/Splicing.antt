-- Laws of what changes the guarded words alone.
use Rattle.std.specs.Prelude.{ℕ, List, refl}
use Rattle.std.proofs.Common.{sym, ap, ◌∙◌, arith}
use Rattle.lock_core.specs.Shown.{Shown}
use Rattle.guarded.specs.Splicing.{ChangesWords}
use Rattle.guarded.specs.Types.{Hand}

-- it is so where nothing was done
pub changes-none : (v : Shown) → ChangesWords v v
changes-none v = ((λ p t. t), (v.hand.writes, (refl, (refl, refl, refl, omega arith, refl, refl))))

-- it is so of one change after another
pub changes-more : (v u w : Shown) → ChangesWords v u → ChangesWords u w → ChangesWords v w
changes-more v u w a b = (
  (λ p t. b.0 p (a.0 p t)),
  (
    b.1.0,
    (
      b.1.1.0 ∙ ((λ i. record (a.1.1.0 i) { writes = b.1.0; known = w.hand.known })
          ∙ ap {B = Hand} (λ (xs : List ℕ). record v.hand { writes = b.1.0; known = xs }) (sym (ap {A = Hand} (λ h. h.known) b.1.1.0))),
      (b.1.1.1.0 ∙ a.1.1.1.0, b.1.1.1.1 ∙ a.1.1.1.1, b.1.1.1.2 ∙ a.1.1.1.2, (let x = a.1.1.1.3 in let y = b.1.1.1.3 in omega (arith, x, y)), b.1.1.1.4 ∙ a.1.1.1.4, b.1.1.1.5 ∙ a.1.1.1.5),
    ),
  ),
)
