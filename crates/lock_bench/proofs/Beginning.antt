-- A pass that has just taken a number.
use Rattle.std.proofs.Common.{◌≡◌, true, None, is_some, ap, ◌∙◌}
use Rattle.lock_core.specs.declared.view.Hand.{Hand}
use Rattle.lock_core.specs.declared.view.Held.TheVariants.{No}
use Rattle.lock_core.specs.Shown.{Shown}
use Rattle.lock_bench.specs.RoundsBetween.{IsBetween}

pub begun-between : (v u : Shown) (g : Hand) → u.hand ≡ g → is_some g.task ≡ true → g.held ≡ v.hand.held → g.sent ≡ v.hand.sent → g.consumed ≡ v.hand.consumed → (v.hand.held ≡ No) × (v.hand.sent ≡ None) × (v.hand.consumed ≡ 0) → IsBetween u
begun-between v u g now task held sent consumed none = record {
  numbered = ap {A = Hand} (λ h. is_some h.task) now ∙ task;
  out = ap {A = Hand} (λ h. h.held) now ∙ (held ∙ none.0);
  sent = ap {A = Hand} (λ h. h.sent) now ∙ (sent ∙ none.1);
  consumed = ap {A = Hand} (λ h. h.consumed) now ∙ (consumed ∙ none.2);
}
