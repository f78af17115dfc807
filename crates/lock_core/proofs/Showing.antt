-- What a step on the lock's word shows to callers of any lock.
use Rattle.std.proofs.Common.{◌≡◌, ℕ, ◌+◌, ◌≤◌, Bool, List, refl, ap, ◌∙◌, subst, arith}
use Rattle.lock_core.specs.Views.{handed}
use Rattle.lock_core.specs.Holding.{missed}
use Rattle.lock_core.specs.Pasts.{GoesOn, FoundAt, IsOwnStep}
use Rattle.lock_core.specs.Laws.SiteRun.{found-at-step, step-by}
use Rattle.lock_core.specs.Kinds.{Kind, unavailable}
use Rattle.lock_core.specs.Shown.{IsLatestStep, shown}
use Rattle.lock_core.specs.Locking.{Sees, Misses}
use Rattle.lock_core.specs.Types.{View, Line, Moment, No}

same-le : (m n : ℕ) → m ≡ n → n ≤ m
same-le m n e = omega arith

-- a pass whose last step is the last moment that it saw shows that step
pub latest-shown : {E : Type 0} (line : E → Line) (fronts : ℕ) (v : View E) (past : List Moment) → IsOwnStep v past → IsLatestStep (shown line fronts v past)
latest-shown line fronts v past own = record { step = step-by v v.hand.task past refl own; hand = refl; spin = own.spin }

-- a pass that held nothing, and whose one step was a failed try
module _ {E : Type 0} (line : E → Line) (fronts fronts' : ℕ) (stood : fronts' ≡ fronts) (kind : Kind) (reads : Bool) (at word : ℕ) (v u : View E) (p q : List Moment)
    (now : u ≡ handed v (missed v.hand word (v.steps + 1))) (own : IsOwnStep u q) (found : FoundAt at word q) (goes : GoesOn p q) (shut : unavailable kind reads word) where
  part : {A : Type 0} (f : View E → A) → f u ≡ f (handed v (missed v.hand word (v.steps + 1)))
  part f = ap f now

  pub missed-sees : Sees kind reads at word (shown line fronts v p) (shown line fronts' u q)
  missed-sees = let counted = part (λ w. w.steps) in record {
    saw = record { word = word; step = v.steps + 1 };
    is = part (λ w. w.hand.saw);
    word_is = refl;
    since = omega arith;
    by_now = omega (arith, counted);
    found = subst (λ n. Rattle.lock_core.specs.Pasts.FoundAtStep v.hand.task n at word p q) counted (found-at-step u v.hand.task at word p q q (part (λ w. w.hand.task)) own found goes (λ p t. t));
    shut = shut;
  }

  pub missed-misses : v.hand.held ≡ No → Misses kind reads at word (shown line fronts v p) (shown line fronts' u q)
  missed-misses out = let counted = part (λ w. w.steps) in let more = part (λ w. w.hand.misses) in record {
    keeps = record {
      task = part (λ w. w.hand.task);
      done = part (λ w. w.hand.done);
      seen = part (λ w. w.hand.seen);
      records = part (λ w. w.hand.records);
      sent = part (λ w. w.hand.sent);
      last = part (λ w. w.hand.last);
      counts = record {
        steps = omega (arith, counted);
        misses = omega (arith, more);
        entries = same-le _ _ (part (λ w. w.spin.entries));
        fronts = omega (arith, stood);
        appends = same-le _ _ (part (λ w. (line w.ext).appends));
      };
    };
    consumed = part (λ w. w.hand.consumed);
    out = part (λ w. w.hand.held) ∙ out;
    takes = part (λ w. w.hand.takes);
    sees = missed-sees;
    once = more;
    freed = part (λ w. w.hand.freed);
    entries = part (λ w. w.spin.entries);
    fronts = stood;
    line = part (λ w. line w.ext);
    swaps = refl;
    tally = refl;
  }
