-- The steps by which a pass takes a number and gives it back, on the words of a site.
use Rattle.std.proofs.Common.{◌≡◌, ℕ, ◌+◌, ◌*◌, ◌<◌, Bool, List, set, Some, None, refl, sym, subst, arith}
use mathlib.Core.Option.{some}
use lib.ListN.{get_elem?}
use Rattle.word_bits.specs.LockWords.{Unavailable}
use Rattle.word_bits.specs.Objects.{Obj}
use Rattle.word_bits.specs.Histories.{Plan}
use Rattle.lock_core.specs.Layout.{SiteWords, lay}
use Rattle.lock_core.specs.Views.{gave_up}
use Rattle.lock_core.specs.Sites.{HandGoes, SiteKept, SiteStep}
use Rattle.lock_core.specs.Laws.Move.{keeps-recs}
use Rattle.lock_core.specs.Types.{Hand, No}
use Rattle.lock_core.proofs.LayoutLaws.{lay-lines}
use Rattle.lock_core.proofs.SeatSteps.{site-ends}
use Rattle.lock_core.specs.declared.layout.TheConstants.{LINES_AT}
use Rattle.word_bits.specs.declared.TheConstants.{MAX_TASKS}

module _ {Call : Type 0} (o : Obj Call) (unavailable : Unavailable) (size : ℕ) (k : Plan) where
  abbrev Kept : SiteWords → List Hand → Type 0
  Kept = SiteKept o unavailable size k

  -- a store in a task's line
  pub line-stored : {unheld : Bool} {step : ℕ} (s : List ℕ) (hs : List Hand) (i x : ℕ) (h g : Hand) → i < 8 * MAX_TASKS → HandGoes h g → Kept (record (lay k s) { lines = set (lay k s).lines i x }) hs
      → Kept (lay k (set s (LINES_AT + i) x)) hs × SiteStep unheld step (lay k s) (lay k (set s (LINES_AT + i) x)) h g
  line-stored {unheld} {step} s hs i x h g l goes kept = let e = sym (lay-lines k s i x l) in
      (subst (λ (w : SiteWords). Kept w hs) e kept, subst (λ (w : SiteWords). SiteStep unheld step (lay k s) w h g) e (keeps-recs (lay k s) (record (lay k s) { lines = set (lay k s).lines i x }) h g refl (omega arith, refl) (λ _. record { guarded = refl; len = refl; entries = refl }) goes.0 goes.1 (let owed = goes.2 in omega (arith, owed))))

  pub ends-there : {unheld : Bool} {step : ℕ} (s : List ℕ) (hs : List Hand) (id t : ℕ) (h : Hand) → t < MAX_TASKS → Kept (lay k s) hs → get_elem? hs id ≡ some h → h.task ≡ Some t → h.held ≡ No → h.sent ≡ None → h.consumed ≡ 0
      → Kept (lay k (set s (LINES_AT + 8 * t) 0)) (set hs id (gave_up h)) × SiteStep unheld step (lay k s) (lay k (set s (LINES_AT + 8 * t) 0)) h (gave_up h)
  ends-there {unheld} {step} s hs id t h l r at has free unsent unconsumed = line-stored s (set hs id (gave_up h)) (8 * t) 0 h (gave_up h) (omega arith) (record { misses = omega arith; freed = λ _. refl; takes = omega arith; comes = λ l. omega (arith, l) }, refl, refl) (site-ends o unavailable size k (lay k s) hs id t h r at has free unsent unconsumed)
