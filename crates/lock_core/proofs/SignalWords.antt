-- Signals in the words of a site.
use Rattle.std.proofs.Common.{◌≡◌, ℕ, ◌+◌, ◌-◌, ◌*◌, ◌/◌, ◌<◌, Bool, false, List, get_or, set, Option, Some, None, IsSome, refl, sym, ap, ◌∙◌, subst, arith}
use mathlib.Core.Option.{some}
use lib.ListN.{get_elem?}
use Rattle.word_bits.specs.LockWords.{Unavailable}
use Rattle.word_bits.specs.Objects.{Obj}
use Rattle.word_bits.specs.Histories.{Plan}
use Rattle.lock_core.specs.Layout.{SiteWords, lay}
use Rattle.lock_core.specs.Regions.{part-at}
use Rattle.lock_core.specs.Views.{sending, hearing, consuming, next_entry}
use Rattle.lock_core.specs.SitePasses.{IsSignal, IsTaken}
use Rattle.lock_core.specs.Sites.{SiteKept, SiteStep, sent_at, consumed_at}
use Rattle.lock_core.specs.Types.{Hand, Heard}
use Rattle.lock_core.proofs.HandLaws.{not-both}
use Rattle.lock_core.proofs.SeatLaws.{line-stored}
use Rattle.lock_core.proofs.Signalling.{sent-small, site-signals, site-hears, site-consumes-heard}
use Rattle.lock_core.proofs.Recording.{next-is}
use Rattle.lock_core.specs.declared.layout.TheConstants.{LINES_AT}
use Rattle.word_bits.specs.declared.TheConstants.{MAX_TASKS}

pub some-of : (x : Option ℕ) → IsSome x → (u : ℕ) × (x ≡ Some u)
some-of None no_number = not-both false refl no_number
some-of (Some u) there = (u, refl)

-- the task that a word of signals is of
pub line-back : (t : ℕ) → (LINES_AT + 8 * t + 1 - (LINES_AT + 1)) / 8 ≡ t
line-back t = omega arith

module _ {Call : Type 0} (o : Obj Call) (unavailable : Unavailable) (size : ℕ) (k : Plan) where
  abbrev Kept : SiteWords → List Hand → Type 0
  Kept = SiteKept o unavailable size k

  abbrev pub Sends : Bool → ℕ → List ℕ → List Hand → ℕ → Hand → ℕ → ℕ → Type 0
  Sends unheld step s hs id h t at = (get_or s at 0 + 1 < 18446744073709551616) × Kept (lay k (set s at (get_or s at 0 + 1))) (set hs id (sending h t)) × SiteStep unheld step (lay k s) (lay k (set s at (get_or s at 0 + 1))) h (sending h t)

  pub signals-there : {unheld : Bool} {step : ℕ} (s : List ℕ) (hs : List Hand) (id t at : ℕ) (h : Hand) → IsSome h.task → h.sent ≡ None → t < MAX_TASKS → IsSignal k (next_entry h) t → at ≡ LINES_AT + 8 * t + 1 → Kept (lay k s) hs → get_elem? hs id ≡ some h → Sends unheld step s hs id h t at
  signals-there {unheld} {step} s hs id t at h numbered unsent inside signal place r there = let u = some-of h.task numbered in let q = subst (λ e. IsSignal k e t) (next-is h u.0 h.done u.1 refl) signal in
      let w : SiteWords = lay k s in let spot : LINES_AT + sent_at t ≡ at = omega (arith, place) in let n : get_or w.lines (sent_at t) 0 ≡ get_or s at 0 = part-at s LINES_AT (8 * MAX_TASKS) (sent_at t) (omega (arith, inside)) ∙ ap (λ (i : ℕ). get_or s i 0) spot in
      let small = sent-small o unavailable size k w hs t r inside in let kept = site-signals o unavailable size k w hs id u.0 t h q.words r there u.1 unsent inside q.planned q.is in
      let stored = line-stored o unavailable size k s (set hs id (sending h t)) (sent_at t) (get_or w.lines (sent_at t) 0 + 1) h (sending h t) (omega (arith, inside)) (record { misses = omega arith; freed = λ _. refl; takes = omega arith; comes = λ l. omega (arith, l) }, refl, refl) kept in
      let both : Kept (lay k (set s at (get_or s at 0 + 1))) (set hs id (sending h t)) × SiteStep unheld step (lay k s) (lay k (set s at (get_or s at 0 + 1))) h (sending h t) = subst (λ (z : ℕ × ℕ). Kept (lay k (set s z.0 (z.1 + 1))) (set hs id (sending h t)) × SiteStep unheld step (lay k s) (lay k (set s z.0 (z.1 + 1))) h (sending h t)) (λ i. (spot i, n i)) stored in
      (omega (arith, small, n), both.0, both.1)

  -- a load of the signals that were sent to the pass's task
  pub hears-there : (s : List ℕ) (hs : List Hand) (id t at : ℕ) (h : Hand) → h.task ≡ Some t → t < MAX_TASKS → at ≡ LINES_AT + 8 * t + 1 → Kept (lay k s) hs → get_elem? hs id ≡ some h → (p : Heard) × (p.sent ≡ get_or s at 0) × Kept (lay k s) (set hs id (hearing h p))
  hears-there s hs id t at h has inside place r there = let w : SiteWords = lay k s in let spot : LINES_AT + sent_at t ≡ at = omega (arith, place) in
      let n : get_or w.lines (sent_at t) 0 ≡ get_or s at 0 = part-at s LINES_AT (8 * MAX_TASKS) (sent_at t) (omega (arith, inside)) ∙ ap (λ (i : ℕ). get_or s i 0) spot in
      let p : Heard = record { sent = get_or w.lines (sent_at t) 0; taken = get_or w.lines (consumed_at t) 0 } in (p, n, site-hears o unavailable size k w hs id t h r there has)

  -- one of those that the task has consumed
  pub taken-found : (s : List ℕ) (hs : List Hand) (id at : ℕ) (h : Hand) → Kept (lay k s) hs → get_elem? hs id ≡ some h → IsTaken h at (get_or s at 0)
  taken-found s hs id at h r there p t heard has place = let few = r.laid.small.tasks in let l = ((r.each id h there).mine t has).0 in
      ap (λ (i : ℕ). get_or s i 0) place ∙ (sym (part-at s LINES_AT (8 * MAX_TASKS) (consumed_at t) (omega (arith, few, l))) ∙ (r.heard id h there p t heard has).0)

  -- the store that consumes one, where the pass heard of more
  pub consumes-there : {unheld : Bool} {step : ℕ} (s : List ℕ) (hs : List Hand) (id t at n : ℕ) (h : Hand) (p : Heard) → h.task ≡ Some t → t < MAX_TASKS → at ≡ LINES_AT + 8 * t + 2 → h.heard ≡ Some p → p.taken < p.sent → n ≡ p.taken → Kept (lay k s) hs → get_elem? hs id ≡ some h
      → Kept (lay k (set s at (n + 1))) (set hs id (consuming h)) × SiteStep unheld step (lay k s) (lay k (set s at (n + 1))) h (consuming h)
  consumes-there {unheld} {step} s hs id t at n h p has inside place heard waits is r there = let spot : LINES_AT + consumed_at t ≡ at = omega (arith, place) in
      subst (λ (z : ℕ × ℕ). Kept (lay k (set s z.0 (z.1 + 1))) (set hs id (consuming h)) × SiteStep unheld step (lay k s) (lay k (set s z.0 (z.1 + 1))) h (consuming h)) (λ i. (spot i, sym is i))
      (line-stored o unavailable size k s (set hs id (consuming h)) (consumed_at t) (p.taken + 1) h (consuming h) (omega (arith, inside)) (record { misses = omega arith; freed = λ _. refl; takes = omega arith; comes = λ l. omega (arith, l) }, refl, refl) (site-consumes-heard o unavailable size k (lay k s) hs id t h p r there has heard waits))
