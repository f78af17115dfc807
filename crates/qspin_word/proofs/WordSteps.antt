-- The steps by which a pass that stands in no queue changes the word, or nothing.
use Rattle.std.proofs.Common.{◌≡◌, ℕ, ◌+◌, ◌-◌, ◌/◌, ◌%◌, ◌<◌, ◌≤◌, ◌⊎◌, ⊎_elim, List, length, set, refl, ap, ◌∙◌, arith}
use mathlib.Core.Option.{some}
use lib.ListN.{get_elem?}
use Rattle.lock_core.specs.SpinQueues.{LockKept}
use Rattle.qspin_word.proofs.Codes.{no_tail, some_stand}
use Rattle.lock_core.specs.Laws.Spin.{recount, rekept}
use Rattle.qspin_word.specs.SpinWordHands.{at_point}
use Rattle.qspin_word.specs.Types.{Frame, Point, Out, Undoing, Pending, Taking, Trying, Cleared, Holding}

module _ (next locked : ℕ → ℕ) (q : List ℕ) (fs : List Frame) (id : ℕ) (f : Frame) where
  abbrev Kept : ℕ → List Frame → Type 0
  Kept word gs = LockKept word next locked q gs

  abbrev Old : Point → Type 0
  Old p = get_elem? fs id ≡ some (at_point f p)

  abbrev now : Point → List Frame
  now p = set fs id (at_point f p)

  -- the compare-exchange from 0 to 1: of a pass that has done nothing yet, and of one that has cleared its node
  pub takes-out : Kept 0 fs → Old Out → Kept 1 (now Holding)
  takes-out k at = let b = k.balanced in let e = ap length (no_tail q k.queued.real (omega arith)) in let r = recount fs id (at_point f Out) (at_point f Holding) at in
      rekept 0 1 next locked q fs id (at_point f Out) (at_point f Holding) at (λ c. refl) (λ c. omega arith) tt k record { word_is = omega arith; owner = omega arith; comes = omega arith; rivals = omega arith; undone = omega arith; fronts = omega arith }

  pub takes-clean : Kept 0 fs → Old Cleared → Kept 1 (now Holding)
  takes-clean k at = let b = k.balanced in let e = ap length (no_tail q k.queued.real (omega arith)) in let r = recount fs id (at_point f Cleared) (at_point f Holding) at in
      rekept 0 1 next locked q fs id (at_point f Cleared) (at_point f Holding) at (λ c. refl) (λ c. omega arith) tt k record { word_is = omega arith; owner = omega arith; comes = omega arith; rivals = omega arith; undone = omega arith; fronts = omega arith }

  pub takes-trying : Kept 0 fs → Old Trying → Kept 1 (now Holding)
  takes-trying k at = let b = k.balanced in let e = ap length (no_tail q k.queued.real (omega arith)) in let r = recount fs id (at_point f Trying) (at_point f Holding) at in
      rekept 0 1 next locked q fs id (at_point f Trying) (at_point f Holding) at (λ c. refl) (λ c. omega arith) tt k record { word_is = omega arith; owner = omega arith; comes = omega arith; rivals = omega arith; undone = omega arith; fronts = omega arith }

  -- a pass without a node waits
  pub tries-on : (word : ℕ) (p : Point) → (p ≡ Out) ⊎ (p ≡ Trying) → Kept word fs → Old p → Kept word (now Trying)
  tries-on word p which k at = ⊎_elim
      (λ e. let old : get_elem? fs id ≡ some (at_point f Out) = at ∙ ap (λ (z : Point). some (at_point f z)) e in let b = k.balanced in let r = recount fs id (at_point f Out) (at_point f Trying) old in
      rekept word word next locked q fs id (at_point f Out) (at_point f Trying) old (λ c. refl) (λ c. omega arith) tt k record { word_is = omega arith; owner = omega arith; comes = omega arith; rivals = omega arith; undone = omega arith; fronts = omega arith })
      (λ e. let old : get_elem? fs id ≡ some (at_point f Trying) = at ∙ ap (λ (z : Point). some (at_point f z)) e in let b = k.balanced in let r = recount fs id (at_point f Trying) (at_point f Trying) old in
      rekept word word next locked q fs id (at_point f Trying) (at_point f Trying) old (λ c. refl) (λ c. omega arith) tt k record { word_is = omega arith; owner = omega arith; comes = omega arith; rivals = omega arith; undone = omega arith; fronts = omega arith }) which

  -- fetch_sub(1) by the holder
  pub frees : (word : ℕ) → Kept word fs → Old Holding → Kept (word - 1) (now Out)
  frees word k at = let b = k.balanced in let r = recount fs id (at_point f Holding) (at_point f Out) at in
      rekept word (word - 1) next locked q fs id (at_point f Holding) (at_point f Out) at (λ c. refl) (λ c. omega arith) tt k record { word_is = omega arith; owner = omega arith; comes = omega arith; rivals = omega arith; undone = omega arith; fronts = omega arith }

  -- fetch_or(256) that finds neither pending nor a tail
  pub pends : (word : ℕ) → word < 256 → Kept word fs → Old Out → Kept (word + 256) (now Pending)
  pends word low k at = let b = k.balanced in let e = ap length (no_tail q k.queued.real (omega arith)) in let r = recount fs id (at_point f Out) (at_point f Pending) at in
      rekept word (word + 256) next locked q fs id (at_point f Out) (at_point f Pending) at (λ c. refl) (λ c. omega arith) tt k record { word_is = omega arith; owner = omega arith; comes = omega arith; rivals = omega arith; undone = omega arith; fronts = omega arith }

  -- one that finds a tail and no pending: it has set the bit to no avail, and is to clear it
  pub undoes : (word : ℕ) → 256 ≤ word → (word / 256) % 2 ≡ 0 → Kept word fs → Old Out → Kept (word + 256) (now Undoing)
  undoes word high unset k at = let b = k.balanced in let e = some_stand q (λ none. omega arith) in let r = recount fs id (at_point f Out) (at_point f Undoing) at in
      rekept word (word + 256) next locked q fs id (at_point f Out) (at_point f Undoing) at (λ c. refl) (λ c. omega arith) tt k record { word_is = omega arith; owner = omega arith; comes = omega arith; rivals = omega arith; undone = omega arith; fronts = omega arith }

  -- the clear of pending
  pub clears : (word : ℕ) → Kept word fs → Old Undoing → Kept (word - 256) (now Out)
  clears word k at = let b = k.balanced in let r = recount fs id (at_point f Undoing) (at_point f Out) at in
      rekept word (word - 256) next locked q fs id (at_point f Undoing) (at_point f Out) at (λ c. refl) (λ c. omega arith) tt k record { word_is = omega arith; owner = omega arith; comes = omega arith; rivals = omega arith; undone = omega arith; fronts = omega arith }

  -- the pending owner sees the byte 0
  pub turns : (word : ℕ) → word % 256 ≡ 0 → Kept word fs → Old Pending → Kept word (now Taking)
  turns word free k at = let b = k.balanced in let r = recount fs id (at_point f Pending) (at_point f Taking) at in
      rekept word word next locked q fs id (at_point f Pending) (at_point f Taking) at (λ c. refl) (λ c. omega arith) tt k record { word_is = omega arith; owner = omega arith; comes = omega arith; rivals = omega arith; undone = omega arith; fronts = omega arith }

  -- add 1 - 256
  pub takes-turn : (word : ℕ) → Kept word fs → Old Taking → Kept (word - 255) (now Holding)
  takes-turn word k at = let b = k.balanced in let r = recount fs id (at_point f Taking) (at_point f Holding) at in
      rekept word (word - 255) next locked q fs id (at_point f Taking) (at_point f Holding) at (λ c. refl) (λ c. omega arith) tt k record { word_is = omega arith; owner = omega arith; comes = omega arith; rivals = omega arith; undone = omega arith; fronts = omega arith }
