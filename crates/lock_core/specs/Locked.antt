-- What the word of a lock states of its passes, whatever else its table has.
use Rattle.std.specs.Prelude.{◌≡◌, ◌≢◌, ℕ, ◌+◌, ◌/◌, ◌%◌, ◌^◌, ◌<◌, ◌≤◌, ◌⊎◌, Bool, false, List, [], Contains, length, slice_index, Some, None}
use mathlib.Core.Option.{some}
use lib.ListN.{get_elem?}
use Rattle.word_bits.specs.Objects.{Obj}
use Rattle.word_bits.specs.Histories.{Plan}
use Rattle.lock_core.specs.Layout.{site}
use Rattle.lock_core.specs.ViewParts.{Each}
use Rattle.lock_core.specs.Pasts.{ChangesOneWord}
use Rattle.lock_core.specs.Sites.{SawGoes, SiteStep}
use Rattle.lock_core.specs.SiteStated.{IsSiteThen}
use Rattle.lock_core.specs.Totals.{total}
use Rattle.lock_core.specs.Views.{SpinRests, alone_of, stranger, no_spin}
use Rattle.lock_core.specs.Spins.{holds_in}
use Rattle.lock_core.specs.Kinds.{Kind, mutex, semaphore, unavailable}
use Rattle.lock_core.specs.Types.{Hand, SpinHand, Held, No, Shared, Alone, Moment}

-- no pass holds the wait lock
abbrev pub IsWaitLockFree : List SpinHand → Type 0
IsWaitLockFree spins = Each (λ s. holds_in s ≡ 0) spins

-- a pass has the task's number
abbrev pub HasPass : List Hand → ℕ → Type 0
HasPass hs t = (i : ℕ) × (h : Hand) × (get_elem? hs i ≡ some h) × (h.task ≡ Some t)

-- While the wait lock is free, the flag is set exactly where tasks wait, each of which has a pass: one that took before it could leave the list may hold already.
pub record FlagStates (flag : ℕ) (hs : List Hand) (spins : List SpinHand) (waiting : List ℕ) : Type 0 where
  pub set : IsWaitLockFree spins → flag ≡ 1 → waiting ≢ []
  pub clear : IsWaitLockFree spins → flag ≢ 1 → waiting ≡ []
  pub passes : IsWaitLockFree spins → (t : ℕ) → Contains waiting t → HasPass hs t

-- An owner word names exactly the task that holds, unless it picks one.
pub record OwnerStates (word : ℕ) (hs : List Hand) : Type 0 where
  pub named : Each (λ h. h.held ≢ No → (h.held ≡ Alone) × (word % 8 < 4) × ((t : ℕ) × (h.task ≡ Some t) × (word / 8 ≡ t + 1))) hs
  pub held : 8 ≤ word → word % 8 < 4 → (i : ℕ) × (h : Hand) × (get_elem? hs i ≡ some h) × (h.held ≡ Alone)

abbrev pub shared_of : Hand → ℕ
shared_of h = go h.held
  where
    go : Held → ℕ
    go No = 0
    go Shared = 1
    go Alone = 0

-- A count has its writer's bit exactly where a pass holds alone, and counts each pass that holds shared.
pub record CountStates (word : ℕ) (hs : List Hand) : Type 0 where
  pub writer : word % 2 ≡ total alone_of hs
  pub readers : total shared_of hs ≤ word % 2 ^ 63 / 256

-- the lock's word states who holds, and whether tasks wait
abbrev pub WordStates : Kind → ℕ → List Hand → List SpinHand → List ℕ → Type 0
WordStates mutex word hs spins waiting = OwnerStates word hs × FlagStates (word % 2) hs spins waiting
WordStates semaphore word hs spins waiting = CountStates word hs × FlagStates (word / 2 % 2) hs spins waiting

-- what is so of a lock's table at this moment, where these tasks wait: the facts of every site, and that its word, which stands at this place, states who holds and whether tasks wait
pub record IsLockedThen {Call : Type 0} (o : Obj Call) (kind : Kind) (size : ℕ) (k : Plan) (at : ℕ) (waits : Plan → Moment → List ℕ → Type 0) (m : Moment) : Type 0 where
  pub is_site : IsSiteThen o (unavailable kind) size k m
  pub waiting : List ℕ
  pub are : waits k m waiting
  pub states : WordStates kind (slice_index m.words at) m.hands m.spins waiting

-- all that is known of the pass of this number is as it was
pub record SamePass (id : ℕ) (x y : Moment) : Type 0 where
  pub hand : get_elem? y.hands id ≡ get_elem? x.hands id
  pub spin : get_elem? y.spins id ≡ get_elem? x.spins id
  pub steps : get_elem? y.steps id ≡ get_elem? x.steps id
  pub fronts : get_elem? y.fronts id ≡ get_elem? x.fronts id
  pub marks : get_elem? y.marks id ≡ get_elem? x.marks id

-- the pass of this number was split off by one with this hand: it knows the plan and what that one has seen of the log, and has made no step
pub record IsBorn (from : Hand) (id : ℕ) (y : Moment) : Type 0 where
  pub hand : get_elem? y.hands id ≡ some (stranger from.plan from.seen)
  pub spin : get_elem? y.spins id ≡ some no_spin
  pub steps : get_elem? y.steps id ≡ some 0
  pub fronts : get_elem? y.fronts id ≡ some 0

-- the pass of this number, with this hand at the first moment, was taken in: it had no number, held nothing and was at no point of the wait lock, and nothing is left of it
pub record IsGone (id : ℕ) (h : Hand) (x y : Moment) : Type 0 where
  pub nameless : h.task ≡ None
  pub out : h.held ≡ No
  pub was : SpinHand
  pub spun : get_elem? x.spins id ≡ some was
  pub rested : SpinRests was
  pub hand : get_elem? y.hands id ≡ some (stranger None [])
  pub spin : get_elem? y.spins id ≡ some no_spin
  pub steps : get_elem? y.steps id ≡ some 0
  pub fronts : get_elem? y.fronts id ≡ some 0

-- One pass led from the first moment to the second, in one counted step that changed no word but one. It did to the site's words what every step of a site does. The lock's word stands at this place,
-- and `unheld` says whether calls may read without a hold. Every other pass that is still there is as it was, and one that wasn't there was split off.
pub record IsSiteStepWhere (unheld : Bool) (k : Plan) (word_at : ℕ) (x y : Moment) : Type 0 where
  pub id : ℕ
  pub before : Hand
  pub after : Hand
  pub at : get_elem? x.hands id ≡ some before
  pub at' : get_elem? y.hands id ≡ some after
  pub had : ℕ
  pub had_steps : get_elem? x.steps id ≡ some had
  pub has_steps : get_elem? y.steps id ≡ some (had + 1)
  pub steps : SiteStep unheld (had + 1) (site k x.words) (site k y.words) before after
  pub one_word : ChangesOneWord x.words y.words
  -- a word that it newly keeps as seen was the lock's, at this step; where its number changes, what it saw is forgotten
  pub tries : SawGoes (had + 1) (slice_index x.words word_at) before after
  pub others : (j : ℕ) (h g : Hand) → j ≢ id → get_elem? x.hands j ≡ some h → get_elem? y.hands j ≡ some g → g.plan ≢ None → SamePass j x y
  pub spends : (j : ℕ) (h g : Hand) → j ≢ id → get_elem? x.hands j ≡ some h → get_elem? y.hands j ≡ some g → g.plan ≡ None → SamePass j x y ⊎ IsGone j h x y
  pub lasts : length x.hands ≤ length y.hands
  pub born : (j : ℕ) (h : Hand) → length x.hands ≤ j → get_elem? y.hands j ≡ some h → IsBorn before j y

-- the same where every call that looks at the object holds
abbrev pub IsSiteStep : (k : Plan) → (word_at : ℕ) → Moment → Moment → Type 0
IsSiteStep k word_at x y = IsSiteStepWhere false k word_at x y
