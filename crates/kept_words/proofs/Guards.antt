-- Where a hold alone ends, the word of the lock changes.
use Rattle.std.proofs.Common.{◌≡◌, ◌≢◌, ◌∙◌, ℕ, ◌+◌, ◌/◌, ◌%◌, ◌<◌, ◌≤◌, List, [], ◌∷◌, slice_index, Option, None, refl, sym, ap, subst, arith}
use Rattle.word_bits.specs.Objects.{Obj}
use Rattle.word_bits.specs.Histories.{Plan}
use Rattle.lock_core.specs.declared.layout.TheConstants.{LOCK_WORDS}
use Rattle.lock_core.specs.Kinds.{Kind, mutex, semaphore, unavailable}
use Rattle.lock_core.specs.Locked.{CountStates, IsLockedThen, IsSiteStep, OwnerStates, WordStates}
use Rattle.lock_core.specs.Pasts.{EachMoment, Paced}
use Rattle.lock_core.specs.Shown.{Shown, IsLatestStep}
use Rattle.lock_core.specs.Totals.{total, total-at}
use Rattle.lock_core.specs.Views.{alone_of, alone_weight}
use Rattle.kept_words.specs.Keeping.{hold_of}
use Rattle.kept_words.specs.Left.{held_alone, FoundAsLeft, HeldApart, IsHeldAtLast}
use Rattle.kept_words.specs.Types.{Hand, Held, No, Shared, Alone, SpinHand, Moment}
use Rattle.kept_words.proofs.Leaving.{HoldsIn, each-not-alone, found-left, held-apart, not-alone}

-- an owner word that stays names a pass that holds alone still
pub owner-moves : (word word' : ℕ) (hs hs' : List Hand) (ws : List ℕ) → OwnerStates word hs → OwnerStates word' hs' → HoldsIn hs ws → held_alone hs' ≡ None → word' ≢ word
owner-moves word word' hs hs' ws was is h none same =
    let n = was.named h.seat h.hand h.at (λ out. let w = ap alone_weight (sym h.alone ∙ out) in absurd (omega (arith, w))) in
    let code = n.2.2 in let picks = n.1 in
    let still = is.held (omega (arith, same, code)) (omega (arith, same, picks)) in
    each-not-alone hs' none still.0 still.1 still.2 still.3

-- where nobody holds alone, none is counted
no-alone : (hs : List Hand) → held_alone hs ≡ None → total alone_of hs ≡ 0
no-alone [] none = refl
no-alone (h ∷ hs) none = let rest = not-alone h.held h.known (held_alone hs) none in let r = no-alone hs rest.1 in let w = weightless h.held rest.0 in omega (arith, r, w)
  where
    weightless : (held : Held) → held ≢ Alone → alone_weight held ≡ 0
    weightless No out = refl
    weightless Shared out = refl
    weightless Alone out = absurd (out refl)

-- a count's lowest bit says whether a pass holds alone
pub count-moves : (word word' : ℕ) (hs hs' : List Hand) (ws : List ℕ) → CountStates word hs → CountStates word' hs' → HoldsIn hs ws → held_alone hs' ≡ None → word' ≢ word
count-moves word word' hs hs' ws was is h none same =
    let one : alone_of h.hand ≡ 1 = ap alone_weight h.alone in
    let some = total-at alone_of hs h.seat h.hand h.at in
    let n = no-alone hs' none in let w = was.writer in let w' = is.writer in
    omega (arith, one, some, n, w, w', same)

-- so it is of a lock of either kind
pub word-moves : (kind : Kind) (word word' : ℕ) (hs hs' : List Hand) (spins spins' : List SpinHand) (waiting waiting' : List ℕ) (ws : List ℕ) → WordStates kind word hs spins waiting → WordStates kind word' hs' spins' waiting' → HoldsIn hs ws → held_alone hs' ≡ None → word' ≢ word
word-moves mutex word word' hs hs' spins spins' waiting waiting' ws was is = owner-moves word word' hs hs' ws was.0 is.0
word-moves semaphore word word' hs hs' spins spins' waiting waiting' ws was is = count-moves word word' hs hs' ws was.0 is.0

-- a step that ends a hold alone is one on the lock's word
pub ends-on-word : {Call : Type 0} (o : Obj Call) (kind : Kind) (size : ℕ) (k : Plan) (at : ℕ) (waits : Plan → Moment → List ℕ → Type 0) (x y : Moment) (ws : List ℕ) → IsLockedThen o kind size k at waits x → IsLockedThen o kind size k at waits y → IsSiteStep k at x y → HoldsIn x.hands ws → held_alone y.hands ≡ None → slice_index y.words at ≢ slice_index x.words at
ends-on-word o kind size k at waits x y ws was is step = word-moves kind (slice_index x.words at) (slice_index y.words at) x.hands y.hands x.spins y.spins was.waiting is.waiting ws was.states is.states

-- the last moment of the past of a pass that looked back has what it holds
pub held-last : (v : Shown) → IsLatestStep v → IsHeldAtLast (hold_of v.hand) v.past
held-last v latest = subst (IsHeldAtLast (hold_of v.hand)) (sym latest.step.past_is) (latest.step.seat, latest.step.hand, latest.step.is, ap hold_of latest.hand)

pub looked-back : {Call : Type 0} (o : Obj Call) (kind : Kind) (size : ℕ) (k : Plan) (at : ℕ) (waits : Plan → Moment → List ℕ → Type 0) → at < LOCK_WORDS → (past : List Moment) → EachMoment (IsLockedThen o kind size k at waits) past → Paced (IsSiteStep k at) past → EachMoment HeldApart past × FoundAsLeft past
looked-back o kind size k at waits inside past all steps = let Then : Moment → Type 0 = IsLockedThen o kind size k at waits in (
  held-apart o (unavailable kind) size k at inside Then (λ m then. then.is_site) past all,
  found-left o (unavailable kind) size k at inside Then (λ m then. then.is_site) (ends-on-word o kind size k at waits) past all steps,
)
