-- Between one hold alone and the next the words that a lock keeps stay, so whoever comes to hold finds what was left.
use Rattle.std.proofs.Common.{◌≡◌, ◌≢◌, ◌∙◌, ◌⊎◌, inl, inr, ℕ, zero, suc, ◌<◌, ◌≤◌, ltb, Bool, true, false, List, [], ◌∷◌, take, drop, slice_index, slice_set, Option, Some, None, refl, sym, ap, subst, arith}
use Rattle.std.proofs.lemmas.Bool.Decides.{nat_tests}
use Rattle.std.proofs.lemmas.List.{drop-set-lt, get_or-set_other}
use mathlib.Core.Option.{some, some-injective, some-ne-none}
use lib.ListN.{get_elem?}
use Rattle.word_bits.specs.Objects.{Obj}
use Rattle.word_bits.specs.LockWords.{Unavailable}
use Rattle.word_bits.specs.Histories.{Plan}
use Rattle.lock_core.specs.declared.layout.TheConstants.{LOCK_WORDS}
use Rattle.lock_core.specs.Layout.{lay, site}
use Rattle.lock_core.specs.Locked.{IsSiteStep}
use Rattle.lock_core.specs.Pasts.{EachMoment, Paced}
use Rattle.lock_core.specs.SiteStated.{IsSiteThen}
use Rattle.lock_core.specs.ViewParts.{Each}
use Rattle.lock_core.specs.Views.{alone_weight}
use Rattle.lock_core.proofs.RowLaws.{none-some, same-some}
use Rattle.kept_words.specs.Left.{if_alone, held_alone, last_left, or_else, FindsLeft, FoundAsLeft, HeldApart}
use Rattle.kept_words.specs.Types.{Hand, Held, No, Shared, Alone, Moment}

-- a pass that holds alone, and what it knows of the words
pub record HoldsIn (hs : List Hand) (words : List ℕ) : Type 0 where
  pub seat : ℕ
  pub hand : Hand
  pub at : get_elem? hs seat ≡ some hand
  pub alone : hand.held ≡ Alone
  pub known : hand.known ≡ words

pub not-alone : (held : Held) (ws : List ℕ) (rest : Option (List ℕ)) → if_alone held ws rest ≡ None → (held ≢ Alone) × (rest ≡ None)
not-alone No ws rest e = ((λ is. let w = ap alone_weight is in absurd (omega (arith, w))), e)
not-alone Shared ws rest e = ((λ is. let w = ap alone_weight is in absurd (omega (arith, w))), e)
not-alone Alone ws rest e = none-some ws (sym e)

-- where nobody holds alone, no pass does
pub each-not-alone : (hs : List Hand) → held_alone hs ≡ None → Each (λ h. h.held ≢ Alone) hs
each-not-alone [] e j h at = absurd (some-ne-none h (sym at))
each-not-alone (x ∷ hs) e zero h at = subst (λ (z : Hand). z.held ≢ Alone) (some-injective x h at) (not-alone x.held x.known (held_alone hs) e).0
each-not-alone (x ∷ hs) e (suc j) h at = each-not-alone hs (not-alone x.held x.known (held_alone hs) e).1 j h at

later : (x : Hand) (hs : List Hand) (ws : List ℕ) → HoldsIn hs ws → HoldsIn (x ∷ hs) ws
later x hs ws h = record { seat = suc h.seat; hand = h.hand; at = h.at; alone = h.alone; known = h.known }

-- where one does, a pass does
some-by : (x : Hand) (hs : List Hand) (ws : List ℕ) → (held_alone hs ≡ Some ws → HoldsIn hs ws) → (held : Held) → x.held ≡ held → if_alone held x.known (held_alone hs) ≡ Some ws → HoldsIn (x ∷ hs) ws
some-by x hs ws others No is e = later x hs ws (others e)
some-by x hs ws others Shared is e = later x hs ws (others e)
some-by x hs ws others Alone is e = record { seat = 0; hand = x; at = refl; alone = is; known = same-some x.known ws e }

pub some-alone : (hs : List Hand) (ws : List ℕ) → held_alone hs ≡ Some ws → HoldsIn hs ws
some-alone [] ws e = none-some ws e
some-alone (x ∷ hs) ws e = some-by x hs ws (λ e'. some-alone hs ws e') x.held refl e

-- a step that changes one word, and that of the lock, leaves all that stands behind the words of locks
behind : (at i v : ℕ) (ws us : List ℕ) → at < LOCK_WORDS → us ≡ slice_set ws i v → slice_index us at ≢ slice_index ws at → drop LOCK_WORDS us ≡ drop LOCK_WORDS ws
behind at i v ws us inside is moved = by (ltb i LOCK_WORDS) refl
  where
    by : (b : Bool) → ltb i LOCK_WORDS ≡ b → drop LOCK_WORDS us ≡ drop LOCK_WORDS ws
    by true less = ap (drop LOCK_WORDS) is ∙ drop-set-lt LOCK_WORDS ws i v (grind (arith, nat_tests, less))
    by false more = absurd (moved (ap (λ (xs : List ℕ). slice_index xs at) is ∙ get_or-set_other ws i at v 0 (λ e. let l : LOCK_WORDS ≤ i = grind (arith, nat_tests, more) in omega (arith, e, l, inside))))

module _ {Call : Type 0} (o : Obj Call) (unavailable : Unavailable) (size : ℕ) (k : Plan) (at : ℕ) (inside : at < LOCK_WORDS) (Then : Moment → Type 0) (sited : (m : Moment) → Then m → IsSiteThen o unavailable size k m) where
  -- beside who holds alone no other holds
  pub held-apart : (past : List Moment) → EachMoment Then past → EachMoment HeldApart past
  held-apart [] all = tt
  held-apart (m ∷ past) all = ((sited m all.0).alone, held-apart past all.1)

  module _ (frees : (x y : Moment) (ws : List ℕ) → Then x → Then y → IsSiteStep k at x y → HoldsIn x.hands ws → held_alone y.hands ≡ None → slice_index y.words at ≢ slice_index x.words at) where
    -- a step before or behind which nobody holds alone leaves the words
    stays-by : (x y : Moment) → Then x → Then y → IsSiteStep k at x y → held_alone y.hands ≡ None → (held : Option (List ℕ)) → held_alone x.hands ≡ held → (site k y.words).guarded ≡ (site k x.words).guarded
    stays-by x y then then' step none None is = (step.steps.quiet (each-not-alone x.hands is step.id step.before step.at)).guarded
    stays-by x y then then' step none (Some ws) is = ap (λ (s : List ℕ). (lay k s).guarded) (behind at step.one_word.0 step.one_word.1 x.words y.words inside step.one_word.2 (frees x y ws then then' step (some-alone x.hands ws is) none))

    stays : (x y : Moment) → Then x → Then y → IsSiteStep k at x y → (held_alone x.hands ≡ None) ⊎ (held_alone y.hands ≡ None) → (site k y.words).guarded ≡ (site k x.words).guarded
    stays x y then then' step (inl none) = (step.steps.quiet (each-not-alone x.hands none step.id step.before step.at)).guarded
    stays x y then then' step (inr none) = stays-by x y then then' step none (held_alone x.hands) refl

    -- the words are those that were left last
    stands-by : (m : Moment) (rest : Option (List ℕ)) (left : List ℕ) → Then m → (held_alone m.hands ≡ None → rest ≡ Some left → take size (site k m.words).guarded ≡ left) → (held : Option (List ℕ)) → held_alone m.hands ≡ held → or_else held rest ≡ Some left → take size (site k m.words).guarded ≡ left
    stands-by m rest left then earlier None none e = earlier none e
    stands-by m rest left then earlier (Some ws) one e = let h = some-alone m.hands ws one in
        sym ((sited m then).known h.seat h.hand h.at (λ out. let w = ap alone_weight (sym h.alone ∙ out) in absurd (omega (arith, w)))).0 ∙ (h.known ∙ same-some ws left e)

    stands : (past : List Moment) (m : Moment) → EachMoment Then (m ∷ past) → Paced (IsSiteStep k at) (m ∷ past) → (left : List ℕ) → last_left (m ∷ past) ≡ Some left → take size (site k m.words).guarded ≡ left
    stands [] m all steps left is = stands-by m None left all.0 (λ none e. none-some left e) (held_alone m.hands) refl is
    stands (x ∷ past) m all steps left is = stands-by m (last_left (x ∷ past)) left all.0 (λ none e. ap (take size) (stays x m all.1.0 all.0 steps.0 (inr none)) ∙ stands past x all.1 steps.1 left e) (held_alone m.hands) refl is

    -- whoever comes to hold finds them
    pub found-left : (past : List Moment) → EachMoment Then past → Paced (IsSiteStep k at) past → FoundAsLeft past
    found-left [] all steps = tt
    found-left (m ∷ []) all steps = ((λ nobody left is. none-some left is), tt)
    found-left (m ∷ x ∷ past) all steps = (finds, found-left (x ∷ past) all.1 steps.1)
      where
        finds : FindsLeft (x ∷ past) m
        finds nobody left is j h here holds = ((sited m all.0).known j h here holds).0 ∙ (ap (take size) (stays x m all.1.0 all.0 steps.0 (inl nobody)) ∙ stands past x all.1 steps.1 left is)
