-- Each step of a run is one of the site's, as its moments tell.
use Rattle.std.proofs.Common.{◌≡◌, ◌≢◌, ℕ, Bool, false, List, [], ◌∷◌, map, sym, ap, ◌∙◌, subst, arith, inl, inr, ⊎_elim}
use mathlib.Core.Option.{some}
use lib.ListN.{get_elem?}
use Rattle.std.proofs.lemmas.List.{length-map}
use Rattle.atomic_table.proofs.Lists.{at_map}
use Rattle.word_bits.specs.Histories.{Plan}
use Rattle.lock_core.specs.ViewParts.{at_unmap}
use Rattle.lock_core.specs.Moves.{IsTakenIn}
use Rattle.lock_core.specs.Views.{hand_of, spin_of, spent, split_off, held_weight}
use Rattle.lock_core.specs.Pasts.{Instant, fronts_of, marks_of, moment, steps_of, Paced, Ran}
use Rattle.lock_core.specs.SiteStated.{IsSiteMove, IsSiteMoveWhere}
use Rattle.lock_core.specs.Kinds.{Kind, mutex, semaphore, shares}
use Rattle.lock_core.specs.Locked.{IsBorn, IsGone, IsSiteStep, IsSiteStepWhere, SamePass}
use Rattle.lock_core.specs.Types.{Moment, View, Hand, No, Shared, Alone}

module _ {E : Type 0} (marks : E → List ℕ) (k : Plan) (word_at : ℕ) where
  -- a view that stays leaves all that the moments have of its pass
  pub same-view : (x y : Instant E) (j : ℕ) (v u : View E) → get_elem? x.views j ≡ some v → get_elem? y.views j ≡ some u → u ≡ v → SamePass j (moment marks x) (moment marks y)
  same-view x y j v u at at' same = record { hand = part hand_of; spin = part spin_of; steps = part steps_of; fronts = part fronts_of; marks = part (marks_of marks) }
    where
      part : {A : Type 0} (f : View E → A) → get_elem? (map f y.views) j ≡ get_elem? (map f x.views) j
      part f = at_map f y.views j u at' ∙ (ap (λ (w : View E). some (f w)) same ∙ sym (at_map f x.views j v at))

  -- what the moment has of a view that was split off
  pub split-born : (y : Instant E) (j : ℕ) (v u : View E) → get_elem? y.views j ≡ some u → u ≡ split_off u.ext v → IsBorn v.hand j (moment marks y)
  split-born y j v u at is = record { hand = part hand_of; spin = part spin_of; steps = part steps_of; fronts = part fronts_of }
    where
      part : {A : Type 0} (f : View E → A) → get_elem? (map f y.views) j ≡ some (f (split_off u.ext v))
      part f = at_map f y.views j u at ∙ ap (λ (w : View E). some (f w)) is

  -- what the moments have of a view that was taken in
  pub spent-gone : (x y : Instant E) (j : ℕ) (v u : View E) → get_elem? x.views j ≡ some v → get_elem? y.views j ≡ some u → IsTakenIn v u → IsGone j v.hand (moment marks x) (moment marks y)
  spent-gone x y j v u at at' t = record {
    nameless = t.nameless;
    out = t.free.0;
    was = v.spin;
    spun = at_map spin_of x.views j v at;
    rested = t.free.1;
    hand = part hand_of;
    spin =
        part spin_of;
    steps = part steps_of;
    fronts = part fronts_of;
  }
    where
      part : {A : Type 0} (f : View E → A) → get_elem? (map f y.views) j ≡ some (f (spent u.ext))
      part f = at_map f y.views j u at' ∙ ap (λ (w : View E). some (f w)) t.gone

  abbrev pub move-steps : {unheld : Bool} (x y : Instant E) → IsSiteMoveWhere unheld k word_at x y → IsSiteStepWhere unheld k word_at (moment marks x) (moment marks y)
  move-steps x y m = record {
    id = m.0;
    before = m.1.before.hand;
    after = m.1.after.hand;
    at = at_map hand_of x.views m.0 m.1.before m.1.at;
    at' = at_map hand_of y.views m.0 m.1.after m.1.at';
    had = m.1.before.steps;
    had_steps = at_map steps_of x.views m.0 m.1.before m.1.at;
    has_steps = at_map steps_of y.views m.0 m.1.after m.1.at' ∙ ap some m.1.moved.counts;
    steps = m.1.moved.site;
    one_word = m.2;
    tries = m.1.moved.tries;
    others = λ j h g apart at at' live. let v = at_unmap hand_of x.views j h at in let u = at_unmap hand_of y.views j g at' in
        same-view x y j v.0 u.0 v.1 u.1 (m.1.others j v.0 u.0 apart v.1 u.1 (λ none. live (ap {A = Hand} (λ h. h.plan) (sym u.2) ∙ none)));
    spends = λ j h g apart at at' none. let v = at_unmap hand_of x.views j h at in let u = at_unmap hand_of y.views j g at' in
        ⊎_elim (λ same. inl (same-view x y j v.0 u.0 v.1 u.1 same)) (λ t. inr (subst (λ (z : Hand). IsGone j z (moment marks x) (moment marks y)) v.2 (spent-gone x y j v.0 u.0 v.1 u.1 t)))
        (m.1.spends j v.0 u.0 apart v.1 u.1 (ap {A = Hand} (λ h. h.plan) u.2 ∙ none));
    lasts = let l = m.1.lasts in omega (arith, l, length-map x.views hand_of, length-map y.views hand_of);
    born = λ j h out at. let u = at_unmap hand_of y.views j h at in let is = m.1.born j u.0 (omega (arith, out, length-map x.views hand_of)) u.1 in split-born y j m.1.before u.0 u.1 is;
  }

  run-steps : (unheld : Bool) (h : List (Instant E)) → Paced (IsSiteMoveWhere unheld k word_at) h → Paced (IsSiteStepWhere unheld k word_at) (map (moment marks) h)
  run-steps unheld [] p = tt
  run-steps unheld (y ∷ []) p = (tt, tt)
  run-steps unheld (y ∷ x ∷ h) p = (move-steps x y p.0, run-steps unheld (x ∷ h) p.1)

  pub ran-steps-where : (unheld : Bool) (begun : Moment) (past : List Moment) → Ran marks begun (IsSiteMoveWhere unheld k word_at) past → Paced (IsSiteStepWhere unheld k word_at) past
  ran-steps-where unheld begun past r = subst (Paced (IsSiteStepWhere unheld k word_at)) (sym r.1) (run-steps unheld r.0 r.3)

  pub ran-steps : (begun : Moment) (past : List Moment) → Ran marks begun (IsSiteMove k word_at) past → Paced (IsSiteStep k word_at) past
  ran-steps begun past r = ran-steps-where false begun past r

-- a pass holds that came by a shared call
pub shares-holds : (kind : Kind) → shares kind ≢ No
shares-holds mutex e = let w : held_weight Alone ≡ held_weight No = ap held_weight e in absurd (omega (arith, w))
shares-holds semaphore e = let w : held_weight Shared ≡ held_weight No = ap held_weight e in absurd (omega (arith, w))
