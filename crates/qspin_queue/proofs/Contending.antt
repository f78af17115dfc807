-- The lock as a whole: its first step, the notes before and after, and what lies between.
use Rattle.std.proofs.Common.{◌≡◌, ◌≢◌, ℕ, suc, ◌+◌, ◌<◌, ◌≤◌, inl, inr, ⊎_elim, Bool, true, false, List, [], ◌∷◌, refl, sym, ap, ◌∙◌, subst, arith, ne_eqb, if◌then◌else◌}
use Rattle.std.proofs.lemmas.List.{get_or-replicate}
use Rattle.lock_core.specs.Records.{bit}
use Rattle.lock_core.specs.Totals.{total}
use Rattle.lock_core.specs.SpinFrames.{uses, ready_at}
use Rattle.lock_core.specs.LockHands.{lock_hand_in, lock_hands, lock_hand_at, point_at, used_by, depth_of, RestsAt, RestsEverywhere}
use Rattle.lock_core.specs.Nestings.{is_held, waits_at, no_nesting, Tells}
use Rattle.lock_core.specs.Pasts.{GoesOn, FoundAt}
use Rattle.lock_core.specs.Spins.{spun}
use Rattle.lock_core.specs.SiteHandles.{view_of, hand_in, past_of, KeepsPast, NotesLock, NotesNone, IsNestTold}
use Rattle.qspin_word.specs.SpinWordHands.{saw_word, took_at, tried}
use Rattle.qspin_word.specs.Ways.{LockGained, SpinGained, RivalSince, SawAtStep, PendedAtStep}
use Rattle.qspin_word.specs.SpinWordHandles.{spin_in, lock_hand_of, SpinSteps, IsSameBut, KeepsFlagsBeside, KeepsNodes, OwnsPendingAt, FindsRivalSince}
use Rattle.qspin_queue.specs.SpinQueueHandles.{TakesInTurn, QueuesBehind}
use Rattle.qspin_queue.specs.Types.{Pass, Nesting, Site, View, LockHand, SpinHand, Moment, Out, Cleared, Trying, Ready, Holding}
use Rattle.qspin_word.proofs.Owning.{owns-within}
use Rattle.qspin_word.proofs.Rivals.{saw-at-step, saw-since, saw-then}
use Rattle.qspin_word.proofs.Idling.{alike-same, alike-then}
use Rattle.qspin_word.proofs.Noting.{noted-past, others-on, others-told, told-noted}

none-used : (bs : List LockHand) → ((l : ℕ) → (lock_hand_in bs l).frame.point ≡ Out) → total used_by bs ≡ 0
none-used [] r = refl
none-used (b ∷ bs) r = let h : used_by b ≡ 0 = ap (λ p. bit (uses p)) (r 0) in let t = none-used bs (λ l. r (suc l)) in omega (arith, h, t)

module _ {R O E C : Type 0} where
  -- who is at no lock notes it
  pub none-told : (a b : Pass R O E C) → NotesNone a b → RestsEverywhere (spin_in a) → IsNestTold b
  none-told a b n r = let told : Tells no_nesting (spin_in a) = record {
    depth = sym (none-used (lock_hands (spin_in a)) r);
    at = λ m few. (get_or-replicate 8 m false false few ∙ sym (ap is_held (r m)), get_or-replicate 8 m false false few ∙ sym (ap waits_at (r m)));
  } in subst (λ (k : Nesting). Tells k (spin_in b)) (sym n.noted) (subst (λ (s : SpinHand). Tells no_nesting s) (sym (ap (λ s. s.me.0.view.spin) n.seat)) told)

-- a rival that was found before, and kept by quiet calls
module _ {E : Type 0} (l : ℕ) (quiet : Type 0) (at : ℕ) where
  abbrev pub found-since : (v m u : View E) (old past new : List Moment) → RivalSince l (Unit {0}) at v old m past → (quiet → u.spin.saw ≡ m.spin.saw) → m.steps ≤ u.steps → GoesOn past new → RivalSince l quiet at v old u new
  found-since v m u old past new r same later goes = let by_now = r.by_now in record {
    saw = r.saw;
    rival = r.rival;
    since = r.since;
    by_now = omega (arith, by_now, later);
    found = saw-then l v.hand.task r.saw at old past new r.found goes;
    still = λ q. same q ∙ r.still tt;
  }

ready-cleared : Ready ≡ Cleared → ⊥
ready-cleared e = let b : 1 ≡ 0 = ap ready_at e in absurd (omega (arith, b))

trying-cleared : Trying ≡ Cleared → ⊥
trying-cleared e = let b : 0 ≡ 1 = ap (λ p. bit (uses p)) e in absurd (omega (arith, b))

module _ {R O E C : Type 0} (l : ℕ) where
  -- the one try with the node cleared comes early
  turn-cleared : (few : ℕ) (old new : Pass R O E C) → TakesInTurn l few old new → (lock_hand_of l new).from ≡ Cleared → (lock_hand_of l new).took ≤ (view_of old).steps + few
  turn-cleared few old new turn is = ⊎_elim (λ r. absurd (ready-cleared (sym r ∙ is))) (λ rest. ⊎_elim (λ c. c.1) (λ t. absurd (trying-cleared (sym t.0 ∙ is))) rest) turn

  -- the try for the pending bit found a rival, and then the pass queued
  pub queues-behind : (quiet : Type 0) (at : ℕ) (a r q : Pass R O E C) → FindsRivalSince l (Unit {0}) at a r → (view_of r).steps ≤ (view_of a).steps + 2 → (quiet → (spin_in q).saw ≡ (spin_in r).saw) → (view_of r).steps ≤ (view_of q).steps → GoesOn (past_of r) (past_of q) → TakesInTurn l 4 r q → QueuesBehind l quiet at a q
  queues-behind quiet at a r q found quick same later goes turn = (
    found-since l quiet at (view_of a) (view_of r) (view_of q) (past_of a) (past_of r) (past_of q) found same later goes,
    λ cleared. let t = turn-cleared 4 r q turn cleared in let s = found.since in omega (arith, t, s, quick),
  )

module _ {R O E C : Type 0} (site : Site R O E C) (l : ℕ) (quiet : Type 0) (a m p q z : Pass R O E C) (n : ℕ) (t : SpinSteps site a m (tried l n (view_of a))) (busy : n ≢ 0) (same : IsSameBut m p) (noted : NotesLock l true false q z) where
  missed : view_of m ≡ spun (view_of a) (saw_word (spin_in a) n ((view_of a).steps + 1))
  missed = t.kept ∙ ap (λ (b : Bool). spun (view_of a) (if b then took_at l (spin_in a) ((view_of a).steps + 1) Holding else saw_word (spin_in a) n ((view_of a).steps + 1))) (ne_eqb n 0 busy)

  begun : view_of p ≡ spun (view_of a) (saw_word (spin_in a) n ((view_of a).steps + 1))
  begun = ap (λ s. s.me.0.view) same.seat ∙ missed

  ended : view_of z ≡ view_of q
  ended = ap (λ s. s.me.0.view) noted.seat

  pub slow-from : (lock_hand_of l z).from ≡ (lock_hand_of l q).from
  slow-from = ap (λ (x : View E). (lock_hand_at l x.spin).from) ended

  slow-when : (lock_hand_of l z).took ≡ (lock_hand_of l q).took
  slow-when = ap (λ (x : View E). (lock_hand_at l x.spin).took) ended

  past-begun : GoesOn (past_of a) (past_of p)
  past-begun = subst (λ s. GoesOn (past_of a) s.me.0.past) (sym same.seat) t.goes_on

  one : (view_of p).steps ≡ (view_of a).steps + 1
  one = ap (λ (x : View E). x.steps) begun

  named : (hand_in p).task ≡ (hand_in a).task
  named = ap (λ (x : View E). x.hand.task) begun

  pub slow-past : KeepsPast p q → KeepsPast a z
  slow-past on = λ x h. noted-past l q z true false noted x (on x (past-begun x h))

  module _ (g : LockGained l quiet (view_of p) (view_of q)) where
    gained-mid : LockGained l quiet (view_of a) (view_of q)
    gained-mid = let e = one in record {
      hand = g.hand ∙ ap (λ (x : View E). x.hand) begun;
      fronts = g.fronts ∙ ap (λ (x : View E). x.fronts) begun;
      ext = g.ext ∙ ap (λ (x : View E). x.ext) begun;
      holds = g.holds;
      others = λ o apart. alike-then (lock_hand_of o a) (lock_hand_of o p) (lock_hand_of o q) (alike-same (lock_hand_of o a) (lock_hand_of o p) (ap (λ (x : View E). lock_hand_at o x.spin) begun)) (g.others o apart);
      more = let x = ap (λ (x : View E). x.spin.entries) begun in let y = g.more in omega (arith, x, y);
      counted = λ k. let x = ap (λ (x : View E). x.spin.entries) begun in let y = g.counted k in omega (arith, x, y);
      took = let x = g.took.0 in (omega (arith, x, e), g.took.1);
    }

    pub slow-gained : LockGained l quiet (view_of a) (view_of z)
    slow-gained = subst (LockGained l quiet (view_of a)) (sym ended) gained-mid

    pub slow-told : KeepsFlagsBeside l p q → KeepsNodes p q → IsNestTold p → IsNestTold z
    slow-told flags nodes told = told-noted l q z true false noted nodes.told (others-on l p q flags (λ o apart. (g.others o apart).point) (others-told l p told)) (ap is_held g.holds) (ap waits_at g.holds)

    pub slow-depth : KeepsNodes p q → depth_of (spin_in z) ≡ depth_of (spin_in a)
    slow-depth nodes = ap (λ (x : View E). depth_of x.spin) ended ∙ (nodes.same ∙ ap (λ (x : View E). depth_of x.spin) begun)

    -- its first step didn't take the lock
    pub slow-took : (lock_hand_of l z).took ≢ (view_of a).steps + 1
    slow-took first = let x = g.took.0 in let y = ap (λ (v : View E). (lock_hand_at l v.spin).took) ended in let e = one in absurd (omega (arith, x, y, e, first))

    later : (view_of p).steps < (view_of z).steps
    later = let x = g.took in let y = ap (λ (v : View E). v.steps) ended in let u = x.0 in let w = x.1 in omega (arith, u, w, y)

    -- the first step saw a rival
    pub slow-first : (at : ℕ) → RestsAt l (spin_in a) → FoundAt at n (past_of m) → KeepsPast p q → 256 ≤ n → (quiet → (spin_in q).saw ≡ (spin_in p).saw) → TakesInTurn l 4 p q → QueuesBehind l quiet at a z
    slow-first at out found on high kept turn = let e = one in let late = later in let steps = ap (λ (x : View E). x.steps) missed in (
      record {
        saw = record { word = n; step = (view_of a).steps + 1 };
        rival = high;
        since = omega arith;
        by_now = omega (arith, e, late);
        found = saw-at-step l at (view_of m) (hand_in a).task (record { word = n; step = (view_of a).steps + 1 }) (past_of a) (past_of m) (past_of z) (ap (λ (x : View E). x.hand.task) missed) steps t.last found t.goes_on
            (λ x h. noted-past l q z true false noted x (on x (subst (λ s. GoesOn (past_of m) s.me.0.past) (sym same.seat) (λ _ y. y) x h)))
            (ap (λ (x : View E). x.spin.saw) missed) (inl (ap (λ (x : View E). point_at l x.spin) missed ∙ out));
        still = λ k. ap (λ (x : View E). x.spin.saw) ended ∙ (kept k ∙ ap (λ (x : View E). x.spin.saw) begun);
      },
      λ cleared. let t = turn-cleared l 4 p q turn (sym slow-from ∙ cleared) in let took = slow-when in omega (arith, t, took, e),
    )

  pub slow-asked : (at : ℕ) → OwnsPendingAt l 1 at p q → OwnsPendingAt l 2 at a z
  slow-asked at o = let e = one in subst (λ (x : List Moment). PendedAtStep l (hand_in a).task ((view_of a).steps + 2) at (past_of a) x) (sym (ap (λ s. s.me.0.past) noted.seat))
      (owns-within l at (view_of a) (view_of p) 1 2 (past_of a) (past_of p) (past_of q) named (omega (arith, e)) past-begun o)

  pub slow-turn : TakesInTurn l 6 p q → TakesInTurn l 7 a z
  slow-turn which = let e = one in let took = ap (λ (x : View E). (lock_hand_at l x.spin).took) ended in ⊎_elim (λ r. inl (slow-from ∙ r)) (λ rest. ⊎_elim (λ r. inr (inl (slow-from ∙ r.0, let x = r.1 in omega (arith, x, took, e)))) (λ r. inr (inr (slow-from ∙ r.0, let x = r.1 in let d = ap (λ (x : View E). depth_of x.spin) begun in omega (arith, x, d)))) rest) which

  pub slow-rival : (at : ℕ) → QueuesBehind l quiet at p q → QueuesBehind l quiet at a z
  slow-rival at b = let r = b.0 in let e = one in let f = r.found in let since = r.since in let by_now = r.by_now in let steps = ap (λ (x : View E). x.steps) ended in (
    record {
      saw = r.saw;
      rival = r.rival;
      since = omega (arith, since, e);
      by_now = omega (arith, by_now, steps);
      found = subst (λ task. SawAtStep l task r.saw at (past_of a) (past_of z)) named (saw-since l (hand_in p).task r.saw at (past_of a) (past_of p) (past_of z) past-begun (saw-then l (hand_in p).task r.saw at (past_of p) (past_of q) (past_of z) f (noted-past l q z true false noted)));
      still = λ k. ap (λ (x : View E). x.spin.saw) ended ∙ r.still k;
    },
    λ cleared. let t = b.1 (sym slow-from ∙ cleared) in let took = slow-when in omega (arith, t, took),
  )

-- of the first lock
pub first-gained : {E : Type 0} (v u : View E) → LockGained 0 (Unit {0}) v u → SpinGained v u
first-gained v u g = record { hand = g.hand; fronts = g.fronts; ext = g.ext; holds = g.holds; counted = g.counted tt; took = g.took }
