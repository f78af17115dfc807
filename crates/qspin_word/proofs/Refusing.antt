-- What a fetch-or of the pending bit leaves that saw a tail, or the pending bit of another.
use Rattle.std.proofs.Common.{◌≡◌, ◌≢◌, ℕ, ◌+◌, ◌/◌, ◌%◌, ◌==◌, ◌≤◌, Bool, true, false, Some, refl, sym, ap, ◌∙◌, arith, eq-eqb, ne_eqb, if◌then◌else◌}
use Rattle.std.proofs.lemmas.Bool.{le-ltb}
use Rattle.lock_core.specs.SpinFrames.{uses}
use Rattle.lock_core.specs.LockHands.{lock_hand_at, point_at, depth_of, at-with, at-else}
use Rattle.lock_core.specs.Spins.{spun}
use Rattle.qspin_word.specs.SpinWordHands.{went, saw_word, pended, undone}
use Rattle.qspin_word.specs.Types.{View, LockHand, SpinHand, Out, Undoing, Pending}
use Rattle.qspin_word.specs.Ways.{LockRefused, lock_hand_to}
use Rattle.qspin_word.proofs.OwnNodes.{same-depth}

module _ {E : Type 0} (l : ℕ) (v : View E) (n : ℕ) (high : 256 ≤ n) where
  refused : (u : View E) (s : SpinHand) → u.hand ≡ v.hand → u.fronts ≡ v.fronts → u.ext ≡ v.ext → v.steps + 1 ≤ u.steps → u.spin ≡ s → point_at l s ≡ Out → ((m : ℕ) → m ≢ l → lock_hand_at m s ≡ lock_hand_at m v.spin) → depth_of s ≡ depth_of v.spin → s.entries ≡ v.spin.entries → LockRefused l v u
  refused u s hand fronts ext later is out elsewhere deep counted = record {
    hand = hand;
    fronts = fronts;
    ext = ext;
    later = omega arith;
    out = ap (λ (x : SpinHand). point_at l x) is ∙ out;
    others = λ m apart. ap (λ (x : SpinHand). lock_hand_at m x) is ∙ elsewhere m apart;
    depth = ap depth_of is ∙ deep;
    counted = ap (λ (x : SpinHand). x.entries) is ∙ counted;
  }

  abbrev by_pending : Bool → SpinHand
  by_pending unset = if unset then saw_word (went l v.spin Undoing) n (v.steps + 1) else saw_word v.spin n (v.steps + 1)

  beside_tail : pended l n v ≡ by_pending ((n / 256) % 2 == 0)
  beside_tail = ap (λ (b : Bool). if b then went l v.spin Pending else by_pending ((n / 256) % 2 == 0)) (le-ltb n 256 high)

  -- another owns the bit
  pub saw-pending : (u : View E) → u ≡ spun v (pended l n v) → (n / 256) % 2 ≢ 0 → point_at l v.spin ≡ Out → LockRefused l v u
  saw-pending u is set out = let e : u ≡ spun v (saw_word v.spin n (v.steps + 1)) = is ∙ ap (spun v) (beside_tail ∙ ap by_pending (ne_eqb ((n / 256) % 2) 0 set)) in
      refused u (saw_word v.spin n (v.steps + 1)) (ap (λ (x : View E). x.hand) e) (ap (λ (x : View E). x.fronts) e) (ap (λ (x : View E). x.ext) e) (let l = ap (λ (x : View E). x.steps) e in omega (arith, l)) (ap (λ (x : View E). x.spin) e) out (λ m apart. refl) refl refl

  -- it has set the bit, and cleared it again
  pub saw-tail : (m u : View E) → m ≡ spun v (pended l n v) → u ≡ spun m (undone l m) → (n / 256) % 2 ≡ 0 → point_at l v.spin ≡ Out → LockRefused l v u
  saw-tail m u first is unset out = let s : SpinHand = saw_word (went l v.spin Undoing) n (v.steps + 1) in let e : m ≡ spun v s = first ∙ ap (spun v) (beside_tail ∙ ap by_pending (eq-eqb ((n / 256) % 2) 0 unset)) in
      let e' : u ≡ spun (spun v s) (went l s Out) = is ∙ ap (λ (x : View E). spun x (went l x.spin Out)) e in
      let b : LockHand = lock_hand_to Undoing (lock_hand_at l v.spin) in let mid : lock_hand_at l s ≡ b = at-with l v.spin b in let o : LockHand = lock_hand_to Out (lock_hand_at l s) in
      refused u (went l s Out) (ap (λ (x : View E). x.hand) e') (ap (λ (x : View E). x.fronts) e') (ap (λ (x : View E). x.ext) e') (let n = ap (λ (x : View E). x.steps) e' in omega (arith, n)) (ap (λ (x : View E). x.spin) e')
      (ap (λ (x : LockHand). x.frame.point) (at-with l s o))
      (λ r apart. at-else l r s o apart ∙ at-else l r v.spin b apart)
      (same-depth l s o (sym (ap (λ (x : LockHand). uses x.frame.point) mid)) ∙ same-depth l v.spin b (sym (ap uses out)))
      refl

  by-saw : (b : Bool) → (by_pending b).saw ≡ Some (record { word = n; step = v.steps + 1 })
  by-saw true = refl
  by-saw false = refl

  -- it keeps the word
  pub keeps-seen : (m : View E) → m ≡ spun v (pended l n v) → m.spin.saw ≡ Some (record { word = n; step = v.steps + 1 })
  keeps-seen m is = ap (λ (x : View E). x.spin.saw) is ∙ (ap (λ (s : SpinHand). s.saw) beside_tail ∙ by-saw ((n / 256) % 2 == 0))
