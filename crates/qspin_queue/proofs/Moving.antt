-- What the locks' own facts tell of each step.
use Rattle.std.proofs.Common.{◌≡◌, ℕ, ◌+◌, ◌/◌, ◌%◌, ◌<◌, List, map, set, sym, ap, ◌∙◌, subst, ⊎_elim, arith}
use mathlib.Core.Option.{some, some-injective}
use mathlib.Core.Logic.{dite}
use native.Mathlib.Decide.{ℕ_discrete}
use lib.ListN.{get_elem?}
use lib.Seq.{map-set}
use Rattle.atomic_table.proofs.Lists.{at_map, set_else}
use Rattle.qspin_queue.specs.Types.{LockHand, Frame, Point, SpinHand}
use Rattle.lock_core.specs.ViewParts.{set-there}
use Rattle.lock_core.specs.Totals.{total, total-set, total-at}
use Rattle.lock_core.specs.Views.{SpinPart}
use Rattle.lock_core.specs.LockHands.{point_at}
use Rattle.lock_core.specs.SpinFrames.{stands, holds_of, takes_of, pends_of, undoes_of}
use Rattle.lock_core.specs.Laws.Spin.{recount, lock-of, rests-new}
use Rattle.lock_core.specs.Spins.{SpinsMove, SpinLeaves, SpinStep, TakesFrom, ComesTo, LeavesBy, StaysAt, frame_on, word_in, next_in, locked_in}
use Rattle.lock_core.specs.SpinStated.{owns_of, IsSpinStep}
use Rattle.qspin_word.proofs.SpinSteps.{stays-at}
use Rattle.qspin_word.proofs.Regions.{stays-in}
use Rattle.qspin_queue.proofs.Stating.{states}

module _ (n id : ℕ) (w w' : List ℕ) (ps ps' : List SpinPart) (g : SpinsMove n id w ps w' ps') where
  abbrev Leaves : Type 0
  Leaves = SpinLeaves w ps g.queues w' ps' g.queues'

  abbrev StepAt : ℕ → Type 0
  StepAt l = SpinStep l id w ps g.queues w' ps' g.queues'

  module _ (l : ℕ) (less : l < n) where
    abbrev word : ℕ
    word = word_in w l

    abbrev word' : ℕ
    word' = word_in w' l

    abbrev fs : List Frame
    fs = map (frame_on l) ps

    -- a step that changes the word is one of a pass at the lock
    mover : (P : Type 0) → (word' ≡ word → P) → (StepAt l → P) → P
    mover P same step = ⊎_elim (λ (s : Leaves). same (ap (λ (z : List ℕ). word_in z l) s.words))
        (λ (t : (m : ℕ) × (m < n) × StepAt m). dite (ℕ_discrete l t.0) (λ e. step (subst StepAt (sym e) t.2)) (λ apart. same (t.2.stay.words l apart))) g.step

    module _ (m : StepAt l) where
      frames : map (frame_on l) ps' ≡ set fs id (frame_on l m.after)
      frames = ap (map (frame_on l)) (sym m.others) ∙ map-set (frame_on l) ps id m.after

      mine : get_elem? fs id ≡ some (frame_on l m.before)
      mine = at_map (frame_on l) ps id m.before m.at

      holders : total holds_of (map (frame_on l) ps') + holds_of (frame_on l m.before) ≡ total holds_of fs + holds_of (frame_on l m.after)
      holders = let t = total-set holds_of fs id (frame_on l m.before) (frame_on l m.after) mine in let e = ap (total holds_of) frames in omega (arith, t, e)

    who-takes : word % 256 ≡ 0 → word' % 256 ≡ 1 → (p : SpinPart) × (get_elem? ps id ≡ some p) × TakesFrom (point_at l p.spin) word
    who-takes free taken = mover ((p : SpinPart) × (get_elem? ps id ≡ some p) × TakesFrom (point_at l p.spin) word) (λ e. absurd (omega (arith, e, free, taken)))
        (λ m. let t = holders m in let r = total-at holds_of fs id (frame_on l m.before) (mine m) in let b = (lock-of n w g.queues ps g.old l less).balanced in let b' = (lock-of n w' g.queues' ps' g.new l less).balanced in (m.before, m.at, m.takes (omega arith)))

    who-frees : word % 256 ≡ 1 → word' % 256 ≡ 0 → (p : SpinPart) × (get_elem? ps id ≡ some p) × (holds_of (frame_on l p) ≡ 1)
    who-frees held free = mover ((p : SpinPart) × (get_elem? ps id ≡ some p) × (holds_of (frame_on l p) ≡ 1)) (λ e. absurd (omega (arith, e, free, held)))
        (λ m. let t = holders m in let r = total-at holds_of fs id (frame_on l m.before) (mine m) in let b = (lock-of n w g.queues ps g.old l less).balanced in let b' = (lock-of n w' g.queues' ps' g.new l less).balanced in (m.before, m.at, omega arith))

    who-clears : (word / 256) % 2 ≡ 1 → (word' / 256) % 2 ≡ 0 → (p : SpinPart) × (get_elem? ps id ≡ some p) × (owns_of (frame_on l p) ≡ 1)
    who-clears pending cleared = mover ((p : SpinPart) × (get_elem? ps id ≡ some p) × (owns_of (frame_on l p) ≡ 1)) (λ e. absurd (omega (arith, e, pending, cleared)))
        (λ m. let r = recount fs id (frame_on l m.before) (frame_on l m.after) (mine m) in let b = (lock-of n w g.queues ps g.old l less).balanced in let b' = (lock-of n w' g.queues' ps' g.new l less).balanced in
        let u = ap (total undoes_of) (frames m) in let v = ap (total pends_of) (frames m) in let x = ap (total takes_of) (frames m) in
        let lu = total-at undoes_of fs id (frame_on l m.before) (mine m) in let lp = total-at pends_of fs id (frame_on l m.before) (mine m) in let lt = total-at takes_of fs id (frame_on l m.before) (mine m) in (m.before, m.at, omega arith))

    who-sets : (word / 256) % 2 ≡ 0 → (word' / 256) % 2 ≡ 1 → (p : SpinPart) × (get_elem? ps' id ≡ some p) × (owns_of (frame_on l p) ≡ 1)
    who-sets unset is_set = mover ((p : SpinPart) × (get_elem? ps' id ≡ some p) × (owns_of (frame_on l p) ≡ 1)) (λ e. absurd (omega (arith, e, unset, is_set)))
        (λ m. let r = recount fs id (frame_on l m.before) (frame_on l m.after) (mine m) in let b = (lock-of n w g.queues ps g.old l less).balanced in let b' = (lock-of n w' g.queues' ps' g.new l less).balanced in
        let u = ap (total undoes_of) (frames m) in let v = ap (total pends_of) (frames m) in let x = ap (total takes_of) (frames m) in
        let lu = total-at undoes_of fs id (frame_on l m.before) (mine m) in let lp = total-at pends_of fs id (frame_on l m.before) (mine m) in let lt = total-at takes_of fs id (frame_on l m.before) (mine m) in
        (m.after, ap (λ (z : List SpinPart). get_elem? z id) (sym m.others) ∙ set-there ps id m.before m.after m.at, omega arith))

    -- a pass that makes no step at the lock is at the point where it was
    stays : (p p' : SpinPart) → StaysAt p p' → point_at l p.spin ≡ point_at l p'.spin
    stays p p' s = ⊎_elim
        (λ t. ⊎_elim (λ e. sym (ap (λ (z : SpinHand). point_at l z) e)) (λ e. sym (ap (λ (z : SpinHand). point_at l z) e)) t)
        (λ t. t.0 l ∙ (sym (rests-new l) ∙ sym (ap (λ (z : SpinHand). point_at l z) t.1))) s

    -- what is so of staying and of the step itself is so of each pass
    module _ (P : Point → Point → Type 0) (still : (r : Point) → P r r) (goes : (m : StepAt l) → P (point_at l m.before.spin) (point_at l m.after.spin)) where
      same : (a b : Point) → a ≡ b → P a b
      same a b e = subst (P a) e (still a)

      by-step : (k : ℕ) (m : StepAt k) → P (point_at l m.before.spin) (point_at l m.after.spin) → (j : ℕ) (p p' : SpinPart) → get_elem? ps j ≡ some p → get_elem? ps' j ≡ some p' → P (point_at l p.spin) (point_at l p'.spin)
      by-step k m here j p p' at at' = let there : get_elem? (set ps id m.after) j ≡ some p' = ap (λ (z : List SpinPart). get_elem? z j) m.others ∙ at' in dite (ℕ_discrete j id)
          (λ is. let e : m.before ≡ p = some-injective m.before p (sym m.at ∙ (ap (get_elem? ps) (sym is) ∙ at)) in let e' : m.after ≡ p' = some-injective m.after p' (sym (set-there ps id m.before m.after m.at) ∙ (ap (get_elem? (set ps id m.after)) (sym is) ∙ there)) in
          subst (λ (z : SpinPart). P (point_at l p.spin) (point_at l z.spin)) e' (subst (λ (z : SpinPart). P (point_at l z.spin) (point_at l m.after.spin)) e here))
          (λ apart. same (point_at l p.spin) (point_at l p'.spin) (ap (λ (z : SpinPart). point_at l z.spin) (some-injective p p' (sym at ∙ (sym (set_else ps id j m.after apart) ∙ there)))))

      each : (j : ℕ) (p p' : SpinPart) → get_elem? ps j ≡ some p → get_elem? ps' j ≡ some p' → P (point_at l p.spin) (point_at l p'.spin)
      each j p p' at at' = ⊎_elim
          (λ (s : Leaves). let r = s.passes j p at in same (point_at l p.spin) (point_at l p'.spin) (stays p r.0 r.2 ∙ ap (λ (z : SpinPart). point_at l z.spin) (some-injective r.0 p' (sym r.1 ∙ at'))))
          (λ (t : (m : ℕ) × (m < n) × StepAt m). dite (ℕ_discrete l t.0)
          (λ e. let m : StepAt l = subst StepAt (sym e) t.2 in by-step l m (goes m) j p p' at at')
          (λ apart. by-step t.0 t.2 (same (point_at l t.2.before.spin) (point_at l t.2.after.spin) (sym (ap (λ (b : LockHand). b.frame.point) (t.2.stay.lock_hands l apart)))) j p p' at at')) g.step

  pub moved : IsSpinStep n id w ps w' ps'
  moved = record {
    queues = g.queues;
    queues' = g.queues';
    before = λ l less. states (word_in w l) (next_in w) (locked_in w) (g.queues l) (map (frame_on l) ps) (lock-of n w g.queues ps g.old l less);
    after = λ l less. states (word_in w' l) (next_in w') (locked_in w') (g.queues' l) (map (frame_on l) ps') (lock-of n w' g.queues' ps' g.new l less);
    step = g.step;
    takes = who-takes;
    frees = who-frees;
    sets = who-sets;
    clears = who-clears;
    comes = λ l less. each l less (λ a b. ComesTo a b (word_in w l)) (λ r. stays-at r (word_in w l)) (λ m. m.comes);
    leaves = λ l less. each l less (λ a b. LeavesBy l (stands a) (stands b) w (g.queues' l) w') (λ r. stays-in l (stands r) w (g.queues' l) w') (λ m. m.leaves);
  }
