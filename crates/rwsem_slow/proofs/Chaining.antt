-- The lists of a run: each came of the one before it by one step.
use Rattle.std.proofs.Common.{◌≡◌, ◌∙◌, ℕ, ◌+◌, ◌<◌, ◌⊎◌, inl, inr, List, [], ◌∷◌, ◌++◌, Some, length, map, get_or, sym, ap, subst, arith}
use mathlib.Core.Option.{some, some-injective}
use lib.ListN.{get_elem?}
use Rattle.atomic_table.proofs.Lists.{at_map}
use Rattle.word_bits.specs.Objects.{Obj}
use Rattle.word_bits.specs.Histories.{Plan}
use Rattle.lock_core.specs.Laws.Locked.{move-steps}
use Rattle.lock_core.specs.ViewParts.{Each}
use Rattle.lock_core.specs.Pasts.{ChangesOneWord, Instant, Moves, marks_of, Paced, Ran, instant, moment}
use Rattle.lock_core.specs.Spins.{holds_in}
use Rattle.lock_core.specs.Views.{spin_of}
use Rattle.wait_list.specs.Lists.{Allowed, MadeBy as MadeUnderLock, Part, changed, list_part}
use Rattle.wait_list.specs.Laws.List.{holds-or-not}
use Rattle.wait_list.proofs.Determining.{kept-same}
use Rattle.rwsem_wake.specs.SemParts.{SemPart, busy_of}
use Rattle.rwsem_wake.specs.Handoffs.{KeepsHandoff}
use Rattle.rwsem_wake.specs.GrantsStated.{Picks}
use Rattle.rwsem_slow.specs.WakesGo.{WakeStands, WakesGo, wake_stands}
use Rattle.rwsem_wake.specs.RwSemViews.{V, count_at, list_of, seen}
use Rattle.rwsem_slow.specs.RwSems.{IsLocked, IsMadeBy, Kept, RwSemKept, RwSemMoves, count_in, entered, grants_in, marks_in, standing, wake_words}
use Rattle.rwsem_slow.specs.RwSemStated.{HasBecome, HasNoBatch, HasWaitLock, IsRwSemStep, MadeBy, stance}
use Rattle.rwsem_slow.specs.Types.{Moment, Marks, Waiter, Change, Stay, Enter, Leave, SemWake, SemHand, RwSemHand}
use Rattle.rwsem_slow.proofs.MarkedCounts.{same-wakes}
use Rattle.rwsem_slow.proofs.Stating.{queued}

has-lock : (id : ℕ) (ws : List ℕ) (vs : List V) (v : V) (p : Part) → get_elem? vs id ≡ some v → get_elem? (map (list_part list_of) vs) id ≡ some p → holds_in p.0 ≡ 1 → HasWaitLock id (moment standing (instant ws vs))
has-lock id ws vs v p at there holds = let same : p ≡ list_part list_of v = some-injective p (list_part list_of v) (sym there ∙ at_map (list_part list_of) vs id v at) in
    (v.spin, at_map spin_of vs id v at, sym (ap (λ (q : Part). holds_in q.0) same) ∙ holds)

module _ (id : ℕ) (ws : List ℕ) (vs : List V) (v : V) (at : get_elem? vs id ≡ some v) where
  same-pass : (w : V) → get_elem? vs id ≡ some w → v ≡ w
  same-pass w there = some-injective v w (sym at ∙ there)

  made-by : (vs' : List V) (u : V) → get_elem? vs' id ≡ some u → (c : Change) (q : List Waiter) → IsMadeBy id vs u.ext.sem.rest c q → MadeUnderLock c id (map (list_part list_of) vs) → MadeBy c id v.hand (map seen vs) (map seen vs') q (moment standing (instant ws vs))
  made-by vs' u at' Stay q own made = tt
  made-by vs' u at' (Enter w) q own made = let same = same-pass own.0 own.1 in (has-lock id ws vs v made.0 at made.1 made.2, ap (λ (x : V). x.hand.task) same ∙ own.2, ap (λ (x : V). x.hand.held) same ∙ own.3, (seen own.0, at_map seen vs id own.0 own.1, own.4))
  made-by vs' u at' (Leave t) q own made = (has-lock id ws vs v made.0 at made.1 made.2, by own.2)
    where
      by : ((own.0.hand.task ≡ Some t) × (own.0.ext.sem.rest ≡ [])) ⊎ (Picks (seen own.0) q t × (u.ext.sem.rest ≡ own.0.ext.sem.rest ++ t ∷ [])) → ((v.hand.task ≡ Some t) × HasNoBatch id (map seen vs)) ⊎ ((p p' : SemPart) × (get_elem? (map seen vs) id ≡ some p) × (get_elem? (map seen vs') id ≡ some p') × Picks p q t × (p'.sem.rest ≡ p.sem.rest ++ t ∷ []))
      by (inl mine) = inl (ap (λ (x : V). x.hand.task) (same-pass own.0 own.1) ∙ mine.0, (seen own.0, at_map seen vs id own.0 own.1, mine.1))
      by (inr picks) = inr (seen own.0, seen u, at_map seen vs id own.0 own.1, at_map seen vs' id u at', picks.0, picks.1)

sem-step : (k : Plan) (id : ℕ) (ws us : List ℕ) (vs vs' : List V) (m : RwSemMoves k id ws vs us vs') → ChangesOneWord ws us → (q q' : List Waiter) → Each IsLocked vs → m.list.list ≡ q → q' ≡ m.list.list' → IsRwSemStep k (moment standing (instant ws vs)) q (map seen vs) (moment standing (instant us vs')) q' (map seen vs')
sem-step k id ws us vs vs' m one q q' each old new = let v = m.site.before in record {
  by = move-steps standing k count_at (instant ws vs) (instant us vs') (id, m.site, one);
  change = m.list.change;
  allowed = subst (Allowed m.list.change) old m.list.allowed;
  made = subst (λ (z : List Waiter). MadeBy m.list.change id v.hand (map seen vs) (map seen vs') z (moment standing (instant ws vs))) old (made-by id ws vs v m.site.at vs' m.site.after m.site.at' m.list.change m.list.list m.made m.list.made);
  is = new ∙ (m.list.is ∙ ap (changed m.list.change) old);
  hands = subst (λ (z : List Waiter). KeepsHandoff id (count_in ws) z (marks_in ws) (grants_in ws) (map seen vs) (count_in us) (marks_in us) (grants_in us) (map seen vs')) old m.hands;
  locked = λ p p' is is' busy. about p p' is is' busy;
  freed = m.freed;
  appends = λ s appends b there. counted-on (map (marks_of standing) vs') id v m.site.after (entered m.list.change) s appends b (sym (at_map (marks_of standing) vs id v m.site.at) ∙ there) (at_map (marks_of standing) vs' id m.site.after m.site.at') m.appends;
  missed = λ other. let miss = m.missed other in (seen v, at_map seen vs id v m.site.at, miss.0, miss.1);
  wakes = λ p p' appends b is is' there. let u = m.site.after in let after = at_map (marks_of standing) vs' id u m.site.at' in let e = some-injective (marks_of standing v) (stance p.sem appends b) (sym (at_map (marks_of standing) vs id v m.site.at) ∙ there) in
      let part = some-injective (seen v) p (sym (at_map seen vs id v m.site.at) ∙ is) in let part' = some-injective (seen u) p' (sym (at_map seen vs' id u m.site.at') ∙ is') in let count : v.ext.appends ≡ appends = ap (λ (n : Marks). get_or n.numbers 2 0) e in (
        u.ext.wake,
        after ∙ (λ i. some (stance (part' i).sem ((m.appends ∙ ap (λ (n : ℕ). n + entered m.list.change) count) i) u.ext.wake)),
        (
          v.spin,
          at_map spin_of vs id v m.site.at,
          subst (λ (z : List Waiter × SemPart × SemPart × WakeStands). WakesGo (count_in ws) (count_in us) z.0 m.list.change (grants_in ws) (wake_words ws) (wake_words us) (holds_in v.spin) z.1 z.2 z.3 (wake_stands u.ext.wake)) (λ i. (old i, part i, part' i, same-wakes v p.sem appends b e i)) m.wakes,
        ),
      );
}
  where
    about : (p p' : SemPart) → get_elem? (map seen vs) id ≡ some p → get_elem? (map seen vs') id ≡ some p' → 0 < busy_of p + busy_of p' → HasWaitLock id (moment standing (instant ws vs))
    about p p' is is' busy = let v = m.site.before in let u = m.site.after in let e = ap {A = SemPart} (λ s. busy_of s) (some-injective p (seen v) (sym is ∙ at_map seen vs id v m.site.at)) in let f = ap {A = SemPart} (λ s. busy_of s) (some-injective p' (seen u) (sym is' ∙ at_map seen vs' id u m.site.at')) in
        let a = each id v m.site.at in let b = m.locked in holds-or-not v.spin (λ one. (v.spin, at_map spin_of vs id v m.site.at, one)) (λ out. absurd (omega (arith, e, f, a, b, out, busy)))

    counted-on : (ms : List Marks) (id : ℕ) (v u : V) (by : ℕ) (s : SemHand) (appends : ℕ) (b : SemWake) → some (marks_of standing v) ≡ some (stance s appends b) → get_elem? ms id ≡ some (marks_of standing u) → u.ext.appends ≡ v.ext.appends + by → (s' : SemHand) × (b' : SemWake) × (get_elem? ms id ≡ some (stance s' (appends + by) b'))
    counted-on ms id v u by s appends b was is goes = let e : v.ext.appends ≡ appends = ap (λ (m : Marks). get_or m.numbers 2 0) (some-injective (marks_of standing v) (stance s appends b) was) in
        (u.ext.sem, u.ext.wake, is ∙ ap (λ (n : ℕ). some (stance u.ext.sem n u.ext.wake)) (goes ∙ ap (λ (n : ℕ). n + by) e))

module _ {Call : Type 0} (o : Obj Call) (size : ℕ) (k : Plan) where
  abbrev Steps : Instant RwSemHand → Instant RwSemHand → Type 0
  Steps = Moves (Kept o size k) (RwSemMoves k)

  chains : (y : Instant RwSemHand) (run : List (Instant RwSemHand)) → Kept o size k y.words y.views → Paced Steps (y ∷ run) → (q : List Waiter) × RwSemKept o size k y.words y.views q × HasBecome k (map (moment standing) (y ∷ run)) q (map seen y.views)
  chains y [] kept paced = (kept.0, kept.1, queued o size k y.words y.views kept.0 kept.1)
  chains y (x ∷ run) kept paced = let move = paced.0 in let before = chains x run move.1 paced.1 in let m = move.3 in (
    kept.0,
    kept.1,
    (
      queued o size k y.words y.views kept.0 kept.1,
      (
        before.0,
        map seen x.views,
        before.2,
        sem-step k move.0 x.words y.words x.views y.views m move.4 before.0 kept.0 before.1.locked
            (kept-same _ m.list.list before.0 (map (list_part list_of) x.views) m.list.old before.1.list)
            (kept-same _ kept.0 m.list.list' (map (list_part list_of) y.views) kept.1.list m.list.new),
      ),
    ),
  )

  pub becomes : (begun m n : Moment) (h past : List Moment) → past ≡ m ∷ n ∷ h → Ran standing begun Steps past → (q : List Waiter) × (ps : List SemPart) × HasBecome k past q ps
  becomes begun m n h past two r = long r.0 (sym r.1 ∙ two) r.1 r.3
    where
      long : (run : List (Instant RwSemHand)) → map (moment standing) run ≡ m ∷ n ∷ h → past ≡ map (moment standing) run → Paced Steps run → (q : List Waiter) × (ps : List SemPart) × HasBecome k past q ps
      long [] e is p = absurd (let l = ap length e in omega (arith, l))
      long (y ∷ []) e is p = absurd (let l = ap length e in omega (arith, l))
      long (y ∷ x ∷ rest) e is p = let c = chains y (x ∷ rest) p.0.2 p in (c.0, map seen y.views, subst (λ (ms : List Moment). HasBecome k ms c.0 (map seen y.views)) (sym is) c.2)
