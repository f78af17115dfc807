-- The lists of a run: each came of the one before it by one step.
use Rattle.std.proofs.Common.{◌≡◌, ◌∙◌, ℕ, ◌+◌, ◌⊎◌, inl, inr, List, [], ◌∷◌, length, map, get_or, sym, ap, subst, arith}
use mathlib.Core.Option.{some, some-injective}
use lib.ListN.{get_elem?}
use Rattle.atomic_table.proofs.Lists.{at_map}
use Rattle.word_bits.specs.Objects.{Obj}
use Rattle.word_bits.specs.Histories.{Plan}
use Rattle.lock_core.specs.Laws.Locked.{move-steps}
use Rattle.lock_core.specs.Pasts.{ChangesOneWord, Instant, Moves, marks_of, Paced, Ran, instant, moment}
use Rattle.lock_core.specs.Records.{bit}
use Rattle.lock_core.specs.Spins.{holds_in}
use Rattle.lock_core.specs.Views.{spin_of}
use Rattle.wait_list.specs.Lists.{Allowed, MadeBy as MadeUnderLock, Part, changed, list_part}
use Rattle.wait_list.proofs.Determining.{kept-same}
use Rattle.mutex_slow.specs.Mutexes.{AnswersHandoff, HasHandoff, HasLock, IsFirstTask, IsOwnChange, Kept, LeavesToFirst, MutexKept, MutexMoves, PicksFirst, TookUp, V, entered, list_of, may_miss, owner_at, owner_in, standing, standing_of, wake_words, Standing, WakesGo}
use Rattle.mutex_slow.specs.MutexStated.{line_marks, HasBecome, HasWaitLock, IsMutexStep, MadeBy, TakesUp}
use Rattle.mutex_slow.specs.Types.{Moment, Marks, Waiter, Change, Stay, Enter, Leave, MutexHand}
use Rattle.mutex_slow.proofs.Stating.{listed, same-standing}

has-lock : (id : ℕ) (ws : List ℕ) (vs : List V) (v : V) (p : Part) → get_elem? vs id ≡ some v → get_elem? (map (list_part list_of) vs) id ≡ some p → holds_in p.0 ≡ 1 → HasWaitLock id (moment standing (instant ws vs))
has-lock id ws vs v p at there holds = let same : p ≡ list_part list_of v = some-injective p (list_part list_of v) (sym there ∙ at_map (list_part list_of) vs id v at) in
    (v.spin, at_map spin_of vs id v at, sym (ap (λ (q : Part). holds_in q.0) same) ∙ holds)

module _ (id : ℕ) (ws : List ℕ) (vs : List V) (v : V) (at : get_elem? vs id ≡ some v) where
  same-pass : (w : V) → get_elem? vs id ≡ some w → v ≡ w
  same-pass w there = some-injective v w (sym at ∙ there)

  made-by : (c : Change) → IsOwnChange id vs (owner_in ws) c → MadeUnderLock c id (map (list_part list_of) vs) → MadeBy c id v.hand (moment standing (instant ws vs))
  made-by Stay own made = tt
  made-by (Enter w) own made = let same = same-pass own.0 own.1 in (has-lock id ws vs v made.0 at made.1 made.2, ap (λ (x : V). x.hand.task) same ∙ own.2, ap (λ (x : V). x.hand.held) same ∙ own.3, own.4)
  made-by (Leave t) own made = (has-lock id ws vs v made.0 at made.1 made.2, ap (λ (x : V). x.hand.task) (same-pass own.0 own.1) ∙ own.2, own.3)

  takes-up : (n n' : ℕ) → (n' ≡ n) ⊎ TookUp id vs n n' → (n' ≡ n) ⊎ TakesUp v.hand n n'
  takes-up n n' (inl same) = inl same
  takes-up n n' (inr t) = inr ((t.2.0, ap (λ (x : V). x.hand.task) (same-pass t.0 t.1) ∙ t.2.1, t.2.2), t.3)

mutex-step : (k : Plan) (id : ℕ) (ws us : List ℕ) (vs vs' : List V) (m : MutexMoves k id ws vs us vs') → ChangesOneWord ws us → (l l' : List Waiter) → m.list.list ≡ l → l' ≡ m.list.list' → IsMutexStep k (moment standing (instant ws vs)) l (moment standing (instant us vs')) l'
mutex-step k id ws us vs vs' m one l l' old new = let v = m.site.before in record {
  by = move-steps standing k owner_at (instant ws vs) (instant us vs') (id, m.site, one);
  change = m.list.change;
  allowed = subst (Allowed m.list.change) old m.list.allowed;
  made = made-by id ws vs v m.site.at m.list.change m.own m.list.made;
  is = new ∙ (m.list.is ∙ ap (changed m.list.change) old);
  hands = λ leaves. subst (PicksFirst (owner_in us)) old (m.hands leaves);
  picks = λ high. takes-up id ws vs v m.site.at (owner_in ws) (owner_in us) (m.picks high);
  asks = λ asked. subst (IsFirstTask v.hand.task) old (m.asks asked);
  stays = λ asked. subst (λ (z : List Waiter). HasHandoff (owner_in us) ⊎ AnswersHandoff v.hand (owner_in us) z) old (m.stays asked);
  freed = m.freed;
  names = λ alone free lock. subst (LeavesToFirst (owner_in us)) old (m.names alone free (had-lock lock));
  missed = λ more s there. uncounted-out v s (sym (at_map (marks_of standing) vs id v m.site.at) ∙ there) (m.missed more);
  stands = λ s there. let marks = some-injective (marks_of standing v) (line_marks s) (sym (at_map (marks_of standing) vs id v m.site.at) ∙ there) in let same = same-standing v s marks in (
    standing_of m.site.after.ext,
    at_map (marks_of standing) vs' id m.site.after m.site.at',
    m.appends ∙ ap (λ (z : Standing). z.appends + entered m.list.change) same,
    (
      v.spin,
      at_map spin_of vs id v m.site.at,
      subst (λ (z : List Waiter × Standing). WakesGo (owner_in ws) z.0 m.list.change (wake_words ws) (wake_words us) (holds_in v.spin) v.hand m.site.after.hand z.1 (standing_of m.site.after.ext)) (λ i. (old i, same i)) m.wakes,
    ),
  );
}
  where
    had-lock : HasWaitLock id (moment standing (instant us vs')) → HasLock m.site.after
    had-lock lock = ap holds_in (sym (some-injective lock.0 m.site.after.spin (sym lock.1 ∙ at_map spin_of vs' id m.site.after m.site.at'))) ∙ lock.2

    uncounted-out : (v : V) (s : Standing) → some (marks_of standing v) ≡ some (line_marks s) → may_miss v → s.queued ≡ 0
    uncounted-out v s was out = sym (ap (λ (m : Marks). get_or m.numbers 0 0) (some-injective (marks_of standing v) (line_marks s) was)) ∙ ap bit out

module _ {Call : Type 0} (o : Obj Call) (size : ℕ) (k : Plan) where
  abbrev Steps : Instant MutexHand → Instant MutexHand → Type 0
  Steps = Moves (Kept o size k) (MutexMoves k)

  chains : (y : Instant MutexHand) (run : List (Instant MutexHand)) → Kept o size k y.words y.views → Paced Steps (y ∷ run) → (l : List Waiter) × MutexKept o size k y.words y.views l × HasBecome k (map (moment standing) (y ∷ run)) l
  chains y [] kept paced = (kept.0, kept.1, listed o size k y.words y.views kept.0 kept.1)
  chains y (x ∷ run) kept paced = let move = paced.0 in let before = chains x run move.1 paced.1 in let m = move.3 in (
    kept.0,
    kept.1,
    (
      listed o size k y.words y.views kept.0 kept.1,
      (
        before.0,
        before.2,
        mutex-step k move.0 x.words y.words x.views y.views m move.4 before.0 kept.0
            (kept-same _ m.list.list before.0 (map (list_part list_of) x.views) m.list.old before.1.list)
            (kept-same _ kept.0 m.list.list' (map (list_part list_of) y.views) kept.1.list m.list.new),
      ),
    ),
  )

  pub becomes : (begun m n : Moment) (h past : List Moment) → past ≡ m ∷ n ∷ h → Ran standing begun Steps past → (l : List Waiter) × HasBecome k past l
  becomes begun m n h past two r = long r.0 (sym r.1 ∙ two) r.1 r.3
    where
      long : (run : List (Instant MutexHand)) → map (moment standing) run ≡ m ∷ n ∷ h → past ≡ map (moment standing) run → Paced Steps run → (l : List Waiter) × HasBecome k past l
      long [] e is p = absurd (let l = ap length e in omega (arith, l))
      long (y ∷ []) e is p = absurd (let l = ap length e in omega (arith, l))
      long (y ∷ x ∷ rest) e is p = let c = chains y (x ∷ rest) p.0.2 p in (c.0, subst (λ (ms : List Moment). HasBecome k ms c.0) (sym is) c.2)
