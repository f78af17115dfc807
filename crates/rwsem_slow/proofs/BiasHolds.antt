-- A reader that comes to hold by the bias that its first addition left in the count.
use Rattle.std.proofs.Common.{◌≡◌, ◌∙◌, ℕ, ◌+◌, ◌-◌, ◌/◌, ◌%◌, ◌^◌, ◌<◌, ◌≤◌, ◌⊎◌, inl, inr, true, false, List, [], map, take, get_or, set, Option, Some, sym, refl, ap, subst, arith}
use Rattle.std.specs.Prelude.{Result, Ok, Err, IfErr, IfOk}
use mathlib.Core.Logic.{dite}
use native.Mathlib.Decide.{ℕ_discrete, dec_le}
use lib.Seq.{set-get_or}
use Rattle.atomic_table.specs.Table.{Me, keeps}
use Rattle.atomic_table.proofs.Lists.{at_map}
use Rattle.word_bits.specs.LockWords.{counted}
use Rattle.word_bits.specs.Objects.{Obj}
use Rattle.word_bits.specs.Histories.{Plan}
use Rattle.lock_core.specs.Holding.{Learns}
use Rattle.lock_core.specs.Kinds.{lets_in, semaphore}
use Rattle.lock_core.specs.Layout.{site}
use Rattle.lock_core.specs.Locking.{Begins, Got, IsLetIn, IsStored, KeepsPlace, Takes}
use Rattle.lock_core.specs.Moves.{Goes, Lets}
use Rattle.lock_core.specs.Pasts.{FoundAt, FoundAtStep, GoesOn, IsOwnStep, IsStepBy}
use Rattle.lock_core.specs.Laws.SiteRun.{found-at-step, step-by}
use Rattle.lock_core.specs.Shown.{LeavesHold, Shown, shown}
use Rattle.lock_core.specs.Signals.{OnlyConsumed}
use Rattle.lock_core.specs.Totals.{total, total-at}
use Rattle.lock_core.specs.Views.{alone_of, hand_of, ticked, took}
use Rattle.lock_core.proofs.HandLaws.{false-or-true, no-alone}
use Rattle.lock_core.proofs.HoldSteps.{quiet-state, site-takes}
use Rattle.lock_core.proofs.RowLaws.{none-some}
use Rattle.rwsem_count.specs.Counts.{CountPart, count_part, early_in, early_weight, part}
use Rattle.rwsem_count.specs.Laws.Count.{count-keeps}
use Rattle.rwsem_count.specs.CountTries.{FindsShut, IsTransit}
use Rattle.rwsem_count.proofs.Counting.{alone-parts, its-plan}
use Rattle.rwsem_wake.specs.SemParts.{transit_weight}
use Rattle.rwsem_wake.specs.Grants.{with_changes}
use Rattle.rwsem_wake.specs.GrantQueues.{HoldsBy}
use Rattle.rwsem_wake.proofs.Holding.{shared-holds}
use Rattle.rwsem_slow.specs.Laws.CountHosting.{sem-count, sem-counted}
use Rattle.rwsem_wake.specs.RwSemPlaces.{line_of}
use Rattle.rwsem_slow.specs.Queued.{AppendedBy, EntersLock, IsInTransit, KeepsLine, Shares}
use Rattle.rwsem_slow.specs.Laws.RwSem.{sem-hints}
use Rattle.rwsem_wake.specs.RwSemViews.{V, count_at, hint_at, with_sem, with_wake, IsDone}
use Rattle.rwsem_slow.specs.RwSems.{Kept, RwSemMoves, bias_of, biased, count_in, more_in, owes_after}
use Rattle.rwsem_slow.specs.Stealing.{MaySteal, StealsBy, WentOn, left_by}
use Rattle.rwsem_slow.specs.Types.{How, Fast, Spun, Slept, Interrupted, Load, Tally, Hand, Moment, Held, No, Shared, Alone, Clear, Transit, SemHand, Apart, Rest}

-- it may, or it may not
may-or-not : (left hint : ℕ) {P : Type 0} → (MaySteal left hint → P) → ((MaySteal left hint → ⊥) → P) → P
may-or-not left hint may not = dite (ℕ_discrete (left % 2) 0)
    (λ even. dite (ℕ_discrete (left / 4 % 2) 0)
    (λ clear. dite (ℕ_discrete (hint % 8) 1)
    (λ owned. elim (dec_le 2 (left % 2 ^ 63 / 256)) [ yes more ↦ not (λ m. m.1 (owned, omega (arith, more))) | no few ↦ may ((even, clear), λ s. let x = s.1 in few (omega (arith, x))) ])
    (λ other. may ((even, clear), λ s. other s.0)))
    (λ set_it. not (λ m. set_it m.0.1)))
    (λ odd. not (λ m. odd m.0.0))

module _ {Call : Type 0} (o : Obj Call) (size : ℕ) (k : Plan) where
  abbrev Place : List ℕ → List V → Type 0
  Place = Kept o size k

  -- the look, after which it holds where it may
  pub steals : (slots id t word : ℕ) (me : Me (Unit {0}) V) → me.0.hand.task ≡ Some t → me.0.hand.held ≡ No → me.0.ext.sem.wait ≡ Apart → me.0.ext.sem.bias ≡ Transit word → me.0.ext.sem.rest ≡ [] → me.0.ext.sem.stage ≡ Rest → me.0.ext.wake.owing ≡ false → Lets Place (RwSemMoves k) slots id me hint_at Load (StealsBy o me)
  steals slots id t word me has out wait transit unpicked stage clear_wake st h _ at small = let v : V = me.0 in let ws : List ℕ = st.words in let vs : List V = st.views in let hint : ℕ = get_or ws hint_at 0 in let left : left_by v.ext.sem.bias ≡ word + 256 = ap left_by transit in may-or-not (left_by v.ext.sem.bias) hint
      (λ may. let open_it = subst (lets_in semaphore) left may.0 in let even : word % 2 ≡ 0 = (let e = open_it.0 in omega (arith, e)) in let clear : word / 4 % 2 ≡ 0 = (let e = open_it.1 in omega (arith, e)) in
      let r = h.1.site_holds in let hs : List Hand = map hand_of vs in let ps : List CountPart = map (count_part bias_of) vs in let n : ℕ = count_in ws in let mine = at_map hand_of vs id v at in let mine' = at_map (count_part bias_of) vs id v at in
      let c = (sem-count o size k ws vs h).0 in let early : early_in (count_part bias_of v) ≡ 1 - word % 2 = ap early_weight transit in let F = total-at early_in ps id (count_part bias_of v) mine' in
      let none : n % 2 ≡ 0 = elim (dec_le 1 (n % 2)) [ yes l ↦ (let a = c.apart (omega (arith, l)) in absurd (omega (arith, a, early, even, F))) | no l ↦ omega (arith, l) ] in
      let wr = c.writer in let alones = alone-parts bias_of vs in let none_alone : total alone_of hs ≡ 0 = omega (arith, alones, wr, none) in
      let g : Hand = took v.hand Shared (take size (site k ws).guarded) r.log in let ok = r.each id v.hand mine in let w : V = with_changes with_sem with_wake v g (record v.ext.sem { bias = Clear }) v.ext.wake in
      let is : record v { hand = g; steps = v.steps + 1; ext = biased v g Clear } ≡ w = (λ i. record w { ext = record w.ext { wake = record v.ext.wake { owing = owes_after (out i) g.held g.freed v.ext.wake.owing } } }) in (
        w,
        keeps,
        tt,
        subst (λ (z : List ℕ × V). Goes Place (RwSemMoves k) id ws vs z.0 (set vs id z.1)) (λ i. ((set-get_or ws count_at 0 ∙ sym (set-get_or ws hint_at 0)) i, is i))
            (sem-counted o size k ws vs id n v g Clear h at record { numbered = λ e. none-some t (sym e ∙ has); task = refl; goes = (record { misses = omega arith; freed = λ e. refl; takes = omega arith; comes = λ l. omega (arith, l) }, refl, refl); left = λ held. absurd (held out) } (inl (refl, inl (refl, refl)))
            (wait, omega arith, refl, unpicked, stage, clear_wake, (let e = ap transit_weight transit in omega (arith, e)))
            record { flags = refl; writer = λ x y. absurd (omega (arith, x, y)); lone = λ x y. absurd (omega (arith, x, y)); reader = λ _. inr (inr (inl (word, transit, clear))); bias = inr (inl refl) }
            (count-keeps ps id (count_part bias_of v) (part g Clear) mine' n word (more_in k ws vs) c (inr even) out transit refl refl)
            (site-takes o counted size k (site k ws) hs id t v.hand Shared r mine out has (λ e. shared-holds e) (λ l. absurd (omega (arith, l))) none_alone)),
        refl,
        (
          (λ _. (take size (site k ws).guarded, r.log, (λ p plan. subst (λ (z : Plan). Learns o z v.hand (take size (site k ws).guarded) r.log) (its-plan k p v.hand.plan ok.plan plan) record { stored = quiet-state o counted size k (site k ws) hs r none_alone; within = r.tells.within; begins = ok.seen }), (refl, refl))),
          λ not. absurd (not may),
        ),
      ))
      (λ not. (ticked v, keeps, tt, sem-hints o size k ws vs id hint v h at, refl, ((λ may. absurd (not may)), λ _. (refl, refl))))

-- it holds by its bias, and waits for nothing
pub stolen : {Call : Type 0} (o : Obj Call) (k : Plan) (v u : V) → IsInTransit v → HoldsBy with_sem with_wake o k Shared (record v.ext.sem { bias = Clear }) v.ext.wake v u → Shares o k v u
stolen o k v u t h = let view = h.3 in let steps = ap (λ (z : V). z.steps) view in let entries = ap (λ (z : V). z.spin.entries) view in record {
  known = h.0;
  log = h.1;
  learns = h.2;
  keeps = record { later = omega (arith, steps); entries = omega (arith, entries); fronts = ap (λ (z : V). z.fronts) view; appends = ap (λ (z : V). z.ext.appends) view };
  hand = ap (λ (z : V). z.hand) view;
  sem = ap (λ (z : V). z.ext.sem) view ∙ ap (λ (s : SemHand). record s { bias = Clear }) t.transit.1;
  still = ap (λ (z : V). z.ext.list.changes) view ∙ t.still;
  done = subst IsDone (sym (ap (λ (z : V). z.ext.wake) view)) t.done;
  wakes = ap (λ (z : V). z.ext.wake.wakes) view;
  dozes = ap (λ (z : V). z.ext.wake.dozes) view;
}

-- the step behind the first view left the pass with this hold
pub next-leaves : (held : Held) (v u : V) (p q : List Moment) → u.steps ≡ v.steps + 1 → u.hand.task ≡ v.hand.task → u.hand.held ≡ held → IsOwnStep u q → GoesOn p q → LeavesHold (v.steps + 1) held (shown line_of v.fronts v p) (shown line_of u.fronts u q)
next-leaves held v u p q steps task is own goes = subst (λ (n : ℕ). LeavesHold n held (shown line_of v.fronts v p) (shown line_of u.fronts u q)) steps (q, step-by u v.hand.task q task own, is, goes, λ a t. t)

-- a look at the hint leaves it in transit
pub still-transit : (v u : V) → u ≡ ticked v → IsInTransit v → IsInTransit u
still-transit v u is t = subst IsInTransit (sym is) record { transit = t.transit; still = t.still; done = t.done }

-- from where its bias came to hold, and on through the wait lock or not
module _ {Call : Type 0} (o : Obj Call) (k : Plan) (v m u : V) (p q : List Moment) (shares : Shares o k v m) (hand : u.hand ≡ m.hand) (on : KeepsLine m u) where
  taken : u.hand ≡ took v.hand Shared shares.known shares.log
  taken = hand ∙ shares.hand

  pub shares-takes : v.hand.held ≡ No → (v.hand.writes ≡ true → v.hand.held ≡ Alone) → Takes o k Shared (shown line_of v.fronts v p) (shown line_of u.fronts u q)
  shares-takes out writer = let a = shares.keeps.later in let b = on.later in let c = shares.keeps.entries in let d = on.entries in let e = shares.keeps.fronts in let f = on.fronts in let g = shares.keeps.appends in let l = on.appends in let misses = ap (λ (h : Hand). h.misses) taken in record {
    keeps = record {
      task = ap (λ (h : Hand). h.task) taken;
      done = ap (λ (h : Hand). h.done) taken;
      seen = ap (λ (h : Hand). h.seen) taken;
      records = ap (λ (h : Hand). h.records) taken;
      sent = ap (λ (h : Hand). h.sent) taken;
      last = ap (λ (h : Hand). h.last) taken;
      counts = record { steps = omega (arith, a, b); misses = omega (arith, misses); entries = omega (arith, c, d); fronts = omega (arith, e, f); appends = omega (arith, g, l) };
    };
    consumed = ap (λ (h : Hand). h.consumed) taken;
    holds = ap (λ (h : Hand). h.held) taken;
    quiet = ap (λ (h : Hand). h.writes) taken ∙ false-or-true v.hand.writes (λ t. no-alone (sym out ∙ writer t)) (λ f. f);
    stored = subst (λ (h : Hand). IsStored o k h) (sym taken) shares.learns.stored;
    begins = subst (λ (h : Hand). Begins v.hand h.log) (sym taken) shares.learns.begins;
    takes = ap (λ (h : Hand). h.takes) taken;
    freed = ap (λ (h : Hand). h.freed) taken;
  }

  pub shares-on : (r : List Moment) (left : ℕ) → lets_in semaphore left → LeavesHold (v.steps + 1) Shared (shown line_of v.fronts v p) (shown line_of m.fronts m r) → GoesOn r q → WentOn left Spun (shown line_of v.fronts v p) (shown line_of u.fronts u q)
  shares-on r left open_it held after = let e = shares.keeps.fronts in let f = on.fronts in let g = shares.keeps.appends in let l = on.appends in (inr (open_it, ap (λ (h : Hand). h.saw) taken, (held.0, held.1, held.2, held.3, λ a t. after a (held.4 a t))), f ∙ e, ap (λ (h : Hand). h.misses) taken, l ∙ g)

-- a reader that left the hint behind it goes on as it stood
pub keeps-line-on : (v m u : V) → m ≡ ticked v → KeepsLine m u → KeepsLine v u
keeps-line-on v m u is k = let x = subst (λ (z : V). KeepsLine z u) is k in let l = x.later in record { later = omega (arith, l); entries = x.entries; fronts = x.fronts; appends = x.appends }

-- after a look that didn't let it hold, by way of the wait lock
module _ (v m u : V) (is : m ≡ ticked v) where
  pub line-on : (p q : List Moment) (left : ℕ) (x : Result How Interrupted) → EntersLock m u → IfOk x (λ how. AppendedBy how m u) → IfOk x (λ how. WentOn left how (shown line_of v.fronts v p) (shown line_of u.fronts u q))
  line-on p q left (Err why) lock appended = tt
  line-on p q left (Ok how) lock appended = go how (subst (λ (z : V). EntersLock z u) is lock) (subst (λ (z : V). AppendedBy how z u) is appended)
    where
      go : (x : How) → EntersLock (ticked v) u → AppendedBy x (ticked v) u → WentOn left x (shown line_of v.fronts v p) (shown line_of u.fronts u q)
      go Fast l a = a
      go Spun l a = (inl l.entries, l.fronts, l.misses, a)
      go Slept l a = (l.entries, l.fronts, l.misses, a)

  -- or until a signal interrupts it
  pub lock-on : (x : Result How Interrupted) → EntersLock m u → IfErr x (λ _. EntersLock v u)
  lock-on (Ok how) lock = tt
  lock-on (Err why) lock = let l = subst (λ (z : V). EntersLock z u) is lock in record { entries = l.entries; fronts = l.fronts; misses = l.misses }

  pub waited-on : (x : Result How Interrupted) → IfErr x (λ _. u.ext.appends ≡ m.ext.appends + 1) → IfErr x (λ _. u.ext.appends ≡ v.ext.appends + 1)
  waited-on x w = subst (λ (z : V). IfErr x (λ _. u.ext.appends ≡ z.ext.appends + 1)) is w

  pub consumed-on : (x : Result How Interrupted) → IfErr x (λ _. OnlyConsumed m u) → IfErr x (λ _. OnlyConsumed v u)
  consumed-on x w = subst (λ (z : V). IfErr x (λ _. OnlyConsumed z u)) is w

-- what the whole call shows, from its addition on
module _ (fronts swaps : ℕ) (tally tally' : Tally) (left : ℕ) (v m u : V) (p q : List Moment) (t : IsTransit biased v left m) where
  abbrev Before : Shown
  Before = record (shown line_of fronts v p) { swaps = swaps; tally = tally }

  abbrev After : Shown
  After = record (shown line_of fronts u q) { swaps = swaps; tally = tally' }

  once : m.hand.misses ≡ v.hand.misses + 1
  once = ap (λ (z : V). z.hand.misses) t.3

  same_entries : m.spin.entries ≡ v.spin.entries
  same_entries = ap (λ (z : V). z.spin.entries) t.3

  same_appends : m.ext.appends ≡ v.ext.appends
  same_appends = ap (λ (z : V). z.ext.appends) t.3

  -- from its addition, which these moments end with, to the call's end
  abbrev Went : List Moment → How → Type 0
  Went r how = WentOn left how (shown line_of m.fronts m r) (shown line_of u.fronts u q)

  pub went-got : (r : List Moment) (x : Result How Interrupted) → IfOk x (Went r) → IfOk x (λ how. Got how Before After)
  went-got r (Err why) on = tt
  went-got r (Ok how) on = go how on
    where
      go : (x : How) → Went r x → Got x Before After
      go Fast w = absurd w
      go Spun w = let a = w.2 in let b = once in (omega (arith, a, b), ap (λ (n : ℕ). record { appends = n }) (w.3 ∙ same_appends))
      go Slept w = let a = w.3 in let b = same_appends in omega (arith, a, b)

  few-misses : (r : List Moment) (x : How) → Went r x → u.hand.misses ≡ m.hand.misses
  few-misses r Fast w = absurd w
  few-misses r Spun w = w.2
  few-misses r Slept w = w.2

  -- where a signal interrupted it
  pub quit-place : (x : Result How Interrupted) → IfErr x (λ _. EntersLock m u) → IfErr x (λ _. KeepsPlace semaphore false count_at Before After)
  quit-place (Ok how) lock = tt
  quit-place (Err why) lock = record {
    queues = λ _ _. let a = lock.entries in let e = same_entries in inl (omega (arith, a, e));
    few = λ _. let a = lock.misses in let b = once in omega (arith, a, b);
  }

  -- the moments up to its addition, which found the count that let it in
  module _ (r : List Moment) (own : IsOwnStep m r) (shut : FindsShut count_at left r) (later : m.steps ≤ u.steps) (before : GoesOn p r) (after : GoesOn r q) where
    let-in : lets_in semaphore left → u.hand.saw ≡ m.hand.saw → u.hand.misses ≡ m.hand.misses → LeavesHold (m.steps + 1) Shared (shown line_of m.fronts m r) (shown line_of u.fronts u q) → IsLetIn semaphore count_at Before After
    let-in open_it saw misses held = let task : m.hand.task ≡ v.hand.task = ap (λ (z : V). z.hand.task) t.3 in let steps = ap (λ (z : V). z.steps) t.3 in let is = t.1 in let a = open_it.0 in let b = open_it.1 in let left_it = shut.2 in let same : shut.0 ≡ t.0 = omega (arith, is, left_it) in record {
      once = misses ∙ once;
      saw = record { word = t.0; step = v.steps + 1 };
      is = saw ∙ ap (λ (z : V). z.hand.saw) t.3;
      since = omega arith;
      by_now = omega (arith, steps, later);
      found = subst (λ (n : ℕ). FoundAtStep v.hand.task n count_at t.0 p q) steps (found-at-step m v.hand.task count_at t.0 p r q (ap (λ (z : V). z.hand.task) t.3) own (subst (λ (n : ℕ). FoundAt count_at n r) same shut.1) before after);
      opens = (omega (arith, is, a), omega (arith, is, b));
      holds = subst (λ (z : Option ℕ × ℕ). (past : List Moment) × (by : IsStepBy z.0 z.1 past) × (by.hand.held ≡ Shared) × GoesOn p past × GoesOn past q) (λ i. (task i, steps i + 1)) (held.0, held.1, held.2, (λ a s. held.3 a (before a s)), held.4);
    }

    place-at : (how : How) → Went r how → KeepsPlace semaphore true count_at Before After
    place-at how on = record {
      queues = λ _ _. go how on;
      few = λ _. let a = few-misses r how on in let b = once in omega (arith, a, b);
    }
      where
        go : (x : How) → Went r x → (v.spin.entries < u.spin.entries) ⊎ ((true ≡ true) × IsLetIn semaphore count_at Before After)
        go Fast w = absurd w
        go Spun w = let e = same_entries in elim w.0 [ inl entered ↦ inl (omega (arith, entered, e)) | inr open_it ↦ inr (refl, let-in open_it.0 open_it.1 w.2 open_it.2) ]
        go Slept w = let a = w.0 in let e = same_entries in inl (omega (arith, a, e))

    pub went-place : (x : Result How Interrupted) → IfOk x (Went r) → IfOk x (λ _. KeepsPlace semaphore true count_at Before After)
    went-place (Err why) on = tt
    went-place (Ok how) on = place-at how on
