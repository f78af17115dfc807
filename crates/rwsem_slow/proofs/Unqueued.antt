-- A writer that stands in no list tries a count.
use Rattle.std.proofs.Common.{◌≡◌, ◌≢◌, ◌↔◌, ℕ, ◌+◌, ◌/◌, ◌%◌, ◌^◌, ◌≤◌, inl, inr, Bool, false, IsTrue, List, map, take, set, Some, None, refl, sym, ap, ◌∙◌, subst, arith}
use mathlib.Core.Option.{some, none}
use mathlib.Core.Logic.{dite}
use native.Mathlib.Decide.{ℕ_discrete}
use lib.ListN.{get_elem?}
use lib.Seq.{set-get_or}
use Rattle.atomic_table.specs.Table.{Me, step, keeps}
use Rattle.atomic_table.specs.Seated.{TableId}
use Rattle.atomic_table.proofs.Lists.{at_map, set_again}
use Rattle.word_bits.specs.LockWords.{IsLawfulCount, counted}
use Rattle.word_bits.specs.Objects.{Obj}
use Rattle.word_bits.specs.Histories.{Plan}
use Rattle.lock_core.specs.Holding.{Learns, missed}
use Rattle.lock_core.specs.Layout.{site}
use Rattle.lock_core.specs.Moves.{Goes, Lets}
use Rattle.lock_core.specs.SitePasses.{Sits}
use Rattle.lock_core.specs.Pasts.{unseen}
use Rattle.lock_core.specs.Kinds.{semaphore, unavailable}
use Rattle.lock_core.specs.Locking.{OnlyTried}
use Rattle.lock_core.specs.Records.{bit}
use Rattle.lock_core.specs.Shown.{shown}
use Rattle.lock_core.specs.Sites.{SiteKept}
use Rattle.lock_core.specs.Totals.{total}
use Rattle.lock_core.specs.Views.{alone_of, alone_weight, hand_of, handed, held_of, ticked, took}
use Rattle.lock_core.proofs.HandLaws.{no-alone}
use Rattle.lock_core.proofs.HoldSteps.{quiet-state, site-misses, site-takes}
use Rattle.lock_core.proofs.RowLaws.{none-some}
use Rattle.lock_core.proofs.Sitting.{sits-on}
use Rattle.lock_core.proofs.Steps.{chooses}
use Rattle.rwsem_count.specs.Counts.{CountKept, CountMove, CountPart, based, count_part, part}
use Rattle.rwsem_count.specs.Laws.Count.{count-writes}
use Rattle.rwsem_count.specs.CountTries.{MissesSince}
use Rattle.rwsem_count.proofs.Counting.{alone-parts, held-parts, its-plan}
use Rattle.rwsem_count.proofs.Sitting.{sits-missed}
use Rattle.rwsem_wake.specs.SemParts.{apart_hand, transit_weight}
use Rattle.rwsem_slow.specs.Laws.CountHosting.{sem-count, sem-counted}
use Rattle.rwsem_wake.specs.RwSemPlaces.{line_of}
use Rattle.rwsem_slow.specs.Laws.RwSem.{sem-looks}
use Rattle.rwsem_wake.specs.RwSemViews.{V, count_at}
use Rattle.rwsem_slow.specs.RwSems.{Kept, RwSemMoves, bias_of, biased, count_in, more_in}
use Rattle.rwsem_slow.specs.Spinning.{IsUnlocked, LookedUnqueued, SawUnqueued, SeenUnqueued, TakenUnqueued}
use Rattle.rwsem_slow.specs.Types.{Load, Exchange, Hand, No, Shared, Alone, Moment, Seen, Face, Clear, SemHand, RwSemHand}

-- to hold alone isn't to share
alone-shared : {P : Type 0} → Alone ≡ Shared → P
alone-shared e = let w : alone_weight Alone ≡ alone_weight Shared = ap alone_weight e in absurd (omega (arith, w))

-- a count can be had, or it can't
pub unlocked-or-not : (n : ℕ) {P : Type 0} → (IsUnlocked n → P) → ((IsUnlocked n → ⊥) → P) → P
unlocked-or-not n free shut = dite (ℕ_discrete (n % 2) 0)
    (λ a. dite (ℕ_discrete (n % 2 ^ 63 / 256) 0)
    (λ b. dite (ℕ_discrete (n / 4 % 2) 0) (λ c. free (a, b, c)) (λ not. shut (λ f. not f.2)))
    (λ not. shut (λ f. not f.1)))
    (λ not. shut (λ f. not f.0))

module _ {Call : Type 0} (o : Obj Call) (size : ℕ) (k : Plan) where
  abbrev M : Type 0
  M = Me (Unit {0}) V

  abbrev Place : List ℕ → List V → Type 0
  Place = Kept o size k

  -- a try sees the count, and leaves it
  saw-there : (me : M) (ws : List ℕ) (vs : List V) (id : ℕ) → Place ws vs → get_elem? vs id ≡ some me.0 → me.0.hand.task ≢ None → me.0.hand.held ≡ No → me.0.ext.sem ≡ apart_hand
      → (w : V) × (w.steps ≡ me.0.steps + 1) × Goes Place (RwSemMoves k) id ws vs ws (set vs id w) × SeenUnqueued me (count_in ws) (w, me.1)
  saw-there me ws vs id h at numbered out apart = let v : V = me.0 in let n : ℕ = count_in ws in let lawful = (sem-count o size k ws vs h).1 in let low = lawful.0 in let high = lawful.1 in let r = h.1.site_holds in let mine = at_map hand_of vs id v at in let g : Hand = missed v.hand n (v.steps + 1) in unlocked-or-not n
      (λ free. (
        ticked v,
        refl,
        sem-looks o size k ws vs id n v v.hand h at record { numbered = numbered; task = refl; goes = (record { misses = omega arith; freed = λ e. refl; takes = omega arith; comes = λ l. omega (arith, l) }, refl, refl); left = λ held other. absurd (other refl) } (inl (refl, inl (refl, refl))) refl (subst (SiteKept o counted size k (site k ws)) (sym (set_again (map hand_of vs) id v.hand mine)) r),
        (lawful, (λ _. (refl, refl)), λ shut. absurd (shut free)),
      ))
      (λ shut. (
        handed v g,
        refl,
        sem-looks o size k ws vs id n v g h at record { numbered = numbered; task = refl; goes = (record { misses = omega arith; freed = λ e. refl; takes = omega arith; comes = λ l. omega (arith, l) }, refl, refl); left = λ held other. absurd (other refl) } (inr (record { out = out; counts = refl; saw = refl; task = refl }, (ap (λ (s : SemHand). s.wait) apart, ap (λ (s : SemHand). s.bias) apart))) refl (site-misses o counted size k (site k ws) (map hand_of vs) id n (v.steps + 1) v.hand r mine (omega (arith, low, high))),
        (lawful, (λ free. absurd (shut free)), λ _. (refl, refl)),
      ))

  -- its load
  pub unqueued-looks : (slots id : ℕ) (me : M) → me.0.hand.task ≢ None → me.0.hand.held ≡ No → me.0.ext.sem ≡ apart_hand → Lets Place (RwSemMoves k) slots id me count_at Load (LookedUnqueued (step slots count_at 0 0 none) me)
  unqueued-looks slots id me numbered out apart st h _ at small = let ws : List ℕ = st.words in let vs : List V = st.views in let t = saw-there me ws vs id h at numbered out apart in
      (t.0, keeps, tt, subst (λ (z : List ℕ). Goes Place (RwSemMoves k) id ws vs z (set vs id t.0)) (sym (set-get_or ws count_at 0)) t.2, t.1, t.3)

  -- its exchange
  pub unqueued-takes : (slots id t old : ℕ) (me : M) → me.0.hand.task ≡ Some t → me.0.hand.held ≡ No → me.0.ext.sem ≡ apart_hand → me.0.ext.wake.owing ≡ false → IsUnlocked old → IsLawfulCount old → Lets Place (RwSemMoves k) slots id me count_at (Exchange old (old + 1)) (TakenUnqueued o (step slots count_at old (old + 1) none) me)
  unqueued-takes slots id t old me has out apart clear_wake free fits = let v : V = me.0 in let numbered : v.hand.task ≢ None = λ e. none-some t (sym e ∙ has) in let low = fits.0 in let high = fits.1 in let even = free.0 in let field = free.1 in let clear = free.2 in let nobody : old / 256 ≡ 0 = omega (arith, low, high, field) in
      chooses Place (RwSemMoves k) slots id count_at old (old + 1) me (TakenUnqueued o (step slots count_at old (old + 1) none) me)
      (λ ws vs h at found. let r = h.1.site_holds in let hs : List Hand = map hand_of vs in let ps : List CountPart = map (count_part bias_of) vs in let mine = at_map hand_of vs id v at in let mine' = at_map (count_part bias_of) vs id v at in
      let c = subst (λ (z : ℕ). CountKept z (more_in k ws vs) ps) found (sem-count o size k ws vs h).0 in let g : Hand = took v.hand Alone (take size (site k ws).guarded) r.log in
      let alones = alone-parts bias_of vs in let helds = held-parts bias_of vs in let wr = c.writer in let f = c.field in let none_alone : total alone_of hs ≡ 0 = omega (arith, alones, wr, even) in let none_held : total held_of hs ≡ 0 = omega (arith, helds, wr, f, even, nobody) in let ok = r.each id v.hand mine in (
        based biased v g Clear,
        refl,
        sem-counted o size k ws vs id (old + 1) v g Clear h at record { numbered = numbered; task = refl; goes = (record { misses = omega arith; freed = λ e. refl; takes = omega arith; comes = λ l. omega (arith, l) }, refl, refl); left = λ held. absurd (held out) } (inl (refl, inl (refl, refl)))
            (ap (λ (s : SemHand). s.wait) apart, omega arith, refl, ap (λ (s : SemHand). s.rest) apart, ap (λ (s : SemHand). s.stage) apart, clear_wake, (let e = ap (λ (s : SemHand). transit_weight s.bias) apart in omega (arith, e)))
            (subst (λ (z : ℕ). CountMove z (old + 1) (count_part bias_of v) (part g Clear)) (sym found) record { flags = omega (arith, even); writer = λ x y. clear; lone = λ x y. nobody; reader = λ e. alone-shared e; bias = inr (inl refl) })
            (count-writes ps id (count_part bias_of v) (part g Clear) mine' old (old + 1) (more_in k ws vs) c nobody even (omega (arith, even)) (omega (arith, low, nobody, even, clear)) out refl (sym (ap (λ (s : SemHand). s.bias) apart)))
            (site-takes o counted size k (site k ws) hs id t v.hand Alone r mine out has (λ e. no-alone (sym e)) (λ _. none_held) none_alone),
        (
          (λ _. (take size (site k ws).guarded, r.log, (λ p plan. subst (λ (z : Plan). Learns o z v.hand (take size (site k ws).guarded) r.log) (its-plan k p v.hand.plan ok.plan plan) record { stored = quiet-state o counted size k (site k ws) hs r none_alone; within = r.tells.within; begins = ok.seen }), (refl, refl))),
          λ not. absurd (not refl),
        ),
      ))
      (λ ws vs h at not _. let s = saw-there me ws vs id h at numbered out apart in (s.0, s.1, s.2, ((λ is. absurd (not is)), λ _. s.3)))

module _ {k : Plan} {table seat seat' : TableId} {me me' : Me (Unit {0}) (Seen RwSemHand)} {face face' : Face} where
  -- the pass goes on with its seat
  pub sits-unqueued : (word : ℕ) → SeenUnqueued (unseen me) word (unseen me') → seat' ≡ seat → face' ≡ face → Sits k table seat me face → Sits k table seat' me' face'
  sits-unqueued word told same says r = unlocked-or-not word
      (λ free. let turn = told.1 free in sits-on same turn.1 (ap (λ (v : V). v.hand) turn.0) (let n = ap (λ (v : V). v.steps) turn.0 in omega (arith, n)) says r)
      (λ shut. let turn = told.2 shut in sits-missed word (me.0.view.steps + 1) (me.0.view.steps + 1) me.0.view.ext turn.0 (omega arith) told.0 same turn.1 says r)

-- what a step tells of the word that a try saw
pub saw-unqueued : (me me' : Me (Unit {0}) V) (n : ℕ) → SeenUnqueued me n me' → SawUnqueued me.0 n me'.0
saw-unqueued me me' n told = record { step = me.0.steps; later = omega arith; lawful = told.0; on = λ free. (told.1 free).0; fails = λ shut. (told.2 shut).0 }

-- one more look, after one at a word that could be had
pub unqueued-again : (v w u : V) (n m : ℕ) → SawUnqueued v n w → IsUnlocked n → SawUnqueued w m u → SawUnqueued v m u
unqueued-again v w u n m saw free next = go w (saw.on free) next
  where
    go : (z : V) → z ≡ record v { steps = saw.step + 1 } → SawUnqueued z m u → SawUnqueued v m u
    go z is x = let y : SawUnqueued (record v { steps = saw.step + 1 }) m u = subst (λ (q : V). SawUnqueued q m u) is x in let a = saw.later in let b = y.later in record { step = y.step; later = omega (arith, a, b); lawful = y.lawful; on = y.on; fails = y.fails }

-- a lawful count that isn't free is unavailable to a writer
pub shut-count : (word : ℕ) (free : Bool) → IsTrue free ↔ IsUnlocked word → free ≡ false → IsLawfulCount word → unavailable semaphore false word
shut-count word free says shut lawful = (lawful, λ zero. absurd (let e = ap bit (sym shut ∙ says.1 (subst (λ (n : ℕ). IsUnlocked n) (sym zero) (refl, refl, refl))) in omega (arith, e)))

-- a try that failed, as callers of any lock see it
pub misses-tried : (fronts fronts' : ℕ) (v u : V) (p q : List Moment) (word : ℕ) → fronts ≤ fronts' → MissesSince v word u → OnlyTried (shown line_of fronts v p) (shown line_of fronts' u q)
misses-tried fronts fronts' v u p q word more m = let later = m.1 in let is = m.2 in let steps = ap (λ (z : V). z.steps) is in let misses = ap (λ (z : V). z.hand.misses) is in let entries = ap (λ (z : V). z.spin.entries) is in let appends = ap (λ (z : V). z.ext.appends) is in record {
  keeps = record {
    task = ap (λ (z : V). z.hand.task) is;
    done = ap (λ (z : V). z.hand.done) is;
    seen = ap (λ (z : V). z.hand.seen) is;
    records = ap (λ (z : V). z.hand.records) is;
    sent = ap (λ (z : V). z.hand.sent) is;
    last = ap (λ (z : V). z.hand.last) is;
    counts = record { steps = omega (arith, steps, later); misses = omega (arith, misses); entries = omega (arith, entries); fronts = more; appends = omega (arith, appends) };
  };
  consumed = ap (λ (z : V). z.hand.consumed) is;
  takes = ap (λ (z : V). z.hand.takes) is;
  freed = ap (λ (z : V). z.hand.freed) is;
}
