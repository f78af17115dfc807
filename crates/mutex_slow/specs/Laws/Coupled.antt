-- Each kind of step keeps the facts that couple the owner word, the list and the passes.
use Rattle.std.proofs.Common.{◌≡◌, ◌≢◌, ℕ, zero, suc, ◌+◌, ◌-◌, ◌*◌, ◌/◌, ◌%◌, ◌<◌, ◌≤◌, ◌==◌, ◌⊎◌, inl, inr, Bool, true, false, List, [], ◌∷◌, ◌++◌, length, set, Option, Some, None, sym, refl, ap}
use Rattle.std.proofs.Common.{◌∙◌, subst, arith, eq-eqb, ne_eqb, if◌then◌else◌, ⊎_elim, length-append}
use mathlib.Core.Option.{some, some-injective, some-ne-none}
use mathlib.Core.Logic.{dite}
use native.Mathlib.Decide.{ℕ_discrete}
use lib.ListN.{get_elem?}
use Rattle.lock_core.specs.Views.{SpinStays, forgot, handed, seated, is_number}
use Rattle.lock_core.specs.SpinFrames.{when}
use Rattle.lock_core.specs.Spins.{spun, holds_in}
use Rattle.lock_core.specs.Totals.{total, total-set, total-same, total-snoc, total-at}
use Rattle.lock_core.specs.ViewParts.{each-set, each-snoc}
use Rattle.lock_core.proofs.HandLaws.{not-both, is_number-here, is_number-else}
use Rattle.lock_core.proofs.RowLaws.{none-some, same-some}
use Rattle.mutex_word.specs.declared.host.Turn.TheVariants.{Hand as HandOn}
use Rattle.mutex_word.specs.Holders.{turns}
use Rattle.wait_list.specs.Laws.List.{holds-or-not}
use Rattle.wait_list.specs.Lists.{first_code, counted, without, listed}
use Rattle.wait_list.proofs.Waiters.{counted-append, counted-without-own, counted-without-other, counted-here, counted-else, length-without, first-without}
use Rattle.wake_duty.specs.DutyWakes.{waits, duty_of}
use Rattle.wake_duty.specs.Laws.Wake.{waits-failing}
use Rattle.lock_core.specs.Records.{bit}
use Rattle.mutex_slow.specs.Mutexes.{V, idle, point_weight, point_of, queued_of, HasLock, IsOut, Flagged, SeatOk, Coupled, turned, with_list}
use Rattle.mutex_slow.specs.Types.{Hand, SpinHand, Fail, Take, Ask, Free, Flag, Clear, Waiter, Enter, Leave, ListHand, WakeHand, NoDuty, Owing, MutexHand, Point, Rest, Joins, Empties}

-- no point is another
pub rest-joins : {P : Type 0} → Rest ≡ Joins → P
rest-joins e = let w : point_weight Rest ≡ point_weight Joins = ap point_weight e in absurd (omega (arith, w))

pub rest-empties : {P : Type 0} → Rest ≡ Empties → P
rest-empties e = let w : point_weight Rest ≡ point_weight Empties = ap point_weight e in absurd (omega (arith, w))

joins-empties : {P : Type 0} → Joins ≡ Empties → P
joins-empties e = absurd cc

-- a list has a first waiter exactly where it isn't empty
first-some : (l : List Waiter) → 0 < length l → 0 < first_code l
first-some [] lo = absurd (omega (arith, lo))
first-some (w ∷ l) lo = omega arith

pub first-none : (l : List Waiter) → 0 < first_code l → 0 < length l
first-none [] lo = absurd (omega (arith, lo))
first-none (w ∷ l) lo = omega arith

first-append : (l : List Waiter) (w : Waiter) → 0 < length l → first_code (l ++ w ∷ []) ≡ first_code l
first-append [] w lo = absurd (omega (arith, lo))
first-append (x ∷ l) w lo = refl

first-only : (l : List Waiter) (w : Waiter) → length l ≡ 0 → first_code (l ++ w ∷ []) ≡ w.task + 1
first-only [] w none = refl
first-only (x ∷ l) w none = absurd (omega (arith, none))

-- the one waiter of a list is its first
only-first : (t : ℕ) (l : List Waiter) → 0 < counted t l → length l ≡ 1 → first_code l ≡ t + 1
only-first t [] there one = absurd (omega (arith, there))
only-first t (w ∷ []) there one = dite (ℕ_discrete w.task t) (λ e. omega (arith, e)) (λ not. let c = counted-else w [] t not in absurd (omega (arith, c, there)))
only-first t (w ∷ x ∷ l) there one = absurd (omega (arith, one))

set-there : (vs : List V) (id : ℕ) (v u : V) → get_elem? vs id ≡ some v → get_elem? (set vs id u) id ≡ some u
set-there [] id v u at = absurd (some-ne-none v (sym at))
set-there (x ∷ vs) zero v u at = refl
set-there (x ∷ vs) (suc id) v u at = set-there vs id v u at

no-points : (vs : List V) → (total point_of vs ≡ 0) → (j : ℕ) (w : V) → get_elem? vs j ≡ some w → point_of w ≡ 0
no-points vs none j w at = let t = total-at point_of vs j w at in omega (arith, t, none)

first-counted : (t : ℕ) (l : List Waiter) → first_code l ≡ t + 1 → 0 < counted t l
first-counted t [] e = absurd (omega (arith, e))
first-counted t (w ∷ l) e = let c = counted-here w l t (omega (arith, e)) in omega (arith, c)

all-zero : (f : V → ℕ) (vs : List V) → ((j : ℕ) (w : V) → get_elem? vs j ≡ some w → f w ≡ 0) → total f vs ≡ 0
all-zero f [] each = refl
all-zero f (v ∷ vs) each = let a = each 0 v refl in let b = all-zero f vs (λ j w at. each (suc j) w at) in omega (arith, a, b)

all-rest : (vs : List V) → ((j : ℕ) (w : V) → get_elem? vs j ≡ some w → point_of w ≡ 0) → total point_of vs ≡ 0
all-rest [] each = refl
all-rest (v ∷ vs) each = let a = each 0 v refl in let b = all-rest vs (λ j w at. each (suc j) w at) in omega (arith, a, b)

point-rest : (p : Point) → point_weight p ≡ 0 → p ≡ Rest
point-rest Rest e = refl
point-rest Joins e = absurd (omega (arith, e))
point-rest Empties e = absurd (omega (arith, e))

pub rest-weighs : (p : Point) → p ≡ Rest → point_weight p ≡ 0
rest-weighs p e = ap point_weight e

pub point-cases : (p : Point) {P : Type 0} → (p ≡ Rest → P) → (p ≡ Joins → P) → (p ≡ Empties → P) → P
point-cases Rest a b c = a refl
point-cases Joins a b c = b refl
point-cases Empties a b c = c refl

-- a pass has the wait lock or doesn't
pub locked-free : (v : V) {P : Type 0} → holds_in v.spin ≡ 0 → HasLock v → P
locked-free v out has = absurd (omega (arith, out, has))

-- a pass stands at a point only while it has the spin lock
pub point-held : (n : ℕ) (l : List Waiter) (v : V) → SeatOk n l v → holds_in v.spin ≡ 0 → point_of v ≡ 0
point-held n l v ok out = point-cases v.ext.point (λ e. ap point_weight e) (λ e. locked-free v out (ok.joins e).0) (λ e. locked-free v out (ok.empties e).0)

-- nobody has two passes with its number, and only one has the spin lock
pub record Apart (vs : List V) (id : ℕ) (v : V) : Type 0 where
  pub numbers : (j t : ℕ) (w : V) → get_elem? vs j ≡ some w → j ≢ id → v.hand.task ≡ Some t → w.hand.task ≡ Some t → ⊥
  pub locks : (j : ℕ) (w : V) → get_elem? vs j ≡ some w → j ≢ id → HasLock v → holds_in w.spin ≡ 0

module _ (n : ℕ) (l : List Waiter) (vs : List V) (id : ℕ) (v : V) (r : Coupled n l vs) (at : get_elem? vs id ≡ some v) where
  mine : SeatOk n l v
  mine = r.each id v at

  -- a pass that has the spin lock and rests: nobody stands at a point
  pub flagged : Apart vs id v → HasLock v → v.ext.point ≡ Rest → Flagged n l
  flagged apart has rest = r.flags (all-rest vs (λ j w at'. dite (ℕ_discrete j id)
      (λ is. let e : w ≡ v = some-injective w v (sym at' ∙ (ap (get_elem? vs) is ∙ at)) in ap point_of e ∙ ap point_weight rest)
      (λ not. point-held n l w (r.each j w at') (apart.locks j w at' not has))))

  -- a step that leaves the word, the list and what the pass is in them
  pub coupled-stays : (u : V) → SeatOk n l u → ((t : ℕ) → queued_of t u ≡ queued_of t v) → u.ext.point ≡ v.ext.point → Coupled n l (set vs id u)
  coupled-stays u ok queued point = record {
    places = λ t. r.places t ∙ sym (total-same (queued_of t) vs id v u at (queued t));
    flags = λ none. r.flags (sym (total-same point_of vs id v u at (ap point_weight point)) ∙ none);
    picked = r.picked;
    each = each-set (SeatOk n l) (SeatOk n l) vs id u ok (λ j w _ _ ok. ok) r.each;
  }

  seat-same : (h : Hand) → h.task ≡ v.hand.task → SeatOk n l (handed v h)
  seat-same h e = record {
    joins = λ p. let k = mine.joins p in (k.0, (k.1.0, e ∙ k.1.1, k.1.2), k.2, k.3, k.4);
    empties = mine.empties;
    first = λ f. let k = mine.first f in (k.0, e ∙ k.1, k.2);
    failed = λ has stamp t is. mine.failed has stamp t (sym e ∙ is);
    past = mine.past;
    leaver = λ some. let k = mine.leaver some in (k.0, e ∙ k.1, k.2);
    named = λ none. mine.named (sym e ∙ none);
    waits = mine.waits;
  }

  -- it has this hand, and knows this of wakes
  abbrev pub waking : Hand → WakeHand → V
  waking h b = record v { hand = h; steps = v.steps + 1; ext = record v.ext { wake = b } }

  seat-waking : (h : Hand) (b : WakeHand) → h.task ≡ v.hand.task → b.wait_state ≡ v.ext.wake.wait_state → SeatOk n l (waking h b)
  seat-waking h b e same = record {
    joins = λ p. let k = mine.joins p in (k.0, (k.1.0, e ∙ k.1.1, k.1.2), k.2, k.3, same ∙ k.4);
    empties = mine.empties;
    first = λ f. let k = mine.first f in (k.0, e ∙ k.1, k.2);
    failed = λ has stamp t is. mine.failed has stamp t (sym e ∙ is);
    past = mine.past;
    leaver = λ some. let k = mine.leaver some in (k.0, e ∙ k.1, k.2);
    named = λ none. mine.named (sym e ∙ none);
    waits = mine.waits ∙ sym (ap waits same);
  }

  pub coupled-wakes : (h : Hand) (b : WakeHand) → h.task ≡ v.hand.task → b.wait_state ≡ v.ext.wake.wait_state → Coupled n l (set vs id (waking h b))
  coupled-wakes h b e same = coupled-stays (waking h b) (seat-waking h b e same) (λ t. ap (λ (z : Option ℕ). when v.ext.queued (is_number t z)) e) refl

  -- the hand changes, and keeps its number, or the pass is out of everything
  pub coupled-hands : (h : Hand) → (h.task ≡ v.hand.task) ⊎ IsOut v → Coupled n l (set vs id (handed v h))
  coupled-hands h same = ⊎_elim
      (λ (e : h.task ≡ v.hand.task). coupled-stays (handed v h) (seat-same h e) (λ t. ap (λ (z : Option ℕ). when v.ext.queued (is_number t z)) e) refl)
      (λ (q : IsOut v). coupled-stays (handed v h) record {
        joins = λ p. rest-joins (sym q.1 ∙ p);
        empties = λ p. rest-empties (sym q.1 ∙ p);
        first = λ f. not-both v.ext.first q.2 f;
        failed = λ has stamp t is low. let f = q.4 has in absurd (omega (arith, f, stamp));
        past = mine.past;
        leaver = λ some. absurd (some q.3);
        named = λ _. q;
        waits = mine.waits;
      } (λ t. (λ i. when (q.0 i) (is_number t h.task)) ∙ sym (λ i. when (q.0 i) (is_number t v.hand.task))) refl)
      same

  -- the spin lock is taken or released
  pub coupled-spins : (s : SpinHand) → s.entries ≡ v.spin.entries + (holds_in s - holds_in v.spin) → (HasLock v → holds_in s ≡ 0 → v.ext.point ≡ Rest) → Coupled n l (set vs id (spun v s))
  coupled-spins s goes may = let past = mine.past in
      let held : point_of v ≢ 0 → HasLock v → holds_in s ≡ 1 = λ some has. holds-or-not s (λ t. t) (λ f. absurd (some (ap point_weight (may has f)))) in
      let back : v.ext.failed ≡ s.entries → holds_in s ≡ 1 → HasLock v = λ stamp has. holds-or-not v.spin (λ t. t) (λ f. absurd (omega (arith, stamp, has, f, goes, past))) in
      coupled-stays (spun v s) record {
        joins = λ p. let k = mine.joins p in (held (λ z. let w = ap point_weight p in omega (arith, w, z)) k.0, k.1, k.2, k.3, k.4);
        empties = λ p. let k = mine.empties p in (held (λ z. let w = ap point_weight p in omega (arith, w, z)) k.0, k.1, k.2, k.3);
        first = mine.first;
        failed = λ has stamp. let had = back stamp has in mine.failed had (omega (arith, stamp, has, had, goes));
        past = omega (arith, goes, past);
        leaver = mine.leaver;
        named = λ none. let q = mine.named none in (q.0, q.1, q.2, q.3, λ has. holds-or-not v.spin (λ t. let f = q.4 t in omega (arith, goes, f, t, has)) (λ f. omega (arith, goes, f, has, past)));
        waits = mine.waits;
      } (λ t. refl) refl

  -- so may what it saw of the spin word
  pub coupled-seats : (h : Hand) (s : SpinHand) → SpinStays v.spin s → (h.task ≡ v.hand.task) ⊎ IsOut v → Coupled n l (set vs id (seated v h s))
  coupled-seats h s stays same = let c = coupled-hands h same in coupled-same c
    where
      moved : SeatOk n l (handed v h) → SeatOk n l (seated v h s)
      moved ok = ⊎_elim
          (λ (e : s ≡ v.spin). subst (λ (x : SpinHand). SeatOk n l (seated v h x)) (sym e) ok)
          (λ (e : s ≡ forgot v.spin). subst (λ (x : SpinHand). SeatOk n l (seated v h x)) (sym e)
          (record { joins = ok.joins; empties = ok.empties; first = ok.first; failed = ok.failed; past = ok.past; leaver = ok.leaver; named = ok.named; waits = ok.waits }))
          stays

      coupled-same : Coupled n l (set vs id (handed v h)) → Coupled n l (set vs id (seated v h s))
      coupled-same c = let ok = c.each id (handed v h) (set-there vs id v (handed v h) at) in
          coupled-stays (seated v h s) (moved ok) (λ t. ⊎_elim (λ (e : h.task ≡ v.hand.task). ap (λ (z : Option ℕ). when v.ext.queued (is_number t z)) e)
          (λ (q : IsOut v). (λ i. when (q.0 i) (is_number t h.task)) ∙ sym (λ i. when (q.0 i) (is_number t v.hand.task))) same) refl

  module _ (apart : Apart vs id v) where
    -- beside the one with the spin lock nobody is bound by the words
    beside : (n' : ℕ) (l' : List Waiter) → HasLock v → ((j t : ℕ) (w : V) → get_elem? vs j ≡ some w → j ≢ id → w.hand.task ≡ Some t → first_code l ≡ t + 1 → first_code l' ≡ t + 1) → (j : ℕ) (w : V)
        → j ≢ id → get_elem? vs j ≡ some w → SeatOk n l w → SeatOk n' l' w
    beside n' l' has stays j w other at' ok = let out = apart.locks j w at' other has in let rest = point-rest w.ext.point (point-held n l w ok out) in record {
      joins = λ p. rest-joins (sym rest ∙ p);
      empties = λ p. rest-empties (sym rest ∙ p);
      first = λ f. let k = ok.first f in (k.0, k.1, stays j k.0 w at' other k.1 k.2);
      failed = λ has'. locked-free w out has';
      past = ok.past;
      leaver = ok.leaver;
      named = ok.named;
      waits = ok.waits;
    }

    -- a word that keeps its flags, of which none picks
    same-flags : (m : ℕ) → m % 8 ≡ n % 8 → m % 8 < 4 → (w : V) → SeatOk n l w → SeatOk m l w
    same-flags m flags low w ok = record {
      joins = λ p. let k = ok.joins p in (k.0, k.1, k.2, flags ∙ k.3, k.4);
      empties = λ p. let k = ok.empties p in let q = k.2 in (k.0, k.1, omega (arith, q, flags), low);
      first = ok.first;
      failed = λ _ _ t _ high. absurd (omega (arith, low, high));
      past = ok.past;
      leaver = ok.leaver;
      named = ok.named;
      waits = ok.waits;
    }

    -- the flags stay
    flags-stay : (m : ℕ) (h : Hand) (t : Rattle.mutex_word.specs.declared.host.Turn.Turn) → m % 8 ≡ n % 8 → m % 8 < 4 → h.task ≡ v.hand.task → (b : WakeHand) → b.wait_state ≡ v.ext.wake.wait_state
        → turned t v ≡ record v.ext { wake = b } → Coupled m l (set vs id (turns turned t v h))
    flags-stay m h t flags low task b same ext = subst (λ (e : MutexHand). Coupled m l (set vs id (record v { hand = h; steps = v.steps + 1; ext = e }))) (sym ext)
        (let c = coupled-wakes h b task same in let ok = c.each in record {
          places = c.places;
          flags = λ none. let f = c.flags none in record { some = λ some. let s = f.some some in omega (arith, s, flags); none = λ z. flags ∙ f.none z };
          picked = λ high. absurd (omega (arith, low, high));
          each = λ j w at'. same-flags m flags low w (ok j w at');
        })

    -- a try fails
    pub coupled-fails : (t : ℕ) → v.hand.task ≡ Some t → (4 ≤ n % 8 → n / 8 ≢ t + 1) → v.ext.point ≡ Rest → (h : Hand) → h.task ≡ v.hand.task → Coupled n l (set vs id (turns turned Fail v h))
    coupled-fails t has not rest h task = coupled-stays (turns turned Fail v h) record {
      joins = λ p. rest-joins (sym rest ∙ p);
      empties = mine.empties;
      first = λ f. let k = mine.first f in (k.0, task ∙ k.1, k.2);
      failed = λ _ _ u is. let e = same-some t u (sym has ∙ (sym task ∙ is)) in λ high z. not high (omega (arith, z, e));
      past = omega arith;
      leaver = λ some. let k = mine.leaver some in (k.0, task ∙ k.1, k.2);
      named = λ none. none-some t (sym (sym task ∙ none) ∙ has);
      waits = mine.waits ∙ sym (waits-failing (holds_in v.spin) v.spin.entries v.ext.wake);
    } (λ t. ap (λ (z : Option ℕ). when v.ext.queued (is_number t z)) task) refl

    -- a try takes a word that names nobody
    pub coupled-takes-free : (t m : ℕ) (h : Hand) → n < 8 → n < 2 → m ≡ 8 * (t + 1) + n → h.task ≡ v.hand.task → Coupled m l (set vs id (turns turned Take v h))
    coupled-takes-free t m h free few is task = flags-stay m h Take (omega (arith, is, few)) (omega (arith, is, few)) task (record v.ext.wake { duty = NoDuty }) refl refl

    -- a release to the flags
    pub coupled-frees : (m : ℕ) (h : Hand) → n % 8 < 2 → m ≡ n % 8 → h.task ≡ v.hand.task → Coupled m l (set vs id (turns turned Free v h))
    coupled-frees m h few is task = flags-stay m h Free (omega (arith, is)) (omega (arith, is, few)) task (record v.ext.wake { duty = Owing }) refl refl

    -- the picked waiter takes
    pub coupled-takes-picked : (m : ℕ) (h : Hand) → 4 ≤ n % 8 → n % 8 < 6 → m + 4 ≡ n → h.task ≡ v.hand.task → Coupled m l (set vs id (turns turned Take v h))
    coupled-takes-picked m h high few is task = let c = coupled-wakes h (record v.ext.wake { duty = NoDuty }) task refl in record {
      places = c.places;
      flags = λ none. let f = c.flags none in record { some = λ some. let s = f.some some in omega (arith, s, is); none = λ z. let e = f.none z in absurd (omega (arith, e, high)) };
      picked = λ z. absurd (omega (arith, z, high, few, is));
      each = λ j w at'. let ok = c.each j w at' in record {
        joins = λ p. let k = ok.joins p in let q = k.3 in absurd (omega (arith, q, high));
        empties = λ p. let k = ok.empties p in let q = k.3 in absurd (omega (arith, q, high));
        first = ok.first;
        failed = λ _ _ t _ z. absurd (omega (arith, z, high, few, is));
        past = ok.past;
        leaver = ok.leaver;
        named = ok.named;
        waits = ok.waits;
      };
    }

    -- the first waiter asks
    pub coupled-asks : (m : ℕ) (h : Hand) → v.ext.first ≡ true → v.ext.point ≡ Rest → n % 8 < 2 → m ≡ n + 2 → h.task ≡ v.hand.task → Coupled m l (set vs id (turns turned Ask v h))
    coupled-asks m h first rest few is task = let c = coupled-hands h (inl task) in let me = mine.first first in let head = me.2 in let some : 0 < length l = first-none l (omega (arith, head)) in
        record {
          places = c.places;
          flags = λ none. let f = c.flags none in let s = f.some some in record { some = λ _. omega (arith, s, is, few); none = λ z. absurd (omega (arith, z, some)) };
          picked = λ z. absurd (omega (arith, z, few, is));
          each = each-set (SeatOk n l) (SeatOk m l) vs id (turns turned Ask v h) (bound (handed v h) (seat-same h task) rest) (λ j w other at' ok. bound w ok (other-rests j w other at' ok)) r.each;
        }
      where
        other-rests : (j : ℕ) (w : V) → j ≢ id → get_elem? vs j ≡ some w → SeatOk n l w → w.ext.point ≡ Rest
        other-rests j w other at' ok = point-cases w.ext.point (λ e. e)
            (λ e. let k = ok.joins e in let me = mine.first first in let same : k.1.0 ≡ me.0 = (let a = k.1.2 in let b = me.2 in omega (arith, a, b)) in
            absurd (apart.numbers j me.0 w at' other me.1 (k.1.1 ∙ ap Some same)))
            (λ e. let k = ok.empties e in let none = k.1 in let me = mine.first first in let head = me.2 in let some = first-none l (omega (arith, head)) in absurd (omega (arith, none, some)))

        bound : (w : V) → SeatOk n l w → w.ext.point ≡ Rest → SeatOk m l w
        bound w ok rest = record {
          joins = λ p. rest-joins (sym rest ∙ p);
          empties = λ p. rest-empties (sym rest ∙ p);
          first = ok.first;
          failed = λ _ _ t _ z. absurd (omega (arith, z, few, is));
          past = ok.past;
          leaver = ok.leaver;
          named = ok.named;
          waits = ok.waits;
        }

    queued-none : (t : ℕ) (task : Option ℕ) (b : Bool) → (task ≡ Some t → b ≡ false) → when b (is_number t task) ≡ 0
    queued-none t task false not = refl
    queued-none t None true not = refl
    queued-none t (Some u) true not = dite (ℕ_discrete u t) (λ is. not-both true (not (ap Some is)) refl) (λ other. is_number-else t u other)

    -- the task of a pass that isn't in the list has no place there
    pub not-in : v.ext.queued ≡ false → (t : ℕ) → v.hand.task ≡ Some t → counted t l ≡ 0
    not-in out t is = r.places t ∙ all-zero (queued_of t) vs (λ j w at'. queued-none t w.hand.task w.ext.queued (λ named. dite (ℕ_discrete j id)
        (λ same. let e : w ≡ v = some-injective w v (sym at' ∙ (ap (get_elem? vs) same ∙ at)) in ap (λ (z : V). z.ext.queued) e ∙ out)
        (λ other. absurd (apart.numbers j t w at' other is named))))

    -- and that of one that is there has one
    pub is-in : v.ext.queued ≡ true → (t : ℕ) → v.hand.task ≡ Some t → 0 < counted t l
    is-in there t is = let a = total-at (queued_of t) vs id v at in let b : queued_of t v ≡ 1 = (λ i. when (there i) (is_number t (is i))) ∙ is_number-here t in let c = r.places t in
        omega (arith, a, b, c)

    -- the holder hands over to the first waiter
    pub coupled-hands-over : (m : ℕ) (h : Hand) → HasLock v → v.ext.point ≡ Rest → n % 8 < 4 → (length l ≡ 0 → m ≡ n % 2) → (0 < length l → m ≡ 8 * first_code l + 4 + n % 2) → h.task ≡ v.hand.task
        → v.ext.queued ≡ false → Coupled m l (set vs id (turns turned HandOn v h))
    coupled-hands-over m h has rest few none_is some_is task out = let b : WakeHand = record v.ext.wake { duty = duty_of (first_code v.ext.list.list) } in let c = coupled-wakes h b task refl in
        let fl = flagged apart has rest in let u : V = turns turned HandOn v h in record {
          places = c.places;
          flags = λ _. record {
            some = λ lo. let a = fl.some lo in let b = some_is lo in omega (arith, a, b);
            none = λ z. let a = fl.none z in let b = none_is z in omega (arith, a, b);
          };
          picked = λ high. elim (native.Mathlib.Decide.dec_le (length l) 0) [
            | yes z ↦ let b = none_is (omega (arith, z)) in absurd (omega (arith, b, high))
            | no lo ↦ let b = some_is (omega (arith, lo)) in omega (arith, b)
          ];
          each = each-set (SeatOk n l) (SeatOk m l) vs id u (let ok = seat-waking h (record v.ext.wake { duty = duty_of (first_code v.ext.list.list) }) task refl in record {
            joins = λ p. rest-joins (sym rest ∙ p);
            empties = λ p. rest-empties (sym rest ∙ p);
            first = ok.first;
            failed = λ _ _ t is high. not-first t (sym task ∙ is);
            past = ok.past;
            leaver = ok.leaver;
            named = ok.named;
            waits = ok.waits;
          }) (λ j w other at' ok. beside m l has (λ j t w at' other is e. e) j w other at' ok) r.each;
        }
      where
        not-first : (t : ℕ) → v.hand.task ≡ Some t → m / 8 ≢ t + 1
        not-first t is e = let c = not-in out t is in let f = elim (native.Mathlib.Decide.dec_le (length l) 0) as
            (λ _. m / 8 ≡ first_code l ⊎ (length l ≡ 0)) [ yes z ↦ inr (omega (arith, z)) | no lo ↦ inl (let b = some_is (omega (arith, lo)) in omega (arith, b)) ] in
            ⊎_elim (λ (q : m / 8 ≡ first_code l). let d = first-counted t l (sym q ∙ e) in omega (arith, c, d)) (λ (z : length l ≡ 0). let b = none_is z in omega (arith, b, e)) f

    -- the flag of the waiters is set
    pub coupled-flags : (m : ℕ) (h : Hand) → v.ext.point ≡ Joins → m ≡ n + 1 → h.task ≡ v.hand.task → Coupled m l (set vs id (turns turned Flag v h))
    coupled-flags m h joins is task = let k = mine.joins joins in let one = k.2 in let low = k.3 in let has = k.0 in let u : V = turns turned Flag v h in record {
      places = λ t. r.places t ∙ sym (total-same (queued_of t) vs id v u at (ap (λ (z : Option ℕ). when v.ext.queued (is_number t z)) task));
      flags = λ _. record { some = λ _. omega (arith, is, low); none = λ z. absurd (omega (arith, z, one)) };
      picked = λ high. absurd (omega (arith, high, is, low));
      each = each-set (SeatOk n l) (SeatOk m l) vs id u (let ok = seat-same h task in record {
        joins = λ p. rest-joins p;
        empties = λ p. rest-empties p;
        first = ok.first;
        failed = λ _ _ t _ high. absurd (omega (arith, high, is, low));
        past = ok.past;
        leaver = ok.leaver;
        named = λ none. let q = ok.named none in (q.0, refl, q.2, q.3, q.4);
        waits = ok.waits;
      }) (λ j w other at' ok. beside m l has (λ j t w at' other is e. e) j w other at' ok) r.each;
    }

    -- the flags are cleared
    pub coupled-clears : (m : ℕ) (h : Hand) → v.ext.point ≡ Empties → m + n % 8 ≡ n → h.task ≡ v.hand.task → Coupled m l (set vs id (turns turned Clear v h))
    coupled-clears m h empties is task = let k = mine.empties empties in let none = k.1 in let has = k.0 in let u : V = turns turned Clear v h in record {
      places = λ t. r.places t ∙ sym (total-same (queued_of t) vs id v u at (ap (λ (z : Option ℕ). when v.ext.queued (is_number t z)) task));
      flags = λ _. record { some = λ lo. absurd (omega (arith, lo, none)); none = λ _. omega (arith, is) };
      picked = λ high. absurd (omega (arith, high, is));
      each = each-set (SeatOk n l) (SeatOk m l) vs id u (let ok = seat-same h task in record {
        joins = λ p. rest-joins p;
        empties = λ p. rest-empties p;
        first = ok.first;
        failed = λ _ _ t _ high. absurd (omega (arith, high, is));
        past = ok.past;
        leaver = ok.leaver;
        named = λ none. let q = ok.named none in (q.0, refl, q.2, q.3, q.4);
        waits = ok.waits;
      }) (λ j w other at' ok. beside m l has (λ j t w at' other is e. e) j w other at' ok) r.each;
    }

    -- a waiter enters
    module _ (w : Waiter) (b : ListHand) (has : HasLock v) (is : v.hand.task ≡ Some w.task) (out : v.ext.queued ≡ false) (rest : v.ext.point ≡ Rest) (list : b.list ≡ l ++ w ∷ [])
        (leaver : b.leaver ≡ 0) where
      abbrev u : V
      u = listed with_list (Enter w) v b

      abbrev joined : Point
      joined = if length b.list == 1 then Joins else Rest

      long : length b.list ≡ length l + 1
      long = let e = ap length list in let n = length-append l (w ∷ []) in omega (arith, e, n)

      now-joins : length l ≡ 0 → joined ≡ Joins
      now-joins z = ap (λ (c : Bool). if c then Joins else Rest) (eq-eqb (length b.list) 1 (let n = long in omega (arith, z, n)))

      now-rests : 0 < length l → joined ≡ Rest
      now-rests lo = ap (λ (c : Bool). if c then Joins else Rest) (ne_eqb (length b.list) 1 (λ e. let n = long in omega (arith, e, n, lo)))

      abbrev l' : List Waiter
      l' = l ++ w ∷ []

      pub coupled-enters : Coupled n l' (set vs id u)
      coupled-enters = let fl = flagged apart has rest in let n1 : length l' ≡ length l + 1 = length-append l (w ∷ []) in record {
        places = λ t. let a = r.places t in let c = counted-append t l w in let s = total-set (queued_of t) vs id v u at in
            let d : queued_of t v ≡ 0 = ap (λ (c : Bool). when c (is_number t v.hand.task)) out in
            let e : queued_of t u ≡ counted t (w ∷ []) = ap (is_number t) is ∙ number-counted t in omega (arith, a, c, s, d, e);
        flags = λ none. elim (native.Mathlib.Decide.dec_le (length l) 0) [
          | yes z ↦ let s = total-at point_of (set vs id u) id u (set-there vs id v u at) in let e : point_of u ≡ 1 = ap point_weight (now-joins (omega (arith, z))) in
              absurd (omega (arith, s, e, none))
          | no lo ↦ let some_l : 0 < length l = omega (arith, lo) in let f = fl.some some_l in record { some = λ _. f; none = λ z. absurd (omega (arith, z, n1)) }
        ];
        picked = λ high. let e = r.picked high in elim (native.Mathlib.Decide.dec_le (length l) 0) [
          | yes z ↦ let f = fl.none (omega (arith, z)) in absurd (omega (arith, f, high))
          | no lo ↦ e ∙ sym (first-append l w (omega (arith, lo)))
        ];
        each = each-set (SeatOk n l) (SeatOk n l') vs id u record {
          joins = λ p. let z : length l ≡ 0 = elim (native.Mathlib.Decide.dec_le (length l) 0) [ yes z ↦ omega (arith, z) | no lo ↦ rest-joins (sym (now-rests (omega (arith, lo))) ∙ p) ] in
              (has, (w.task, is, first-only l w z), omega (arith, z, n1), fl.none z, refl);
          empties = λ p. elim (native.Mathlib.Decide.dec_le (length l) 0)
              [ yes z ↦ joins-empties (sym (now-joins (omega (arith, z))) ∙ p) | no lo ↦ rest-empties (sym (now-rests (omega (arith, lo))) ∙ p) ];
          first = λ f. not-both false refl f;
          failed = mine.failed;
          past = mine.past;
          leaver = λ some_l. absurd (some_l leaver);
          named = λ none. none-some w.task (sym none ∙ is);
          waits = refl;
        } (λ j x other at' ok. beside n l' has (λ j t x at' other named e. first-append l w (first-none l (omega (arith, e))) ∙ e) j x other at' ok) r.each;
      }
        where
          number-counted : (t : ℕ) → is_number t (Some w.task) ≡ counted t (w ∷ [])
          number-counted t = omega arith

    -- a waiter leaves that isn't picked
    module _ (t : ℕ) (b : ListHand) (has : HasLock v) (is : v.hand.task ≡ Some t) (there : v.ext.queued ≡ true) (rest : v.ext.point ≡ Rest) (unpicked : 4 ≤ n % 8 → n / 8 ≢ t + 1)
        (list : b.list ≡ without t l) (leaver : b.leaver ≡ t + 1) where
      abbrev x : V
      x = listed with_list (Leave t) v b

      abbrev left : Point
      left = if length b.list == 0 then Empties else Rest

      abbrev m : List Waiter
      m = without t l

      long' : length b.list + 1 ≡ length l
      long' = let e = ap length list in let c = length-without t l (is-in there t is) in omega (arith, e, c)

      now-empty : length l ≡ 1 → left ≡ Empties
      now-empty z = ap (λ (c : Bool). if c then Empties else Rest) (eq-eqb (length b.list) 0 (let k = long' in omega (arith, z, k)))

      still-some : 1 < length l → left ≡ Rest
      still-some lo = ap (λ (c : Bool). if c then Empties else Rest) (ne_eqb (length b.list) 0 (λ e. let k = long' in omega (arith, e, k, lo)))

      pub coupled-leaves : Coupled n m (set vs id x)
      coupled-leaves = let fl = flagged apart has rest in let inside = is-in there t is in let n1 = length-without t l inside in let some_l : 0 < length l = omega (arith, n1) in
          let w1 = fl.some some_l in record {
            places = λ y. let a = r.places y in let s = total-set (queued_of y) vs id v x at in let d : queued_of y v ≡ is_number y (Some t) = λ i. when (there i) (is_number y (is i)) in
                dite (ℕ_discrete y t)
                (λ same. let c = counted-without-own t l inside in let e1 = ap (λ (z : ℕ). counted z m) same in let e2 = ap (λ (z : ℕ). counted z l) same in
                let e3 : is_number y (Some t) ≡ 1 = ap (λ (z : ℕ). is_number y (Some z)) (sym same) ∙ is_number-here y in omega (arith, a, s, d, c, e1, e2, e3))
                (λ not. let c = counted-without-other t y l not in let e3 = is_number-else y t (λ z. not (sym z)) in omega (arith, a, s, d, c, e3));
            flags = λ none. elim (native.Mathlib.Decide.dec_le (length l) 1) [
              | yes z ↦ let s = total-at point_of (set vs id x) id x (set-there vs id v x at) in let e : point_of x ≡ 1 = ap point_weight (now-empty (omega (arith, z, some_l))) in
                  absurd (omega (arith, s, e, none))
              | no lo ↦ record { some = λ _. w1; none = λ z. absurd (omega (arith, z, n1, lo)) }
            ];
            picked = λ high. let e = r.picked high in e ∙ sym (first-without t l (λ f. unpicked high (e ∙ f)));
            each = each-set (SeatOk n l) (SeatOk n m) vs id x record {
              joins = λ p. elim (native.Mathlib.Decide.dec_le (length l) 1)
                  [ yes z ↦ joins-empties (sym p ∙ now-empty (omega (arith, z, some_l))) | no lo ↦ rest-joins (sym (still-some (omega (arith, lo))) ∙ p) ];
              empties = λ p. let one : length l ≡ 1 = elim (native.Mathlib.Decide.dec_le (length l) 1)
                  [ yes z ↦ omega (arith, z, some_l) | no lo ↦ rest-empties (sym (still-some (omega (arith, lo))) ∙ p) ] in (
                    has,
                    omega (arith, one, n1),
                    w1,
                    elim (native.Mathlib.Decide.dec_le 4 (n % 8))
                        [ yes high ↦ absurd (unpicked high (r.picked high ∙ only-first t l inside one)) | no low ↦ omega (arith, low) ],
                  );
              first = λ f. not-both false refl f;
              failed = mine.failed;
              past = mine.past;
              leaver = λ _. (t, is, leaver);
              named = λ none. none-some t (sym none ∙ is);
              waits = refl;
            } (λ j y other at' ok. beside n m has (λ j s y at' other named e. first-without t l (λ f. apart.numbers j t y at' other is (named ∙
                (let z : s ≡ t = omega (arith, e, f) in ap Some z))) ∙ e) j
                y other at' ok) r.each;
          }

pub idle-ok : (n : ℕ) (l : List Waiter) (v : V) → holds_in v.spin ≡ 0 → v.ext ≡ idle → SeatOk n l v
idle-ok n l v out ext = record {
  joins = λ p. rest-joins (ap (λ (z : MutexHand). z.point) (sym ext) ∙ p);
  empties = λ p. rest-empties (ap (λ (z : MutexHand). z.point) (sym ext) ∙ p);
  first = λ f. not-both v.ext.first (ap (λ (z : MutexHand). z.first) ext) f;
  failed = λ has. locked-free v out has;
  past = let e : v.ext.failed ≡ 0 = ap (λ (z : MutexHand). z.failed) ext in omega (arith, e);
  leaver = λ some. absurd (some (ap (λ (z : MutexHand). z.list.leaver) ext));
  named = λ _. (
    ap (λ (z : MutexHand). z.queued) ext,
    ap (λ (z : MutexHand). z.point) ext,
    ap (λ (z : MutexHand). z.first) ext,
    ap (λ (z : MutexHand). z.list.leaver) ext,
    λ has. locked-free v out has,
  );
  waits = ap (λ (z : MutexHand). bit z.queued) ext ∙ sym (ap (λ (z : MutexHand). waits z.wake.wait_state) ext);
}

pub coupled-opens : (v : V) → v.hand.task ≡ None → holds_in v.spin ≡ 0 → v.ext ≡ idle → Coupled 0 [] (v ∷ [])
coupled-opens v nameless out ext = record {
  places = λ t. let e : queued_of t v ≡ 0 = ap (λ (z : MutexHand). when z.queued (is_number t v.hand.task)) ext in omega (arith, e);
  flags = λ _. record { some = λ lo. absurd (omega (arith, lo)); none = λ _. refl };
  picked = λ high. absurd (omega (arith, high));
  each = each-snoc (SeatOk 0 []) [] v (idle-ok 0 [] v out ext) (λ j w e. absurd (some-ne-none w (sym e)));
}

pub coupled-snoc : (n : ℕ) (l : List Waiter) (vs : List V) (v : V) → Coupled n l vs → holds_in v.spin ≡ 0 → v.ext ≡ idle → Coupled n l (vs ++ v ∷ [])
coupled-snoc n l vs v r out ext = record {
  places = λ t. let a = r.places t in let b = total-snoc (queued_of t) vs v in let e : queued_of t v ≡ 0 = ap (λ (z : MutexHand). when z.queued (is_number t v.hand.task)) ext in
      omega (arith, a, b, e);
  flags = λ none. r.flags (let b = total-snoc point_of vs v in omega (arith, b, none));
  picked = r.picked;
  each = each-snoc (SeatOk n l) vs v (idle-ok n l v out ext) r.each;
}
