-- A history keeps the order in which its calls took effect.
use Rattle.std.proofs.Common.{◌≡◌, ◌≢◌, ℕ, zero, suc, ◌+◌, ◌*◌, ◌<◌, ◌≤◌, ◌⊎◌, inl, inr, ⊎_elim, Bool, true, false, cond, List, [], ◌∷◌, ◌++◌, length, drop, get_or, slice_get, Some, refl, sym, ap, ◌∙◌, subst, arith}
use Rattle.std.proofs.lemmas.Bool.{cases_lt}
use Rattle.std.proofs.lemmas.List.{length-drop, get_or-set_other}
use mathlib.Core.Logic.{dite}
use native.Mathlib.Decide.{ℕ_discrete}
use Rattle.word_bits.specs.RecWord.{rec_word}
use Rattle.word_bits.specs.LockWords.{Unavailable}
use Rattle.word_bits.specs.Objects.{Obj, IsObjectReply}
use Rattle.word_bits.specs.Histories.{Plan, Records, Event, at_entry, changes, logs, history}
use Rattle.lock_core.specs.Causes.{IsRecordedThen}
use Rattle.lock_core.specs.Kinds.{Kind, unavailable}
use Rattle.lock_core.specs.Layout.{site}
use Rattle.lock_core.specs.Linear.{IsLinearizationPoint, IsSimulationStep, LinearizesTo}
use Rattle.lock_core.specs.Locked.{IsLockedThen}
use Rattle.lock_core.specs.Orders.{record_in}
use Rattle.lock_core.specs.Pasts.{EachMoment, Tail}
use Rattle.lock_core.specs.Plans.{start}
use Rattle.lock_core.specs.Records.{bit, row, task_recs, rec_words}
use Rattle.lock_core.specs.Shown.{Shown}
use Rattle.lock_core.specs.Views.{Knows}
use Rattle.lock_core.proofs.Ascending.{keeps_step_order}
use Rattle.lock_core.proofs.Linearizing.{rest-last}
use Rattle.lock_core.proofs.Reading.{recs-next}
use Rattle.lock_core.proofs.RowLaws.{none-some, some-inside, get-front, get-behind, length-task_recs, task_recs-at}
use Rattle.guarded.specs.ObjectCopying.{AreKnown}
use Rattle.mm_report.specs.Orders.{IsEventOf, Before}
use Rattle.mm_report.proofs.Positions.{keeps_positions}
use Rattle.mm_serve.specs.MachinePasts.{KnowsPast}
use Rattle.mm_serve.specs.RealTimeOrder.{HasTakenEffect, TookEffectBefore, ReadAtOnePlace, KeepsRealTimeOrder, WasRecordedBefore, RecalledInRealTimeOrder}
use Rattle.mm_serve.specs.Types.{CallWords, Rec, Reply, Good, Num, Refused, MapErr, AccErr, Busy, Intr, Sent, Hand, Moment}

module _ {Call : Type 0} (o : Obj Call) (size : ℕ) (k : Plan) (new : Moment) where
  -- the past up to one of its moments is linear too, and began with the same moment
  linear_until : (i : ℕ) (past : List Moment) (late : Moment) (until : List Moment) (n : ℕ) (s : o.State) → LinearizesTo o size k past n s → Tail (new ∷ []) past → drop i past ≡ late ∷ until
      → ((m : ℕ) × (t : o.State) × LinearizesTo o size k (late ∷ until) m t) × Tail (new ∷ []) (late ∷ until)
  linear_until i [] late until n s linear began cut = absurd linear
  linear_until zero (y ∷ past) late until n s linear began cut = ((n, s, subst (λ (z : List Moment). LinearizesTo o size k z n s) cut linear), subst (Tail (new ∷ [])) cut began)
  linear_until (suc i) (y ∷ []) late until n s linear began cut = absurd (let l = ap length cut in omega (arith, l, length-drop (suc i) (y ∷ [])))
  linear_until (suc i) (y ∷ x ∷ past) late until n s linear began cut =
      let q = linear.1 in
      linear_until i (x ∷ past) late until q.0 q.1 q.3 (rest-last new y x past began) cut

module _ {Call : Type 0} (o : Obj Call) where
  -- a call that held is logged if it changes the object
  logs_served : (w : CallWords) (reply : Reply) → IsObjectReply reply → logs o w reply ≡ changes o w
  logs_served w Good is = refl
  logs_served w (Num n) is = refl
  logs_served w (Refused e) is = refl
  logs_served w MapErr is = refl
  logs_served w AccErr is = refl
  logs_served w (Busy word) is = absurd is
  logs_served w Intr is = absurd is
  logs_served w Sent is = absurd is

  -- a later place is a later position, unless both calls only read
  later_position : (p q : ℕ) (a b : Bool) → p + bit a ≤ q → (p * 2 + cond a 1 0 < q * 2 + cond b 1 0) ⊎ ((a ≡ false) × (b ≡ false) × (p ≡ q))
  later_position p q true b later = inl (one b)
    where
      one : (b : Bool) → p * 2 + 1 < q * 2 + cond b 1 0
      one true = omega (arith, later)
      one false = omega (arith, later)
  later_position p q false true later = inl (omega (arith, later))
  later_position p q false false later = two (cases_lt p q)
    where
      two : (p < q) ⊎ (q ≤ p) → (p * 2 + 0 < q * 2 + 0) ⊎ ((false ≡ false) × (false ≡ false) × (p ≡ q))
      two (inl less) = inl (omega (arith, less))
      two (inr not_less) = inr (refl, refl, omega (arith, later, not_less))

pub keeps_real_time_order : {Call : Type 0} (o : Obj Call) (u : Unavailable) → KeepsRealTimeOrder o u
keeps_real_time_order o u size k new past records log state first second linear is_new began legal is are order =
    let late = linear_until o size k new order.is_late.0 past order.late order.until linear.0 linear.1 linear.2 began order.is_late.1 in
    let later = keeps_step_order o size k new (order.late ∷ order.until) late.0 is_new late.1 order.is_early.0 order.early order.late order.before order.until refl order.is_early.1 first.entry.task first.entry.call second.entry.task second.entry.call first.words second.words first.told second.told order.first_has order.second_not_yet order.second_has in
    let logged = logs_served o first.words first.told.reply order.first_has.served in
    let follows = logs_served o second.words second.told.reply order.second_has.served in
    go (later_position o first.told.k second.told.k (changes o first.words) (changes o second.words) later) logged follows
  where
    go : (first.told.k * 2 + cond (changes o first.words) 1 0 < second.told.k * 2 + cond (changes o second.words) 1 0) ⊎ ((changes o first.words ≡ false) × (changes o second.words ≡ false) × (first.told.k ≡ second.told.k))
        → logs o first.words first.told.reply ≡ changes o first.words → logs o second.words second.told.reply ≡ changes o second.words
        → Before (history o k records log) first second ⊎ ReadAtOnePlace o first second
    go (inl less) logged follows = inl (keeps_positions o u k records log state first second legal is are (rw (logged, follows) less))
    go (inr both) logged follows = inr (record { first_reads = both.0; second_reads = both.1; place = both.2 })

-- ---- by what a machine keeps

-- what stands at an entry's place stands in the row of its task
at_row : {X : Type 0} (xss : List (List X)) (t c : ℕ) (x : X) → at_entry xss (record { task = t; call = c }) ≡ Some x → slice_get (row xss t) c ≡ Some x
at_row [] t c x at = at
at_row (xs ∷ xss) zero c x at = at
at_row (xs ∷ xss) (suc t) c x at = at_row xss t c x at

-- the word of a call's record is among the words of all records
record_word : (k : Plan) (told : Records) (t c : ℕ) (w : CallWords) (r : Rec) → slice_get (row k t) c ≡ Some w → slice_get (row told t) c ≡ Some r → get_or (rec_words k told) (start k t + c) 0 ≡ rec_word r
record_word [] told t c w r planned recorded = none-some w planned
record_word (ws ∷ wss) [] t c w r planned recorded = none-some r recorded
record_word (ws ∷ wss) (rs ∷ rss) zero c w r planned recorded =
    let inside = some-inside ws c w planned in
    let place : 0 + c ≡ c = omega arith in
    ap (λ z. get_or (task_recs ws rs ++ rec_words wss rss) z 0) place
    ∙ get-front (task_recs ws rs) (rec_words wss rss) c (omega (arith, length-task_recs ws rs, inside))
    ∙ task_recs-at ws rs c r inside recorded
record_word (ws ∷ wss) (rs ∷ rss) (suc t) c w r planned recorded =
    let place : length ws + start wss t + c ≡ length ws + (start wss t + c) = omega arith in
    ap (λ z. get_or (task_recs ws rs ++ rec_words wss rss) z 0) place
    ∙ get-behind (task_recs ws rs) (rec_words wss rss) (length ws) (start wss t + c) (length-task_recs ws rs)
    ∙ record_word wss rss t c w r planned recorded

module _ {Call : Type 0} (o : Obj Call) (size : ℕ) (k : Plan) (t c : ℕ) where
  -- no step changes a record
  record_kept : (x y : Moment) (n : ℕ) (s : o.State) (n' : ℕ) (s' : o.State) → IsSimulationStep o k (site k x.words) (site k y.words) x.hands x.steps y.steps n s n' s' → record_in k x t c ≢ 0 → record_in k y t c ≡ record_in k x t c
  record_kept x y n s n' s' goes recorded = ⊎_elim
      (λ (same : ((site k y.words).recs ≡ (site k x.words).recs) × (n' ≡ n) × (s' ≡ s)). ap (λ (z : List ℕ). get_or z (start k t + c) 0) same.0)
      (λ (q : IsLinearizationPoint o k (site k x.words) (site k y.words) x.hands x.steps y.steps n s n' s').
      dite (ℕ_discrete (start k t + c) (start k q.task + q.hand.done))
      (λ is. absurd (recorded (ap (λ (z : ℕ). get_or (site k x.words).recs z 0) is ∙ q.empty)))
      (λ other. ap (λ (z : List ℕ). get_or z (start k t + c) 0) q.stored ∙ get_or-set_other (site k x.words).recs (start k q.task + q.hand.done) (start k t + c) (rec_word q.rec) 0 other))
      goes

  -- so a call's record is what it was at each moment at which there was one
  record_stays : (i : ℕ) (now : Moment) (past : List Moment) (m : Moment) (before : List Moment) (n : ℕ) (s : o.State) → LinearizesTo o size k (now ∷ past) n s → drop i (now ∷ past) ≡ m ∷ before → record_in k m t c ≢ 0 → record_in k now t c ≡ record_in k m t c
  record_stays zero now past m before n s linear cut recorded = ap (λ (z : List Moment). record_in k (head z) t c) cut
    where
      head : List Moment → Moment
      head [] = now
      head (x ∷ xs) = x
  record_stays (suc i) now [] m before n s linear cut recorded = absurd (let l = ap length cut in omega (arith, l, length-drop (suc i) (now ∷ [])))
  record_stays (suc i) now (x ∷ past) m before n s linear cut recorded =
      let q = linear.1 in
      let earlier = record_stays i x past m before q.0 q.1 q.3 cut recorded in
      record_kept x now q.0 q.1 n s q.2 (λ none. recorded (sym earlier ∙ none)) ∙ earlier

module _ {Call : Type 0} (o : Obj Call) (kind : Kind) (size word_at : ℕ) (waits : Plan → Moment → List ℕ → Type 0) (tells : Plan → Shown → Type 0) (opened : Plan → Moment) (k : Plan) (u : Shown) (knows : KnowsPast o kind size word_at waits tells opened k u) where
  -- what the lock tells of its own may be left out
  pub without_told : KnowsPast o kind size word_at waits (λ k u. Unit {0}) opened k u
  without_told = record { last = knows.last; new = knows.new; begins = knows.begins; always = knows.always; moves = knows.moves; linear = knows.linear; told = tt }

  abbrev Latest : Moment
  Latest = knows.last.step.now

  -- by the last moment each call is recorded whose record the pass knows
  pub recorded_now : (records : Records) (v : Event) → AreKnown u.hand records → IsEventOf k records v → IsRecordedThen k Latest v.entry.task v.entry.call v.told
  recorded_now records v known is =
      let step = knows.last.step in
      let all = subst (EachMoment (IsLockedThen o kind size k word_at waits)) step.past_is knows.always in
      let here = all.0.is_site in
      let planned = at_row k v.entry.task v.entry.call v.words is.planned in
      let told = at_row records v.entry.task v.entry.call v.told is.recorded in
      let knows_it = subst (λ (h : Hand). Knows h v.entry v.told) (sym knows.last.hand) (known v.entry.task v.entry.call v.told told) in
      let stands = here.knows step.seat step.hand step.is v.entry v.told knows_it in
      record {
        planned = some-inside (row k v.entry.task) v.entry.call v.words planned;
        fits = recs-next o (unavailable kind) size k here.log v.entry.task 0 0 (row k v.entry.task) (row here.told v.entry.task) (here.legal v.entry.task) v.entry.call v.told stands;
        recorded = ap (λ (z : List ℕ). get_or z (start k v.entry.task + v.entry.call) 0) here.records ∙ record_word k here.told v.entry.task v.entry.call v.words v.told planned stands;
      }

  -- if it held, it has taken effect
  served_now : (records : Records) (v : Event) → AreKnown u.hand records → IsEventOf k records v → IsObjectReply v.told.reply → HasTakenEffect k Latest v
  served_now records v known is held =
      let now = recorded_now records v known is in
      record { planned = at_row k v.entry.task v.entry.call v.words is.planned; recorded = now.recorded; fits = now.fits; served = held }

  -- a call that was recorded before another took effect before it
  took_effect_before : (records : Records) (first second : Event) → AreKnown u.hand records → IsEventOf k records first → IsEventOf k records second → IsObjectReply first.told.reply → IsObjectReply second.told.reply
      → WasRecordedBefore k u.past first second → TookEffectBefore k u.past first second
  took_effect_before records first second known is are first_held second_held order =
      let step = knows.last.step in
      let mine = served_now records first known is first_held in
      let its = served_now records second known are second_held in
      let all : List Moment = step.before ∷ step.rest in
      let cut : drop order.is.0 (Latest ∷ all) ≡ order.moment ∷ order.before = ap (drop order.is.0) (sym step.past_is) ∙ order.is.1 in
      let linear = subst (λ (z : List Moment). LinearizesTo o size k z knows.linear.0 knows.linear.1) step.past_is knows.linear.2 in
      let same = record_stays o size k first.entry.task first.entry.call order.is.0 Latest all order.moment order.before knows.linear.0 knows.linear.1 linear cut order.first_recorded in
      record {
        late = Latest;
        until = all;
        is_late = (0, step.past_is);
        early = order.moment;
        before = order.before;
        is_early = (order.is.0, cut);
        first_has = record { planned = mine.planned; recorded = sym same ∙ mine.recorded; fits = mine.fits; served = mine.served };
        second_not_yet = order.second_not_yet;
        second_has = its;
      }

pub recalled_in_real_time_order : {Call : Type 0} (o : Obj Call) (u : Unavailable) (kind : Kind) (size word_at : ℕ) (waits : Plan → Moment → List ℕ → Type 0) (opened : Plan → Moment) → RecalledInRealTimeOrder o u kind size word_at waits opened
recalled_in_real_time_order o u kind size word_at waits opened k v records log state first second knows known legal is are first_held second_held order =
    keeps_real_time_order o u size k (opened k) v.past records log state first second knows.linear knows.new knows.begins legal is are
    (took_effect_before o kind size word_at waits (λ k u. Unit {0}) opened k v knows records first second known is are first_held second_held order)
