-- The steps of a table with a sequence word keep its rule.
use Rattle.std.proofs.Common.{◌≡◌, ◌≢◌, ◌∙◌, ℕ, zero, suc, ◌+◌, ◌-◌, ◌%◌, ◌<◌, ◌≤◌, inl, inr, false, List, [], ◌∷◌, length, map, take, drop, get_or, set, Option, Some, sym, refl, ap, subst, arith, length-set, get_or-set_same, take_all}
use Rattle.std.proofs.lemmas.List.{drop-set-lt, get_or-drop, get_or-take}
use mathlib.Core.Option.{some, none}
use mathlib.Core.Logic.{dite}
use native.Mathlib.Decide.{ℕ_discrete}
use lib.ListN.{get_elem?}
use lib.Seq.{set-get_or}
use Rattle.atomic_table.specs.Table.{Me, step, keeps}
use Rattle.atomic_table.proofs.Lists.{at_map, set_again}
use Rattle.word_bits.specs.EntryWord.{entry_word}
use Rattle.word_bits.specs.Objects.{Obj}
use Rattle.word_bits.specs.Histories.{Plan}
use Rattle.lock_core.specs.declared.layout.TheConstants.{LOCK_WORDS, LENGTH_AT}
use Rattle.lock_core.specs.Layout.{lay, site}
use Rattle.lock_core.specs.Ops.{word_after}
use Rattle.lock_core.specs.Views.{hand_of, held_of, alone_of, owed_of, entry_of, ticked, took, held_weight, alone_weight}
use Rattle.lock_core.specs.Holding.{Learns, released}
use Rattle.lock_core.specs.Plans.{calls_in}
use Rattle.lock_core.specs.Records.{row}
use Rattle.lock_core.specs.Totals.{total, total-at}
use Rattle.lock_core.specs.ViewParts.{Each}
use Rattle.lock_core.specs.Sites.{SiteKept, HandGoes, KeepsSaw, HasPlan}
use Rattle.lock_core.specs.Moves.{Lets}
use Rattle.lock_core.specs.Laws.Move.{hand-stays, saw-stays}
use Rattle.lock_core.proofs.HandLaws.{no-alone, not-both, false-or-true, stage-cases}
use Rattle.lock_core.proofs.HoldSteps.{quiet-state, site-takes, site-frees}
use Rattle.lock_core.proofs.Recording.{entry-fits}
use Rattle.lock_core.proofs.Replies.{entry_of-word}
use Rattle.lock_core.proofs.RowLaws.{some-inside}
use Rattle.lock_core.proofs.SeatSteps.{site-rehands}
use Rattle.lock_core.proofs.Steps.{chooses}
use Rattle.lock_core.proofs.WordSteps.{some-of}
use Rattle.seq_fault.specs.Watches.{Fits, GlanceOk, IsAsThen, WatchOk}
use Rattle.seq_fault.specs.SeqRuled.{V, SeqKept, SeqMoves, never, seq_at}
use Rattle.seq_fault.specs.Laws.SeqRuled.{no-shared, none-alone, rule-goes, watch-rises}
use Rattle.seq_fault.specs.Types.{Entry, Op, Load, Add, Exchange, Hand, Held, No, Shared, Alone, Rest, Glance, Watch, Off, On}
use Rattle.seq_fault.specs.SeqPlays as play

its-plan : (k p : Plan) (plan : Option Plan) → HasPlan k plan → plan ≡ Some p → k ≡ p
its-plan k p plan has is = sym (subst (HasPlan k) is has)

-- entries that fit are told by their words
back : (xs : List Entry) → Fits xs → map entry_of (map entry_word xs) ≡ xs
back [] fits = refl
back (x ∷ xs) fits = λ i. entry_of-word x (fits zero x refl) i ∷ back xs (λ j e at. fits (suc j) e at) i

same-log : (xs ys : List Entry) → Fits xs → Fits ys → map entry_word xs ≡ map entry_word ys → xs ≡ ys
same-log xs ys a b e = sym (back xs a) ∙ (ap (map entry_of) e ∙ back ys b)

-- where nobody holds beside others, and nobody alone, nobody holds
unheld : (hs : List Hand) → Each (λ h. h.held ≢ Shared) hs → total held_of hs ≡ total alone_of hs
unheld [] each = refl
unheld (h ∷ hs) each = let a = unheld hs (λ j g at. each (suc j) g at) in let b = weighs h.held (each zero h refl) in omega (arith, a, b)
  where
    weighs : (x : Held) → x ≢ Shared → held_weight x ≡ alone_weight x
    weighs No n = refl
    weighs Shared n = absurd (n refl)
    weighs Alone n = refl

pub each-hand : (vs : List V) → Each (λ v. v.hand.held ≢ Shared) vs → Each (λ h. h.held ≢ Shared) (map hand_of vs)
each-hand vs each j h at = let x = Rattle.lock_core.specs.ViewParts.at_unmap hand_of vs j h at in λ e. each j x.0 x.1 (ap (λ (z : Hand). z.held) x.2 ∙ e)

pub on-off : (g h : Glance) → On g ≡ On h → g ≡ h
on-off g h e = ap of e
  where
    of : Watch → Glance
    of Off = g
    of (On x) = x

module _ {Call : Type 0} (o : Obj Call) (size : ℕ) (k : Plan) where
  abbrev M : Type 0
  M = Me (Unit {0}) V

  abbrev Kept : List ℕ → List V → Type 0
  Kept = SeqKept o size k

  abbrev Site : List ℕ → List Hand → Type 0
  Site ws hs = SiteKept o never size k (site k ws) hs

  abbrev hands : List V → List Hand
  hands vs = map hand_of vs

  abbrev May : ℕ → ℕ → M → ℕ → Op → (ℕ → M → Type 0) → Type 0
  May = Lets Kept (SeqMoves k)

  -- what a load comes to, which leaves how the pass holds
  abbrev Comes : (ws : List ℕ) (vs : List V) (id : ℕ) (v : V) → (V → Type 0) → Type 0
  Comes ws vs id v tells = (h : Hand) × (e : Watch) × HandGoes v.hand h × KeepsSaw v.hand h × Site ws (set (hands vs) id h) × (h.held ≡ v.hand.held) × WatchOk o size k (get_or ws seq_at 0) (site k ws) e × tells (play.turned v h e)

  looks : (slots id place : ℕ) (me : M) (tells : ℕ → M → Type 0) → ((ws : List ℕ) (vs : List V) → Kept ws vs → get_elem? vs id ≡ some me.0 → Comes ws vs id me.0 (λ u. tells (get_or ws place 0) (u, me.1))) → May slots id me place Load tells
  looks slots id place me tells comes s r _ at small = let ws = s.words in let vs = s.views in let v = me.0 in let t = comes ws vs r at in let weight : alone_of t.0 ≡ alone_of v.hand = ap alone_weight t.5 in (
    play.turned v t.0 t.1,
    keeps,
    tt,
    subst (λ (z : List ℕ). SeqKept o size k z (set vs id (play.turned v t.0 t.1)) × SeqMoves k id ws vs z (set vs id (play.turned v t.0 t.1))) (sym (set-get_or ws place 0))
        (rule-goes o size k ws ws vs id v t.0 t.1 r at refl refl t.2 t.3 t.4 (λ e. r.apart id v at (sym t.5 ∙ e)) (let p = r.parity in omega (arith, p, weight)) r.few (inl (refl, weight)) t.6),
    refl,
    t.7,
  )

  same-hand : (ws : List ℕ) (vs : List V) (id : ℕ) (v : V) → Kept ws vs → get_elem? vs id ≡ some v → Site ws (set (hands vs) id v.hand)
  same-hand ws vs id v r at = subst (Site ws) (sym (set_again (hands vs) id v.hand (at_map hand_of vs id v at))) r.site_holds

  nobody-alone : (ws : List ℕ) (vs : List V) → Kept ws vs → get_or ws seq_at 0 % 2 ≡ 0 → total alone_of (hands vs) ≡ 0
  nobody-alone ws vs r even = let p = r.parity in omega (arith, p, even)

  -- the entries of the log fit their words, where nobody owes a record
  log-fits : (ws : List ℕ) (vs : List V) (r : Kept ws vs) → total alone_of (hands vs) ≡ 0 → Fits r.site_holds.log
  log-fits ws vs r unalone j e there = let s = r.site_holds in let l = some-inside s.log j e there in let logged = s.balances.recorded j e there (let w = unowed in omega (arith, l, w)) in entry-fits k e.task e.call s.laid.small (some-inside (row k e.task) e.call logged.words logged.planned)
    where
      unowed : total owed_of (hands vs) ≡ 0
      unowed = elim (native.Mathlib.Decide.dec_le (total owed_of (hands vs)) 0) [
        | yes none_owes ↦ omega (arith, none_owes)
        | no owes ↦ let x = some-of owed_of (hands vs) (omega (arith, owes)) in let has = x.3 in absurd (stage-cases x.1.stage (λ z. omega (arith, z, has)) (λ d is. let alone = ((r.site_holds.each x.0 x.1 x.2).logged d is).0 in let l = total-at alone_of (hands vs) x.0 x.1 x.2 in let w : alone_of x.1 ≡ 1 = ap alone_weight alone in omega (arith, l, w, unalone)))
      ]

  -- what it learns of a moment at which nobody holds alone
  learns : (ws : List ℕ) (vs : List V) (id : ℕ) (v : V) (r : Kept ws vs) → get_elem? vs id ≡ some v → total alone_of (hands vs) ≡ 0 → (p : Plan) → v.hand.plan ≡ Some p → Learns o p v.hand (take size (site k ws).guarded) r.site_holds.log
  learns ws vs id v r at unalone p plan = let s = r.site_holds in let ok = s.each id v.hand (at_map hand_of vs id v at) in subst (λ (z : Plan). Learns o z v.hand (take size (site k ws).guarded) s.log) (its-plan k p v.hand.plan ok.plan plan) record { stored = quiet-state o never size k (site k ws) (hands vs) s unalone; within = s.tells.within; begins = ok.seen }

  -- a look at the sequence word
  pub peers : (slots id : ℕ) (me : M) → May slots id me seq_at Load (play.Looked (step slots seq_at 0 0 none) me)
  peers slots id me = looks slots id seq_at me (play.Looked (step slots seq_at 0 0 none) me) (λ ws vs r at. (me.0.hand, me.0.ext, hand-stays me.0.hand, saw-stays me.0.hand, same-hand ws vs id me.0 r at, refl, r.watches id me.0 at, (refl, refl)))

  -- it takes the lock, where the word is an even one
  pub enters : (slots id t word : ℕ) (me : M) → me.0.hand.task ≡ Some t → me.0.hand.held ≡ No → word % 2 ≡ 0 → word < 18446744073709551614 → May slots id me seq_at (Exchange word (word + 1)) (play.Entered o (step slots seq_at word (word + 1) none) me)
  enters slots id t word me has out even small = let v = me.0 in chooses Kept (SeqMoves k) slots id seq_at word (word + 1) me (play.Entered o (step slots seq_at word (word + 1) none) me)
      (λ ws vs r at is. let unalone = nobody-alone ws vs r (omega (arith, is, even)) in let un : total held_of (hands vs) ≡ 0 = unheld (hands vs) (each-hand vs r.apart) ∙ unalone in let g : Hand = took v.hand Alone (take size (site k ws).guarded) r.site_holds.log in let wide = r.wide in
      let now = get_or-set_same ws seq_at (word + 1) 0 (omega (arith, wide)) in let was : alone_of v.hand ≡ 0 = ap alone_weight out in (
        play.turned v g v.ext,
        refl,
        rule-goes o size k ws (set ws seq_at (word + 1)) vs id v g v.ext r at (length-set ws seq_at (word + 1)) (ap (lay k) (drop-set-lt LOCK_WORDS ws seq_at (word + 1) (omega arith)))
            (record { misses = omega arith; freed = λ e. refl; takes = omega arith; comes = λ l. omega (arith, l) }, refl, refl)
            (refl, inl (refl, refl))
            (site-takes o never size k (site k ws) (hands vs) id t v.hand Alone r.site_holds (at_map hand_of vs id v at) out has (λ e. no-alone (sym e)) (λ _. un) unalone)
            (λ e. let w : alone_weight Alone ≡ alone_weight Shared = ap alone_weight e in omega (arith, w))
            (omega (arith, now, even, was, unalone))
            (omega (arith, now, small))
            (inr (omega (arith, now, is)))
            (subst (λ (z : ℕ). WatchOk o size k z (site k ws) v.ext) (sym now) (watch-rises o size k (get_or ws seq_at 0) (word + 1) (site k ws) v.ext (omega (arith, is)) (r.watches id v at))),
        ((λ _. (take size (site k ws).guarded, r.site_holds.log, learns ws vs id v r at unalone, (refl, refl))), λ not. absurd (not refl)),
      ))
      (λ ws vs r at not _. (
        ticked v,
        refl,
        rule-goes o size k ws ws vs id v v.hand v.ext r at refl refl (hand-stays v.hand) (saw-stays v.hand) (same-hand ws vs id v r at) (λ e. r.apart id v at e) (let p = r.parity in omega (arith, p)) r.few (inl (refl, refl)) (r.watches id v at),
        ((λ is. absurd (not is)), λ _. (refl, refl)),
      ))

  -- it lets go
  pub leaves : (slots id : ℕ) (me : M) → me.0.hand.held ≡ Alone → me.0.hand.writes ≡ false → me.0.hand.stage ≡ Rest → May slots id me seq_at (Add 1) (play.Left (step slots seq_at 1 0 none) me)
  leaves slots id me alone quiet rest s r _ at small = let ws = s.words in let vs = s.views in let v = me.0 in let g : Hand = released v.hand 0 in let n : ℕ = get_or ws seq_at 0 in let few = r.few in let wide = r.wide in let p = r.parity in
      let was : alone_of v.hand ≡ 1 = ap alone_weight alone in let least = total-at alone_of (hands vs) id v.hand (at_map hand_of vs id v at) in let sum : word_after (Add 1) n ≡ n + 1 = omega (arith, few) in
      let now : get_or (set ws seq_at (word_after (Add 1) n)) seq_at 0 ≡ n + 1 = get_or-set_same ws seq_at (word_after (Add 1) n) 0 (omega (arith, wide)) ∙ sum in (
        play.turned v g v.ext,
        keeps,
        tt,
        rule-goes o size k ws (set ws seq_at (word_after (Add 1) n)) vs id v g v.ext r at (length-set ws seq_at (word_after (Add 1) n)) (ap (lay k) (drop-set-lt LOCK_WORDS ws seq_at (word_after (Add 1) n) (omega arith)))
            (record { misses = omega arith; freed = λ z. no-alone (z ∙ alone); takes = omega arith; comes = λ l. omega (arith, l) }, refl, refl)
            (refl, inl (refl, refl))
            (site-frees o never size k (site k ws) (hands vs) id 0 v.hand r.site_holds (at_map hand_of vs id v at) quiet rest)
            (λ e. no-shared e)
            (omega (arith, now, was, least, p))
            (omega (arith, now, was, least, p, few))
            (inr now)
            (subst (λ (z : ℕ). WatchOk o size k z (site k ws) v.ext) (sym now) (watch-rises o size k n (n + 1) (site k ws) v.ext (omega arith) (r.watches id v at))),
        refl,
        (refl, refl),
      )

  -- it begins to watch, where the word is even
  pub watches : (slots id : ℕ) (me : M) → May slots id me seq_at Load (play.Watched o (step slots seq_at 0 0 none) me)
  watches slots id me = let v = me.0 in looks slots id seq_at me (play.Watched o (step slots seq_at 0 0 none) me) (λ ws vs r at. let n : ℕ = get_or ws seq_at 0 in let s = r.site_holds in dite (ℕ_discrete (n % 2) 0)
      (λ even. let unalone = nobody-alone ws vs r even in let known : List ℕ = take size (site k ws).guarded in (
        v.hand,
        On (play.glance n known s.log),
        hand-stays v.hand,
        saw-stays v.hand,
        same-hand ws vs id v r at,
        refl,
        record {
          even = even;
          past = omega arith;
          stale = λ e. not-both false refl e;
          same = λ _. record { guarded = refl; len = s.tells.many; entries = ap (λ (m : ℕ). take m (site k ws).entries) s.tells.many ∙ s.tells.entered };
          stored = quiet-state o never size k (site k ws) (hands vs) s unalone;
          within = s.tells.within;
          fits = log-fits ws vs r unalone;
        },
        ((λ _. (known, s.log, learns ws vs id v r at unalone, (refl, refl))), λ not. absurd (not even)),
      ))
      (λ odd. (v.hand, v.ext, hand-stays v.hand, saw-stays v.hand, same-hand ws vs id v r at, refl, r.watches id v at, ((λ even. absurd (odd even)), λ _. (refl, refl)))))

  -- a load that tells something where the sequence word is still the same
  since : (slots id place : ℕ) (me : M) (g : Glance) (so : ℕ → Glance → Type 0) → me.0.ext ≡ On g → ((ws : List ℕ) → IsAsThen size (site k ws) g → so (get_or ws place 0) g) → May slots id me place Load (λ n m'. play.Since (so n) me m')
  since slots id place me g so on told = let v = me.0 in looks slots id place me (λ n m'. play.Since (so n) me m') (λ ws vs r at. let n : ℕ = get_or ws place 0 in let ok : GlanceOk o size k (get_or ws seq_at 0) (site k ws) g = subst (WatchOk o size k (get_or ws seq_at 0) (site k ws)) on (r.watches id v at) in dite (ℕ_discrete g.word (get_or ws seq_at 0))
      (λ is. (v.hand, v.ext, hand-stays v.hand, saw-stays v.hand, same-hand ws vs id v r at, refl, r.watches id v at, (λ h on'. inl (subst (so n) (on-off g h (sym on ∙ on')) (told ws (ok.same is)), (refl, refl)))))
      (λ not. let past = ok.past in (
        v.hand,
        On (play.staled g),
        hand-stays v.hand,
        saw-stays v.hand,
        same-hand ws vs id v r at,
        refl,
        record { even = ok.even; past = ok.past; stale = λ _. omega (arith, past, not); same = λ is. absurd (not is); stored = ok.stored; within = ok.within; fits = ok.fits },
        (λ h on'. inr (ap (λ (z : Glance). play.turned v v.hand (On (play.staled z))) (on-off g h (sym on ∙ on')), refl)),
      )))

  -- a load of a guarded word
  pub peeks : (slots id i : ℕ) (me : M) (g : Glance) → size ≤ 257 → i < size → me.0.ext ≡ On g → May slots id me (LOCK_WORDS + i) Load (play.Peeked (step slots (LOCK_WORDS + i) 0 0 none) me)
  peeks slots id i me g fits inside on = let back_to : i ≡ (LOCK_WORDS + i) - LOCK_WORDS = omega arith in since slots id (LOCK_WORDS + i) me g (λ n h. n ≡ get_or h.known ((LOCK_WORDS + i) - LOCK_WORDS) 0) on
      (λ ws then_it. subst (λ (j : ℕ). get_or ws (LOCK_WORDS + i) 0 ≡ get_or g.known j 0) back_to (sym (ap (λ (z : List ℕ). get_or z i 0) (sym then_it.guarded) ∙ (get_or-take size (take 264 (drop LOCK_WORDS ws)) i 0 inside ∙ (get_or-take 264 (drop LOCK_WORDS ws) i 0 (omega (arith, fits, inside)) ∙ get_or-drop LOCK_WORDS ws i 0)))))

  -- a load of the log's length
  pub measures : (slots id : ℕ) (me : M) (g : Glance) → me.0.ext ≡ On g → May slots id me (LOCK_WORDS + LENGTH_AT) Load (play.Measured (step slots (LOCK_WORDS + LENGTH_AT) 0 0 none) me)
  measures slots id me g on s r l at small = let t = since slots id (LOCK_WORDS + LENGTH_AT) me g (λ n h. n ≡ length h.log) on (λ ws then_it. sym (get_or-drop LOCK_WORDS ws LENGTH_AT 0) ∙ then_it.len) s r l at small in
      (t.0, t.1, t.2, t.3, t.4, ((λ q plan. subst (λ (z : Plan). get_or s.words (LOCK_WORDS + LENGTH_AT) 0 ≤ calls_in z) (its-plan k q me.0.hand.plan (r.site_holds.each id me.0.hand (at_map hand_of s.views id me.0 at)).plan plan) (let a = r.site_holds.tells.many in let b = r.site_holds.tells.within in let c = get_or-drop LOCK_WORDS s.words LENGTH_AT 0 in omega (arith, a, b, c))), t.5))

  -- a pass that holds nothing has seen the log of a moment that is as this one
  site-sees : (ws : List ℕ) (vs : List V) (id : ℕ) (v : V) (g : Glance) (r : Kept ws vs) → get_elem? vs id ≡ some v → GlanceOk o size k (get_or ws seq_at 0) (site k ws) g → g.word ≡ get_or ws seq_at 0 → Site ws (set (hands vs) id (play.saw_log v.hand g))
  site-sees ws vs id v g r at ok is = let s = r.site_holds in let h = v.hand in let mine = at_map hand_of vs id v at in let a = s.each id h mine in let even = ok.even in let evenly : get_or ws seq_at 0 % 2 ≡ 0 = omega (arith, even, is) in let unalone = nobody-alone ws vs r evenly in let t = ok.same is in
      let words : map entry_word s.log ≡ map entry_word g.log = sym s.tells.entered ∙ (ap (λ (m : ℕ). take m (site k ws).entries) (sym s.tells.many) ∙ t.entries) in let log : s.log ≡ g.log = same-log s.log g.log (log-fits ws vs r unalone) ok.fits words in let long = ap length log in
      site-rehands o never size k (site k ws) (hands vs) id h (play.saw_log h g) s mine (inl refl) record { held = refl; writes = refl; owed = refl; task = refl; sent = refl; consumed = refl } record {
        plan = a.plan;
        known = a.known;
        writer = a.writer;
        seen = (omega (arith, long), subst (λ (z : List Entry). take (length z) s.log ≡ z) log (take_all (length s.log) s.log (omega arith)));
        entered = a.entered;
        logged = λ e stage. absurd (none-alone o size k ws vs id v r at evenly (a.logged e stage).0);
        mine = λ u has. let m = a.mine u has in let x = m.2 in let y = a.seen.0 in (m.0, m.1, omega (arith, x, y, long));
        nameless = a.nameless;
        signals = a.signals;
        knows = a.knows;
        saw = a.saw;
      }

  -- the second load of the sequence word
  pub confirms : (slots id : ℕ) (me : M) (g : Glance) → me.0.ext ≡ On g → May slots id me seq_at Load (play.Confirmed (step slots seq_at 0 0 none) me)
  confirms slots id me g on = let v = me.0 in looks slots id seq_at me (play.Confirmed (step slots seq_at 0 0 none) me) (λ ws vs r at. let n : ℕ = get_or ws seq_at 0 in let ok : GlanceOk o size k n (site k ws) g = subst (WatchOk o size k n (site k ws)) on (r.watches id v at) in dite (ℕ_discrete g.word n)
      (λ is. (
        play.saw_log v.hand g,
        Off,
        (record { misses = omega arith; freed = λ _. refl; takes = omega arith; comes = λ l. omega (arith, l) }, refl, refl),
        (refl, inl (refl, refl)),
        site-sees ws vs id v g r at ok is,
        refl,
        tt,
        (λ h on'. let e = on-off g h (sym on ∙ on') in subst (λ (z : Glance). (n ≡ z.word → (z.stale ≡ false) × ((q : Plan) → v.hand.plan ≡ Some q → length z.log ≤ calls_in q) × ((play.turned v (play.saw_log v.hand g) Off ≡ play.turned v (play.saw_log v.hand z) Off) × (me.1 ≡ me.1))) × (n ≢ z.word → (play.turned v (play.saw_log v.hand g) Off ≡ play.turned v v.hand Off) × (me.1 ≡ me.1))) e
            ((λ _. (false-or-true g.stale (λ st. let l = ok.stale st in absurd (omega (arith, l, is))) (λ f. f), (λ q plan. subst (λ (x : Plan). length g.log ≤ calls_in x) (its-plan k q v.hand.plan (r.site_holds.each id v.hand (at_map hand_of vs id v at)).plan plan) ok.within), (refl, refl))), λ not. absurd (not (sym is)))),
      ))
      (λ not. (
        v.hand,
        Off,
        hand-stays v.hand,
        saw-stays v.hand,
        same-hand ws vs id v r at,
        refl,
        tt,
        (λ h on'. let e = on-off g h (sym on ∙ on') in subst (λ (z : Glance). (n ≡ z.word → (z.stale ≡ false) × ((q : Plan) → v.hand.plan ≡ Some q → length z.log ≤ calls_in q) × ((play.turned v v.hand Off ≡ play.turned v (play.saw_log v.hand z) Off) × (me.1 ≡ me.1))) × (n ≢ z.word → (play.turned v v.hand Off ≡ play.turned v v.hand Off) × (me.1 ≡ me.1))) e
            ((λ is. absurd (not (sym is))), λ _. (refl, refl))),
      )))
