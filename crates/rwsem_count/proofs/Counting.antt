-- The steps on a count keep its own facts and the site's, and so the host's rule.
use Rattle.std.proofs.Common.{◌≡◌, ◌≢◌, ◌∙◌, ℕ, ◌+◌, ◌-◌, ◌%◌, ◌≤◌, inl, inr, false, List, [], ◌∷◌, map, take, get_or, set, Option, Some, None, sym, refl, ap, subst, arith}
use mathlib.Core.Option.{some, none}
use mathlib.Core.Logic.{dite}
use native.Mathlib.Decide.{ℕ_discrete}
use lib.ListN.{get_elem?}
use lib.Seq.{set-get_or}
use Rattle.atomic_table.specs.Table.{Me, step, keeps}
use Rattle.atomic_table.proofs.Lists.{at_map, set_again}
use Rattle.word_bits.specs.LockWords.{Unavailable, IsLawfulCount}
use Rattle.word_bits.specs.Objects.{Obj}
use Rattle.word_bits.specs.Histories.{Plan}
use Rattle.lock_core.specs.Layout.{SiteWords, site}
use Rattle.lock_core.specs.Ops.{word_after}
use Rattle.lock_core.specs.Views.{hand_of, handed, ticked, took, held_of, alone_of, held_weight, alone_weight, strength}
use Rattle.lock_core.specs.Holding.{Learns, missed, released, downgraded}
use Rattle.lock_core.specs.Totals.{total, total-at}
use Rattle.lock_core.specs.Sites.{SiteKept, HasPlan}
use Rattle.lock_core.specs.Moves.{Goes, Lets, TriesWhere}
use Rattle.lock_core.specs.Laws.Move.{saw-stays}
use Rattle.lock_core.proofs.HandLaws.{no-alone}
use Rattle.lock_core.proofs.RowLaws.{none-some}
use Rattle.lock_core.proofs.HoldSteps.{quiet-state, site-takes, site-misses, site-frees, site-downgrades}
use Rattle.lock_core.proofs.Steps.{chooses}
use Rattle.rwsem_count.specs.Counts.{CountKept, CountMove, CountPart, HandStep, alone_in, shared_in, early_in, late_in, shared_weight, early_weight, late_weight, based, count_part, part}
use Rattle.rwsem_count.specs.Laws.Count.{count-reads, count-transit, count-backs, count-writes, count-frees-shared, count-frees-alone, count-downgrades}
use Rattle.rwsem_count.specs.CountWordSteps.{IsReadFree}
use Rattle.rwsem_count.specs.CountPlays.{SeenBy, Looked, Gets, ReadAdded, ReadTaken, WriteTaken, Leaves}
use Rattle.rwsem_count.specs.Types.{Op, Load, Add, Sub, Exchange, View, Hand, Held, No, Shared, Alone, Rest, Bias, Clear, Transit}

-- a lawful count lets a reader in exactly where it has no flag, and so it does with one bias more
pub free-or-shut : (n m : ℕ) {P : Type 0} → IsLawfulCount n → m % 256 ≡ n % 256 → m ≤ n + 256 → (IsReadFree m → n % 8 ≡ 0 → P) → ((IsReadFree m → ⊥) → n % 8 ≢ 0 → P) → P
free-or-shut n m lawful flags few free shut = let low = lawful.0 in let high = lawful.1 in dite (ℕ_discrete (n % 8) 0)
    (λ is. free record { writer = omega (arith, is, flags); waiters = omega (arith, is, flags); handoff = omega (arith, is, flags); read_fail = omega (arith, high, few) } is)
    (λ not. shut (λ f. let w = f.writer in let x = f.waiters in let h = f.handoff in not (omega (arith, low, w, x, h, flags))) not)

pub free-or-not : (n : ℕ) {P : Type 0} → IsLawfulCount n → (IsReadFree n → P) → ((IsReadFree n → ⊥) → P) → P
free-or-not n lawful free shut = free-or-shut n n lawful refl (omega arith) (λ f is. free f) (λ s not. shut s)

-- a live view's plan is the table's
pub its-plan : (k p : Plan) (plan : Option Plan) → HasPlan k plan → plan ≡ Some p → k ≡ p
its-plan k p plan has is = sym (subst (HasPlan k) is has)

shared-no : {P : Type 0} → Shared ≡ No → P
shared-no e = let w : held_weight Shared ≡ held_weight No = ap held_weight e in absurd (omega (arith, w))

alone-shared : {P : Type 0} → Alone ≡ Shared → P
alone-shared e = let w : alone_weight Alone ≡ alone_weight Shared = ap alone_weight e in absurd (omega (arith, w))

-- what holds, by the sums over hands, and over what the count has of each pass
module _ {E : Type 0} (bias : E → Bias) where
  pub alone-parts : (vs : List (View E)) → total alone_of (map hand_of vs) ≡ total alone_in (map (count_part bias) vs)
  alone-parts [] = refl
  alone-parts (v ∷ vs) = let e = alone-parts vs in omega arith

  pub held-parts : (vs : List (View E)) → total held_of (map hand_of vs) ≡ total alone_in (map (count_part bias) vs) + total shared_in (map (count_part bias) vs)
  held-parts [] = refl
  held-parts (v ∷ vs) = let e = held-parts vs in let w = split v.hand.held in omega arith
    where
      split : (x : Held) → held_weight x ≡ alone_weight x + shared_weight x
      split No = omega arith
      split Shared = omega arith
      split Alone = omega arith

module _ {E Call : Type 0} (o : Obj Call) (unavailable : Unavailable) (size : ℕ) (k : Plan) (bias : E → Bias) (counted : View E → Hand → Bias → E)
    (holds : List ℕ → List (View E) → Type 0) (moves : ℕ → List ℕ → List (View E) → List ℕ → List (View E) → Type 0)
    (place : ℕ) (may_be : ℕ → Type 0) (more : List ℕ → List (View E) → ℕ) (may_count : View E → CountPart → Type 0) (may_miss : View E → Type 0)
    (kept : (ws : List ℕ) (vs : List (View E)) → holds ws vs → SiteKept o unavailable size k (site k ws) (map hand_of vs))
    (count_kept : (ws : List ℕ) (vs : List (View E)) → holds ws vs → CountKept (get_or ws place 0) (more ws vs) (map (count_part bias) vs) × IsLawfulCount (get_or ws place 0) × may_be (get_or ws place 0))
    (counts : (ws : List ℕ) (vs : List (View E)) (id n : ℕ) (v : View E) (h : Hand) (b : Bias) → holds ws vs → get_elem? vs id ≡ some v → HandStep v.hand h n → TriesWhere may_miss (get_or ws place 0) v h → may_count v (part h b) → CountMove (get_or ws place 0) n (count_part bias v) (part h b)
    → CountKept n (more ws vs) (set (map (count_part bias) vs) id (part h b)) → SiteKept o unavailable size k (site k ws) (set (map hand_of vs) id h) → Goes holds moves id ws vs (set ws place n) (set vs id (based counted v h b)))
    (count_looks : (ws : List ℕ) (vs : List (View E)) (id n : ℕ) (v : View E) (h : Hand) → holds ws vs → get_elem? vs id ≡ some v → HandStep v.hand h n → TriesWhere may_miss (get_or ws place 0) v h → h.held ≡ v.hand.held → SiteKept o unavailable size k (site k ws) (set (map hand_of vs) id h) → Goes holds moves id ws vs ws (set vs id (handed v h))) where
  abbrev M : Type 0
  M = Me (Unit {0}) (View E)

  abbrev Kept : SiteWords → List Hand → Type 0
  Kept = SiteKept o unavailable size k

  -- what a step on the count comes to, whatever the table is
  abbrev Comes : (id : ℕ) (me : M) → (op : Op) → (ℕ → M → Type 0) → Type 0
  Comes id me op tells = (n more : ℕ) (ps : List CountPart) (w : SiteWords) (hs : List Hand) → get_elem? ps id ≡ some (count_part bias me.0) → get_elem? hs id ≡ some me.0.hand → total alone_of hs ≡ total alone_in ps → total held_of hs ≡ total alone_in ps + total shared_in ps
      → CountKept n more ps → IsLawfulCount n → may_be n → Kept w hs
      → (h : Hand) × (b : Bias) × HandStep me.0.hand h (word_after op n) × TriesWhere may_miss n me.0 h × may_count me.0 (part h b) × CountMove n (word_after op n) (count_part bias me.0) (part h b) × CountKept (word_after op n) more (set ps id (part h b)) × Kept w (set hs id h) × tells n (based counted me.0 h b, me.1)

  -- any step on the count whose hand and bias the found word chooses
  count-goes : (slots id : ℕ) (me : M) (op : Op) (tells : ℕ → M → Type 0) → Comes id me op tells → Lets holds moves slots id me place op tells
  count-goes slots id me op tells comes st there _ at small = let ws = st.words in let vs = st.views in let n : ℕ = get_or ws place 0 in let c = count_kept ws vs there in
      let t = comes n (more ws vs) (map (count_part bias) vs) (site k ws) (map hand_of vs) (at_map (count_part bias) vs id me.0 at) (at_map hand_of vs id me.0 at) (alone-parts bias vs) (held-parts bias vs) c.0 c.1 c.2 (kept ws vs there) in
      (based counted me.0 t.0 t.1, keeps, tt, counts ws vs id (word_after op n) me.0 t.0 t.1 there at t.2 t.3 t.4 t.5 t.6 t.7, refl, t.8)

  -- what it learns that takes a hold where nobody holds alone
  gets : (me : M) (w : SiteWords) (hs : List Hand) (id : ℕ) (held : Held) (r : Kept w hs) → get_elem? hs id ≡ some me.0.hand → total alone_of hs ≡ 0 → Gets counted o held me (based counted me.0 (took me.0.hand held (take size w.guarded) r.log) Clear, me.1)
  gets me w hs id held r at unheld = let v = me.0 in let known : List ℕ = take size w.guarded in let ok = r.each id v.hand at in
      (known, r.log, (λ p plan. subst (λ (z : Plan). Learns o z v.hand known r.log) (its-plan k p v.hand.plan ok.plan plan) record { stored = quiet-state o unavailable size k w hs r unheld; within = r.tells.within; begins = ok.seen }), (refl, refl))

  -- a reader's bias is added
  reads-there : (slots id t : ℕ) (me : M) → me.0.hand.task ≡ Some t → me.0.hand.held ≡ No → bias me.0.ext ≡ Clear → may_count me.0 (record { held = Shared; bias = Clear }) → ((n : ℕ) → may_count me.0 (record { held = No; bias = Transit n })) → may_miss me.0
      → Lets holds moves slots id me place (Add 256) (ReadAdded counted o (step slots place 256 0 none) me)
  reads-there slots id t me has out clear may wait miss = count-goes slots id me (Add 256) (ReadAdded counted o (step slots place 256 0 none) me) (λ n more ps w hs mine mine' alones helds c lawful fits r. let v = me.0 in let p : CountPart = count_part bias v in let low = lawful.0 in let high = lawful.1 in let numbered : v.hand.task ≢ None = λ e. none-some t (sym e ∙ has) in
      let sum : n + 256 ≡ word_after (Add 256) n = omega (arith, low, high) in let wr = c.writer in free-or-shut n (n + 256) lawful (omega arith) (omega arith)
      (λ free is. let none_alone : total alone_of hs ≡ 0 = omega (arith, alones, wr, is) in let g : Hand = took v.hand Shared (take size w.guarded) r.log in (
        g,
        Clear,
        record { numbered = numbered; task = refl; goes = (record { misses = omega arith; freed = λ e. refl; takes = omega arith; comes = λ l. omega (arith, l) }, refl, refl); left = λ held. absurd (held out) },
        inl (refl, inl (refl, refl)),
        may,
        record { flags = omega (arith, sum); writer = λ x y. omega (arith, is); lone = λ x y. absurd (omega (arith, x, y, sum)); reader = λ _. inr (inl (omega (arith, is))); bias = inr (inl refl) },
        subst (λ (z : ℕ). CountKept z more (set ps id (part g Clear))) sum (count-reads ps id p (part g Clear) mine n more c is out clear refl refl),
        site-takes o unavailable size k w hs id t v.hand Shared r mine' out has (λ e. shared-no e) (λ l. absurd (omega (arith, l))) none_alone,
        (lawful, (λ _. gets me w hs id Shared r mine' none_alone), λ not. absurd (not free)),
      ))
      (λ shut not. let g : Hand = missed v.hand n (v.steps + 1) in (
        g,
        Transit n,
        record { numbered = numbered; task = refl; goes = (record { misses = omega arith; freed = λ e. refl; takes = omega arith; comes = λ l. omega (arith, l) }, refl, refl); left = λ held. absurd (held out) },
        inr (record { out = out; counts = refl; saw = refl; task = refl }, miss),
        subst (λ (z : Held). may_count v (record { held = z; bias = Transit n })) (sym out) (wait n),
        record { flags = omega (arith, sum); writer = λ x y. absurd (omega (arith, x, y, sum)); lone = λ x y. absurd (omega (arith, x, y, sum)); reader = λ e. shared-no (sym e ∙ out); bias = inr (inr (clear, inl refl)) },
        subst (λ (z : ℕ). CountKept z more (set ps id (part g (Transit n)))) sum (count-transit ps id p (part g (Transit n)) mine n more c out clear out refl),
        site-misses o unavailable size k w hs id n (v.steps + 1) v.hand r mine' (omega (arith, low, high)),
        (lawful, (λ free. absurd (shut free)), λ _. (refl, refl)),
      )))

  -- the hand stays
  same-hand : (ws : List ℕ) (vs : List (View E)) (id : ℕ) (v : View E) → holds ws vs → get_elem? vs id ≡ some v → Kept (site k ws) (set (map hand_of vs) id v.hand)
  same-hand ws vs id v h at = subst (Kept (site k ws)) (sym (set_again (map hand_of vs) id v.hand (at_map hand_of vs id v at))) (kept ws vs h)

  -- a reader's try sees the count, and leaves it
  saw-there : (me : M) (ws : List ℕ) (vs : List (View E)) (id : ℕ) → holds ws vs → get_elem? vs id ≡ some me.0 → me.0.hand.task ≢ None → me.0.hand.held ≡ No → may_miss me.0
      → (w : View E) × (w.steps ≡ me.0.steps + 1) × Goes holds moves id ws vs ws (set vs id w) × SeenBy me (get_or ws place 0) (w, me.1)
  saw-there me ws vs id h at numbered out miss = let v = me.0 in let n : ℕ = get_or ws place 0 in let lawful = (count_kept ws vs h).1 in let low = lawful.0 in let high = lawful.1 in let mine = at_map hand_of vs id v at in let g : Hand = missed v.hand n (v.steps + 1) in free-or-shut n n lawful refl (omega arith)
      (λ free is. (
        ticked v,
        refl,
        count_looks ws vs id n v v.hand h at record { numbered = numbered; task = refl; goes = (record { misses = omega arith; freed = λ e. refl; takes = omega arith; comes = λ l. omega (arith, l) }, refl, refl); left = λ held other. absurd (other refl) } (inl (saw-stays v.hand)) refl (same-hand ws vs id v h at),
        (lawful, (λ _. (refl, refl)), λ shut. absurd (shut free)),
      ))
      (λ shut not. (
        handed v g,
        refl,
        count_looks ws vs id n v g h at record { numbered = numbered; task = refl; goes = (record { misses = omega arith; freed = λ e. refl; takes = omega arith; comes = λ l. omega (arith, l) }, refl, refl); left = λ held other. absurd (other refl) } (inr (record { out = out; counts = refl; saw = refl; task = refl }, miss)) refl (site-misses o unavailable size k (site k ws) (map hand_of vs) id n (v.steps + 1) v.hand (kept ws vs h) mine (omega (arith, low, high))),
        (lawful, (λ free. absurd (shut free)), λ _. (refl, refl)),
      ))

  -- its load
  looks-there : (slots id : ℕ) (me : M) → me.0.hand.task ≢ None → me.0.hand.held ≡ No → may_miss me.0 → Lets holds moves slots id me place Load (Looked (step slots place 0 0 none) me)
  looks-there slots id me numbered out miss s h l at small = let t = saw-there me s.words s.views id h at numbered out miss in
      (t.0, keeps, tt, subst (λ (z : List ℕ). Goes holds moves id s.words s.views z (set s.views id t.0)) (sym (set-get_or s.words place 0)) t.2, t.1, t.3)

  -- its exchange
  reader-takes : (slots id t old : ℕ) (me : M) → me.0.hand.task ≡ Some t → me.0.hand.held ≡ No → bias me.0.ext ≡ Clear → IsReadFree old → may_count me.0 (record { held = Shared; bias = Clear }) → may_miss me.0
      → Lets holds moves slots id me place (Exchange old (old + 256)) (ReadTaken counted o (step slots place old (old + 256) none) me)
  reader-takes slots id t old me has out clear free may miss = let v = me.0 in let numbered : v.hand.task ≢ None = λ e. none-some t (sym e ∙ has) in chooses holds moves slots id place old (old + 256) me (ReadTaken counted o (step slots place old (old + 256) none) me)
      (λ ws vs h at found. let hs : List Hand = map hand_of vs in let ps : List CountPart = map (count_part bias) vs in let mine = at_map hand_of vs id v at in let r = kept ws vs h in let c = subst (λ (z : ℕ). CountKept z (more ws vs) ps) found (count_kept ws vs h).0 in
      let g : Hand = took v.hand Shared (take size (site k ws).guarded) r.log in let alones = alone-parts bias vs in let wr = c.writer in let low = c.low in let a = free.writer in let b = free.waiters in let d = free.handoff in
      let is : old % 8 ≡ 0 = omega (arith, low, a, b, d) in let none_alone : total alone_of hs ≡ 0 = omega (arith, alones, wr, is) in (
        based counted v g Clear,
        refl,
        counts ws vs id (old + 256) v g Clear h at record { numbered = numbered; task = refl; goes = (record { misses = omega arith; freed = λ e. refl; takes = omega arith; comes = λ l. omega (arith, l) }, refl, refl); left = λ held. absurd (held out) } (inl (refl, inl (refl, refl))) may
            (subst (λ (z : ℕ). CountMove z (old + 256) (count_part bias v) (part g Clear)) (sym found) record { flags = omega arith; writer = λ x y. omega (arith, is); lone = λ x y. absurd (omega (arith, x, y)); reader = λ _. inr (inl d); bias = inr (inl refl) })
            (count-reads ps id (count_part bias v) (part g Clear) (at_map (count_part bias) vs id v at) old (more ws vs) c is out clear refl refl)
            (site-takes o unavailable size k (site k ws) hs id t v.hand Shared r mine out has (λ e. shared-no e) (λ l. absurd (omega (arith, l))) none_alone),
        ((λ _. gets me (site k ws) hs id Shared r mine none_alone), λ not. absurd (not refl)),
      ))
      (λ ws vs h at not _. let t = saw-there me ws vs id h at numbered out miss in (t.0, t.1, t.2, ((λ is. absurd (not is)), λ _. t.3)))

  -- a writer takes a count of 0
  writer-takes : (slots id t : ℕ) (me : M) → me.0.hand.task ≡ Some t → me.0.hand.held ≡ No → bias me.0.ext ≡ Clear → may_count me.0 (record { held = Alone; bias = Clear }) → may_miss me.0 → Lets holds moves slots id me place (Exchange 0 1) (WriteTaken counted o (step slots place 0 1 none) me)
  writer-takes slots id t me has out clear may miss = let v = me.0 in let numbered : v.hand.task ≢ None = λ e. none-some t (sym e ∙ has) in chooses holds moves slots id place 0 1 me (WriteTaken counted o (step slots place 0 1 none) me)
      (λ ws vs h at found. let hs : List Hand = map hand_of vs in let ps : List CountPart = map (count_part bias) vs in let mine = at_map hand_of vs id v at in let r = kept ws vs h in let c = subst (λ (z : ℕ). CountKept z (more ws vs) ps) found (count_kept ws vs h).0 in
      let g : Hand = took v.hand Alone (take size (site k ws).guarded) r.log in let alones = alone-parts bias vs in let helds = held-parts bias vs in let wr = c.writer in let f = c.field in
      let none_alone : total alone_of hs ≡ 0 = omega (arith, alones, wr) in let none_held : total held_of hs ≡ 0 = omega (arith, helds, wr, f) in (
        based counted v g Clear,
        refl,
        counts ws vs id 1 v g Clear h at record { numbered = numbered; task = refl; goes = (record { misses = omega arith; freed = λ e. refl; takes = omega arith; comes = λ l. omega (arith, l) }, refl, refl); left = λ held. absurd (held out) } (inl (refl, inl (refl, refl))) may
            (subst (λ (z : ℕ). CountMove z 1 (count_part bias v) (part g Clear)) (sym found) record { flags = refl; writer = λ x y. refl; lone = λ x y. refl; reader = λ e. alone-shared e; bias = inr (inl refl) })
            (count-writes ps id (count_part bias v) (part g Clear) (at_map (count_part bias) vs id v at) 0 1 (more ws vs) c refl refl refl (omega arith) out refl (sym clear))
            (site-takes o unavailable size k (site k ws) hs id t v.hand Alone r mine out has (λ e. no-alone (sym e)) (λ _. none_held) none_alone),
        ((λ _. gets me (site k ws) hs id Alone r mine none_alone), λ not. absurd (not refl)),
      ))
      (λ ws vs h at not _. let n : ℕ = get_or ws place 0 in let lawful = (count_kept ws vs h).1 in let low = lawful.0 in let high = lawful.1 in let g : Hand = missed v.hand n (v.steps + 1) in (
        handed v g,
        refl,
        count_looks ws vs id n v g h at record { numbered = numbered; task = refl; goes = (record { misses = omega arith; freed = λ e. refl; takes = omega arith; comes = λ l. omega (arith, l) }, refl, refl); left = λ held other. absurd (other refl) } (inr (record { out = out; counts = refl; saw = refl; task = refl }, miss)) refl (site-misses o unavailable size k (site k ws) (map hand_of vs) id n (v.steps + 1) v.hand (kept ws vs h) (at_map hand_of vs id v at) (omega (arith, low, high))),
        ((λ is. absurd (not is)), λ _. (lawful, (refl, refl))),
      ))

  -- a bias is taken back
  backs-there : (slots id word : ℕ) (me : M) → me.0.hand.task ≢ None → bias me.0.ext ≡ Transit word → may_count me.0 (record { held = me.0.hand.held; bias = Clear })
      → Lets holds moves slots id me place (Sub 256) (Leaves counted may_be 256 (λ n. n - 256) (λ h left. h) (step slots place 256 0 none) me)
  backs-there slots id word me numbered biased may = count-goes slots id me (Sub 256) (Leaves counted may_be 256 (λ n. n - 256) (λ h left. h) (step slots place 256 0 none) me) (λ n more ps w hs mine mine' alones helds c lawful fits r. let v = me.0 in let p : CountPart = count_part bias v in let low = lawful.0 in let high = lawful.1 in
      let one : early_in p + late_in p ≡ 1 = ap (λ (z : Bias). early_weight z + late_weight z) biased ∙ (let e : (1 - word % 2) + word % 2 ≡ 1 = omega arith in e) in let F = total-at early_in ps id p mine in let L = total-at late_in ps id p mine in let f = c.field in
      let less : word_after (Sub 256) n + 256 ≡ n = omega (arith, low, high, one, F, L, f) in (
        v.hand,
        Clear,
        record { numbered = numbered; task = refl; goes = (record { misses = omega arith; freed = λ e. refl; takes = omega arith; comes = λ l. omega (arith, l) }, refl, refl); left = λ held other. absurd (other refl) },
        inl (refl, inl (refl, refl)),
        may,
        record { flags = omega (arith, less); writer = λ x y. absurd (omega (arith, x, y, less)); lone = λ x y. absurd (omega (arith, x, y, less)); reader = λ e. inl e; bias = inr (inl refl) },
        count-backs ps id p (part v.hand Clear) mine n (word_after (Sub 256) n) more c (omega (arith, less)) (omega (arith, less, low)) (omega (arith, less)) refl one refl,
        subst (Kept w) (sym (set_again hs id v.hand mine')) r,
        (lawful, fits, omega (arith, less), omega (arith, less), (refl, refl)),
      ))

  -- a shared hold ends
  frees-shared-there : (slots id : ℕ) (me : M) → me.0.hand.task ≢ None → me.0.hand.held ≡ Shared → bias me.0.ext ≡ Clear → me.0.hand.writes ≡ false → me.0.hand.stage ≡ Rest → may_count me.0 (record { held = No; bias = Clear })
      → Lets holds moves slots id me place (Sub 256) (Leaves counted may_be 256 (λ n. n - 256) released (step slots place 256 0 none) me)
  frees-shared-there slots id me numbered shares clear quiet rest may = count-goes slots id me (Sub 256) (Leaves counted may_be 256 (λ n. n - 256) released (step slots place 256 0 none) me) (λ n more ps w hs mine mine' alones helds c lawful fits r. let v = me.0 in let p : CountPart = count_part bias v in let low = lawful.0 in let high = lawful.1 in
      let one : shared_in p ≡ 1 = ap shared_weight shares in let S = total-at shared_in ps id p mine in let f = c.field in let less : word_after (Sub 256) n + 256 ≡ n = omega (arith, low, high, one, S, f) in let left : n - 256 ≡ word_after (Sub 256) n = omega (arith, less) in let g : Hand = released v.hand (n - 256) in (
        g,
        Clear,
        record { numbered = numbered; task = refl; goes = (record { misses = omega arith; freed = λ e. shared-no (sym shares ∙ sym e); takes = omega arith; comes = λ l. omega (arith, l) }, refl, refl); left = λ held other. left },
        inl (refl, inl (refl, refl)),
        may,
        record { flags = omega (arith, less); writer = λ x y. absurd (omega (arith, x, y, less)); lone = λ x y. absurd (omega (arith, x, y, less)); reader = λ e. shared-no (sym e); bias = inr (inl refl) },
        count-frees-shared ps id p (part g Clear) mine n (word_after (Sub 256) n) more c less shares clear refl refl,
        site-frees o unavailable size k w hs id (n - 256) v.hand r mine' quiet rest,
        (lawful, fits, omega (arith, less), omega (arith, less), (refl, refl)),
      ))

  -- an exclusive hold ends
  frees-alone-there : (slots id : ℕ) (me : M) → me.0.hand.task ≢ None → me.0.hand.held ≡ Alone → bias me.0.ext ≡ Clear → me.0.hand.writes ≡ false → me.0.hand.stage ≡ Rest → may_count me.0 (record { held = No; bias = Clear })
      → Lets holds moves slots id me place (Sub 1) (Leaves counted may_be 1 (λ n. n - 1) released (step slots place 1 0 none) me)
  frees-alone-there slots id me numbered alone clear quiet rest may = count-goes slots id me (Sub 1) (Leaves counted may_be 1 (λ n. n - 1) released (step slots place 1 0 none) me) (λ n more ps w hs mine mine' alones helds c lawful fits r. let v = me.0 in let p : CountPart = count_part bias v in let low = lawful.0 in let high = lawful.1 in
      let one : alone_in p ≡ 1 = ap alone_weight alone in let A = total-at alone_in ps id p mine in let wr = c.writer in let less : word_after (Sub 1) n + 1 ≡ n = omega (arith, low, high, one, A, wr) in let left : n - 1 ≡ word_after (Sub 1) n = omega (arith, less) in let g : Hand = released v.hand (n - 1) in (
        g,
        Clear,
        record { numbered = numbered; task = refl; goes = (record { misses = omega arith; freed = λ e. no-alone (e ∙ alone); takes = omega arith; comes = λ l. omega (arith, l) }, refl, refl); left = λ held other. left },
        inl (refl, inl (refl, refl)),
        may,
        record { flags = omega (arith, less, wr, A, one); writer = λ x y. absurd (omega (arith, x, wr, A, one)); lone = λ x y. absurd (omega (arith, x, wr, A, one)); reader = λ e. shared-no (sym e); bias = inr (inl refl) },
        count-frees-alone ps id p (part g Clear) mine n (word_after (Sub 1) n) more c less alone clear refl refl,
        site-frees o unavailable size k w hs id (n - 1) v.hand r mine' quiet rest,
        (lawful, fits, omega (arith, less), omega (arith, wr, A, one), (refl, refl)),
      ))

  -- a writer goes on as a reader
  downs-there : (slots id : ℕ) (me : M) → me.0.hand.task ≢ None → me.0.hand.held ≡ Alone → bias me.0.ext ≡ Clear → me.0.hand.writes ≡ false → me.0.hand.stage ≡ Rest → may_count me.0 (record { held = Shared; bias = Clear })
      → Lets holds moves slots id me place (Add 255) (Leaves counted may_be 1 (λ n. n + 255) downgraded (step slots place 255 0 none) me)
  downs-there slots id me numbered alone clear quiet rest may = count-goes slots id me (Add 255) (Leaves counted may_be 1 (λ n. n + 255) downgraded (step slots place 255 0 none) me) (λ n more ps w hs mine mine' alones helds c lawful fits r. let v = me.0 in let p : CountPart = count_part bias v in let low = lawful.0 in let high = lawful.1 in
      let one : alone_in p ≡ 1 = ap alone_weight alone in let A = total-at alone_in ps id p mine in let wr = c.writer in let sum : n + 255 ≡ word_after (Add 255) n = omega (arith, low, high) in let odd = writes-odd more ps n c A one in let g : Hand = downgraded v.hand (n + 255) in (
        g,
        Clear,
        record { numbered = numbered; task = refl; goes = (record { misses = omega arith; freed = λ e. alone-shared (sym alone ∙ sym e); takes = omega arith; comes = λ l. let two = ap strength alone in omega (arith, l, two) }, refl, refl); left = λ held other. sum },
        inl (refl, inl (refl, refl)),
        may,
        record { flags = omega (arith, sum, odd, low); writer = λ x y. absurd (omega (arith, x, odd)); lone = λ x y. absurd (omega (arith, x, odd)); reader = λ _. inr (inr (inr alone)); bias = inr (inl refl) },
        subst (λ (z : ℕ). CountKept z more (set ps id (part g Clear))) sum (count-downgrades ps id p (part g Clear) mine n more c alone clear refl refl),
        site-downgrades o unavailable size k w hs id (n + 255) v.hand r mine' alone quiet rest,
        (lawful, fits, omega (arith, odd), omega (arith, odd, low), (refl, refl)),
      ))
    where
      writes-odd : (more : ℕ) (ps : List CountPart) (n : ℕ) → CountKept n more ps → {x : ℕ} → x ≤ total alone_in ps → x ≡ 1 → n % 2 ≡ 1
      writes-odd more ps n c l e = let w = c.writer in omega (arith, w, l, e)

  -- the same, whichever way the place is written
  pub reads : (slots id at t : ℕ) (me : M) → at ≡ place → me.0.hand.task ≡ Some t → me.0.hand.held ≡ No → bias me.0.ext ≡ Clear → may_count me.0 (record { held = Shared; bias = Clear }) → ((n : ℕ) → may_count me.0 (record { held = No; bias = Transit n })) → may_miss me.0
      → Lets holds moves slots id me at (Add 256) (ReadAdded counted o (step slots at 256 0 none) me)
  reads slots id at t me is has out clear may wait miss = subst (λ (z : ℕ). Lets holds moves slots id me z (Add 256) (ReadAdded counted o (step slots z 256 0 none) me)) (sym is) (reads-there slots id t me has out clear may wait miss)

  pub looks : (slots id at : ℕ) (me : M) → at ≡ place → me.0.hand.task ≢ None → me.0.hand.held ≡ No → may_miss me.0 → Lets holds moves slots id me at Load (Looked (step slots at 0 0 none) me)
  looks slots id at me is numbered out miss = subst (λ (z : ℕ). Lets holds moves slots id me z Load (Looked (step slots z 0 0 none) me)) (sym is) (looks-there slots id me numbered out miss)

  pub reader-gets : (slots id at t old : ℕ) (me : M) → at ≡ place → me.0.hand.task ≡ Some t → me.0.hand.held ≡ No → bias me.0.ext ≡ Clear → IsReadFree old → may_count me.0 (record { held = Shared; bias = Clear }) → may_miss me.0
      → Lets holds moves slots id me at (Exchange old (old + 256)) (ReadTaken counted o (step slots at old (old + 256) none) me)
  reader-gets slots id at t old me is has out clear free may miss = subst (λ (z : ℕ). Lets holds moves slots id me z (Exchange old (old + 256)) (ReadTaken counted o (step slots z old (old + 256) none) me)) (sym is) (reader-takes slots id t old me has out clear free may miss)

  pub writer-gets : (slots id at t : ℕ) (me : M) → at ≡ place → me.0.hand.task ≡ Some t → me.0.hand.held ≡ No → bias me.0.ext ≡ Clear → may_count me.0 (record { held = Alone; bias = Clear }) → may_miss me.0 → Lets holds moves slots id me at (Exchange 0 1) (WriteTaken counted o (step slots at 0 1 none) me)
  writer-gets slots id at t me is has out clear may miss = subst (λ (z : ℕ). Lets holds moves slots id me z (Exchange 0 1) (WriteTaken counted o (step slots z 0 1 none) me)) (sym is) (writer-takes slots id t me has out clear may miss)

  pub backs : (slots id at word : ℕ) (me : M) → at ≡ place → me.0.hand.task ≢ None → bias me.0.ext ≡ Transit word → may_count me.0 (record { held = me.0.hand.held; bias = Clear }) → Lets holds moves slots id me at (Sub 256) (Leaves counted may_be 256 (λ n. n - 256) (λ h left. h) (step slots at 256 0 none) me)
  backs slots id at word me is numbered biased may = subst (λ (z : ℕ). Lets holds moves slots id me z (Sub 256) (Leaves counted may_be 256 (λ n. n - 256) (λ h left. h) (step slots z 256 0 none) me)) (sym is) (backs-there slots id word me numbered biased may)

  pub frees-shared : (slots id at : ℕ) (me : M) → at ≡ place → me.0.hand.task ≢ None → me.0.hand.held ≡ Shared → bias me.0.ext ≡ Clear → me.0.hand.writes ≡ false → me.0.hand.stage ≡ Rest → may_count me.0 (record { held = No; bias = Clear })
      → Lets holds moves slots id me at (Sub 256) (Leaves counted may_be 256 (λ n. n - 256) released (step slots at 256 0 none) me)
  frees-shared slots id at me is numbered shares clear quiet rest may = subst (λ (z : ℕ). Lets holds moves slots id me z (Sub 256) (Leaves counted may_be 256 (λ n. n - 256) released (step slots z 256 0 none) me)) (sym is) (frees-shared-there slots id me numbered shares clear quiet rest may)

  pub frees-alone : (slots id at : ℕ) (me : M) → at ≡ place → me.0.hand.task ≢ None → me.0.hand.held ≡ Alone → bias me.0.ext ≡ Clear → me.0.hand.writes ≡ false → me.0.hand.stage ≡ Rest → may_count me.0 (record { held = No; bias = Clear })
      → Lets holds moves slots id me at (Sub 1) (Leaves counted may_be 1 (λ n. n - 1) released (step slots at 1 0 none) me)
  frees-alone slots id at me is numbered alone clear quiet rest may = subst (λ (z : ℕ). Lets holds moves slots id me z (Sub 1) (Leaves counted may_be 1 (λ n. n - 1) released (step slots z 1 0 none) me)) (sym is) (frees-alone-there slots id me numbered alone clear quiet rest may)

  pub downs : (slots id at : ℕ) (me : M) → at ≡ place → me.0.hand.task ≢ None → me.0.hand.held ≡ Alone → bias me.0.ext ≡ Clear → me.0.hand.writes ≡ false → me.0.hand.stage ≡ Rest → may_count me.0 (record { held = Shared; bias = Clear })
      → Lets holds moves slots id me at (Add 255) (Leaves counted may_be 1 (λ n. n + 255) downgraded (step slots at 255 0 none) me)
  downs slots id at me is numbered alone clear quiet rest may = subst (λ (z : ℕ). Lets holds moves slots id me z (Add 255) (Leaves counted may_be 1 (λ n. n + 255) downgraded (step slots z 255 0 none) me)) (sym is) (downs-there slots id me numbered alone clear quiet rest may)
