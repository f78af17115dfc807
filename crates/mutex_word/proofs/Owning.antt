-- The steps on the owner word keep its own facts and the site's, and so the host's rule.
use Rattle.std.proofs.Common.{ap, ⊎_elim, ◌*◌, Bool, true, ◌/◌, ◌%◌, ◌<◌, ◌≤◌, inr, ◌≡◌, ◌≢◌, ◌∙◌, ℕ, ◌+◌, inl, false, List, map, take, get_or, set, Option, Some, None, sym, refl, subst, arith}
use mathlib.Core.Option.{some, none}
use lib.ListN.{get_elem?}
use lib.Seq.{set-get_or}
use Rattle.atomic_table.specs.Table.{Me, step, keeps}
use Rattle.atomic_table.proofs.Lists.{at_map, set_again}
use Rattle.word_bits.specs.LockWords.{Unavailable}
use Rattle.word_bits.specs.Objects.{Obj}
use Rattle.word_bits.specs.Histories.{Plan}
use Rattle.lock_core.specs.Layout.{site}
use Rattle.lock_core.specs.Views.{hand_of, held_of, handed, ticked, took}
use Rattle.lock_core.specs.Sites.{HandGoes, SiteKept, HasPlan}
use Rattle.lock_core.specs.Laws.Move.{hand-stays, saw-stays}
use Rattle.lock_core.specs.Moves.{Goes, Lets, TriesWhere}
use Rattle.lock_core.proofs.HandLaws.{no-alone, alone-is-held, not-both}
use Rattle.lock_core.proofs.HoldSteps.{none-alone, quiet-state, site-takes, site-misses, site-frees}
use Rattle.lock_core.proofs.Steps.{chooses, exchanges, modifies}
use Rattle.mutex_word.specs.Holders.{KeepsLeft, own_word, OwnKept, IsTurn, IsShut, IsAsk, turns}
use Rattle.mutex_word.specs.OwnerTries.{IsFail, IsLawful, IsTake, IsLeft, IsMine, MayFail, MayMiss, SawWord, missing}
use Rattle.word_bits.specs.declared.TheConstants.{MAX_TASKS}
use Rattle.lock_core.specs.Totals.{total}
use Rattle.lock_core.specs.Holding.{Learns, missed, released}
use Rattle.mutex_word.specs.OwnerPlays.{Tried, Freed, Flagged, SeenBy, Looked, TookBy, AskedBy, Mine, LeftBy}
use Rattle.mutex_word.specs.Laws.OwnKinds.{own-flags, own-clears, own-asks, own-takes-free, own-takes-picked, own-leaves, or-one, or-odd, and-clears}
use Rattle.word_bits.specs.OwnerWord.{task_code}
use lib.Bits.{bit_and, bit_or}
use mathlib.Core.Logic.{dite}
use native.Mathlib.Decide.{ℕ_discrete}
use Rattle.mutex_word.specs.Laws.Own.{Named, none-holds, no-holders, held-word, own-takes, own-frees, own-stays}
use Rattle.mutex_word.specs.Types.{Exchange, Or, And, Load, View, Hand, No, Alone, Rest, Turn, Take, Ask, Free, Flag, Clear, Fail}

-- a release leaves another way to hold
hand-frees : (h : Hand) (word : ℕ) → h.held ≡ Alone → HandGoes h (released h word)
hand-frees h word alone = (record { misses = omega arith; freed = λ same. no-alone (same ∙ alone); takes = omega arith; comes = λ l. omega (arith, l) }, refl, refl)

-- a live view's plan is the table's
its-plan : (k p : Plan) (plan : Option Plan) → HasPlan k plan → plan ≡ Some p → k ≡ p
its-plan k p plan has is = sym (subst (HasPlan k) is has)

-- a try fails at the word or doesn't
pub shut-or-open : (task : Option ℕ) (n : ℕ) {P : Type 0} → (IsShut task n → P) → ((IsShut task n → ⊥) → P) → P
shut-or-open task n shut open_it = elim (native.Mathlib.Decide.dec_le 8 n) [
  | yes big ↦ elim (native.Mathlib.Decide.dec_le 4 (n % 8)) [
    | no low ↦ shut (big, inl (omega (arith, low)))
    | yes high ↦ dite (ℕ_discrete (n / 8) (task_code task)) (λ is. open_it (λ s. elim s.1 [ inl low ↦ omega (arith, low, high) | inr other ↦ other is ])) (λ other. shut (big, inr other))
  ]
  | no free ↦ open_it (λ s. let b = s.0 in omega (arith, b, free))
]

-- the same for a try that may ask
pub fail-or-on : (asks : Bool) (task : Option ℕ) (n : ℕ) {P : Type 0} → (IsFail asks task n → P) → ((IsFail asks task n → ⊥) → P) → P
fail-or-on asks task n {P} fails on = shut-or-open task n (λ shut. go asks shut fails on) (λ open_it. on (λ f. open_it f.0))
  where
    go : (a : Bool) → IsShut task n → (IsFail a task n → P) → ((IsFail a task n → ⊥) → P) → P
    go false shut fails on = fails (shut, λ e. not-both false refl e)
    go true shut fails on = elim (native.Mathlib.Decide.dec_le 2 (n % 8)) [
      | yes l ↦ fails (shut, λ _. l)
      | no few ↦ on (λ f. few (f.1 refl))
    ]

-- what a step tells of the word that a try saw
pub saw-word : {E : Type 0} (turned : Turn → View E → E) (asks counts : Bool) (me me' : Me (Unit {0}) (View E)) (n : ℕ) → SeenBy turned asks counts me n me' → SawWord turned asks counts me.0 n me'.0 × (me'.1 ≡ me.1)
saw-word turned asks counts me me' n told = let v = me.0 in fail-or-on asks v.hand.task n
    (λ f. (record { step = v.steps; later = omega arith; lawful = told.0; fails = λ _. (told.1 f).0; on = λ not. absurd (not f) }, (told.1 f).1))
    (λ on. (record { step = v.steps + 1; later = omega arith; lawful = told.0; fails = λ f. absurd (on f); on = λ _. (told.2 on).0 }, (told.2 on).1))

-- a try that may take or ask doesn't fail
pub take-on : (asks : Bool) (task : Option ℕ) (t n m : ℕ) → task ≡ Some t → IsTake t n m → IsFail asks task n → ⊥
take-on asks task t n m has is f = let big = f.0.0 in ⊎_elim (λ (q : (n < 8) × (m ≡ 8 * (t + 1) + n)). let l = q.0 in omega (arith, l, big)) (λ (q : (4 ≤ n % 8) × (n / 8 ≡ t + 1) × (m + 4 ≡ n)). ⊎_elim (λ (l : n % 8 < 4). let h = q.0 in omega (arith, l, h)) (λ (other : n / 8 ≢ task_code task). other (q.1 ∙ sym (ap task_code has))) f.0.1) is

pub ask-on : (asks : Bool) (task : Option ℕ) (n m : ℕ) → asks ≡ true → IsAsk n m → IsFail asks task n → ⊥
ask-on asks task n m so is f = let a = f.1 so in let b = is.0 in omega (arith, a, b)

module _ {E Call : Type 0} (o : Obj Call) (unavailable : Unavailable) (size : ℕ) (k : Plan)
    (holds : List ℕ → List (View E) → Type 0) (moves : ℕ → List ℕ → List (View E) → List ℕ → List (View E) → Type 0)
    (place : ℕ) (may_be : ℕ → Type 0) (may_own : Turn → View E → ℕ → ℕ → Type 0) (may_miss : View E → Type 0) (turned : Turn → View E → E)
    (kept : (ws : List ℕ) (vs : List (View E)) → holds ws vs → SiteKept o unavailable size k (site k ws) (map hand_of vs))
    (own_kept : (ws : List ℕ) (vs : List (View E)) → holds ws vs → OwnKept (get_or ws place 0) (map hand_of vs) × may_be (get_or ws place 0))
    (owns : (ws : List ℕ) (vs : List (View E)) (id n : ℕ) (v : View E) (h : Hand) (t : Turn) → holds ws vs → get_elem? vs id ≡ some v → h.task ≡ v.hand.task → HandGoes v.hand h → TriesWhere may_miss (get_or ws place 0) v h → KeepsLeft v.hand h n → may_own t v (get_or ws place 0) n
    → OwnKept n (set (map hand_of vs) id h) → SiteKept o unavailable size k (site k ws) (set (map hand_of vs) id h) → Goes holds moves id ws vs (set ws place n) (set vs id (turns turned t v h)))
    (own_may : (ws : List ℕ) (vs : List (View E)) (id n : ℕ) (v : View E) (t : Turn) → holds ws vs → get_elem? vs id ≡ some v → may_own t v (get_or ws place 0) n → IsTurn t (get_or ws place 0) n)
    (own_looks : (ws : List ℕ) (vs : List (View E)) (id : ℕ) (v : View E) (h : Hand) → holds ws vs → get_elem? vs id ≡ some v → h.task ≡ v.hand.task → h.held ≡ v.hand.held → HandGoes v.hand h → TriesWhere may_miss (get_or ws place 0) v h → SiteKept o unavailable size k (site k ws) (set (map hand_of vs) id h) → Goes holds moves id ws vs ws (set vs id (handed v h))) where
  abbrev M : Type 0
  M = Me (Unit {0}) (View E)

  named : (ws : List ℕ) (vs : List (View E)) → holds ws vs → Named (map hand_of vs)
  named ws vs h j g at out = (((kept ws vs h).each j g at).nameless out).0

  -- a step that leaves the word, and how the pass holds
  stays : (ws : List ℕ) (vs : List (View E)) (id : ℕ) (v : View E) (g : Hand) → holds ws vs → get_elem? vs id ≡ some v → g.held ≡ v.hand.held → g.task ≡ v.hand.task → HandGoes v.hand g → TriesWhere may_miss (get_or ws place 0) v g → SiteKept o unavailable size k (site k ws) (set (map hand_of vs) id g)
      → Goes holds moves id ws vs ws (set vs id (handed v g))
  stays ws vs id v g h at held task goes tries there = own_looks ws vs id v g h at task held goes tries there

  takes-there : (slots id t : ℕ) (me : M) → me.0.hand.task ≡ Some t → me.0.hand.held ≡ No → may_own Take me.0 0 (own_word (Some t)) → may_miss me.0 → Lets holds moves slots id me place (Exchange 0 (own_word (Some t))) (Tried turned may_be o (step slots place 0 (own_word (Some t)) none) me)
  takes-there slots id t me has out may miss = let v = me.0 in let new : ℕ = own_word (Some t) in exchanges holds moves slots id place 0 new me (λ n. handed v (missed v.hand n (v.steps + 1))) (Tried turned may_be o (step slots place 0 new none) me) (λ _. refl)
      (λ ws vs h at is. let hs : List Hand = map hand_of vs in let mine = at_map hand_of vs id v at in let r = kept ws vs h in let ok = r.each id v.hand mine in let own = (own_kept ws vs h).0 in let few = r.laid.small.tasks in
      let free = none-holds hs (get_or ws place 0) own (named ws vs h) is in let none = none-alone hs free in
      let there = (ok.mine t has).0 in let known : List ℕ = take size (site k ws).guarded in let g : Hand = took v.hand Alone known r.log in (
        turns turned Take v g,
        refl,
        owns ws vs id new v g Take h at refl (record { misses = omega arith; freed = λ _. refl; takes = omega arith; comes = λ l. omega (arith, l) }, refl, refl) (inl (refl, inl (refl, refl))) (λ _ not. absurd (not refl)) (subst (λ (z : ℕ). may_own Take v z new) (sym is) may) (own-takes hs id t (get_or ws place 0) v.hand g own (named ws vs h) mine is (omega arith) refl has) (site-takes o unavailable size k (site k ws) hs id t v.hand Alone r mine out has (alone-is-held Alone refl) (λ _. free) none),
        (
          (λ _. (known, r.log, (λ p plan. subst (λ (z : Plan). Learns o z v.hand known r.log) (its-plan k p v.hand.plan ok.plan plan) record { stored = quiet-state o unavailable size k (site k ws) hs r none; within = r.tells.within; begins = ok.seen }), (refl, refl))),
          λ not. absurd (not refl),
        ),
      ))
      (λ ws vs h at not _. let r = kept ws vs h in let own = (own_kept ws vs h).0 in let n : ℕ = get_or ws place 0 in let mine = at_map hand_of vs id v at in (
        stays ws vs id v (missed v.hand n (v.steps + 1)) h at refl refl (record { misses = omega arith; freed = λ _. refl; takes = omega arith; comes = λ l. omega (arith, l) }, refl, refl) (inr (record { out = out; counts = refl; saw = refl; task = refl }, miss)) (site-misses o unavailable size k (site k ws) (map hand_of vs) id n (v.steps + 1) v.hand r mine (let small = own.small in omega (arith, small))),
        ((λ is. absurd (not is)), λ _. (own.small, (own_kept ws vs h).1, (refl, refl))),
      ))

  frees-there : (slots id t : ℕ) (me : M) → me.0.hand.task ≡ Some t → me.0.hand.held ≡ Alone → me.0.hand.writes ≡ false → me.0.hand.stage ≡ Rest → may_own Free me.0 (own_word (Some t)) 0
      → Lets holds moves slots id me place (Exchange (own_word (Some t)) 0) (Freed turned may_be (step slots place (own_word (Some t)) 0 none) me)
  frees-there slots id t me has alone quiet rests may = let v = me.0 in let old : ℕ = own_word (Some t) in let g : Hand = released v.hand 0 in exchanges holds moves slots id place old 0 me (λ _. ticked v) (Freed turned may_be (step slots place old 0 none) me) (λ _. refl)
      (λ ws vs h at is. let hs : List Hand = map hand_of vs in let mine = at_map hand_of vs id v at in (
        turns turned Free v g,
        refl,
        owns ws vs id 0 v g Free h at refl (hand-frees v.hand 0 alone) (inl (refl, inl (refl, refl))) (λ _ _. refl) (subst (λ (z : ℕ). may_own Free v z 0) (sym is) may) (own-frees hs id (get_or ws place 0) v.hand g (own_kept ws vs h).0 mine alone refl) (site-frees o unavailable size k (site k ws) hs id 0 v.hand (kept ws vs h) mine quiet rests),
        ((λ _. (refl, refl)), λ not. absurd (not refl)),
      ))
      (λ ws vs h at not _. let hs : List Hand = map hand_of vs in let mine = at_map hand_of vs id v at in let own = own_kept ws vs h in let w = held-word hs id t (get_or ws place 0) v.hand own.0 mine alone has in let low = w.0 in let is = w.1 in (
        stays ws vs id v v.hand h at refl refl (hand-stays v.hand) (inl (saw-stays v.hand)) (subst (SiteKept o unavailable size k (site k ws)) (sym (set_again hs id v.hand mine)) (kept ws vs h)),
        ((λ is. absurd (not is)), λ _. (own.1, omega arith, (refl, refl))),
      ))

  -- the task's own code, whichever way it is written
  pub takes : (slots id at code : ℕ) (task : Option ℕ) (me : M) → at ≡ place → code ≡ own_word task → task ≡ me.0.hand.task → task ≢ None → me.0.hand.held ≡ No → may_own Take me.0 0 (own_word task) → may_miss me.0 → Lets holds moves slots id me at (Exchange 0 code) (Tried turned may_be o (step slots at 0 code none) me)
  takes slots id at code None me is same has numbered out may miss = absurd (numbered refl)
  takes slots id at code (Some t) me is same has numbered out may miss = subst (λ (z : ℕ × ℕ). Lets holds moves slots id me z.0 (Exchange 0 z.1) (Tried turned may_be o (step slots z.0 0 z.1 none) me)) (λ i. (sym is i, sym same i)) (takes-there slots id t me (sym has) out may miss)

  pub frees : (slots id at code : ℕ) (task : Option ℕ) (me : M) → at ≡ place → code ≡ own_word task → task ≡ me.0.hand.task → me.0.hand.held ≡ Alone → me.0.hand.writes ≡ false → me.0.hand.stage ≡ Rest → may_own Free me.0 (own_word task) 0
      → Lets holds moves slots id me at (Exchange code 0) (Freed turned may_be (step slots at code 0 none) me)
  frees slots id at code None me is same has alone quiet rests may = λ s h _ there _. no-alone (sym (named s.words s.views h id me.0.hand (at_map hand_of s.views id me.0 there) (sym has)) ∙ alone)
  frees slots id at code (Some t) me is same has alone quiet rests may = subst (λ (z : ℕ × ℕ). Lets holds moves slots id me z.0 (Exchange z.1 0) (Freed turned may_be (step slots z.0 z.1 0 none) me)) (λ i. (sym is i, sym same i)) (frees-there slots id t me (sym has) alone quiet rests may)

  -- the hand stays
  same-hand : (ws : List ℕ) (vs : List (View E)) (id : ℕ) (v : View E) → holds ws vs → get_elem? vs id ≡ some v → SiteKept o unavailable size k (site k ws) (set (map hand_of vs) id v.hand)
  same-hand ws vs id v h at = subst (SiteKept o unavailable size k (site k ws)) (sym (set_again (map hand_of vs) id v.hand (at_map hand_of vs id v at))) (kept ws vs h)

  marks-there : (slots id : ℕ) (me : M) → ((n : ℕ) → may_own Flag me.0 n (bit_or n 1)) → Lets holds moves slots id me place (Or 1) (Flagged turned Flag (step slots place 1 0 none) me)
  marks-there slots id me may = let v = me.0 in modifies holds moves slots id place me (Or 1) (turns turned Flag v v.hand) (Flagged turned Flag (step slots place 1 0 none) me) refl
      (λ ws vs h at small. let n : ℕ = get_or ws place 0 in let hs : List Hand = map hand_of vs in let mine = at_map hand_of vs id v at in let own = (own_kept ws vs h).0 in (
        owns ws vs id (bit_or n 1) v v.hand Flag h at refl (hand-stays v.hand) (inl (saw-stays v.hand)) (λ alone not. absurd (not alone)) (may n) (dite (ℕ_discrete (n % 2) 0)
            (λ even. subst (λ (z : ℕ). OwnKept z (set hs id v.hand)) (sym (or-one n even)) (own-flags hs id n v.hand v.hand own mine refl refl even))
            (λ not. subst (λ (z : ℕ). OwnKept z (set hs id v.hand)) (sym (or-odd n (omega (arith, not)))) (own-stays hs id n v.hand v.hand own mine refl (inl refl)))) (same-hand ws vs id v h at),
        (refl, refl),
      ))

  wipes-there : (slots id : ℕ) (me : M) → ((n m : ℕ) → m + n % 8 ≡ n → may_own Clear me.0 n m) → Lets holds moves slots id me place (And 18446744073709551608) (Flagged turned Clear (step slots place 18446744073709551608 0 none) me)
  wipes-there slots id me may = let v = me.0 in modifies holds moves slots id place me (And 18446744073709551608) (turns turned Clear v v.hand) (Flagged turned Clear (step slots place 18446744073709551608 0 none) me) refl
      (λ ws vs h at small. let n : ℕ = get_or ws place 0 in let m : ℕ = bit_and n 18446744073709551608 in let hs : List Hand = map hand_of vs in let mine = at_map hand_of vs id v at in let own = (own_kept ws vs h).0 in let is = and-clears n small in let yes_may = may n m is in
      (owns ws vs id m v v.hand Clear h at refl (hand-stays v.hand) (inl (saw-stays v.hand)) (λ alone not. absurd (not alone)) yes_may (own-clears hs id n v.hand v.hand own mine m refl refl (own_may ws vs id m v Clear h at yes_may) is) (same-hand ws vs id v h at), (refl, refl)))

  word-lawful : (n : ℕ) (hs : List Hand) → OwnKept n hs → IsLawful n
  word-lawful n hs own = record { small = own.small; nobody = own.nobody; flags = own.flags }

  -- a failed try keeps the site's facts, whether it counts or not
  site-missing : (counts : Bool) (ws : List ℕ) (vs : List (View E)) (id n step : ℕ) (v : View E) → holds ws vs → get_elem? vs id ≡ some v → n < 8 * MAX_TASKS + 8 → SiteKept o unavailable size k (site k ws) (set (map hand_of vs) id (missing counts v.hand n step))
  site-missing true ws vs id n step v h at small = site-misses o unavailable size k (site k ws) (map hand_of vs) id n step v.hand (kept ws vs h) (at_map hand_of vs id v at) (omega (arith, small))
  site-missing false ws vs id n step v h at small = same-hand ws vs id v h at

  -- which changes of the hand a step on the owner word may make
  abbrev IsMissing : Hand → Hand → Type 0
  IsMissing h g = (g.task ≡ h.task) × (g.held ≡ h.held) × HandGoes h g

  is-missing : (counts : Bool) (h : Hand) (n step : ℕ) → IsMissing h (missing counts h n step)
  is-missing true h n step = (refl, refl, (record { misses = omega arith; freed = λ _. refl; takes = omega arith; comes = λ l. omega (arith, l) }, refl, refl))
  is-missing false h n step = (refl, refl, hand-stays h)

  is-counted : (counts : Bool) (v : View E) (n : ℕ) → MayMiss may_miss counts v → TriesWhere may_miss n v (missing counts v.hand n (v.steps + 1))
  is-counted true v n miss = let m = miss refl in inr (record { out = m.0; counts = refl; saw = refl; task = refl }, m.1)
  is-counted false v n miss = inl (saw-stays v.hand)

  -- what a try makes of a word that it sees and leaves
  saw-there : (asks counts : Bool) (me : M) (ws : List ℕ) (vs : List (View E)) (id : ℕ) → holds ws vs → get_elem? vs id ≡ some me.0 → MayFail may_own may_miss asks counts me.0
      → (w : View E) × (w.steps ≡ me.0.steps + 1) × Goes holds moves id ws vs ws (set vs id w) × SeenBy turned asks counts me (get_or ws place 0) (w, me.1)
  saw-there asks counts me ws vs id h at may = let v = me.0 in let n : ℕ = get_or ws place 0 in let own = (own_kept ws vs h).0 in let mine = at_map hand_of vs id v at in let g : Hand = missing counts v.hand n (v.steps + 1) in let lawful = word-lawful n (map hand_of vs) own in
      let same = is-missing counts v.hand n (v.steps + 1) in fail-or-on asks v.hand.task n
      (λ shut. (
        turns turned Fail v g,
        refl,
        subst (λ (z : List ℕ). Goes holds moves id ws vs z (set vs id (turns turned Fail v g))) (set-get_or ws place 0) (owns ws vs id n v g Fail h at same.0 same.2 (is-counted counts v n (may n shut).1) (λ alone not. absurd (not (same.1 ∙ alone))) (may n shut).0 (own-stays (map hand_of vs) id n v.hand g own mine same.1 (inl same.0)) (site-missing counts ws vs id n (v.steps + 1) v h at own.small)),
        (lawful, (λ _. (refl, refl)), λ on. absurd (on shut)),
      ))
      (λ on. (
        ticked v,
        refl,
        stays ws vs id v v.hand h at refl refl (hand-stays v.hand) (inl (saw-stays v.hand)) (same-hand ws vs id v h at),
        (lawful, (λ shut. absurd (on shut)), λ _. (refl, refl)),
      ))

  sees-there : (slots id : ℕ) (asks counts : Bool) (me : M) → MayFail may_own may_miss asks counts me.0 → Lets holds moves slots id me place Load (Looked turned asks counts (step slots place 0 0 none) me)
  sees-there slots id asks counts me may s h l at small = let t = saw-there asks counts me s.words s.views id h at may in
      (t.0, keeps, tt, subst (λ (z : List ℕ). Goes holds moves id s.words s.views z (set s.views id t.0)) (sym (set-get_or s.words place 0)) t.2, t.1, t.3)

  -- the word's own facts after a take, and before it nobody holds
  take-keeps : (hs : List Hand) (id t n m : ℕ) (h g : Hand) → OwnKept n hs → Named hs → get_elem? hs id ≡ some h → t < MAX_TASKS → IsTake t n m → g.held ≡ Alone → g.task ≡ Some t → OwnKept m (set hs id g) × (total held_of hs ≡ 0)
  take-keeps hs id t n m h g own named at small is alone has = ⊎_elim
      (λ (q : (n < 8) × (m ≡ 8 * (t + 1) + n)). (subst (λ (z : ℕ). OwnKept z (set hs id g)) (sym q.1) (own-takes-free hs id n h g own at t named q.0 small alone has), no-holders hs n own named q.0))
      (λ (q : (4 ≤ n % 8) × (n / 8 ≡ t + 1) × (m + 4 ≡ n)). (own-takes-picked hs id n h g own at t m q.0 q.1 q.2 alone has, own.picked q.0))
      is

  pub gets : (slots id at t old new : ℕ) (asks counts : Bool) (me : M) → at ≡ place → me.0.hand.task ≡ Some t → me.0.hand.held ≡ No → IsTake t old new → may_own Take me.0 old new → MayFail may_own may_miss asks counts me.0
      → Lets holds moves slots id me at (Exchange old new) (TookBy turned o asks counts (step slots at old new none) me)
  gets slots id at t old new asks counts me place_is has out is may fails = subst (λ (z : ℕ). Lets holds moves slots id me z (Exchange old new) (TookBy turned o asks counts (step slots z old new none) me)) (sym place_is) (let v = me.0 in chooses holds moves slots id place old new me (TookBy turned o asks counts (step slots place old new none) me)
      (λ ws vs h at found. let hs : List Hand = map hand_of vs in let mine = at_map hand_of vs id v at in let r = kept ws vs h in let ok = r.each id v.hand mine in let own = subst (λ (z : ℕ). OwnKept z hs) found (own_kept ws vs h).0 in let few = r.laid.small.tasks in
      let there = (ok.mine t has).0 in let known : List ℕ = take size (site k ws).guarded in let g : Hand = took v.hand Alone known r.log in
      let both = take-keeps hs id t old new v.hand g own (named ws vs h) mine (omega (arith, few, there)) is refl has in let free = both.1 in let none = none-alone hs free in (
        turns turned Take v g,
        refl,
        owns ws vs id new v g Take h at refl (record { misses = omega arith; freed = λ _. refl; takes = omega arith; comes = λ l. omega (arith, l) }, refl, refl) (inl (refl, inl (refl, refl))) (λ _ not. absurd (not refl)) (subst (λ (z : ℕ). may_own Take v z new) (sym found) may) both.0 (site-takes o unavailable size k (site k ws) hs id t v.hand Alone r mine out has (alone-is-held Alone refl) (λ _. free) none),
        (
          (λ _. (known, r.log, (λ p plan. subst (λ (z : Plan). Learns o z v.hand known r.log) (its-plan k p v.hand.plan ok.plan plan) record { stored = quiet-state o unavailable size k (site k ws) hs r none; within = r.tells.within; begins = ok.seen }), (refl, refl))),
          λ not. absurd (not refl),
        ),
      ))
      (λ ws vs h at not _. let t = saw-there asks counts me ws vs id h at fails in (t.0, t.1, t.2, ((λ is. absurd (not is)), λ _. t.3))))

  pub begs : (slots id at old new : ℕ) (asks counts : Bool) (me : M) → at ≡ place → IsAsk old new → may_own Ask me.0 old new → MayFail may_own may_miss asks counts me.0
      → Lets holds moves slots id me at (Exchange old new) (AskedBy turned asks counts (step slots at old new none) me)
  begs slots id at old new asks counts me place_is is may fails = subst (λ (z : ℕ). Lets holds moves slots id me z (Exchange old new) (AskedBy turned asks counts (step slots z old new none) me)) (sym place_is) (let v = me.0 in chooses holds moves slots id place old new me (AskedBy turned asks counts (step slots place old new none) me)
      (λ ws vs h at found. let hs : List Hand = map hand_of vs in let mine = at_map hand_of vs id v at in let own = subst (λ (z : ℕ). OwnKept z hs) found (own_kept ws vs h).0 in (
        turns turned Ask v v.hand,
        refl,
        owns ws vs id new v v.hand Ask h at refl (hand-stays v.hand) (inl (saw-stays v.hand)) (λ alone not. absurd (not alone)) (subst (λ (z : ℕ). may_own Ask v z new) (sym found) may) (subst (λ (z : ℕ). OwnKept z (set hs id v.hand)) (sym is.2) (own-asks hs id old v.hand v.hand own mine refl refl is.0 is.1)) (same-hand ws vs id v h at),
        ((λ _. (refl, refl)), λ not. absurd (not refl)),
      ))
      (λ ws vs h at not _. let t = saw-there asks counts me ws vs id h at fails in (t.0, t.1, t.2, ((λ is. absurd (not is)), λ _. t.3))))

  -- the word of the pass that holds
  mine-there : (me : M) (t : ℕ) (ws : List ℕ) (vs : List (View E)) (id : ℕ) → holds ws vs → get_elem? vs id ≡ some me.0 → me.0.hand.task ≡ Some t → me.0.hand.held ≡ Alone → Goes holds moves id ws vs ws (set vs id (ticked me.0)) × IsMine me.0.hand.task (get_or ws place 0)
  mine-there me t ws vs id h at has alone = let v = me.0 in let n : ℕ = get_or ws place 0 in let own = (own_kept ws vs h).0 in let w = held-word (map hand_of vs) id t n v.hand own (at_map hand_of vs id v at) alone has in let low = w.0 in let is = w.1 in let c : task_code v.hand.task ≡ t + 1 = ap task_code has in
      (stays ws vs id v v.hand h at refl refl (hand-stays v.hand) (inl (saw-stays v.hand)) (same-hand ws vs id v h at), (own.small, low, omega (arith, low, is, c)))

  pub reads : (slots id at t : ℕ) (me : M) → at ≡ place → me.0.hand.task ≡ Some t → me.0.hand.held ≡ Alone → Lets holds moves slots id me at Load (Mine (step slots at 0 0 none) me)
  reads slots id at t me place_is has alone = subst (λ (z : ℕ). Lets holds moves slots id me z Load (Mine (step slots z 0 0 none) me)) (sym place_is)
      (λ s h l there small. let r = mine-there me t s.words s.views id h there has alone in (ticked me.0, keeps, tt, subst (λ (z : List ℕ). Goes holds moves id s.words s.views z (set s.views id (ticked me.0))) (sym (set-get_or s.words place 0)) r.0, refl, (r.1, (refl, refl))))

  pub leaves : (slots id at t old new : ℕ) (turn : Turn) (me : M) → at ≡ place → me.0.hand.task ≡ Some t → me.0.hand.held ≡ Alone → me.0.hand.writes ≡ false → me.0.hand.stage ≡ Rest → IsLeft new → may_own turn me.0 old new
      → Lets holds moves slots id me at (Exchange old new) (LeftBy turned turn (step slots at old new none) me)
  leaves slots id at t old new turn me place_is has alone quiet rests left may = subst (λ (z : ℕ). Lets holds moves slots id me z (Exchange old new) (LeftBy turned turn (step slots z old new none) me)) (sym place_is) (let v = me.0 in let g : Hand = released v.hand new in chooses holds moves slots id place old new me (LeftBy turned turn (step slots place old new none) me)
      (λ ws vs h at found. let hs : List Hand = map hand_of vs in let mine = at_map hand_of vs id v at in let n : ℕ = get_or ws place 0 in (
        turns turned turn v g,
        refl,
        owns ws vs id new v g turn h at refl (hand-frees v.hand new alone) (inl (refl, inl (refl, refl))) (λ _ _. refl) (subst (λ (z : ℕ). may_own turn v z new) (sym found) may) (own-leaves hs id n v.hand g (own_kept ws vs h).0 mine new alone refl left) (site-frees o unavailable size k (site k ws) hs id new v.hand (kept ws vs h) mine quiet rests),
        ((λ _. (refl, refl)), λ not. absurd (not refl)),
      ))
      (λ ws vs h at not _. let r = mine-there me t ws vs id h at has alone in (ticked v, refl, r.0, ((λ is. absurd (not is)), λ _. (r.1, (refl, refl))))))

  pub marks : (slots id at : ℕ) (me : M) → at ≡ place → ((n : ℕ) → may_own Flag me.0 n (bit_or n 1)) → Lets holds moves slots id me at (Or 1) (Flagged turned Flag (step slots at 1 0 none) me)
  marks slots id at me is may = subst (λ (z : ℕ). Lets holds moves slots id me z (Or 1) (Flagged turned Flag (step slots z 1 0 none) me)) (sym is) (marks-there slots id me may)

  pub wipes : (slots id at mask : ℕ) (me : M) → at ≡ place → mask ≡ 18446744073709551608 → ((n m : ℕ) → m + n % 8 ≡ n → may_own Clear me.0 n m) → Lets holds moves slots id me at (And mask) (Flagged turned Clear (step slots at mask 0 none) me)
  wipes slots id at mask me is same may = subst (λ (z : ℕ × ℕ). Lets holds moves slots id me z.0 (And z.1) (Flagged turned Clear (step slots z.0 z.1 0 none) me)) (λ i. (sym is i, sym same i)) (wipes-there slots id me may)

  pub sees : (slots id at : ℕ) (asks counts : Bool) (me : M) → at ≡ place → MayFail may_own may_miss asks counts me.0 → Lets holds moves slots id me at Load (Looked turned asks counts (step slots at 0 0 none) me)
  sees slots id at asks counts me is may = subst (λ (z : ℕ). Lets holds moves slots id me z Load (Looked turned asks counts (step slots z 0 0 none) me)) (sym is) (sees-there slots id asks counts me may)
