-- The steps on the words of the list keep the host's rule.
use Rattle.std.proofs.Common.{◌≡◌, ◌∙◌, ℕ, Some, ◌+◌, ◌*◌, ◌-◌, ◌<◌, ◌≤◌, inl, inr, false, List, [], ◌∷◌, length, map, get_or, set, sym, refl, ap, subst, arith}
use mathlib.Core.Option.{some, none}
use mathlib.Core.Logic.{dite}
use native.Mathlib.Decide.{ℕ_discrete}
use lib.ListN.{get_elem?}
use lib.Seq.{set-get_or}
use Rattle.atomic_table.specs.Table.{Me, step, keeps}
use Rattle.atomic_table.proofs.Lists.{at_map, set_again}
use Rattle.lock_core.specs.Layout.{part}
use Rattle.lock_core.specs.Views.{spin_part, SpinHolds}
use Rattle.lock_core.specs.Stores.{HasWord}
use Rattle.word_bits.specs.declared.TheConstants.{MAX_TASKS}
use Rattle.word_bits.specs.Histories.{Plan}
use Rattle.lock_core.specs.SpinFrames.{holds_of, holds_at}
use Rattle.lock_core.specs.declared.layout.TheConstants.{SPIN_WORDS}
use Rattle.lock_core.specs.Spins.{frame_of, SpinsKept, holds_in}
use Rattle.lock_core.specs.Moves.{Goes, Lets}
use Rattle.lock_core.specs.Totals.{total}
use Rattle.lock_core.proofs.HandLaws.{false-or-true}
use Rattle.lock_core.proofs.RowLaws.{same-some}
use Rattle.lock_core.specs.Regions.{part-at}
use Rattle.lock_core.proofs.Steps.{loads, stores}
use Rattle.wait_list.specs.Lists.{Part, Knows, ListKept, Allowed, IsList, Lists, IsNear, Learnt, LeaverGoes, MayStore, changed, counted, list_part, listed, sighted, takes_of}
use Rattle.wait_list.specs.Laws.List.{list-learns, list-known, list-stores, none-change}
use Rattle.wait_list.specs.ListPlays.{Got, Laid, Sighted, FoundHead}
use Rattle.wait_list.specs.Types.{Load, Store, View, Waiter, Change, Stay, ListHand}
use Rattle.wait_list.proofs.Waiters.{sound-changed}
use Rattle.wait_list.proofs.Walks.{first-among, head-is}
use Rattle.wait_list.specs.declared.words.TheConstants.{LIST_WORDS}

-- the words of head and tail, and of the tasks of the plan, are words that the table has
pub has-list : (tasks place at word : ℕ) → tasks ≤ MAX_TASKS → (SPIN_WORDS ≤ place) × (place + 8 ≤ SPIN_WORDS + 64) → at < 8 + 8 * tasks → word ≡ place + at → HasWord tasks word
has-list tasks place at word few room inside is = let a = room.0 in let b = room.1 in record {
  spin = λ _. omega (arith, a, is);
  first = λ m. absurd (omega (arith, b, inside, is, m));
  second = λ m. absurd (omega (arith, few, b, inside, is, m));
  third = λ m. absurd (omega (arith, few, b, inside, is, m));
  fourth = λ m. absurd (omega (arith, few, b, inside, is, m));
}

module _ {E : Type 0} (holds : List ℕ → List (View E) → Type 0) (moves : ℕ → List ℕ → List (View E) → List ℕ → List (View E) → Type 0) (locks first place : ℕ) (list : E → ListHand) (with_list : Change → View E → ListHand → E) (saw_first : View E → ℕ → E)
    (may_change : Change → View E → List Waiter → Type 0) (queue : List ℕ → List (View E) → List Waiter → Type 0)
    (spin_kept : (ws : List ℕ) (vs : List (View E)) → holds ws vs → SpinsKept locks (part first SPIN_WORDS ws) (map spin_part vs))
    (queued : (ws : List ℕ) (vs : List (View E)) → holds ws vs → (l : List Waiter) × queue ws vs l)
    (list_kept : (ws : List ℕ) (vs : List (View E)) (l : List Waiter) → queue ws vs l → ListKept (part place LIST_WORDS ws) l (map (list_part list) vs))
    (list_may : (ws : List ℕ) (vs : List (View E)) (l : List Waiter) (id : ℕ) (v : View E) (c : Change) → queue ws vs l → get_elem? vs id ≡ some v → SpinHolds v.spin → may_change c v l → Allowed c l)
    (lists : (ws : List ℕ) (vs : List (View E)) (l : List Waiter) (id i n : ℕ) (v : View E) (c : Change) (b : ListHand) → queue ws vs l → get_elem? vs id ≡ some v → i < LIST_WORDS → SpinHolds v.spin → may_change c v l → b.list ≡ changed c l → LeaverGoes c (list v.ext).leaver b.leaver
    → ListKept (set (part place LIST_WORDS ws) i n) (changed c l) (set (map (list_part list) vs) id (v.spin, b)) → Goes holds moves id ws vs (set ws (place + i) n) (set vs id (listed with_list c v b)))
    (firsts : (ws : List ℕ) (vs : List (View E)) (l : List Waiter) (id : ℕ) (v : View E) → queue ws vs l → get_elem? vs id ≡ some v → Goes holds moves id ws vs ws (set vs id (sighted saw_first v (get_or (part place LIST_WORDS ws) 0 0))))
    (plan : Plan) (listed_few : (ws : List ℕ) (vs : List (View E)) (l : List Waiter) (t : ℕ) → queue ws vs l → 0 < counted t l → t < length plan) where
  abbrev M : Type 0
  M = Me (Unit {0}) (View E)

  takes-total : (vs : List (View E)) → total takes_of (map (list_part list) vs) ≡ total holds_of (map frame_of (map spin_part vs))
  takes-total [] = refl
  takes-total (v ∷ vs) = ap (λ (z : ℕ). holds_in v.spin + z) (takes-total vs)

  one-takes : (ws : List ℕ) (vs : List (View E)) → holds ws vs → total takes_of (map (list_part list) vs) ≤ 1
  one-takes ws vs h = let k = spin_kept ws vs h in let b = k.1.lock.balanced.comes in let t = takes-total vs in omega (arith, b, t)

  has-lock : (v : View E) → SpinHolds v.spin → holds_in v.spin ≡ 1
  has-lock v at = ap holds_at at

  -- what a pass learns that loads a word under the spin lock
  learns : (ws : List ℕ) (vs : List (View E)) (l : List Waiter) (id : ℕ) (v : View E) → holds ws vs → queue ws vs l → get_elem? vs id ≡ some v → SpinHolds v.spin
      → (b : ListHand) × Learnt (list_part list v) b × (b.list ≡ l) × (b.words ≡ part place LIST_WORDS ws) × ListKept (part place LIST_WORDS ws) l (set (map (list_part list) vs) id (v.spin, b))
  learns ws vs l id v h q at has = let p : Part = list_part list v in let ps : List Part = map (list_part list) vs in let r = list_kept ws vs l q in let mine = at_map (list_part list) vs id v at in let one = one-takes ws vs h in
      dite (ℕ_discrete p.1.since p.0.entries)
      (λ is. let knows : Knows p = (has-lock v has, is) in let k = list-known (part place LIST_WORDS ws) l ps id p r mine one knows in (
        p.1,
        record { knows = knows; same = λ _. refl; changes = refl; leaver = inl refl; wide = ap length k.1 ∙ r.wide; sound = subst IsList (sym k.0) r.sound; lists = λ still. subst (λ (z : List ℕ × List Waiter). Lists z.0 z.1) (λ i. (sym k.1 i, sym k.0 i)) (k.2 still) },
        k.0,
        k.1,
        subst (ListKept (part place LIST_WORDS ws) l) (sym (set_again ps id p mine)) r,
      ))
      (λ not. let still : p.1.changes ≡ false = false-or-true p.1.changes (λ t. absurd (not ((r.each id p mine).changes t).0.1)) (λ f. f) in
      let b : ListHand = record { list = l; words = part place LIST_WORDS ws; since = p.0.entries; changes = false; leaver = 0 } in (
        b,
        record { knows = (has-lock v has, refl); same = λ k. absurd (not k.1); changes = sym still; leaver = inr refl; wide = r.wide; sound = r.sound; lists = λ _. r.quiet (none-now ws vs l id v h q at has still) },
        refl,
        refl,
        list-learns (part place LIST_WORDS ws) l ps id p r mine one (has-lock v has) still,
      ))
    where
      none-now : (ws : List ℕ) (vs : List (View E)) (l : List Waiter) (id : ℕ) (v : View E) → holds ws vs → queue ws vs l → get_elem? vs id ≡ some v → SpinHolds v.spin → (list v.ext).changes ≡ false
          → total Rattle.wait_list.specs.Lists.changes_of (map (list_part list) vs) ≡ 0
      none-now ws vs l id v h q at has still = none-change (part place LIST_WORDS ws) l (map (list_part list) vs) id (list_part list v) (list_kept ws vs l q) (at_map (list_part list) vs id v at) (one-takes ws vs h) (has-lock v has) still

  gets-there : (slots id i : ℕ) (me : M) → me.0.hand.plan ≡ Some plan → i < LIST_WORDS → SpinHolds me.0.spin → ((l : List Waiter) → may_change Stay me.0 l) → Lets holds moves slots id me (place + i) Load (Got place list with_list may_change (step slots (place + i) 0 0 none) me)
  gets-there slots id i me its inside has may s h len at small = let v = me.0 in let q = queued s.words s.views h in let t = learns s.words s.views q.0 id v h q.1 at has in let n : ℕ = get_or s.words (place + i) 0 in let ws : List ℕ = part place LIST_WORDS s.words in
      let back : i ≡ (place + i) - place = omega arith in let word : get_or ws i 0 ≡ n = part-at s.words place LIST_WORDS i inside in (
        listed with_list Stay v t.0,
        keeps,
        tt,
        lists s.words s.views q.0 id i n v Stay t.0 q.1 at inside has (may q.0) t.2 t.1.leaver (subst (λ (z : List ℕ). ListKept z q.0 (set (map (list_part list) s.views) id (v.spin, t.0))) (sym (ap (set ws i) (sym word) ∙ set-get_or ws i 0)) t.4),
        refl,
        (t.0, t.1, sym word ∙ (ap (λ (z : List ℕ). get_or z i 0) (sym t.3) ∙ ap (get_or' t.0) back), (λ c host. subst (Allowed c) (sym t.2) (list_may s.words s.views q.0 id v c q.1 at has (subst (may_change c v) t.2 host))), (refl, refl), λ p is u there. subst (λ (z : Plan). u < length z) (same-some plan p (sym its ∙ is)) (listed_few s.words s.views q.0 u q.1 (subst (λ (l : List Waiter). 0 < counted u l) t.2 there))),
      )
    where
      get_or' : ListHand → ℕ → ℕ
      get_or' b j = get_or b.words j 0

  puts-there : (slots id i new : ℕ) (me : M) (c : Change) (b : ListHand) → i < LIST_WORDS → SpinHolds me.0.spin → may_change c me.0 (list me.0.ext).list → MayStore (list_part list me.0) i new c b → Lets holds moves slots id me (place + i) (Store new) (λ _. Laid list with_list c b (step slots (place + i) new 0 none) me new)
  puts-there slots id i new me c b inside has allows may = let v = me.0 in stores holds moves slots id (place + i) new me (listed with_list c v b) (λ _. Laid list with_list c b (step slots (place + i) new 0 none) me new) refl
      (λ ws vs h at. let q = queued ws vs h in let p : Part = list_part list v in let ps : List Part = map (list_part list) vs in let r = list_kept ws vs q.0 q.1 in let mine = at_map (list_part list) vs id v at in let one = one-takes ws vs h in
      let k = list-known (part place LIST_WORDS ws) q.0 ps id p r mine one may.knows in let is : b.list ≡ changed c q.0 = may.list ∙ ap (changed c) k.0 in let host : may_change c v q.0 = subst (may_change c v) k.0 allows in (
        lists ws vs q.0 id i new v c b q.1 at inside has host is may.leaver
            (list-stores (part place LIST_WORDS ws) q.0 ps id p r mine i new (changed c q.0) b one may.knows (sound-changed c q.0 r.sound (list_may ws vs q.0 id v c q.1 at has host)) may.since is may.words
            (λ t. subst (λ (z : List ℕ × List Waiter). IsNear z.0 z.1 b.leaver) (λ i. (may.words i, is i)) (may.near t)) (λ t. subst (λ (z : List ℕ × List Waiter). Lists z.0 z.1) (λ i. (may.words i, is i)) (may.done t))),
        (subst (Allowed c) (sym k.0) (list_may ws vs q.0 id v c q.1 at has host), (refl, refl)),
      ))

  sights-there : (slots id : ℕ) (me : M) → Lets holds moves slots id me place Load (Sighted saw_first (step slots place 0 0 none) me)
  sights-there slots id me = let v = me.0 in loads holds moves slots id place me (λ n. sighted saw_first v n) (Sighted saw_first (step slots place 0 0 none) me) (λ _. refl)
      (λ ws vs h at _. let q = queued ws vs h in let zero_at : place + 0 ≡ place = omega arith in (subst (λ (z : ℕ). Goes holds moves id ws vs ws (set vs id (sighted saw_first v z))) (part-at ws place LIST_WORDS 0 (omega arith) ∙ ap (λ (z : ℕ). get_or ws z 0) zero_at) (firsts ws vs q.0 id v q.1 at), (refl, refl)))

  -- a pass that has the spin lock, and is between no two stores of a change, finds the code of the first waiter
  finds-head-there : (slots id : ℕ) (me : M) → me.0.hand.plan ≡ Some plan → SpinHolds me.0.spin → (list me.0.ext).changes ≡ false → Lets holds moves slots id me place Load (FoundHead saw_first (step slots place 0 0 none) me)
  finds-head-there slots id me its has still = let v = me.0 in loads holds moves slots id place me (λ n. sighted saw_first v n) (FoundHead saw_first (step slots place 0 0 none) me) (λ _. refl)
      (λ ws vs h at _. let q = queued ws vs h in let zero_at : place + 0 ≡ place = omega arith in let r = list_kept ws vs q.0 q.1 in let word = part-at ws place LIST_WORDS 0 (omega arith) ∙ ap (λ (z : ℕ). get_or ws z 0) zero_at in
      let quiet = none-change (part place LIST_WORDS ws) q.0 (map (list_part list) vs) id (list_part list v) r (at_map (list_part list) vs id v at) (one-takes ws vs h) (has-lock v has) still in let first = head-is (part place LIST_WORDS ws) q.0 (r.quiet quiet) in let few = first-among (length plan) q.0 (λ t there. listed_few ws vs q.0 t q.1 there) in
      (subst (λ (z : ℕ). Goes holds moves id ws vs ws (set vs id (sighted saw_first v z))) word (firsts ws vs q.0 id v q.1 at), (λ p is. let least : get_or ws place 0 ≤ length plan = omega (arith, word, first, few) in subst (λ (z : Plan). get_or ws place 0 ≤ length z) (same-some plan p (sym its ∙ is)) least, (refl, refl))))

  pub finds-head : (slots id at : ℕ) (me : M) → me.0.hand.plan ≡ Some plan → at ≡ place → SpinHolds me.0.spin → (list me.0.ext).changes ≡ false → Lets holds moves slots id me at Load (FoundHead saw_first (step slots at 0 0 none) me)
  finds-head slots id at me its is has still = subst (λ (z : ℕ). Lets holds moves slots id me z Load (FoundHead saw_first (step slots z 0 0 none) me)) (sym is) (finds-head-there slots id me its has still)

  pub gets : (slots id at i : ℕ) (me : M) → me.0.hand.plan ≡ Some plan → at ≡ place + i → i < LIST_WORDS → SpinHolds me.0.spin → ((l : List Waiter) → may_change Stay me.0 l) → Lets holds moves slots id me at Load (Got place list with_list may_change (step slots at 0 0 none) me)
  gets slots id at i me its is inside has may = subst (λ (z : ℕ). Lets holds moves slots id me z Load (Got place list with_list may_change (step slots z 0 0 none) me)) (sym is) (gets-there slots id i me its inside has may)

  pub puts : (slots id at i new : ℕ) (me : M) (c : Change) (b : ListHand) → at ≡ place + i → i < LIST_WORDS → SpinHolds me.0.spin → may_change c me.0 (list me.0.ext).list → MayStore (list_part list me.0) i new c b → Lets holds moves slots id me at (Store new) (λ _. Laid list with_list c b (step slots at new 0 none) me new)
  puts slots id at i new me c b is inside has allows may = subst (λ (z : ℕ). Lets holds moves slots id me z (Store new) (λ _. Laid list with_list c b (step slots z new 0 none) me new)) (sym is) (puts-there slots id i new me c b inside has allows may)

  pub sights : (slots id at : ℕ) (me : M) → at ≡ place → Lets holds moves slots id me at Load (Sighted saw_first (step slots at 0 0 none) me)
  sights slots id at me is = subst (λ (z : ℕ). Lets holds moves slots id me z Load (Sighted saw_first (step slots z 0 0 none) me)) (sym is) (sights-there slots id me)
