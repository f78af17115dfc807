-- Each kind of step of a mutex keeps the facts of the wake words.
use Rattle.std.proofs.Common.{◌≡◌, ◌≢◌, ℕ, zero, suc, ◌+◌, ◌-◌, ◌/◌, ◌%◌, ◌<◌, ◌≤◌, ◌⊎◌, inl, inr, false, List, [], ◌∷◌, ◌++◌, length, map, set, Some, sym, refl, ap, ◌∙◌, subst, arith, ⊎_elim}
use mathlib.Core.Option.{some, some-injective}
use native.Mathlib.Decide.{ℕ_discrete}
use lib.ListN.{get_elem?}
use lib.Seq.{map-set}
use Rattle.atomic_table.proofs.Lists.{at_map, set_else}
use Rattle.word_bits.specs.declared.TheConstants.{MAX_TASKS}
use Rattle.lock_core.specs.Records.{bit}
use Rattle.lock_core.specs.Views.{SpinRests, hand_of, held_of, is_number}
use Rattle.lock_core.specs.SpinFrames.{holds_at}
use Rattle.lock_core.specs.Spins.{spun, holds_in}
use Rattle.lock_core.specs.Totals.{total, total-at}
use Rattle.lock_core.specs.ViewParts.{at_unmap, keep_part, set_part, set-there}
use Rattle.lock_core.proofs.HandLaws.{false-or-true, is_number-here}
use Rattle.lock_core.proofs.RowLaws.{none-some, same-some}
use Rattle.mutex_word.specs.declared.host.Turn.TheVariants.{Hand as HandOn}
use Rattle.mutex_word.specs.Holders.{OwnKept, turns}
use Rattle.mutex_word.specs.Laws.Own.{Named, no-holders, no-codes}
use Rattle.wait_list.specs.Laws.List.{holds-or-not}
use Rattle.wait_list.specs.Lists.{AreTasks, first_code, without, listed, sighted}
use Rattle.wake_duty.specs.DutyWakes.{WakePart, WakeKept, PartOk, IsQuiet, wake_part, with_hand, owed, chose_any, waits, guards, keeps_awake, awake, duty_of, choosing, after_failed_try, failing}
use Rattle.wake_duty.specs.DutyWakes.{awakened, looking}
use Rattle.wake_duty.specs.Laws.Wake.{wake-goes, wake-guarded, wake-quiet, wake-fails, wake-hands, wake-enters, wake-leaves, wake-looks, wake-chooses, wake-spins, no-chosen, owing-chosen, tried-waits}
use Rattle.wake_duty.specs.Laws.Wake.{awake-tried}
use Rattle.mutex_slow.specs.Mutexes.{V, HasLock, Coupled, IsUnpicked, point_of, wake_of, turned, with_list, saw_first}
use Rattle.mutex_slow.specs.Laws.Coupled.{Apart, first-none, point-cases, rest-weighs}
use Rattle.mutex_slow.specs.Types.{Hand, SpinHand, Alone, Fail, Take, Free, Waiter, Enter, Leave, ListHand, Duty, NoDuty, Owing, Chosen, Awake, Tried, WakeHand}

abbrev pub wparted : V → WakePart
wparted v = wake_part wake_of v

-- a part of a sum that isn't 0 is some view's
pub some-of : {X : Type 0} (f : X → ℕ) (xs : List X) → 0 < total f xs → (j : ℕ) × (x : X) × (get_elem? xs j ≡ some x) × (0 < f x)
some-of f [] l = absurd (omega (arith, l))
some-of f (x ∷ xs) l = elim (native.Mathlib.Decide.dec_le (f x) 0) [
  | yes none ↦ let r = some-of f xs (omega (arith, l, none)) in
      (suc r.0, r.1, r.2, r.3)
  | no has ↦ (zero, x, refl, omega (arith, has))
]

-- who holds guards
pub helds-guard : (vs : List V) → total held_of (map hand_of vs) ≤ total guards (map wparted vs)
helds-guard [] = omega arith
helds-guard (v ∷ vs) = let e = helds-guard vs in omega (arith, e)

pub first-small : (l : List Waiter) (t : ℕ) → AreTasks l → first_code l ≡ t + 1 → t < MAX_TASKS
first-small [] t all e = absurd (omega (arith, e))
first-small (w ∷ l) t all e = let a = all.0 in omega (arith, a, e)

-- a word that names a task and picks none: somebody holds
pub word-held : (n : ℕ) (hs : List Hand) → OwnKept n hs → 8 ≤ n → n % 8 < 4 → total held_of hs ≡ 1
word-held n hs o big low = elim (native.Mathlib.Decide.dec_le (total held_of hs) 0) [
  | yes none ↦ let a = no-codes hs none in let b = o.held low in absurd (omega (arith, a, b, big))
  | no some_h ↦ let a = o.one in omega (arith, a, some_h)
]

-- two words of the same task, both picking or both not: as many hold
pub same-holders : (m n : ℕ) (hs gs : List Hand) → OwnKept m hs → OwnKept n gs → Named hs → Named gs → m / 8 ≡ n / 8 → (4 ≤ m % 8 → 4 ≤ n % 8) → (m % 8 < 4 → n % 8 < 4)
    → total held_of gs ≡ total held_of hs
same-holders m n hs gs o p named named' same high low = elim (native.Mathlib.Decide.dec_le 4 (m % 8)) [
  | yes is ↦ let a = o.picked is in let b = p.picked (high is) in omega (arith, a, b)
  | no not ↦ let few : m % 8 < 4 = omega (arith, not) in elim (native.Mathlib.Decide.dec_le 8 m) [
    | yes big ↦ let a = word-held m hs o big few in let b = word-held n gs p (omega (arith, big, same)) (low few) in omega (arith, a, b)
    | no less ↦ let a = no-holders hs m o named (omega (arith, less)) in let b = no-holders gs n p named' (omega (arith, less, same)) in omega (arith, a, b)
  ]
]

choosing-owing : (z code : ℕ) → z < 2 → (choosing Owing z code ≡ Owing) ⊎ ((z ≡ 1) × (choosing Owing z code ≡ duty_of code))
choosing-owing zero code few = inl refl
choosing-owing (suc z) code few = inr (omega (arith, few), refl)

-- a debtor chooses, and nobody else
pub choosing-or : (d : Duty) (freed code : ℕ) → (choosing d (freed % 2) code ≡ d) ⊎ ((owed d freed ≡ 1) × (choosing d (freed % 2) code ≡ duty_of code))
choosing-or NoDuty freed code = inl refl
choosing-or Owing freed code = choosing-owing (freed % 2) code (omega arith)
choosing-or (Chosen t) freed code = inl refl

module _ (words : List ℕ) (n : ℕ) (l : List Waiter) (vs : List V) (id : ℕ) (v : V) (c : Coupled n l vs) (k : WakeKept words l (map wparted vs)) (at : get_elem? vs id ≡ some v) (apart : Apart vs id v)
    (small : AreTasks l) where
  abbrev Keeps : List WakePart → Type 0
  Keeps = WakeKept words l

  abbrev p : WakePart
  p = wparted v

  abbrev ps : List WakePart
  ps = map wparted vs

  there : get_elem? ps id ≡ some p
  there = at_map wparted vs id v at

  others : HasLock v → (j : ℕ) (x : WakePart) → j ≢ id → get_elem? ps j ≡ some x → x.locked ≡ 0
  others has j x other at' = let u = at_unmap wparted vs j x at' in ap (λ (z : WakePart). z.locked) (sym u.2) ∙ apart.locks j u.0 u.1 other has

  absent : v.ext.queued ≡ false → waits v.ext.wake.wait_state ≡ 0
  absent out = sym ((c.each id v at).waits) ∙ ap bit out

  first-task : (t : ℕ) → first_code l ≡ t + 1 → t < MAX_TASKS
  first-task t e = first-small l t small e

  -- a step that leaves what it knows of wakes
  pub duty-stays : (w : V) → w.hand.task ≡ v.hand.task → w.hand.held ≡ v.hand.held → w.hand.freed ≡ v.hand.freed → holds_in w.spin ≡ holds_in v.spin → w.spin.entries ≡ v.spin.entries
      → w.ext.wake ≡ v.ext.wake → Keeps (map wparted (set vs id w))
  duty-stays w task held freed locked entries wake = keep_part wparted Keeps vs id v w at
      (λ i. record { task = task i; held = held i; freed = freed i; locked = locked i; entries = entries i; wake = wake i }) k

  -- one that gets a number, or gives it back
  pub duty-renames : (w : V) → w.hand.held ≡ v.hand.held → w.hand.freed ≡ v.hand.freed → w.ext.wake ≡ v.ext.wake → IsQuiet p → Keeps (map wparted (set vs id w))
  duty-renames w held freed wake quiet = set_part wparted Keeps vs id w (wake-quiet words l ps id p k there (wparted w) quiet record {
    clear = (λ i. owed (wake i).duty (freed i) + chose_any (wake i).duty) ∙ quiet.clear;
    absent = ap (λ (z : WakeHand). waits z.wait_state) wake ∙ quiet.absent;
    out = held ∙ quiet.out;
  })

  -- one that gives it this part
  becomes : (w : V) (q : WakePart) → wparted w ≡ q → (K : List WakePart → Type 0) → K (set ps id q) → K (map wparted (set vs id w))
  becomes w q is K after = set_part wparted K vs id w (subst (λ (z : WakePart). K (set ps id z)) (sym is) after)

  pub duty-spins : (s : SpinHand) → s.entries ≡ v.spin.entries + (holds_in s - holds_in v.spin) → Keeps (map wparted (set vs id (spun v s)))
  duty-spins s goes = set_part wparted Keeps vs id (spun v s) (wake-spins words l ps id p k there (holds_in s) s.entries (holds-or-not v.spin (λ has. inr has) (λ out. inl out)) goes)

  pub duty-fails : (h : Hand) (t : ℕ) → OwnKept n (map hand_of vs) → v.hand.task ≡ Some t → IsUnpicked n t → 8 ≤ n → h.task ≡ v.hand.task → h.held ≡ v.hand.held → h.freed ≡ v.hand.freed
      → Keeps (map wparted (set vs id (turns turned Fail v h)))
  duty-fails h t o mine unpicked big task held freed = let w : V = turns turned Fail v h in holds-or-not v.spin
      (λ has. becomes w (with_hand p (record p.wake { wait_state = after_failed_try p.wake.wait_state p.entries }))
      (λ i. record { task = task i; held = held i; freed = freed i; locked = holds_in v.spin; entries = v.spin.entries; wake = failing (has i) v.spin.entries v.ext.wake }) Keeps
      (wake-fails words l ps id p k there (elim (native.Mathlib.Decide.dec_le 4 (n % 8)) [
        | yes high ↦ inr (λ u is e. let f = c.picked high in let same : u ≡ t = same-some u t (sym is ∙ mine) in unpicked high (omega (arith, f, e, same)))
        | no low ↦ inl (let a = word-held n (map hand_of vs) o big (omega (arith, low)) in let b = helds-guard vs in omega (arith, a, b))
      ]) t mine))
      (λ out. duty-stays w task held freed refl refl (ap (λ (z : ℕ). failing z v.spin.entries v.ext.wake) out))

  pub duty-takes : (m t : ℕ) (h : Hand) → OwnKept m (set (map hand_of vs) id h) → 8 ≤ m → m % 8 < 4 → v.hand.task ≡ Some t → h.task ≡ v.hand.task
      → Keeps (map wparted (set vs id (turns turned Take v h)))
  duty-takes m t h o big low mine task = let w : V = turns turned Take v h in let ok = k.each id p there in set_part wparted Keeps vs id w (wake-guarded words l ps id p k there (wparted w)
      record { waiter = λ _. refl; named = λ none. none-some t (sym none ∙ (task ∙ mine)); past = ok.past; chosen = λ u is. no-chosen u is }
      (let a = word-held m (set (map hand_of vs) id h) o big low in let b =
      subst (λ (z : List Hand × List WakePart). total held_of z.0 ≤ total guards z.1) (λ i. (map-set hand_of vs id w i, map-set wparted vs id w i)) (helds-guard (set vs id w)) in
      omega (arith, a, b)))

  -- a release to the flags: where the flag of the waiters is set, it owes a wake; else nobody waits, or the first waiter hasn't set it yet
  pub duty-frees : (m t : ℕ) (h : Hand) → ((i j : ℕ) (x y : V) → get_elem? vs i ≡ some x → get_elem? vs j ≡ some y → HasLock x → HasLock y → i ≡ j) → v.hand.task ≡ Some t → SpinRests v.spin
      → m ≡ n % 8 → v.ext.queued ≡ false → h.task ≡ v.hand.task → h.freed ≡ m → Keeps (map wparted (set vs id (turns turned Free v h)))
  duty-frees m t h one mine rests is out task freed = let w : V = turns turned Free v h in let none = absent out in set_part wparted Keeps vs id w (
      let q : WakePart = wparted w in
      let ok : PartOk q = record {
        waiter = λ some_w. absurd (omega (arith, some_w, none));
        named = λ z. none-some t (sym z ∙ (task ∙ mine));
        past =
            λ e z. tried-waits v.ext.wake.wait_state e z none;
        chosen = λ u z. owing-chosen u z;
      } in
      elim (native.Mathlib.Decide.dec_le 1 (n % 2)) [
        | yes odd ↦ wake-guarded words l ps id p k there q ok (let a = total-at guards (set ps id q) id q (set-there ps id p q there) in omega (arith, a, odd, freed, is))
        | no even ↦ wake-goes words l ps id p k there words l q k.wide k.bits ok
            (λ u e. let j = joins even u e in let x : V = j.1 in let b =
            total-at (keeps_awake u) (set ps id q) j.0 (wparted x) (set_else ps id j.0 q (not-mine j.0 x j.2 j.3) ∙ at_map wparted vs j.0 x j.2) in
            let a : awake u x.hand.task x.ext.wake.wait_state ≡ is_number u x.hand.task = ap (awake u x.hand.task) j.5 in
            let d : is_number u x.hand.task ≡ 1 = ap (is_number u) j.4 ∙ is_number-here u in omega (arith, a, b, d))
            (λ s. tried-waits v.ext.wake.wait_state q.entries s.tried none)
            (λ i y _ at' s. let e = s.first in let j = joins even e.0 e.2 in let z = at_unmap wparted vs i y at' in let x : V = j.1 in
            let has : HasLock z.0 = ap (λ (f : WakePart). f.locked) z.2 ∙ s.locked in let same : i ≡ j.0 = one i j.0 z.0 x z.1 j.2 has j.3 in
            let f : z.0 ≡ x = some-injective z.0 x (sym z.1 ∙ (ap (get_elem? vs) same ∙ j.2)) in
            absurd (awake-tried y.entries (sym j.5 ∙ (ap (λ (g : V). g.ext.wake.wait_state) (sym f) ∙ (ap (λ (g : WakePart). g.wake.wait_state) z.2 ∙ s.tried)))))
      ])
    where
      not-mine : (j : ℕ) (x : V) → get_elem? vs j ≡ some x → HasLock x → j ≢ id
      not-mine j x at' has e = let f : x ≡ v = some-injective x v (sym at' ∙ (ap (get_elem? vs) e ∙ at)) in let a : holds_in x.spin ≡ holds_in v.spin = ap (λ (g : V). holds_in g.spin) f in
          let b : holds_in v.spin ≡ 0 = ap holds_at rests in omega (arith, a, b, has)

      -- without that flag the first waiter is between its append and the flag
      joins : (1 ≤ n % 2 → ⊥) → (u : ℕ) → first_code l ≡ u + 1 → (j : ℕ) × (x : V) × (get_elem? vs j ≡ some x) × HasLock x × (x.hand.task ≡ Some u) × (x.ext.wake.wait_state ≡ Awake)
      joins even u e = let lo : 0 < length l = first-none l (omega (arith, e)) in elim (native.Mathlib.Decide.dec_le (total point_of vs) 0) [
        | yes z ↦ absurd (even (let f = (c.flags (omega (arith, z))).some lo in omega (arith, f)))
        | no some_p ↦ let s = some-of point_of vs (omega (arith, some_p)) in let x : V = s.1 in let weighs = s.3 in point-cases x.ext.point
            (λ r. let f = rest-weighs x.ext.point r in absurd (omega (arith, f, weighs)))
            (λ r. let j = (c.each s.0 x s.2).joins r in let same : j.1.0 ≡ u = (let a = j.1.2 in omega (arith, a, e)) in (s.0, x, s.2, j.0, j.1.1 ∙ ap Some same, j.4))
            (λ r. let j = (c.each s.0 x s.2).empties r in let none = j.1 in absurd (omega (arith, none, lo)))
      ]

  pub duty-hands : (t : ℕ) (h : Hand) → HasLock v → v.hand.task ≡ Some t → v.ext.queued ≡ false → v.ext.list.list ≡ l → h.task ≡ v.hand.task → Keeps (map wparted (set vs id (turns turned HandOn v h)))
  duty-hands t h has mine out is task = let w : V = turns turned HandOn v h in
      set_part wparted Keeps vs id w (wake-hands words l ps id p k there (wparted w) t mine task refl refl (ap (λ (z : List Waiter). record v.ext.wake { duty = duty_of (first_code z) }) is)
      (absent out) first-task (others has))

  pub duty-enters : (w : Waiter) (b : ListHand) → HasLock v → v.hand.task ≡ Some w.task → owed v.ext.wake.duty v.hand.freed + chose_any v.ext.wake.duty ≡ 0 → v.ext.queued ≡ false
      → WakeKept words (l ++ w ∷ []) (map wparted (set vs id (listed with_list (Enter w) v b)))
  duty-enters w b has mine clear out = set_part wparted (WakeKept words (l ++ w ∷ [])) vs id (listed with_list (Enter w) v b)
      (wake-enters words l ps id p k there w mine clear (others has) (absent out))

  pub duty-leaves : (t : ℕ) (b : ListHand) → HasLock v → v.hand.task ≡ Some t → (v.hand.held ≡ Alone) ⊎ (v.ext.wake.wait_state ≡ Tried v.spin.entries)
      → WakeKept words (without t l) (map wparted (set vs id (listed with_list (Leave t) v b)))
  duty-leaves t b has mine may = set_part wparted (WakeKept words (without t l)) vs id (listed with_list (Leave t) v b) (wake-leaves words l ps id p k there t mine has may (others has))

  pub duty-looks : (code : ℕ) → (HasLock v → v.ext.list.changes ≡ false → code ≡ first_code l) → Keeps (map wparted (set vs id (sighted saw_first v code)))
  duty-looks code is = let w : V = sighted saw_first v code in holds-or-not v.spin
      (λ has. false-or-true v.ext.list.changes
      (λ changes. duty-stays w refl refl refl refl refl (λ i. looking (has i) (changes i) v.hand.freed code v.ext.wake))
      (λ still. ⊎_elim
      (λ (same : choosing v.ext.wake.duty (v.hand.freed % 2) code ≡ v.ext.wake.duty). duty-stays w refl refl refl refl refl
      ((λ i. looking (has i) (still i) v.hand.freed code v.ext.wake) ∙ (λ i. record v.ext.wake { duty = same i })))
      (λ (owes : (owed v.ext.wake.duty v.hand.freed ≡ 1) × (choosing v.ext.wake.duty (v.hand.freed % 2) code ≡ duty_of code)).
      let path : w.ext.wake ≡ record v.ext.wake { duty = duty_of (first_code l) } =
      (λ i. looking (has i) (still i) v.hand.freed code v.ext.wake) ∙ ((λ i. record v.ext.wake { duty = owes.1 i }) ∙ ap (λ (z : ℕ). record v.ext.wake { duty = duty_of z }) (is has still)) in
      becomes w (with_hand p (record p.wake { duty = duty_of (first_code l) })) (ap (with_hand p) path) Keeps (wake-chooses words l ps id p k there owes.0 first-task (others has)))
      (choosing-or v.ext.wake.duty v.hand.freed code)))
      (λ out. becomes w (with_hand p (record p.wake { wait_state = awakened p.wake.wait_state })) (ap (λ (z : ℕ). with_hand p (looking z v.ext.list.changes v.hand.freed code v.ext.wake)) out) Keeps
      (wake-looks words l ps id p k there out))
