-- Each kind of step keeps the facts of the wake words.
use Rattle.std.proofs.Common.{◌≡◌, ◌≢◌, ℕ, zero, suc, ◌+◌, ◌-◌, ◌*◌, ◌<◌, ◌≤◌, ◌==◌, ◌⊎◌, inl, Bool, List, [], ◌∷◌, ◌++◌, length, set, get_or, Option, Some, sym, refl, ap, ◌∙◌, arith, eq-eqb, ne_eqb}
use Rattle.std.proofs.Common.{⊎_elim, length-set, get_or-set_same, get_or-set_other}
use mathlib.Core.Option.{some, some-ne-none}
use mathlib.Core.Logic.{dite}
use native.Mathlib.Decide.{ℕ_discrete}
use lib.ListN.{get_elem?}
use Rattle.word_bits.specs.declared.TheConstants.{MAX_TASKS}
use Rattle.lock_core.specs.Records.{bit}
use Rattle.lock_core.specs.Views.{held_weight, is_number}
use Rattle.lock_core.specs.Totals.{total, total-set, total-snoc, total-at}
use Rattle.lock_core.specs.ViewParts.{each-set, each-snoc, set-there}
use Rattle.lock_core.proofs.HandLaws.{is_number-here, is_number-else}
use Rattle.lock_core.proofs.RowLaws.{none-some}
use Rattle.wait_list.specs.Lists.{first_code, without}
use Rattle.wait_list.proofs.Waiters.{first-without}
use Rattle.wake_duty.specs.DutyWakes.{WAKE_WORDS, wake_word, WakePart, owed, chose, chose_any, awake, waits, guards, keeps_awake, debt, IsStuck, IsQuiet, PartOk, WakeKept, duty_of, awakened}
use Rattle.wake_duty.specs.DutyWakes.{after_failed_try, tried_at, looked_at, owing_at, drowsed_at, failing, looking, drowsing, Sets, Drowses, with_hand}
use Rattle.wake_duty.specs.Types.{Alone, Waiter, Duty, NoDuty, Owing, Chosen, WaitState, Absent, Awake, Tried, WakeHand}

-- who isn't in the list isn't awake, and has tried nothing
pub awake-none : (x : WaitState) (t : ℕ) (task : Option ℕ) → waits x ≡ 0 → awake t task x ≡ 0
awake-none Absent t task e = refl
awake-none Awake t task e = absurd (omega (arith, e))
awake-none (Tried n) t task e = refl

pub tried-waits : {P : Type 0} (x : WaitState) (e : ℕ) → x ≡ Tried e → waits x ≡ 0 → P
tried-waits x e is none = let w : waits x ≡ 1 = ap waits is in absurd (omega (arith, w, none))

pub awake-else : (x : WaitState) (t u : ℕ) → u ≢ t → awake t (Some u) x ≡ 0
awake-else Absent t u not = refl
awake-else Awake t u not = is_number-else t u not
awake-else (Tried n) t u not = refl

awake-after_failed_try : (x : WaitState) (e t : ℕ) (task : Option ℕ) → awake t task (after_failed_try x e) ≡ 0
awake-after_failed_try Absent e t task = refl
awake-after_failed_try Awake e t task = refl
awake-after_failed_try (Tried n) e t task = refl

waits-after_failed_try : (x : WaitState) (e : ℕ) → waits (after_failed_try x e) ≡ waits x
waits-after_failed_try Absent e = refl
waits-after_failed_try Awake e = refl
waits-after_failed_try (Tried n) e = refl

waits-awakened : (x : WaitState) → waits (awakened x) ≡ waits x
waits-awakened Absent = refl
waits-awakened Awake = refl
waits-awakened (Tried n) = refl

awake-awakened : (x : WaitState) (t : ℕ) (task : Option ℕ) → awake t task x ≤ awake t task (awakened x)
awake-awakened Absent t task = omega arith
awake-awakened Awake t task = omega arith
awake-awakened (Tried n) t task = omega arith

-- a failed try, a look and a swap of the own wake word leave whether the task is in the list
waits-tried : (h e : ℕ) (x : WaitState) → waits (tried_at h e x) ≡ waits x
waits-tried zero e x = refl
waits-tried (suc h) e x = waits-after_failed_try x e

waits-looked : (h : ℕ) (x : WaitState) → waits (looked_at h x) ≡ waits x
waits-looked zero x = waits-awakened x
waits-looked (suc h) x = refl

waits-drowsed : (old e : ℕ) (x : WaitState) → x ≡ Tried e → waits (drowsed_at old x) ≡ waits x
waits-drowsed zero e x tried = refl
waits-drowsed (suc n) e x tried = sym (ap waits tried)

pub waits-failing : (h e : ℕ) (w : WakeHand) → waits (failing h e w).wait_state ≡ waits w.wait_state
waits-failing h e w = waits-tried h e w.wait_state

pub waits-looking : (h : ℕ) (changes : Bool) (freed code : ℕ) (w : WakeHand) → waits (looking h changes freed code w).wait_state ≡ waits w.wait_state
waits-looking h changes freed code w = waits-looked h w.wait_state

pub waits-drowsing : (old : ℕ) (w : WakeHand) → (e : ℕ) × (w.wait_state ≡ Tried e) → waits (drowsing old w).wait_state ≡ waits w.wait_state
waits-drowsing old w tried = waits-drowsed old tried.0 w.wait_state tried.1

-- a look under the wait lock leaves how its task waits
pub wait_state-looking : (h : ℕ) (changes : Bool) (freed code : ℕ) (w : WakeHand) → h ≡ 1 → (looking h changes freed code w).wait_state ≡ w.wait_state
wait_state-looking h changes freed code w is = ap (λ (z : ℕ). looked_at z w.wait_state) is

-- a look without the wait lock leaves what it owes
pub duty-looking : (h : ℕ) (changes : Bool) (freed code : ℕ) (w : WakeHand) → h ≡ 0 → (looking h changes freed code w).duty ≡ w.duty
duty-looking h changes freed code w is = ap (λ (z : ℕ). owing_at z changes freed code w.duty) is

-- a waiter whose try failed under the wait lock has tried
pub tried-here : (h e : ℕ) (x : WaitState) → h ≡ 1 → waits x ≡ 1 → tried_at h e x ≡ Tried e
tried-here h e x is some_w = ap (λ (z : ℕ). tried_at z e x) is ∙ after_failed_try-here x e some_w
  where
    after_failed_try-here : (x : WaitState) (e : ℕ) → waits x ≡ 1 → after_failed_try x e ≡ Tried e
    after_failed_try-here Absent e w = absurd (omega (arith, w))
    after_failed_try-here Awake e w = refl
    after_failed_try-here (Tried n) e w = refl

abbrev stamp : WaitState → ℕ
stamp Absent = 0
stamp Awake = 0
stamp (Tried n) = n

-- the stamp of a try
pub same-stamp : (a b : ℕ) → Tried a ≡ Tried b → a ≡ b
same-stamp a b e = ap stamp e

after_failed_try-stamp : (x : WaitState) (e n : ℕ) → after_failed_try x e ≡ Tried n → n ≡ e
after_failed_try-stamp Absent e n is = tried-waits Absent n is refl
after_failed_try-stamp Awake e n is = sym (ap stamp is)
after_failed_try-stamp (Tried m) e n is = sym (ap stamp is)

awakened-tried : {P : Type 0} (x : WaitState) (n : ℕ) → awakened x ≡ Tried n → P
awakened-tried Absent n is = tried-waits Absent n is refl
awakened-tried Awake n is = absurd cc
awakened-tried (Tried m) n is = absurd cc

pub awake-tried : {P : Type 0} (n : ℕ) → Awake ≡ Tried n → P
awake-tried n is = absurd cc

abbrev target : Duty → ℕ
target NoDuty = 0
target Owing = 0
target (Chosen t) = t

pub no-chosen : {P : Type 0} (t : ℕ) → NoDuty ≡ Chosen t → P
no-chosen t is = let w : chose_any NoDuty ≡ 1 = ap chose_any is in absurd (omega (arith, w))

pub owing-chosen : {P : Type 0} (t : ℕ) → Owing ≡ Chosen t → P
owing-chosen t is = let w : chose_any Owing ≡ 1 = ap chose_any is in absurd (omega (arith, w))

chose-none : (x : Duty) (t : ℕ) → chose_any x ≡ 0 → chose t x ≡ 0
chose-none NoDuty t e = refl
chose-none Owing t e = refl
chose-none (Chosen u) t e = absurd (omega (arith, e))

bit-here : (t : ℕ) → bit (t == t) ≡ 1
bit-here t = ap bit (eq-eqb t t refl)

pub duty-first : (n t : ℕ) → n ≡ t + 1 → duty_of n ≡ Chosen t
duty-first n t e = let f : n ≡ suc t = omega (arith, e) in ap duty_of f

chose-here : (t : ℕ) (x : Duty) → x ≡ Chosen t → chose t x ≡ 1
chose-here t x is = ap (chose t) is ∙ bit-here t

-- who is chosen by a code
duty-names : (n t : ℕ) → duty_of n ≡ Chosen t → n ≡ t + 1
duty-names zero t is = no-chosen t is
duty-names (suc n) t is = let e : n ≡ t = ap target is in omega (arith, e)

-- more of each summand, more of the sum
total-least : {X : Type 0} (f g : X → ℕ) → ((x : X) → f x ≤ g x) → (xs : List X) → total f xs ≤ total g xs
total-least f g less [] = omega arith
total-least f g less (x ∷ xs) = let a = less x in let b = total-least f g less xs in omega (arith, a, b)

guards-keep : (t : ℕ) (p : WakePart) → guards p ≤ keeps_awake t p
guards-keep t p = omega arith

pub guards-keeps : (t : ℕ) (ps : List WakePart) → total guards ps ≤ total (keeps_awake t) ps
guards-keeps t ps = total-least guards (keeps_awake t) (guards-keep t) ps

-- a quiet part adds nothing
quiet-weighs : (p : WakePart) (t : ℕ) → IsQuiet p → keeps_awake t p ≡ 0
quiet-weighs p t q = let a = q.clear in let b : held_weight p.held ≡ 0 = ap held_weight q.out in let c = awake-none p.wake.wait_state t p.task q.absent in
    let d = chose-none p.wake.duty t (omega (arith, a)) in omega (arith, a, b, c, d)

quiet-guards : (p : WakePart) → IsQuiet p → guards p ≡ 0
quiet-guards p q = let a = q.clear in let b : held_weight p.held ≡ 0 = ap held_weight q.out in omega (arith, a, b)

quiet-ok : (p : WakePart) → IsQuiet p → PartOk p
quiet-ok p q = let a = q.clear in let z = q.absent in record {
  waiter = λ some_w. absurd (omega (arith, some_w, z));
  named = λ _. q;
  past = λ e is. tried-waits p.wake.wait_state e is z;
  chosen = λ t is. let w : chose_any p.wake.duty ≡ 1 = ap chose_any is in absurd (omega (arith, w, a));
}

module _ (words : List ℕ) (l : List Waiter) (ps : List WakePart) (id : ℕ) (p : WakePart) (r : WakeKept words l ps) (at : get_elem? ps id ≡ some p) where
  -- what there is to show of a step of one pass
  pub wake-goes : (words' : List ℕ) (l' : List Waiter) (q : WakePart) → length words' ≡ WAKE_WORDS → ((t : ℕ) → t < MAX_TASKS → wake_word words' t ≤ 1) → PartOk q
      → ((t : ℕ) → first_code l' ≡ t + 1 → 1 ≤ total (keeps_awake t) (set ps id q) + wake_word words' t)
      → (IsStuck l' q → 1 ≤ total guards (set ps id q)) → ((j : ℕ) (w : WakePart) → j ≢ id → get_elem? ps j ≡ some w → IsStuck l' w → 1 ≤ total guards (set ps id q)) → WakeKept words' l' (set ps id q)
  wake-goes words' l' q wide bits ok first mine others = record {
    wide = wide;
    bits = bits;
    each = each-set PartOk PartOk ps id q ok (λ j w _ _ k. k) r.each;
    first = first;
    stuck = each-set (λ w. IsStuck l w → 1 ≤ total guards ps) (λ w. IsStuck l' w → 1 ≤ total guards (set ps id q)) ps id q mine (λ j w other at' _. others j w other at') r.stuck;
  }

  -- a pass that guards is left
  pub wake-guarded : (q : WakePart) → PartOk q → 1 ≤ total guards (set ps id q) → WakeKept words l (set ps id q)
  wake-guarded q ok some_g = wake-goes words l q r.wide r.bits ok (λ t _. let a = guards-keeps t (set ps id q) in omega (arith, a, some_g)) (λ _. some_g) (λ j w _ _ _. some_g)

  -- the part weighs no less
  pub wake-keeps : (q : WakePart) → PartOk q → ((t : ℕ) → first_code l ≡ t + 1 → keeps_awake t p ≤ keeps_awake t q) → guards p ≤ guards q → (IsStuck l q → IsStuck l p ⊎ (1 ≤ guards q))
      → WakeKept words l (set ps id q)
  wake-keeps q ok more same stuck = let g = total-set guards ps id p q at in wake-goes words l q r.wide r.bits ok
      (λ t e. let a = r.first t e in let s = total-set (keeps_awake t) ps id p q at in let m = more t e in omega (arith, a, s, m))
      (λ is. ⊎_elim (λ (old : IsStuck l p). let a = r.stuck id p at old in omega (arith, a, g, same))
      (λ (own : 1 ≤ guards q). let a = total-at guards (set ps id q) id q (set-there ps id p q at) in omega (arith, a, own)) (stuck is))
      (λ j w _ at' is. let a = r.stuck j w at' is in omega (arith, a, g, same))

  -- a quiet part becomes another quiet one
  pub wake-quiet : (q : WakePart) → IsQuiet p → IsQuiet q → WakeKept words l (set ps id q)
  wake-quiet q was now = wake-keeps q (quiet-ok q now) (λ t _. let a = quiet-weighs p t was in omega (arith, a)) (let a = quiet-guards p was in omega (arith, a))
      (λ is. tried-waits q.wake.wait_state q.entries is.tried now.absent)

  -- the wait lock is taken or released
  pub wake-spins : (locked entries : ℕ) → (p.locked ≡ 0) ⊎ (p.locked ≡ 1) → entries ≡ p.entries + (locked - p.locked) → WakeKept words l (set ps id (record p { locked = locked; entries = entries }))
  wake-spins locked entries either goes = let ok = r.each id p at in wake-keeps (record p { locked = locked; entries = entries })
      record {
        waiter = ok.waiter;
        named = λ none. let q = ok.named none in record { clear = q.clear; absent = q.absent; out = q.out };
        past = λ e is. let a = ok.past e is in
            omega (arith, a, goes);
        chosen = ok.chosen;
      }
      (λ t _. omega arith) (omega arith)
      (λ is. let has = is.locked in let a = ok.past entries is.tried in
      ⊎_elim (λ (z : p.locked ≡ 0). absurd (omega (arith, z, a, goes, has)))
      (λ (o : p.locked ≡ 1). let back : entries ≡ p.entries = omega (arith, o, goes, has) in inl record { locked = o; tried = is.tried ∙ ap Tried back; first = is.first }) either)

  -- a try fails under the wait lock
  pub wake-fails : (1 ≤ total guards ps) ⊎ ((t : ℕ) → p.task ≡ Some t → first_code l ≢ t + 1) → (t : ℕ) → p.task ≡ Some t
      → WakeKept words l (set ps id (with_hand p (record p.wake { wait_state = after_failed_try p.wake.wait_state p.entries })))
  wake-fails held_or t mine = let ok = r.each id p at in let q : WakePart = with_hand p (record p.wake { wait_state = after_failed_try p.wake.wait_state p.entries }) in
      let same = waits-after_failed_try p.wake.wait_state p.entries in
      let fine : PartOk q = record {
        waiter = λ some_w. ok.waiter (omega (arith, some_w, same));
        named = λ none. none-some t (sym none ∙ mine);
        past = λ e is. let a = after_failed_try-stamp p.wake.wait_state p.entries e is in omega (arith, a);
        chosen = ok.chosen;
      } in ⊎_elim
      (λ (g : 1 ≤ total guards ps). wake-guarded q fine (let s = total-set guards ps id p q at in omega (arith, s, g)))
      (λ (other : (t : ℕ) → p.task ≡ Some t → first_code l ≢ t + 1). wake-keeps q fine
      (λ u e. let a : awake u p.task p.wake.wait_state ≡ 0 = ap (λ (z : Option ℕ). awake u z p.wake.wait_state) mine ∙ awake-else p.wake.wait_state u t (λ z. other t mine (omega (arith, e, z))) in
      omega (arith, a))
      (omega arith)
      (λ is. absurd (other is.first.0 is.first.1 is.first.2)))
      held_or

  -- the holder hands over to the first waiter
  pub wake-hands : (q : WakePart) (t : ℕ) → p.task ≡ Some t → q.task ≡ p.task → q.locked ≡ p.locked → q.entries ≡ p.entries → q.wake ≡ record p.wake { duty = duty_of (first_code l) }
      → waits p.wake.wait_state ≡ 0 → ((u : ℕ) → first_code l ≡ u + 1 → u < MAX_TASKS) → ((j : ℕ) (w : WakePart) → j ≢ id → get_elem? ps j ≡ some w → w.locked ≡ 0) → WakeKept words l (set ps id q)
  wake-hands q t mine task locked entries wake absent small others = let d : q.wake.duty ≡ duty_of (first_code l) = ap (λ (z : WakeHand). z.duty) wake in
      let v : q.wake.wait_state ≡ p.wake.wait_state = ap (λ (z : WakeHand). z.wait_state) wake in let none : waits q.wake.wait_state ≡ 0 = ap waits v ∙ absent in wake-goes words l q r.wide r.bits
      record {
        waiter = λ some_w. absurd (omega (arith, some_w, none));
        named = λ z. none-some t (sym z ∙ (task ∙ mine));
        past = λ e is. tried-waits q.wake.wait_state e is none;
        chosen = λ u is. small u (duty-names (first_code l) u (sym d ∙ is));
      }
      (λ u e. let a = total-at (keeps_awake u) (set ps id q) id q (set-there ps id p q at) in let c = chose-here u q.wake.duty (d ∙ duty-first (first_code l) u e) in omega (arith, a, c))
      (λ is. tried-waits q.wake.wait_state q.entries is.tried none)
      (λ j w other at' is. let a = others j w other at' in let b = is.locked in absurd (omega (arith, a, b)))

  -- a waiter enters, awake
  pub wake-enters : (w : Waiter) → p.task ≡ Some w.task → debt p ≡ 0 → ((j : ℕ) (x : WakePart) → j ≢ id → get_elem? ps j ≡ some x → x.locked ≡ 0) → waits p.wake.wait_state ≡ 0
      → WakeKept words (l ++ w ∷ []) (set ps id (with_hand p (record p.wake { wait_state = Awake })))
  wake-enters w mine clear others absent = let q : WakePart = with_hand p (record p.wake { wait_state = Awake }) in wake-goes words (l ++ w ∷ []) q r.wide r.bits
      record { waiter = λ _. clear; named = λ none. none-some w.task (sym none ∙ mine); past = λ e is. awake-tried e is; chosen = (r.each id p at).chosen }
      (λ t e. let s = total-set (keeps_awake t) ps id p q at in let a = awake-none p.wake.wait_state t p.task absent in first-comes l t e (λ old. let b = r.first t old in omega (arith, b, s, a))
      (λ own. let b = total-at (keeps_awake t) (set ps id q) id q (set-there ps id p q at) in let c : is_number t p.task ≡ 1 = ap (is_number t) (mine ∙ ap Some own) ∙ is_number-here t in
      omega (arith, b, c)))
      (λ is. awake-tried p.entries is.tried)
      (λ j x other at' is. let a = others j x other at' in let b = is.locked in absurd (omega (arith, a, b)))
    where
      first-comes : {P : Type 0} (m : List Waiter) (t : ℕ) → first_code (m ++ w ∷ []) ≡ t + 1 → (first_code m ≡ t + 1 → P) → (w.task ≡ t → P) → P
      first-comes [] t e old own = own (omega (arith, e))
      first-comes (x ∷ m) t e old own = old e

  -- a waiter leaves that holds, or whose try has failed since it took the wait lock
  pub wake-leaves : (t : ℕ) → p.task ≡ Some t → p.locked ≡ 1 → (p.held ≡ Alone) ⊎ (p.wake.wait_state ≡ Tried p.entries) → ((j : ℕ) (x : WakePart) → j ≢ id → get_elem? ps j ≡ some x → x.locked ≡ 0)
      → WakeKept words (without t l) (set ps id (with_hand p (record p.wake { wait_state = Absent })))
  wake-leaves t mine has may others = let q : WakePart = with_hand p (record p.wake { wait_state = Absent }) in let g = total-set guards ps id p q at in wake-goes words (without t l) q r.wide r.bits
      record { waiter = λ some_w. absurd (omega (arith, some_w)); named = λ none. none-some t (sym none ∙ mine); past = λ e is. tried-waits Absent e is refl; chosen = (r.each id p at).chosen }
      (λ u e. dite (ℕ_discrete (first_code l) (t + 1))
      (λ first. let k : 1 ≤ total guards ps = ⊎_elim (λ (alone : p.held ≡ Alone). let a = total-at guards ps id p at in let b : held_weight p.held ≡ 1 = ap held_weight alone in omega (arith, a, b))
      (λ (tried : p.wake.wait_state ≡ Tried p.entries). r.stuck id p at record { locked = has; tried = tried; first = (t, mine, first) }) may in
      let a = guards-keeps u (set ps id q) in omega (arith, a, g, k))
      (λ other. let old : first_code l ≡ u + 1 = sym (first-without t l other) ∙ e in let b = r.first u old in let s = total-set (keeps_awake u) ps id p q at in
      let a : awake u p.task p.wake.wait_state ≡ 0 = ap (λ (z : Option ℕ). awake u z p.wake.wait_state) mine ∙ awake-else p.wake.wait_state u t (λ z. other (omega (arith, old, z))) in
      omega (arith, b, s, a)))
      (λ is. tried-waits Absent p.entries is.tried refl)
      (λ j x other at' is. let a = others j x other at' in let b = is.locked in absurd (omega (arith, a, b)))

  -- a look at the first word without the wait lock
  pub wake-looks : p.locked ≡ 0 → WakeKept words l (set ps id (with_hand p (record p.wake { wait_state = awakened p.wake.wait_state })))
  wake-looks out = let ok = r.each id p at in let same = waits-awakened p.wake.wait_state in wake-keeps (with_hand p (record p.wake { wait_state = awakened p.wake.wait_state }))
      record {
        waiter = λ some_w. ok.waiter (omega (arith, some_w, same));
        named = λ none. let q = ok.named none in let z = q.absent in record { clear = q.clear; absent = omega (arith, same, z); out = q.out };
        past = λ e is. awakened-tried p.wake.wait_state e is;
        chosen = ok.chosen;
      }
      (λ t _. let a = awake-awakened p.wake.wait_state t p.task in omega (arith, a)) (omega arith) (λ is. let a = is.locked in absurd (omega (arith, a, out)))

  -- a debtor chooses the first waiter
  pub wake-chooses : owed p.wake.duty p.freed ≡ 1 → ((u : ℕ) → first_code l ≡ u + 1 → u < MAX_TASKS) → ((j : ℕ) (x : WakePart) → j ≢ id → get_elem? ps j ≡ some x → x.locked ≡ 0)
      → WakeKept words l (set ps id (with_hand p (record p.wake { duty = duty_of (first_code l) })))
  wake-chooses owes small others = let ok = r.each id p at in let q : WakePart = with_hand p (record p.wake { duty = duty_of (first_code l) }) in
      let none : waits p.wake.wait_state ≡ 0 = elim (native.Mathlib.Decide.dec_le (waits p.wake.wait_state) 0)
      [ yes z ↦ omega (arith, z) | no lo ↦ let a = ok.waiter (omega (arith, lo)) in absurd (omega (arith, a, owes)) ] in wake-goes words l q r.wide r.bits
      record {
        waiter = λ some_w. absurd (omega (arith, some_w, none));
        named = λ z. let a = (ok.named z).clear in absurd (omega (arith, a, owes));
        past = ok.past;
        chosen = λ u is. small u (duty-names (first_code l) u is);
      }
      (λ u e. let a = total-at (keeps_awake u) (set ps id q) id q (set-there ps id p q at) in let c = chose-here u q.wake.duty (duty-first (first_code l) u e) in omega (arith, a, c))
      (λ is. tried-waits p.wake.wait_state p.entries is.tried none)
      (λ j w other at' is. let a = others j w other at' in let b = is.locked in absurd (omega (arith, a, b)))

  -- the wake word of a task
  word-here : (t n : ℕ) → t < MAX_TASKS → wake_word (set words (8 * t) n) t ≡ n
  word-here t n few = let w = r.wide in get_or-set_same words (8 * t) n 0 (omega (arith, w, few))

  word-else : (t u n : ℕ) → u ≢ t → wake_word (set words (8 * t) n) u ≡ wake_word words u
  word-else t u n other = get_or-set_other words (8 * t) (8 * u) n 0 (λ e. other (omega (arith, e)))

  bits-set : (t n : ℕ) → t < MAX_TASKS → n ≤ 1 → (u : ℕ) → u < MAX_TASKS → wake_word (set words (8 * t) n) u ≤ 1
  bits-set t n few small u few' = dite (ℕ_discrete u t) (λ e. let a = word-here t n few in
      let b : wake_word (set words (8 * t) n) u ≡ wake_word (set words (8 * t) n) t = ap (wake_word (set words (8 * t) n)) e in
      omega (arith, a, b, small)) (λ e. let a = word-else t u n e in let b = r.bits u few' in omega (arith, a, b))

  -- the wake word that was chosen is set
  pub wake-sets : (t n : ℕ) (b : WakeHand) → Sets t n p b → WakeKept (set words (8 * t) n) l (set ps id (with_hand p b))
  wake-sets t n b sets = let ok = r.each id p at in let few = ok.chosen t sets.0 in let q : WakePart = with_hand p b in let is1 = sets.1 in
      let d : b.duty ≡ NoDuty = ap (λ (z : WakeHand). z.duty) sets.2 in let v : b.wait_state ≡ p.wake.wait_state = ap (λ (z : WakeHand). z.wait_state) sets.2 in
      let o1 : owed b.duty p.freed ≡ 0 = ap (λ (z : Duty). owed z p.freed) d in let o2 : owed p.wake.duty p.freed ≡ 0 = ap (λ (z : Duty). owed z p.freed) sets.0 in
      let o3 : chose_any b.duty ≡ 0 = ap chose_any d in let g = total-set guards ps id p q at in
      wake-goes (set words (8 * t) n) l q (length-set words (8 * t) n ∙ r.wide) (bits-set t n few (omega (arith, is1)))
      record {
        waiter = λ _. omega (arith, o1, o3);
        named = λ none. let k = ok.named none in record { clear = omega (arith, o1, o3); absent = ap waits v ∙ k.absent; out = k.out };
        past = λ e is. ok.past e (sym v ∙ is);
        chosen = λ u is. no-chosen u (sym d ∙ is);
      }
      (λ u e. dite (ℕ_discrete u t)
      (λ same. let a = word-here t n few in let c : wake_word (set words (8 * t) n) u ≡ wake_word (set words (8 * t) n) t = ap (wake_word (set words (8 * t) n)) same in omega (arith, a, c, is1))
      (λ other. let a = word-else t u n other in let c = r.first u e in let s = total-set (keeps_awake u) ps id p q at in let c1 : chose u p.wake.duty ≡ bit (t == u) = ap (chose u) sets.0 in
      let c2 : bit (t == u) ≡ 0 = ap bit (ne_eqb t u (λ z. other (sym z))) in
      let w : awake u p.task b.wait_state ≡ awake u p.task p.wake.wait_state = ap (awake u p.task) v in omega (arith, a, c, s, c1, c2, w, o1, o2)))
      (λ is. let a = r.stuck id p at record { locked = is.locked; tried = sym v ∙ is.tried; first = is.first } in omega (arith, a, g, o1, o2))
      (λ j x _ at' is. let a = r.stuck j x at' is in omega (arith, a, g, o1, o2))

  -- a waiter swaps its own wake word for 0
  pub wake-drowses : (t n : ℕ) (b : WakeHand) → t < MAX_TASKS → Drowses t (wake_word words t) n p b → WakeKept (set words (8 * t) n) l (set ps id (with_hand p b))
  wake-drowses t n b few drowses = by-word (wake_word words t) refl drowses.4
    where
      ok : PartOk p
      ok = r.each id p at

      clear : debt p ≡ 0
      clear = ok.waiter (let w : waits p.wake.wait_state ≡ 1 = ap waits drowses.2.1 in omega (arith, w))

      by-word : (old : ℕ) → wake_word words t ≡ old → b ≡ drowsing old p.wake → WakeKept (set words (8 * t) n) l (set ps id (with_hand p b))
      by-word zero was is = let q : WakePart = with_hand p b in let v : b.wait_state ≡ p.wake.wait_state = ap (λ (z : WakeHand). z.wait_state) is in
          let d : b.duty ≡ p.wake.duty = ap (λ (z : WakeHand). z.duty) is in let zero_is = drowses.3 in let g = total-set guards ps id p q at in
          let o : owed b.duty p.freed ≡ owed p.wake.duty p.freed = ap (λ (z : Duty). owed z p.freed) d in
          wake-goes (set words (8 * t) n) l q (length-set words (8 * t) n ∙ r.wide) (bits-set t n few (omega (arith, zero_is)))
          record {
            waiter = λ _. (let x : chose_any b.duty ≡ chose_any p.wake.duty = ap chose_any d in let y = clear in omega (arith, x, y, o));
            named = λ none. none-some t (sym none ∙ drowses.0);
            past = λ e h. ok.past e (sym v ∙ h);
            chosen = λ u h. ok.chosen u (sym d ∙ h);
          }
          (λ u e. let c = r.first u e in let s = total-set (keeps_awake u) ps id p q at in let c1 : chose u b.duty ≡ chose u p.wake.duty = ap (chose u) d in
          let w : awake u p.task b.wait_state ≡ awake u p.task p.wake.wait_state = ap (awake u p.task) v in
          let same : wake_word (set words (8 * t) n) u ≡ wake_word words u =
          dite (ℕ_discrete u t) (λ h. ap (wake_word (set words (8 * t) n)) h ∙ (word-here t n few ∙ (zero_is ∙ (sym was ∙ ap (wake_word words) (sym h))))) (λ h. word-else t u n h) in
          omega (arith, c, s, c1, w, o, same))
          (λ h. let a = h.locked in let z = drowses.1 in absurd (omega (arith, a, z)))
          (λ j x _ at' h. let a = r.stuck j x at' h in omega (arith, a, g, o))
      by-word (suc old) was is = let q : WakePart = with_hand p b in let v : b.wait_state ≡ Awake = ap (λ (z : WakeHand). z.wait_state) is in
          let d : b.duty ≡ p.wake.duty = ap (λ (z : WakeHand). z.duty) is in let zero_is = drowses.3 in let g = total-set guards ps id p q at in
          let o : owed b.duty p.freed ≡ owed p.wake.duty p.freed = ap (λ (z : Duty). owed z p.freed) d in
          wake-goes (set words (8 * t) n) l q (length-set words (8 * t) n ∙ r.wide) (bits-set t n few (omega (arith, zero_is)))
          record {
            waiter = λ _. (let x : chose_any b.duty ≡ chose_any p.wake.duty = ap chose_any d in let y = clear in omega (arith, x, y, o));
            named = λ none. none-some t (sym none ∙ drowses.0);
            past = λ e h. awake-tried e (sym v ∙ h);
            chosen = λ u h. ok.chosen u (sym d ∙ h);
          }
          (λ u e. dite (ℕ_discrete u t)
          (λ h. let c = total-at (keeps_awake u) (set ps id q) id q (set-there ps id p q at) in let w : awake u p.task b.wait_state ≡ is_number u p.task = ap (awake u p.task) v in
          let c1 : is_number u p.task ≡ 1 = ap (is_number u) (drowses.0 ∙ ap Some (sym h)) ∙ is_number-here u in omega (arith, c, w, c1))
          (λ h. let c = r.first u e in let s = total-set (keeps_awake u) ps id p q at in let c1 : chose u b.duty ≡ chose u p.wake.duty = ap (chose u) d in let same = word-else t u n h in
          let w1 : awake u p.task b.wait_state ≡ 0 = ap (λ (z : Option ℕ). awake u z b.wait_state) drowses.0 ∙ awake-else b.wait_state u t (λ z. h (sym z)) in
          let w2 : awake u p.task p.wake.wait_state ≡ 0 = ap (λ (z : Option ℕ). awake u z p.wake.wait_state) drowses.0 ∙ awake-else p.wake.wait_state u t (λ z. h (sym z)) in
          omega (arith, c, s, c1, w1, w2, o, same)))
          (λ h. let a = h.locked in let z = drowses.1 in absurd (omega (arith, a, z)))
          (λ j x _ at' h. let a = r.stuck j x at' h in omega (arith, a, g, o))

-- a new table
pub wake-opens : (words : List ℕ) (q : WakePart) → length words ≡ WAKE_WORDS → ((i : ℕ) → i < WAKE_WORDS → get_or words i 0 ≡ 0) → IsQuiet q → WakeKept words [] (q ∷ [])
wake-opens words q wide zeros now = record {
  wide = wide;
  bits = λ t few. let z = zeros (8 * t) (omega (arith, few)) in omega (arith, z);
  each = each-snoc PartOk [] q (quiet-ok q now) (λ j w e. absurd (some-ne-none w (sym e)));
  first = λ t e. absurd (omega (arith, e));
  stuck = each-snoc (λ w. IsStuck [] w → 1 ≤ total guards (q ∷ [])) [] q (λ is. tried-waits q.wake.wait_state q.entries is.tried now.absent) (λ j w e. absurd (some-ne-none w (sym e)));
}

-- a quiet part comes
pub wake-snoc : (words : List ℕ) (l : List Waiter) (ps : List WakePart) (q : WakePart) → WakeKept words l ps → IsQuiet q → WakeKept words l (ps ++ q ∷ [])
wake-snoc words l ps q r now = record {
  wide = r.wide;
  bits = r.bits;
  each = each-snoc PartOk ps q (quiet-ok q now) r.each;
  first = λ t e. let a = r.first t e in let s = total-snoc (keeps_awake t) ps q in omega (arith, a, s);
  stuck = each-snoc (λ w. IsStuck l w → 1 ≤ total guards (ps ++ q ∷ [])) ps q (λ is. tried-waits q.wake.wait_state q.entries is.tried now.absent)
      (λ j w at' is. let a = r.stuck j w at' is in let s = total-snoc guards ps q in omega (arith, a, s));
}
