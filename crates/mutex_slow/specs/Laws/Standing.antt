-- What each kind of step does to the wake words, to what a pass owes and to how its task waits.
use Rattle.std.proofs.Common.{◌≡◌, ◌≢◌, ℕ, zero, suc, ◌+◌, ◌*◌, ◌%◌, ◌<◌, ◌≤◌, ◌⊎◌, inl, inr, false, List, length, set, Some, sym, refl, ap, ◌∙◌, subst, arith, ⊎_elim, get_or-set_same}
use Rattle.std.proofs.Common.{get_or-set_other}
use mathlib.Core.Logic.{dite}
use native.Mathlib.Decide.{ℕ_discrete}
use Rattle.word_bits.specs.declared.TheConstants.{MAX_TASKS}
use Rattle.lock_core.specs.Records.{bit}
use Rattle.lock_core.specs.Spins.{holds_in}
use Rattle.lock_core.specs.Views.{held_weight}
use Rattle.lock_core.proofs.HandLaws.{false-or-true}
use Rattle.wait_list.specs.Laws.List.{holds-or-not}
use Rattle.wait_list.specs.Lists.{first_code}
use Rattle.wake_duty.specs.DutyWakes.{WAKE_WORDS, wake_word, owed, chose_any, choosing, duty_of, after_failed_try, awakened, failing, looking, setting, drowsing}
use Rattle.wake_duty.specs.WakeMoves.{ChoosesFirst, WordGoes}
use Rattle.mutex_slow.specs.Mutexes.{V, HasLock, OwesNoWake, FailsUnderLock, IsUnpicked, MayChoose, EndsChoice, WakesGo, awake_bit, chosen_code, debt_of, entered, left, standing_of}
use Rattle.mutex_slow.specs.Laws.Duty.{choosing-or}
use Rattle.mutex_slow.specs.Types.{No, Alone, Waiter, Change, Stay, Duty, NoDuty, Owing, Chosen, WaitState, Absent, Awake, Tried, WakeHand}

-- what a step does by which this view becomes that one
abbrev pub StandingGoes : ℕ → List Waiter → Change → List ℕ → List ℕ → V → V → Type 0
StandingGoes n l c words words' v u = WakesGo n l c words words' (holds_in v.spin) v.hand u.hand (standing_of v.ext) (standing_of u.ext)

-- who has no wake to do
pub owes-none : (d : Duty) (freed : ℕ) → owed d freed + chose_any d ≡ 0 → (chosen_code d ≡ 0) × (debt_of d ≡ 1 → freed % 2 ≡ 0)
owes-none NoDuty freed e = (refl, λ z. absurd (omega (arith, z)))
owes-none Owing freed e = (refl, λ _. omega (arith, e))
owes-none (Chosen t) freed e = absurd (omega (arith, e))

-- who owes has a debt with the flag of the waiters
pub owed-some : (d : Duty) (freed : ℕ) → 0 < owed d freed → (debt_of d ≡ 1) × (freed % 2 ≡ 1)
owed-some NoDuty freed more = absurd (omega (arith, more))
owed-some Owing freed more = (refl, omega (arith, more))
owed-some (Chosen t) freed more = absurd (omega (arith, more))

-- who owes has chosen nobody
owing-chosen : (d : Duty) (freed : ℕ) → owed d freed ≡ 1 → chosen_code d ≡ 0
owing-chosen NoDuty freed e = refl
owing-chosen Owing freed e = refl
owing-chosen (Chosen t) freed e = absurd (omega (arith, e))

-- whom a code makes it choose
pub chosen-code : (code : ℕ) → chosen_code (duty_of code) ≡ code
chosen-code zero = refl
chosen-code (suc t) = omega arith

pub chosen-debt : (code : ℕ) → debt_of (duty_of code) ≡ 0
chosen-debt zero = refl
chosen-debt (suc t) = refl

after_failed_try-bit : (x : WaitState) (e : ℕ) → awake_bit (after_failed_try x e) ≡ 0
after_failed_try-bit Absent e = refl
after_failed_try-bit Awake e = refl
after_failed_try-bit (Tried m) e = refl

awakened-bit : (x : WaitState) → awake_bit x ≡ 1 → awake_bit (awakened x) ≡ 1
awakened-bit Absent e = e
awakened-bit Awake e = refl
awakened-bit (Tried m) e = refl

-- it ends no hold
abbrev pub HoldsOn : V → V → Type 0
HoldsOn v u = v.hand.held ≡ Alone → u.hand.held ≡ No → ⊥

alone-free : {P : Type 0} → Alone ≡ No → P
alone-free e = absurd (let z : held_weight Alone ≡ held_weight No = ap held_weight e in omega (arith, z))

pub same-holds : (v u : V) → u.hand.held ≡ v.hand.held → HoldsOn v u
same-holds v u same alone free = alone-free (sym alone ∙ (sym same ∙ free))

pub free-holds : (v u : V) → v.hand.held ≡ No → HoldsOn v u
free-holds v u out alone free = alone-free (sym alone ∙ out)

module _ (n : ℕ) (l : List Waiter) (words words' : List ℕ) (v u : V) where
  abbrev w : WakeHand
  w = v.ext.wake

  -- all stays
  pub goes-same : words' ≡ words → u.ext.wake ≡ w → HoldsOn v u → StandingGoes n l Stay words words' v u
  goes-same same wake on = let debt = ap (λ (z : WakeHand). debt_of z.duty) wake in let chosen = ap (λ (z : WakeHand). chosen_code z.duty) wake in
      let awake = ap (λ (z : WakeHand). awake_bit z.wait_state) wake in record {
        words_go = λ t few. inl (ap (λ (z : List ℕ). wake_word z t) same);
        owes = λ e e'. absurd (omega (arith, debt, e, e'));
        must = λ alone free. absurd (on alone free);
        pays = λ e odd. inl (debt ∙ e);
        chooses = λ other some. absurd (other chosen);
        sets = λ other some. absurd (other chosen);
        wakes = λ other. absurd (other (ap (λ (z : WakeHand). z.wakes) wake));
        dozes = λ other. absurd (other (ap (λ (z : WakeHand). z.dozes) wake));
        enters = λ e. absurd (omega (arith, e));
        wakes_it = λ e e'. absurd (omega (arith, awake, e, e'));
        tries = λ e e'. absurd (omega (arith, awake, e, e'));
      }

  -- how its task waits changes, and the list by this change
  pub goes-wait_state : (c : Change) → words' ≡ words → (x : WaitState) → u.ext.wake ≡ record w { wait_state = x } → (entered c ≡ 1 → awake_bit x ≡ 1)
      → (awake_bit w.wait_state ≡ 0 → awake_bit x ≡ 1 → (entered c ≡ 1) ⊎ (holds_in v.spin ≡ 0))
      → (awake_bit w.wait_state ≡ 1 → awake_bit x ≡ 0 → (left c ≡ 1) ⊎ FailsUnderLock n (holds_in v.spin) v.hand)
      → HoldsOn v u → StandingGoes n l c words words' v u
  goes-wait_state c same x wake enters rises falls on = let debt = ap (λ (z : WakeHand). debt_of z.duty) wake in let chosen = ap (λ (z : WakeHand). chosen_code z.duty) wake in
      let awake = ap (λ (z : WakeHand). awake_bit z.wait_state) wake in let dozed = ap (λ (z : WakeHand). z.dozes) wake in record {
        words_go = λ t few. inl (ap (λ (z : List ℕ). wake_word z t) same);
        owes = λ e e'. absurd (omega (arith, debt, e, e'));
        must = λ alone free. absurd (on alone free);
        pays = λ e odd. inl (debt ∙ e);
        chooses = λ other some. absurd (other chosen);
        sets = λ other some. absurd (other chosen);
        wakes = λ other. absurd (other (ap (λ (z : WakeHand). z.wakes) wake));
        dozes = λ other. absurd (other dozed);
        enters = λ e. awake ∙ enters e;
        wakes_it = λ e e'. ⊎_elim (λ (came : entered c ≡ 1). inl came) (λ (out : holds_in v.spin ≡ 0). inr (out, dozed)) (rises e (sym awake ∙ e'));
        tries = λ e e'. falls e (sym awake ∙ e');
      }

  -- what it owes changes
  goes-duty : words' ≡ words → (d : Duty) → u.ext.wake ≡ record w { duty = d } → (debt_of w.duty ≡ 0 → debt_of d ≡ 1 → (v.hand.held ≡ Alone) × (u.hand.held ≡ No))
      → (debt_of w.duty ≡ 1 → v.hand.freed % 2 ≡ 1 → (debt_of d ≡ 1) ⊎ ChoosesFirst (holds_in v.spin) l (chosen_code d))
      → chosen_code w.duty ≡ 0 → (chosen_code d ≢ 0 → ChoosesFirst (holds_in v.spin) l (chosen_code d) × MayChoose v.hand u.hand (standing_of v.ext))
      → (v.hand.held ≡ Alone → u.hand.held ≡ No → (debt_of d ≡ 1) ⊎ ChoosesFirst (holds_in v.spin) l (chosen_code d)) → StandingGoes n l Stay words words' v u
  goes-duty same d wake ends pays none picks must = let debt = ap (λ (z : WakeHand). debt_of z.duty) wake in
      let chosen : chosen_code u.ext.wake.duty ≡ chosen_code d = ap (λ (z : WakeHand). chosen_code z.duty) wake in let awake = ap (λ (z : WakeHand). awake_bit z.wait_state) wake in record {
        words_go = λ t few. inl (ap (λ (z : List ℕ). wake_word z t) same);
        owes = λ e e'. ends e (sym debt ∙ e');
        must = λ alone free. ⊎_elim (λ (stays : debt_of d ≡ 1). inl (debt ∙ stays)) (λ (first : ChoosesFirst (holds_in v.spin) l (chosen_code d)). inr (first.0, chosen ∙ first.1)) (must alone free);
        pays = λ e odd. ⊎_elim (λ (stays : debt_of d ≡ 1). inl (debt ∙ stays)) (λ (first : ChoosesFirst (holds_in v.spin) l (chosen_code d)). inr (first.0, chosen ∙ first.1)) (pays e odd);
        chooses = λ other some. let first = picks (λ z. some (chosen ∙ z)) in ((first.0.0, chosen ∙ first.0.1), first.1);
        sets = λ other some. absurd (some none);
        wakes = λ other. absurd (other (ap (λ (z : WakeHand). z.wakes) wake));
        dozes = λ other. absurd (other (ap (λ (z : WakeHand). z.dozes) wake));
        enters = λ e. absurd (omega (arith, e));
        wakes_it = λ e e'. absurd (omega (arith, awake, e, e'));
        tries = λ e e'. absurd (omega (arith, awake, e, e'));
      }

  -- so it does of a pass that had no wake to do
  pub goes-clear : words' ≡ words → OwesNoWake v → (d : Duty) → u.ext.wake ≡ record w { duty = d } → (debt_of d ≡ 1 → (v.hand.held ≡ Alone) × (u.hand.held ≡ No))
      → (chosen_code d ≢ 0 → ChoosesFirst (holds_in v.spin) l (chosen_code d) × MayChoose v.hand u.hand (standing_of v.ext))
      → (v.hand.held ≡ Alone → u.hand.held ≡ No → (debt_of d ≡ 1) ⊎ ChoosesFirst (holds_in v.spin) l (chosen_code d)) → StandingGoes n l Stay words words' v u
  goes-clear same clear d wake ends picks must = let none = owes-none w.duty v.hand.freed clear in
      goes-duty same d wake (λ _ e. ends e) (λ e odd. absurd (let even = none.1 e in omega (arith, even, odd))) none.0 picks must

  -- a debtor chooses the first waiter
  pub goes-chooses : words' ≡ words → HasLock v → owed w.duty v.hand.freed ≡ 1 → u.ext.wake ≡ record w { duty = duty_of (first_code l) } → HoldsOn v u → StandingGoes n l Stay words words' v u
  goes-chooses same has owes wake on = let first : ChoosesFirst (holds_in v.spin) l (chosen_code (duty_of (first_code l))) = (has, chosen-code (first_code l)) in
      goes-duty same (duty_of (first_code l)) wake (λ _ e. absurd (let none = chosen-debt (first_code l) in omega (arith, none, e))) (λ _ _. inr first) (owing-chosen w.duty v.hand.freed owes)
      (λ _. (first, inl (owed-some w.duty v.hand.freed (omega (arith, owes))))) (λ alone free. absurd (on alone free))

module _ (n : ℕ) (l : List Waiter) (words : List ℕ) (v u : V) where
  -- a try fails
  pub goes-fails : u.ext.wake ≡ failing (holds_in v.spin) v.spin.entries v.ext.wake → 8 ≤ n → (t : ℕ) → v.hand.task ≡ Some t → IsUnpicked n t → HoldsOn v u → StandingGoes n l Stay words words v u
  goes-fails wake big t mine unpicked on = holds-or-not v.spin
      (λ has. goes-wait_state n l words words v u Stay refl (after_failed_try v.ext.wake.wait_state v.spin.entries) (wake ∙ ap (λ (z : ℕ). failing z v.spin.entries v.ext.wake) has)
      (λ e. absurd (omega (arith, e)))
      (λ _ e. absurd (let none = after_failed_try-bit v.ext.wake.wait_state v.spin.entries in omega (arith, none, e))) (λ _ _. inr (has, big, (t, mine, unpicked))) on)
      (λ out. goes-same n l words words v u refl (wake ∙ ap (λ (z : ℕ). failing z v.spin.entries v.ext.wake) out) on)

  -- a load of the head
  pub goes-looks : (code : ℕ) → u.ext.wake ≡ looking (holds_in v.spin) v.ext.list.changes v.hand.freed code v.ext.wake → (HasLock v → v.ext.list.changes ≡ false → code ≡ first_code l) → HoldsOn v u
      → StandingGoes n l Stay words words v u
  goes-looks code wake is on = holds-or-not v.spin
      (λ has. false-or-true v.ext.list.changes
      (λ changes. goes-same n l words words v u refl (wake ∙ (λ i. looking (has i) (changes i) v.hand.freed code v.ext.wake)) on)
      (λ still. ⊎_elim
      (λ (same : choosing v.ext.wake.duty (v.hand.freed % 2) code ≡ v.ext.wake.duty). goes-same n l words words v u refl
      (wake ∙ ((λ i. looking (has i) (still i) v.hand.freed code v.ext.wake) ∙ (λ i. record v.ext.wake { duty = same i }))) on)
      (λ (owes : (owed v.ext.wake.duty v.hand.freed ≡ 1) × (choosing v.ext.wake.duty (v.hand.freed % 2) code ≡ duty_of code)). goes-chooses n l words words v u refl has owes.0
      (wake ∙ ((λ i. looking (has i) (still i) v.hand.freed code v.ext.wake) ∙ ((λ i. record v.ext.wake { duty = owes.1 i }) ∙ ap (λ (z : ℕ). record v.ext.wake { duty = duty_of z }) (is has still))))
      on)
      (choosing-or v.ext.wake.duty v.hand.freed code)))
      (λ out. goes-wait_state n l words words v u Stay refl (awakened v.ext.wake.wait_state) (wake ∙ ap (λ (z : ℕ). looking z v.ext.list.changes v.hand.freed code v.ext.wake) out)
      (λ e. absurd (omega (arith, e)))
      (λ _ _. inr out) (λ e e'. absurd (let up = awakened-bit v.ext.wake.wait_state e in omega (arith, up, e'))) on)

module _ (n : ℕ) (l : List Waiter) (words : List ℕ) (v u : V) (t m : ℕ) (few : t < MAX_TASKS) (wide : length words ≡ WAKE_WORDS) where
  word-here : wake_word (set words (8 * t) m) t ≡ m
  word-here = get_or-set_same words (8 * t) m 0 (omega (arith, wide, few))

  word-else : (s : ℕ) → s ≢ t → wake_word (set words (8 * t) m) s ≡ wake_word words s
  word-else s other = get_or-set_other words (8 * t) (8 * s) m 0 (λ e. other (omega (arith, e)))

  -- a step on the wake word of this task leaves all others
  abbrev WordStep : ℕ → Type 0
  WordStep = WordGoes words (set words (8 * t) m) v.hand.task (holds_in v.spin) (bit v.ext.queued) (awake_bit v.ext.wake.wait_state) (λ u. chosen_code v.ext.wake.duty ≡ u + 1)

  one-word : WordStep t → (s : ℕ) → WordStep s
  one-word mine s = dite (ℕ_discrete s t) (λ same. subst WordStep (sym same) mine) (λ other. inl (word-else s other))

  -- the task that was chosen is woken
  pub goes-sets : m ≡ 1 → v.ext.wake.duty ≡ Chosen t → u.ext.wake ≡ setting v.ext.wake → HoldsOn v u → StandingGoes n l Stay words (set words (8 * t) m) v u
  goes-sets one duty wake on = let debt : debt_of u.ext.wake.duty ≡ 0 = ap (λ (z : WakeHand). debt_of z.duty) wake in let was : debt_of v.ext.wake.duty ≡ 0 = ap debt_of duty in
      let none : chosen_code u.ext.wake.duty ≡ 0 = ap (λ (z : WakeHand). chosen_code z.duty) wake in
      let chosen : chosen_code v.ext.wake.duty ≡ t + 1 = ap chosen_code duty in
      let awake : awake_bit u.ext.wake.wait_state ≡ awake_bit v.ext.wake.wait_state = ap (λ (z : WakeHand). awake_bit z.wait_state) wake in
      let done : EndsChoice (set words (8 * t) m) (standing_of v.ext) (standing_of u.ext) = (none, (ap (λ (z : WakeHand). z.wakes) wake, (t, chosen, word-here ∙ one))) in record {
        words_go = λ s small. one-word (inr (inl (word-here ∙ one, chosen))) s;
        owes = λ e e'. absurd (omega (arith, debt, e'));
        must = λ alone free. absurd (on alone free);
        pays = λ e odd. absurd (omega (arith, was, e));
        chooses = λ other some. absurd (some none);
        sets = λ other some. done;
        wakes = λ other. done;
        dozes = λ other. absurd (other (ap (λ (z : WakeHand). z.dozes) wake));
        enters = λ e. absurd (omega (arith, e));
        wakes_it = λ e e'. absurd (omega (arith, awake, e, e'));
        tries = λ e e'. absurd (omega (arith, awake, e, e'));
      }

  -- a waiter swaps its own wake word for 0
  pub goes-drowses : m ≡ 0 → v.hand.task ≡ Some t → holds_in v.spin ≡ 0 → v.hand.held ≡ No → bit v.ext.queued ≡ 1 → (e : ℕ) × (v.ext.wake.wait_state ≡ Tried e)
      → u.ext.wake ≡ drowsing (wake_word words t) v.ext.wake → StandingGoes n l Stay words (set words (8 * t) m) v u
  goes-drowses none mine out free queued tried wake = by-word (wake_word words t) refl wake
    where
      before : awake_bit v.ext.wake.wait_state ≡ 0
      before = ap awake_bit tried.1

      words_go : (s : ℕ) → s < MAX_TASKS → WordStep s
      words_go s small = one-word (inr (inr (word-here ∙ none, mine, out, queued, before))) s

      by-word : (old : ℕ) → wake_word words t ≡ old → u.ext.wake ≡ drowsing old v.ext.wake → StandingGoes n l Stay words (set words (8 * t) m) v u
      by-word zero was is = let debt = ap (λ (z : WakeHand). debt_of z.duty) is in let chosen = ap (λ (z : WakeHand). chosen_code z.duty) is in
          let awake : awake_bit u.ext.wake.wait_state ≡ awake_bit v.ext.wake.wait_state = ap (λ (z : WakeHand). awake_bit z.wait_state) is in record {
            words_go = words_go;
            owes = λ e e'. absurd (omega (arith, debt, e, e'));
            must = λ alone _. alone-free (sym alone ∙ free);
            pays = λ e odd. inl (debt ∙ e);
            chooses = λ other some. absurd (other chosen);
            sets = λ other some. absurd (other chosen);
            wakes = λ other. absurd (other (ap (λ (z : WakeHand). z.wakes) is));
            dozes = λ other. (free, ((t, mine, was), out, queued, before, awake ∙ before, ap (λ (z : WakeHand). z.dozes) is));
            enters = λ e. absurd (omega (arith, e));
            wakes_it = λ e e'. absurd (omega (arith, awake, e, e'));
            tries = λ e e'. absurd (omega (arith, before, e));
          }
      by-word (suc old) was is = let debt = ap (λ (z : WakeHand). debt_of z.duty) is in let chosen = ap (λ (z : WakeHand). chosen_code z.duty) is in
          let dozed : u.ext.wake.dozes ≡ v.ext.wake.dozes = ap (λ (z : WakeHand). z.dozes) is in record {
            words_go = words_go;
            owes = λ e e'. absurd (omega (arith, debt, e, e'));
            must = λ alone _. alone-free (sym alone ∙ free);
            pays = λ e odd. inl (debt ∙ e);
            chooses = λ other some. absurd (other chosen);
            sets = λ other some. absurd (other chosen);
            wakes = λ other. absurd (other (ap (λ (z : WakeHand). z.wakes) is));
            dozes = λ other. absurd (other dozed);
            enters = λ e. absurd (omega (arith, e));
            wakes_it = λ e e'. inr (out, dozed);
            tries = λ e e'. absurd (omega (arith, before, e));
          }
