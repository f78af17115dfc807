-- What each kind of step makes of wake words, debts, choices and sleep.
use Rattle.std.proofs.Common.{◌≡◌, ◌≢◌, ℕ, zero, suc, ◌+◌, ◌*◌, ◌/◌, ◌%◌, ◌<◌, ◌≤◌, ◌==◌, ◌&&◌, ◌⊎◌, inl, inr, Bool, true, false, List, [], ◌∷◌, length, set, Some, sym, refl, ap, ◌∙◌, subst, arith}
use Rattle.std.proofs.Common.{eq-eqb, ne_eqb, length-append, get_or-set_same, get_or-set_other}
use mathlib.Core.Logic.{dite}
use native.Mathlib.Decide.{ℕ_discrete}
use Rattle.word_bits.specs.declared.TheConstants.{MAX_TASKS}
use Rattle.lock_core.specs.Records.{bit}
use Rattle.lock_core.proofs.HandLaws.{not-both}
use Rattle.lock_core.proofs.RowLaws.{same-some}
use Rattle.wait_list.specs.Lists.{first_code}
use Rattle.wake_duty.specs.DutyWakes.{WAKE_WORDS, after_failed_try, wake_word, waits}
use Rattle.wake_duty.specs.WakeMoves.{WordGoes}
use Rattle.rwsem_wake.specs.SemDuties.{drowsing, first_writes, setting, times}
use Rattle.rwsem_wake.specs.SemParts.{SemPart, alone_of, busy_weight, transit_of, transit_weight}
use Rattle.rwsem_wake.specs.Duties.{WakeGoes, is_left, paid}
use Rattle.rwsem_count.specs.Counts.{shared_weight}
use Rattle.lock_core.specs.Views.{alone_weight}
use Rattle.rwsem_wake.specs.GrantsStated.{Picks}
use Rattle.rwsem_slow.specs.WakesGo.{HearsBy, LeavesNothing, MustOwe, OwesBy, PaysBy, QueuesBy, SetsBy, SetsTask, TiresBy, WakeStands, WakesGo, awake_bit, wake_stands}
use Rattle.rwsem_wake.specs.RwSemViews.{leaves_wake, chooses_task, looked, looks_at}
use Rattle.rwsem_slow.specs.RwSems.{has_waiters, owes_after}
use Rattle.rwsem_slow.specs.Types.{Held, No, Shared, Alone, Waiter, Change, Stay, Enter, Leave, WaitState, Absent, Awake, Tried, SemWake, SemHand}

-- nobody enters by a step that leaves the list, or by which a task leaves it
pub stay-enters : {P : Type 0} (w : Waiter) → Stay ≡ Enter w → P
stay-enters w e = absurd cc

pub leave-enters : {P : Type 0} (t : ℕ) (w : Waiter) → Leave t ≡ Enter w → P
leave-enters t w e = absurd cc

after_failed_try-bit : (x : WaitState) → awake_bit (after_failed_try x 0) ≡ 0
after_failed_try-bit Absent = refl
after_failed_try-bit Awake = refl
after_failed_try-bit (Tried n) = refl

after_failed_try-waits : (x : WaitState) → waits (after_failed_try x 0) ≡ waits x
after_failed_try-waits Absent = refl
after_failed_try-waits Awake = refl
after_failed_try-waits (Tried n) = refl

-- it ends and lowers no hold, and takes no bias back
abbrev pub HoldsOn : SemPart → SemPart → Type 0
HoldsOn p p' = ((p'.held ≡ Shared) × (p.held ≢ Alone)) ⊎ (p'.held ≡ Alone) ⊎ ((p'.held ≡ p.held) × (transit_of p ≤ transit_of p'))

held-apart : {P : Type 0} (x y : Held) → alone_weight x + 2 * shared_weight x ≢ alone_weight y + 2 * shared_weight y → x ≡ y → P
held-apart x y other e = absurd (other (ap (λ (z : Held). alone_weight z + 2 * shared_weight z) e))

-- such a step leaves a wake to be done only by leaving the list as the first
pub leaves-first : (n' : ℕ) (q : List Waiter) (c : Change) (p p' : SemPart) (s s' : WakeStands) → HoldsOn p p' → MustOwe n' q c p p' s s' → (t : ℕ) × (c ≡ Leave t) × (p.task ≡ Some t)
    × (first_code q ≡ t + 1) × (p.held ≢ Alone) × (s'.chosen ≡ s.chosen)
leaves-first n' q c p p' s s' on must = elim must [
  | inl (alone, other, _) ↦ elim on [
    | inl (shares, not) ↦ absurd (not alone)
    | inr (inl alone') ↦ absurd (other alone')
    | inr (inr (same, _)) ↦ absurd (other (same ∙ alone))
  ]
  | inr (inl (shared, out, _, _)) ↦ elim on [
    | inl (shares, _) ↦ held-apart Shared No (λ e. omega (arith, e)) (sym shares ∙ out)
    | inr (inl alone') ↦ held-apart Alone No (λ e. omega (arith, e)) (sym alone' ∙ out)
    | inr (inr (same, _)) ↦ held-apart Shared No (λ e. omega (arith, e)) (sym shared ∙ (sym same ∙ out))
  ]
  | inr (inr (inl ((transit, clear), out, _))) ↦ elim on [
    | inl (shares, _) ↦ held-apart Shared No (λ e. omega (arith, e)) (sym shares ∙ out)
    | inr (inl alone') ↦ held-apart Alone No (λ e. omega (arith, e)) (sym alone' ∙ out)
    | inr (inr (_, keeps)) ↦ absurd (let one : transit_of p ≡ 1 = ap transit_weight transit.1 in let zero_now : transit_of p' ≡ 0 = ap transit_weight clear in omega (arith, keeps, one, zero_now))
  ]
  | inr (inr (inr leaves)) ↦ leaves
]

-- a pass that holds as before, keeps its bias and stays in the list, or enters it, leaves no wake to be done
pub none-owed : {P : Type 0} (n' : ℕ) (q : List Waiter) (c : Change) (p p' : SemPart) (s s' : WakeStands) → ((t : ℕ) → c ≡ Leave t → ⊥) → HoldsOn p p' → MustOwe n' q c p p' s s' → P
none-owed n' q c p p' s s' stays on must = let l = leaves-first n' q c p p' s s' on must in absurd (stays l.0 l.1)

pub stay-leaves : (t : ℕ) → Stay ≡ Leave t → ⊥
stay-leaves t e = absurd cc

pub enter-leaves : (w : Waiter) (t : ℕ) → Enter w ≡ Leave t → ⊥
enter-leaves w t e = absurd cc

module _ (n n' : ℕ) (q : List Waiter) (c : Change) (grants words words' : List ℕ) (locked : ℕ) (p p' : SemPart) (b : SemWake) where
  abbrev Go : SemWake → Type 0
  Go b' = WakesGo n n' q c grants words words' locked p p' (wake_stands b) (wake_stands b')

  abbrev Must : SemWake → Type 0
  Must b' = MustOwe n' q c p p' (wake_stands b) (wake_stands b') → b'.owing ≡ true

  module _ (same : words' ≡ words) where
    Words : (t : ℕ) → t < MAX_TASKS → WordGoes words words' p.task locked (waits b.wait_state) (awake_bit b.wait_state) (λ u. 1 ≤ times u b.chosen) t
    Words t few = inl (ap (λ (z : List ℕ). wake_word z t) same)

    -- no wake word changes
    unchanged : {P : Type 0} (t m m' : ℕ) → m ≢ m' → wake_word words t ≡ m → wake_word words' t ≡ m' → P
    unchanged t m m' other was is = absurd (other (sym was ∙ (sym (ap (λ (z : List ℕ). wake_word z t) same) ∙ is)))

    -- whether it owes a wake changes
    pub goes-owing : ((w : Waiter) → c ≡ Enter w → ⊥) → (o : Bool) → (b.owing ≡ false → o ≡ true → OwesBy n' q c p p') → Must (record b { owing = o })
        → (b.owing ≡ true → (o ≡ true) ⊎ PaysBy n q locked p p') → Go (record b { owing = o })
    goes-owing out o owes must pays = record {
      words_go = Words;
      owes = owes;
      must = must;
      pays = λ e. elim (pays e) [ inl stays ↦ inl stays | inr paid_it ↦ inr (inr paid_it) ];
      chooses = inl refl;
      sets = λ t few was is. unchanged t 0 1 (λ e. omega (arith, e)) was is;
      wakes = λ other. absurd (other refl);
      dozes = λ other. absurd (other refl);
      queues = λ other. absurd (other refl);
      enters = λ w e. absurd (out w e);
      again = λ t few mine was is. unchanged t 1 0 (λ e. omega (arith, e)) was is;
      wakes_it = λ e e'. absurd (omega (arith, e, e'));
      tires = λ e e'. absurd (omega (arith, e, e'));
    }

    -- all stays
    pub goes-still : ((w : Waiter) → c ≡ Enter w → ⊥) → Must b → Go b
    goes-still out must = goes-owing out b.owing (λ e e'. not-both b.owing e e') must (λ e. inl e)

    -- how its task waits changes
    pub goes-wait_state : (x : WaitState) → ((w : Waiter) → c ≡ Enter w → awake_bit x ≡ 1) → (awake_bit b.wait_state ≡ 0 → awake_bit x ≡ 1 → (w : Waiter) × (c ≡ Enter w))
        → (awake_bit b.wait_state ≡ 1 → awake_bit x ≡ 0 → TiresBy n q c grants p p') → (waits x ≢ waits b.wait_state → QueuesBy c grants p p' (wake_stands (record b { wait_state = x })))
        → Must (record b { wait_state = x }) → Go (record b { wait_state = x })
    goes-wait_state x enters rises falls queues must = record {
      words_go = Words;
      owes = λ e e'. not-both b.owing e e';
      must = must;
      pays = λ e. inl e;
      chooses = inl refl;
      sets = λ t few was is. unchanged t 0 1 (λ e. omega (arith, e)) was is;
      wakes = λ other. absurd (other refl);
      dozes = λ other. absurd (other refl);
      queues = queues;
      enters = enters;
      again = λ t few mine was is. unchanged t 1 0 (λ e. omega (arith, e)) was is;
      wakes_it = λ e e'. inl (rises e e');
      tires = falls;
    }

    -- its own task leaves the list
    pub goes-leaves : (t : ℕ) → c ≡ Leave t → p.task ≡ Some t → (o : Bool) → (b.owing ≡ true → o ≡ true) → (b.owing ≡ false → o ≡ true → first_code q ≡ t + 1) → HoldsOn p p'
        → (first_code q ≡ t + 1 → p.held ≢ Alone → o ≡ true) → Go (leaves_wake o b)
    goes-leaves t is mine o keeps first on must = record {
      words_go = Words;
      owes = λ e e'. inr (inr (t, is, mine, first e e'));
      must = λ m. let l = leaves-first n' q c p p' (wake_stands b) (wake_stands (leaves_wake o b)) on m in must (l.3 ∙ ap (λ (z : ℕ). z + 1) (same-some l.0 t (sym l.2 ∙ mine))) l.4;
      pays = λ e. inl (keeps e);
      chooses = inl refl;
      sets = λ t few was is. unchanged t 0 1 (λ e. omega (arith, e)) was is;
      wakes = λ other. absurd (other refl);
      dozes = λ other. absurd (other refl);
      queues = λ _. inr (inl (t, is, mine), refl);
      enters = λ w e. leave-enters t w (sym is ∙ e);
      again = λ t few mine was is. unchanged t 1 0 (λ e. omega (arith, e)) was is;
      wakes_it = λ e e'. absurd (omega (arith, e'));
      tires = λ e e'. inl (t, is, mine);
    }

    -- it chooses this task
    pub goes-chooses : ((w : Waiter) → c ≡ Enter w → ⊥) → locked ≡ 1 → (t : ℕ) → ((c ≡ Leave t) × Picks p q t) ⊎ ((first_code q ≡ t + 1) × (first_writes q ≡ 1)) → HoldsOn p p' → Go (chooses_task t b)
    goes-chooses out has t why on = record {
      words_go = Words;
      owes = λ e e'. not-both false refl e';
      must = λ m. let l = leaves-first n' q c p p' (wake_stands b) (wake_stands (chooses_task t b)) on m in let more = ap (λ (z : List ℕ). length z) l.5 in
          absurd (omega (arith, more, length-append b.chosen (t ∷ [])));
      pays = λ e. inr (inl (t, refl, has, why));
      chooses = inr (inl (t, refl, has, why));
      sets = λ t few was is. unchanged t 0 1 (λ e. omega (arith, e)) was is;
      wakes = λ other. absurd (other refl);
      dozes = λ other. absurd (other refl);
      queues = λ other. absurd (other refl);
      enters = λ w e. absurd (out w e);
      again = λ t few mine was is. unchanged t 1 0 (λ e. omega (arith, e)) was is;
      wakes_it = λ e e'. absurd (omega (arith, e, e'));
      tires = λ e e'. absurd (omega (arith, e, e'));
    }

  -- a step on the wake word of this task
  module _ (t m : ℕ) (few : t < MAX_TASKS) (wide : length words ≡ WAKE_WORDS) (is : words' ≡ set words (8 * t) m) (out : (w : Waiter) → c ≡ Enter w → ⊥) where
    word-here : wake_word words' t ≡ m
    word-here = ap (λ (z : List ℕ). wake_word z t) is ∙ get_or-set_same words (8 * t) m 0 (omega (arith, wide, few))

    word-else : (s : ℕ) → s ≢ t → wake_word words' s ≡ wake_word words s
    word-else s other = ap (λ (z : List ℕ). wake_word z s) is ∙ get_or-set_other words (8 * t) (8 * s) m 0 (λ e. other (omega (arith, e)))

    abbrev WordStep : ℕ → Type 0
    WordStep = WordGoes words words' p.task locked (waits b.wait_state) (awake_bit b.wait_state) (λ u. 1 ≤ times u b.chosen)

    one-word : WordStep t → (s : ℕ) → s < MAX_TASKS → WordStep s
    one-word mine s _ = dite (ℕ_discrete s t) (λ same. subst WordStep (sym same) mine) (λ other. inl (word-else s other))

    -- it had chosen the task, which is woken
    pub goes-sets : m ≡ 1 → 1 ≤ times t b.chosen → Must (setting t b) → Go (setting t b)
    goes-sets one chosen must = let done : SetsBy words' (wake_stands b) (wake_stands (setting t b)) = (refl, (t, (chosen, refl), word-here ∙ one)) in record {
      words_go = one-word (inr (inl (word-here ∙ one, chosen)));
      owes = λ e e'. not-both b.owing e e';
      must = must;
      pays = λ e. inl e;
      chooses = inr (inr done);
      sets = λ u small was is. dite (ℕ_discrete u t) (λ same. subst (λ (z : ℕ). SetsTask z (wake_stands b) (wake_stands (setting t b))) (sym same) (chosen, refl, refl))
          (λ other. absurd (let e = word-else u other in omega (arith, e, was, is)));
      wakes = λ _. done;
      dozes = λ other. absurd (other refl);
      queues = λ other. absurd (other refl);
      enters = λ w e. absurd (out w e);
      again = λ u small mine was is. dite (ℕ_discrete u t) (λ same. absurd
          (let e : wake_word words' u ≡ wake_word words' t = ap (wake_word words') same in let h = word-here in omega (arith, e, h, one, is)))
          (λ other. absurd (let e = word-else u other in omega (arith, e, was, is)));
      wakes_it = λ e e'. absurd (omega (arith, e, e'));
      tires = λ e e'. absurd (omega (arith, e, e'));
    }

    -- its own wake word is swapped for 0
    pub goes-drowses : m ≡ 0 → p.task ≡ Some t → locked ≡ 0 → (e : ℕ) × (b.wait_state ≡ Tried e) → LeavesNothing p (wake_stands b) → ((old : ℕ) → Must (drowsing old b))
        → Go (drowsing (wake_word words t) b)
    goes-drowses none mine free tried idle must = by-word (wake_word words t) refl
      where
        queued : waits b.wait_state ≡ 1
        queued = ap waits tried.1

        before : awake_bit b.wait_state ≡ 0
        before = ap awake_bit tried.1

        words_go : (s : ℕ) → s < MAX_TASKS → WordStep s
        words_go = one-word (inr (inr (word-here ∙ none, mine, free, queued, before)))

        -- no other word changes, and this one isn't set
        unset : {P : Type 0} (u : ℕ) → wake_word words u ≡ 0 → wake_word words' u ≡ 1 → P
        unset u was is = dite (ℕ_discrete u t) (λ same. absurd (let e : wake_word words' u ≡ wake_word words' t = ap (wake_word words') same in let h = word-here in omega (arith, e, h, none, is)))
            (λ other. absurd (let e = word-else u other in omega (arith, e, was, is)))

        by-word : (old : ℕ) → wake_word words t ≡ old → Go (drowsing old b)
        by-word zero was = record {
          words_go = words_go;
          owes = λ e e'. not-both b.owing e e';
          must = must zero;
          pays = λ e. inl e;
          chooses = inl refl;
          sets = λ u small now is. unset u now is;
          wakes = λ other. absurd (other refl);
          dozes = λ _. (((t, mine, was), free, queued, before, before, refl), idle);
          queues = λ other. absurd (other refl);
          enters = λ w e. absurd (out w e);
          again = λ u small own now is. absurd (let same = same-some t u (sym mine ∙ own) in let e : wake_word words u ≡ wake_word words t = ap (wake_word words) (sym same) in
              omega (arith, e, now, was));
          wakes_it = λ e e'. absurd (omega (arith, before, e'));
          tires = λ e e'. absurd (omega (arith, before, e));
        }
        by-word (suc old) was = record {
          words_go = words_go;
          owes = λ e e'. not-both b.owing e e';
          must = must (suc old);
          pays = λ e. inl e;
          chooses = inl refl;
          sets = λ u small now is. unset u now is;
          wakes = λ other. absurd (other refl);
          dozes = λ other. absurd (other refl);
          queues = λ other. absurd (other (sym queued));
          enters = λ w e. absurd (out w e);
          again = λ u small own now is. refl;
          wakes_it = λ e e'. inr ((t, mine, omega (arith, was)), free, refl);
          tires = λ e e'. absurd (omega (arith, before, e));
        }

module _ (n n' : ℕ) (q : List Waiter) (grants words : List ℕ) (locked : ℕ) (p p' : SemPart) (b : SemWake) where
  abbrev Stays : SemWake → Type 0
  Stays b' = WakesGo n n' q Stay grants words words locked p p' (wake_stands b) (wake_stands b')

  abbrev MustStay : SemWake → Type 0
  MustStay b' = MustOwe n' q Stay p p' (wake_stands b) (wake_stands b') → b'.owing ≡ true

  owing-goes : (o : Bool) → (b.owing ≡ false → o ≡ true → OwesBy n' q Stay p p') → MustStay (record b { owing = o }) → (b.owing ≡ true → (o ≡ true) ⊎ PaysBy n q locked p p')
      → Stays (record b { owing = o })
  owing-goes = goes-owing n n' q Stay grants words words locked p p' b refl (λ w e. stay-enters w e)

  -- a step that ends and lowers no hold, and takes no bias back
  not-owed : HoldsOn p p' → (b' : SemWake) → MustStay b'
  not-owed on b' m = none-owed n' q Stay p p' (wake_stands b) (wake_stands b') stay-leaves on m

  wait_state-goes : (x : WaitState) → awake_bit x ≡ 0 → TiresBy n q Stay grants p p' → (waits x ≢ waits b.wait_state → QueuesBy Stay grants p p' (wake_stands (record b { wait_state = x })))
      → HoldsOn p p' → Stays (record b { wait_state = x })
  wait_state-goes x none why queues on = goes-wait_state n n' q Stay grants words words locked p p' b refl x (λ w e. stay-enters w e) (λ e e'. absurd (omega (arith, none, e')))
      (λ _ _. why) queues (not-owed on (record b { wait_state = x }))

  pub still-goes : HoldsOn p p' → Stays b
  still-goes on = goes-still n n' q Stay grants words words locked p p' b refl (λ w e. stay-enters w e) (not-owed on b)

  -- a step on the count, a mark or a grant word
  pub kind-goes : {grants' : List ℕ} (vs : List SemPart) (b' : SemWake) → busy_weight p.sem.stage ≤ locked → busy_weight p'.sem.stage ≤ locked → locked ≤ 1
      → WakeGoes n q grants vs n' grants' p p' b b' → Stays b'
  kind-goes {grants'} vs b' before behind most kind = elim kind [
    | inl (same, inl keeps) ↦ stays keeps.wake (elim keeps.stays [
      | inl shares ↦ inl (shares, λ alone. let a : alone_of p ≡ 1 = ap alone_weight alone in let z : alone_of p' ≡ 0 = ap alone_weight shares in let e = keeps.alone in omega (arith, a, z, e))
      | inr still ↦ inr (inr still)
    ])
    | inl (same, inr (inl (only, clear, none, is, wake_is))) ↦ becomes wake_is
        (owing-goes false (λ _ e. not-both false refl e) (not-owed (holds is (let c : transit_of p ≡ 0 = ap transit_weight clear in omega (arith, c))) (record b { owing = false }))
        (λ _. inr ((let l : busy_weight p'.sem.stage ≡ 1 = ap (λ (z : SemPart). busy_weight z.sem.stage) is in omega (arith, l, behind, most)), inl (clear, ap (λ (z : SemPart). z.sem.bias) is))))
    | inl (same, inr (inr (inl (only, bias, none, is, wake_is)))) ↦ stays wake_is (holds is (let c : transit_of p ≡ 0 = ap transit_weight bias.1 in omega (arith, c)))
    | inl (same, inr (inr (inr (inl (only, bias, clear, is, wake_is))))) ↦ becomes wake_is
        (owing-goes (is_left n') (λ _ e. inr (inl ((bias, ap (λ (z : SemPart). z.sem.bias) is), e))) (returns (ap (λ (z : SemPart). z.held) is)) (λ e. not-both b.owing clear e))
    | inl (same, inr (inr (inr (inr (inl (is, late, wake_is)))))) ↦ stays wake_is (inr (inl (ap (λ (z : SemPart). z.held) is)))
    | inl (same, inr (inr (inr (inr (inr (inl (reads, granted, stage, unshared, unalone, is, clear, wake_is))))))) ↦ becomes wake_is
        (let hears : HearsBy grants p p' = (reads, granted, ap (λ (z : SemPart). z.held) is) in
        wait_state-goes Absent refl (inr (inl hears)) (λ _. inr (inr hears, refl)) (inl (hears.2, λ alone. let a : alone_of p ≡ 1 = ap alone_weight alone in omega (arith, a, unalone))))
    | inl (same, inr (inr (inr (inr (inr (inr (inl (why, stage, wake_is)))))))) ↦ becomes wake_is (wait_state-goes (after_failed_try b.wait_state 0) (after_failed_try-bit b.wait_state) (elim why [
      | inl reads ↦ inr (inr (inl reads))
      | inr (writes, inl held) ↦ inr (inr (inr (writes, inl held.0)))
      | inr (writes, inr other) ↦ inr (inr (inr (writes, inr other)))
    ]) (λ other. absurd (other (after_failed_try-waits b.wait_state))) (holds stage.1 (omega arith)))
    | inl (same, inr (inr (inr (inr (inr (inr (inr (only, nobody, clear, stage, is, wake_is)))))))) ↦ becomes wake_is
        (owing-goes false (λ _ e. not-both false refl e) (not-owed (holds is (omega arith)) (record b { owing = false }))
        (λ _. inr ((let l : busy_weight p.sem.stage ≡ 1 = ap busy_weight stage in omega (arith, l, before, most)), inr (inl nobody))))
    | inr (same_n, next, clear, wake_is) ↦ stays wake_is (holds next.6 (omega arith))
  ]
    where
      becomes : {x : SemWake} → b' ≡ x → Stays x → Stays b'
      becomes {x} is = subst Stays (sym is)

      stays : b' ≡ b → HoldsOn p p' → Stays b'
      stays is on = becomes is (still-goes on)

      -- it holds as before, and keeps its bias in transit
      holds : {s : SemHand} → p' ≡ record p { sem = s } → transit_of p ≤ transit_weight s.bias → HoldsOn p p'
      holds {s} is more = inr (inr (ap (λ (z : SemPart). z.held) is, (let e : transit_of p' ≡ transit_weight s.bias = ap transit_of is in omega (arith, e, more))))

      -- it takes its bias back, and holds as before
      returns : p'.held ≡ p.held → MustStay (record b { owing = is_left n' })
      returns same m = elim m [
        | inl (alone, other, _) ↦ absurd (other (same ∙ alone))
        | inr (inl (shared, out, _, _)) ↦ held-apart Shared No (λ e. omega (arith, e)) (sym shared ∙ (sym same ∙ out))
        | inr (inr (inl (_, _, left))) ↦ left
        | inr (inr (inr leaves)) ↦ absurd (stay-leaves leaves.0 leaves.1)
      ]

  -- a step on the count that may end or lower a hold
  pub count-goes : (freed : ℕ) → (p.held ≢ No → p'.held ≢ p.held → freed ≡ n') → b.owing ≡ false → transit_of p ≤ shared_weight p'.held + transit_of p'
      → Stays (record b { owing = owes_after p.held p'.held freed b.owing })
  count-goes freed left clear keeps = owing-goes (owes_after p.held p'.held freed b.owing)
      (λ _ e. let o = owed p.held p'.held b.owing clear e in let is = left o.0 o.1 in inl (o.0, o.1, ap (λ (z : ℕ). z / 2 % 2) (sym is) ∙ o.2, λ shared. ap is_left (sym is) ∙ o.3 shared)) must
      (λ e. not-both b.owing clear e)
    where
      waits-on : freed ≡ n' → n' / 2 % 2 ≡ 1 → has_waiters freed ≡ true
      waits-on is waits = eq-eqb (freed / 2 % 2) 1 (ap (λ (z : ℕ). z / 2 % 2) is ∙ waits)

      -- an exclusive hold ends or is lowered while tasks wait
      alone-owes : (y : Held) → y ≢ Alone → has_waiters freed ≡ true → owes_after Alone y freed b.owing ≡ true
      alone-owes No other waits = waits
      alone-owes Shared other waits = waits
      alone-owes Alone other waits = absurd (other refl)

      must : MustStay (record b { owing = owes_after p.held p'.held freed b.owing })
      must m = elim m [
        | inl (alone, other, waits) ↦ let is = left (λ out. held-apart Alone No (λ e. omega (arith, e)) (sym alone ∙ out)) (λ same. other (same ∙ alone)) in
            ap (λ (x : Held). owes_after x p'.held freed b.owing) alone ∙ alone-owes p'.held other (waits-on is waits)
        | inr (inl (shared, out, waits, alone_left)) ↦ let is = left (λ idle. held-apart Shared No (λ e. omega (arith, e)) (sym shared ∙ idle))
            (λ same. held-apart Shared No (λ e. omega (arith, e)) (sym shared ∙ (sym same ∙ out))) in
            (λ i. owes_after (shared i) (out i) freed b.owing) ∙ (λ i. waits-on is waits i && (ap is_left is ∙ alone_left) i)
        | inr (inr (inl ((transit, clear_now), out, _))) ↦ absurd (let one : transit_of p ≡ 1 = ap transit_weight transit.1 in let z : transit_of p' ≡ 0 = ap transit_weight clear_now in
            let s : shared_weight p'.held ≡ 0 = ap shared_weight out in omega (arith, keeps, one, z, s))
        | inr (inr (inr leaves)) ↦ absurd (stay-leaves leaves.0 leaves.1)
      ]

      both : (x y : Bool) → (x && y) ≡ true → (x ≡ true) × (y ≡ true)
      both true y e = (refl, e)
      both false y e = not-both false refl e

      waiting : has_waiters freed ≡ true → freed / 2 % 2 ≡ 1
      waiting e = elim (ℕ_discrete (freed / 2 % 2) 1) [ yes is ↦ is | no other ↦ not-both (freed / 2 % 2 == 1) (ne_eqb (freed / 2 % 2) 1 other) e ]

      owed : (x y : Held) (o : Bool) → o ≡ false → owes_after x y freed o ≡ true → (x ≢ No) × (y ≢ x) × (freed / 2 % 2 ≡ 1) × (x ≡ Shared → is_left freed ≡ true)
      owed Alone No o none e = ((λ z. absurd cc), (λ z. absurd cc), waiting e, λ z. absurd cc)
      owed Alone Shared o none e = ((λ z. absurd cc), (λ z. absurd cc), waiting e, λ z. absurd cc)
      owed Alone Alone o none e = not-both o none e
      owed Shared No o none e = let a = both (has_waiters freed) (is_left freed) e in ((λ z. absurd cc), (λ z. absurd cc), waiting a.0, λ _. a.1)
      owed Shared Shared o none e = not-both o none e
      owed Shared Alone o none e = not-both o none e
      owed No y o none e = not-both o none e

-- a look at the list, which the pass knows or not
module _ (n : ℕ) (q : List Waiter) (grants words : List ℕ) (locked : ℕ) (p p' : SemPart) (b : SemWake) where
  abbrev Looks : SemWake → Type 0
  Looks b' = WakesGo n n q Stay grants words words locked p p' (wake_stands b) (wake_stands b')

  pub look-goes : HoldsOn p p' → (knows : Bool) (known : List Waiter) → (knows ≡ true → (locked ≡ 1) × (known ≡ q)) → Looks (looked knows p.held known b)
  look-goes on false known may = still-goes n n q grants words locked p p' b on
  look-goes on true known may = by-list known (may refl).1
    where
      has : locked ≡ 1
      has = (may refl).0

      pays : ((first_code q ≡ 0) ⊎ ((p.held ≡ Shared) × (first_writes q ≡ 1))) → Looks (paid b)
      pays why = owing-goes n n q grants words locked p p' b false (λ _ e. not-both false refl e) (not-owed n n q grants words locked p p' b on (record b { owing = false })) (λ _. inr (has, inr why))

      chooses : (t : ℕ) → first_code q ≡ t + 1 → first_writes q ≡ 1 → Looks (chooses_task t b)
      chooses t first writes = goes-chooses n n q Stay grants words words locked p p' b refl (λ w e. stay-enters w e) has t (inr (first, writes)) on

      by-kind : (held : Held) (writes : Bool) (t : ℕ) → p.held ≡ held → first_code q ≡ t + 1 → first_writes q ≡ bit writes → Looks (looks_at held writes t b)
      by-kind No true t is first kind = chooses t first kind
      by-kind Alone true t is first kind = chooses t first kind
      by-kind Shared true t is first kind = pays (inr (is, kind))
      by-kind No false t is first kind = still-goes n n q grants words locked p p' b on
      by-kind Shared false t is first kind = still-goes n n q grants words locked p p' b on
      by-kind Alone false t is first kind = still-goes n n q grants words locked p p' b on

      by-list : (l : List Waiter) → l ≡ q → Looks (looked true p.held l b)
      by-list [] is = pays (inl (ap first_code (sym is)))
      by-list (w ∷ l) is = by-kind p.held w.writer w.task refl (ap first_code (sym is)) (ap first_writes (sym is))
