-- Lists of waiters, and what a count says beside them.
use Rattle.std.proofs.Common.{◌≡◌, ℕ, suc, ◌+◌, ◌-◌, ◌<◌, ◌≤◌, ◌==◌, ◌||◌, if◌then◌else◌, is_some, Bool, true, false, List, [], ◌∷◌, ◌++◌, length, map, take, drop, get_or, slice_get, Option, Some, None, refl, sym, ap, ◌∙◌, inl, inr, arith, length-append}
use Rattle.std.specs.Prelude.{option_map, remove, min}
use Rattle.std.proofs.lemmas.List.{take-append-drop, length-map, length-take, nil_from_length}
use Rattle.std.proofs.lemmas.Bool.{eq-eqb, eqb-true}
use Rattle.std.proofs.lemmas.Bool.Decides.{eqb_tells}
use Rattle.std.proofs.lemmas.Option.{slice_get_within, get_or_from_slice_get}
use Rattle.std.proofs.Math.Seq.{drop-cons}
use Rattle.std.proofs.lemmas.List.{map-append}
use Rattle.wait_list.specs.declared.view.Waiter.{Waiter}
use Rattle.word_bits.specs.declared.count.Count.{Count}
use Rattle.rwsem_count.specs.CountSemaphores.{Semaphore, is_waited, Describes, States}
use Rattle.rwsem_count.specs.CountWordSteps.{IsTold}
use Rattle.word_bits.specs.OwnerWord.{bit}
use Rattle.word_bits.specs.declared.TheConstants.{MAX_TASKS}
use Rattle.lock_steps.specs.CountSteps.{queued_back, batched}
use Rattle.lock_courses.specs.SemaphoreCourses.{waiter_task}

-- a free semaphore
pub free : States 0 (record { writer = None; readers = []; biases = 0; waiting = []; marked = false })
free = record {
  count = record { writer = false; waiters = false; handoff = false; readers = 0; read_fail = false };
  ranged = omega arith;
  is = refl;
  describes = record { writer = refl; apart = λ e. cc; readers = refl; few = omega arith; waiters = refl; handoff = λ e. cc; marked = λ e. cc; no_fail = refl };
}

pub waits_or_alone : (ws : List Waiter) → (is_waited (map waiter_task ws) || (length ws == 0)) ≡ true
waits_or_alone [] = refl
waits_or_alone (w ∷ ws) = refl

pub append_waits : (ws : List Waiter) (w : Waiter) → is_waited (map waiter_task (ws ++ w ∷ [])) ≡ true
append_waits [] w = refl
append_waits (v ∷ vs) w = refl

-- a bias less, and a waiter more
pub queued : (n : Count) (s : Semaphore) (biases : ℕ) (waiting : List ℕ) (alone : Bool) → Describes n s → biases + 1 ≡ s.biases → is_waited waiting ≡ true → (n.waiters || alone) ≡ true
    → Describes (queued_back n alone) (record s { biases = biases; waiting = waiting })
queued n s biases waiting alone d less waits flag =
    let r = d.readers in let f = d.few in record {
      writer = d.writer;
      apart = d.apart;
      readers = omega arith;
      few = omega arith;
      waiters = flag ∙ sym waits;
      handoff = λ e. waits;
      marked = d.marked;
      no_fail = d.no_fail;
    }

found : (o : Option Waiter) (me : ℕ) → option_map waiter_task o ≡ Some me → (x : Waiter) × (o ≡ Some x) × (waiter_task x ≡ me)
found None me e = cc
found (Some x) me e = (x, refl, cc)

split : (ws : List Waiter) (k me : ℕ) (x : Waiter) → slice_get ws k ≡ Some x → waiter_task x ≡ me → map waiter_task ws ≡ map waiter_task (take k ws) ++ me ∷ map waiter_task (drop (suc k) ws)
split ws k me x at is =
    let within : k < length ws = slice_get_within ws k x at in
    ap (map waiter_task) (sym (take-append-drop k ws) ∙ ap (λ z. take k ws ++ z) (drop-cons ws k x within)) ∙ map-append waiter_task (take k ws) (get_or ws k x ∷ drop (suc k) ws)
    ∙ ap (λ y. map waiter_task (take k ws) ++ y ∷ map waiter_task (drop (suc k) ws)) (ap waiter_task (get_or_from_slice_get ws k x x at) ∙ is)

no_task : (ws : List Waiter) → length ws ≡ 0 → map waiter_task ws ≡ []
no_task ws e = nil_from_length (map waiter_task ws) (length-map ws waiter_task ∙ e)

-- what a queued writer tells its try of the list
pub told : (s : Semaphore) (ws : List Waiter) (k me : ℕ) → s.waiting ≡ map waiter_task ws → option_map waiter_task (slice_get ws k) ≡ Some me
    → IsTold s me (map waiter_task (take k ws)) (map waiter_task (drop (suc k) ws)) (k == 0) s.marked (length ws == 1)
told s ws k me list at =
    let x = found (slice_get ws k) me at in
    let within : k < length ws = slice_get_within ws k x.0 x.1 in
    let before : List ℕ = map waiter_task (take k ws) in
    let after : List ℕ = map waiter_task (drop (suc k) ws) in
    let parts : map waiter_task ws ≡ before ++ me ∷ after = split ws k me x.0 x.1 x.2 in
    let lb : length before ≡ min k (length ws) = length-map (take k ws) waiter_task ∙ length-take k ws in
    let all : length ws ≡ length before + (length after + 1) = sym (length-map ws waiter_task) ∙ ap length parts ∙ (length-append before (me ∷ after) ∙ omega arith) in
    let both : length (before ++ after) ≡ length before + length after = length-append before after in
    record {
      there = list ∙ parts;
      first = (λ e. let z : k ≡ 0 = eqb-true k 0 e in nil_from_length before (omega arith), λ e. let z : length before ≡ 0 = ap length e in eq-eqb k 0 (omega arith));
      marked = refl;
      only = (λ e. let z : length ws ≡ 1 = eqb-true (length ws) 1 e in nil_from_length (before ++ after) (omega arith), λ e. let z : length (before ++ after) ≡ 0 = ap length e in eq-eqb (length ws) 1 (omega arith));
    }

-- all but one of the list
pub others : (ws : List Waiter) (k : ℕ) → map waiter_task (remove ws k) ≡ map waiter_task (take k ws) ++ map waiter_task (drop (suc k) ws)
others ws k = map-append waiter_task (take k ws) (drop (suc k) ws)

not_zero : (n : ℕ) → 0 < n → (n == 0) ≡ false
not_zero n some = elim (eqb_tells n 0) [ inl h ↦ let z = h.1 in absurd (omega arith) | inr h ↦ h.0 ]

waited_by_length : (ws : List Waiter) → is_waited (map waiter_task ws) ≡ (if (length ws == 0) then false else true)
waited_by_length [] = refl
waited_by_length (w ∷ ws) = ap (λ (b : Bool). if b then false else true) (sym (not_zero (suc (length ws)) (omega arith)))

pub waits_unless_empty : (ws : List Waiter) (n : ℕ) → n ≡ length ws → is_waited (map waiter_task ws) ≡ (if (n == 0) then false else true)
waits_unless_empty ws n e = waited_by_length ws ∙ ap (λ k. if (k == 0) then false else true) (sym e)

-- a batch holds, in place of the bias that was reserved for it
pub granted : (n : Count) (s : Semaphore) (readers : List ℕ) (biases : ℕ) (waiting : List ℕ) (k : ℕ) (reserved empty : Bool) → Describes n s → s.writer ≡ None → length readers ≡ length s.readers + k → biases + bit reserved ≡ s.biases
    → is_waited waiting ≡ (if empty then false else true) → n.readers - bit reserved + k ≤ MAX_TASKS + 1 → Describes (batched n k reserved empty) (record s { readers = readers; biases = biases; waiting = waiting; marked = false })
granted n s readers biases waiting k reserved empty d nobody more less waits few =
    let r = d.readers in record {
      writer = d.writer;
      apart = λ e. let same : is_some s.writer ≡ false = ap is_some nobody in let bad : true ≡ false = sym e ∙ same in cc;
      readers = omega arith;
      few = omega arith;
      waiters = sym waits;
      handoff = λ e. cc;
      marked = λ e. cc;
      no_fail = d.no_fail;
    }

-- the bias of a waker that has counted its batch is gone
pub waker_gone : (waker : Option ℕ) (reserved : Bool) → (reserved ≡ true → is_some waker ≡ true) → bit (is_some (if reserved then None else waker)) + bit reserved ≡ bit (is_some waker)
waker_gone waker true some = let e : bit (is_some waker) ≡ 1 = ap bit (some refl) in omega arith
waker_gone waker false some = omega arith

pub none_of : (o : Option ℕ) → is_some o ≡ false → o ≡ None
none_of None e = refl
none_of (Some x) e = cc
