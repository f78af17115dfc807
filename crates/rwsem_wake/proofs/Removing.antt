-- The loop that removes a batch.
use Rattle.std.proofs.Common.{◌≡◌, ◌≢◌, ℕ, zero, suc, ◌+◌, ◌<◌, ◌≤◌, ◌==◌, ◌⊎◌, inl, inr, Bool, true, false, List, [], ◌∷◌, ◌++◌, length, map, filter, take, drop, get_or, Some, sym, refl, ap, ◌∙◌, subst, arith, eq-eqb, ne_eqb, if◌then◌else◌, append_assoc, length-append}
use Rattle.std.proofs.lemmas.List.{drop_more, append-nil}
use Rattle.std.proofs.Math.ListN.{drop_of_length-le}
use Rattle.lock_core.specs.Records.{bit}
use Rattle.wait_list.specs.Lists.{AreAmong, IsList, Knows, Removes, counted, first_of, list_part, without}
use Rattle.wait_list.proofs.Waiters.{counted-behind, counted-own, length-without, sound-changed}
use Rattle.rwsem_count.specs.Counts.{early_weight, late_weight, shared_weight}
use Rattle.rwsem_wake.specs.Batches.{batch_of, reads, starts_with_reader, task_of}
use Rattle.lock_core.specs.Totals.{total}
use Rattle.rwsem_wake.specs.SemParts.{IsWhole, reader_bit, reader_of, some_of, transit_weight}
use Rattle.rwsem_wake.proofs.Places.{total-without}
use Rattle.rwsem_wake.specs.GrantsStated.{IsFirstReader}
use Rattle.rwsem_wake.proofs.FirstReaders.{picks-is, reader-counts}
use Rattle.rwsem_wake.specs.RwSemViews.{LeavesPicked, MayPick, V, chooses_task, list_of, parted, parted_wake, picked, sem_of, with_list, with_sem}
use Rattle.rwsem_wake.specs.Removals.{AreHeads, BeginsWith, Chose, HasRemoved, KnowsList, RemovesAll, without_all}
use Rattle.rwsem_wake.specs.RwSemWakes.{Grants, batch_in}
use Rattle.rwsem_wake.specs.Grants.{KeepsOut, OnlySem, all_granted}
use Rattle.rwsem_wake.specs.Types.{Waiter, Leave, ListHand, SemWake, SemHand}
use Rattle.rwsem_wake.specs.declared.batches.TheConstants.{MAX_READERS_WAKEUP}

pub heads-first : (t : ℕ) (ts : List ℕ) (q : List Waiter) → AreHeads (t ∷ ts) q → IsFirstReader t q
heads-first t ts [] h = absurd h
heads-first t ts (w ∷ q) h = elim h [ inl is ↦ inl (is.0, is.1) | inr more ↦ inr (more.0, heads-first t ts q more.1) ]

heads-behind : (x : Waiter) (ts : List ℕ) (q : List Waiter) → x.writer ≡ true → AreHeads ts q → AreHeads ts (x ∷ q)
heads-behind x [] q writer h = tt
heads-behind x (t ∷ ts) q writer h = inr (writer, h)

heads-next : (t : ℕ) (ts : List ℕ) (q : List Waiter) → counted t q ≤ 1 → AreHeads (t ∷ ts) q → AreHeads ts (without t q)
heads-next t ts [] once h = absurd h
heads-next t ts (w ∷ q) once h = elim h [
  | inl is ↦ subst (λ (b : Bool). AreHeads ts (if b then q else w ∷ without t q)) (sym (eq-eqb w.task t is.1)) is.2
  | inr more ↦ let l = reader-counts t q (heads-first t ts q more.1) in let not : w.task ≢ t = λ e. (let y : bit (w.task == t) ≡ 1 = ap bit (eq-eqb w.task t e) in absurd (omega (arith, y, l, once))) in
      subst (λ (b : Bool). AreHeads ts (if b then q else w ∷ without t q)) (sym (ne_eqb w.task t not)) (heads-behind w ts (without t q) more.0 (heads-next t ts q (omega (arith, once)) more.1))
]

-- a batch is so
takes-heads : (n : ℕ) (q : List Waiter) → AreHeads (take n (map task_of (filter reads q))) q
takes-heads n [] = nothing n
  where
    nothing : (n : ℕ) → AreHeads (take n []) []
    nothing zero = tt
    nothing (suc n) = tt
takes-heads n (w ∷ q) = go w.writer refl n (λ m. takes-heads m q)
  where
    go : (b : Bool) → w.writer ≡ b → (n : ℕ) → ((m : ℕ) → AreHeads (take m (map task_of (filter reads q))) q) → AreHeads (take n (map task_of (filter reads (w ∷ q)))) (w ∷ q)
    go true e n ih = subst (λ (b : Bool). AreHeads (take n (map task_of (if (if b then false else true) then w ∷ filter reads q else filter reads q))) (w ∷ q)) (sym e) (heads-behind w (take n (map task_of (filter reads q))) q e (ih n))
    go false e n ih = subst (λ (b : Bool). AreHeads (take n (map task_of (if (if b then false else true) then w ∷ filter reads q else filter reads q))) (w ∷ q)) (sym e) (more n)
      where
        more : (n : ℕ) → AreHeads (take n (w.task ∷ map task_of (filter reads q))) (w ∷ q)
        more zero = tt
        more (suc n) = inl (e, refl, ih n)

pub batch-heads : (n : ℕ) (q : List Waiter) → AreHeads (batch_of n q) q
batch-heads n q = go (starts_with_reader q)
  where
    go : (b : Bool) → AreHeads (if b then take n (map task_of (filter reads q)) else []) q
    go true = takes-heads n q
    go false = tt

pub batch-begins : (n : ℕ) (q : List Waiter) → BeginsWith (batch_of n q) q
batch-begins n [] = tt
batch-begins n (w ∷ q) = go w.writer refl n
  where
    go : (b : Bool) → w.writer ≡ b → (n : ℕ) → BeginsWith (batch_of n (w ∷ q)) (w ∷ q)
    go true e n = subst (λ (b : Bool). BeginsWith (if (if b then false else true) then take n (map task_of (if (if b then false else true) then w ∷ filter reads q else filter reads q)) else []) (w ∷ q)) (sym e) tt
    go false e n = subst (λ (b : Bool). BeginsWith (if (if b then false else true) then take n (map task_of (if (if b then false else true) then w ∷ filter reads q else filter reads q)) else []) (w ∷ q)) (sym e) (one n)
      where
        one : (n : ℕ) → BeginsWith (take n (w.task ∷ map task_of (filter reads q))) (w ∷ q)
        one zero = tt
        one (suc n) = refl

pub heads-among : (n : ℕ) (ts : List ℕ) (q : List Waiter) → AreAmong n q → AreHeads ts q → (i : ℕ) → i < length ts → get_or ts i 0 < n
heads-among n [] q are h i few = absurd (omega (arith, few))
heads-among n (t ∷ ts) [] are h i few = absurd h
heads-among n (t ∷ ts) (w ∷ q) are h zero few = elim h [ inl is ↦ subst (λ (z : ℕ). z < n) is.1 (are w.task (counted-own w q)) | inr more ↦ heads-among n (t ∷ ts) q (λ u there. are u (counted-behind w q u there)) more.1 zero few ]
heads-among n (t ∷ ts) (w ∷ q) are h (suc i) few = elim h [ inl is ↦ heads-among n ts q (λ u there. are u (counted-behind w q u there)) is.2 i (omega (arith, few)) | inr more ↦ heads-among n (t ∷ ts) q (λ u there. are u (counted-behind w q u there)) more.1 (suc i) few ]

pub heads-few : (ts : List ℕ) (q : List Waiter) → AreHeads ts q → length ts ≤ length q
heads-few [] q h = omega arith
heads-few (t ∷ ts) [] h = absurd h
heads-few (t ∷ ts) (w ∷ q) h = elim h [ inl is ↦ (let e = heads-few ts q is.2 in omega (arith, e)) | inr more ↦ (let e = heads-few (t ∷ ts) q more.1 in omega (arith, e)) ]

-- a list without a batch is as much shorter, and has as many readers less
module _ (t : ℕ) (ts : List ℕ) (q : List Waiter) (s : IsList q) (h : AreHeads (t ∷ ts) q) where
  there : 1 ≤ counted t q
  there = reader-counts t q (heads-first t ts q h)

  pub sound-behind : IsList (without t q)
  sound-behind = sound-changed (Leave t) q s there

  pub heads-behind-it : AreHeads ts (without t q)
  heads-behind-it = heads-next t ts q (s.once t) h

  one-less : total reader_of (without t q) + 1 ≡ total reader_of q
  one-less = let p = picks-is t q (s.once t) (heads-first t ts q h) in let e = total-without reader_of q (without t q) p.0 p.3.0 in let one : reader_of p.0 ≡ 1 = ap reader_bit p.2 in omega (arith, e, one)

pub length-all : (ts : List ℕ) (q : List Waiter) → IsList q → AreHeads ts q → length (without_all ts q) + length ts ≡ length q
length-all [] q s h = omega arith
length-all (t ∷ ts) q s h = let a = length-without t q (there t ts q s h) in let b = length-all ts (without t q) (sound-behind t ts q s h) (heads-behind-it t ts q s h) in omega (arith, a, b)

pub readers-all : (ts : List ℕ) (q : List Waiter) → IsList q → AreHeads ts q → total reader_of (without_all ts q) + length ts ≡ total reader_of q
readers-all [] q s h = omega arith
readers-all (t ∷ ts) q s h = let a = one-less t ts q s h in let b = readers-all ts (without t q) (sound-behind t ts q s h) (heads-behind-it t ts q s h) in omega (arith, a, b)

-- the readers of a list
pub all-readers : (q : List Waiter) → length (map task_of (filter reads q)) ≡ total reader_of q
all-readers [] = refl
all-readers (w ∷ q) = go w.writer refl (all-readers q)
  where
    go : (b : Bool) → w.writer ≡ b → length (map task_of (filter reads q)) ≡ total reader_of q → length (map task_of (filter reads (w ∷ q))) ≡ total reader_of (w ∷ q)
    go true e l = subst (λ (b : Bool). length (map task_of (if (if b then false else true) then w ∷ filter reads q else filter reads q)) ≡ reader_bit b + total reader_of q) (sym e) (omega (arith, l))
    go false e l = subst (λ (b : Bool). length (map task_of (if (if b then false else true) then w ∷ filter reads q else filter reads q)) ≡ reader_bit b + total reader_of q) (sym e) (omega (arith, l))

take-short : (n : ℕ) (xs : List ℕ) → length xs ≤ n → length (take n xs) ≡ length xs
take-short zero [] l = refl
take-short zero (x ∷ xs) l = absurd (omega (arith, l))
take-short (suc n) [] l = refl
take-short (suc n) (x ∷ xs) l = let e = take-short n xs (omega (arith, l)) in omega (arith, e)

take-full : (n : ℕ) (xs : List ℕ) → n ≤ length xs → length (take n xs) ≡ n
take-full zero xs l = refl
take-full (suc n) [] l = absurd (omega (arith, l))
take-full (suc n) (x ∷ xs) l = let e = take-full n xs (omega (arith, l)) in omega (arith, e)

-- the batch of a list with a reader first is a whole one
pub batch-whole : (q : List Waiter) → IsList q → starts_with_reader q ≡ true → IsWhole (batch_of MAX_READERS_WAKEUP q) (without_all (batch_of MAX_READERS_WAKEUP q) q)
batch-whole q sound starts = let rs : List ℕ = map task_of (filter reads q) in let all = readers-all (batch_of MAX_READERS_WAKEUP q) q sound (batch-heads MAX_READERS_WAKEUP q) in let readers = all-readers q in
    let is : length (batch_of MAX_READERS_WAKEUP q) ≡ length (take MAX_READERS_WAKEUP rs) = ap (λ (b : Bool). length (if b then take MAX_READERS_WAKEUP rs else [])) starts in elim (native.Mathlib.Decide.dec_le (length rs) MAX_READERS_WAKEUP) [
      | yes few ↦ let t = take-short MAX_READERS_WAKEUP rs few in inl (omega (arith, all, readers, is, t))
      | no more ↦ inr (is ∙ take-full MAX_READERS_WAKEUP rs (omega (arith, more)))
    ]

pub batch-some : (n : ℕ) (q : List Waiter) → starts_with_reader q ≡ true → (t : ℕ) × (ts : List ℕ) × (batch_of (suc n) q ≡ t ∷ ts)
batch-some n [] e = absurd (let z : bit false ≡ bit true = ap bit e in omega (arith, z))
batch-some n (w ∷ q) e = (w.task, take n (map task_of (filter reads q)), ap (λ (b : Bool). if b then take (suc n) (map task_of (if b then w ∷ filter reads q else filter reads q)) else []) e)

-- a batch is empty, or goes on to be removed
picks-on : {P : Type 0} (ts : List ℕ) → (0 < length ts → P) → (ts ≡ []) ⊎ P
picks-on [] begun = inl refl
picks-on (t ∷ ts) begun = inr (begun (omega arith))

-- who may pick removes the task as one of its batch
parted-picked : (s : SemHand) (t long : ℕ) → MayPick s → parted s.stage s.wait t long s ≡ picked t s
parted-picked s t long (inl is) = λ i. parted (is.0 i) (is.1 i) t long s
parted-picked s t long (inr (inl (b, is))) = λ i. parted (is i) s.wait t long s
parted-picked s t long (inr (inr is)) = λ i. parted (is i) s.wait t long s

-- and chooses it
parted-chooses : (s : SemHand) (t : ℕ) (b : SemWake) → MayPick s → parted_wake s.stage s.wait t b ≡ chooses_task t b
parted-chooses s t b (inl is) = λ i. parted_wake (is.0 i) (is.1 i) t b
parted-chooses s t b (inr (inl (c, is))) = λ i. parted_wake (is i) s.wait t b
parted-chooses s t b (inr (inr is)) = λ i. parted_wake (is i) s.wait t b

module _ (u : V) (batch : List ℕ) where
  pub removed-none : KnowsList u → MayPick u.ext.sem → u.ext.sem.rest ≡ [] → AreHeads batch u.ext.list.list → BeginsWith batch u.ext.list.list → HasRemoved u batch 0 u
  removed-none list may none heads begins = record {
    beside = record { later = omega arith; hand = refl; spin = refl; fronts = refl; appends = refl; wait = refl };
    bias = refl;
    list = list;
    may = may;
    begun = λ l. absurd (let z = ap (λ (x : List ℕ). length x) none in omega (arith, z, l));
    rest = ap (λ (x : List ℕ). x ++ batch) none;
    heads = heads;
    begins = λ _. begins;
    chose = λ j. record u.ext.wake { chosen = chosen-same j };
    clear = λ l. absurd (let z = ap (λ (x : List ℕ). length x) none in omega (arith, z, l));
    are = refl;
  }
    where
      chosen-same : u.ext.wake.chosen ≡ u.ext.wake.chosen ++ u.ext.sem.rest
      chosen-same = sym (append-nil u.ext.wake.chosen) ∙ ap (λ (x : List ℕ). u.ext.wake.chosen ++ x) (sym none)

  module _ (i : ℕ) (v : V) (g : HasRemoved u batch i v) (more : i < length batch) where
    next : drop i batch ≡ get_or batch i 0 ∷ drop (i + 1) batch
    next = drop_more batch i 0 more

    heads : AreHeads (get_or batch i 0 ∷ drop (i + 1) batch) v.ext.list.list
    heads = subst (λ (z : List ℕ). AreHeads z v.ext.list.list) next g.heads

    pub removed-may : length batch ≤ MAX_READERS_WAKEUP → (own : ℕ) × (u.hand.task ≡ Some own) → KeepsOut sem_of u → (q : List Waiter) → (Knows (list_part list_of v) → q ≡ v.ext.list.list) → LeavesPicked v q (get_or batch i 0)
    removed-may few has keeps = λ q same. let is : q ≡ v.ext.list.list = same g.list.knows in subst (λ (z : List Waiter). LeavesPicked v z (get_or batch i 0)) (sym is) (
      g.may,
      (has.0, ap (λ h. h.task) g.beside.hand ∙ has.1),
      (
        heads-first (get_or batch i 0) (drop (i + 1) batch) v.ext.list.list heads,
        (λ none. subst (λ (z : List ℕ). BeginsWith z v.ext.list.list) next (g.begins none)),
        let a = ap (λ (z : List ℕ). length z) g.rest in let b = length-append v.ext.sem.rest (drop i batch) in let c = ap (λ (z : List ℕ). length z) next in omega (arith, a, b, c, few),
        picks-on v.ext.sem.rest g.begun,
      ),
      (
        (λ j. shared_weight (g.beside.hand j).held + early_weight (g.bias j)) ∙ keeps.0,
        ap late_weight g.bias ∙ keeps.1,
        ap transit_weight g.bias ∙ keeps.2,
      ),
    )

    pub removed-one : (w : V) → v.steps ≤ w.steps → Removes list_of with_list v (get_or batch i 0) w → HasRemoved u batch (i + 1) w
    removed-one w more_steps r = let t : ℕ = get_or batch i 0 in let was : r.was ≡ v.ext.list.list = r.before g.list.knows in let now : r.hand.list ≡ without t v.ext.list.list = r.now ∙ ap (without t) was in
        let x : V = record v { steps = w.steps; ext = record { list = r.hand; sem = picked t v.ext.sem; appends = v.ext.appends; wake = chooses_task t v.ext.wake } } in
        let same : w ≡ x = r.view ∙ (λ j. record v { steps = w.steps; ext = record { list = r.hand; sem = parted-picked v.ext.sem t (length r.hand.list) g.may j; appends = v.ext.appends; wake = parted-chooses v.ext.sem t v.ext.wake g.may j } }) in
        subst (HasRemoved u batch (i + 1)) (sym same) record {
          beside = record { later = (let a = g.beside.later in omega (arith, a, more_steps)); hand = g.beside.hand; spin = g.beside.spin; fronts = g.beside.fronts; appends = g.beside.appends; wait = g.beside.wait };
          bias = g.bias;
          list = record { knows = (g.list.knows.0, r.since); still = r.still; sound = subst IsList (sym r.now) (sound-changed (Leave t) r.was r.sound r.there) };
          may = inr (inr refl);
          begun = λ _. refl;
          rest = append_assoc v.ext.sem.rest (t ∷ []) (drop (i + 1) batch) ∙ (ap (λ (z : List ℕ). v.ext.sem.rest ++ z) (sym next) ∙ g.rest);
          heads = subst (AreHeads (drop (i + 1) batch)) (sym now) (heads-next t (drop (i + 1) batch) v.ext.list.list (g.list.sound.once t) heads);
          begins = λ none. absurd (let a = ap (λ (z : List ℕ). length z) none in let b = length-append v.ext.sem.rest (t ∷ []) in omega (arith, a, b));
          chose = ap (chooses_task t) g.chose ∙ (λ j. record u.ext.wake { owing = false; chosen = append_assoc u.ext.wake.chosen v.ext.sem.rest (t ∷ []) j });
          clear = λ _. refl;
          are = ap (without_all (drop (i + 1) batch)) now ∙ (ap (λ (z : List ℕ). without_all z v.ext.list.list) (sym next) ∙ g.are);
        }

  pub removed-all : (i : ℕ) (v : V) → HasRemoved u batch i v → length batch ≤ i → RemovesAll u batch v
  removed-all i v g l = let none = drop_of_length-le batch l in let rest : v.ext.sem.rest ≡ batch = sym (append-nil v.ext.sem.rest) ∙ (ap (λ (z : List ℕ). v.ext.sem.rest ++ z) (sym none) ∙ g.rest) in record {
    beside = g.beside;
    bias = g.bias;
    list = g.list;
    rest = rest;
    stage = λ p. g.begun (let e = ap (λ (z : List ℕ). length z) rest in omega (arith, e, p));
    chose = subst (λ (z : List ℕ). Chose z u.ext.wake v.ext.wake) rest g.chose;
    clear = λ p. g.clear (let e = ap (λ (z : List ℕ). length z) rest in omega (arith, e, p));
    are = ap (λ (z : List ℕ). without_all z v.ext.list.list) (sym none) ∙ g.are;
  }

-- after some steps
pub removes-since : (v w u : V) (batch : List ℕ) → v.steps ≤ w.steps → w ≡ record v { steps = w.steps } → RemovesAll w batch u → RemovesAll v batch u
removes-since v w u batch more_steps kept r = record {
  beside = record {
    later = let a = r.beside.later in omega (arith, a, more_steps);
    hand = r.beside.hand ∙ ap (λ (z : V). z.hand) kept;
    spin = r.beside.spin ∙ ap (λ (z : V). z.spin) kept;
    fronts = r.beside.fronts ∙ ap (λ (z : V). z.fronts) kept;
    appends = r.beside.appends ∙ ap (λ (z : V). z.ext.appends) kept;
    wait = r.beside.wait ∙ ap (λ (z : V). z.ext.sem.wait) kept;
  };
  bias = r.bias ∙ ap (λ (z : V). z.ext.sem.bias) kept;
  list = r.list;
  rest = r.rest;
  stage = r.stage;
  chose = subst (λ (z : SemWake). Chose batch z u.ext.wake) (ap (λ (z : V). z.ext.wake) kept) r.chose;
  clear = r.clear;
  are = r.are ∙ ap (λ (z : V). without_all batch z.ext.list.list) kept;
}

-- whether a list that lost so many is empty
pub empty-is : (q : List Waiter) (lost long : ℕ) → length q + lost ≡ long → bit (lost == long) + some_of q ≡ 1
empty-is [] lost long e = let b : bit (lost == long) ≡ 1 = ap bit (eq-eqb lost long (omega (arith, e))) in omega (arith, b)
empty-is (w ∷ q) lost long e = let b : bit (lost == long) ≡ 0 = ap bit (ne_eqb lost long (λ z. omega (arith, e, z))) in omega (arith, b)

-- a list whose first waiter reads begins with a reader
pub first-reads : (q : List Waiter) (w : Waiter) → Some w ≡ first_of q → w.writer ≡ false → starts_with_reader q ≡ true
first-reads [] w e reads = absurd cc
first-reads (x ∷ q) w e reads = ap (λ (b : Bool). if b then false else true) (same ∙ reads)
  where
    same : x.writer ≡ w.writer
    same = ap {A = Waiter} (λ z. z.writer) (let is : x ≡ w = cc in is)

-- the batch that a pass has removed is granted
pub grants-removed : (v w u : V) → w.steps ≤ u.steps → 0 < length (batch_in v.ext.list.list) → RemovesAll v (batch_in v.ext.list.list) w → OnlySem with_sem w (all_granted w.ext.sem) u → Grants false v u
grants-removed v w u more_steps some r only = let wake = ap (λ (z : V). z.ext.wake) only in let list = ap (λ (z : V). z.ext.list) only in let spin = ap (λ (z : V). z.spin) only in record {
  beside = record {
    later = let a = r.beside.later in omega (arith, a, more_steps);
    hand = ap (λ (z : V). z.hand) only ∙ r.beside.hand;
    spin = spin ∙ r.beside.spin;
    fronts = ap (λ (z : V). z.fronts) only ∙ r.beside.fronts;
    appends = ap (λ (z : V). z.ext.appends) only ∙ r.beside.appends;
    wait = ap (λ (z : V). z.ext.sem.wait) only ∙ r.beside.wait;
  };
  rests = record {
    stage = ap (λ (z : V). z.ext.sem.stage) only;
    clear = ap (λ (z : V). z.ext.sem.bias) only;
    none = ap (λ (z : V). z.ext.sem.rest) only;
    still = ap (λ (b : ListHand). b.changes) list ∙ r.list.still;
  };
  list = record {
    knows = subst Knows (λ i. (sym spin i, sym list i)) r.list.knows;
    still = ap (λ (b : ListHand). b.changes) list ∙ r.list.still;
    sound = subst IsList (sym (ap (λ (b : ListHand). b.list) list)) r.list.sound;
  };
  left = ap (λ (b : ListHand). b.list) list ∙ r.are;
  chosen = record {
    chose = subst (Chose (batch_in v.ext.list.list) v.ext.wake) (sym wake) r.chose;
    clear = ap (λ (b : SemWake). b.owing) wake ∙ r.clear some;
  };
}
