-- Whom a waker has picked that removes one waiter after another.
use Rattle.std.proofs.Common.{◌≡◌, ◌≢◌, ◌∙◌, ℕ, zero, ◌+◌, ◌<◌, ◌≤◌, ◌==◌, inl, inr, Bool, true, false, List, [], ◌∷◌, ◌++◌, length, map, filter, take, take_all, append_assoc, sym, refl, ap, subst, arith, eq-eqb, ne_eqb, if◌then◌else◌}
use Rattle.std.proofs.lemmas.List.{append-nil, length_push}
use Rattle.lock_core.specs.Records.{bit}
use Rattle.lock_core.proofs.HandLaws.{not-both}
use Rattle.wait_list.specs.Lists.{IsList, counted, first_code, without}
use Rattle.rwsem_wake.specs.Batches.{batch_of, reads, starts_with_reader, task_of}
use Rattle.rwsem_wake.specs.SemParts.{IsWhole}
use Rattle.rwsem_wake.specs.GrantsStated.{IsFirstReader}
use Rattle.rwsem_wake.proofs.FirstReaders.{reader-counts}
use Rattle.rwsem_slow.specs.Picking.{PicksBatchInTurn, PicksFirstReaders, PicksInTurn, PicksWholeBatch}
use Rattle.rwsem_slow.specs.Types.{Waiter}
use Rattle.rwsem_wake.specs.Removals.{AreHeads, BeginsWith, without_all}
use Rattle.rwsem_wake.proofs.Removing.{all-readers, heads-behind-it, heads-first, readers-all, sound-behind}
use Rattle.rwsem_wake.specs.declared.batches.TheConstants.{MAX_READERS_WAKEUP}

one-head : (t : ℕ) (q : List Waiter) → IsFirstReader t q → AreHeads (t ∷ []) q
one-head t [] first = absurd first
one-head t (w ∷ q) first = elim first [ inl is ↦ inl (is.0, is.1, tt) | inr more ↦ inr (more.0, one-head t q more.1) ]

-- a writer before them is none of them
heads-past : (x : Waiter) (ts : List ℕ) (q : List Waiter) → x.writer ≡ true → AreHeads ts (x ∷ q) → AreHeads ts q
heads-past x [] q writer h = tt
heads-past x (t ∷ ts) q writer h = elim h [ inl is ↦ not-both x.writer is.0 writer | inr more ↦ more.1 ]

-- those of the list without its first reader, behind that one
heads-back : (t : ℕ) (ts : List ℕ) (q : List Waiter) → counted t q ≤ 1 → IsFirstReader t q → AreHeads ts (without t q) → AreHeads (t ∷ ts) q
heads-back t ts [] once first h = absurd first
heads-back t ts (w ∷ q) once first h = elim first [
  | inl is ↦ inl (is.0, is.1, subst (λ (b : Bool). AreHeads ts (if b then q else w ∷ without t q)) (eq-eqb w.task t is.1) h)
  | inr more ↦ let l = reader-counts t q more.1 in let not : w.task ≢ t = λ e. (let y : bit (w.task == t) ≡ 1 = ap bit (eq-eqb w.task t e) in absurd (omega (arith, y, l, once))) in
      inr (more.0, heads-back t ts q (omega (arith, once)) more.1 (heads-past w ts (without t q) more.0 (subst (λ (b : Bool). AreHeads ts (if b then q else w ∷ without t q)) (ne_eqb w.task t not) h)))
]

heads-more : (ts : List ℕ) (q : List Waiter) (t : ℕ) → IsList q → AreHeads ts q → IsFirstReader t (without_all ts q) → AreHeads (ts ++ t ∷ []) q
heads-more [] q t s h first = one-head t q first
heads-more (u ∷ ts) q t s h first = heads-back u (ts ++ t ∷ []) q (s.once u) (heads-first u ts q h) (heads-more ts (without u q) t (sound-behind u ts q s h) (heads-behind-it u ts q s h) first)

left-more : (ts : List ℕ) (q : List Waiter) (t : ℕ) → without_all (ts ++ t ∷ []) q ≡ without t (without_all ts q)
left-more [] q t = refl
left-more (u ∷ ts) q t = left-more ts (without u q) t

pub picks_first_readers : PicksFirstReaders
picks_first_readers = λ q batch t s h first. (heads-more batch q t s h first, left-more batch q t)

-- so many of the readers, from the first on
heads-are : (ts : List ℕ) (q : List Waiter) → AreHeads ts q → ts ≡ take (length ts) (map task_of (filter reads q))
heads-are [] q h = none (map task_of (filter reads q))
  where
    none : (xs : List ℕ) → [] ≡ take zero xs
    none [] = refl
    none (x ∷ xs) = refl
heads-are (t ∷ ts) [] h = absurd h
heads-are (t ∷ ts) (w ∷ q) h = elim h [
  | inl is ↦ subst (λ (b : Bool). t ∷ ts ≡ take (length (t ∷ ts)) (map task_of (if (if b then false else true) then w ∷ filter reads q else filter reads q))) (sym is.0) (λ i. sym is.1 i ∷ heads-are ts q is.2 i)
  | inr more ↦ subst (λ (b : Bool). t ∷ ts ≡ take (length (t ∷ ts)) (map task_of (if (if b then false else true) then w ∷ filter reads q else filter reads q))) (sym more.0) (heads-are (t ∷ ts) q more.1)
]

-- a list whose first waiter is the first of them begins with a reader
begins-reading : (t : ℕ) (ts : List ℕ) (q : List Waiter) → counted t q ≤ 1 → AreHeads (t ∷ ts) q → first_code q ≡ t + 1 → starts_with_reader q ≡ true
begins-reading t ts [] once h code = absurd h
begins-reading t ts (w ∷ q) once h code = elim h [
  | inl is ↦ ap (λ (b : Bool). if b then false else true) is.0
  | inr more ↦ let l = reader-counts t q (heads-first t ts q more.1) in let same : w.task ≡ t = omega (arith, code) in let y : bit (w.task == t) ≡ 1 = ap bit (eq-eqb w.task t same) in absurd (omega (arith, y, l, once))
]

whole-batch : (q : List Waiter) (batch : List ℕ) → IsList q → 0 < length batch → length batch ≤ MAX_READERS_WAKEUP → AreHeads batch q → BeginsWith batch q → IsWhole batch (without_all batch q) → batch ≡ batch_of MAX_READERS_WAKEUP q
whole-batch q [] s some few h begins whole = absurd (omega (arith, some))
whole-batch q (t ∷ ts) s some few h begins whole = let rs : List ℕ = map task_of (filter reads q) in let is = heads-are (t ∷ ts) q h in let all = readers-all (t ∷ ts) q s h in let readers = all-readers q in
    let batch : take MAX_READERS_WAKEUP rs ≡ batch_of MAX_READERS_WAKEUP q = sym (ap (λ (b : Bool). if b then take MAX_READERS_WAKEUP rs else []) (begins-reading t ts q (s.once t) h begins)) in elim whole [
      | inl none ↦ let long : length (t ∷ ts) ≡ length rs = omega (arith, all, readers, none) in is ∙ (ap (λ (n : ℕ). take n rs) long ∙ (take_all (length rs) rs (omega arith) ∙ (sym (take_all MAX_READERS_WAKEUP rs (omega (arith, long, few))) ∙ batch)))
      | inr full ↦ is ∙ (ap (λ (n : ℕ). take n rs) full ∙ batch)
    ]

pub picks_whole_batch : PicksWholeBatch
picks_whole_batch = whole-batch

-- what a waker has picked so far, of the list that it began with
abbrev HasPicked : List Waiter → List ℕ → List Waiter → Type 0
HasPicked was batch q = AreHeads batch was × BeginsWith batch was × (length batch ≤ MAX_READERS_WAKEUP) × (q ≡ without_all batch was)

-- the first of them stays the first
begins-more : (was : List Waiter) (batch : List ℕ) (t : ℕ) → BeginsWith batch was → (batch ≡ [] → first_code was ≡ t + 1) → BeginsWith (batch ++ t ∷ []) was
begins-more was [] t begins first = first refl
begins-more was (u ∷ ts) t begins first = begins

picked-in-turn : (was : List Waiter) → IsList was → (begun : List ℕ) (q : List Waiter) (ts : List ℕ) (q' : List Waiter) → HasPicked was begun q → PicksInTurn begun q ts q' → HasPicked was (begun ++ ts) q'
picked-in-turn was s begun q [] q' h is = subst (λ (z : List ℕ). HasPicked was z q') (sym (append-nil begun)) (h.0, h.1, h.2, is ∙ h.3)
picked-in-turn was s begun q (t ∷ ts) q' h p = let next = p.0 in let room = next.2 in let more = picks_first_readers was begun t s h.0 (subst (IsFirstReader t) h.3 next.0) in let long = length_push begun t in
    subst (λ (z : List ℕ). HasPicked was z q') (append_assoc begun (t ∷ []) ts)
    (picked-in-turn was s (begun ++ t ∷ []) (without t q) ts q' (more.0, begins-more was begun t h.1 (λ none. ap first_code (sym (started none)) ∙ next.1 none), omega (arith, long, room), ap (without t) h.3 ∙ sym more.1) p.1)
  where
    started : begun ≡ [] → q ≡ was
    started none = h.3 ∙ ap (λ (z : List ℕ). without_all z was) none

pub picks_batch_in_turn : PicksBatchInTurn
picks_batch_in_turn = λ q q' batch s p some whole. let h = picked-in-turn q s [] q batch q' (tt, tt, omega arith, refl) p in (whole-batch q batch s some h.2 h.0 h.1 (subst (IsWhole batch) h.3 whole), h.3)
