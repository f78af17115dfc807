-- The rule of a semaphore has wake words.
use Rattle.std.proofs.Common.{◌≡◌, ◌≢◌, ℕ, zero, suc, ◌+◌, ◌*◌, ◌<◌, ◌≤◌, ◌==◌, inl, inr, List, [], ◌∷◌, None, eq-eqb, map, get_or, set, Option, Some, sym, refl, ap, ◌∙◌, subst, arith, length-set}
use Rattle.std.proofs.Common.{Bool, true, false, ◌⊎◌}
use mathlib.Core.Option.{some, some-injective}
use mathlib.Core.Logic.{dite}
use native.Mathlib.Decide.{ℕ_discrete}
use lib.ListN.{get_elem?}
use Rattle.atomic_table.proofs.Lists.{at_map}
use Rattle.word_bits.specs.declared.TheConstants.{MAX_TASKS}
use Rattle.word_bits.specs.LockWords.{counted}
use Rattle.word_bits.specs.Objects.{Obj}
use Rattle.word_bits.specs.Histories.{Plan}
use Rattle.lock_core.specs.declared.layout.TheConstants.{LOCK_WORDS, SPIN_WORDS}
use Rattle.lock_core.specs.Layout.{SiteWords, site}
use Rattle.lock_core.specs.Views.{SpinRests, hand_of, spin_part, is_number, named_of}
use Rattle.lock_core.specs.Sites.{SiteKept}
use Rattle.lock_core.specs.Moves.{SiteMove}
use Rattle.lock_core.specs.Laws.Move.{hand-stays, saw-stays, set-moves, hold-moved}
use Rattle.lock_core.specs.Records.{bit}
use Rattle.lock_core.specs.SpinFrames.{holds_at}
use Rattle.lock_core.specs.Spins.{SpinMoves, holds_in}
use Rattle.lock_core.specs.Laws.Spin.{spin-same}
use Rattle.lock_core.specs.Totals.{total, total-two}
use Rattle.lock_core.specs.ViewParts.{at_unmap, each-set, keep_part, set-there, set_part}
use Rattle.lock_core.specs.Regions.{part-in, part-below, part-at}
use Rattle.lock_core.proofs.HandLaws.{is_number-else, is_number-here}
use Rattle.wait_list.specs.Lists.{ListKept, Part, list_part, first_code}
use Rattle.wait_list.specs.declared.words.TheConstants.{LIST_WORDS}
use Rattle.wake_duty.specs.DutyWakes.{WAKE_WORDS, wake_word}
use Rattle.wake_duty.specs.WakeSteps.{HasTried, knowing}
use Rattle.rwsem_wake.specs.SemDuties.{DutyKept, DutyPart, drowsing, setting, first_writes}
use Rattle.rwsem_wake.specs.Laws.SemDuty.{duty-sets, duty-drowses}
use Rattle.rwsem_wake.specs.SemParts.{SemPart, busy_weight, writes_weight, writes_at, writer_at, named_weight}
use Rattle.rwsem_wake.specs.RwSemViews.{V, HasChosen, after_set, list_at, list_of, seen, with_wake}
use Rattle.rwsem_slow.specs.RwSems.{IsLocked, IsStaged, RwSemKept, after_swap, count_in, duty_seen, grants_in, list_words, spin_words, sleep_wait_state, sleeps_as, wake_words, wakes_at}
use Rattle.rwsem_slow.specs.WakesGo.{WakesGo, wake_stands}
use Rattle.rwsem_slow.specs.Laws.WakesGo.{goes-drowses, goes-sets, none-owed, stay-enters, stay-leaves}
use Rattle.rwsem_slow.specs.Laws.DutyRule.{Duties, staged-same}
use Rattle.rwsem_wake.specs.Duties.{StageOk}
use Rattle.rwsem_slow.specs.Laws.RwSem.{Go as Going, Hands, Sem, SemWords, goes, hands-same, same-site, sem-else, sem_words}
use Rattle.rwsem_slow.specs.Types.{No, Waiter, Stay, WaitState, Tried, Bias, Clear, Transit, Reserve, SemWake, Wait, Apart, Reads, Writes}

abbrev parted : V → Part
parted v = list_part list_of v

pub wake-inside : wakes_at + WAKE_WORDS ≤ LOCK_WORDS
wake-inside = omega arith

-- who may sleep, and how it waits
sleeps-is : (owing : Bool) (chosen : List ℕ) (bias : Bias) (wait : Wait) (x : WaitState) (e : ℕ) → sleeps_as owing chosen bias wait x ≡ Tried e → (owing ≡ false) × (chosen ≡ []) × (bias ≡ Clear)
    × ((wait ≡ Reads) ⊎ (wait ≡ Writes)) × (x ≡ Tried e)
sleeps-is false [] Clear Reads x e is = (refl, refl, refl, inl refl, is)
sleeps-is false [] Clear Writes x e is = (refl, refl, refl, inr refl, is)
sleeps-is false [] Clear Apart x e is = absurd cc
sleeps-is false [] (Transit m) wait x e is = absurd cc
sleeps-is false [] (Reserve m) wait x e is = absurd cc
sleeps-is false (t ∷ chosen) bias wait x e is = absurd cc
sleeps-is true chosen bias wait x e is = absurd cc

module _ {Call : Type 0} (o : Obj Call) (size : ℕ) where
  abbrev Queue : Plan → List ℕ → List V → List Waiter → Type 0
  Queue = RwSemKept o size

  abbrev Go : Plan → ℕ → List ℕ → List V → List ℕ → List V → Type 0
  Go = Going o size

  -- a step on a wake word
  sem-waking : (k : Plan) (ws : List ℕ) (vs : List V) (q : List Waiter) (id t n : ℕ) (v : V) (b : SemWake) → Queue k ws vs q → get_elem? vs id ≡ some v → t < MAX_TASKS
      → DutyKept (set (wake_words ws) (8 * t) n) q (set (map (duty_seen (grants_in ws)) vs) id (record (duty_seen (grants_in ws) v) { wake = b })) → StageOk (seen v) b
      → WakesGo (count_in ws) (count_in ws) q Stay (grants_in ws) (wake_words ws) (set (wake_words ws) (8 * t) n) (holds_in v.spin) (seen v) (seen v) (wake_stands v.ext.wake) (wake_stands b)
      → Go k id ws vs (set ws (wakes_at + 8 * t) n) (set vs id (knowing v (with_wake v.ext b)))
  sem-waking k ws vs q id t n v b r at few kept stage wakes = let w : V = knowing v (with_wake v.ext b) in let j : ℕ = wakes_at + 8 * t in let us : List ℕ = set ws j n in
      let same = same-site o size k ws vs q r id v at j n (omega (arith, few)) in let words : sem_words us ≡ sem_words ws = sem-else ws j n (inr (omega (arith, few))) in
      goes o size k ws vs q r id v at us (set vs id w) Stay (length-set ws j n ∙ r.wide)
      (subst (λ (z : SiteWords). SiteKept o counted size k z (map hand_of (set vs id w))) (sym same) (keep_part hand_of (SiteKept o counted size k (site k ws)) vs id v w at refl r.site_holds))
      (subst (λ (z : SiteWords). SiteMove id (count_in ws) (site k ws) vs z (set vs id w)) (sym same)
      (set-moves id (site k ws) (site k ws) vs v w at (hold-moved (site k ws) v v.hand w.ext (hand-stays v.hand) (inl (saw-stays v.hand))))) w (set-there vs id v w at)
      (subst (λ (z : List ℕ). SpinMoves id (spin_words ws) (map spin_part vs) z (map spin_part (set vs id w))) (sym (part-below ws 0 SPIN_WORDS j n (omega arith)))
      (keep_part spin_part (SpinMoves id (spin_words ws) (map spin_part vs) (spin_words ws)) vs id v w at refl (spin-same id (spin_words ws) (map spin_part vs) r.spin)))
      (subst (λ (z : List ℕ). ListKept z q (map parted (set vs id w))) (sym (part-below ws list_at LIST_WORDS j n (omega arith)))
      (keep_part parted (ListKept (list_words ws) q) vs id v w at refl r.list))
      (subst (λ (z : SemWords). Sem o size z q (map seen (set vs id w))) (sym words) (keep_part seen (Sem o size (sem_words ws) q) vs id v w at refl r.sem))
      (each-set IsLocked IsLocked vs id w (r.locked id v at) (λ i x _ _ p. p) r.locked)
      (subst (λ (z : List ℕ × List ℕ). Duties z.0 z.1 q (set vs id w)) (λ i. (sym (part-in ws wakes_at WAKE_WORDS (8 * t) n (omega (arith, few))) i, (sym words i).2)) (
        set_part (duty_seen (grants_in ws)) (DutyKept (set (wake_words ws) (8 * t) n) q) vs id w kept,
        each-set IsStaged IsStaged vs id w stage (λ i x _ _ p. p) r.staged,
      )) tt tt tt
      (subst (λ (z : SemWords). Hands o size id (sem_words ws) q (map seen vs) z (map seen (set vs id w))) (sym words)
      (hands-same o size k ws vs q r id v at (set vs id w) (keep_part seen (λ z. z ≡ map seen vs) vs id v w at refl refl)))
      (λ out other. absurd (other refl)) (r.locked id v at) (omega arith) (λ other. absurd (other refl))
      (subst (λ (z : ℕ × List ℕ). WakesGo (count_in ws) z.0 q Stay (grants_in ws) (wake_words ws) z.1 (holds_in v.spin) (seen v) (seen v) (wake_stands v.ext.wake) (wake_stands b))
      (λ i. ((sym words i).0, sym (part-in ws wakes_at WAKE_WORDS (8 * t) n (omega (arith, few))) i)) wakes)

  pub sem-bits : (k : Plan) (ws : List ℕ) (vs : List V) (q : List Waiter) (t : ℕ) → Queue k ws vs q → t < MAX_TASKS → get_or ws (wakes_at + 8 * t) 0 ≤ 1
  sem-bits k ws vs q t r few = let small = r.duty.bits t few in let word = part-at ws wakes_at WAKE_WORDS (8 * t) (omega (arith, few)) in omega (arith, small, word)

  -- the wake word of a task that it has chosen is set
  pub sem-sets : (k : Plan) (ws : List ℕ) (vs : List V) (q : List Waiter) (id t : ℕ) (v : V) → Queue k ws vs q → get_elem? vs id ≡ some v → HasChosen v.ext t
      → Go k id ws vs (set ws (wakes_at + 8 * t) 1) (set vs id (knowing v (after_set v.ext t)))
  sem-sets k ws vs q id t v r at chosen = sem-waking k ws vs q id t 1 v (setting t v.ext.wake) r at chosen.2
      (duty-sets (wake_words ws) q (map (duty_seen (grants_in ws)) vs) id (duty_seen (grants_in ws) v) r.duty (at_map (duty_seen (grants_in ws)) vs id v at) t chosen.0 chosen.1)
      (staged-same (seen v) (seen v) v.ext.wake (setting t v.ext.wake) refl refl refl (r.staged id v at))
      (goes-sets (count_in ws) (count_in ws) q Stay (grants_in ws) (wake_words ws) (set (wake_words ws) (8 * t) 1) (holds_in v.spin) (seen v) (seen v) v.ext.wake t 1 chosen.2 r.duty.wide refl
      (λ w e. stay-enters w e) refl chosen.0 (λ m. none-owed (count_in ws) q Stay (seen v) (seen v) (wake_stands v.ext.wake) (wake_stands (setting t v.ext.wake)) stay-leaves
      (inr (inr (refl, omega arith))) m))

  -- a waiter swaps its own wake word for 0
  pub sem-swaps : (k : Plan) (ws : List ℕ) (vs : List V) (q : List Waiter) (id t : ℕ) (v : V) → Queue k ws vs q → get_elem? vs id ≡ some v → v.hand.task ≡ Some t → t < MAX_TASKS → SpinRests v.spin
      → v.hand.held ≡ No → HasTried sleep_wait_state v
      → Go k id ws vs (set ws (wakes_at + 8 * t) 0) (set vs id (knowing v (after_swap v.ext (get_or ws (wakes_at + 8 * t) 0))))
  sem-swaps k ws vs q id t v r at mine few rests free tried = let n : ℕ = get_or ws (wakes_at + 8 * t) 0 in let old : ℕ = wake_word (wake_words ws) t in
      let word : old ≡ n = part-at ws wakes_at WAKE_WORDS (8 * t) (omega (arith, few)) in
      sem-waking k ws vs q id t 0 v (drowsing n v.ext.wake) r at few
      (subst (λ (z : ℕ). DutyKept (set (wake_words ws) (8 * t) 0) q (set (map (duty_seen (grants_in ws)) vs) id (record (duty_seen (grants_in ws) v) { wake = drowsing z v.ext.wake }))) word
      (duty-drowses (wake_words ws) q (map (duty_seen (grants_in ws)) vs) id (duty_seen (grants_in ws) v) r.duty (at_map (duty_seen (grants_in ws)) vs id v at) t mine few has_tried writer apart))
      (unstaged (r.staged id v at))
      (subst (λ (z : ℕ). WakesGo (count_in ws) (count_in ws) q Stay (grants_in ws) (wake_words ws) (set (wake_words ws) (8 * t) 0) (holds_in v.spin) (seen v) (seen v) (wake_stands v.ext.wake)
      (wake_stands (drowsing z v.ext.wake))) word
      (goes-drowses (count_in ws) (count_in ws) q Stay (grants_in ws) (wake_words ws) (set (wake_words ws) (8 * t) 0) (holds_in v.spin) (seen v) (seen v) v.ext.wake t 0 few r.duty.wide refl
      (λ w e. stay-enters w e) refl mine (ap holds_at rests) has_tried (free, idle_is.0, idle_is.1, idle_is.2, idle_is.3)
      (λ old m. none-owed (count_in ws) q Stay (seen v) (seen v) (wake_stands v.ext.wake) (wake_stands (drowsing old v.ext.wake)) stay-leaves (inr (inr (refl, omega arith))) m)))
    where
      idle_is : (v.ext.wake.owing ≡ false) × (v.ext.wake.chosen ≡ []) × (v.ext.sem.bias ≡ Clear) × ((v.ext.sem.wait ≡ Reads) ⊎ (v.ext.sem.wait ≡ Writes)) × (v.ext.wake.wait_state ≡ Tried tried.0)
      idle_is = sleeps-is v.ext.wake.owing v.ext.wake.chosen v.ext.sem.bias v.ext.sem.wait v.ext.wake.wait_state tried.0 tried.1

      has_tried : (e : ℕ) × (v.ext.wake.wait_state ≡ Tried e)
      has_tried = (tried.0, idle_is.4)

      -- a pass that may sleep is about nothing, for it doesn't have the wait lock
      idle : busy_weight v.ext.sem.stage ≡ 0
      idle = let l = r.locked id v at in let out : holds_in v.spin ≡ 0 = ap holds_at rests in omega (arith, l, out)

      unstaged : StageOk (seen v) v.ext.wake → StageOk (seen v) (drowsing (get_or ws (wakes_at + 8 * t) 0) v.ext.wake)
      unstaged ok = record {
        joining = ok.joining;
        first = λ e. absurd (let b : busy_weight v.ext.sem.stage ≡ 1 = ap busy_weight e in let i = idle in omega (arith, b, i));
        took = ok.took;
        waited = ok.waited;
      }

      named-once : total (λ (x : V). is_number t x.hand.task) vs ≤ 1
      named-once = let l = (r.site_holds.balances.named t (let m = (r.site_holds.each id v.hand (at_map hand_of vs id v at)).mine t mine in let a = m.0 in let s = r.site_holds.laid.small.tasks in
          omega (arith, a, s))).1 in let e = same vs in omega (arith, l, e)
        where
          same : (xs : List V) → total (named_of t) (map hand_of xs) ≡ total (λ (x : V). is_number t x.hand.task) xs
          same [] = refl
          same (x ∷ xs) = let e = same xs in omega (arith, e)

      -- nobody else has its number
      apart : (j : ℕ) (p : DutyPart) → j ≢ id → get_elem? (map (duty_seen (grants_in ws)) vs) j ≡ some p → p.task ≢ Some t
      apart j p other at' task = let x = at_unmap (duty_seen (grants_in ws)) vs j p at' in let named : x.0.hand.task ≡ Some t = ap (λ (z : DutyPart). z.task) x.2 ∙ task in
          let two = total-two (λ (y : V). is_number t y.hand.task) vs j id x.0 v x.1 at other in
          let a : is_number t x.0.hand.task ≡ 1 = ap (is_number t) named ∙ is_number-here t in let b : is_number t v.hand.task ≡ 1 = ap (is_number t) mine ∙ is_number-here t in let one = named-once in
          absurd (omega (arith, two, a, b, one))

      -- where it is the first, and a writer is first, it waits as one
      writer : first_code q ≡ t + 1 → first_writes q ≡ 1 → writes_weight v.ext.sem.wait ≡ 1
      writer first kind = let w = r.sem.writes t in let l = first-writer q first kind in let s = some-writer (map seen vs) (omega (arith, w, l)) in let p = at_unmap seen vs s.0 s.1 s.2 in
          by-place s.0 p.0 p.1 (let e : writes_at t (seen p.0) ≡ writes_at t s.1 = ap (writes_at t) p.2 in let m = s.3 in omega (arith, e, m))
        where
          first-writer : (l : List Waiter) → first_code l ≡ t + 1 → first_writes l ≡ 1 → 1 ≤ total (writer_at t) l
          first-writer [] e k = absurd (omega (arith, e))
          first-writer (x ∷ l) e k = let is : x.task ≡ t = omega (arith, e) in let b : bit (x.task == t) ≡ 1 = ap bit (eq-eqb x.task t is) in
              let m : writer_at t x ≡ 1 * bit (x.task == t) = ap (λ (z : ℕ). z * bit (x.task == t)) k in omega (arith, m, b)

          some-writer : (xs : List SemPart) → 1 ≤ total (writes_at t) xs → (j : ℕ) × (x : SemPart) × (get_elem? xs j ≡ some x) × (1 ≤ writes_at t x)
          some-writer [] more = absurd (omega (arith, more))
          some-writer (x ∷ xs) more = elim (native.Mathlib.Decide.dec_le 1 (writes_at t x))
              [ yes has ↦ (zero, x, refl, has) | no none ↦ let s = some-writer xs (omega (arith, more, none)) in (suc s.0, s.1, s.2, s.3) ]

          by-place : (j : ℕ) (x : V) → get_elem? vs j ≡ some x → 1 ≤ writes_at t (seen x) → writes_weight v.ext.sem.wait ≡ 1
          by-place j x at' more = dite (ℕ_discrete j id)
              (λ same. let e : x ≡ v = some-injective x v (sym at' ∙ (ap (get_elem? vs) same ∙ at)) in
              by-weight (writes_weight v.ext.sem.wait) refl (let m : writes_at t (seen x) ≡ writes_at t (seen v) = ap (λ (z : V). writes_at t (seen z)) e in omega (arith, m, more)))
              (λ other. absurd (let named = names (writes_weight x.ext.sem.wait) more in apart j (duty_seen (grants_in ws) x) other (at_map (duty_seen (grants_in ws)) vs j x at') named))
            where
              by-weight : (m : ℕ) → writes_weight v.ext.sem.wait ≡ m → 1 ≤ named_weight t v.hand.task (writes_weight v.ext.sem.wait) → writes_weight v.ext.sem.wait ≡ 1
              by-weight zero is some_w = absurd (let z : named_weight t v.hand.task (writes_weight v.ext.sem.wait) ≡ 0 = ap (named_weight t v.hand.task) is in omega (arith, z, some_w))
              by-weight (suc m) is some_w = let a = most v.ext.sem.wait in omega (arith, a, is)
                where
                  most : (z : Wait) → writes_weight z ≤ 1
                  most Apart = omega arith
                  most Reads = omega arith
                  most Writes = omega arith

              names : (m : ℕ) → 1 ≤ named_weight t x.hand.task m → x.hand.task ≡ Some t
              names zero some_w = absurd (omega (arith, some_w))
              names (suc m) some_w = number-is t x.hand.task some_w
                where
                  number-is : (t : ℕ) (task : Option ℕ) → 1 ≤ is_number t task → task ≡ Some t
                  number-is t None some_w = absurd (omega (arith, some_w))
                  number-is t (Some u) some_w = dite (ℕ_discrete u t) (λ same. ap Some same) (λ other. absurd (let z = is_number-else t u other in omega (arith, z, some_w)))
