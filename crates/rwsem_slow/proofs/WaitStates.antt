-- How a waiter that tries waits then.
use Rattle.std.proofs.Common.{◌≡◌, ◌∙◌, ℕ, zero, suc, inl, inr, ◌+◌, ◌/◌, ◌%◌, ◌==◌, ◌&&◌, Bool, true, false, [], Some, refl, sym, ap, subst, arith, eq-eqb, ne_eqb, if◌then◌else◌}
use Rattle.word_bits.specs.LockWords.{IsLawfulCount}
use Rattle.wake_duty.specs.DutyWakes.{after_failed_try, waits}
use Rattle.wake_duty.specs.WakeSteps.{HasTried}
use Rattle.rwsem_count.specs.CountWordSteps.{IsLocked}
use Rattle.rwsem_wake.specs.Duties.{exchanged, after_failed_try_by, after_failed_try_unless, heard_locked_at, is_left, is_own, saw_count, saw_mark, sees_itself}
use Rattle.rwsem_wake.specs.Grants.{ChangesTo, TurnsTo}
use Rattle.wait_list.specs.Lists.{first_code}
use Rattle.rwsem_wake.specs.RwSemViews.{V, list_of, with_sem, with_wake}
use Rattle.rwsem_slow.specs.RwSems.{sleep_wait_state, sleeps_as, wait_state_of}
use Rattle.rwsem_slow.specs.Queued.{HasTriedAt, IsInLine, IsListed, KeepsWaiting, Listens, Tries, waiting}
use Rattle.rwsem_slow.specs.Types.{WaitState, Absent, Awake, Tried, SemWake, SemHand, Reads, Writes}

pub keeps-same : (b : SemWake) → KeepsWaiting b b
keeps-same b = record { is = refl; waits = refl }

pub keeps-on : (a b c : SemWake) → KeepsWaiting a b → KeepsWaiting b c → KeepsWaiting a c
keeps-on a b c k m = record { is = m.is ∙ ap (λ (z : SemWake). record z { wait_state = c.wait_state }) k.is; waits = m.waits ∙ k.waits }

-- it waits as it did
pub keeps-of : (b c : SemWake) → c ≡ b → KeepsWaiting b c
keeps-of b c is = subst (KeepsWaiting b) (sym is) (keeps-same b)

after_failed_try-waits : (x : WaitState) → waits (after_failed_try x 0) ≡ waits x
after_failed_try-waits Absent = refl
after_failed_try-waits Awake = refl
after_failed_try-waits (Tried n) = refl

after_failed_try-keeps : (b : SemWake) → KeepsWaiting b (after_failed_try_by b)
after_failed_try-keeps b = record { is = refl; waits = after_failed_try-waits b.wait_state }

pub saw-keeps : (word : ℕ) (b : SemWake) → KeepsWaiting b (saw_count word b)
saw-keeps word b = go (is_left word)
  where
    go : (c : Bool) → KeepsWaiting b (after_failed_try_unless c b)
    go true = keeps-same b
    go false = after_failed_try-keeps b

-- who waits has tried then
after_failed_try-tried : (x : WaitState) → waits x ≡ 1 → (e : ℕ) × (after_failed_try x 0 ≡ Tried e)
after_failed_try-tried Absent one = absurd (omega (arith, one))
after_failed_try-tried Awake one = (0, refl)
after_failed_try-tried (Tried n) one = (0, refl)

pub tried-by : (b : SemWake) (u : V) → waits b.wait_state ≡ 1 → u.ext.wake ≡ after_failed_try_by b → HasTried wait_state_of u
tried-by b u one is = let f = after_failed_try-tried b.wait_state one in (f.0, ap (λ (z : SemWake). z.wait_state) is ∙ f.1)

pub tried-at : (word : ℕ) (b : SemWake) (u : V) → waits b.wait_state ≡ 1 → u.ext.wake ≡ saw_count word b → HasTriedAt word u
tried-at word b u one is = λ held. tried-by b u one (is ∙ ap (λ (c : Bool). after_failed_try_unless c b) held)

pub tried-any : (word : ℕ) (u : V) → HasTried wait_state_of u → HasTriedAt word u
tried-any word u tried = λ _. tried

-- the same of a pass that waits so
pub tried-same : (v u : V) → u.ext.wake ≡ v.ext.wake → HasTried wait_state_of v → HasTried wait_state_of u
tried-same v u same tried = (tried.0, ap (λ (z : SemWake). z.wait_state) same ∙ tried.1)

pub at-same : (word : ℕ) (v u : V) → u.ext.wake ≡ v.ext.wake → HasTriedAt word v → HasTriedAt word u
at-same word v u same tried = λ held. tried-same v u same (tried held)

-- a writer in line that has tried may sleep once it has released the wait lock and heard of its signals
pub writer-sleeps : (v u : V) → u.ext ≡ v.ext → IsInLine Writes v → HasTried wait_state_of v → HasTried sleep_wait_state u
writer-sleeps v u same line tried = (tried.0, ap sleep_wait_state same ∙ ((λ i. sleeps_as (line.listed.clear i) (line.listed.none i) (line.waits i).bias (line.waits i).wait v.ext.wake.wait_state) ∙ tried.1))

-- and so may a reader
pub reader-sleeps : (u h p : V) → IsInLine Reads u → Tries u h → Listens h p → HasTried wait_state_of p → HasTried sleep_wait_state p
reader-sleeps u h p line tries listens tried = let sem : p.ext.sem ≡ waiting Reads = ap (λ (z : V). z.ext.sem) listens ∙ (ap (λ (z : V). z.ext.sem) tries.is ∙ line.waits) in
    let clear : p.ext.wake.owing ≡ false = ap (λ (z : V). z.ext.wake.owing) listens ∙ (ap (λ (b : SemWake). b.owing) tries.keeps.is ∙ line.listed.clear) in
    let none : p.ext.wake.chosen ≡ [] = ap (λ (z : V). z.ext.wake.chosen) listens ∙ (ap (λ (b : SemWake). b.chosen) tries.keeps.is ∙ line.listed.none) in
    (tried.0, (λ i. sleeps_as (clear i) (none i) (sem i).bias (sem i).wait p.ext.wake.wait_state) ∙ tried.1)

pub listed-on : (b c : SemWake) → KeepsWaiting b c → IsListed b → IsListed c
listed-on b c k l = record { clear = ap (λ (z : SemWake). z.owing) k.is ∙ l.clear; none = ap (λ (z : SemWake). z.chosen) k.is ∙ l.none; waits = k.waits ∙ l.waits }

-- an exchange that found another count, and one that found the same
pub exchanged-other : (old found : ℕ) (b : SemWake) → (found ≡ old → ⊥) → exchanged old found b ≡ saw_count found b
exchanged-other old found b other = ap (λ (c : Bool). if c then b else saw_count found b) (ne_eqb found old other)

pub exchanged-same : (old found : ℕ) (b : SemWake) → found ≡ old → exchanged old found b ≡ b
exchanged-same old found b same = ap (λ (c : Bool). if c then b else saw_count found b) (eq-eqb found old same)

-- a lawful count that a queued writer can't have isn't free
pub locked-left : (word : ℕ) → IsLawfulCount word → IsLocked word → is_left word ≡ false
locked-left word lawful locked = elim locked [
  | inl writer ↦ ap (λ (b : Bool). b && (word / 256 == 0)) (ne_eqb (word % 2) 0 (λ z. omega (arith, z, writer)))
  | inr readers ↦ (λ i. (word % 2 == 0) && ne_eqb (word / 256) 0 (λ z. readers (let l = lawful.0 in let m = lawful.1 in omega (arith, z, l, m))) i) ∙ right (word % 2 == 0)
]
  where
    right : (b : Bool) → (b && false) ≡ false
    right true = refl
    right false = refl

-- the mark of a first waiter that is another
pub saw-unmarked : (me first : ℕ) (b : SemWake) → (me ≡ first → ⊥) → saw_mark (is_own (Some me) (first + 1)) 0 b ≡ b
saw-unmarked me first b other = ap (λ (c : Bool). saw_mark c 0 b) (ne_eqb (first + 1) (me + 1) (λ e. other (omega (arith, e))))

pub saw-marked : (me first mark : ℕ) (b : SemWake) → (me ≡ first → ⊥) → (mark ≡ 0 → ⊥) → saw_mark (is_own (Some me) (first + 1)) mark b ≡ after_failed_try_by b
saw-marked me first mark b other some_mark = ap (λ (c : Bool). saw_mark c mark b) (ne_eqb (first + 1) (me + 1) (λ e. other (omega (arith, e)))) ∙ go mark some_mark
  where
    go : (m : ℕ) → (m ≡ 0 → ⊥) → saw_mark false m b ≡ after_failed_try_by b
    go zero not = absurd (not refl)
    go (suc m) not = refl

-- a step that left what it knows of wakes
pub attends-turns : (v u : V) (s : SemHand) (b : SemWake) → b ≡ v.ext.wake → ChangesTo with_sem with_wake v s b u → TurnsTo with_sem v s u
attends-turns v u s b same attends = attends ∙ (λ i. record v { steps = v.steps + 1; ext = with_wake (with_sem v.ext s) (same i) })

-- the first waiter is its own task
pub sees-own : (v : V) (t : ℕ) → v.hand.task ≡ Some t → first_code v.ext.list.list ≡ t + 1 → sees_itself list_of v ≡ true
sees-own v t task first = (λ i. is_own (task i) (first i)) ∙ eq-eqb (t + 1) (t + 1) refl

-- a grant word that isn't 0, which a reader loads under the wait lock
pub heard-same : (word : ℕ) (b : SemWake) → (word ≡ 0 → ⊥) → heard_locked_at word b ≡ b
heard-same zero b some_word = absurd (some_word refl)
heard-same (suc word) b some_word = refl
