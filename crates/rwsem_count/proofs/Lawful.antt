-- What a step makes of a word that states a semaphore.
use Rattle.std.proofs.Common.{◌≡◌, ◌≢◌, ◌∙◌, inr, if◌then◌else◌, ◌++◌, ◌↔◌, ℕ, ◌+◌, ◌/◌, ◌%◌, ◌^◌, ◌<◌, Bool, true, false, List, [], ◌∷◌, length, Some, is_some, refl, sym, ap, arith}
use mathlib.Core.Logic.{dite}
use native.Mathlib.Decide.{ℕ_discrete}
use Rattle.word_bits.specs.declared.TheConstants.{MAX_TASKS}
use Rattle.word_bits.specs.CountWord.{IsCount, count_word}
use Rattle.word_bits.specs.OwnerWord.{bit}
use Rattle.lock_core.proofs.HandLaws.{not-both}
use Rattle.rwsem_count.specs.CountSemaphores.{Semaphore, States, is_waited}
use Rattle.rwsem_count.specs.CountWordSteps.{HasFlags, IsLocked}
use Rattle.rwsem_count.specs.Types.{Count}

bit-less : (b : Bool) → bit b < 2
bit-less true = omega arith
bit-less false = omega arith

clear-bit : (b : Bool) → bit b ≡ 0 → b ≡ false
clear-bit true e = absurd (omega (arith, e))
clear-bit false e = refl

-- the flags and the readers of a word
record Reads (word : ℕ) (c : Count) : Type 0 where
  pub writer : bit c.writer ≡ word % 2
  pub waiters : bit c.waiters ≡ word / 2 % 2
  pub handoff : bit c.handoff ≡ word / 4 % 2
  pub middle : word / 8 % 32 ≡ 0
  pub readers : c.readers ≡ word % 2 ^ 63 / 256
  pub read_fail : bit c.read_fail ≡ word / 2 ^ 63

reads : (word : ℕ) (c : Count) → IsCount c → count_word c ≡ word → Reads word c
reads word c ranged is = let a = bit-less c.writer in let b = bit-less c.waiters in let h = bit-less c.handoff in let f = bit-less c.read_fail in record {
  writer = omega (arith, a, b, h, f, ranged, is);
  waiters = omega (arith, a, b, h, f, ranged, is);
  handoff = omega (arith, a, b, h, f, ranged, is);
  middle = omega (arith, a, b, h, f, ranged, is);
  readers = omega (arith, a, b, h, f, ranged, is);
  read_fail = omega (arith, a, b, h, f, ranged, is);
}

-- a reader comes in
pub reader-in : (word : ℕ) → word % 8 ≡ 0 → (s : Semaphore) (me : ℕ) → States word s → length s.readers + s.biases < MAX_TASKS + 1 → States (word + 256) (record s { readers = me ∷ s.readers })
reader-in word free s me states room = let c = states.count in let d = states.describes in let is = states.is in let r = reads word c states.ranged is in let readers = d.readers in
    let no_writer : c.writer ≡ false = clear-bit c.writer (let w = r.writer in omega (arith, w, free)) in record {
      count = record c { readers = c.readers + 1 };
      ranged = omega (arith, readers, room);
      is = omega (arith, is);
      describes = record {
        writer = d.writer;
        apart = λ w. not-both (is_some s.writer) (sym d.writer ∙ no_writer) w;
        readers = omega (arith, readers);
        few = omega (arith, room);
        waiters = d.waiters;
        handoff = d.handoff;
        marked = d.marked;
        no_fail = d.no_fail;
      };
    }

waited : (before after : List ℕ) (me : ℕ) → is_waited (before ++ me ∷ after) ≡ true
waited [] after me = refl
waited (x ∷ before) after me = refl

-- a queued writer asks for a handoff
pub asked : (word : ℕ) (s : Semaphore) (me : ℕ) (before after : List ℕ) → word / 4 % 2 ≢ 1 → States word s → s.waiting ≡ before ++ me ∷ after → States (word + 4) (record s { marked = true })
asked word s me before after quiet states there = let c = states.count in let d = states.describes in let is = states.is in let r = reads word c states.ranged is in
    let clear : c.handoff ≡ false = clear-bit c.handoff (let h = r.handoff in omega (arith, h, quiet)) in let off : bit c.handoff ≡ 0 = ap bit clear in record {
      count = record c { handoff = true };
      ranged = states.ranged;
      is = omega (arith, is, off);
      describes = record {
        writer = d.writer;
        apart = d.apart;
        readers = d.readers;
        few = d.few;
        waiters = d.waiters;
        handoff = λ _. ap is_waited there ∙ waited before after me;
        marked = λ _. refl;
        no_fail = d.no_fail;
      };
    }

-- who takes leaves WAITERS where others wait
others-waited : (alone : Bool) (others : List ℕ) (flag : ℕ) → ((alone ≡ true) ↔ (others ≡ [])) → flag ≡ 1 → bit (is_waited others) ≡ (if alone then 0 else flag)
others-waited true others flag only set_it = ap (λ (xs : List ℕ). bit (is_waited xs)) (only.0 refl)
others-waited false [] flag only set_it = absurd (not-both false refl (only.1 refl))
others-waited false (x ∷ others) flag only set_it = sym set_it

nothing : (xs : List ℕ) → length xs ≡ 0 → xs ≡ []
nothing [] e = refl
nothing (x ∷ xs) e = absurd (omega (arith, e))

-- a queued writer takes
pub took-lawfully : (word new : ℕ) (s : Semaphore) (me : ℕ) (before after : List ℕ) (alone : Bool) → (IsLocked word → ⊥) → States word s → s.waiting ≡ before ++ me ∷ after → ((alone ≡ true) ↔ (before ++ after ≡ [])) → HasFlags word new 1 (if alone then 0 else word / 2 % 2) 0
    → States new (record s { writer = Some me; waiting = before ++ after; marked = false })
took-lawfully word new s me before after alone free states there only flags = let c = states.count in let d = states.describes in let is = states.is in let r = reads word c states.ranged is in let readers = d.readers in
    let counted = r.readers in let middle = r.middle in let fail = r.read_fail in let fails : bit c.read_fail ≡ 0 = ap bit d.no_fail in let none = unlocked word free in let few = r.waiters in
    let set_it : word / 2 % 2 ≡ 1 = sym few ∙ ap bit (d.waiters ∙ (ap is_waited there ∙ waited before after me)) in let rest = others-waited alone (before ++ after) (word / 2 % 2) only set_it in
    let high = flags.rest in let w = flags.writer_is in let x = flags.waiters_is in let y = flags.handoff_is in let waits : new / 2 % 2 ≡ bit (is_waited (before ++ after)) = x ∙ sym rest in record {
      count = record { writer = true; waiters = is_waited (before ++ after); handoff = false; readers = 0; read_fail = false };
      ranged = omega arith;
      is = omega (arith, none, middle, fail, fails, high, w, waits, y);
      describes = record {
        writer = refl;
        apart = λ _. nothing s.readers (omega (arith, readers, counted, none));
        readers = omega (arith, readers, counted, none);
        few = d.few;
        waiters = refl;
        handoff = λ no. not-both false refl no;
        marked = λ no. not-both false refl no;
        no_fail = refl;
      };
    }
  where
    unlocked : (word : ℕ) → (IsLocked word → ⊥) → word % 2 ^ 63 / 256 ≡ 0
    unlocked word free = dite (ℕ_discrete (word % 2 ^ 63 / 256) 0) (λ is. is) (λ not. absurd (free (inr not)))
