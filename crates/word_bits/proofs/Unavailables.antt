-- The words that show a lock unavailable, as words of owners and of counts.
use Rattle.std.proofs.Common.{◌≡◌, ◌∙◌, ℕ, ◌+◌, ◌-◌, ◌*◌, ◌/◌, ◌%◌, ◌<◌, ◌≤◌, ◌≢◌, ◌==◌, ◌||◌, inl, inr, Bool, true, false, IsTrue, IsSome, IfSome, Option, Some, None, zero, suc, refl, sym, ap, arith}
use Rattle.word_bits.specs.declared.count.Count.{Count}
use Rattle.word_bits.specs.declared.TheConstants.{MAX_TASKS}
use Rattle.word_bits.specs.CountWord.{count_word}
use Rattle.word_bits.specs.LockWords.{owned, counted, IsLawfulCount}
use Rattle.word_bits.specs.OwnerWord.{bit, task_code}
use Rattle.word_bits.specs.Unavailables.{IsOwnedWord, IsLawful, IsClosed, IsCountedWord, OwnedNamesTask, CountedIsClosed}

-- whether a bit is 1
abbrev is_one : ℕ → Bool
is_one n = n == 1

bit-is_one : (n : ℕ) → n < 2 → bit (is_one n) ≡ n
bit-is_one zero below = refl
bit-is_one (suc zero) below = refl
bit-is_one (suc (suc n)) below = absurd (omega arith)

bit-below : (b : Bool) → bit b < 2
bit-below true = omega arith
bit-below false = omega arith

-- the owner that a word names
owned-owner : (reads : Bool) (word : ℕ) → owned reads word → IsOwnedWord word
owned-owner reads word range =
    let low = range.0 in
    let high = range.1 in
    let waiters = bit-is_one (word % 2) (omega arith) in
    let handoff = bit-is_one (word / 2 % 2) (omega arith) in
    let pickup = bit-is_one (word / 4 % 2) (omega arith) in
    record {
      owner = record { task = Some (word / 8 - 1); waiters = is_one (word % 2); handoff = is_one (word / 2 % 2); pickup = is_one (word / 4 % 2) };
      fits = omega arith;
      names = refl;
      packs = rw (waiters, handoff, pickup) (omega arith);
    }

code-range : (task : Option ℕ) → IfSome task (λ t. t < MAX_TASKS) → IsSome task → (1 ≤ task_code task) × (task_code task ≤ MAX_TASKS)
code-range None fits names = absurd (grind arith)
code-range (Some t) fits names = (omega arith, omega arith)

owner-owned : (reads : Bool) (word : ℕ) → IsOwnedWord word → owned reads word
owner-owned reads word is =
    let range = code-range is.owner.task is.fits is.names in
    let least = range.0 in
    let most = range.1 in
    let waiters = bit-below is.owner.waiters in
    let handoff = bit-below is.owner.handoff in
    let pickup = bit-below is.owner.pickup in
    let packs = is.packs in
    (omega arith, omega arith)

pub owned_names_task : OwnedNamesTask
owned_names_task reads word = (owned-owner reads word, owner-owned reads word)

-- the count whose word it is
abbrev count_at : ℕ → Count
count_at word = record { writer = is_one (word % 2); waiters = is_one (word / 2 % 2); handoff = is_one (word / 4 % 2); readers = word / 256; read_fail = false }

-- a flag is one of the three
flags-some : (a b c : Bool) → bit a + bit b * 2 + bit c * 4 ≢ 0 → IsTrue (a || b || c)
flags-some true b c some = refl
flags-some false true c some = refl
flags-some false false true some = refl
flags-some false false false some = absurd (some refl)

some-flags : (a b c : Bool) → IsTrue (a || b || c) → 1 ≤ bit a + bit b * 2 + bit c * 4
some-flags true b c some = omega arith
some-flags false true c some = omega arith
some-flags false false true some = omega arith
some-flags false false false some = absurd (grind arith)

-- the flags of a word's count are its lowest three bits
flags-count_at : (word : ℕ) → bit (is_one (word % 2)) + bit (is_one (word / 2 % 2)) * 2 + bit (is_one (word / 4 % 2)) * 4 ≡ word % 8
flags-count_at word =
    let writer = bit-is_one (word % 2) (omega arith) in
    let waiters = bit-is_one (word / 2 % 2) (omega arith) in
    let handoff = bit-is_one (word / 4 % 2) (omega arith) in
    rw (writer, waiters, handoff) (omega arith)

packs-count_at : (word : ℕ) → IsLawfulCount word → count_word (count_at word) ≡ word
packs-count_at word lawful =
    let flags = flags-count_at word in
    let low = lawful.0 in
    omega arith

closed-count_at : (reads : Bool) (word : ℕ) → counted reads word → IsClosed reads (count_at word)
closed-count_at true word is =
    flags-some (is_one (word % 2)) (is_one (word / 2 % 2)) (is_one (word / 4 % 2)) (λ none. is.1 (sym (flags-count_at word) ∙ none))
closed-count_at false word is = go (word / 256) refl
  where
    go : (readers : ℕ) → word / 256 ≡ readers → IsClosed false (count_at word)
    go zero none =
        let low = is.0.0 in
        let some = is.1 in
        inl (flags-some (is_one (word % 2)) (is_one (word / 2 % 2)) (is_one (word / 4 % 2)) (λ no_flag. let flags = flags-count_at word in some (omega arith)))
    go (suc readers) some = inr (omega arith)

lawful_of : (reads : Bool) (word : ℕ) → counted reads word → IsLawfulCount word
lawful_of true word is = is.0
lawful_of false word is = is.0

counted-count : (reads : Bool) (word : ℕ) → counted reads word → IsCountedWord reads word
counted-count reads word is =
    let lawful = lawful_of reads word is in
    record {
      count = count_at word;
      lawful = record { readers = lawful.1; read_fail = refl };
      closed = closed-count_at reads word is;
      packs = packs-count_at word lawful;
    }

-- the word of a lawful count is lawful, and its lowest bits are the flags
lawful-word : (c : Count) (word : ℕ) → IsLawful c → count_word c ≡ word → IsLawfulCount word × (word ≡ bit c.writer + bit c.waiters * 2 + bit c.handoff * 4 + c.readers * 256)
lawful-word c word lawful packs =
    let no_fail = ap bit lawful.read_fail in
    let writer = bit-below c.writer in
    let waiters = bit-below c.waiters in
    let handoff = bit-below c.handoff in
    let readers = lawful.readers in
    ((omega arith, omega arith), omega arith)

count-counted : (reads : Bool) (word : ℕ) → IsCountedWord reads word → counted reads word
count-counted true word is =
    let made = lawful-word is.count word is.lawful is.packs in
    let whole = made.1 in
    let writer = bit-below is.count.writer in
    let waiters = bit-below is.count.waiters in
    let handoff = bit-below is.count.handoff in
    let flags = some-flags is.count.writer is.count.waiters is.count.handoff is.closed in
    (made.0, λ none. absurd (omega arith))
count-counted false word is = go is.closed
  where
    made : IsLawfulCount word × (word ≡ bit is.count.writer + bit is.count.waiters * 2 + bit is.count.handoff * 4 + is.count.readers * 256)
    made = lawful-word is.count word is.lawful is.packs

    go : IsClosed false is.count → counted false word
    go (inl flag) =
        let whole = made.1 in
        let flags = some-flags is.count.writer is.count.waiters is.count.handoff flag in
        (made.0, λ none. absurd (omega arith))
    go (inr some) = let whole = made.1 in (made.0, λ none. absurd (omega arith))

pub counted_is_closed : CountedIsClosed
counted_is_closed reads word = (counted-count reads word, count-counted reads word)
