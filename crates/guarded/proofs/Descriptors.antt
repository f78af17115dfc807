-- What the words of descriptors say, and what one that is written changes.
use Rattle.std.proofs.Common.{◌≡◌, ℕ, ◌+◌, ◌-◌, ◌<◌, ◌≤◌, ◌⊎◌, inl, inr, true, eqb, ltb, List, length, Option, Some, None, IfSome, IsSome, MatchOption, slice_index, slice_set, refl, sym, ap, ◌∙◌, subst, arith}
use Rattle.std.specs.Option.{option_map_or}
use Rattle.std.proofs.lemmas.Bool.{cases_lt, cases_eq, cond-true, cond-false, ne_eqb, lt-ltb, false≢true}
use Rattle.std.proofs.lemmas.Bool.Decides.{nat_tests}
use Rattle.std.proofs.lemmas.List.{get_or_past}
use Rattle.std.proofs.lemmas.List.FromFn.{get_or-map-range_with_len, length-map-range_with_len}
use Rattle.lock_core.specs.Shown.{Shown}
use Rattle.lock_core.specs.Locking.{Looks, Has}
use Rattle.lock_core.specs.Views.{wrote}
use Rattle.fd_table.specs.Tables.{FdMap, IsFdMap, IsFull, IsLowestFree, lowest_free, meaning, opened, reopened, slot_word, stores, with_file, words_from}
use Rattle.fd_table.specs.Laws.Table.{lowest_free-lowest}
use Rattle.guarded.specs.Performing.{HasStored}
use Rattle.guarded.specs.Slots.{DoesTo}
use Rattle.guarded.specs.Types.{Reply, Good, Num, Refused, BadF, MFile, Hand, TableCall, Open, Close, Dup, Dup2}
use Rattle.guarded.proofs.Passing.{beside-trans}
use Rattle.guarded.proofs.Spliced.{rows-alike, set-here, set-off, set-long}

word-at : (m : FdMap) (fd : ℕ) → fd < 64 → slice_index (stores m) fd ≡ slot_word (m fd)
unfolding words_from
word-at m fd below = get_or-map-range_with_len (λ k. slot_word (m k)) 0 64 fd fd 0 below (omega arith)

-- the stored word of a descriptor
pub slot-at : (m : FdMap) (known : List ℕ) (fd word : ℕ) → fd < 64 → stores m ≡ known → word ≡ slice_index known fd → word ≡ slot_word (m fd)
slot-at m known fd word below same is = is ∙ (ap (λ ws. slice_index ws fd) (sym same) ∙ word-at m fd below)

-- past the last descriptor none is open
pub slot-past : (m : FdMap) (fd : ℕ) → IsFdMap m → 64 ≤ fd → 0 ≡ slot_word (m fd)
slot-past m fd is past = sym (ap slot_word (is.within fd past))

-- what a descriptor's file makes of a reply
abbrev pub got : FdMap → Option ℕ → Reply
got m file = let next : FdMap × Reply = option_map_or (λ (n : ℕ). (m, Num n)) file (m, Refused BadF) in next.1

pub got-none : (m : FdMap) (file : Option ℕ) (word : ℕ) → word ≡ slot_word file → word ≡ 0 → Refused BadF ≡ got m file
got-none m None word is zero = refl
got-none m (Some n) word is zero = absurd (omega (arith, is, zero))

pub got-some : (m : FdMap) (file : Option ℕ) (word : ℕ) → word ≡ slot_word file → (word ≡ 0 → ⊥) → Num (word - 1) ≡ got m file
got-some m None word is some = absurd (some is)
got-some m (Some n) word is some = let e : word - 1 ≡ n = omega (arith, is) in ap Num e

pub slot-small : (file : Option ℕ) (word : ℕ) → word ≡ slot_word file → IfSome file (λ n. n < 65536) → word < 65537
slot-small None word is small = omega (arith, is)
slot-small (Some n) word is small = omega (arith, is, small)

pub slot-none : (file : Option ℕ) (word : ℕ) → word ≡ slot_word file → word ≡ 0 → file ≡ None
slot-none None word is zero = refl
slot-none (Some n) word is zero = absurd (omega (arith, is, zero))

pub slot-some : (file : Option ℕ) (word : ℕ) → word ≡ slot_word file → (word ≡ 0 → ⊥) → file ≡ Some (word - 1)
slot-some None word is some = absurd (some is)
slot-some (Some n) word is some = let e : n ≡ word - 1 = omega (arith, is) in ap (λ k. Some k) e

pub slot-open : (file : Option ℕ) (word : ℕ) → word ≡ slot_word file → (word ≡ 0 → ⊥) → IsSome file
slot-open None word is some = absurd (some is)
slot-open (Some n) word is some = refl

-- a descriptor that isn't open isn't
not-free : (m : FdMap) (k : ℕ) → m k ≡ None → IsSome (m k) → ⊥
not-free m k none some = false≢true (subst IsSome none some)

-- the lowest free descriptor is the one that was found
pub lowest-found : (m : FdMap) (fd : ℕ) → fd < 64 → m fd ≡ None → ((k : ℕ) → k < fd → IsSome (m k)) → Some fd ≡ lowest_free m
lowest-found m fd below free taken = go (lowest_free m) (lowest_free-lowest m)
  where
    same : (k : ℕ) → IsLowestFree m k → (k < fd) ⊎ (fd ≤ k) → (fd < k) ⊎ (k ≤ fd) → Some fd ≡ Some k
    same k is (inl low) side = absurd (not-free m k is.free (taken k low))
    same k is (inr from) (inl high) = absurd (not-free m fd free (is.below fd high))
    same k is (inr from) (inr upto) = let e : fd ≡ k = omega (arith, from, upto) in ap (λ (n : ℕ). Some n) e

    go : (o : Option ℕ) → MatchOption o (IsFull m) (IsLowestFree m) → Some fd ≡ o
    go None full = absurd (not-free m fd free (full fd below))
    go (Some k) is = same k is (cases_lt k fd) (cases_lt fd k)

pub lowest-none : (m : FdMap) → ((k : ℕ) → k < 64 → IsSome (m k)) → None ≡ lowest_free m
lowest-none m taken = go (lowest_free m) (lowest_free-lowest m)
  where
    go : (o : Option ℕ) → MatchOption o (IsFull m) (IsLowestFree m) → None ≡ o
    go None full = refl
    go (Some k) is = absurd (not-free m k is.free (taken k is.within))

-- the lowest free descriptor is one of the 64
pub lowest-within : (m : FdMap) (fd : ℕ) → Some fd ≡ lowest_free m → fd < 64
lowest-within m fd is = (subst (λ o. MatchOption o (IsFull m) (IsLowestFree m)) (sym is) (lowest_free-lowest m)).within

stores-long : (n : FdMap) → length (stores n) ≡ 64
unfolding words_from
stores-long n = length-map-range_with_len (λ k. slot_word (n k)) 0 64

stores-past : (n : FdMap) (i : ℕ) → 64 ≤ i → slice_index (stores n) i ≡ 0
stores-past n i out = get_or_past (stores n) i 0 (let l = stores-long n in omega (arith, l, out))

file-here : (m : FdMap) (fd : ℕ) (file : Option ℕ) (i : ℕ) → i ≡ fd → with_file m fd file i ≡ file
file-here m fd file i e = cond-true (eqb i fd) file (m i) (grind (arith, nat_tests))

file-there : (m : FdMap) (fd : ℕ) (file : Option ℕ) (i : ℕ) → (i ≡ fd → ⊥) → with_file m fd file i ≡ m i
file-there m fd file i other = cond-false (eqb i fd) file (m i) (ne_eqb i fd other)

-- a word that is written stores the table with another file of its descriptor
pub set-slot : (m : FdMap) (fd word : ℕ) (file : Option ℕ) → fd < 64 → word ≡ slot_word file → slice_set (stores m) fd word ≡ stores (with_file m fd file)
set-slot m fd word file below value = rows-alike (slice_set (stores m) fd word) (stores (with_file m fd file)) (set-long (stores m) fd word ∙ stores-long m ∙ sym (stores-long (with_file m fd file))) (λ i. go i (cases_eq i fd) (cases_lt i 64))
  where
    go : (i : ℕ) → (i ≡ fd) ⊎ (i ≡ fd → ⊥) → (i < 64) ⊎ (64 ≤ i) → slice_index (slice_set (stores m) fd word) i ≡ slice_index (stores (with_file m fd file)) i
    go i (inl e) (inl low) = ap (slice_index (slice_set (stores m) fd word)) e ∙ set-here (stores m) fd word (let l = stores-long m in omega (arith, l, below)) ∙ value ∙ ap slot_word (sym (file-here m fd file i e)) ∙ sym (word-at (with_file m fd file) i low)
    go i (inl e) (inr out) = absurd (omega (arith, e, out, below))
    go i (inr other) (inl low) = set-off (stores m) fd i word other ∙ word-at m i low ∙ ap slot_word (sym (file-there m fd file i other)) ∙ sym (word-at (with_file m fd file) i low)
    go i (inr other) (inr out) = set-off (stores m) fd i word other ∙ stores-past m i out ∙ sym (stores-past (with_file m fd file) i out)

-- a pass that only looked has stored what it knew
pub looked-stored : (v u : Shown) (words : List ℕ) → Looks v u → words ≡ v.hand.known → HasStored words v u
looked-stored v u words looks same = (v.hand.writes, (looks.0 ∙ ap {B = Hand} (λ (xs : List ℕ). record v.hand { writes = v.hand.writes; known = xs }) (sym same), looks.1))

-- one that then wrote has stored what that made of it
pub wrote-stored : (v r u : Shown) (at n : ℕ) (old words : List ℕ) → Looks v r → Has (wrote r.hand at n) r u → old ≡ v.hand.known → slice_set old at n ≡ words → HasStored words v u
wrote-stored v r u at n old words looks has same now = (true, (has.0 ∙ (λ i. wrote (looks.0 i) at n) ∙ ap {B = Hand} (λ (xs : List ℕ). record v.hand { writes = true; known = xs }) (ap (λ xs. slice_set xs at n) (sym same) ∙ now), beside-trans v r u looks.1 has.1))

-- one that looked and then did all else
pub looked-then : (v r u : Shown) (words : List ℕ) → Looks v r → HasStored words r u → HasStored words v u
looked-then v r u words looks stored = (stored.0, (stored.1.0 ∙ (λ i. record (looks.0 i) { writes = stored.0; known = words }), beside-trans v r u looks.1 stored.1.1))

abbrev pub both : FdMap → Reply → FdMap × Reply
both m reply = (m, reply)

-- the calls on a table whose descriptor isn't open, and whose is
module _ (m : FdMap) (v r u : Shown) (looks : Looks v r) (is : IsFdMap m) (same : stores m ≡ v.hand.known) where
  -- a call that only looked, where it leaves the table and replies so
  pub does-nothing : (call : TableCall) (reply : Reply) → both m reply ≡ meaning m call → DoesTo m call reply v r
  does-nothing call reply means = record {
    stored = looked-stored v r (stores (meaning m call).0) looks (ap (λ (p : FdMap × Reply). stores p.0) (sym means) ∙ same);
    replies = ap (λ (p : FdMap × Reply). p.1) means;
  }

  -- one that wrote a word
  pub does-write : (call : TableCall) (reply : Reply) (fd word : ℕ) (file : Option ℕ) → fd < 64 → word ≡ slot_word file → Has (wrote r.hand fd word) r u → both (with_file m fd file) reply ≡ meaning m call → DoesTo m call reply v u
  does-write call reply fd word file below value has means = record {
    stored = wrote-stored v r u fd word (stores m) (stores (meaning m call).0) looks has same (set-slot m fd word file below value ∙ ap (λ (p : FdMap × Reply). stores p.0) means);
    replies = ap (λ (p : FdMap × Reply). p.1) means;
  }

-- what is done with a file that was found, or isn't
abbrev found : FdMap → (ℕ → FdMap × Reply) → Option ℕ → FdMap × Reply
found m done o = option_map_or done o (both m (Refused BadF))

abbrev placed : FdMap → ℕ → Option ℕ → FdMap × Reply
placed m file o = option_map_or (λ (fd : ℕ). both (with_file m fd (Some file)) (Num fd)) o (both m (Refused MFile))

abbrev freed : FdMap → ℕ → ℕ → FdMap × Reply
freed m fd file = both (with_file m fd None) Good

-- what the calls mean where a descriptor is open, or isn't
pub closed-none : (m : FdMap) (fd : ℕ) → m fd ≡ None → both m (Refused BadF) ≡ meaning m (Close fd)
closed-none m fd none = ap (found m (freed m fd)) (sym none)

pub closed-some : (m : FdMap) (fd file : ℕ) → m fd ≡ Some file → both (with_file m fd None) Good ≡ meaning m (Close fd)
closed-some m fd file some = ap (found m (freed m fd)) (sym some)

pub dupped-none : (m : FdMap) (fd : ℕ) → m fd ≡ None → both m (Refused BadF) ≡ meaning m (Dup fd)
dupped-none m fd none = ap (found m (opened m)) (sym none)

pub dupped-some : (m : FdMap) (fd file : ℕ) → m fd ≡ Some file → meaning m (Open file) ≡ meaning m (Dup fd)
dupped-some m fd file some = ap (found m (opened m)) (sym some)

pub opened-none : (m : FdMap) (file : ℕ) → None ≡ lowest_free m → both m (Refused MFile) ≡ meaning m (Open file)
opened-none m file none = ap (placed m file) none

pub opened-some : (m : FdMap) (file fd : ℕ) → Some fd ≡ lowest_free m → both (with_file m fd (Some file)) (Num fd) ≡ meaning m (Open file)
opened-some m file fd some = ap (placed m file) some

pub reopened-none : (m : FdMap) (fd to : ℕ) → m fd ≡ None → both m (Refused BadF) ≡ meaning m (Dup2 fd to)
reopened-none m fd to none = ap (found m (reopened m to)) (sym none)

past-last : (m : FdMap) (to file : ℕ) → 64 ≤ to → reopened m to file ≡ both m (Refused BadF)
past-last m to file past = cond-false (ltb to 64) (both (with_file m to (Some file)) (Num to)) (both m (Refused BadF)) (grind (arith, nat_tests))

pub reopened-past : (m : FdMap) (fd to : ℕ) → 64 ≤ to → both m (Refused BadF) ≡ meaning m (Dup2 fd to)
reopened-past m fd to past = go (m fd)
  where
    go : (o : Option ℕ) → both m (Refused BadF) ≡ option_map_or (reopened m to) o (both m (Refused BadF))
    go None = refl
    go (Some file) = sym (past-last m to file past)

pub reopened-some : (m : FdMap) (fd to file : ℕ) → m fd ≡ Some file → to < 64 → both (with_file m to (Some file)) (Num to) ≡ meaning m (Dup2 fd to)
reopened-some m fd to file some below = sym (cond-true (ltb to 64) (both (with_file m to (Some file)) (Num to)) (both m (Refused BadF)) (lt-ltb to 64 below)) ∙ ap (found m (reopened m to)) (sym some)

-- one more descriptor that is open
pub open-more : (m : FdMap) (fd : ℕ) → IsSome (m fd) → ((k : ℕ) → k < fd → IsSome (m k)) → (k : ℕ) → k < fd + 1 → IsSome (m k)
open-more m fd here taken k upto = go (cases_eq k fd)
  where
    go : (k ≡ fd) ⊎ (k ≡ fd → ⊥) → IsSome (m k)
    go (inl same) = subst (λ n. IsSome (m n)) (sym same) here
    go (inr other) = taken k (omega (arith, other, upto))

-- an open descriptor is one of the 64
pub slot-inside : (m : FdMap) (fd word : ℕ) → IsFdMap m → word ≡ slot_word (m fd) → (word ≡ 0 → ⊥) → fd < 64
slot-inside m fd word is value some = go (cases_lt fd 64)
  where
    go : (fd < 64) ⊎ (64 ≤ fd) → fd < 64
    go (inl below) = below
    go (inr past) = absurd (some (value ∙ sym (slot-past m fd is past)))

-- to open a descriptor to the file of another, after a look at that
pub dupped-then : (m : FdMap) (v r u : Shown) → Looks v r → (fd file : ℕ) (reply : Reply) → m fd ≡ Some file → DoesTo m (Open file) reply r u → DoesTo m (Dup fd) reply v u
dupped-then m v r u looks fd file reply some done =
    let same = dupped-some m fd file some in
    record {
      stored = looked-then v r u (stores (meaning m (Dup fd)).0) looks (subst (λ (p : FdMap × Reply). HasStored (stores p.0) r u) same done.stored);
      replies = done.replies ∙ ap (λ (p : FdMap × Reply). p.1) same;
    }

pub slot-back : (word : ℕ) → (word ≡ 0 → ⊥) → word ≡ slot_word (Some (word - 1))
slot-back word some = omega (arith, some)
