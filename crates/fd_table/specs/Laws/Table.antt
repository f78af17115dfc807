-- The laws of a table of descriptors.
use Rattle.std.proofs.Common.{◌≡◌, ℕ, ◌+◌, ◌<◌, ◌≤◌, length, get_or, replicate, Option, Some, None, IfSome, IsSome, MatchOption, is_none, Bool, true, false, cond, eqb, ltb, ◌⊎◌, inl, inr, refl, zero}
use Rattle.std.proofs.Common.{suc, sym, ap, ◌∙◌, subst, arith}
use Rattle.std.proofs.Math.Path.{fun_ext}
use Rattle.std.proofs.lemmas.Bool.{cases_lt, false≢true}
use Rattle.std.proofs.lemmas.Bool.Decides.{nat_tests}
use Rattle.std.proofs.lemmas.List.FromFn.{length-map-range_with_len, get_or-map-range_with_len}
use Rattle.std.specs.List.{range_with_len, find}
use Rattle.std.specs.Option.{option_map_or}
use Rattle.word_bits.specs.declared.call.CallWords.{CallWords}
use Rattle.word_bits.specs.declared.reply.Reply.{Reply}
use Rattle.word_bits.specs.declared.reply.Reply.TheVariants.{Good, Num, Refused}
use Rattle.word_bits.specs.declared.reply.Errno.{Errno}
use Rattle.word_bits.specs.declared.reply.Errno.TheVariants.{BadF, MFile}
use Rattle.word_bits.specs.Calls.{signal_of}
use Rattle.word_bits.specs.Objects.{IsObjectReply}
use Rattle.word_bits.proofs.Signals.{none_either, signal_kind}
use Rattle.fd_table.specs.declared.call.TableCall.{TableCall}
use Rattle.fd_table.specs.declared.call.TableCall.TheVariants.{Open, Close, Dup, Dup2, Get}
use Rattle.fd_table.specs.Tables.{FdMap, no_files, IsFdMap, IsFull, IsLowestFree, lowest_from, lowest_free, with_file, opened, unless_closed, reopened, meaning, IsCall, reads, call_of, slot_word}
use Rattle.fd_table.specs.Tables.{words_from, stores}
use Rattle.fd_table.specs.Laws.TableCall.{call_of-sound}

-- the words of a signal are no call
pub signals : (w : CallWords) (task : ℕ) → signal_of w ≡ Some task → call_of w ≡ None
signals w task is = let kind = signal_kind w task is in rw kind (none_either _)

-- the words are as many as may be
pub few_words : 64 ≤ 257
few_words = omega arith

-- a stored table fills all words
pub sized : (m : FdMap) → IsFdMap m → length (stores m) ≡ 64
unfolding words_from
sized m is = length-map-range_with_len (λ k. slot_word (m k)) 0 64

-- a table with no open descriptor can be stored
pub starts : IsFdMap no_files
starts = record { within = λ fd past. refl; files = λ fd. tt }

-- zeros store it
pub zeros : replicate 64 0 ≡ stores no_files
unfolding words_from
zeros = refl

-- the word of a descriptor stands at its number
word-at : (m : FdMap) (fd : ℕ) → fd < 64 → get_or (stores m) fd 0 ≡ slot_word (m fd)
unfolding words_from
word-at m fd below = get_or-map-range_with_len (λ k. slot_word (m k)) 0 64 fd fd 0 below (omega arith)

-- a word is that of one slot
pub slot_word-injective : (a b : Option ℕ) → slot_word a ≡ slot_word b → a ≡ b
slot_word-injective None None same = refl
slot_word-injective None (Some file) same = absurd (omega arith)
slot_word-injective (Some file) None same = absurd (omega arith)
slot_word-injective (Some file) (Some other) same = let e : file ≡ other = omega arith in ap Some e

-- words store one table
pub apart : (s t : FdMap) → IsFdMap s → IsFdMap t → stores s ≡ stores t → s ≡ t
apart s t is_s is_t same = fun_ext (λ fd. go fd (cases_lt fd 64))
  where
    go : (fd : ℕ) → (fd < 64) ⊎ (64 ≤ fd) → s fd ≡ t fd
    go fd (inl below) = slot_word-injective (s fd) (t fd) (sym (word-at s fd below) ∙ ap (λ ws. get_or ws fd 0) same ∙ word-at t fd below)
    go fd (inr past) = is_s.within fd past ∙ sym (is_t.within fd past)

-- calls that are read are valid
pub called : (words : CallWords) (call : TableCall) → call_of words ≡ Some call → IsCall call
called words call e = (call_of-sound words call e).0

-- the first number of a range that passes a test, and that those before it fail
find-range : (p : ℕ → Bool) (from count : ℕ) → MatchOption (find p (range_with_len from count)) ((k : ℕ) → from ≤ k → k < from + count → p k ≡ false)
    (λ k. (from ≤ k) × (k < from + count) × (p k ≡ true) × ((j : ℕ) → from ≤ j → j < k → p j ≡ false))
find-range p from zero = λ k low high. absurd (omega arith)
find-range p from (suc count) = go (p from) refl (find p (range_with_len (from + 1) count)) (find-range p (from + 1) count)
  where
    others : p from ≡ false → (high : ℕ) → ((j : ℕ) → from + 1 ≤ j → j < high → p j ≡ false) → (j : ℕ) → from ≤ j → j < high → p j ≡ false
    others fails high rest j low below = elim (cases_lt from j) [ inl above ↦ rest j (omega arith) below | inr at ↦ (let here : from ≡ j = omega arith in ap p (sym here) ∙ fails) ]

    go : (test : Bool) → p from ≡ test → (rest : Option ℕ) → MatchOption rest ((k : ℕ) → from + 1 ≤ k → k < from + 1 + count → p k ≡ false)
        (λ k. (from + 1 ≤ k) × (k < from + 1 + count) × (p k ≡ true) × ((j : ℕ) → from + 1 ≤ j → j < k → p j ≡ false))
        → MatchOption (cond test (Some from) rest) ((k : ℕ) → from ≤ k → k < from + suc count → p k ≡ false)
        (λ k. (from ≤ k) × (k < from + suc count) × (p k ≡ true) × ((j : ℕ) → from ≤ j → j < k → p j ≡ false))
    go true holds rest is = (omega arith, omega arith, holds, λ j low high. absurd (omega arith))
    go false fails None none = λ k low high. others fails (from + 1 + count) none k low (omega arith)
    go false fails (Some k) is = (omega arith, omega arith, is.2, others fails k is.3)

-- a test for a slot that isn't open
is_none-true : (o : Option ℕ) → is_none o ≡ true → o ≡ None
is_none-true None e = refl
is_none-true (Some file) e = absurd (false≢true e)

-- a test for a slot that is open
is_none-false : (o : Option ℕ) → is_none o ≡ false → IsSome o
is_none-false None e = absurd (false≢true (sym e))
is_none-false (Some file) e = refl

-- the lowest free descriptor is the lowest that isn't open, and there is none where all are open
pub lowest_free-lowest : (m : FdMap) → MatchOption (lowest_free m) (IsFull m) (IsLowestFree m)
unfolding lowest_from
lowest_free-lowest m = go (lowest_free m) (find-range (λ fd. is_none (m fd)) 0 64)
  where
    go : (o : Option ℕ) → MatchOption o ((k : ℕ) → 0 ≤ k → k < 64 → is_none (m k) ≡ false) (λ k. (0 ≤ k) × (k < 64) × (is_none (m k) ≡ true) × ((j : ℕ) → 0 ≤ j → j < k → is_none (m j) ≡ false))
        → MatchOption o (IsFull m) (IsLowestFree m)
    go None none = λ fd below. is_none-false (m fd) (none fd (omega arith) below)
    go (Some fd) (low, high, free, lower) = record { within = high; free = is_none-true (m fd) free; below = λ k below. is_none-false (m k) (lower k (omega arith) below) }

-- a descriptor that is freed, or one of the 64 that is open to a file, leaves a table that can be stored
IsFdMap-with_file : (m : FdMap) (fd : ℕ) (o : Option ℕ) → IsFdMap m → IfSome o (λ file. (fd < 64) × (file < 65536)) → IsFdMap (with_file m fd o)
IsFdMap-with_file m fd o is fits = record { within = λ k past. within k past (eqb k fd) refl o fits; files = λ k. files k (eqb k fd) o fits }
  where
    within : (k : ℕ) → 64 ≤ k → (test : Bool) → eqb k fd ≡ test → (o' : Option ℕ) → IfSome o' (λ file. (fd < 64) × (file < 65536)) → cond test o' (m k) ≡ None
    within k past true at None fits' = refl
    within k past true at (Some file) fits' = let here : k ≡ fd = grind (arith, nat_tests) in absurd (omega arith)
    within k past false at o' fits' = is.within k past

    files : (k : ℕ) (test : Bool) (o' : Option ℕ) → IfSome o' (λ file. (fd < 64) × (file < 65536)) → IfSome (cond test o' (m k)) (λ file. file < 65536)
    files k true None fits' = tt
    files k true (Some file) fits' = fits'.1
    files k false o' fits' = is.files k

module _ (m : FdMap) (P : FdMap × Reply → Type 0) where
  -- what holds where a descriptor isn't open, and of what is done where it is, holds of a call on it
  unless_closed-cases : (fd : ℕ) (done : ℕ → FdMap × Reply) → P (m, Refused BadF) → ((file : ℕ) → m fd ≡ Some file → P (done file)) → P (unless_closed m fd done)
  unless_closed-cases fd done closed opens = go (m fd) refl
    where
      go : (o : Option ℕ) → m fd ≡ o → P (option_map_or done o (m, Refused BadF))
      go None e = closed
      go (Some file) e = opens file e

  -- what holds where 64 are open, and with the lowest free descriptor open, holds of opening it
  opened-cases : (file : ℕ) → P (m, Refused MFile) → ((fd : ℕ) → fd < 64 → P (with_file m fd (Some file), Num fd)) → P (opened m file)
  opened-cases file full opens = go (lowest_free m) (lowest_free-lowest m)
    where
      go : (o : Option ℕ) → MatchOption o (IsFull m) (IsLowestFree m) → P (option_map_or (λ fd. (with_file m fd (Some file), Num fd)) o (m, Refused MFile))
      go None all = full
      go (Some fd) is = opens fd is.within

  -- what holds past the last descriptor, and with one open to the file, holds of reopening it
  reopened-cases : (to file : ℕ) → P (m, Refused BadF) → (to < 64 → P (with_file m to (Some file), Num to)) → P (reopened m to file)
  reopened-cases to file past opens = go (ltb to 64) refl
    where
      go : (test : Bool) → ltb to 64 ≡ test → P (cond test (with_file m to (Some file), Num to) (m, Refused BadF))
      go true e = opens (grind (arith, nat_tests))
      go false e = past

  -- what holds of each refusal, of one descriptor opened or freed, and of a file that is told holds of each call
  meaning-cases : (IsFile : ℕ → Type 0) (call : TableCall) → ((fd : ℕ) → IfSome (m fd) IsFile) → ((file : ℕ) → call ≡ Open file → IsFile file) → ((errno : Errno) → P (m, Refused errno))
      → ((fd file : ℕ) → fd < 64 → IsFile file → P (with_file m fd (Some file), Num fd)) → ((fd : ℕ) → P (with_file m fd None, Good)) → ((file : ℕ) → IsFile file → P (m, Num file))
      → P (meaning m call)
  meaning-cases IsFile call files asked refusal opens closes tells = go call asked
    where
      at : (fd file : ℕ) → m fd ≡ Some file → IsFile file
      at fd file e = subst (λ o. IfSome o IsFile) e (files fd)

      go : (call : TableCall) → ((file : ℕ) → call ≡ Open file → IsFile file) → P (meaning m call)
      go (Open file) asked = opened-cases file (refusal MFile) (λ fd below. opens fd file below (asked file refl))
      go (Close fd) asked = unless_closed-cases fd (λ file. (with_file m fd None, Good)) (refusal BadF) (λ file e. closes fd)
      go (Dup fd) asked = unless_closed-cases fd (opened m) (refusal BadF) (λ file e. opened-cases file (refusal MFile) (λ to below. opens to file below (at fd file e)))
      go (Dup2 fd to) asked = unless_closed-cases fd (reopened m to) (refusal BadF) (λ file e. reopened-cases to file (refusal BadF) (λ below. opens to file below (at fd file e)))
      go (Get fd) asked = unless_closed-cases fd (λ file. (m, Num file)) (refusal BadF) (λ file e. tells file (at fd file e))

-- the file of a valid call has 16 bits
asked-lt : (call : TableCall) → IsCall call → (file : ℕ) → call ≡ Open file → file < 65536
asked-lt call is file e = subst IsCall e is

-- a call leads from stored tables to such
pub goes_on : (s : FdMap) (call : TableCall) → IsFdMap s → IsCall call → IsFdMap (meaning s call).0
goes_on s call is_s is_call =
    meaning-cases s (λ r. IsFdMap r.0) (λ file. file < 65536) call is_s.files (asked-lt call is_call) (λ errno. is_s) (λ fd file below small. IsFdMap-with_file s fd (Some file) is_s (below, small))
    (λ fd. IsFdMap-with_file s fd None is_s tt) (λ file small. is_s)

-- replies are an object's
pub replies : (s : FdMap) (call : TableCall) → IsFdMap s → IsCall call → IsObjectReply (meaning s call).1
replies s call is_s is_call =
    meaning-cases s (λ r. IsObjectReply r.1) (λ file. file < 65536) call is_s.files (asked-lt call is_call) (λ errno. tt) (λ fd file below small. omega arith) (λ fd. tt) (λ file small. omega arith)

-- a call that reads changes nothing
pub reading : (s : FdMap) (call : TableCall) → reads call ≡ true → (meaning s call).0 ≡ s
reading s (Open file) e = absurd (false≢true e)
reading s (Close fd) e = absurd (false≢true e)
reading s (Dup fd) e = absurd (false≢true e)
reading s (Dup2 fd to) e = absurd (false≢true e)
reading s (Get fd) e = unless_closed-cases s (λ r. r.0 ≡ s) fd (λ file. (s, Num file)) refl (λ file is. refl)

-- a refused call changes nothing
pub refused : (s : FdMap) (call : TableCall) (errno : Errno) → (meaning s call).1 ≡ Refused errno → (meaning s call).0 ≡ s
refused s call errno e =
    meaning-cases s (λ r. r.1 ≡ Refused errno → r.0 ≡ s) (λ file. Unit {0}) call (λ fd. any (s fd)) (λ file is. tt) (λ reason is. refl) (λ fd file below is done. absurd cc) (λ fd done. absurd cc)
    (λ file is done. refl) e
  where
    any : (o : Option ℕ) → IfSome o (λ file. Unit {0})
    any None = tt
    any (Some file) = tt
