-- What the calls on a table of descriptors mean.
use Rattle.std.specs.Prelude.{◌≡◌, ℕ, ◌+◌, ◌^◌, ◌<◌, ◌≤◌, ◌==◌, ◌&&◌, nat_lt, Bool, true, false, List, length, map, count_by, find, slice_index_or, Option, Some, None, IfSome, IsSome, is_some}
use Rattle.std.specs.Prelude.{is_none, if◌then◌else◌}
use Rattle.std.specs.List.{range_with_len}
use Rattle.std.specs.Option.{option_map_or}
use Rattle.word_bits.specs.declared.call.CallWords.{CallWords}
use Rattle.word_bits.specs.declared.call.Mode.{Mode}
use Rattle.word_bits.specs.declared.reply.Reply.{Reply}
use Rattle.word_bits.specs.declared.reply.Reply.TheVariants.{Good, Num, Refused}
use Rattle.word_bits.specs.declared.reply.Errno.TheVariants.{BadF, MFile}
use Rattle.word_bits.specs.Calls.{words_of, mode_number, has_mode, kind_in, first_in, second_in, third_in, prot_in, access_in}
use Rattle.word_bits.specs.Objects.{Obj}
use Rattle.fd_table.specs.declared.call.TableCall.{TableCall}
use Rattle.fd_table.specs.declared.call.TableCall.TheVariants.{Open, Close, Dup, Dup2, Get}

-- to what file each descriptor is open, where it is open
abbrev pub FdMap : Type 0
FdMap = ℕ → Option ℕ

abbrev pub no_files : FdMap
no_files fd = None

-- the descriptors are below 64, and the file numbers have 16 bits
pub record IsFdMap (m : FdMap) : Type 0 where
  pub within : (fd : ℕ) → 64 ≤ fd → m fd ≡ None
  pub files : (fd : ℕ) → IfSome (m fd) (λ file. file < 65536)

-- how many of so many descriptors from one on are open
unfoldable pub used_from : FdMap → (fd count : ℕ) → ℕ
used_from m fd count = count_by (λ k. is_some (m k)) (range_with_len fd count)

-- the lowest of so many descriptors from one on that isn't open
unfoldable pub lowest_from : FdMap → (fd count : ℕ) → Option ℕ
lowest_from m fd count = find (λ k. is_none (m k)) (range_with_len fd count)

-- the lowest descriptor that isn't open, and none where 64 are
abbrev pub lowest_free : FdMap → Option ℕ
lowest_free m = lowest_from m 0 64

-- this descriptor isn't open, and each below it is
pub record IsLowestFree (m : FdMap) (fd : ℕ) : Type 0 where
  pub within : fd < 64
  pub free : m fd ≡ None
  pub below : (k : ℕ) → k < fd → IsSome (m k)

-- each descriptor is open
abbrev pub IsFull : FdMap → Type 0
IsFull m = (fd : ℕ) → fd < 64 → IsSome (m fd)

-- the descriptor is open to this file, or isn't open; the others are as before
abbrev pub with_file : FdMap → ℕ → Option ℕ → FdMap
with_file m fd file k = if k == fd then file else m k

-- the lowest free descriptor is open to the file, unless 64 are open
abbrev pub opened : FdMap → ℕ → FdMap × Reply
opened m file = option_map_or (λ fd. (with_file m fd (Some file), Num fd)) (lowest_free m) (m, Refused MFile)

-- what is done with the file of an open descriptor, unless it isn't open
abbrev pub unless_closed : FdMap → ℕ → (ℕ → FdMap × Reply) → FdMap × Reply
unless_closed m fd done = option_map_or done (m fd) (m, Refused BadF)

-- the descriptor is open to the file, whatever it was before, unless it is past the last one
abbrev pub reopened : FdMap → ℕ → ℕ → FdMap × Reply
reopened m to file = if nat_lt to 64 then (with_file m to (Some file), Num to) else (m, Refused BadF)

-- the next table, and the reply
abbrev pub meaning : FdMap → TableCall → FdMap × Reply
meaning m (Open file) = opened m file
meaning m (Close fd) = unless_closed m fd (λ file. (with_file m fd None, Good))
meaning m (Dup fd) = unless_closed m fd (opened m)
meaning m (Dup2 fd to) = unless_closed m fd (reopened m to)
meaning m (Get fd) = unless_closed m fd (λ file. (m, Num file))

-- the numbers of a valid call fit their fields
abbrev pub IsCall : TableCall → Type 0
IsCall (Open file) = file < 65536
IsCall (Close fd) = fd < 2 ^ 32
IsCall (Dup fd) = fd < 2 ^ 32
IsCall (Dup2 fd to) = (fd < 2 ^ 32) × (to < 2 ^ 32)
IsCall (Get fd) = fd < 2 ^ 32

-- only the call that asks for a file leaves the table as it is
abbrev pub reads : TableCall → Bool
reads (Get fd) = true
reads call = false

-- the words of a call in a mode
abbrev pub words_of_call : TableCall → Mode → CallWords
words_of_call (Open file) mode = words_of 8 file 0 0 0 (mode_number mode)
words_of_call (Close fd) mode = words_of 9 fd 0 0 0 (mode_number mode)
words_of_call (Dup fd) mode = words_of 10 fd 0 0 0 (mode_number mode)
words_of_call (Dup2 fd to) mode = words_of 11 fd to 0 0 (mode_number mode)
words_of_call (Get fd) mode = words_of 12 fd 0 0 0 (mode_number mode)

-- a valid call, whose words in some mode these are
abbrev pub IsCallOf : CallWords → TableCall → Type 0
IsCallOf words call = IsCall call × ((mode : Mode) × (words_of_call call mode ≡ words))

-- the call of this kind, if there is one with these numbers
abbrev pub call_with : (kind first second : ℕ) → Option TableCall
call_with kind first second =
    if (kind == 11) && nat_lt second (2 ^ 32) then Some (Dup2 first second)
    else if (kind == 8) && ((second == 0) && nat_lt first 65536) then Some (Open first)
    else if (kind == 9) && (second == 0) then Some (Close first)
    else if (kind == 10) && (second == 0) then Some (Dup first)
    else if (kind == 12) && (second == 0) then Some (Get first)
    else None

-- the call whose words in some mode these are
abbrev pub call_of : CallWords → Option TableCall
call_of w =
    if has_mode w && (prot_in w == 0) && (access_in w == 0) && (third_in w == 0) then call_with (kind_in w) (first_in w) (second_in w) else None

-- the word of a descriptor: 0, or the file's number plus 1
abbrev pub slot_word : Option ℕ → ℕ
slot_word None = 0
slot_word (Some file) = file + 1

-- the words of so many descriptors from one on
unfoldable pub words_from : FdMap → (fd count : ℕ) → List ℕ
words_from m fd count = map (λ k. slot_word (m k)) (range_with_len fd count)

-- the words that store a table
abbrev pub stores : FdMap → List ℕ
stores m = words_from m 0 64

-- what slots, one for each descriptor, say of a descriptor
abbrev pub fd_map : List (Option ℕ) → FdMap
fd_map slots fd = slice_index_or slots fd None

-- a slot for each descriptor
pub record IsTable (slots : List (Option ℕ)) : Type 0 where
  pub all : length slots ≡ 64
  pub files : (fd : ℕ) → IfSome (fd_map slots fd) (λ file. file < 65536)

-- a table of descriptors
abbrev pub table : Obj TableCall
table = record {
  State = FdMap;
  IsState = IsFdMap;
  empty = no_files;
  IsCall = IsCall;
  call_of = call_of;
  reads = reads;
  meaning = meaning;
  stores = stores;
  Represents = λ m words. words ≡ stores m;
}
