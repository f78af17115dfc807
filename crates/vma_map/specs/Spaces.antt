-- What the calls on an address space mean, page by page.
use Rattle.std.specs.Prelude.{◌≡◌, ℕ, ◌+◌, ◌-◌, ◌/◌, ◌%◌, ◌^◌, ◌<◌, ◌≤◌, ◌==◌, ◌&&◌, ◌||◌, nat_le, nat_lt, zero, suc, Bool, true, false, List, length, Contains, Option, Some, None, is_some, is_none}
use Rattle.std.specs.Prelude.{Result, Ok, Err, ◌⊎◌, if◌then◌else◌}
use Rattle.word_bits.specs.declared.area.Area.{Area}
use Rattle.word_bits.specs.declared.call.CallWords.{CallWords}
use Rattle.word_bits.specs.declared.call.Mode.{Mode}
use Rattle.word_bits.specs.declared.reply.Reply.{Reply}
use Rattle.word_bits.specs.declared.reply.Reply.TheVariants.{Good, Num, Refused, MapErr, AccErr}
use Rattle.word_bits.specs.declared.reply.Errno.{Errno}
use Rattle.word_bits.specs.declared.reply.Errno.TheVariants.{NoMem, Exist, Inval}
use Rattle.word_bits.specs.declared.reply.Errno.TheVariants as errnos
use Rattle.word_bits.specs.Calls.{words_of, with_third, mode_number, has_mode, kind_in, first_in, second_in, third_in, prot_in, access_in}
use Rattle.word_bits.specs.Objects.{Obj}
use Rattle.word_bits.specs.PageMaps.{PageMap, IsPageMap, no_pages, runs}
use Rattle.vma_map.specs.Runs.{words_of_areas}
use Rattle.vma_map.specs.declared.call.SpaceCall.{SpaceCall}
use Rattle.vma_map.specs.declared.call.SpaceCall.TheVariants.{Map, MapAny, MapNew, Unmap, Protect, Populate, Fault, Remap}

-- each page of the range has this protection, or none; the others are as before
abbrev pub changed : PageMap → (start end : ℕ) → Option ℕ → PageMap
changed m start end prot page = if nat_le start page && nat_lt page end then prot else m page

-- a change to these pages, refused where they have too many runs
abbrev pub unless_many : PageMap → PageMap → Reply → PageMap × Reply
unless_many m next reply = if nat_le (length (runs next)) 256 then (next, reply) else (m, Refused NoMem)

-- the range has this protection, or none, with this reply
abbrev pub with_range : PageMap → (start len : ℕ) → Option ℕ → Reply → PageMap × Reply
with_range m start len prot reply = unless_many m (changed m start (start + len) prot) reply

-- refused where the range has no page, or one past the last
abbrev pub if_valid : PageMap → (start len : ℕ) → PageMap × Reply → PageMap × Reply
if_valid m start len next =
    if (len == 0) || nat_lt 1048576 (start + len) then (m, Refused Inval) else next

-- each of so many pages from a page on passes the test
unfoldable pub each_page : (Option ℕ → Bool) → PageMap → (page count : ℕ) → Bool
each_page test m page zero = true
each_page test m page (suc count) = test (m page) && each_page test m (page + 1) count

-- each page of the range is unmapped
abbrev pub is_free : PageMap → (start len : ℕ) → Bool
is_free m start len = each_page is_none m start len

-- each page of the range is mapped
abbrev pub is_mapped : PageMap → (start len : ℕ) → Bool
is_mapped m start len = each_page is_some m start len

-- the first of so many starts from a page on whose range is free
unfoldable pub first_free : PageMap → (len page count : ℕ) → Option ℕ
first_free m len page zero = None
first_free m len page (suc count) =
    if is_free m page len then Some page else first_free m len (page + 1) count

-- the lowest start whose range is free, among those whose range is within the space
abbrev pub lowest_free : PageMap → (len : ℕ) → Option ℕ
lowest_free m len = first_free m len 0 (1048577 - len)

-- map: the range has the protection, whatever was there
abbrev pub mapped : PageMap → (start len prot : ℕ) → PageMap × Reply
mapped m start len prot = if_valid m start len (with_range m start len (Some prot) (Num start))

-- as map at this start, if there is one
abbrev pub mapped_at : PageMap → Option ℕ → (len prot : ℕ) → PageMap × Reply
mapped_at m None len prot = (m, Refused NoMem)
mapped_at m (Some start) len prot = mapped m start len prot

-- map any: as map at the lowest start whose range is free
abbrev pub mapped_any : PageMap → (len prot : ℕ) → PageMap × Reply
mapped_any m len prot = if len == 0 then (m, Refused Inval) else mapped_at m (lowest_free m len) len prot

-- map new: as map, refused where a page of the range is mapped
abbrev pub mapped_new : PageMap → (start len prot : ℕ) → PageMap × Reply
mapped_new m start len prot =
    if_valid m start len (if is_free m start len then with_range m start len (Some prot) (Num start) else (m, Refused Exist))

-- unmap: no page of the range is mapped, whatever was there
abbrev pub unmapped : PageMap → (start len : ℕ) → PageMap × Reply
unmapped m start len = if_valid m start len (with_range m start len None Good)

-- protect: the range has the protection, refused where a page of it is unmapped
abbrev pub protected : PageMap → (start len prot : ℕ) → PageMap × Reply
protected m start len prot =
    if_valid m start len (if is_mapped m start len then with_range m start len (Some prot) Good else (m, Refused NoMem))

-- how many of so many pages of this protection can be read
abbrev pub readable : (len prot : ℕ) → ℕ
readable len prot = if (prot % 2) == 1 then len else 0

-- populate: as map, and the reply tells how many pages of the range can be read
abbrev pub populated : PageMap → (start len prot : ℕ) → PageMap × Reply
populated m start len prot = if_valid m start len (with_range m start len (Some prot) (Num (readable len prot)))

-- two ranges of so many pages have one in common
abbrev pub share_page : (start to len : ℕ) → Bool
share_page start to len = nat_lt start (to + len) && nat_lt to (start + len)

-- the pages of the range at one start have gone to that at another, whatever was there
abbrev pub moved : PageMap → (start len to : ℕ) → PageMap
moved m start len to page =
    if nat_le to page && nat_lt page (to + len) then m (start + (page - to))
    else changed m start (start + len) None page

-- remap: the pages of the range move, refused where the ranges meet or a page of the first is unmapped
abbrev pub remapped : PageMap → (start len to : ℕ) → PageMap × Reply
remapped m start len to =
    if_valid m start len (if_valid m to len (
    if share_page start to len then (m, Refused Inval)
    else if is_mapped m start len then unless_many m (moved m start len to) (Num to)
    else (m, Refused errnos.Fault)
    ))

-- what an access to a page of this protection meets
abbrev pub access_reply : Option ℕ → ℕ → Reply
access_reply None access = MapErr
access_reply (Some prot) access = if (prot / access % 2) == 1 then Good else AccErr

-- the next pages, and the reply
abbrev pub meaning : PageMap → SpaceCall → PageMap × Reply
meaning m (Map start len prot) = mapped m start len prot
meaning m (MapAny len prot) = mapped_any m len prot
meaning m (MapNew start len prot) = mapped_new m start len prot
meaning m (Unmap start len) = unmapped m start len
meaning m (Protect start len prot) = protected m start len prot
meaning m (Populate start len prot) = populated m start len prot
meaning m (Fault page access) = (m, access_reply (m page) access)
meaning m (Remap start len to) = remapped m start len to

-- the reply of an outcome
abbrev pub reply_of : Result Reply Errno → Reply
reply_of (Ok reply) = reply
reply_of (Err errno) = Refused errno

-- one of r 1, w 2, x 4
abbrev pub IsAccess : ℕ → Type 0
IsAccess access = (access ≡ 1) ⊎ (access ≡ 2) ⊎ (access ≡ 4)

-- the numbers of a valid call fit their fields
abbrev pub IsCall : SpaceCall → Type 0
IsCall (Map start len prot) = (start < 2 ^ 32) × (len < 2 ^ 32) × (prot < 8)
IsCall (MapAny len prot) = (len < 2 ^ 32) × (prot < 8)
IsCall (MapNew start len prot) = (start < 2 ^ 32) × (len < 2 ^ 32) × (prot < 8)
IsCall (Unmap start len) = (start < 2 ^ 32) × (len < 2 ^ 32)
IsCall (Protect start len prot) = (start < 2 ^ 32) × (len < 2 ^ 32) × (prot < 8)
IsCall (Populate start len prot) = (start < 2 ^ 32) × (len < 2 ^ 32) × (prot < 8)
IsCall (Fault page access) = (page < 2 ^ 32) × IsAccess access
IsCall (Remap start len to) = (start < 2 ^ 32) × (len < 2 ^ 32) × (to < 2 ^ 32)

-- only a fault leaves the pages as they are
abbrev pub reads : SpaceCall → Bool
reads (Map start len prot) = false
reads (MapAny len prot) = false
reads (MapNew start len prot) = false
reads (Unmap start len) = false
reads (Protect start len prot) = false
reads (Populate start len prot) = false
reads (Fault page access) = true
reads (Remap start len to) = false

-- the words of a call in a mode
abbrev pub words_of_call : SpaceCall → Mode → CallWords
words_of_call (Map start len prot) mode = words_of 1 start len prot 0 (mode_number mode)
words_of_call (MapAny len prot) mode = words_of 2 len 0 prot 0 (mode_number mode)
words_of_call (MapNew start len prot) mode = words_of 3 start len prot 0 (mode_number mode)
words_of_call (Unmap start len) mode = words_of 4 start len 0 0 (mode_number mode)
words_of_call (Protect start len prot) mode = words_of 5 start len prot 0 (mode_number mode)
words_of_call (Populate start len prot) mode = words_of 6 start len prot 0 (mode_number mode)
words_of_call (Fault page access) mode = words_of 7 page 0 0 access (mode_number mode)
words_of_call (Remap start len to) mode = with_third (words_of 13 start len 0 0 (mode_number mode)) to

-- a valid call, whose words in some mode these are
abbrev pub IsCallOf : CallWords → SpaceCall → Type 0
IsCallOf words call = IsCall call × ((mode : Mode) × (words_of_call call mode ≡ words))

-- the call, if the test holds
abbrev pub call_if : Bool → SpaceCall → Option SpaceCall
call_if test call = if test then Some call else None

-- the call of this kind, if there is one with these numbers, protection and access
abbrev pub call_with : (kind first second prot access : ℕ) → Option SpaceCall
call_with kind first second prot access =
    let with_prot = nat_lt second (2 ^ 32) && nat_lt prot 8 && (access == 0) in
    if kind == 1 then call_if with_prot (Map first second prot)
    else if kind == 2 then call_if (with_prot && (second == 0)) (MapAny first prot)
    else if kind == 3 then call_if with_prot (MapNew first second prot)
    else if kind == 4 then call_if (with_prot && (prot == 0)) (Unmap first second)
    else if kind == 5 then call_if with_prot (Protect first second prot)
    else if kind == 6 then call_if with_prot (Populate first second prot)
    else if kind == 7 then call_if ((second == 0) && (prot == 0) && ((access == 1) || (access == 2) || (access == 4))) (Fault first access)
    else None

-- the remap of these numbers, with no protection and no access
abbrev pub remap_with : (first second third prot access : ℕ) → Option SpaceCall
remap_with first second third prot access =
    call_if (nat_lt second (2 ^ 32) && nat_lt third (2 ^ 32) && (prot == 0) && (access == 0)) (Remap first second third)

-- the call of this kind with three numbers: only a remap has the third
abbrev pub call_in : (kind first second third prot access : ℕ) → Option SpaceCall
call_in kind first second third prot access =
    if kind == 13 then remap_with first second third prot access
    else if third == 0 then call_with kind first second prot access
    else None

-- the call whose words in some mode these are
abbrev pub call_of : CallWords → Option SpaceCall
call_of w = if has_mode w then call_in (kind_in w) (first_in w) (second_in w) (third_in w) (prot_in w) (access_in w) else None

-- the words that store a space are those of its runs
abbrev pub stores : PageMap → List ℕ
stores m = words_of_areas (runs m)

-- the words that store a space
abbrev pub AreSpaceWords : List ℕ → Type 0
AreSpaceWords words = (m : PageMap) × IsPageMap m × (stores m ≡ words)

-- among the runs of the pages the one that has this page, and none exactly where the page is unmapped
abbrev pub IsRunAt : List Area → PageMap → ℕ → Option Area → Type 0
IsRunAt areas m page None = m page ≡ None
IsRunAt areas m page (Some run) = Contains areas run × (run.start ≤ page) × (page < run.end) × (m page ≡ Some run.prot)

-- an address space
abbrev pub space : Obj SpaceCall
space = record {
  State = PageMap;
  IsState = IsPageMap;
  empty = no_pages;
  IsCall = IsCall;
  call_of = call_of;
  reads = reads;
  meaning = meaning;
  stores = stores;
  Represents = λ m words. words ≡ stores m;
}
