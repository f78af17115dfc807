-- What it means that a range of pages moves.
use Rattle.std.specs.Prelude.{◌≡◌, ℕ, ◌+◌, ◌-◌, ◌<◌, ◌≤◌, nat_lt, true, false, length, None, Result, Ok, Err, ◌⊎◌, if◌then◌else◌}
use Rattle.word_bits.specs.PageMaps.{PageMap, runs}
use Rattle.vma_map.specs.Spaces.{is_mapped}
use Rattle.word_bits.specs.declared.reply.Errno.{Errno}
use Rattle.word_bits.specs.declared.reply.Errno.TheVariants.{NoMem, Inval, Fault}

-- two ranges of so many pages, at least one, are within the space and have no page in common
pub record AreApart (start len to : ℕ) : Type 0 where
  pub some : 0 < len
  pub source : start + len ≤ 1048576
  pub target : to + len ≤ 1048576
  pub apart : (start + len ≤ to) ⊎ (to + len ≤ start)

-- the page is in front of the range or behind it
abbrev pub IsOutside : (start len page : ℕ) → Type 0
IsOutside start len page = (page < start) ⊎ (start + len ≤ page)

-- the pages of the range at one start have gone to that at another, whatever was there
pub record IsMoved (m : PageMap) (start len to : ℕ) (next : PageMap) : Type 0 where
  pub target : (i : ℕ) → i < len → next (to + i) ≡ m (start + i)
  pub source : (i : ℕ) → i < len → next (start + i) ≡ None
  pub others : (page : ℕ) → IsOutside start len page → IsOutside to len page → next page ≡ m page

-- how a remap of these pages ends
abbrev pub IsRemapAnswer : PageMap → (start len to : ℕ) → Result ℕ Errno → Type 0
IsRemapAnswer m start len to (Ok page) =
    AreApart start len to × (is_mapped m start len ≡ true) × (page ≡ to)
IsRemapAnswer m start len to (Err Inval) = AreApart start len to → ⊥
IsRemapAnswer m start len to (Err Fault) =
    AreApart start len to × (is_mapped m start len ≡ false)
IsRemapAnswer m start len to (Err NoMem) =
    AreApart start len to × (is_mapped m start len ≡ true)
    × ((next : PageMap) → IsMoved m start len to next → 256 < length (runs next))
IsRemapAnswer m start len to (Err other) = ⊥

-- up to a page these pages, then those of a range of others, and no more
abbrev pub with_moved : PageMap → PageMap → (from end to : ℕ) → PageMap
with_moved m others from end to page =
    if nat_lt page to then m page
    else if nat_lt page (to + (end - from)) then others (from + (page - to))
    else None
