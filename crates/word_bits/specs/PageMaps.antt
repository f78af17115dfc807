-- An address space, page by page.
use Rattle.std.specs.Prelude.{◌≡◌, ℕ, ◌+◌, ◌<◌, ◌≤◌, ◌==◌, ◌&&◌, zero, suc, List, [], ◌∷◌, length, Option, Some, None, IfSome, if◌then◌else◌}
use Rattle.word_bits.specs.declared.area.Area.{Area}

-- what protection each page has, where it is mapped
abbrev pub PageMap : Type 0
PageMap = ℕ → Option ℕ

abbrev pub no_pages : PageMap
no_pages page = None

-- the runs, after a page in front of them
abbrev pub extended : ℕ → Option ℕ → List Area → List Area
extended page None runs = runs
extended page (Some prot) [] = record { start = page; end = page + 1; prot = prot } ∷ []
extended page (Some prot) (r ∷ runs) =
    if (r.start == page + 1) && (r.prot == prot) then record { start = page; end = r.end; prot = prot } ∷ runs
    else record { start = page; end = page + 1; prot = prot } ∷ (r ∷ runs)

-- the maximal runs of equal protection among so many pages from a page on, ascending
unfoldable pub runs_from : PageMap → ℕ → ℕ → List Area
runs_from m page zero = []
runs_from m page (suc count) = extended page (m page) (runs_from m (page + 1) count)

-- of all pages
unfoldable pub runs : PageMap → List Area
runs m = runs_from m 0 1048576

-- how many of so many pages from a page on are mapped
unfoldable pub mapped_from : PageMap → ℕ → ℕ → ℕ
mapped_from m page zero = 0
mapped_from m page (suc count) = one (m page) + mapped_from m (page + 1) count
  where
    one : Option ℕ → ℕ
    one None = 0
    one (Some prot) = 1

pub record IsPageMap (m : PageMap) : Type 0 where
  pub within : (page : ℕ) → 1048576 ≤ page → m page ≡ None
  pub prots : (page : ℕ) → IfSome (m page) (λ prot. prot < 8)
  pub few : length (runs m) ≤ 256
