-- What a remap means, by what the ranges are.
use Rattle.std.proofs.Common.{◌≡◌, ℕ, ◌+◌, ◌-◌, ◌<◌, ◌≤◌, ◌==◌, ◌||◌, leb, length, refl, cond, None, ◌⊎◌, inl, inr, sym, ap, ◌∙◌, arith}
use Rattle.std.specs.Prelude.{nat_lt, Bool, true, false, Ok, Err}
use Rattle.std.proofs.lemmas.Bool.Decides.{nat_tests}
use Rattle.word_bits.specs.PageMaps.{PageMap, runs}
use Rattle.word_bits.specs.declared.reply.Reply.{Reply}
use Rattle.word_bits.specs.declared.reply.Reply.TheVariants.{Num, Refused}
use Rattle.word_bits.specs.declared.reply.Errno.{Errno}
use Rattle.word_bits.specs.declared.reply.Errno.TheVariants.{BadF, NoMem, Exist, Inval, MFile, Fault}
use Rattle.vma_map.specs.Spaces.{changed, moved, share_page, is_mapped, unless_many, remapped}
use Rattle.vma_map.specs.Remaps.{AreApart, IsOutside, IsMoved, IsRemapAnswer}
use Rattle.vma_map.specs.Laws.Area.{changed-in, changed-below, changed-above}
use Rattle.vma_map.proofs.MoveLemmas.{IsMoved-unique}

-- a page of the range that the pages go to
moved-in : (m : PageMap) (start len to page : ℕ) → to ≤ page → page < to + len → moved m start len to page ≡ m (start + (page - to))
moved-in m start len to page low high = grind (arith, nat_tests)

-- a page outside of it
moved-outside : (m : PageMap) (start len to page : ℕ) → IsOutside to len page → moved m start len to page ≡ changed m start (start + len) None page
moved-outside m start len to page (inl low) = grind (arith, nat_tests)
moved-outside m start len to page (inr high) = grind (arith, nat_tests)

-- a page outside of a changed range
changed-outside : (m : PageMap) (start len page : ℕ) → IsOutside start len page → changed m start (start + len) None page ≡ m page
changed-outside m start len page (inl low) = changed-below m start (start + len) None page low
changed-outside m start len page (inr high) = changed-above m start (start + len) None page high

-- a page of the one range isn't in the other
outside-other : (start len to i : ℕ) → (start + len ≤ to) ⊎ (to + len ≤ start) → i < len → IsOutside to len (start + i)
outside-other start len to i (inl low) below = inl (omega (arith, low, below))
outside-other start len to i (inr high) below = inr (omega (arith, high))

-- what a move leaves is moved
pub IsMoved-moved : (m : PageMap) (start len to : ℕ) → AreApart start len to → IsMoved m start len to (moved m start len to)
IsMoved-moved m start len to apart = record {
  target = λ i below. moved-in m start len to (to + i) (omega arith) (omega (arith, below)) ∙ ap m (omega arith);
  source = λ i below. moved-outside m start len to (start + i) (outside-other start len to i apart.apart below) ∙ changed-in m start (start + len) None (start + i) (omega arith) (omega (arith, below));
  others = λ page s t. moved-outside m start len to page t ∙ changed-outside m start len page s;
}

-- ranges apart pass all tests of ranges
apart-tests : (start len to : ℕ) → AreApart start len to → (((len == 0) || nat_lt 1048576 (start + len)) ≡ false) × (((len == 0) || nat_lt 1048576 (to + len)) ≡ false) × (share_page start to len ≡ false)
apart-tests start len to apart = go apart.some apart.source apart.target apart.apart
  where
    go : 0 < len → start + len ≤ 1048576 → to + len ≤ 1048576 → (start + len ≤ to) ⊎ (to + len ≤ start) → (((len == 0) || nat_lt 1048576 (start + len)) ≡ false) × (((len == 0) || nat_lt 1048576 (to + len)) ≡ false) × (share_page start to len ≡ false)
    go some source target (inl low) = (grind (arith, nat_tests), grind (arith, nat_tests), grind (arith, nat_tests))
    go some source target (inr high) = (grind (arith, nat_tests), grind (arith, nat_tests), grind (arith, nat_tests))

-- of ranges apart the tests of pages are left
remapped-apart : (m : PageMap) (start len to : ℕ) → AreApart start len to → remapped m start len to ≡ cond (is_mapped m start len) (unless_many m (moved m start len to) (Num to)) (m, Refused Fault)
remapped-apart m start len to apart = let t = apart-tests start len to apart in rw (t.0, t.1, t.2) refl

-- ranges that pass all tests are apart
tests-apart : (start len to : ℕ) → ((len == 0) || nat_lt 1048576 (start + len)) ≡ false → ((len == 0) || nat_lt 1048576 (to + len)) ≡ false → share_page start to len ≡ false → AreApart start len to
tests-apart start len to s t u = record {
  some = grind (arith, nat_tests);
  source = grind (arith, nat_tests);
  target = grind (arith, nat_tests);
  apart = grind (arith, nat_tests);
}

-- other ranges are refused
remapped-invalid : (m : PageMap) (start len to : ℕ) → (AreApart start len to → ⊥) → remapped m start len to ≡ (m, Refused Inval)
remapped-invalid m start len to meet =
    go ((len == 0) || nat_lt 1048576 (start + len)) ((len == 0) || nat_lt 1048576 (to + len)) (share_page start to len) (λ s t u. meet (tests-apart start len to s t u))
  where
    rest : PageMap × Reply
    rest = cond (is_mapped m start len) (unless_many m (moved m start len to) (Num to)) (m, Refused Fault)

    go : (s t u : Bool) → (s ≡ false → t ≡ false → u ≡ false → ⊥) → cond s (m, Refused Inval) (cond t (m, Refused Inval) (cond u (m, Refused Inval) rest)) ≡ (m, Refused Inval)
    go true t u some = refl
    go false true u some = refl
    go false false true some = refl
    go false false false some = absurd (some refl refl refl)

-- a remap that is done means the pages that it left
pub remapped-ok : (m next : PageMap) (start len to page : ℕ) → IsRemapAnswer m start len to (Ok page) → IsMoved m start len to next → length (runs next) ≤ 256 → remapped m start len to ≡ (next, Num page)
remapped-ok m next start len to page (apart, mapped, at) is few =
    let same : next ≡ moved m start len to = IsMoved-unique m next (moved m start len to) start len to is (IsMoved-moved m start len to apart) in
    let e = remapped-apart m start len to apart in
    let fits : leb (length (runs next)) 256 ≡ true = grind (arith, nat_tests) in
    e ∙ ap (λ test. cond test (unless_many m (moved m start len to) (Num to)) (m, Refused Fault)) mapped ∙ ap (λ n. unless_many m n (Num to)) (sym same) ∙ ap (λ test. cond test (next, Num to) (m, Refused NoMem)) fits ∙ ap (λ n. (next, Num n)) (sym at)

-- one that is refused means its error
pub remapped-err : (m : PageMap) (start len to : ℕ) (e : Errno) → IsRemapAnswer m start len to (Err e) → remapped m start len to ≡ (m, Refused e)
remapped-err m start len to Inval meet = remapped-invalid m start len to meet
remapped-err m start len to Fault (apart, hole) =
    remapped-apart m start len to apart ∙ ap (λ test. cond test (unless_many m (moved m start len to) (Num to)) (m, Refused Fault)) hole
remapped-err m start len to NoMem (apart, mapped, many) =
    let long = many (moved m start len to) (IsMoved-moved m start len to apart) in
    let fails : leb (length (runs (moved m start len to))) 256 ≡ false = grind (arith, nat_tests) in
    remapped-apart m start len to apart ∙ ap (λ test. cond test (unless_many m (moved m start len to) (Num to)) (m, Refused Fault)) mapped ∙ ap (λ test. cond test (moved m start len to, Num to) (m, Refused NoMem)) fails
remapped-err m start len to BadF e = absurd e
remapped-err m start len to Exist e = absurd e
remapped-err m start len to MFile e = absurd e
