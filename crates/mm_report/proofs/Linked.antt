-- Between a call and the next one on the same object no other is on it.
use Rattle.std.proofs.Common.{◌≡◌, ℕ, ◌+◌, ◌-◌, ◌<◌, ◌≤◌, zero, suc, List, length, get_or, sym, ap, ◌∙◌, subst, arith}
use Rattle.std.proofs.lemmas.List.Sums.{count_by_more_no}
use Rattle.std.proofs.lemmas.Option.{slice_get-get_or}
use Rattle.task_script.specs.Scripts.{is_on}
use Rattle.task_script.specs.Links.{IsFirstOn, HasLinks}
use Rattle.mm_report.specs.Cursors.{calls_before}
use Rattle.mm_report.specs.Types.{Line}

none_between : (object : ℕ) (lines : List Line) (from place : ℕ) (d : Line) → IsFirstOn lines object from place → (count : ℕ) → from + count ≤ place → calls_before object lines (from + count) ≡ calls_before object lines from
none_between object lines from place d first zero within = let same : from + 0 ≡ from = omega arith in ap (calls_before object lines) same
none_between object lines from place d first (suc count) within =
    let all = first.within in
    let here : from + count < length lines = omega arith in
    let off = first.others (from + count) (get_or lines (from + count) d) (omega arith) (omega arith) (slice_get-get_or lines (from + count) d here) in
    let next : from + suc count ≡ from + count + 1 = omega arith in
    ap (calls_before object lines) next ∙ count_by_more_no (is_on object) lines (from + count) d here off ∙ none_between object lines from place d first count (omega arith)

-- what the link of a call on an object says
pub record IsNextPlace (object : ℕ) (lines : List Line) (n place : ℕ) : Type 0 where
  pub further : n < place
  pub within : place ≤ length lines
  pub before : calls_before object lines place ≡ calls_before object lines (n + 1)

pub next_place : (object : ℕ) (lines : List Line) (links : List ℕ) (n : ℕ) (d : Line) → HasLinks lines links → n < length lines → (get_or lines n d).object ≡ object → IsNextPlace object lines n (get_or links n 0)
next_place object lines links n d has within on =
    let place = get_or links n 0 in
    let first : IsFirstOn lines object (n + 1) place = subst (λ o. IsFirstOn lines o (n + 1) place) on (has.linked n (get_or lines n d) (slice_get-get_or lines n d within)) in
    let behind = first.behind in
    let whole : n + 1 + (place - (n + 1)) ≡ place = omega arith in record {
      further = omega arith;
      within = first.within;
      before = ap (calls_before object lines) (sym whole) ∙ none_between object lines (n + 1) place d first (place - (n + 1)) (omega arith);
    }
