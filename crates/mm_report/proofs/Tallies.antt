-- Calls that are counted object by object.
use Rattle.std.proofs.Common.{◌≡◌, ℕ, ◌+◌, ◌<◌, true, false, List, length, take, get_or, ap, ◌∙◌, arith, ◌⊎◌, inl, inr}
use Rattle.std.specs.Prelude.{count_by}
use Rattle.std.proofs.Math.ListN.{set}
use Rattle.std.proofs.lemmas.Bool.{cases_eq}
use Rattle.std.proofs.lemmas.Bool.Decides.{nat_tests}
use Rattle.std.proofs.lemmas.Grind.{get_or-set_at}
use Rattle.std.proofs.lemmas.List.{get_or-set_other}
use Rattle.std.proofs.lemmas.List.Sums.{count_by_more_yes, count_by_more_no}
use Rattle.task_script.specs.Scripts.{is_on}
use Rattle.mm_report.specs.Results.{AddsCalls}
use Rattle.mm_report.specs.Types.{Line}

-- one more call is counted on its object
pub one_more_call : (lines : List Line) (i : ℕ) (d : Line) (old now : List ℕ) (count : ℕ) → i < length lines → length now ≡ 32 → (get_or lines i d).object < 32 → count ≡ get_or now (get_or lines i d).object 0 + 1 → AddsCalls (take i lines) old now
    → AddsCalls (take (i + 1) lines) old (set now (get_or lines i d).object count)
one_more_call lines i d old now count within all fits is so_far object below = go (cases_eq object (get_or lines i d).object)
  where
    go : (object ≡ (get_or lines i d).object) ⊎ (object ≡ (get_or lines i d).object → ⊥) → get_or (set now (get_or lines i d).object count) object 0 ≡ get_or old object 0 + count_by (is_on object) (take (i + 1) lines)
    go (inl same) =
        let on : is_on object (get_or lines i d) ≡ true = grind (arith, nat_tests) in
        let more = count_by_more_yes (is_on object) lines i d within on in
        let before = so_far object below in
        let here = ap (λ k. get_or now k 0) same in
        get_or-set_at now (get_or lines i d).object object count 0 same (omega arith) ∙ omega arith
    go (inr other) =
        let off : is_on object (get_or lines i d) ≡ false = grind (arith, nat_tests) in
        let more = count_by_more_no (is_on object) lines i d within off in
        let before = so_far object below in
        get_or-set_other now (get_or lines i d).object object count 0 other ∙ omega arith
