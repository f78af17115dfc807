-- The first call on an object, step by step from the last call to the first.
use Rattle.std.proofs.Common.{◌≡◌, ℕ, ◌+◌, ◌<◌, ◌≤◌, false, List, [], ◌∷◌, ◌++◌, length, get_or, sym, ap, ◌∙◌, arith, Some, ◌⊎◌, inl, inr}
use Rattle.std.specs.Prelude.{slice_get}
use Rattle.std.specs.Global.{Vec}
use Rattle.std.proofs.Math.ListN.{set}
use Rattle.std.proofs.Math.Seq.{get_or-append_seam}
use Rattle.std.proofs.lemmas.Bool.{cases_eq, eq-eqb, ne_eqb}
use Rattle.std.proofs.lemmas.Grind.{get_or-set_at}
use Rattle.std.proofs.lemmas.List.{get_or-set_other, get_or_append_left}
use Rattle.std.proofs.lemmas.Option.{same_Some, slice_get_within, slice_get-get_or, get_or_from_slice_get}
use Rattle.task_script.specs.declared.script.Line.{Line}
use Rattle.task_script.specs.Scripts.{is_on}
use Rattle.task_script.specs.Links.{IsFirstOn, HasLinks}

-- behind the last call none is on the object
pub first_at_end : (lines : List Line) (object : ℕ) → IsFirstOn lines object (length lines) (length lines)
first_at_end lines object = record {
  behind = omega arith;
  within = omega arith;
  others = λ n l from below at. absurd (omega arith);
  found = λ l at. let within = slice_get_within lines (length lines) l at in absurd (omega arith);
}

-- a call on the object is the first from its own place on
pub first_here : (lines : List Line) (n : ℕ) (l : Line) → slice_get lines n ≡ Some l → IsFirstOn lines l.object n n
first_here lines n l at = record {
  behind = omega arith;
  within = let within = slice_get_within lines n l at in omega arith;
  others = λ m k from below is. absurd (omega arith);
  found = λ k is. eq-eqb k.object l.object (ap (λ j. j.object) (same_Some k l (sym is ∙ at)));
}

-- a call on another object changes nothing
first_behind : (lines : List Line) (object n place : ℕ) (l : Line) → slice_get lines n ≡ Some l → (object ≡ l.object → ⊥) → IsFirstOn lines object (n + 1) place → IsFirstOn lines object n place
first_behind lines object n place l at other first = record {
  behind = let behind = first.behind in omega arith;
  within = first.within;
  others = λ m k from below is. go m k from below is (cases_eq m n);
  found = first.found;
}
  where
    go : (m : ℕ) (k : Line) → n ≤ m → m < place → slice_get lines m ≡ Some k → (m ≡ n) ⊎ (m ≡ n → ⊥) → is_on object k ≡ false
    go m k from below is (inl same) = ne_eqb k.object object (λ on. other (sym on ∙ ap (λ j. j.object) (same_Some k l (sym is ∙ ap (slice_get lines) same ∙ at))))
    go m k from below is (inr later) = first.others m k (omega arith) below is

-- the first calls on all objects, one call further in front
pub firsts_more : (lines : List Line) (firsts : List ℕ) (n : ℕ) (l : Line) → slice_get lines n ≡ Some l → l.object < length firsts → ((object : ℕ) → object < length firsts → IsFirstOn lines object (n + 1) (get_or firsts object 0))
    → (object : ℕ) → object < length firsts → IsFirstOn lines object n (get_or (set firsts l.object n) object 0)
firsts_more lines firsts n l at within first object below = go (cases_eq object l.object)
  where
    go : (object ≡ l.object) ⊎ (object ≡ l.object → ⊥) → IsFirstOn lines object n (get_or (set firsts l.object n) object 0)
    go (inl same) = rw (get_or-set_at firsts l.object object n 0 same within, same) (first_here lines n l at)
    go (inr other) = rw (get_or-set_other firsts l.object object n 0 other) (first_behind lines object n (get_or firsts object 0) l at other (first object below))

-- one more call is linked
pub links_more : (lines : List Line) (next : List ℕ) (n place : ℕ) (l : Line) → slice_get lines n ≡ Some l → n < length next → IsFirstOn lines l.object (n + 1) place
    → ((m : ℕ) (k : Line) → n + 1 ≤ m → slice_get lines m ≡ Some k → IsFirstOn lines k.object (m + 1) (get_or next m 0))
    → (m : ℕ) (k : Line) → n ≤ m → slice_get lines m ≡ Some k → IsFirstOn lines k.object (m + 1) (get_or (set next n place) m 0)
links_more lines next n place l at within first linked m k from is = go (cases_eq m n)
  where
    go : (m ≡ n) ⊎ (m ≡ n → ⊥) → IsFirstOn lines k.object (m + 1) (get_or (set next n place) m 0)
    go (inl same) =
        let own = same_Some k l (sym is ∙ ap (slice_get lines) same ∙ at) in
        rw (get_or-set_at next n m place 0 same within, own, same) first
    go (inr other) = rw (get_or-set_other next n m place 0 other) (linked m k (omega arith) is)

-- one more task's calls are linked
pub tasks_more : (tasks : List (Vec Line)) (links : List (Vec ℕ)) (here : Vec Line) (own : Vec ℕ) → slice_get tasks (length links) ≡ Some here → HasLinks here.items own.items
    → ((task : ℕ) (lines : Vec Line) (next : Vec ℕ) → task < length links → slice_get tasks task ≡ Some lines → slice_get links task ≡ Some next → HasLinks lines.items next.items)
    → (task : ℕ) (lines : Vec Line) (next : Vec ℕ) → task < length links + 1 → slice_get tasks task ≡ Some lines → slice_get (links ++ own ∷ []) task ≡ Some next → HasLinks lines.items next.items
tasks_more tasks links here own at has linked task lines next within is found = go (cases_eq task (length links))
  where
    go : (task ≡ length links) ⊎ (task ≡ length links → ⊥) → HasLinks lines.items next.items
    go (inl last) =
        let same_lines = same_Some lines here (sym is ∙ ap (slice_get tasks) last ∙ at) in
        let same_next = sym (get_or_from_slice_get (links ++ own ∷ []) task next own found) ∙ ap (λ n. get_or (links ++ own ∷ []) n own) last ∙ get_or-append_seam links own [] own in
        rw (same_lines, same_next) has
    go (inr other) =
        let below : task < length links = omega (arith, within) in
        linked task lines next below is (slice_get-get_or links task own below ∙ ap Some (sym (get_or_append_left links (own ∷ []) own task below) ∙ get_or_from_slice_get (links ++ own ∷ []) task next own found))
