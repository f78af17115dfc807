-- What is told object by object.
use Rattle.std.proofs.Common.{◌≡◌, ℕ, ◌+◌, Bool, zero, suc, List, [], ◌∷◌, ◌++◌, length, drop, refl, sym, ap, ◌∙◌, subst, arith, append_assoc, add-zero, Some}
use Rattle.std.specs.Prelude.{slice_get}
use Rattle.std.proofs.lemmas.Option.{same_Some}
use Rattle.word_bits.specs.Snapshots.{Words}
use Rattle.word_bits.specs.Legal.{Tells}
use Rattle.task_script.specs.Scripts.{Declared, Listing, plan_of}
use Rattle.mm_report.specs.Results.{Told, IsLegalOn, AreLegalFrom, AreCompleteFrom, calls_on}
use Rattle.mm_report.specs.Reports.{object_report, report_from}
use Rattle.mm_report.proofs.Reserved.{drop_at}

-- there are as many snapshots as objects
pub complete_length : (s : Listing) (object : ℕ) (ds : List Declared) (ws : List Words) → AreCompleteFrom s object ds ws → length ws ≡ length ds
complete_length s object [] [] complete = refl
complete_length s object [] (w ∷ ws) complete = absurd complete
complete_length s object (d ∷ ds) [] complete = absurd complete
complete_length s object (d ∷ ds) (w ∷ ws) complete = ap suc (complete_length s (object + 1) ds ws complete.1)

-- each of which has a record of each call
pub complete_at : (s : Listing) (object i : ℕ) (ds : List Declared) (ws : List Words) (w : Words) → AreCompleteFrom s object ds ws → slice_get ws i ≡ Some w → length w.recs ≡ calls_on s (object + i)
complete_at s object i [] [] w complete at = cc
complete_at s object i [] (v ∷ ws) w complete at = absurd complete
complete_at s object i (d ∷ ds) [] w complete at = absurd complete
complete_at s object zero (d ∷ ds) (v ∷ ws) w complete at = ap (λ (u : Words). length u.recs) (sym (same_Some v w at)) ∙ complete.0 ∙ ap (calls_on s) (sym (add-zero object))
complete_at s object (suc i) (d ∷ ds) (v ∷ ws) w complete at =
    let later : object + 1 + i ≡ object + suc i = omega arith in
    complete_at s (object + 1) i ds ws w complete.1 at ∙ ap (calls_on s) later

-- what is legal of an object and of those behind it
pub record IsStep (s : Listing) (object : ℕ) (d : Declared) (w : Words) (rest_objects : List Declared) (rest_words : List Words) (told : List Told) : Type 0 where
  pub here : Told
  pub behind : List Told
  pub is : told ≡ here ∷ behind
  pub tells : Tells w here.records here.log
  pub legal : IsLegalOn d.is_space (plan_of s object) here w.state
  pub rest : AreLegalFrom s (object + 1) rest_objects rest_words behind

-- of objects that are left the first is legal, and so are those behind it
step_of : (s : Listing) (object : ℕ) (d : Declared) (ds : List Declared) (w : Words) (ws : List Words) (told : List Told) → AreLegalFrom s object (d ∷ ds) (w ∷ ws) told → IsStep s object d w ds ws told
step_of s object d ds w ws [] legal = absurd legal
step_of s object d ds w ws (t ∷ ts) legal = record { here = t; behind = ts; is = refl; tells = legal.0; legal = legal.1; rest = legal.2 }

-- the same at an object's place
pub step_at : (s : Listing) (object : ℕ) (ds : List Declared) (ws : List Words) (told : List Told) (d : Declared) (w : Words) → slice_get ds object ≡ Some d → slice_get ws object ≡ Some w
    → AreLegalFrom s object (drop object ds) (drop object ws) told → IsStep s object d w (drop (object + 1) ds) (drop (object + 1) ws) told
step_at s object ds ws told d w at-d at-w legal =
    step_of s object d (drop (object + 1) ds) w (drop (object + 1) ws) told
    (subst (λ us. AreLegalFrom s object (d ∷ drop (object + 1) ds) us told) (drop_at ws object w at-w) (subst (λ es. AreLegalFrom s object es (drop object ws) told) (drop_at ds object d at-d) legal))

-- what is behind the first of what is left
pub behind_at : {X : Type 0} (xs : List X) (i : ℕ) (x : X) (rest : List X) → drop i xs ≡ x ∷ rest → drop (i + 1) xs ≡ rest
behind_at [] zero x rest is = cc
behind_at [] (suc i) x rest is = cc
behind_at (y ∷ ys) zero x rest is = cc
behind_at (y ∷ ys) (suc i) x rest is = let e : suc (i + 1) ≡ suc i + 1 = omega arith in ap (λ n. drop n (y ∷ ys)) (sym e) ∙ behind_at ys i x rest is

-- what is said of an object, and of those behind it
pub report_step : (summary : Bool) (s : Listing) (object : ℕ) (ds : List Declared) (d : Declared) (t : Told) (ts : List Told) → slice_get ds object ≡ Some d
    → report_from summary s object (drop object ds) (t ∷ ts) ≡ object_report summary s object d t ++ report_from summary s (object + 1) (drop (object + 1) ds) ts
report_step summary s object ds d t ts at = ap (λ es. report_from summary s object es (t ∷ ts)) (drop_at ds object d at)

-- what was written, what is said of an object and of those behind it are all
pub report_split : (summary : Bool) (s : Listing) (object : ℕ) (ds : List Declared) (d : Declared) (t : Told) (ts told : List Told) (done all : List ℕ) → slice_get ds object ≡ Some d → told ≡ t ∷ ts
    → done ++ report_from summary s object (drop object ds) told ≡ all → (done ++ object_report summary s object d t) ++ report_from summary s (object + 1) (drop (object + 1) ds) ts ≡ all
report_split summary s object ds d t ts told done all at is whole =
    append_assoc done (object_report summary s object d t) (report_from summary s (object + 1) (drop (object + 1) ds) ts)
    ∙ ap (λ l. done ++ l) (sym (report_step summary s object ds d t ts at) ∙ ap (report_from summary s object (drop object ds)) (sym is)) ∙ whole
