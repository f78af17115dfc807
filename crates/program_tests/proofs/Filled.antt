-- Results that are filled object by object, as tests do.
use Rattle.std.proofs.Common.{◌≡◌, ℕ, ◌+◌, ◌<◌, ◌≤◌, Bool, zero, suc, List, [], ◌∷◌, length, map, refl, sym, ap, ◌∙◌, arith, Some}
use Rattle.std.specs.Prelude.{slice_get}
use Rattle.std.proofs.Math.ListN.{set}
use Rattle.std.proofs.lemmas.Option.{same_Some}
use Rattle.word_bits.specs.Snapshots.{Words, no_words}
use Rattle.task_script.specs.Scripts.{Declared, Listing}
use Rattle.mm_report.specs.Results.{AreCompleteFrom, empty_from, calls_on, words_of_kind}

-- the object is among those that are filled, or nothing stands in its words yet
pub record IsFilled (s : Listing) (next object : ℕ) (d : Declared) (w : Words) : Type 0 where
  pub done : object < next → length w.recs ≡ calls_on s object
  pub fresh : next ≤ object → w ≡ no_words (calls_on s object) (calls_on s object) (words_of_kind d.is_space)

abbrev pub AreFilled : Listing → (next object : ℕ) → List Declared → List Words → Type 0
AreFilled s next object [] [] = Unit {0}
AreFilled s next object [] (w ∷ ws) = ⊥
AreFilled s next object (d ∷ ds) [] = ⊥
AreFilled s next object (d ∷ ds) (w ∷ ws) = IsFilled s next object d w × AreFilled s next (object + 1) ds ws

-- at first none is
pub filled_none : (s : Listing) (object : ℕ) (ds : List Declared) → AreFilled s 0 object ds (empty_from s object ds)
filled_none s object [] = tt
filled_none s object (d ∷ ds) = (record { done = λ before. absurd (omega arith); fresh = λ from. refl }, filled_none s (object + 1) ds)

pub filled_length : (s : Listing) (next object : ℕ) (ds : List Declared) (ws : List Words) → AreFilled s next object ds ws → length ws ≡ length ds
filled_length s next object [] [] filled = refl
filled_length s next object [] (w ∷ ws) filled = absurd filled
filled_length s next object (d ∷ ds) [] filled = absurd filled
filled_length s next object (d ∷ ds) (w ∷ ws) filled = ap suc (filled_length s next (object + 1) ds ws filled.1)

-- in the next one nothing stands
pub filled_fresh : (s : Listing) (next object : ℕ) (ds : List Declared) (ws : List Words) (i : ℕ) (w : Words) (is_space : Bool) → next ≡ object + i → AreFilled s next object ds ws → slice_get ws i ≡ Some w → slice_get (map (λ d. d.is_space) ds) i ≡ Some is_space
    → w ≡ no_words (calls_on s next) (calls_on s next) (words_of_kind is_space)
filled_fresh s next object [] ws i w is_space at filled at-w kind = cc
filled_fresh s next object (d ∷ ds) [] i w is_space at filled at-w kind = absurd filled
filled_fresh s next object (d ∷ ds) (v ∷ ws) zero w is_space at filled at-w kind =
    let here : object ≡ next = omega arith in
    sym (same_Some v w at-w) ∙ filled.0.fresh (omega arith) ∙ ap (λ n. no_words (calls_on s n) (calls_on s n) (words_of_kind d.is_space)) here ∙ ap (λ b. no_words (calls_on s next) (calls_on s next) (words_of_kind b)) (same_Some d.is_space is_space kind)
filled_fresh s next object (d ∷ ds) (v ∷ ws) (suc i) w is_space at filled at-w kind = filled_fresh s next (object + 1) ds ws i w is_space (omega arith) filled.1 at-w kind

-- those behind it stay as they are
filled_later : (s : Listing) (next object : ℕ) (ds : List Declared) (ws : List Words) → next < object → AreFilled s next object ds ws → AreFilled s (next + 1) object ds ws
filled_later s next object [] [] later filled = tt
filled_later s next object [] (w ∷ ws) later filled = filled
filled_later s next object (d ∷ ds) [] later filled = filled
filled_later s next object (d ∷ ds) (w ∷ ws) later filled =
    (record { done = λ before. absurd (omega arith); fresh = λ from. filled.0.fresh (omega arith) }, filled_later s next (object + 1) ds ws (omega arith) filled.1)

-- one more is filled
pub filled_more : (s : Listing) (next object : ℕ) (ds : List Declared) (ws : List Words) (i : ℕ) (w : Words) → next ≡ object + i → i < length ds → AreFilled s next object ds ws → length w.recs ≡ calls_on s next → AreFilled s (next + 1) object ds (set ws i w)
filled_more s next object [] ws i w at within filled each = absurd (omega arith)
filled_more s next object (d ∷ ds) [] i w at within filled each = absurd filled
filled_more s next object (d ∷ ds) (v ∷ ws) zero w at within filled each =
    let here : next ≡ object = omega arith in
    (record { done = λ before. each ∙ ap (calls_on s) here; fresh = λ from. absurd (omega arith) }, filled_later s next (object + 1) ds ws (omega arith) filled.1)
filled_more s next object (d ∷ ds) (v ∷ ws) (suc i) w at within filled each =
    (record { done = λ before. filled.0.done (omega arith); fresh = λ from. absurd (omega arith) }, filled_more s next (object + 1) ds ws i w (omega arith) (omega arith) filled.1 each)

-- where all are, the results are complete
pub filled_all : (s : Listing) (next object : ℕ) (ds : List Declared) (ws : List Words) → object + length ds ≤ next → AreFilled s next object ds ws → AreCompleteFrom s object ds ws
filled_all s next object [] [] all filled = tt
filled_all s next object [] (w ∷ ws) all filled = filled
filled_all s next object (d ∷ ds) [] all filled = filled
filled_all s next object (d ∷ ds) (w ∷ ws) all filled = (filled.0.done (omega arith), filled_all s next (object + 1) ds ws (omega arith) filled.1)
