-- The two earliest positions of cursors.
use Rattle.std.proofs.Common.{◌≡◌, ℕ, ◌+◌, ◌<◌, ◌≤◌, min, max, List, get_or, ◌⊎◌, inl, inr, ap, arith}
use Rattle.std.proofs.lemmas.Bool.{cases_lt, cases_eq}
use Rattle.mm_report.specs.declared.cursor.Cursor.{Cursor}
use Rattle.mm_report.specs.Cursors.{no_cursor, earliest}

-- of the first cursors none is before the least position, and only one before the second
pub record AreEarliest (cursors : List Cursor) (count least second : ℕ) : Type 0 where
  pub one : ℕ
  pub others : (task : ℕ) → (task ≡ one → ⊥) → task < count → second ≤ earliest (get_or cursors task no_cursor).position
  pub all : (task : ℕ) → task < count → least ≤ earliest (get_or cursors task no_cursor).position

-- with one more cursor
pub AreEarliest-more : (cursors : List Cursor) (i least second p : ℕ) → p ≡ earliest (get_or cursors i no_cursor).position → AreEarliest cursors i least second → AreEarliest cursors (i + 1) (min least p) (min second (max p least))
AreEarliest-more cursors i least second p is so_far = go (cases_lt p least)
  where
    all : (task : ℕ) → task < i + 1 → (task ≡ i) ⊎ (task ≡ i → ⊥) → min least p ≤ earliest (get_or cursors task no_cursor).position
    all task below (inl here) = let same = ap (λ k. earliest (get_or cursors k no_cursor).position) here in omega arith
    all task below (inr there) = let before = so_far.all task (omega arith) in omega arith

    go : (p < least) ⊎ (least ≤ p) → AreEarliest cursors (i + 1) (min least p) (min second (max p least))
    go (inl first) = record {
      one = i;
      others = λ task other below. let before = so_far.all task (omega arith) in omega arith;
      all = λ task below. all task below (cases_eq task i);
    }
    go (inr later) = record {
      one = so_far.one;
      others = λ task other below. others task other below (cases_eq task i);
      all = λ task below. all task below (cases_eq task i);
    }
      where
        others : (task : ℕ) → (task ≡ so_far.one → ⊥) → task < i + 1 → (task ≡ i) ⊎ (task ≡ i → ⊥) → min second (max p least) ≤ earliest (get_or cursors task no_cursor).position
        others task other below (inl here) = let same = ap (λ k. earliest (get_or cursors k no_cursor).position) here in omega arith
        others task other below (inr there) = let before = so_far.others task other (omega arith) in omega arith
