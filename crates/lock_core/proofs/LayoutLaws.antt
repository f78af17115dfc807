-- Where a store goes: it changes one region of the words.
use Rattle.std.proofs.Common.{◌≡◌, ℕ, ◌+◌, ◌*◌, ◌<◌, List, length, set, arith, length-set, get_or-set_same, get_or-set_other}
use Rattle.std.proofs.lemmas.List.{take-set-le}
use Rattle.std.proofs.Math.Seq.{take-set-lt}
use Rattle.word_bits.specs.Histories.{Plan}
use Rattle.lock_core.specs.Plans.{calls_in}
use Rattle.lock_core.specs.Layout.{recs_at, calls_at, lay}
use Rattle.lock_core.specs.Regions.{part-in, part-above, part-below}
use Rattle.lock_core.specs.declared.layout.TheConstants.{ENTRIES_AT, LENGTH_AT, LINES_AT}
use Rattle.word_bits.specs.declared.TheConstants.{MAX_TASKS}

module _ (k : Plan) (s : List ℕ) where
  abbrev m : ℕ
  m = calls_in k

  pub lay-guarded : (i x : ℕ) → i < LINES_AT → lay k (set s i x) ≡ record (lay k s) { guarded = set (lay k s).guarded i x }
  lay-guarded i x l = λ z. record {
    wide = length-set s i x z;
    guarded = take-set-lt LINES_AT s i x l z;
    lines = part-above s LINES_AT (8 * MAX_TASKS) i x (omega arith) z;
    len = get_or-set_other s i LENGTH_AT x 0 (λ e. omega arith) z;
    entries = part-above s ENTRIES_AT m i x (omega arith) z;
    recs = part-above s (recs_at k) m i x (omega arith) z;
    calls = part-above s (calls_at k) (2 * m) i x (omega arith) z;
  }

  pub lay-lines : (i x : ℕ) → i < 8 * MAX_TASKS → lay k (set s (LINES_AT + i) x) ≡ record (lay k s) { lines = set (lay k s).lines i x }
  lay-lines i x l = λ z. record {
    wide = length-set s (LINES_AT + i) x z;
    guarded = take-set-le LINES_AT s (LINES_AT + i) x (omega arith) z;
    lines = part-in s LINES_AT (8 * MAX_TASKS) i x l z;
    len = get_or-set_other s (LINES_AT + i) LENGTH_AT x 0 (λ e. omega arith) z;
    entries = part-above s ENTRIES_AT m (LINES_AT + i) x (omega arith) z;
    recs = part-above s (recs_at k) m (LINES_AT + i) x (omega arith) z;
    calls = part-above s (calls_at k) (2 * m) (LINES_AT + i) x (omega arith) z;
  }

  pub lay-len : (x : ℕ) → LENGTH_AT < length s → lay k (set s LENGTH_AT x) ≡ record (lay k s) { len = x }
  lay-len x l = λ z. record {
    wide = length-set s LENGTH_AT x z;
    guarded = take-set-le LINES_AT s LENGTH_AT x (omega arith) z;
    lines = part-below s LINES_AT (8 * MAX_TASKS) LENGTH_AT x (omega arith) z;
    len = get_or-set_same s LENGTH_AT x 0 l z;
    entries = part-above s ENTRIES_AT m LENGTH_AT x (omega arith) z;
    recs = part-above s (recs_at k) m LENGTH_AT x (omega arith) z;
    calls = part-above s (calls_at k) (2 * m) LENGTH_AT x (omega arith) z;
  }

  pub lay-entries : (i x : ℕ) → i < m → lay k (set s (ENTRIES_AT + i) x) ≡ record (lay k s) { entries = set (lay k s).entries i x }
  lay-entries i x l = λ z. record {
    wide = length-set s (ENTRIES_AT + i) x z;
    guarded = take-set-le LINES_AT s (ENTRIES_AT + i) x (omega arith) z;
    lines = part-below s LINES_AT (8 * MAX_TASKS) (ENTRIES_AT + i) x (omega arith) z;
    len = get_or-set_other s (ENTRIES_AT + i) LENGTH_AT x 0 (λ e. omega arith) z;
    entries = part-in s ENTRIES_AT m i x l z;
    recs = part-above s (recs_at k) m (ENTRIES_AT + i) x (omega arith) z;
    calls = part-above s (calls_at k) (2 * m) (ENTRIES_AT + i) x (omega arith) z;
  }

  pub lay-recs : (i x : ℕ) → i < m → lay k (set s (recs_at k + i) x) ≡ record (lay k s) { recs = set (lay k s).recs i x }
  lay-recs i x l = λ z. record {
    wide = length-set s (recs_at k + i) x z;
    guarded = take-set-le LINES_AT s (recs_at k + i) x (omega arith) z;
    lines = part-below s LINES_AT (8 * MAX_TASKS) (recs_at k + i) x (omega arith) z;
    len = get_or-set_other s (recs_at k + i) LENGTH_AT x 0 (λ e. omega arith) z;
    entries = part-below s ENTRIES_AT m (recs_at k + i) x (omega arith) z;
    recs = part-in s (recs_at k) m i x l z;
    calls = part-above s (calls_at k) (2 * m) (recs_at k + i) x (omega arith) z;
  }
