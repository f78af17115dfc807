-- The words of a site: those of its table behind the words of the locks.
use Rattle.std.specs.Prelude.{ℕ, ◌+◌, ◌*◌, List, ◌++◌, length, take, drop, slice_index, replicate}
use Rattle.word_bits.specs.declared.TheConstants.{MAX_TASKS}
use Rattle.word_bits.specs.Histories.{Plan}
use Rattle.lock_core.specs.declared.layout.TheConstants.{LOCK_WORDS, LINES_AT, LENGTH_AT, ENTRIES_AT}
use Rattle.lock_core.specs.Plans.{calls_in, call_words, start}

pub record SiteWords : Type 0 where
  -- how many words there are
  pub wide : ℕ
  -- what the lock guards
  pub guarded : List ℕ
  -- 8 words for each task: whether its number is taken, the signals sent to it, and those that it consumed
  pub lines : List ℕ
  pub len : ℕ
  pub entries : List ℕ
  -- a word for each call, by task, then by number
  pub recs : List ℕ
  -- two words for each call
  pub calls : List ℕ

-- so many words from a place on
abbrev pub part : ℕ → ℕ → List ℕ → List ℕ
part a n ws = take n (drop a ws)

abbrev pub recs_at : Plan → ℕ
recs_at k = ENTRIES_AT + calls_in k

abbrev pub calls_at : Plan → ℕ
calls_at k = ENTRIES_AT + calls_in k + calls_in k

abbrev pub site_width : Plan → ℕ
site_width k = ENTRIES_AT + calls_in k + calls_in k + 2 * calls_in k

-- how many words the table has
abbrev pub width : Plan → ℕ
width k = LOCK_WORDS + site_width k

abbrev pub lay : Plan → List ℕ → SiteWords
lay k s = record {
  wide = length s;
  guarded = take LINES_AT s;
  lines = part LINES_AT (8 * MAX_TASKS) s;
  len = slice_index s LENGTH_AT;
  entries = part ENTRIES_AT (calls_in k) s;
  recs = part (recs_at k) (calls_in k) s;
  calls = part (calls_at k) (2 * calls_in k) s;
}

-- the site's words in those of a table
abbrev pub site : Plan → List ℕ → SiteWords
site k ws = lay k (drop LOCK_WORDS ws)

-- the word of the table that has the length of the log, and the one of its entry of this number
abbrev pub length_place : ℕ
length_place = LOCK_WORDS + LENGTH_AT

abbrev pub entry_place : ℕ → ℕ
entry_place j = LOCK_WORDS + (ENTRIES_AT + j)

-- the word of the table that has the record of a call
abbrev pub record_place : Plan → ℕ → ℕ → ℕ
record_place k task call = LOCK_WORDS + (recs_at k + (start k task + call))

-- the words of a new table
abbrev pub fresh : Plan → List ℕ
fresh k = replicate (LOCK_WORDS + calls_at k) 0 ++ call_words k
