-- What an object leaves, in words.
use Rattle.std.specs.Prelude.{ℕ, List, []}

-- three lists of words, and how many words each has room for
pub record Words : Type 0 where
  pub recs : List ℕ
  pub log : List ℕ
  pub state : List ℕ
  pub recs_room : ℕ
  pub log_room : ℕ
  pub state_room : ℕ

abbrev pub no_words : ℕ → ℕ → ℕ → Words
no_words recs log state = record { recs = []; log = []; state = []; recs_room = recs; log_room = log; state_room = state }
