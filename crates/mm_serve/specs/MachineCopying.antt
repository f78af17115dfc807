-- Objects whose histories are copied one after the other.
use Rattle.std.specs.Prelude.{◌≡◌, ℕ, Bool, List, length, map, slice_get, slice_index_or, Option, Some}
use Rattle.word_bits.specs.EntryWord.{entry_word}
use Rattle.word_bits.specs.Snapshots.{Words, no_words}
use Rattle.word_bits.specs.Histories.{Plan}
use Rattle.lock_core.specs.declared.view.Told.{Told as Known}
use Rattle.lock_core.specs.Pasts.{GoesOn}
use Rattle.lock_core.specs.Plans.{calls_in}
use Rattle.guarded.specs.ObjectCopying.{HeldAlone}
use Rattle.mm_report.specs.Results.{words_of_kind}
use Rattle.mm_serve.specs.MachineHistories.{IsKnownHistoryOn}
use Rattle.mm_serve.specs.Types.{Entry, Hand, Moment}
use Rattle.mm_serve.specs.Workers.{KnowsAllDone}

-- the words of the log and of the state are those with which a pass held alone without writing, and knew these records, as one of its steps left it in the run up to now
pub record WasHeldWith (w : Words) (records : List Known) (past : List Moment) : Type 0 where
  pub entries : List Entry
  pub log_is : w.log ≡ map entry_word entries
  pub task : Option ℕ
  pub takes : ℕ
  pub until : List Moment
  pub held : HeldAlone task takes records entries w.state until
  pub goes_on : GoesOn until past

-- a snapshot without words, with room for those of an object of this kind whose calls are these
abbrev pub blank : (is_space : Bool) → Plan → Words
blank is_space k = no_words (calls_in k) (calls_in k) (words_of_kind is_space)

-- there is a blank snapshot of each object
abbrev pub AreBlank : {S : Type 0} → (S → Bool) → (S → Plan) → List S → List Words → Type 0
AreBlank {S} is_space calls_on sites words = (length words ≡ length sites) × ((k : ℕ) (s : S) (w : Words) → slice_get sites k ≡ Some s → slice_index_or words k w ≡ blank (is_space s) (calls_on s))

module _ {S P : Type 0} (idle : S → P → Type 0) (hand : P → Hand) (past : P → List Moment) (is_space : S → Bool) (calls_on : S → Plan) where
  -- The words of the object's number are one thread's history, of which the pass knows each record. The log and the state of that history are those of the object's table at a moment that the pass
  -- goes back to. At that moment a pass held alone and knew just the records that this one knows.
  abbrev pub IsCopied : List Words → ℕ → S → P → Type 0
  IsCopied words k s p = idle s p × ((w : Words) → IsKnownHistoryOn (is_space s) (calls_on s) (hand p) (slice_index_or words k w) × WasHeldWith (slice_index_or words k w) (hand p).records (past p))

module _ {S P : Type 0} (idle : S → P → Type 0) (hand : P → Hand) (is_space : S → Bool) (calls_on : S → Plan) where
  -- all calls are done, and the snapshot of the object's number is blank
  abbrev pub IsToCopy : List Words → ℕ → S → P → Type 0
  IsToCopy words k s p = idle s p × KnowsAllDone hand is_space calls_on s p × ((w : Words) → slice_index_or words k w ≡ blank (is_space s) (calls_on s))

-- the pass of each object knows the past of the object's table
abbrev pub KnowPasts : {S P : Type 0} → (S → P → Type 0) → List S → List P → Type 0
KnowPasts {S} {P} knows_past sites passes = (k : ℕ) (s : S) (p : P) → slice_get sites k ≡ Some s → slice_get passes k ≡ Some p → knows_past s p
