-- What `snapshot` copies.
use Rattle.std.specs.Prelude.{◌≡◌, ◌≢◌, ℕ, ◌+◌, ◌<◌, List, [], ◌∷◌, ◌++◌, length, map, slice_get, false, Option, Some}
use Rattle.word_bits.specs.EntryWord.{entry_word}
use Rattle.word_bits.specs.RecWord.{IsRec, rec_word}
use Rattle.word_bits.specs.LockWords.{Unavailable}
use Rattle.word_bits.specs.Objects.{Obj}
use Rattle.word_bits.specs.Snapshots.{Words}
use Rattle.word_bits.specs.Histories.{Plan, Records, state_after}
use Rattle.word_bits.specs.Legal.{IsLegal, Tells}
use Rattle.lock_core.specs.Layout.{record_place}
use Rattle.lock_core.specs.Records.{row}
use Rattle.lock_core.specs.Views.{Knows}
use Rattle.lock_core.specs.Pasts.{FoundAt, GoesOn, IsStepBy}
use Rattle.lock_core.specs.Chronicles.{Chronicles}
use Rattle.lock_core.specs.Shown.{Shown}
use Rattle.lock_core.specs.Locking.{Begins}
use Rattle.guarded.specs.Gathering.{IsGathered}
use Rattle.guarded.specs.Types.{Entry, Rec, Hand, Alone, Moment, Told}

abbrev pub joined : List (List ℕ) → List ℕ
joined [] = []
joined (xs ∷ xss) = xs ++ joined xss

-- at a step between the two pasts the word at this place had this number
pub record FoundBetween (at n : ℕ) (old new : List Moment) : Type 0 where
  pub past : List Moment
  pub found : FoundAt at n past
  pub after : GoesOn old past
  pub goes_on : GoesOn past new

-- the last of these moments is that of a step of the pass which has the task's number: it left the pass holding alone without writing, by as many takes, with these records, this log and these guarded
-- words
pub record HeldAlone (task : Option ℕ) (takes : ℕ) (records : List Told) (log : List Entry) (known : List ℕ) (past : List Moment) : Type 0 where
  pub step : ℕ
  pub by : IsStepBy task step past
  pub alone : by.hand.held ≡ Alone
  pub quiet : by.hand.writes ≡ false
  pub takes_is : by.hand.takes ≡ takes
  pub records_are : by.hand.records ≡ records
  pub log_is : by.hand.log ≡ log
  pub known_is : by.hand.known ≡ known

-- a word for each call of a task: that of each record that the pass knows, and no other word than a record's or 0; each stood in the table as the call's, at a step between the two pasts
pub record AreTaskWords (k : Plan) (h : Hand) (old new : List Moment) (t count : ℕ) (words : List ℕ) : Type 0 where
  pub many : length words ≡ count
  pub known : (c : ℕ) (r : Rec) → c < count → Knows h (record { task = t; call = c }) r → slice_get words c ≡ Some (rec_word r)
  pub made : (c word : ℕ) → slice_get words c ≡ Some word → word ≢ 0 → (r : Rec) × IsRec r × (word ≡ rec_word r)
  pub found : (c word : ℕ) → slice_get words c ≡ Some word → FoundBetween (record_place k t c) word old new

-- the same for so many tasks
pub record AreRecWords (k : Plan) (h : Hand) (old new : List Moment) (count : ℕ) (rows : List (List ℕ)) : Type 0 where
  pub many : length rows ≡ count
  pub each : (t : ℕ) → t < count → AreTaskWords k h old new t (length (row k t)) (row rows t)

-- so many words came behind those of the records: a word for each call of the task, found since
abbrev pub AddsTaskWords : Plan → Shown → Shown → ℕ → Words → Words → Type 0
AddsTaskWords k v u t w w' = (words : List ℕ) × AreTaskWords k v.hand v.past u.past t (length (row k t)) words × (w' ≡ record w { recs = w.recs ++ words })

-- the words of the records are there: a word for each call of the plan, found since
abbrev pub AddsRecWords : Plan → Shown → Shown → Words → Words → Type 0
AddsRecWords k v u w w' = (rows : List (List ℕ)) × AreRecWords k v.hand v.past u.past (length k) rows × (w' ≡ record w { recs = joined rows })

-- what the rule of a site says of all records is so with those that the pass knows, and with its log
abbrev pub KnowsChronicle : {Call : Type 0} → Obj Call → Unavailable → Plan → Hand → Type 0
KnowsChronicle o unavailable k h = Chronicles o unavailable k h.records h.log

-- The words are a log that begins with what the pass had seen, the state after it, and a word for each call: that of its record, if the pass knows it. They were copied under one hold: the pass held
-- alone, by its one take since, with the records that it knew, this log and this state, at two of its steps, and each record's word was found between them.
pub record Copies {Call : Type 0} (o : Obj Call) (unavailable : Unavailable) (k : Plan) (v u : Shown) (w : Words) : Type 0 where
  pub entries : List Entry
  pub rows : List (List ℕ)
  pub begins : Begins v.hand entries
  pub log_is : w.log ≡ map entry_word entries
  pub state_is : w.state ≡ o.stores (state_after o k entries)
  pub recs_are : w.recs ≡ joined rows
  pub first : List Moment
  pub last : List Moment
  pub after : GoesOn v.past first
  pub between : GoesOn first last
  pub goes_on : GoesOn last u.past
  pub once : u.hand.takes ≡ v.hand.takes + 1
  pub begun : HeldAlone v.hand.task (v.hand.takes + 1) v.hand.records entries w.state first
  pub ended : HeldAlone v.hand.task (v.hand.takes + 1) v.hand.records entries w.state last
  pub words : AreRecWords k v.hand first last (length k) rows
  pub chronicle : Chronicles o unavailable k v.hand.records entries

-- the words are those of records and of a log that are one thread's history, with each call once, and of the state that it leaves
abbrev pub IsHistory : {Call : Type 0} → Obj Call → Unavailable → Plan → Words → Type 0
IsHistory o unavailable k w = (told : Records) × (entries : List Entry) × Tells w told entries × IsLegal o unavailable k told entries w.state

-- each record that is told is one that the pass knows
abbrev pub AreKnown : Hand → Records → Type 0
AreKnown h told = (t c : ℕ) (r : Rec) → slice_get (row told t) c ≡ Some r → Knows h (record { task = t; call = c }) r

-- beside that, the pass knows each record in this history
abbrev pub IsKnownHistory : {Call : Type 0} → Obj Call → Unavailable → Plan → Hand → Words → Type 0
IsKnownHistory o unavailable k h w = (told : Records) × (entries : List Entry) × Tells w told entries × IsLegal o unavailable k told entries w.state × AreKnown h told

-- they are, if the pass knows the records that all tasks made
abbrev pub GatheredIsHistory : {Call : Type 0} → Obj Call → Unavailable → Plan → Hand → Words → Type 0
GatheredIsHistory o unavailable k h w = IsGathered o unavailable k h → IsKnownHistory o unavailable k h w
