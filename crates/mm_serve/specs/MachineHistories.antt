-- What is known of an object of either kind: a space stands under a count, a table under an owner word.
use Rattle.std.specs.Prelude.{ℕ, ◌<◌, Bool, true, false, length}
use Rattle.word_bits.specs.LockWords.{counted, owned}
use Rattle.word_bits.specs.Snapshots.{Words}
use Rattle.word_bits.specs.Histories.{Plan}
use Rattle.vma_map.specs.Spaces.{space}
use Rattle.fd_table.specs.Tables.{table}
use Rattle.mm_serve.specs.Types.{Hand}
use Rattle.lock_core.specs.Records.{IsPlan}
use Rattle.guarded.specs.ObjectCopying.{IsKnownHistory}
use Rattle.guarded.specs.Gathering.{HasDoneAll}

-- the calls are calls of such an object, or signals
abbrev pub IsPlanOn : (is_space : Bool) → Plan → Type 0
IsPlanOn true k = IsPlan space k
IsPlanOn false k = IsPlan table k

-- the task has done all its calls on it, and the pass knows their records
abbrev pub HasDoneOn : (is_space : Bool) → Plan → Hand → (task : ℕ) → Type 0
HasDoneOn true k h t = HasDoneAll space counted k h t
HasDoneOn false k h t = HasDoneAll table owned k h t

-- all tasks have
abbrev pub AllHaveDone : (is_space : Bool) → Plan → Hand → Type 0
AllHaveDone is_space k h = (t : ℕ) → t < length k → HasDoneOn is_space k h t

-- the words are those of one thread's history, and the pass knows each record in it
abbrev pub IsKnownHistoryOn : (is_space : Bool) → Plan → Hand → Words → Type 0
IsKnownHistoryOn true k h w = IsKnownHistory space counted k h w
IsKnownHistoryOn false k h w = IsKnownHistory table owned k h w
