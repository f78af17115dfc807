-- The summary of an object's history: its numbers in one line.
use Rattle.std.specs.Prelude.{ℕ, Bool, true, false, List, ◌++◌, length, sum_by, count_by, codes, decimal}
use Rattle.word_bits.specs.Histories.{Plan, Records, state_after}
use Rattle.word_bits.specs.PageMaps.{runs}
use Rattle.vma_map.specs.Spaces.{space}
use Rattle.fd_table.specs.Tables.{table, used_from}
use Rattle.mm_report.specs.declared.summary.Counts.{Counts}
use Rattle.mm_report.specs.Results.{Told}
use Rattle.mm_report.specs.Types.{Entry, Rec, Reply, Refused, MapErr, AccErr}

-- an error, or an access that isn't admitted; a call that was kept off its object isn't refused
abbrev pub is_refusal : Reply → Bool
is_refusal (Refused e) = true
is_refusal MapErr = true
is_refusal AccErr = true
is_refusal reply = false

abbrev pub is_refused : Rec → Bool
is_refused r = is_refusal r.reply

abbrev pub refusals : Records → ℕ
refusals records = sum_by (count_by is_refused) records

-- how many areas or open descriptors a log leaves
abbrev pub left_after : (is_space : Bool) → Plan → List Entry → ℕ
left_after true plan log = length (runs (state_after space plan log))
left_after false plan log = used_from (state_after table plan log) 0 64

abbrev pub counts_of : (is_space : Bool) → Plan → Told → Counts
counts_of is_space plan t = record {
  calls = sum_by length t.records;
  logged = length t.log;
  refused = refusals t.records;
  left = left_after is_space plan t.log;
}

-- NAME: C calls, L logged, R refused, N left
abbrev pub counts_text : (name : List ℕ) → Counts → List ℕ
counts_text name c = name ++ codes ": " ++ decimal c.calls ++ codes " calls, " ++ decimal c.logged ++ codes " logged, " ++ decimal c.refused ++ codes " refused, " ++ decimal c.left ++ codes " left\n"
