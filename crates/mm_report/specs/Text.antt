-- The text of a script's histories and of the states that they leave.
use Rattle.std.specs.Prelude.{ℕ, ◌+◌, ◌-◌, ◌==◌, zero, suc, Bool, true, false, List, [], ◌∷◌, ◌++◌, length, flat_map, if◌then◌else◌, Option, Some, None, codes, decimal}
use Rattle.std.specs.List.{range_with_len}
use Rattle.word_bits.specs.declared.reply.Errno.TheVariants.{Fault}
use Rattle.word_bits.specs.Histories.{Event, history, state_after}
use Rattle.word_bits.specs.PageMaps.{PageMap, runs}
use Rattle.word_bits.specs.Objects.{Obj}
use Rattle.vma_map.specs.Spaces.{space}
use Rattle.fd_table.specs.Tables.{FdMap, table, used_from}
use Rattle.task_script.specs.Scripts.{Listing, plan_of, is_on}
use Rattle.task_script.specs.Texts.{call_text, prot_text}
use Rattle.mm_report.specs.Results.{Told}
use Rattle.mm_report.specs.Types.{Area, CallWords, Errno, BadF, NoMem, Exist, Inval, MFile, Reply, Good, Num, Refused, MapErr, AccErr, Busy, Intr, Sent, Line}

-- an error's name
abbrev pub errno_text : Errno → List ℕ
errno_text BadF = codes "EBADF"
errno_text NoMem = codes "ENOMEM"
errno_text Exist = codes "EEXIST"
errno_text Inval = codes "EINVAL"
errno_text MFile = codes "EMFILE"
errno_text Fault = codes "EFAULT"

-- a reply, in its word or its number
abbrev pub reply_text : Reply → List ℕ
reply_text Good = codes "ok"
reply_text (Num n) = decimal n
reply_text (Refused e) = errno_text e
reply_text MapErr = codes "maperr"
reply_text AccErr = codes "accerr"
reply_text (Busy word) = codes "busy " ++ decimal word
reply_text Intr = codes "EINTR"
reply_text Sent = codes "sent"

-- the number, among all calls of the task, of the call with this number on the object
abbrev pub number_of : ℕ → List Line → ℕ → ℕ
number_of object [] call = 0
number_of object (l ∷ ls) call =
    if is_on object l then (if call == 0 then 0 else number_of object ls (call - 1) + 1)
    else number_of object ls call + 1

-- the calls of the task
abbrev pub task_lines : List (List Line) → ℕ → List Line
task_lines [] task = []
task_lines (ls ∷ lss) zero = ls
task_lines (ls ∷ lss) (suc task) = task_lines lss task

-- TASK.NUMBER CALL = REPLY
abbrev pub event_line : (task number : ℕ) → CallWords → Reply → List ℕ
event_line task number w reply = decimal task ++ codes "." ++ decimal number ++ codes " " ++ call_text w ++ codes " = " ++ reply_text reply ++ codes "\n"

-- the same of an event, among these calls of its task
abbrev pub task_event_text : ℕ → List Line → Event → List ℕ
task_event_text object lines v = event_line v.entry.task (number_of object lines v.entry.call) v.words v.told.reply

-- the same among all calls of the script
abbrev pub event_text : Listing → ℕ → Event → List ℕ
event_text s object v = task_event_text object (task_lines s.tasks v.entry.task) v

-- START-END PROT
abbrev pub area_text : Area → List ℕ
area_text a = decimal a.start ++ codes "-" ++ decimal a.end ++ codes " " ++ prot_text a.prot ++ codes "\n"

-- how many areas or open descriptors are left
abbrev pub left_text : ℕ → List ℕ
left_text count = codes "left " ++ decimal count ++ codes "\n"

-- the state that a space is left in
abbrev pub space_text : PageMap → List ℕ
space_text m = left_text (length (runs m)) ++ flat_map area_text (runs m)

-- FD FILE, where the descriptor is open
abbrev pub descriptor_text : ℕ → Option ℕ → List ℕ
descriptor_text fd None = []
descriptor_text fd (Some file) = decimal fd ++ codes " " ++ decimal file ++ codes "\n"

-- the lines of the open ones among so many descriptors from one on
unfoldable pub descriptors_text : FdMap → (fd count : ℕ) → List ℕ
descriptors_text m fd count = flat_map (λ k. descriptor_text k (m k)) (range_with_len fd count)

-- the state that a table is left in
abbrev pub table_text : FdMap → List ℕ
table_text m = left_text (used_from m 0 64) ++ descriptors_text m 0 64

-- an object's calls in the order of its history, each with its reply
abbrev pub calls_text : {Call : Type 0} → Obj Call → Listing → ℕ → Told → List ℕ
calls_text o s object t = flat_map (event_text s object) (history o (plan_of s object) t.records t.log)

-- the calls on an object, and the state that they leave
abbrev pub told_text : Listing → ℕ → (is_space : Bool) → Told → List ℕ
told_text s object true t = calls_text space s object t ++ space_text (state_after space (plan_of s object) t.log)
told_text s object false t = calls_text table s object t ++ table_text (state_after table (plan_of s object) t.log)
