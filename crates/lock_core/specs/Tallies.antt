-- What a pass counts of its calls that wait.
use Rattle.std.specs.Prelude.{ℕ, ◌+◌, ◌-◌, ◌^◌, min, Bool, true, false, Result, Ok, Err, if◌then◌else◌}
use Rattle.lock_core.specs.Types.{How, Fast, Spun, Slept, Interrupted, Tally}

-- that of a new pass
abbrev pub no_tally : Tally
no_tally = record { queued = 0; left = 0; interrupted = 0 }

-- the count after one more, where there is one: it stays at the last value of a u64
abbrev pub raised : (one : Bool) → ℕ → ℕ
raised one n = if one then n + min 1 (2 ^ 64 - 1 - n) else n

-- a call with this answer stood in the list of waiters
abbrev pub stood_in_list : Result How Interrupted → Bool
stood_in_list (Ok Fast) = false
stood_in_list (Ok Spun) = false
stood_in_list (Ok Slept) = true
stood_in_list (Err why) = true

-- a signal interrupted it
abbrev pub was_interrupted : Result How Interrupted → Bool
was_interrupted (Ok how) = false
was_interrupted (Err why) = true

-- the tally after a call with this answer, beside its turns in the spin queue
abbrev pub answered : Result How Interrupted → Tally → Tally
answered answer t = record { queued = raised (stood_in_list answer) t.queued; left = t.left; interrupted = raised (was_interrupted answer) t.interrupted }

-- the tally after a turn in the spin queue that didn't come
abbrev pub left : Tally → Tally
left t = record { queued = t.queued; left = raised true t.left; interrupted = t.interrupted }
