-- What is told of a word.
use Rattle.std.specs.Prelude.{◌≡◌, ℕ, ◌-◌, ◌^◌, ◌<◌, List, ◌++◌, Option, Some, None, IfSome, Result, Ok, Err, codes, Bool}
use Rattle.word_bits.specs.declared.TheConstants.{MAX_TASKS}
use Rattle.word_bits.specs.declared.owner.Owner.{Owner}
use Rattle.word_bits.specs.declared.count.Count.{Count}
use Rattle.word_bits.specs.declared.spin.Spin.{Spin}
use Rattle.word_bits.specs.OwnerWord.{bit, owner_word, task_code}
use Rattle.word_bits.specs.CountWord.{count_word}
use Rattle.word_bits.specs.SpinWord.{IsSpin, spin_word}
use Rattle.lock_decode.specs.declared.why.Why.{Why}
use Rattle.lock_decode.specs.declared.linux.LinuxOwner.{LinuxOwner}
use Rattle.lock_decode.specs.Decodes.{Decodes}
use Rattle.lock_decode.specs.Here.{CodeFault, CountFault, IsLockSpin, IsMutexOwner, IsSemaphoreCount, IsTask, OwnerFault, SpinFault}
use Rattle.lock_decode.specs.Linux.{Anything, BlockFault, IsLinuxCount, IsLinuxOwner, IsNarrowSpin, LinuxCountFault, LinuxOwnerFault, NarrowSpinFault, WideSpinFault, linux_owner_word}
use Rattle.lock_decode.specs.Linux.{narrow_spin_word}
use Rattle.lock_words.specs.declared.kinds.Kind.{Kind}
use Rattle.lock_words.specs.declared.kinds.Kind.TheVariants.{Mutex, Semaphore, Spin as SpinKind, WideSpin, Queue, Percpu}
use Rattle.lock_words.specs.declared.texts.Who.{Who}
use Rattle.lock_words.specs.declared.texts.Who.TheVariants.{Nobody, Task, Address}
use Rattle.lock_words.specs.declared.texts.OwnerView.{OwnerView}
use Rattle.lock_words.specs.Kinds.{kind_text}
use Rattle.lock_words.specs.Numbers.{word_text}
use Rattle.lock_words.specs.Texts.{block_text, blocker_text, count_fields, count_says, owner_fields, owner_says, queue_text, spin_fields, spin_says}
use Rattle.lock_words.specs.WhyTexts.{why_text}

abbrev pub who_of : Option ℕ → Who
who_of None = Nobody
who_of (Some task) = Task task

abbrev pub at_address : Option ℕ → Who
at_address None = Nobody
at_address (Some address) = Address address

abbrev pub owner_view : Owner → OwnerView
owner_view o = record { who = who_of o.task; waiters = o.waiters; handoff = o.handoff; pickup = o.pickup }

abbrev pub linux_view : LinuxOwner → OwnerView
linux_view o = record { who = at_address o.task; waiters = o.waiters; handoff = o.handoff; pickup = o.pickup }

-- the fields, and what they say; or why no lock can have the word

abbrev pub owner_text : Result OwnerView Why → List ℕ
owner_text (Ok o) = codes "  " ++ owner_fields o ++ codes "\n" ++ owner_says o
owner_text (Err why) = why_text why

abbrev pub count_text : Result Count Why → List ℕ
count_text (Ok c) = codes "  " ++ count_fields c ++ codes "\n" ++ count_says c
count_text (Err why) = why_text why

abbrev pub spin_text : Result Spin Why → List ℕ
spin_text (Ok s) = codes "  " ++ spin_fields s ++ codes "\n" ++ spin_says s
spin_text (Err why) = why_text why

abbrev pub tail_told : Result (Option ℕ) Why → List ℕ
tail_told (Ok cpu) = queue_text cpu
tail_told (Err why) = why_text why

abbrev pub blocker_told : Result (Option ℕ) Why → List ℕ
blocker_told (Ok task) = blocker_text task
blocker_told (Err why) = why_text why

abbrev pub block_told : Result Bool Why → List ℕ
block_told (Ok blocked) = block_text blocked
block_told (Err why) = why_text why

abbrev pub viewed : {V : Type 0} → (V → OwnerView) → Result V Why → Result OwnerView Why
viewed view (Ok o) = Ok (view o)
viewed view (Err why) = Err why

-- a text is added that tells what the word decodes to: the one value that a lock can have, or a reason where there is none
abbrev pub Tells : {V : Type 0} → (Can : V → Type 0) → (V → ℕ) → (Why → ℕ → Type 0) → (Result V Why → List ℕ) → ℕ → (old new : List ℕ) → Type 0
Tells {V} Can word_of Says text word old new = (r : Result V Why) × Decodes Can word_of Says word r × (new ≡ old ++ text r)

-- KIND WORD 0xWORD
abbrev pub heading : Kind → ℕ → List ℕ
heading kind word = kind_text kind ++ codes " " ++ word_text word ++ codes "\n"

abbrev pub TellsHere : Kind → ℕ → (old new : List ℕ) → Type 0
TellsHere Mutex = Tells IsMutexOwner owner_word OwnerFault (λ r. owner_text (viewed owner_view r))
TellsHere Semaphore = Tells IsSemaphoreCount count_word CountFault count_text
TellsHere SpinKind = Tells IsLockSpin spin_word SpinFault spin_text
TellsHere WideSpin = Tells IsLockSpin spin_word SpinFault spin_text
TellsHere Queue = Tells IsTask task_code (CodeFault MAX_TASKS) tail_told
TellsHere Percpu = Tells IsTask task_code (CodeFault MAX_TASKS) blocker_told

abbrev pub IsLinuxCpu : Option ℕ → Type 0
IsLinuxCpu cpu = IfSome cpu (λ n. n < 2 ^ 31 - 1)

abbrev pub TellsLinux : Kind → ℕ → (old new : List ℕ) → Type 0
TellsLinux Mutex = Tells IsLinuxOwner linux_owner_word LinuxOwnerFault (λ r. owner_text (viewed linux_view r))
TellsLinux Semaphore = Tells IsLinuxCount count_word LinuxCountFault count_text
TellsLinux SpinKind = Tells IsNarrowSpin narrow_spin_word NarrowSpinFault spin_text
TellsLinux WideSpin = Tells IsSpin spin_word WideSpinFault spin_text
TellsLinux Queue = Tells IsLinuxCpu task_code (CodeFault (2 ^ 31 - 1)) tail_told
TellsLinux Percpu = Tells Anything bit BlockFault block_told
